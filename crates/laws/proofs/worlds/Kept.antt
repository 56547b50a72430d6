-- What a domain maps or has in records was put there by a map: since the map the page was not taken away, if it is live, and
-- the domain wasn't ended.
use Rattle.std.proofs.Common.{◌≡◌, ◌⊎◌, ℕ, ◌+◌, ◌<◌, ◌≤◌, inl, inr, Bool, true, false, List, [], ◌∷◌, ◌++◌, Option, Some, None, refl, sym}
use Rattle.std.proofs.Common.{ap, subst, ◌∙◌, arith}
use Rattle.std.specs.Prelude.{if◌then◌else◌, not}
use Rattle.std.proofs.lemmas.Option.{same_Some}
use Rattle.dmatypes.specs.declared.call.Call.{Call}
use Rattle.dmatypes.specs.declared.call.Call.TheVariants as calls
use Rattle.dmatypes.specs.declared.call.Mode.{Mode}
use Rattle.dmatypes.specs.declared.call.Mode.TheVariants as modes
use Rattle.dmatypes.specs.declared.call.Segment.{Segment}
use Rattle.dmatypes.specs.declared.reply.Event.{Event}
use Rattle.dmatypes.specs.declared.reply.Reply.TheVariants.{Unmapped}
use Rattle.dmatypes.specs.Page.{Range, IsWithin, page_of, range_at}
use Rattle.dmatypes.specs.World.{Target, Retired, Domain, World, IsIn, IsRetired, begun_once_more, empty_domain, flushed, is_before}
use Rattle.dmatypes.specs.World.{is_full}
use Rattle.dmatypes.specs.World.{mapped, placed, reaped, record_of, restricted, unmapped_by, with_room, without}
use Rattle.dmatypes.specs.Step.{IsStep, next}
use Rattle.dmatypes.specs.History.{event}
use Rattle.dmatypes.proofs.lists.Filtered.{in_filter}
use Rattle.dmatypes.proofs.numbers.Ranges.{within_is, within_not, within_or_not}
use Rattle.laws.specs.Events.{Drops, Lasts, MapsAll, MapsTo, EndsPage, Unmaps}
use Rattle.laws.proofs.lists.Courses.{lasts_less, lasts_now, lasts_still}
use Rattle.laws.proofs.lists.Kinds.{Kind, kind}
use Rattle.laws.proofs.lists.Options.{either_of, in_either}
use Rattle.laws.proofs.worlds.Live.{unmapped_live, without_here, without_else}
use Rattle.laws.proofs.worlds.Placed.{member_of}
use Rattle.laws.proofs.worlds.Turns.{Turn, named_by, turn}

abbrev pub WasPut : ℕ → ℕ → Target → Event → Type 0
WasPut d p t e = MapsTo d p t.frame t.rights e

pub record IsExplained (d p : ℕ) (es : List Event) (o : Option Domain) : Type 0 where
  pub live : (v : Domain) (t : Target) → o ≡ Some v → v.live p ≡ Some t → Lasts (WasPut d p t) (EndsPage d p) es
  pub retired : (v : Domain) (t : Target) → o ≡ Some v → IsRetired v p t → Lasts (WasPut d p t) (Drops d) es

-- ---- which events take a page away

takes_named : (d p : ℕ) (e : Event) → EndsPage d p e → named_by e ≡ Some d
takes_named d p e (inl unmaps) = ap named_by unmaps.3
takes_named d p e (inr drops) = ap named_by drops

takes_kind : (d p : ℕ) (e : Event) → EndsPage d p e → (kind e ≡ Kind.unmaps) ⊎ (kind e ≡ Kind.drops)
takes_kind d p e (inl unmaps) = inl (ap kind unmaps.3)
takes_kind d p e (inr drops) = inr (ap kind drops)

-- an event of another kind doesn't
not_taken : (d p : ℕ) (e : Event) (n : Kind) → kind e ≡ n → (n ≡ Kind.unmaps → ⊥) → (n ≡ Kind.drops → ⊥) → EndsPage d p e → ⊥
not_taken d p e n is unmap drop takes =
    elim (takes_kind d p e takes) [ inl at ↦ unmap (sym is ∙ at) | inr at ↦ drop (sym is ∙ at) ]

pub maps_kind : (d : ℕ) (ss : List Segment) (rights address : ℕ) (e : Event) → MapsAll d ss rights address e
    → (kind e ≡ Kind.maps) ⊎ (kind e ≡ Kind.maps_list)
maps_kind d ss rights address e (inl one) = inl (ap kind one.4)
maps_kind d ss rights address e (inr list) = inr (ap kind list.3)

not_taken_by_map : (d p : ℕ) (e : Event) (ss : List Segment) (rights address : ℕ) → MapsAll d ss rights address e → EndsPage d p e → ⊥
not_taken_by_map d p e ss rights address of = elim (maps_kind d ss rights address e of) [
  | inl at ↦ not_taken d p e Kind.maps at (λ x. cc) (λ x. cc)
  | inr at ↦ not_taken d p e Kind.maps_list at (λ x. cc) (λ x. cc)
]

-- ---- what stays

-- a domain that has no page live and none in a record that it hadn't before, at an event that doesn't take the page away
kept_less : (d p : ℕ) (es : List Event) (e : Event) (o : Option Domain) (v : Domain) (new : Option Domain) (u : Domain)
    → IsExplained d p es o → o ≡ Some v → new ≡ Some u → (EndsPage d p e → ⊥)
    → ((t : Target) → u.live p ≡ Some t → v.live p ≡ Some t) → ((t : Target) → IsRetired u p t → IsRetired v p t)
    → IsExplained d p (es ++ e ∷ []) new
kept_less d p es e o v new u old there is keeps lives retires = record {
  live = λ x t at live.
      let same : u ≡ x = same_Some u x (sym is ∙ at) in
      lasts_still (WasPut d p t) (EndsPage d p) es e keeps
      (old.live v t there (lives t (ap (λ (y : Domain). y.live p) same ∙ live)));
  retired = λ x t at retired.
      let same : u ≡ x = same_Some u x (sym is ∙ at) in
      lasts_still (WasPut d p t) (Drops d) es e (λ drops. keeps (inr drops))
      (old.retired v t there (retires t (subst (λ (y : Domain). IsRetired y p t) (sym same) retired)));
}

-- ---- maps

kept_mapped : (d p : ℕ) (es : List Event) (e : Event) (o : Option Domain) (v : Domain) (ss : List Segment) (rights address : ℕ)
    → IsExplained d p es o → o ≡ Some v → MapsAll d ss rights address e
    → IsExplained d p (es ++ e ∷ []) (Some (mapped ss (page_of address) rights v))
kept_mapped d p es e o v ss rights address old there of = record {
  live = λ x t at live.
      let same : mapped ss (page_of address) rights v ≡ x = same_Some _ x at in
      elim (either_of (placed ss (page_of address) rights p) (v.live p) t (ap (λ (y : Domain). y.live p) same ∙ live)) [
        | inl now ↦
            let m = member_of ss (page_of address) rights p t now in
            lasts_now (WasPut d p t) (EndsPage d p) es e
            (ss, address, m.number, subst (λ (r : ℕ). MapsAll d ss r address e) (sym m.right) of, m.is, m.has)
        | inr before ↦
            lasts_still (WasPut d p t) (EndsPage d p) es e (not_taken_by_map d p e ss rights address of) (old.live v t there before.1)
      ];
  retired = λ x t at retired.
      let same : mapped ss (page_of address) rights v ≡ x = same_Some _ x at in
      lasts_still (WasPut d p t) (Drops d) es e (λ drops. not_taken_by_map d p e ss rights address of (inr drops))
      (old.retired v t there (subst (λ (y : Domain). IsRetired y p t) (sym same) retired));
}

-- ---- unmaps

pub room_retired : (v : Domain) (b : Bool) (r : Retired) → IsIn r (if b then flushed v else v).retired → IsIn r v.retired
room_retired v true r i = absurd i
room_retired v false r i = i

pub room_live : (v : Domain) (b : Bool) → (if b then flushed v else v).live ≡ v.live
room_live v true = refl
room_live v false = refl

pub restricted_live : (range : Range) (map : ℕ → Option Target) (p : ℕ) (t : Target) → restricted range map p ≡ Some t → map p ≡ Some t
restricted_live range map p t e = elim (within_or_not range p) [
  | inl here ↦ sym (rw (within_is range p here) refl) ∙ e
  | inr past ↦ absurd (let none : None ≡ Some t = sym (rw (within_not range p past) refl) ∙ e in cc)
]

-- what is in a record after an unmap was in one before, or live
unmapped_retired : (mode : Mode) (range : Range) (v : Domain) (p : ℕ) (t : Target) → IsRetired (unmapped_by mode range v) p t
    → IsRetired v p t ⊎ (v.live p ≡ Some t)
unmapped_retired modes.Strict range v p t h = inl h
unmapped_retired modes.Lazy range v p t h =
    elim (in_either h.0 (record_of range (with_room v)) (with_room v).retired h.1) [
      | inl old ↦ inl (h.0, room_retired v (is_full v) h.0 old, h.2, h.3)
      | inr last ↦
          let was : (with_room v).live p ≡ Some t =
          restricted_live range (with_room v).live p t (ap (λ (r : Retired). r.targets p) (sym last) ∙ h.3) in
          inr (ap (λ (live : ℕ → Option Target). live p) (sym (room_live v (is_full v))) ∙ was)
    ]

kept_unmapped : (d p : ℕ) (es : List Event) (e : Event) (o : Option Domain) (v : Domain) (mode : Mode) (range : Range)
    → IsExplained d p es o → o ≡ Some v → (Drops d e → ⊥) → (Unmaps d p e → IsWithin range p)
    → IsExplained d p (es ++ e ∷ []) (Some (unmapped_by mode range v))
kept_unmapped d p es e o v mode range old there stays within = record {
  live = λ x t at live.
      let same : unmapped_by mode range v ≡ x = same_Some _ x at in
      let left : without range v.live p ≡ Some t =
      sym (unmapped_live mode range v p) ∙ ap (λ (y : Domain). y.live p) same ∙ live in
      elim (within_or_not range p) [
        | inl here ↦ absurd (let both : None ≡ Some t = sym (without_here range v.live p here) ∙ left in cc)
        | inr past ↦
            lasts_still (WasPut d p t) (EndsPage d p) es e (still past)
            (old.live v t there (sym (without_else range v.live p past) ∙ left))
      ];
  retired = λ x t at retired.
      let same : unmapped_by mode range v ≡ x = same_Some _ x at in
      lasts_still (WasPut d p t) (Drops d) es e stays
      (elim (unmapped_retired mode range v p t (subst (λ (y : Domain). IsRetired y p t) (sym same) retired)) [
        | inl before ↦ old.retired v t there before
        | inr live ↦ lasts_less (WasPut d p t) (EndsPage d p) (Drops d) (λ x drops. inr drops) es (old.live v t there live)
      ]);
}
  where
    still : ((p < range.first) ⊎ (range.first + range.pages ≤ p)) → EndsPage d p e → ⊥
    still past (inr drops) = stays drops
    still (inl below) (inl unmaps) = omega (arith, below, (within unmaps).0)
    still (inr behind) (inl unmaps) = omega (arith, behind, (within unmaps).1)

-- ---- along a history

range_in : Event → Range
range_in e = range_of e.call
  where
    range_of : Call → Range
    range_of (calls.Unmap domain address pages) = range_at address pages
    range_of call = record { first = 0; pages = 0 }

within_of : (d p address pages released : ℕ) (e : Event) → e ≡ event (calls.Unmap d address pages) (Unmapped released) → Unmaps d p e
    → IsWithin (range_at address pages) p
unfolding range_in
within_of d p address pages released e of u = subst (λ (r : Range). IsWithin r p) (ap range_in (sym u.3 ∙ of)) u.4

kept_turn : (w : World) (d p : ℕ) (es : List Event) (e : Event) (new : Option Domain) → IsExplained d p es (w.domains d) → Turn w d e new
    → IsExplained d p (es ++ e ∷ []) new
kept_turn w d p es e new old (Turn.stays same unnamed) = record {
  live = λ v t at live.
      lasts_still (WasPut d p t) (EndsPage d p) es e (λ takes. unnamed (takes_named d p e takes)) (old.live v t (sym same ∙ at) live);
  retired = λ v t at retired.
      lasts_still (WasPut d p t) (Drops d) es e (λ drops. unnamed (ap named_by drops)) (old.retired v t (sym same ∙ at) retired);
}
kept_turn w d p es e new old (Turn.made mode width none is of) = record {
  live = λ v t at live.
      absurd (let both : None ≡ Some t = ap (λ (y : Domain). y.live p) (same_Some _ v (sym is ∙ at)) ∙ live in cc);
  retired = λ v t at retired.
      absurd (subst (λ (y : Domain). IsRetired y p t) (sym (same_Some (empty_domain mode width) v (sym is ∙ at))) retired).1;
}
kept_turn w d p es e new old (Turn.dropped none of) = record {
  live = λ v t at live. absurd (let both : None ≡ Some v = sym none ∙ at in cc);
  retired = λ v t at retired. absurd (let both : None ≡ Some v = sym none ∙ at in cc);
}
kept_turn w d p es e new old (Turn.maps v ss rights address there free is of) =
    subst (IsExplained d p (es ++ e ∷ [])) (sym is) (kept_mapped d p es e (w.domains d) v ss rights address old there of)
kept_turn w d p es e new old (Turn.unmaps v address pages released there answer is of) =
    subst (IsExplained d p (es ++ e ∷ [])) (sym is)
    (kept_unmapped d p es e (w.domains d) v v.mode (range_at address pages) old there
    (λ drops. let both : Kind.unmaps ≡ Kind.drops = ap kind (sym of ∙ drops) in cc) (within_of d p address pages released e of))
kept_turn w d p es e new old (Turn.flushes v released there is of) =
    kept_less d p es e (w.domains d) v new (flushed v) old there is (not_taken d p e Kind.flushes (ap kind of) (λ x. cc) (λ x. cc))
    (λ t live. live) (λ t retired. absurd retired.1)
kept_turn w d p es e new old (Turn.begins v there is of) =
    kept_less d p es e (w.domains d) v new (begun_once_more v) old there is (not_taken d p e Kind.begins (ap kind of) (λ x. cc) (λ x. cc))
    (λ t live. live) (λ t retired. retired)
kept_turn w d p es e new old (Turn.reaps v number there is of) =
    kept_less d p es e (w.domains d) v new (reaped number v) old there is (not_taken d p e Kind.reaps (ap kind of.1) (λ x. cc) (λ x. cc))
    (λ t live. live)
    (λ t r. (r.0, (in_filter (λ (x : Retired). not (is_before number x)) r.0 v.retired r.1).0, r.2, r.3))

pub kept_step : (d p : ℕ) (es : List Event) (w : World) (e : Event) → IsExplained d p es (w.domains d) → IsStep w e.call e.reply
    → IsExplained d p (es ++ e ∷ []) ((next w e.call e.reply).domains d)
kept_step d p es w e old step = kept_turn w d p es e ((next w e.call e.reply).domains d) old (turn w e.call e.reply d step)

-- where the page is neither live nor in a record
pub kept_none : (d p : ℕ) (es : List Event) (o : Option Domain) → ((v : Domain) (t : Target) → o ≡ Some v → v.live p ≡ Some t → ⊥)
    → ((v : Domain) (t : Target) → o ≡ Some v → IsRetired v p t → ⊥) → IsExplained d p es o
kept_none d p es o live retired = record {
  live = λ v t at is. absurd (live v t at is);
  retired = λ v t at is. absurd (retired v t at is);
}
