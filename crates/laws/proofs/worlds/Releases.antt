-- In the course of events after a lazy unmap its pages are held, or what was unmapped is released and only maps give them.
use Rattle.std.proofs.Common.{◌≡◌, ◌⊎◌, ℕ, ◌<◌, inl, inr, List, [], ◌∷◌, ◌++◌, Option, Some, None, refl, sym, ap, subst, ◌∙◌}
use Rattle.std.proofs.Common.{arith}
use Rattle.std.proofs.lemmas.Bool.{cases_lt}
use Rattle.std.proofs.lemmas.Option.{same_Some}
use Rattle.dmatypes.specs.declared.call.Call.{Call}
use Rattle.dmatypes.specs.declared.call.Call.TheVariants as calls
use Rattle.dmatypes.specs.declared.call.Mode.{Mode}
use Rattle.dmatypes.specs.declared.call.Mode.TheVariants as modes
use Rattle.dmatypes.specs.declared.reply.Event.{Event}
use Rattle.dmatypes.specs.declared.reply.Reply.{Reply}
use Rattle.dmatypes.specs.declared.reply.Reply.TheVariants.{Unmapped}
use Rattle.dmatypes.specs.Page.{Range, IsWithin, page_of, range_at}
use Rattle.dmatypes.specs.World.{Retired, Domain, World, IsIn, IsRetired, begun_once_more, flushed, is_full, mapped, put_off, reaped}
use Rattle.dmatypes.specs.World.{record_of, unmapped_by, with_room}
use Rattle.dmatypes.specs.Conditions.{IsOpen}
use Rattle.dmatypes.specs.Step.{IsStep, next}
use Rattle.dmatypes.specs.History.{event}
use Rattle.laws.specs.Events.{Begins, IsReleased, Occurs, Reaps, ReleasesAll, Unmaps}
use Rattle.laws.proofs.lists.Courses.{occurs_either, occurs_last, occurs_left, turn_either, turn_now, turn_still}
use Rattle.laws.proofs.lists.Kinds.{Kind, kind}
use Rattle.laws.proofs.lists.Options.{in_either, in_last}
use Rattle.laws.proofs.worlds.Apart.{IsApart, was_live}
use Rattle.laws.proofs.worlds.Held.{HasNone, Holds, holds_begun, holds_mapped, holds_reaped, none_flushed, none_reaped, unmapped_held}
use Rattle.laws.proofs.worlds.Kept.{IsExplained, kept_none, kept_step, maps_kind, room_retired}
use Rattle.laws.proofs.worlds.Live.{without_here}
use Rattle.laws.proofs.worlds.Modes.{IsOf}
use Rattle.laws.proofs.worlds.Tickets.{IsBegun, begin_step, opened, reap_open, room_begun}
use Rattle.laws.proofs.worlds.Turns.{Turn, named_by, turn, unmap_step}

pub record IsHeld (d p mark : ℕ) (es : List Event) (w : World) : Type 0 where
  pub domain : Domain
  pub there : w.domains d ≡ Some domain
  pub holds : Holds p mark domain
  pub tickets : (n : ℕ) → IsOpen w d n → mark < n → Occurs (Begins d n) es
  pub later : (n : ℕ) → Occurs (Begins d n) es → mark < n
  pub unreleased : IsReleased d es → ⊥

abbrev pub IsHeldOrReleased : ℕ → ℕ → ℕ → List Event → World → Type 0
IsHeldOrReleased d p mark es w = IsHeld d p mark es w ⊎ (IsReleased d es × IsExplained d p es (w.domains d))

-- ---- one event more

released_more : (d : ℕ) (es : List Event) (e : Event) → IsReleased d es → IsReleased d (es ++ e ∷ [])
released_more d es e (inl all) = inl (occurs_left (ReleasesAll d) es (e ∷ []) all)
released_more d es e (inr ends) = inr (ends.0, turn_still (Begins d ends.0) (Reaps d ends.0) es (e ∷ []) ends.1)

unreleased_more : (d : ℕ) (es : List Event) (e : Event) → (IsReleased d es → ⊥) → (ReleasesAll d e → ⊥)
    → ((n : ℕ) → Occurs (Begins d n) es → Reaps d n e → ⊥) → IsReleased d (es ++ e ∷ []) → ⊥
unreleased_more d es e old all ends (inl h) = elim (occurs_either (ReleasesAll d) es e h) [ inl was ↦ old (inl was) | inr now ↦ all now ]
unreleased_more d es e old all ends (inr h) = elim (turn_either (Begins d h.0) (Reaps d h.0) es e h.1) [
  | inl was ↦ old (inr (h.0, was))
  | inr now ↦ ends h.0 now.0 now.1
]

all_named : (d : ℕ) (e : Event) → ReleasesAll d e → named_by e ≡ Some d
all_named d e (inl flush) = ap named_by flush.1
all_named d e (inr (inl unmap)) = ap named_by unmap.4
all_named d e (inr (inr drop)) = ap named_by drop

all_kind : (d : ℕ) (e : Event) → ReleasesAll d e → (kind e ≡ Kind.flushes) ⊎ (kind e ≡ Kind.unmaps) ⊎ (kind e ≡ Kind.drops)
all_kind d e (inl flush) = inl (ap kind flush.1)
all_kind d e (inr (inl unmap)) = inr (inl (ap kind unmap.4))
all_kind d e (inr (inr drop)) = inr (inr (ap kind drop))

-- an event of another kind releases none
not_all : (d : ℕ) (e : Event) (n : Kind) → kind e ≡ n → (n ≡ Kind.flushes → ⊥) → (n ≡ Kind.unmaps → ⊥) → (n ≡ Kind.drops → ⊥)
    → ReleasesAll d e → ⊥
not_all d e n is flush unmap drop all = elim (all_kind d e all) [
  | inl at ↦ flush (sym is ∙ at)
  | inr (inl at) ↦ unmap (sym is ∙ at)
  | inr (inr at) ↦ drop (sym is ∙ at)
]

not_end : (d : ℕ) (es : List Event) (e : Event) (n : Kind) → kind e ≡ n → (n ≡ Kind.reaps → ⊥) → (k : ℕ) → Occurs (Begins d k) es
    → Reaps d k e → ⊥
not_end d es e n is reap k begun of = reap (sym is ∙ ap kind of.1)

-- ---- what is still held

held_more : (d p mark : ℕ) (es : List Event) (w : World) (e : Event) (u : Domain) → IsHeld d p mark es w → IsStep w e.call e.reply
    → (next w e.call e.reply).domains d ≡ Some u → Holds p mark u → (ReleasesAll d e → ⊥)
    → ((n : ℕ) → Occurs (Begins d n) es → Reaps d n e → ⊥) → IsHeld d p mark (es ++ e ∷ []) (next w e.call e.reply)
held_more d p mark es w e u old step is holds all ends = record {
  domain = u;
  there = is;
  holds = holds;
  tickets = λ n is_open less. elim (opened w e.call e.reply d n step is_open) [
    | inl was ↦ occurs_left (Begins d n) es (e ∷ []) (old.tickets n was less)
    | inr begins ↦ occurs_last (Begins d n) es e begins
  ];
  later = λ n begun. elim (occurs_either (Begins d n) es e begun) [
    | inl was ↦ old.later n was
    | inr begins ↦
        let by = begin_step w e d n step begins in
        let same : old.domain.begun ≡ by.0.begun = ap (λ (x : Domain). x.begun) (same_Some old.domain by.0 (sym old.there ∙ by.1)) in
        omega (arith, same, by.2, old.holds.begun)
  ];
  unreleased = unreleased_more d es e old.unreleased all ends;
}

kept_of : (d p : ℕ) (es : List Event) (new : Option Domain) (u : Domain) → new ≡ Some u → HasNone p u → IsExplained d p es new
kept_of d p es new u is none =
    kept_none d p es new
    (λ v t at live.
    let both : None ≡ Some t = sym none.not_live ∙ ap (λ (x : Domain). x.live p) (same_Some u v (sym is ∙ at)) ∙ live in cc)
    (λ v t at retired. none.not_retired t (subst (λ (x : Domain). IsRetired x p t) (sym (same_Some u v (sym is ∙ at))) retired))

-- ---- one step more

released_in : Event → ℕ
released_in e = of e.reply
  where
    of : Reply → ℕ
    of (Unmapped n) = n
    of reply = 0

not_unmap : (e : Event) → kind e ≡ Kind.unmaps → (n : Kind) → kind e ≡ n → (n ≡ Kind.unmaps → ⊥) → ⊥
not_unmap e unmap n is other = other (sym is ∙ unmap)

-- an unmap that releases none isn't one that does
none_released : (d address pages released : ℕ) (e : Event) → e ≡ event (calls.Unmap d address pages) (Unmapped released) → released ≡ 0
    → ReleasesAll d e → ⊥
unfolding released_in
none_released d address pages released e of zero (inl flush) = not_unmap e (ap kind of) Kind.flushes (ap kind flush.1) (λ x. cc)
none_released d address pages released e of zero (inr (inl unmap)) =
    unmap.3 (ap released_in (sym unmap.4 ∙ of) ∙ zero)
none_released d address pages released e of zero (inr (inr drop)) = not_unmap e (ap kind of) Kind.drops (ap kind drop) (λ x. cc)

number_in : Event → ℕ
number_in e = of e.call
  where
    of : Call → ℕ
    of (calls.Reap domain number) = number
    of call = 0

same_number : (d k number : ℕ) (e : Event) → Reaps d k e → Reaps d number e → k ≡ number
unfolding number_in
same_number d k number e one other = ap number_in (sym one.1 ∙ other.1)

held_turn : (d p mark : ℕ) (es : List Event) (w : World) (e : Event) → IsHeld d p mark es w → IsStep w e.call e.reply
    → Turn w d e ((next w e.call e.reply).domains d) → IsHeldOrReleased d p mark (es ++ e ∷ []) (next w e.call e.reply)
held_turn d p mark es w e old step (Turn.stays same unnamed) =
    inl (held_more d p mark es w e old.domain old step (same ∙ old.there) old.holds (λ all. unnamed (all_named d e all))
    (λ n begun of. unnamed (ap named_by of.1)))
held_turn d p mark es w e old step (Turn.made mode width none is of) =
    absurd (let both : None ≡ Some old.domain = sym none ∙ old.there in cc)
held_turn d p mark es w e old step (Turn.dropped none of) =
    inr (
      inl (occurs_last (ReleasesAll d) es e (inr (inr of))),
      kept_none d p (es ++ e ∷ []) ((next w e.call e.reply).domains d)
          (λ v t at live. let both : None ≡ Some v = sym none ∙ at in cc)
          (λ v t at retired. let both : None ≡ Some v = sym none ∙ at in cc),
    )
held_turn d p mark es w e old step (Turn.maps v ss rights address there free is of) =
    let holds = subst (Holds p mark) (same_Some old.domain v (sym old.there ∙ there)) old.holds in
    let more = held_more d p mark es w e (mapped ss (page_of address) rights v) old step is
    (holds_mapped p mark v ss (page_of address) rights free holds) in
    elim (maps_kind d ss rights address e of) [
      | inl at ↦ inl (more (not_all d e Kind.maps at (λ x. cc) (λ x. cc) (λ x. cc)) (not_end d es e Kind.maps at (λ x. cc)))
      | inr at ↦ inl (more (not_all d e Kind.maps_list at (λ x. cc) (λ x. cc) (λ x. cc)) (not_end d es e Kind.maps_list at (λ x. cc)))
    ]
held_turn d p mark es w e old step (Turn.unmaps v address pages released there answer is of) =
    let holds = subst (Holds p mark) (same_Some old.domain v (sym old.there ∙ there)) old.holds in
    let range = range_at address pages in
    elim (unmapped_held p mark v.mode v range released answer holds) [
      | inl some ↦
          inr (
            inl (occurs_last (ReleasesAll d) es e (inr (inl (address, pages, released, some.0, of)))),
            kept_of d p (es ++ e ∷ []) ((next w e.call e.reply).domains d) (unmapped_by v.mode range v) is some.1,
          )
      | inr none ↦
          inl (held_more d p mark es w e (unmapped_by v.mode range v) old step is none.1
          (none_released d address pages released e of none.0) (not_end d es e Kind.unmaps (ap kind of) (λ x. cc)))
    ]
held_turn d p mark es w e old step (Turn.flushes v released there is of) =
    let holds = subst (Holds p mark) (same_Some old.domain v (sym old.there ∙ there)) old.holds in
    inr (
      inl (occurs_last (ReleasesAll d) es e (inl (released, of))),
      kept_of d p (es ++ e ∷ []) ((next w e.call e.reply).domains d) (flushed v) is (none_flushed p mark v holds),
    )
held_turn d p mark es w e old step (Turn.begins v there is of) =
    let holds = subst (Holds p mark) (same_Some old.domain v (sym old.there ∙ there)) old.holds in
    inl (held_more d p mark es w e (begun_once_more v) old step is (holds_begun p mark v holds)
    (not_all d e Kind.begins (ap kind of) (λ x. cc) (λ x. cc) (λ x. cc)) (not_end d es e Kind.begins (ap kind of) (λ x. cc)))
held_turn d p mark es w e old step (Turn.reaps v number there is of) =
    let holds = subst (Holds p mark) (same_Some old.domain v (sym old.there ∙ there)) old.holds in
    elim (cases_lt mark number) [
      | inl less ↦
          let begun = old.tickets number (reap_open w e d number step of) less in
          inr (
            inr (number, turn_now (Begins d number) (Reaps d number) es e begun of),
            kept_of d p (es ++ e ∷ []) ((next w e.call e.reply).domains d) (reaped number v) is (none_reaped p mark number v less holds),
          )
      | inr le ↦
          inl (held_more d p mark es w e (reaped number v) old step is (holds_reaped p mark number v le holds)
          (not_all d e Kind.reaps (ap kind of.1) (λ x. cc) (λ x. cc) (λ x. cc))
          (λ k begun other.
          let less : mark < k = old.later k begun in
          let same : k ≡ number = same_number d k number e other of in
          omega (arith, less, same, le)))
    ]

pub held_step : (d p mark : ℕ) (es : List Event) (w : World) (e : Event) → IsHeldOrReleased d p mark es w → IsStep w e.call e.reply
    → IsHeldOrReleased d p mark (es ++ e ∷ []) (next w e.call e.reply)
held_step d p mark es w e (inl held) step = held_turn d p mark es w e held step (turn w e.call e.reply d step)
held_step d p mark es w e (inr released) step =
    inr (released_more d es e released.0, kept_step d p es w e released.1 step)

-- ---- right after a lazy unmap

holds_first : (p : ℕ) (v : Domain) (range : Range) → IsWithin range p → ((r : Retired) → IsIn r v.retired → IsWithin r.range p → ⊥)
    → Holds p (with_room v).begun (put_off range (with_room v))
holds_first p v range within none = record {
  not_live = without_here range (with_room v).live p within;
  by = record_of range (with_room v);
  inside = in_last (record_of range (with_room v)) (with_room v).retired;
  within = within;
  marked = refl;
  only = λ r t inside here at. elim (in_either r (record_of range (with_room v)) (with_room v).retired inside) [
    | inl old ↦ absurd (none r (room_retired v (is_full v) r old) here)
    | inr last ↦ ap (λ (x : Retired). x.mark) last
  ];
  begun = omega arith;
}

pub held_first : (w : World) (e : Event) (d p : ℕ) → IsStep w e.call e.reply → (u : Unmaps d p e) → (is : IsOf modes.Lazy (w.domains d))
    → IsApart (w.domains d) → ((n : ℕ) → IsOpen w d n → IsBegun n (w.domains d))
    → IsHeld d p (with_room is.domain).begun [] (next w e.call e.reply)
held_first w e d p step u is apart begun =
    let by = unmap_step w e d p step u in
    let v = is.domain in
    let same : by.0 ≡ v = same_Some by.0 v (sym by.1 ∙ is.there) in
    let range = range_at u.0 u.1 in
    record {
      domain = put_off range (with_room v);
      there =
          by.3 ∙ ap (λ (x : Domain). Some (unmapped_by x.mode range x)) same
          ∙ ap (λ (m : Mode). Some (unmapped_by m range v)) is.is;
      holds = holds_first p v range u.4 (λ r inside within. was_live w e d p v step u is.there (apart v is.there r p inside within));
      tickets = λ n is_open less. elim (opened w e.call e.reply d n step is_open) [
        | inl was ↦
            let b = begun n was in
            let one : b.domain.begun ≡ v.begun = ap (λ (x : Domain). x.begun) (same_Some b.domain v (sym b.there ∙ is.there)) in
            absurd (omega (arith, b.below, one, less, room_begun v (is_full v)))
        | inr begins ↦ absurd (let both : Kind.unmaps ≡ Kind.begins = ap kind (sym u.3 ∙ begins) in cc)
      ];
      later = λ n none. absurd none;
      unreleased = elim [ inl none ↦ none | inr none ↦ none.1 ];
    }
