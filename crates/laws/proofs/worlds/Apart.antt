-- A page that is in a record isn't live; and an unmap takes only live pages.
use Rattle.std.proofs.Common.{◌≡◌, ℕ, ◌<◌, inl, inr, Bool, true, false, List, [], Option, Some, None, IsNone, IsSomeAnd}
use Rattle.std.proofs.Common.{refl, sym, ap, subst, ◌∙◌, arith}
use Rattle.std.specs.Prelude.{if◌then◌else◌, not}
use Rattle.std.specs.Option.{option_or}
use Rattle.std.proofs.lemmas.Option.{same_Some}
use Rattle.dmatypes.specs.declared.call.Call.TheVariants as calls
use Rattle.dmatypes.specs.declared.call.Mode.{Mode}
use Rattle.dmatypes.specs.declared.call.Mode.TheVariants as modes
use Rattle.dmatypes.specs.declared.call.Segment.{Segment}
use Rattle.dmatypes.specs.declared.reply.Event.{Event}
use Rattle.dmatypes.specs.declared.reply.Reply.TheVariants.{Unmapped}
use Rattle.dmatypes.specs.Page.{Range, IsWithin, page_of, range_at}
use Rattle.dmatypes.specs.World.{Target, Retired, Domain, World, AreFreePages, IsIn, begun_once_more, empty, empty_domain, flushed}
use Rattle.dmatypes.specs.World.{is_before, is_full, mapped, placed, reaped, record_of, unmapped_by, with_room, without}
use Rattle.dmatypes.specs.Conditions.{Stands, total_pages}
use Rattle.dmatypes.specs.Step.{IsStep, next}
use Rattle.dmatypes.specs.History.{after, IsLegal}
use Rattle.dmatypes.proofs.lists.Filtered.{in_filter}
use Rattle.dmatypes.proofs.numbers.Ranges.{within_or_not}
use Rattle.laws.specs.Events.{Unmaps}
use Rattle.laws.proofs.lists.Options.{in_either}
use Rattle.laws.proofs.worlds.Live.{without_here, without_else}
use Rattle.laws.proofs.worlds.Placed.{frame_below, member_of}
use Rattle.laws.proofs.worlds.Runs.{carried}
use Rattle.laws.proofs.worlds.Turns.{Turn, turn}

abbrev pub AreApart : Domain → Type 0
AreApart v = (r : Retired) (p : ℕ) → IsIn r v.retired → IsWithin r.range p → v.live p ≡ None

-- ---- domains that change

-- no map puts in a page outside its range
pub not_placed : (o l : Option Target) → ((t : Target) → o ≡ Some t → ⊥) → l ≡ None → option_or o l ≡ None
not_placed None l never none = none
not_placed (Some t) l never none = absurd (never t refl)

pub placed_within : (ss : List Segment) (first rights p : ℕ) (t : Target) → placed ss first rights p ≡ Some t
    → IsWithin (record { first = first; pages = total_pages ss }) p
placed_within ss first rights p t e =
    let m = member_of ss first rights p t e in
    let below : m.number < total_pages ss = frame_below ss m.number t.frame m.has in
    (omega (arith, m.is), omega (arith, m.is, below))

pub not_mapped : (v : Domain) (ss : List Segment) (first rights p : ℕ) (r : Retired)
    → AreFreePages v (record { first = first; pages = total_pages ss }) → IsIn r v.retired → IsWithin r.range p → v.live p ≡ None
    → (mapped ss first rights v).live p ≡ None
not_mapped v ss first rights p r free inside within none =
    not_placed (placed ss first rights p) (v.live p)
    (λ t e. (free p (placed_within ss first rights p t e)).1.not_retired r inside within) none

pub not_left : (range : Range) (map : ℕ → Option Target) (p : ℕ) → map p ≡ None → without range map p ≡ None
not_left range map p none = elim (within_or_not range p) [
  | inl here ↦ without_here range map p here
  | inr past ↦ without_else range map p past ∙ none
]

apart_room : (v : Domain) (b : Bool) → AreApart v → AreApart (if b then flushed v else v)
apart_room v true apart = λ r p inside within. absurd inside
apart_room v false apart = apart

apart_unmapped : (mode : Mode) (range : Range) (v : Domain) → AreApart v → AreApart (unmapped_by mode range v)
apart_unmapped modes.Strict range v apart = λ r p inside within. not_left range v.live p (apart r p inside within)
apart_unmapped modes.Lazy range v apart = λ r p inside within.
    elim (in_either r (record_of range (with_room v)) (with_room v).retired inside) [
      | inl old ↦ not_left range (with_room v).live p (apart_room v (is_full v) apart r p old within)
      | inr last ↦ without_here range (with_room v).live p (subst (λ (x : Retired). IsWithin x.range p) last within)
    ]

-- ---- along a history

abbrev pub IsApart : Option Domain → Type 0
IsApart o = (v : Domain) → o ≡ Some v → AreApart v

apart_of : (new : Option Domain) (u : Domain) → new ≡ Some u → AreApart u → IsApart new
apart_of new u is apart = λ x at. subst AreApart (same_Some u x (sym is ∙ at)) apart

apart_turn : (w : World) (d : ℕ) (e : Event) (new : Option Domain) → IsApart (w.domains d) → Turn w d e new → IsApart new
apart_turn w d e new old (Turn.stays same unnamed) = subst IsApart (sym same) old
apart_turn w d e new old (Turn.made mode width none is of) =
    apart_of new (empty_domain mode width) is (λ r p inside within. refl)
apart_turn w d e new old (Turn.dropped none of) = λ v at. absurd (let both : None ≡ Some v = sym none ∙ at in cc)
apart_turn w d e new old (Turn.maps v ss rights address there free is of) =
    apart_of new (mapped ss (page_of address) rights v) is
    (λ r p inside within. not_mapped v ss (page_of address) rights p r free inside within (old v there r p inside within))
apart_turn w d e new old (Turn.unmaps v address pages released there answer is of) =
    apart_of new (unmapped_by v.mode (range_at address pages) v) is
    (apart_unmapped v.mode (range_at address pages) v (old v there))
apart_turn w d e new old (Turn.flushes v released there is of) =
    apart_of new (flushed v) is (λ r p inside within. absurd inside)
apart_turn w d e new old (Turn.begins v there is of) = apart_of new (begun_once_more v) is (old v there)
apart_turn w d e new old (Turn.reaps v number there is of) =
    apart_of new (reaped number v) is
    (λ r p inside within. old v there r p (in_filter (λ (x : Retired). not (is_before number x)) r v.retired inside).0 within)

-- after a legal history
pub apart_after : (frames : ℕ) (history : List Event) (d : ℕ) → IsLegal frames history → IsApart ((after frames history).domains d)
apart_after frames history d legal =
    carried (λ es w. IsApart (w.domains d))
    (λ es w e old step. apart_turn w d e ((next w e.call e.reply).domains d) old (turn w e.call e.reply d step)) [] (empty frames)
    history (λ v none. absurd cc) legal

-- ---- an unmap

not_live_stands : (w : World) (d : ℕ) (range : Range) (p : ℕ) (v : Domain) (o : Option Domain) → o ≡ Some v → IsWithin range p
    → v.live p ≡ None → IsSomeAnd o (λ v. (p : ℕ) × IsWithin range p × IsNone (v.live p))
not_live_stands w d range p v None at within none = absurd cc
not_live_stands w d range p v (Some u) at within none =
    (p, within, subst (λ (x : Option Target). IsNone x) (sym (ap (λ (x : Domain). x.live p) (same_Some u v at) ∙ none)) refl)

range_live : (w : World) (d address pages released p : ℕ) (v : Domain) → IsStep w (calls.Unmap d address pages) (Unmapped released)
    → w.domains d ≡ Some v → IsWithin (range_at address pages) p → v.live p ≡ None → ⊥
unfolding IsStep Stands
range_live w d address pages released p v step there within none =
    step.0.1.1.0 (not_live_stands w d (range_at address pages) p v (w.domains d) there within none)

-- a page that an unmap takes was live
pub was_live : (w : World) (e : Event) (d p : ℕ) (v : Domain) → IsStep w e.call e.reply → Unmaps d p e → w.domains d ≡ Some v
    → v.live p ≡ None → ⊥
was_live w e d p v step u there none =
    subst (λ (x : Event). IsStep w x.call x.reply → ⊥) (sym u.3)
    (λ s. range_live w d u.0 u.1 u.2 p v s there u.4 none) step
