-- A page that a map put in is live until an event takes it away; and no map puts in a live page.
use Rattle.std.proofs.Common.{◌≡◌, ◌⊎◌, ℕ, ◌+◌, ◌<◌, ◌≤◌, inl, inr, Bool, true, false, List, [], ◌∷◌, ◌++◌, Option, Some, None, refl, sym}
use Rattle.std.proofs.Common.{ap, ◌∙◌, arith}
use Rattle.std.specs.Prelude.{if◌then◌else◌}
use Rattle.std.specs.Option.{option_or}
use Rattle.std.proofs.lemmas.Option.{same_Some}
use Rattle.dmatypes.specs.declared.call.Mode.{Mode}
use Rattle.dmatypes.specs.declared.call.Mode.TheVariants as modes
use Rattle.dmatypes.specs.declared.reply.Event.{Event}
use Rattle.dmatypes.specs.Page.{Range, IsWithin, page_of, range_at}
use Rattle.dmatypes.specs.World.{Target, Domain, World, begun_once_more, empty, flushed, is_full, mapped, placed, reaped, unmapped_by}
use Rattle.dmatypes.specs.World.{without, IsFree}
use Rattle.dmatypes.specs.Conditions.{total_pages}
use Rattle.dmatypes.specs.Step.{IsStep, next}
use Rattle.dmatypes.specs.History.{after, after_from, IsLegal}
use Rattle.dmatypes.proofs.numbers.Ranges.{within_is, within_not, within_or_not}
use Rattle.laws.specs.Events.{Maps, Occurs, EndsPage}
use Rattle.laws.proofs.lists.Courses.{occurs_left, occurs_last}
use Rattle.laws.proofs.worlds.Placed.{frame_below, placed_there}
use Rattle.laws.proofs.worlds.Runs.{carried, legal_from, legal_front, legal_rest}
use Rattle.laws.proofs.worlds.Turns.{Turn, map_step, turn}

-- ---- what an unmap leaves live

room_live : (v : Domain) (b : Bool) → (if b then flushed v else v).live ≡ v.live
room_live v true = refl
room_live v false = refl

pub unmapped_live : (mode : Mode) (range : Range) (v : Domain) (p : ℕ) → (unmapped_by mode range v).live p ≡ without range v.live p
unmapped_live modes.Strict range v p = refl
unmapped_live modes.Lazy range v p = ap (λ (live : ℕ → Option Target). without range live p) (room_live v (is_full v))

pub without_here : (r : Range) (map : ℕ → Option Target) (p : ℕ) → IsWithin r p → without r map p ≡ None
without_here r map p h = rw (within_is r p h) refl

pub without_else : (r : Range) (map : ℕ → Option Target) (p : ℕ) → ((p < r.first) ⊎ (r.first + r.pages ≤ p)) → without r map p ≡ map p
without_else r map p h = rw (within_not r p h) refl

-- ---- a live page

abbrev pub IsLiveIn : Option Domain → ℕ → Type 0
IsLiveIn o p = (v : Domain) × (t : Target) × (o ≡ Some v) × (v.live p ≡ Some t)

still_some : {A : Type 0} (o l : Option A) (x : A) → l ≡ Some x → (y : A) × (option_or o l ≡ Some y)
still_some None l x e = (x, e)
still_some (Some y) l x e = (y, refl)

live_turn : (w : World) (d p : ℕ) (e : Event) (new : Option Domain) → IsLiveIn (w.domains d) p → Turn w d e new
    → EndsPage d p e ⊎ IsLiveIn new p
live_turn w d p e new live (Turn.stays same unnamed) = inr (live.0, live.1, same ∙ live.2, live.3)
live_turn w d p e new live (Turn.made mode width none is of) = absurd (let both : None ≡ Some live.0 = sym none ∙ live.2 in cc)
live_turn w d p e new live (Turn.dropped none of) = inl (inr of)
live_turn w d p e new live (Turn.maps v ss rights address there free is of) =
    let still = still_some (placed ss (page_of address) rights p) (v.live p) live.1
    (ap (λ (u : Domain). u.live p) (same_Some v live.0 (sym there ∙ live.2)) ∙ live.3) in
    inr (mapped ss (page_of address) rights v, still.0, is, still.1)
live_turn w d p e new live (Turn.unmaps v address pages released there answer is of) =
    elim (within_or_not (range_at address pages) p) [
      | inl here ↦ inl (inl (address, pages, released, of, here))
      | inr past ↦ inr (
        unmapped_by v.mode (range_at address pages) v,
        live.1,
        is,
        unmapped_live v.mode (range_at address pages) v p ∙ without_else (range_at address pages) v.live p past
            ∙ ap (λ (u : Domain). u.live p) (same_Some v live.0 (sym there ∙ live.2)) ∙ live.3,
      )
    ]
live_turn w d p e new live (Turn.flushes v released there is of) =
    inr (flushed v, live.1, is, ap (λ (u : Domain). u.live p) (same_Some v live.0 (sym there ∙ live.2)) ∙ live.3)
live_turn w d p e new live (Turn.begins v there is of) =
    inr (begun_once_more v, live.1, is, ap (λ (u : Domain). u.live p) (same_Some v live.0 (sym there ∙ live.2)) ∙ live.3)
live_turn w d p e new live (Turn.reaps v number there is of) =
    inr (reaped number v, live.1, is, ap (λ (u : Domain). u.live p) (same_Some v live.0 (sym there ∙ live.2)) ∙ live.3)

abbrev IsLiveOrTaken : ℕ → ℕ → List Event → World → Type 0
IsLiveOrTaken d p es w = Occurs (EndsPage d p) es ⊎ IsLiveIn (w.domains d) p

live_step : (d p : ℕ) (es : List Event) (w : World) (e : Event) → IsLiveOrTaken d p es w → IsStep w e.call e.reply
    → IsLiveOrTaken d p (es ++ e ∷ []) (next w e.call e.reply)
live_step d p es w e (inl taken) step = inl (occurs_left (EndsPage d p) es (e ∷ []) taken)
live_step d p es w e (inr live) step =
    elim (live_turn w d p e ((next w e.call e.reply).domains d) live (turn w e.call e.reply d step)) [
      | inl takes ↦ inl (occurs_last (EndsPage d p) es e takes)
      | inr still ↦ inr still
    ]

-- ---- a map and its pages

-- the page is neither live nor in a record when the map answers, and live after it
pub record IsPutIn (w : World) (e : Event) (d p : ℕ) : Type 0 where
  pub domain : Domain
  pub there : w.domains d ≡ Some domain
  pub free : IsFree domain p
  pub live : IsLiveIn ((next w e.call e.reply).domains d) p

pub put_in : (w : World) (e : Event) (d p : ℕ) → IsStep w e.call e.reply → Maps d p e → IsPutIn w e d p
put_in w e d p step m =
    let to = m.2 in
    let ss = to.0 in
    let below : to.2 < total_pages ss = frame_below ss to.2 m.0 to.5 in
    let within : IsWithin (range_at to.1 (total_pages ss)) p = (omega (arith, to.4), omega (arith, to.4, below)) in
    let by = map_step w e d ss m.1 to.1 step to.3 in
    let target = placed_there ss (page_of to.1) m.1 p within in
    record {
      domain = by.0;
      there = by.1;
      free = (by.2 p within).1;
      live = (mapped ss (page_of to.1) m.1 by.0, target.0, by.3, ap (λ (o : Option Target). option_or o (by.0.live p)) target.1);
    }

not_put_in_twice : (w : World) (e : Event) (d p : ℕ) → IsStep w e.call e.reply → Maps d p e → IsLiveIn (w.domains d) p → ⊥
not_put_in_twice w e d p step m live =
    let at = put_in w e d p step m in
    let same : at.domain ≡ live.0 = same_Some at.domain live.0 (sym at.there ∙ live.2) in
    let both : None ≡ Some live.1 = sym at.free.not_live ∙ ap (λ (u : Domain). u.live p) same ∙ live.3 in
    cc

pub taken_between : (frames : ℕ) (before between rest : List Event) (one other : Event) (d p : ℕ)
    → IsLegal frames ((before ++ one ∷ between) ++ other ∷ rest) → Maps d p one → Maps d p other → Occurs (EndsPage d p) between
taken_between frames before between rest one other d p legal first second =
    let w = after frames before in
    let from_one = legal_from (empty frames) before one between (other ∷ rest) legal in
    let u = next w one.call one.reply in
    let from_other = legal_rest u between (other ∷ rest) from_one.1 in
    elim (carried (IsLiveOrTaken d p) (live_step d p) [] u between (inr (put_in w one d p from_one.0 first).live)
    (legal_front u between (other ∷ rest) from_one.1)) [
      | inl taken ↦ taken
      | inr live ↦ absurd (not_put_in_twice (after_from u between) other d p from_other.0 second live)
    ]
