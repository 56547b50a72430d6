-- Runs in a list: what a run more maps, and what the last run maps that begins at a page or before.
use Rattle.std.proofs.Common.{◌≡◌, ℕ, zero, suc, ◌+◌, ◌<◌, ◌≤◌, List, [], ◌∷◌, ◌++◌, length, get_or, Option, Some, None, true, false}
use Rattle.std.proofs.Common.{cond, inl, inr, refl, ◌∙◌, arith}
use Rattle.std.specs.Prelude.{nat_le, ◌&&◌}
use Rattle.std.specs.Option.{option_or}
use Rattle.std.specs.List.Sorted.{IsPartitionedBy}
use Rattle.std.proofs.lemmas.Bool.{and_from, and_parts, cases_lt, le-leb, le-ltb, leb-true, lt-ltb}
use Rattle.dmatypes.specs.declared.page.TheConstants.{FRAMES_END}
use Rattle.dmatypes.specs.World.{Target, is_within, placed}
use Rattle.dmatypes.proofs.numbers.Ranges.{within_is, within_not, within_or_not}
use Rattle.checker.specs.declared.run.Run.{Run}
use Rattle.checker.specs.Pages.{range}
use Rattle.checker.specs.Rising.{IsSoundRun, at_runs, runs_end, is_rising}
use Rattle.checker.specs.Runs.{by_run, target_of}

-- each run begins where the one before ended or behind, the first at a page or behind
unfoldable pub IsRising : ℕ → List (ℕ × Run) → Type 0
IsRising from [] = Unit {0}
IsRising from (e ∷ es) = (from ≤ e.0) × IsSoundRun e.1 × IsRising (e.0 + e.1.pages) es

pub rises : (from : ℕ) (es : List (ℕ × Run)) → is_rising from es ≡ true → IsRising from es
unfolding IsRising is_rising
rises from [] h = tt
rises from (e ∷ es) h =
    let rest = is_rising (e.0 + e.1.pages) es in
    let frames = nat_le (e.1.frame + e.1.pages) FRAMES_END in
    let one = and_parts (nat_le from e.0) (nat_le 1 e.1.pages && (frames && rest)) h in
    let two = and_parts (nat_le 1 e.1.pages) (frames && rest) one.1 in
    let three = and_parts frames rest two.1 in (
      leb-true from e.0 one.0,
      (leb-true 1 e.1.pages two.0, leb-true (e.1.frame + e.1.pages) FRAMES_END three.0),
      rises (e.0 + e.1.pages) es three.1,
    )

pub to_rise : (from : ℕ) (es : List (ℕ × Run)) → IsRising from es → is_rising from es ≡ true
unfolding IsRising is_rising
to_rise from [] h = refl
to_rise from (e ∷ es) h =
    let rest = is_rising (e.0 + e.1.pages) es in
    let frames = nat_le (e.1.frame + e.1.pages) FRAMES_END in
    and_from (nat_le from e.0) (nat_le 1 e.1.pages && (frames && rest)) (le-leb from e.0 h.0)
    (and_from (nat_le 1 e.1.pages) (frames && rest) (le-leb 1 e.1.pages h.1.0)
    (and_from frames rest (le-leb (e.1.frame + e.1.pages) FRAMES_END h.1.1) (to_rise (e.0 + e.1.pages) es h.2)))

-- ---- a run more

pub rising_push : (from first : ℕ) (r : Run) (es : List (ℕ × Run)) → IsRising from es → runs_end from es ≤ first → IsSoundRun r
    → IsRising from (es ++ (first, r) ∷ [])
unfolding IsRising runs_end
rising_push from first r [] h order sound = (order, sound, tt)
rising_push from first r (e ∷ es) h order sound = (h.0, h.1, rising_push (e.0 + e.1.pages) first r es h.2 order sound)

pub end_push : (from first : ℕ) (r : Run) (es : List (ℕ × Run)) → runs_end from (es ++ (first, r) ∷ []) ≡ first + r.pages
unfolding runs_end
end_push from first r [] = refl
end_push from first r (e ∷ es) = end_push (e.0 + e.1.pages) first r es

end_least : (from : ℕ) (es : List (ℕ × Run)) → IsRising from es → from ≤ runs_end from es
unfolding IsRising runs_end
end_least from [] h = omega arith
end_least from (e ∷ es) h = omega (arith, h.0, end_least (e.0 + e.1.pages) es h.2)

-- no run is behind the end of the last
none_behind : (from p : ℕ) (es : List (ℕ × Run)) → IsRising from es → runs_end from es ≤ p → at_runs es p ≡ None
unfolding IsRising runs_end at_runs
none_behind from p [] h order = refl
none_behind from p (e ∷ es) h order =
    rw (within_not (range e.0 e.1.pages) p (inr (omega (arith, order, end_least (e.0 + e.1.pages) es h.2))))
    (none_behind (e.0 + e.1.pages) p es h.2 order)

at_push : (first p : ℕ) (r : Run) (es : List (ℕ × Run)) → at_runs (es ++ (first, r) ∷ []) p
    ≡ option_or (at_runs es p) (cond (is_within (range first r.pages) p) (Some (target_of first r p)) None)
unfolding at_runs
at_push first p r [] = refl
at_push first p r (e ∷ es) =
    elim (is_within (range e.0 e.1.pages) p)
    as (λ b. cond b (Some (target_of e.0 e.1 p)) (at_runs (es ++ (first, r) ∷ []) p)
    ≡ option_or (cond b (Some (target_of e.0 e.1 p)) (at_runs es p)) (cond (is_within (range first r.pages) p) (Some (target_of first r p)) None)) [
      | true ↦ refl
      | false ↦ at_push first p r es
    ]

or_none : (o : Option Target) → option_or o None ≡ o
or_none None = refl
or_none (Some t) = refl

pub pushed : (from first p : ℕ) (r : Run) (es : List (ℕ × Run)) → IsRising from es → runs_end from es ≤ first
    → at_runs (es ++ (first, r) ∷ []) p ≡ option_or (placed (record { frame = r.frame; pages = r.pages } ∷ []) first r.rights p) (at_runs es p)
pushed from first p r es h order =
    let s = range first r.pages in
    elim (within_or_not s p) [
      | inl inside ↦
          at_push first p r es ∙ rw (within_is s p inside, none_behind from p es h (omega (arith, order, inside.0))) refl
      | inr out ↦ at_push first p r es ∙ rw (within_not s p out) (or_none (at_runs es p))
    ]

-- ---- the last run that begins at a page or before

from_least : (from i : ℕ) (d : ℕ × Run) (es : List (ℕ × Run)) → IsRising from es → i < length es → from ≤ (get_or es i d).0
unfolding IsRising
from_least from i d [] h less = absurd (omega (arith, less))
from_least from zero d (e ∷ es) h less = h.0
from_least from (suc i) d (e ∷ es) h less =
    omega (arith, h.0, from_least (e.0 + e.1.pages) i d es h.2 (omega (arith, less)))

pub in_order : (from i j : ℕ) (d : ℕ × Run) (es : List (ℕ × Run)) → IsRising from es → i ≤ j → j < length es
    → (get_or es i d).0 ≤ (get_or es j d).0
unfolding IsRising
in_order from i j d [] h order less = absurd (omega (arith, less))
in_order from zero zero d (e ∷ es) h order less = omega arith
in_order from zero (suc j) d (e ∷ es) h order less =
    omega (arith, from_least (e.0 + e.1.pages) j d es h.2 (omega (arith, less)))
in_order from (suc i) zero d (e ∷ es) h order less = absurd (omega (arith, order))
in_order from (suc i) (suc j) d (e ∷ es) h order less =
    in_order (e.0 + e.1.pages) i j d es h.2 (omega (arith, order)) (omega (arith, less))

pub parted : (page : ℕ) (es : List (ℕ × Run)) → IsRising 0 es → IsPartitionedBy (λ e. nat_le e.0 page) es
parted page es h = λ i j d order less is.
    le-leb (get_or es i d).0 page (omega (arith, in_order 0 i j d es h order less, leb-true (get_or es j d).0 page is))

pub sound_at : (from i : ℕ) (d : ℕ × Run) (es : List (ℕ × Run)) → IsRising from es → i < length es → IsSoundRun (get_or es i d).1
unfolding IsRising
sound_at from i d [] h less = absurd (omega (arith, less))
sound_at from zero d (e ∷ es) h less = h.1
sound_at from (suc i) d (e ∷ es) h less = sound_at (e.0 + e.1.pages) i d es h.2 (omega (arith, less))

pub none_begun : (p : ℕ) (d : ℕ × Run) (es : List (ℕ × Run)) → ((j : ℕ) → j < length es → p < (get_or es j d).0) → at_runs es p ≡ None
unfolding at_runs
none_begun p d [] h = refl
none_begun p d (e ∷ es) h =
    rw (within_not (range e.0 e.1.pages) p (inl (h 0 (omega arith)))) (none_begun p d es (λ j less. h (suc j) (omega (arith, less))))

pub last_begun : (from p i : ℕ) (d : ℕ × Run) (es : List (ℕ × Run)) → IsRising from es → i < length es → (get_or es i d).0 ≤ p
    → ((j : ℕ) → i < j → j < length es → p < (get_or es j d).0)
    → at_runs es p ≡ by_run (get_or es i d).0 (Some (get_or es i d).1) p
unfolding IsRising at_runs
last_begun from p i d [] h less begun last = absurd (omega (arith, less))
last_begun from p zero d (e ∷ es) h less begun last =
    elim (cases_lt p (e.0 + e.1.pages)) [
      | inl inside ↦ rw (within_is (range e.0 e.1.pages) p (begun, inside), lt-ltb p (e.0 + e.1.pages) inside) refl
      | inr past ↦
          rw (within_not (range e.0 e.1.pages) p (inr past), le-ltb p (e.0 + e.1.pages) past)
          (none_begun p d es (λ j below. last (suc j) (omega arith) (omega (arith, below))))
    ]
last_begun from p (suc i) d (e ∷ es) h less begun last =
    rw (within_not (range e.0 e.1.pages) p (inr (omega (arith, begun, from_least (e.0 + e.1.pages) i d es h.2 (omega (arith, less))))))
    (last_begun (e.0 + e.1.pages) p i d es h.2 (omega (arith, less)) begun
    (λ j more below. last (suc j) (omega (arith, more)) (omega (arith, below))))
