-- Where segments map pages: their pages one after the other, and no other page.
use Rattle.std.proofs.Common.{◌≡◌, ◌≢◌, ℕ, zero, suc, ◌+◌, ◌-◌, ◌<◌, ◌≤◌, ◌⊎◌, inl, inr, ⊎_elim, List, [], ◌∷◌, drop, get_or, length}
use Rattle.std.proofs.Common.{IsSome, Some, None, refl, sym, ap, subst, ◌∙◌, arith}
use Rattle.std.proofs.lemmas.Bool.{cases_lt}
use Rattle.dmatypes.specs.Conditions.{IsBadMap, SomeHas, total_pages}
use Rattle.dmatypes.specs.Page.{IsWithin}
use Rattle.dmatypes.specs.Rights.{AreRights}
use Rattle.dmatypes.specs.World.{Target, placed}
use Rattle.dmatypes.specs.declared.call.Segment.{Segment}
use Rattle.dmatypes.proofs.numbers.Ranges.{within_is, within_not, within_or_not}
use Rattle.tables.specs.Changes.{MapsPages}
use Rattle.tables.specs.Pool.{Pool, memory}
use Rattle.tables.specs.Segments.{AreSegments}
use Rattle.tables.specs.Tree.{states}
use Rattle.tables.proofs.maps.Placed.{drop_at, drop_ended, total-cons}
use Rattle.engine.specs.Judged.{AreMappable, AreOwned}
use Rattle.engine.proofs.lists.Places.{is_some}
use Rattle.dmatypes.specs.declared.limits.TheConstants.{MOST_ORDER}
use Rattle.dmatypes.specs.declared.page.TheConstants.{FRAMES_END, MOST_PAGES}

pub placed_inside : (ss : List Segment) (first rights p : ℕ) → IsWithin (record { first = first; pages = total_pages ss }) p
    → (t : Target) × (placed ss first rights p ≡ Some t)
placed_inside [] first rights p inside = absurd (omega (arith, inside.0, inside.1))
placed_inside (s ∷ ss) first rights p inside = elim (within_or_not (record { first = first; pages = s.pages }) p) [
  | inl here ↦
      (record { frame = s.frame + (p - first); rights = rights }, rw (within_is (record { first = first; pages = s.pages }) p here) refl)
  | inr past ↦
      let later = placed_inside ss (first + s.pages) rights p (behind past, omega (arith, inside.1, total-cons s ss)) in
      (later.0, (rw (within_not (record { first = first; pages = s.pages }) p past) refl) ∙ later.1)
]
  where
    behind : ((p < first) ⊎ (first + s.pages ≤ p)) → first + s.pages ≤ p
    behind (inl low) = absurd (omega (arith, low, inside.0))
    behind (inr high) = high

pub placed_outside : (ss : List Segment) (first rights p : ℕ) → ((p < first) ⊎ (first + total_pages ss ≤ p))
    → placed ss first rights p ≡ None
placed_outside [] first rights p past = refl
placed_outside (s ∷ ss) first rights p past =
    (rw (within_not (record { first = first; pages = s.pages }) p (here past)) refl)
    ∙ placed_outside ss (first + s.pages) rights p (later past)
  where
    here : ((p < first) ⊎ (first + total_pages (s ∷ ss) ≤ p)) → (p < first) ⊎ (first + s.pages ≤ p)
    here (inl low) = inl low
    here (inr high) = inr (omega (arith, high, total-cons s ss))

    later : ((p < first) ⊎ (first + total_pages (s ∷ ss) ≤ p)) → (p < first + s.pages) ⊎ (first + s.pages + total_pages ss ≤ p)
    later (inl low) = inl (omega (arith, low))
    later (inr high) = inr (omega (arith, high, total-cons s ss))

-- a tree that maps them states each of their pages
pub mapped_stated : (pool pool' : Pool) (level root first rights : ℕ) (ss : List Segment) (p : ℕ)
    → MapsPages pool pool' level root first (first + total_pages ss) (placed ss first rights)
    → IsWithin (record { first = first; pages = total_pages ss }) p → IsSome (states (memory pool'.words) level root p)
mapped_stated pool pool' level root first rights ss p maps inside =
    let at = placed_inside ss first rights p inside in
    is_some (states (memory pool'.words) level root p) at.0 (maps.mapped p inside.0 inside.1 ∙ at.1)

-- ---- which can be asked for

pub some_page : (ss : List Segment) → AreMappable ss → 1 ≤ total_pages ss
some_page [] are = absurd (are.some refl)
some_page (s ∷ ss) are = omega (arith, are.each.0, total-cons s ss)

pub some_segment : (ss : List Segment) → AreMappable ss → 1 ≤ length ss
some_segment [] are = absurd (are.some refl)
some_segment (s ∷ ss) are = omega arith

no_bad : (ss : List Segment) → AreSegments ss → (SomeHas (λ s. s.pages ≡ 0) ss → ⊥) × (SomeHas (λ s. FRAMES_END < s.frame + s.pages) ss → ⊥)
no_bad [] each = (λ none. none, λ none. none)
no_bad (s ∷ ss) each =
    let later = no_bad ss each.2 in
    (first_or (λ e. omega (arith, e, each.0)) later.0, first_or (λ e. omega (arith, e, each.1)) later.1)
  where
    first_or : {P Q : Type 0} → (P → ⊥) → (Q → ⊥) → P ⊎ Q → ⊥
    first_or never nowhere (inl x) = never x
    first_or never nowhere (inr y) = nowhere y

pub mappable_not_bad : (ss : List Segment) (order rights : ℕ) → AreMappable ss → order ≤ MOST_ORDER → AreRights rights
    → IsBadMap ss order rights → ⊥
mappable_not_bad ss order rights are small rightful (inl none) = are.some none
mappable_not_bad ss order rights are small rightful (inr (inl none)) = (no_bad ss are.each).0 none
mappable_not_bad ss order rights are small rightful (inr (inr (inl many))) = omega (arith, many, are.few)
mappable_not_bad ss order rights are small rightful (inr (inr (inr (inl high)))) = (no_bad ss are.each).1 high
mappable_not_bad ss order rights are small rightful (inr (inr (inr (inr (inl big))))) = omega (arith, big, small)
mappable_not_bad ss order rights are small rightful (inr (inr (inr (inr (inr wrong))))) = wrong rightful

-- ---- one after the other

-- the pages of the segments before a place are counted, and there are so many of a map's; whether all can be asked
-- for is up to those from the place on
pub record IsCounted (ss : List Segment) (i pages : ℕ) : Type 0 where
  pub counted : total_pages ss ≡ pages + total_pages (drop i ss)
  pub few : pages ≤ MOST_PAGES
  pub later : AreSegments ss → AreSegments (drop i ss)
  pub before : AreSegments (drop i ss) → AreSegments ss

pub none_counted : (ss : List Segment) → IsCounted ss 0 0
none_counted ss = record { counted = omega arith; few = omega arith; later = λ each. each; before = λ each. each }

-- the segment at a place, where there is one
abbrev pub segment_at : List Segment → ℕ → Segment
segment_at ss i = get_or ss i (record { frame = 0; pages = 0 })

-- it can't be asked for
abbrev pub IsUnfit : Segment → ℕ → Type 0
IsUnfit s pages = (s.pages ≡ 0) ⊎ (MOST_PAGES < pages + s.pages) ⊎ (FRAMES_END < s.frame + s.pages)

pub one_counted : (ss : List Segment) (i pages : ℕ) → i < length ss → IsCounted ss i pages → (IsUnfit (segment_at ss i) pages → ⊥)
    → IsCounted ss (i + 1) (pages + (segment_at ss i).pages)
one_counted ss i pages less so_far fit =
    let s = segment_at ss i in
    let cut = drop_at ss i (record { frame = 0; pages = 0 }) less in
    let some : 1 ≤ s.pages =
    ⊎_elim (λ (zero : s.pages < 1). absurd (fit (inl (omega (arith, zero))))) (λ (some : 1 ≤ s.pages). some) (cases_lt s.pages 1) in
    let few : pages + s.pages ≤ MOST_PAGES =
    ⊎_elim (λ (many : MOST_PAGES < pages + s.pages). absurd (fit (inr (inl many)))) (λ (few : pages + s.pages ≤ MOST_PAGES). few)
    (cases_lt MOST_PAGES (pages + s.pages)) in
    let low : s.frame + s.pages ≤ FRAMES_END =
    ⊎_elim (λ (high : FRAMES_END < s.frame + s.pages). absurd (fit (inr (inr high)))) (λ (low : s.frame + s.pages ≤ FRAMES_END). low)
    (cases_lt (FRAMES_END) (s.frame + s.pages)) in
    record {
      counted = omega (arith, so_far.counted, ap (λ xs. total_pages xs) cut, total-cons s (drop (i + 1) ss));
      few = few;
      later = λ each. (subst (λ xs. AreSegments xs) cut (so_far.later each)).2;
      before = λ each. so_far.before (subst (λ xs. AreSegments xs) (sym cut) (some, low, each));
    }

pub unfit_stops : (ss : List Segment) (i pages : ℕ) → i < length ss → IsCounted ss i pages → IsUnfit (segment_at ss i) pages
    → AreMappable ss → ⊥
unfit_stops ss i pages less so_far unfit are = by_reason unfit
  where
    cut : drop i ss ≡ segment_at ss i ∷ drop (i + 1) ss
    cut = drop_at ss i (record { frame = 0; pages = 0 }) less

    here : AreSegments (segment_at ss i ∷ drop (i + 1) ss)
    here = subst (λ xs. AreSegments xs) cut (so_far.later are.each)

    by_reason : IsUnfit (segment_at ss i) pages → ⊥
    by_reason (inl none) = omega (arith, none, here.0)
    by_reason (inr (inl many)) =
        omega (arith, many, are.few, so_far.counted, ap (λ xs. total_pages xs) cut, total-cons (segment_at ss i) (drop (i + 1) ss))
    by_reason (inr (inr high)) = omega (arith, high, here.1)

pub all_counted : (ss : List Segment) (i pages : ℕ) → length ss ≤ i → IsCounted ss i pages
    → (pages ≡ total_pages ss) × AreSegments ss × (pages ≤ MOST_PAGES)
all_counted ss i pages past so_far =
    let none = drop_ended ss i past in
    (omega (arith, so_far.counted, ap (λ xs. total_pages xs) none), so_far.before (subst (λ xs. AreSegments xs) (sym none) tt), so_far.few)

pub not_none : (ss : List Segment) (pages : ℕ) → pages ≡ total_pages ss → (pages ≡ 0 → ⊥) → ss ≢ []
not_none [] pages counted some same = some (omega (arith, counted))
not_none (s ∷ ss) pages counted some same = cc

-- ---- bad where they can't be asked for

all_or_one : (ss : List Segment) → AreSegments ss ⊎ SomeHas (λ s. s.pages ≡ 0) ss ⊎ SomeHas (λ s. FRAMES_END < s.frame + s.pages) ss
all_or_one [] = inl tt
all_or_one (s ∷ ss) = by_first (cases_lt s.pages 1) (cases_lt (FRAMES_END) (s.frame + s.pages)) (all_or_one ss)
  where
    by_first : (s.pages < 1) ⊎ (1 ≤ s.pages) → (FRAMES_END < s.frame + s.pages) ⊎ (s.frame + s.pages ≤ FRAMES_END)
        → AreSegments ss ⊎ SomeHas (λ s. s.pages ≡ 0) ss ⊎ SomeHas (λ s. FRAMES_END < s.frame + s.pages) ss
        → AreSegments (s ∷ ss) ⊎ SomeHas (λ s. s.pages ≡ 0) (s ∷ ss) ⊎ SomeHas (λ s. FRAMES_END < s.frame + s.pages) (s ∷ ss)
    by_first (inl none) high later = inr (inl (inl (omega (arith, none))))
    by_first (inr some) (inl high) later = inr (inr (inl high))
    by_first (inr some) (inr low) (inl each) = inl (some, low, each)
    by_first (inr some) (inr low) (inr (inl none)) = inr (inl (inr none))
    by_first (inr some) (inr low) (inr (inr high)) = inr (inr (inr high))

pub bad_else : (ss : List Segment) (order rights : ℕ) → (AreMappable ss → ⊥) → IsBadMap ss order rights
bad_else [] order rights not = inl refl
bad_else (s ∷ ss) order rights not = by_segments (all_or_one (s ∷ ss)) (cases_lt MOST_PAGES (total_pages (s ∷ ss)))
  where
    some : s ∷ ss ≢ []
    some e = cc

    by_segments : AreSegments (s ∷ ss) ⊎ SomeHas (λ s. s.pages ≡ 0) (s ∷ ss) ⊎ SomeHas (λ s. FRAMES_END < s.frame + s.pages) (s ∷ ss)
        → (MOST_PAGES < total_pages (s ∷ ss)) ⊎ (total_pages (s ∷ ss) ≤ MOST_PAGES) → IsBadMap (s ∷ ss) order rights
    by_segments (inr (inl none)) total = inr (inl none)
    by_segments (inr (inr high)) total = inr (inr (inr (inl high)))
    by_segments (inl each) (inl many) = inr (inr (inl many))
    by_segments (inl each) (inr few) = absurd (not (record { some = some; each = each; few = few }))

-- ---- table frames

pub owned_later : (frames : ℕ) (ss : List Segment) (i : ℕ) → i < length ss → (AreOwned frames ss → AreOwned frames (drop i ss))
    → ((segment_at ss i).frame < frames → ⊥) → AreOwned frames ss → AreOwned frames (drop (i + 1) ss)
owned_later frames ss i less so_far free owned =
    by_first (subst (λ xs. AreOwned frames xs) (drop_at ss i (record { frame = 0; pages = 0 }) less) (so_far owned))
  where
    by_first : AreOwned frames (segment_at ss i ∷ drop (i + 1) ss) → AreOwned frames (drop (i + 1) ss)
    by_first (inl low) = absurd (free low)
    by_first (inr later) = later

pub owned_at : (frames : ℕ) (ss : List Segment) (i : ℕ) → i < length ss → (segment_at ss i).frame < frames → AreOwned frames ss
owned_at frames [] i less low = absurd (omega (arith, less))
owned_at frames (s ∷ ss) zero less low = inl low
owned_at frames (s ∷ ss) (suc i) less low = inr (owned_at frames ss i (omega (arith, less)) low)

pub owned_none : (frames : ℕ) (ss : List Segment) (i : ℕ) → length ss ≤ i → (AreOwned frames ss → AreOwned frames (drop i ss))
    → AreOwned frames ss → ⊥
owned_none frames ss i past so_far owned = subst (λ xs. AreOwned frames xs) (drop_ended ss i past) (so_far owned)
