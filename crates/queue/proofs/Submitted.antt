-- What all pairs of a page spell, from the one before the tail back.
use Rattle.std.proofs.Common.{◌≡◌, ℕ, zero, suc, ◌+◌, ◌-◌, ◌%◌, ◌<◌, ◌≤◌, List, [], ◌∷◌, ◌++◌, length, get_or, reverse, Option, None, Some}
use Rattle.std.proofs.Common.{All, slice_get, refl, ap, subst, sym, ◌∙◌, arith, inl, inr, length-append}
use native.Mathlib.Nat.{mod-add-mod}
use Rattle.std.specs.List.{cons_option, filter_map}
use Rattle.std.proofs.lemmas.Bool.{cases_lt}
use Rattle.std.proofs.lemmas.List.{same_lists, get_or_append_left, get_or-append_right, get_or-reverse, reverse-append, length-reverse}
use Rattle.std.proofs.lemmas.List.{append-nil}
use Rattle.std.proofs.lemmas.List.Elements.{All-tail, filter_map-append}
use Rattle.std.proofs.lemmas.Option.{slice_get_cases, slice_get_past}
use Rattle.vtdbits.specs.declared.descriptor.Descriptor.{Descriptor}
use Rattle.vtdbits.specs.declared.words.Words.{Words}
use Rattle.vtdbits.specs.Descriptor.{descriptor_of}
use Rattle.queue.specs.Pairs.{window, before, pairs_between, waiting_in, free_pairs, spelled_first, taken_in, IsRing}
use Rattle.queue.specs.Ring.{Ring, ring_of, submitted_in}
use Rattle.queue.specs.declared.ring.TheConstants.{PAIRS}
use Rattle.queue.proofs.Waiting.{IsSpelled, some_of}
use Rattle.queue.proofs.Windows.{around_once, length-window, get_or-window}

-- ---- what a list of pairs spells

before_first : (o : Option Descriptor) (ds : List Descriptor) → slice_get (before o ds) 0 ≡ o
before_first None ds = refl
before_first (Some d) ds = refl

before_next : (o : Option Descriptor) (ds : List Descriptor) (k : ℕ) → suc k ≤ length (before o ds)
    → (k ≤ length ds) × (slice_get (before o ds) (suc k) ≡ slice_get ds k)
before_next None ds k reached = absurd (omega arith)
before_next (Some d) ds k reached = (omega (arith, reached), refl)

-- a pair spells a descriptor of the list, where those before it spell one each
pub spelled_at : (ws : List Words) (k : ℕ) (d : Words) → k < length ws → k ≤ length (spelled_first ws)
    → slice_get (spelled_first ws) k ≡ descriptor_of (get_or ws k d)
unfolding spelled_first
spelled_at [] k d within reached = absurd (omega arith)
spelled_at (w ∷ ws) zero d within reached = before_first (descriptor_of w) (spelled_first ws)
spelled_at (w ∷ ws) (suc k) d within reached =
    let next = before_next (descriptor_of w) (spelled_first ws) k reached in
    next.1 ∙ spelled_at ws k d (omega arith) next.0

before_length : (o : Option Descriptor) (ds : List Descriptor) → length (before o ds) ≤ suc (length ds)
before_length None ds = omega arith
before_length (Some d) ds = omega arith

-- there are no more descriptors than pairs
pub spelled_few : (ws : List Words) → length (spelled_first ws) ≤ length ws
unfolding spelled_first
spelled_few [] = omega arith
spelled_few (w ∷ ws) = omega (arith, before_length (descriptor_of w) (spelled_first ws), spelled_few ws)

-- what pairs spell that spell one each comes before what the others spell
spelled-append : (ws vs : List Words) → All IsSpelled ws → spelled_first (ws ++ vs) ≡ filter_map descriptor_of ws ++ spelled_first vs
unfolding spelled_first
spelled-append [] vs all = refl
spelled-append (w ∷ ws) vs all =
    let d = some_of (descriptor_of w) (all 0 w (omega arith)) in
    rw d.1 (ap (λ (ds : List Descriptor). d.0 ∷ ds) (spelled-append ws vs (All-tail IsSpelled w ws all)))

-- ---- backwards

option_reversed : (o : Option Descriptor) (ds : List Descriptor) → reverse (cons_option o ds) ≡ reverse ds ++ cons_option o []
option_reversed None ds = sym (append-nil (reverse ds))
option_reversed (Some d) ds = reverse-append (d ∷ []) ds

filter_map-reverse : (ws : List Words) → filter_map descriptor_of (reverse ws) ≡ reverse (filter_map descriptor_of ws)
filter_map-reverse [] = refl
filter_map-reverse (w ∷ ws) =
    ap (filter_map descriptor_of) (reverse-append (w ∷ []) ws)
    ∙ filter_map-append descriptor_of (reverse ws) (w ∷ [])
    ∙ ap (λ (ds : List Descriptor). ds ++ cons_option (descriptor_of w) []) (filter_map-reverse ws)
    ∙ sym (option_reversed (descriptor_of w) (filter_map descriptor_of ws))

spelled-reverse : (ws : List Words) → All IsSpelled ws → All IsSpelled (reverse ws)
spelled-reverse ws all k d below =
    let long = length-reverse ws in
    subst IsSpelled (sym (get_or-reverse ws k d (omega arith))) (all (length ws - 1 - k) d (omega arith))

-- ---- the pairs of a page

module _ {A : Type 0} (N k n m : ℕ) (xs : List A) (inside : k < N) (fits : n + m ≤ N) (all : length xs ≡ N) where
  -- a window is its beginning and the window from there on
  window_joined : window k (n + m) xs ≡ window k n xs ++ window ((k + n) % N) m xs
  window_joined =
      let next_inside : (k + n) % N < N = grind (arith, around_once N (k + n) (omega arith)) in
      let whole = length-window N k (n + m) xs inside fits all in
      let left = length-window N k n xs inside (omega arith) all in
      let right = length-window N ((k + n) % N) m xs next_inside (omega arith) all in
      same_lists _ _ (simp length-append (omega (arith, whole, left, right))) (λ i d within. elim (cases_lt i n) [
        | inl low ↦
            get_or-window N k (n + m) xs inside fits all i d (omega arith)
            ∙ sym (get_or_append_left _ _ d i (omega (arith, left)) ∙ get_or-window N k n xs inside (omega arith) all i d low)
        | inr high ↦
            get_or-window N k (n + m) xs inside fits all i d (omega (arith, whole))
            ∙ ap (λ (j : ℕ). get_or xs j d) (ap (λ (j : ℕ). j % N) (omega arith) ∙ sym (mod-add-mod (k + n) N (i - n)))
            ∙ sym (get_or-append_right _ _ n i d left high
            ∙ get_or-window N ((k + n) % N) m xs next_inside (omega arith) all (i - n) d (omega (arith, whole)))
      ])

module _ (head tail : ℕ) (page : List Words) (ring : IsRing head tail page) where
  -- what waits, the last one first, and then what was taken
  pub submitted_spelled : spelled_first (reverse (window tail PAIRS page)) ≡ reverse (waiting_in head tail page) ++ taken_in head tail page
  submitted_spelled =
      let count : ℕ = (tail + PAIRS - head) % PAIRS in
      let free : ℕ = PAIRS - (tail + PAIRS - head) % PAIRS in
      let head_inside = ring.head_inside in
      let tail_inside = ring.tail_inside in
      let whole : PAIRS ≡ free + count = omega arith in
      let at_head : (tail + free) % PAIRS ≡ head = omega arith in
      let joined : window tail PAIRS page ≡ window tail free page ++ window head count page =
      ap (λ (n : ℕ). window tail n page) whole
      ∙ window_joined PAIRS tail free count page tail_inside (omega arith) ring.pairs
      ∙ ap (λ (k : ℕ). window tail free page ++ window k count page) at_head in
      ap spelled_first (ap reverse joined ∙ reverse-append (window tail free page) (window head count page))
      ∙ spelled-append (reverse (pairs_between head tail page)) (free_pairs head tail page)
      (spelled-reverse (pairs_between head tail page) ring.spelled)
      ∙ ap (λ (ds : List Descriptor). ds ++ taken_in head tail page) (filter_map-reverse (pairs_between head tail page))

  -- the pair that is so many before the one before the tail
  pair_at : (k : ℕ) (d : Words) → k < PAIRS
      → get_or (reverse (window tail PAIRS page)) k d ≡ get_or page ((tail + PAIRS - 1 - k) % PAIRS) d
  pair_at k d within =
      let tail_inside = ring.tail_inside in
      let long = length-window PAIRS tail PAIRS page tail_inside (omega arith) ring.pairs in
      get_or-reverse (window tail PAIRS page) k d (omega arith)
      ∙ ap (λ (n : ℕ). get_or (window tail PAIRS page) (n - 1 - k) d) long
      ∙ get_or-window PAIRS tail PAIRS page tail_inside (omega arith) ring.pairs (PAIRS - 1 - k) d (omega arith)
      ∙ ap (λ (j : ℕ). get_or page (j % PAIRS) d) (omega arith)

  module _ (status : ℕ) (q : Ring) (view : ring_of (waiting_in head tail page) status (taken_in head tail page) ≡ q) where
    seen : spelled_first (reverse (window tail PAIRS page)) ≡ submitted_in q
    seen = submitted_spelled ∙ ap submitted_in view

    -- the page holds no more descriptors than it has pairs
    pub submitted_few : length (submitted_in q) ≤ PAIRS
    submitted_few =
        let tail_inside = ring.tail_inside in
        omega (
          arith,
          ap length seen,
          spelled_few (reverse (window tail PAIRS page)),
          length-reverse (window tail PAIRS page),
          length-window PAIRS tail PAIRS page tail_inside (omega arith) ring.pairs,
        )

    -- where the pairs behind the tail's one spell a descriptor each, so many of them, the next one spells what was submitted then
    pub submitted_at : (k : ℕ) (d : Words) → k < PAIRS → k ≤ length (submitted_in q)
        → slice_get (submitted_in q) k ≡ descriptor_of (get_or page ((tail + PAIRS - 1 - k) % PAIRS) d)
    submitted_at k d within reached =
        let long = length-reverse (window tail PAIRS page) in
        let pairs = length-window PAIRS tail PAIRS page ring.tail_inside (omega arith) ring.pairs in
        ap (λ (ds : List Descriptor). slice_get ds k) (sym seen)
        ∙ spelled_at (reverse (window tail PAIRS page)) k d (omega (arith, long, pairs)) (omega (arith, ap length seen))
        ∙ ap descriptor_of (pair_at k d within)

-- behind the end of a list there is nothing
pub none_behind : (ds : List Descriptor) (k n : ℕ) → slice_get ds k ≡ None → k ≤ n → slice_get ds n ≡ None
none_behind ds k n none behind = elim (slice_get_cases ds k).1 [
  | inl there ↦ absurd (cc (there.2))
  | inr past ↦ slice_get_past ds n (omega (arith, past.0))
]
