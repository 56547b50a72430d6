-- What the free pairs of a page, those behind the head, spell.
use Rattle.std.proofs.Common.{◌≡◌, ℕ, zero, suc, ◌+◌, ◌-◌, ◌%◌, ◌<◌, ◌≢◌, List, [], ◌∷◌, ◌++◌, length, get_or, set, take, reverse, Option}
use Rattle.std.proofs.Common.{None, Some, refl, ap, sym, ◌∙◌, arith, length-set}
use Rattle.std.proofs.lemmas.List.{same_lists, set-get_or, get_or-set_other, get_or-reverse, reverse-append, length-reverse, take_at}
use Rattle.vtdbits.specs.declared.descriptor.Descriptor.{Descriptor}
use Rattle.vtdbits.specs.declared.words.Words.{Words}
use Rattle.vtdbits.specs.Descriptor.{descriptor_of}
use Rattle.queue.specs.Pairs.{window, before, free_pairs, spelled_first, taken_in, IsRing}
use Rattle.queue.specs.declared.ring.TheConstants.{PAIRS}
use Rattle.queue.specs.declared.ring.TheConstants.Ring.{CAPACITY}
use Rattle.queue.proofs.Windows.{around_once, length-window, get_or-window, window_first, window_set}

-- ---- what a list of pairs spells

-- nothing, where its first pair spells none
spelled-nothing : (ws : List Words) (d : Words) → descriptor_of (get_or ws 0 d) ≡ None → spelled_first ws ≡ []
unfolding spelled_first
spelled-nothing [] d none = refl
spelled-nothing (w ∷ ws) d none = ap (λ (o : Option Descriptor). before o (spelled_first ws)) none

before-take : (o : Option Descriptor) (n : ℕ) (ds : List Descriptor) → before o (take n ds) ≡ take (suc n) (before o ds)
before-take None n ds = refl
before-take (Some d) n ds = refl

-- a beginning spells a beginning
spelled-take : (n : ℕ) (ws : List Words) → spelled_first (take n ws) ≡ take n (spelled_first ws)
unfolding spelled_first
spelled-take zero ws = refl
spelled-take (suc n) [] = refl
spelled-take (suc n) (w ∷ ws) = ap (before (descriptor_of w)) (spelled-take n ws) ∙ before-take (descriptor_of w) n (spelled_first ws)

-- ---- a page in which nothing was written

pub taken-none : (page : List Words) (d : Words) → length page ≡ PAIRS → descriptor_of (get_or page (PAIRS - 1) d) ≡ None
    → taken_in 0 0 page ≡ []
taken-none page d all none =
    let many = length-window PAIRS 0 PAIRS page (omega arith) (omega arith) all in
    let last : get_or (free_pairs 0 0 page) 0 d ≡ get_or page (PAIRS - 1) d =
    get_or-reverse (window 0 PAIRS page) 0 d (omega (arith, many)) ∙ ap (λ k. get_or (window 0 PAIRS page) (k - 1 - 0) d) many
    ∙ get_or-window PAIRS 0 PAIRS page (omega arith) (omega arith) all (PAIRS - 1) d (omega arith) in
    spelled-nothing (free_pairs 0 0 page) d (ap descriptor_of last ∙ none)

-- ---- one pair more, and one less

module _ {A : Type 0} (N k n : ℕ) (xs : List A) (inside : k < N) (fits : n < N) (all : length xs ≡ N) where
  -- a longer window has one element more at its end
  window_last : (d : A) → window k (n + 1) xs ≡ window k n xs ++ get_or xs ((k + n) % N) d ∷ []
  window_last d =
      ap (window k (n + 1)) (sym (set-get_or xs ((k + n) % N) d))
      ∙ window_set N k n xs inside (omega arith) all (get_or xs ((k + n) % N) d) fits

  -- what is written just before a window isn't seen in it
  window_past : (x : A) → window ((k + 1) % N) n (set xs k x) ≡ window ((k + 1) % N) n xs
  window_past x =
      let next_inside : (k + 1) % N < N = grind (arith, around_once N (k + 1) (omega arith)) in
      let all_written = length-set xs k x ∙ all in
      let length_old = length-window N ((k + 1) % N) n xs next_inside (omega arith) all in
      let length_new = length-window N ((k + 1) % N) n (set xs k x) next_inside (omega arith) all_written in
      same_lists _ _ (length_new ∙ sym length_old) (λ i d within.
      let below : i < n = omega (arith, within, length_new) in
      let elsewhere : ((k + 1) % N + i) % N ≢ k =
      λ same. absurd (omega (arith, same, around_once N (k + 1) (omega arith), around_once N ((k + 1) % N + i) (omega arith))) in
      get_or-window N ((k + 1) % N) n (set xs k x) next_inside (omega arith) all_written i d below
      ∙ get_or-set_other xs k (((k + 1) % N + i) % N) x d elsewhere
      ∙ sym (get_or-window N ((k + 1) % N) n xs next_inside (omega arith) all i d below))

module _ (head tail : ℕ) (page : List Words) (ring : IsRing head tail page) where
  -- the pair at the head is then the first of them
  pub taken_fetched : (next : ℕ) (d : Words) (x : Descriptor) → next ≡ (head + 1) % PAIRS → head ≢ tail
      → descriptor_of (get_or page head d) ≡ Some x → taken_in next tail page ≡ x ∷ taken_in head tail page
  unfolding spelled_first
  taken_fetched next d x follows some spells =
      let free : ℕ = PAIRS - (tail + PAIRS - head) % PAIRS in
      let head_inside = ring.head_inside in
      let tail_inside = ring.tail_inside in
      let fits : free < PAIRS = omega arith in
      let at_head : (tail + free) % PAIRS ≡ head = omega arith in
      let more : PAIRS - (tail + PAIRS - next) % PAIRS ≡ free + 1 = omega arith in
      let pairs : free_pairs next tail page ≡ get_or page head d ∷ free_pairs head tail page =
      ap (λ (n : ℕ). reverse (window tail n page)) more
      ∙ ap reverse (window_last PAIRS tail free page tail_inside fits ring.pairs d)
      ∙ reverse-append (window tail free page) (get_or page ((tail + free) % PAIRS) d ∷ [])
      ∙ ap (λ (i : ℕ). get_or page i d ∷ free_pairs head tail page) at_head in
      ap spelled_first pairs ∙ ap (λ (o : Option Descriptor). before o (taken_in head tail page)) spells

  -- the pair at the tail was the last of them
  pub taken_submitted : (next : ℕ) (w : Words) → next ≡ (tail + 1) % PAIRS → next ≢ head
      → taken_in head next (set page tail w) ≡ take (CAPACITY - (tail + PAIRS - head) % PAIRS) (taken_in head tail page)
  taken_submitted next w follows room =
      let free : ℕ = PAIRS - (tail + PAIRS - head) % PAIRS in
      let less : ℕ = CAPACITY - (tail + PAIRS - head) % PAIRS in
      let head_inside = ring.head_inside in
      let tail_inside = ring.tail_inside in
      let one : free - 1 ≡ less = omega arith in
      let fewer : PAIRS - (next + PAIRS - head) % PAIRS ≡ less = omega arith in
      let next_inside : (tail + 1) % PAIRS < PAIRS = omega arith in
      let length_less =
      length-reverse (window ((tail + 1) % PAIRS) less page)
      ∙ length-window PAIRS ((tail + 1) % PAIRS) less page next_inside (omega arith) ring.pairs in
      let now : free_pairs head next (set page tail w) ≡ reverse (window ((tail + 1) % PAIRS) less page) =
      ap (λ (n : ℕ). reverse (window next n (set page tail w))) fewer
      ∙ ap (λ (k : ℕ). reverse (window k less (set page tail w))) follows
      ∙ ap reverse (window_past PAIRS tail less page tail_inside (omega arith) ring.pairs w) in
      let then : free_pairs head tail page ≡ reverse (window ((tail + 1) % PAIRS) less page) ++ get_or page tail w ∷ [] =
      ap reverse (window_first PAIRS tail free page tail_inside (omega arith) ring.pairs w (omega arith))
      ∙ reverse-append (get_or page tail w ∷ []) (window ((tail + 1) % PAIRS) (free - 1) page)
      ∙ ap (λ (n : ℕ). reverse (window ((tail + 1) % PAIRS) n page) ++ get_or page tail w ∷ []) one in
      ap spelled_first
      (now ∙ sym
      (ap (take less) then ∙ take_at (reverse (window ((tail + 1) % PAIRS) less page)) (get_or page tail w ∷ []) less length_less))
      ∙ spelled-take less (free_pairs head tail page)
