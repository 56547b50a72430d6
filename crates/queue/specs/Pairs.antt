-- A ring of descriptors in the pairs of words of one page. The page has 256 pairs. Those from the head up to the tail wait. The others are
-- free. From the one before the head back to the tail they hold what was taken, up to the first pair that spells none. So one more that is
-- submitted may overwrite the oldest of these.
use Rattle.std.specs.Prelude.{◌≡◌, ℕ, ◌+◌, ◌-◌, ◌%◌, ◌<◌, List, [], ◌∷◌, ◌++◌, length, take, drop, reverse, All, Option, None, Some, IsSome}
use Rattle.std.specs.List.{filter_map}
use Rattle.vtdbits.specs.declared.descriptor.Descriptor.{Descriptor}
use Rattle.vtdbits.specs.declared.words.Words.{Words}
use Rattle.queue.specs.declared.ring.TheConstants.{PAIRS}
use Rattle.vtdbits.specs.Descriptor.{descriptor_of}

-- a number of elements from a place on, around the list's end
unfoldable pub window : {A : Type 0} → ℕ → ℕ → List A → List A
window place count xs = take count (drop place xs ++ take place xs)

-- the pairs from the head up to the tail, around the page's end
abbrev pub pairs_between : ℕ → ℕ → List Words → List Words
pairs_between head tail page = window head ((tail + PAIRS - head) % PAIRS) page

-- the descriptors that they spell
abbrev pub waiting_in : ℕ → ℕ → List Words → List Descriptor
waiting_in head tail page = filter_map descriptor_of (pairs_between head tail page)

-- the pairs that are free, from the tail up to the head around the page's end, the one before the head first
abbrev pub free_pairs : ℕ → ℕ → List Words → List Words
free_pairs head tail page = reverse (window tail (PAIRS - (tail + PAIRS - head) % PAIRS) page)

abbrev pub before : Option Descriptor → List Descriptor → List Descriptor
before None ds = []
before (Some d) ds = d ∷ ds

-- the descriptors that the pairs spell, up to the first pair that spells none
unfoldable pub spelled_first : List Words → List Descriptor
spelled_first [] = []
spelled_first (w ∷ ws) = before (descriptor_of w) (spelled_first ws)

-- the descriptors that were taken last, the last one first
abbrev pub taken_in : ℕ → ℕ → List Words → List Descriptor
taken_in head tail page = spelled_first (free_pairs head tail page)

-- head and tail are places of the page, and each pair between them spells a descriptor
pub record IsRing (head tail : ℕ) (page : List Words) : Type 0 where
  pub head_inside : head < PAIRS
  pub tail_inside : tail < PAIRS
  pub pairs : length page ≡ PAIRS
  pub spelled : All (λ w. IsSome (descriptor_of w)) (pairs_between head tail page)
