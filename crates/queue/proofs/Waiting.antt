-- What the pairs of a page between head and tail spell.
use Rattle.std.proofs.Common.{◌≡◌, ℕ, ◌+◌, ◌-◌, ◌%◌, ◌<◌, ◌≢◌, suc, List, [], ◌∷◌, ◌++◌, length, get_or, set, Option, Some, None, IsSome}
use Rattle.std.proofs.Common.{All, refl, ap, subst, ◌∙◌, arith, length-set}
use Rattle.std.specs.List.{filter_map, cons_option}
use Rattle.std.proofs.lemmas.List.Elements.{All-nil, All-cons, All-tail, All-append, filter_map-append}
use Rattle.vtdbits.specs.declared.descriptor.Descriptor.{Descriptor}
use Rattle.vtdbits.specs.declared.words.Words.{Words}
use Rattle.vtdbits.specs.Descriptor.{descriptor_of}
use Rattle.queue.specs.Pairs.{window, pairs_between, waiting_in, IsRing}
use Rattle.queue.specs.declared.ring.TheConstants.{PAIRS}
use Rattle.queue.proofs.Windows.{length-window, window-none, window_set, window_first}

-- the pair spells a descriptor
abbrev pub IsSpelled : Words → Type 0
IsSpelled w = IsSome (descriptor_of w)

pub some_of : {Y : Type 0} (r : Option Y) → IsSome r → (y : Y) × (r ≡ Some y)
some_of None h = absurd (cc)
some_of (Some y) h = (y, refl)

-- where each pair spells a descriptor there are as many descriptors as pairs
length-spelled : (ws : List Words) → All IsSpelled ws → length (filter_map descriptor_of ws) ≡ length ws
length-spelled [] all = refl
length-spelled (w ∷ ws) all =
    let d = some_of (descriptor_of w) (all 0 w (omega arith)) in
    rw d.1 (ap suc (length-spelled ws (All-tail IsSpelled w ws all)))

-- the first pair spells the first descriptor
first_spelled : (w : Words) (ws : List Words) → All IsSpelled (w ∷ ws)
    → (d : Descriptor) × (descriptor_of w ≡ Some d) × (filter_map descriptor_of (w ∷ ws) ≡ d ∷ filter_map descriptor_of ws)
first_spelled w ws all =
    let d = some_of (descriptor_of w) (all 0 w (omega arith)) in
    (d.0, d.1, ap (λ (r : Option Descriptor). cons_option r (filter_map descriptor_of ws)) d.1)

-- nothing waits where head and tail are one
pub spelled-empty : (k : ℕ) (page : List Words) → All IsSpelled (window k 0 page)
spelled-empty k page = rw window-none (All-nil IsSpelled)

module _ (head tail : ℕ) (page : List Words) (ring : IsRing head tail page) where
  -- as many descriptors wait as there are places from the head up to the tail
  pub length-waiting_in : length (waiting_in head tail page) ≡ (tail + PAIRS - head) % PAIRS
  length-waiting_in =
      length-spelled (pairs_between head tail page) ring.spelled
      ∙ length-window PAIRS head _ page ring.head_inside (omega arith) ring.pairs

  -- a pair written at the tail waits behind the others
  pairs_behind : (next : ℕ) (w : Words) → next ≡ (tail + 1) % PAIRS → next ≢ head
      → pairs_between head next (set page tail w) ≡ pairs_between head tail page ++ w ∷ []
  pairs_behind next w follows room =
      let count : ℕ = (tail + PAIRS - head) % PAIRS in
      let head_inside = ring.head_inside in
      let tail_inside = ring.tail_inside in
      let few : count < PAIRS = omega arith in
      let at_tail : (head + count) % PAIRS ≡ tail = omega arith in
      let more : (next + PAIRS - head) % PAIRS ≡ count + 1 = omega arith in
      let written = window_set PAIRS head count page ring.head_inside (omega arith) ring.pairs w few in
      rw more (subst (λ (t : ℕ). window head (count + 1) (set page t w) ≡ window head count page ++ w ∷ []) at_tail written)

  pub ring_submitted : (next : ℕ) (w : Words) (d : Descriptor) → next ≡ (tail + 1) % PAIRS → next ≢ head
      → descriptor_of w ≡ Some d → IsRing head next (set page tail w)
  ring_submitted next w d follows room spells = record {
    head_inside = ring.head_inside;
    tail_inside = omega arith;
    pairs = length-set page tail w ∙ ring.pairs;
    spelled = rw (pairs_behind next w follows room)
        (All-append IsSpelled _ _ ring.spelled (All-cons IsSpelled w [] (rw spells refl) (All-nil IsSpelled)));
  }

  pub waiting_submitted : (next : ℕ) (w : Words) (d : Descriptor) → next ≡ (tail + 1) % PAIRS → next ≢ head
      → descriptor_of w ≡ Some d → waiting_in head next (set page tail w) ≡ waiting_in head tail page ++ d ∷ []
  waiting_submitted next w d follows room spells =
      rw (pairs_behind next w follows room, filter_map-append, spells) refl

  -- the pair at the head is the first that waits
  pairs_ahead : (next : ℕ) (d : Words) → next ≡ (head + 1) % PAIRS → head ≢ tail
      → pairs_between head tail page ≡ get_or page head d ∷ pairs_between next tail page
  pairs_ahead next d follows some =
      let count : ℕ = (tail + PAIRS - head) % PAIRS in
      let head_inside = ring.head_inside in
      let tail_inside = ring.tail_inside in
      let any : 0 < count = omega arith in
      let less : (tail + PAIRS - next) % PAIRS ≡ count - 1 = omega arith in
      rw (less, follows) (window_first PAIRS head count page ring.head_inside (omega arith) ring.pairs d any)

  pub ring_fetched : (next : ℕ) → next ≡ (head + 1) % PAIRS → head ≢ tail → IsRing next tail page
  ring_fetched next follows some = record {
    head_inside = omega arith;
    tail_inside = ring.tail_inside;
    pairs = ring.pairs;
    spelled = λ k d below.
        All-tail IsSpelled (get_or page head d) _ (subst (All IsSpelled) (pairs_ahead next d follows some) ring.spelled) k d below;
  }

  -- it spells a descriptor, the first that waits
  pub first_waiting : (next : ℕ) (d : Words) → next ≡ (head + 1) % PAIRS → head ≢ tail
      → (x : Descriptor) × (descriptor_of (get_or page head d) ≡ Some x) × (waiting_in head tail page ≡ x ∷ waiting_in next tail page)
  first_waiting next d follows some =
      let ahead = pairs_ahead next d follows some in
      let first = first_spelled (get_or page head d) (pairs_between next tail page) (subst (All IsSpelled) ahead ring.spelled) in
      (first.0, first.1, ap (filter_map descriptor_of) ahead ∙ first.2)
