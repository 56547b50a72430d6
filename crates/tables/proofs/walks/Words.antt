-- From the words of frames to the entries that a walk sees.
use Rattle.std.proofs.Common.{◌≡◌, ℕ, List, refl, ap, ◌∙◌}
use Rattle.vtdbits.specs.Entry.{look}
use Rattle.vtdbits.proofs.Entries.{look-zero}
use Rattle.tables.specs.Pool.{word, memory, IsZeroed}
use Rattle.tables.proofs.walks.Onward.{IsBare}

pub memory_at : (words : List ℕ) (l t k : ℕ) → memory words l t k ≡ look l (word words t k)
unfolding memory
memory_at words l t k = refl

pub same_entry : (old new : List ℕ) (l t k : ℕ) → word new t k ≡ word old t k → memory new l t k ≡ memory old l t k
unfolding memory
same_entry old new l t k e = ap (look l) e

pub zeroed_bare : (words : List ℕ) (f : ℕ) → IsZeroed words f → IsBare (memory words) f
unfolding memory
zeroed_bare words f z l k lt = ap (look l) (z k lt) ∙ look-zero l
