-- A tree whose root is a zeroed frame.
use Rattle.std.proofs.Common.{◌≡◌, ℕ, suc, ◌+◌, arith}
use Rattle.dmatypes.specs.Page.{levels}
use Rattle.dmatypes.specs.declared.width.Width.{Width}
use Rattle.dmatypes.specs.declared.width.Width.TheVariants.{W39, W48}
use Rattle.tables.specs.Tree.{Memory, one_if_same, uses}
use Rattle.tables.proofs.walks.Onward.{IsBare}
use Rattle.tables.specs.Pool.{Pool, memory, occurs, IsTree, IsPool, IsZeroed}
use Rattle.tables.proofs.walks.Words.{zeroed_bare}
use Rattle.tables.proofs.walks.Steps.{uses-bare}

pub fresh_tree : (old new : Pool) (l t : ℕ) → IsPool old → new.frames ≡ old.frames → IsZeroed new.words t
    → ((f : ℕ) → occurs f new.free + one_if_same t f ≡ occurs f old.free) → IsTree new (suc l) t
fresh_tree old new l t pool frames zeroed free = record {
  once = λ f. omega (arith, uses-bare (memory new.words) l t f (zeroed_bare new.words t zeroed), free f, pool.once f);
  within =
      λ f past. omega (arith, uses-bare (memory new.words) l t f (zeroed_bare new.words t zeroed), free f, pool.within f (omega arith));
}

-- the root of a tree of a width
pub fresh_root : (old new : Pool) (width : Width) (t : ℕ) → IsPool old → new.frames ≡ old.frames → IsZeroed new.words t
    → ((f : ℕ) → occurs f new.free + one_if_same t f ≡ occurs f old.free) → IsTree new (levels width) t
fresh_root old new W39 t pool frames zeroed free = fresh_tree old new 2 t pool frames zeroed free
fresh_root old new W48 t pool frames zeroed free = fresh_tree old new 3 t pool frames zeroed free

pub uses-root : (m : Memory) (width : Width) (t f : ℕ) → IsBare m t → uses m (levels width) t f ≡ one_if_same t f
uses-root m W39 t f bare = uses-bare m 2 t f bare
uses-root m W48 t f bare = uses-bare m 3 t f bare
