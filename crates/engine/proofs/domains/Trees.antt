-- A tree that a call of another domain leaves as it was.
use Rattle.std.proofs.Common.{◌≡◌, ℕ, List, refl, sym, subst}
use Rattle.dmatypes.specs.Page.{levels}
use Rattle.dmatypes.specs.declared.width.Width.{Width}
use Rattle.tables.specs.Changes.{TreeStays}
use Rattle.tables.specs.Pool.{Pool, memory}
use Rattle.tables.specs.Spelled.{AreSpelled}
use Rattle.tables.specs.Tree.{leaf_from, table_from, uses}

-- a tree that has the same leaves, tables and frames in both, and whose words spell entries still
pub record SameTree (words words' : List ℕ) (width : Width) (root : ℕ) : Type 0 where
  pub leaves : (p : ℕ) → leaf_from (memory words') (levels width) root p ≡ leaf_from (memory words) (levels width) root p
  pub tables : (p w : ℕ) → table_from (memory words') (levels width) root p w ≡ table_from (memory words) (levels width) root p w
  pub frames : (f : ℕ) → uses (memory words') (levels width) root f ≡ uses (memory words) (levels width) root f
  pub spelled : AreSpelled words (levels width) root → AreSpelled words' (levels width) root

pub same_tree : (words words' : List ℕ) (width : Width) (root : ℕ) → words' ≡ words → SameTree words words' width root
same_tree words words' width root same =
    subst (λ ws. SameTree words ws width root) (sym same)
    (record { leaves = λ p. refl; tables = λ p w. refl; frames = λ f. refl; spelled = λ s. s })

pub tree_stays : (old new : Pool) (words : List ℕ) (width : Width) (root : ℕ) → TreeStays old new (levels width) root → words ≡ new.words
    → SameTree old.words words width root
tree_stays old new words width root stays same =
    subst (λ ws. SameTree old.words ws width root) (sym same)
    (record { leaves = stays.same_leaves; tables = stays.same_tables; frames = stays.same_frames; spelled = stays.spelled })
