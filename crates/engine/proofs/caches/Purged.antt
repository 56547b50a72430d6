-- What descriptors, one after the other, leave of the caches.
use Rattle.std.proofs.Common.{◌≡◌, ℕ, inl, inr, false, List, [], ◌∷◌, ◌++◌, refl, subst, sym}
use Rattle.dmatypes.specs.World.{IsIn}
use Rattle.unit.specs.Caches.{Caches, CachedContext, CachedFault, CachedLeaf, CachedNonLeaf}
use Rattle.unit.specs.Filters.{drops_context, drops_fault, drops_leaf, drops_non_leaf, left_by}
use Rattle.unit.proofs.caches.Members.{left_context, left_fault, left_leaf, left_non_leaf}
use Rattle.vtdbits.specs.declared.descriptor.Descriptor.{Descriptor}
use Rattle.vtdbits.specs.declared.descriptor.Descriptor.TheVariants.{Wait}
use Rattle.engine.specs.Ending.{left_by_all}
use Rattle.engine.proofs.lists.Membership.{in_right}

-- what is left was there, and the descriptor doesn't drop it
pub record Purges (x : Descriptor) (c c' : Caches) : Type 0 where
  pub leaves : (l : CachedLeaf) → IsIn l c'.leaves → IsIn l c.leaves × (drops_leaf x l ≡ false)
  pub tables : (i : CachedNonLeaf) → IsIn i c'.non_leaves → IsIn i c.non_leaves × (drops_non_leaf x i ≡ false)
  pub contexts : (k : CachedContext) → IsIn k c'.contexts → IsIn k c.contexts × (drops_context x k ≡ false)
  pub faults : (f : CachedFault) → IsIn f c'.faults → IsIn f c.faults × (drops_fault x f ≡ false)

-- what is left was there
pub record IsFewer (c c' : Caches) : Type 0 where
  pub leaves : (l : CachedLeaf) → IsIn l c'.leaves → IsIn l c.leaves
  pub tables : (i : CachedNonLeaf) → IsIn i c'.non_leaves → IsIn i c.non_leaves
  pub contexts : (k : CachedContext) → IsIn k c'.contexts → IsIn k c.contexts
  pub faults : (f : CachedFault) → IsIn f c'.faults → IsIn f c.faults

purges_one : (x : Descriptor) (c : Caches) → Purges x c (left_by x c)
purges_one x c = record {
  leaves = λ l inside. left_leaf x c l inside;
  tables = λ i inside. left_non_leaf x c i inside;
  contexts = λ k inside. left_context x c k inside;
  faults = λ f inside. left_fault x c f inside;
}

purges_before : (x : Descriptor) (a b c : Caches) → Purges x a b → IsFewer b c → Purges x a c
purges_before x a b c p f = record {
  leaves = λ l inside. p.leaves l (f.leaves l inside);
  tables = λ i inside. p.tables i (f.tables i inside);
  contexts = λ k inside. p.contexts k (f.contexts k inside);
  faults = λ y inside. p.faults y (f.faults y inside);
}

purges_behind : (x y : Descriptor) (a b c : Caches) → Purges y a b → Purges x b c → Purges x a c
purges_behind x y a b c f p = record {
  leaves = λ l inside. let k = p.leaves l inside in ((f.leaves l k.0).0, k.1);
  tables = λ i inside. let k = p.tables i inside in ((f.tables i k.0).0, k.1);
  contexts = λ n inside. let k = p.contexts n inside in ((f.contexts n k.0).0, k.1);
  faults = λ y inside. let k = p.faults y inside in ((f.faults y k.0).0, k.1);
}

-- what descriptors leave was there
pub fewer_by_all : (ds : List Descriptor) (c : Caches) → IsFewer c (left_by_all ds c)
unfolding left_by_all
fewer_by_all [] c = record {
  leaves = λ l inside. inside;
  tables = λ i inside. inside;
  contexts = λ k inside. inside;
  faults = λ f inside. inside;
}
fewer_by_all (d ∷ ds) c =
    let later = fewer_by_all ds (left_by d c) in
    record {
      leaves = λ l inside. (left_leaf d c l (later.leaves l inside)).0;
      tables = λ i inside. (left_non_leaf d c i (later.tables i inside)).0;
      contexts = λ k inside. (left_context d c k (later.contexts k inside)).0;
      faults = λ f inside. (left_fault d c f (later.faults f inside)).0;
    }

-- and none of them drops it
pub purges_by_all : (x : Descriptor) (ds : List Descriptor) (c : Caches) → IsIn x ds → Purges x c (left_by_all ds c)
unfolding left_by_all
purges_by_all x [] c inside = absurd inside
purges_by_all x (d ∷ ds) c (inl same) =
    purges_before x c (left_by d c) (left_by_all ds (left_by d c)) (subst (λ y. Purges x c (left_by y c)) same (purges_one x c))
    (fewer_by_all ds (left_by d c))
purges_by_all x (d ∷ ds) c (inr rest) =
    purges_behind x d c (left_by d c) (left_by_all ds (left_by d c)) (purges_one d c) (purges_by_all x ds (left_by d c) rest)

-- a descriptor that is sent with a wait drops none of what is left
pub purges_sent : (waiting : List Descriptor) (x : Descriptor) (n : ℕ) (c c' : Caches) → c' ≡ left_by_all (waiting ++ x ∷ Wait n ∷ []) c
    → Purges x c c'
purges_sent waiting x n c c' is =
    subst (λ y. Purges x c y) (sym is) (purges_by_all x (waiting ++ x ∷ Wait n ∷ []) c (in_right x waiting (x ∷ Wait n ∷ []) (inl refl)))
