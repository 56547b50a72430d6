-- What is in the caches after a step, an eviction and a request, entry by entry.
use Rattle.std.proofs.Common.{◌≡◌, ℕ, zero, suc, inl, inr, Bool, true, false, not, List, [], ◌∷◌, remove, Option, Some, None}
use Rattle.std.proofs.Common.{refl, sym}
use Rattle.std.proofs.lemmas.Option.{same_Some}
use Rattle.dmatypes.specs.World.{IsIn}
use Rattle.dmatypes.proofs.lists.Filtered.{in_filter}
use Rattle.dmatypes.specs.declared.call.Cache.{Cache}
use Rattle.dmatypes.specs.declared.call.Cache.TheVariants as kinds
use Rattle.vtdbits.specs.declared.descriptor.Descriptor.{Descriptor}
use Rattle.tables.specs.Tree.{LeafEntry}
use Rattle.unit.specs.Caches.{CachedLeaf, CachedNonLeaf, CachedContext, CachedFault, Caches, without}
use Rattle.unit.specs.Filters.{drops_leaf, drops_non_leaf, drops_context, drops_fault, left_by}
use Rattle.unit.specs.Walking.{met, met_leaf}

-- ---- lists

-- what a list has without the element at a place was there
pub in_remove : {A : Type 0} (y : A) (xs : List A) (place : ℕ) → IsIn y (remove xs place) → IsIn y xs
in_remove y [] zero h = h
in_remove y [] (suc k) h = h
in_remove y (x ∷ xs) zero h = inr h
in_remove y (x ∷ xs) (suc k) (inl same) = inl same
in_remove y (x ∷ xs) (suc k) (inr h) = inr (in_remove y xs k h)

pub of_not : (b : Bool) → not b ≡ true → b ≡ false
of_not true e = sym e
of_not false e = refl

-- ---- descriptors

-- what a descriptor leaves was there, and the descriptor doesn't drop it
pub left_leaf : (d : Descriptor) (c : Caches) (l : CachedLeaf) → IsIn l (left_by d c).leaves → IsIn l c.leaves × (drops_leaf d l ≡ false)
left_leaf d c l h = let k = in_filter (λ l. not (drops_leaf d l)) l c.leaves h in (k.0, of_not (drops_leaf d l) k.1)

pub left_non_leaf : (d : Descriptor) (c : Caches) (t : CachedNonLeaf) → IsIn t (left_by d c).non_leaves
    → IsIn t c.non_leaves × (drops_non_leaf d t ≡ false)
left_non_leaf d c t h = let k = in_filter (λ t. not (drops_non_leaf d t)) t c.non_leaves h in (k.0, of_not (drops_non_leaf d t) k.1)

pub left_context : (d : Descriptor) (c : Caches) (x : CachedContext) → IsIn x (left_by d c).contexts
    → IsIn x c.contexts × (drops_context d x ≡ false)
left_context d c x h = let k = in_filter (λ x. not (drops_context d x)) x c.contexts h in (k.0, of_not (drops_context d x) k.1)

pub left_fault : (d : Descriptor) (c : Caches) (f : CachedFault) → IsIn f (left_by d c).faults → IsIn f c.faults × (drops_fault d f ≡ false)
left_fault d c f h = let k = in_filter (λ f. not (drops_fault d f)) f c.faults h in (k.0, of_not (drops_fault d f) k.1)

-- ---- evictions

-- what an eviction leaves was there
pub without_leaf : (kind : Cache) (place : ℕ) (c : Caches) (l : CachedLeaf) → IsIn l (without kind place c).leaves → IsIn l c.leaves
without_leaf kinds.Leaf place c l h = in_remove l c.leaves place h
without_leaf kinds.NonLeaf place c l h = h
without_leaf kinds.Context place c l h = h
without_leaf kinds.Fault place c l h = h

pub without_non_leaf : (kind : Cache) (place : ℕ) (c : Caches) (t : CachedNonLeaf) → IsIn t (without kind place c).non_leaves
    → IsIn t c.non_leaves
without_non_leaf kinds.Leaf place c t h = h
without_non_leaf kinds.NonLeaf place c t h = in_remove t c.non_leaves place h
without_non_leaf kinds.Context place c t h = h
without_non_leaf kinds.Fault place c t h = h

pub without_context : (kind : Cache) (place : ℕ) (c : Caches) (x : CachedContext) → IsIn x (without kind place c).contexts
    → IsIn x c.contexts
without_context kinds.Leaf place c x h = h
without_context kinds.NonLeaf place c x h = h
without_context kinds.Context place c x h = in_remove x c.contexts place h
without_context kinds.Fault place c x h = h

pub without_fault : (kind : Cache) (place : ℕ) (c : Caches) (f : CachedFault) → IsIn f (without kind place c).faults → IsIn f c.faults
without_fault kinds.Leaf place c f h = h
without_fault kinds.NonLeaf place c f h = h
without_fault kinds.Context place c f h = h
without_fault kinds.Fault place c f h = in_remove f c.faults place h

-- ---- requests

-- a leaf that a walk met is that of the entry on the page's way
pub met_is : (domain page : ℕ) (r : Option LeafEntry) (l : CachedLeaf) → met domain page r ≡ Some l
    → (x : LeafEntry) × (r ≡ Some x) × (l ≡ met_leaf domain page x)
met_is domain page None l e = absurd (cc)
met_is domain page (Some x) l e = (x, refl, sym (same_Some (met_leaf domain page x) l e))
