-- What stands in an `Option`, and members of lists.
use Rattle.std.proofs.Common.{◌≡◌, ◌⊎◌, inl, inr, List, [], ◌∷◌, ◌++◌, Option, Some, None, IsSomeAnd, IsNone, refl}
use Rattle.std.specs.Option.{option_or, option_and_then}
use Rattle.dmatypes.specs.World.{IsIn}

pub is_of : {A : Type 0} (o : Option A) (P : A → Type 0) → IsSomeAnd o P → (x : A) × (o ≡ Some x) × P x
is_of None P h = absurd h
is_of (Some x) P h = (x, refl, h)

pub no_one : {A : Type 0} (o : Option A) → IsNone o → o ≡ None
no_one None h = refl
no_one (Some x) h = absurd cc

pub either_of : {A : Type 0} (o l : Option A) (x : A) → option_or o l ≡ Some x → (o ≡ Some x) ⊎ ((o ≡ None) × (l ≡ Some x))
either_of None l x e = inr (refl, e)
either_of (Some y) l x e = inl e

-- where an option followed by a map leads
pub followed : {A B : Type 0} (map : A → Option B) (o : Option A) (y : B) → option_and_then map o ≡ Some y
    → (x : A) × (o ≡ Some x) × (map x ≡ Some y)
followed map None y e = absurd cc
followed map (Some x) y e = (x, refl, e)

pub in_either : {X : Type 0} (x y : X) (xs : List X) → IsIn x (xs ++ y ∷ []) → IsIn x xs ⊎ (x ≡ y)
in_either x y [] (inl same) = inr same
in_either x y [] (inr none) = absurd none
in_either x y (z ∷ xs) (inl same) = inl (inl same)
in_either x y (z ∷ xs) (inr rest) = elim (in_either x y xs rest) [ inl old ↦ inl (inr old) | inr last ↦ inr last ]

pub in_last : {X : Type 0} (x : X) (xs : List X) → IsIn x (xs ++ x ∷ [])
in_last x [] = inl refl
in_last x (z ∷ xs) = inr (in_last x xs)

pub in_left : {X : Type 0} (x : X) (xs ys : List X) → IsIn x xs → IsIn x (xs ++ ys)
in_left x [] ys inside = absurd inside
in_left x (z ∷ xs) ys (inl same) = inl same
in_left x (z ∷ xs) ys (inr rest) = inr (in_left x xs ys rest)
