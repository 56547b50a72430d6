-- Membership in lists that are joined or mapped.
use Rattle.std.proofs.Common.{◌≡◌, ◌⊎◌, ℕ, zero, suc, ◌<◌, inl, inr, List, [], ◌∷◌, ◌++◌, map}
use Rattle.std.proofs.Common.{refl, ap, arith, length, slice_index_or, slice_set}
use Rattle.dmatypes.specs.World.{IsIn}

pub in_left : {X : Type 0} (x : X) (xs ys : List X) → IsIn x xs → IsIn x (xs ++ ys)
in_left x [] ys inside = absurd inside
in_left x (z ∷ xs) ys (inl same) = inl same
in_left x (z ∷ xs) ys (inr rest) = inr (in_left x xs ys rest)

pub in_right : {X : Type 0} (x : X) (xs ys : List X) → IsIn x ys → IsIn x (xs ++ ys)
in_right x [] ys inside = inside
in_right x (z ∷ xs) ys inside = inr (in_right x xs ys inside)

-- what is in a list with one more element at the end
pub in_either : {X : Type 0} (x y : X) (xs : List X) → IsIn x (xs ++ y ∷ []) → IsIn x xs ⊎ (x ≡ y)
in_either x y [] (inl same) = inr same
in_either x y [] (inr none) = absurd none
in_either x y (z ∷ xs) (inl same) = inl (inl same)
in_either x y (z ∷ xs) (inr rest) = elim (in_either x y xs rest) [ inl old ↦ inl (inr old) | inr last ↦ inr last ]

-- its last element
pub in_last : {X : Type 0} (x : X) (xs : List X) → IsIn x (xs ++ x ∷ [])
in_last x xs = in_right x xs (x ∷ []) (inl refl)

-- an element at a place
pub in_at : {X : Type 0} (xs : List X) (i : ℕ) (d : X) → i < length xs → IsIn (slice_index_or xs i d) xs
in_at [] i d less = absurd (omega (arith, less))
in_at (x ∷ xs) zero d less = inl refl
in_at (x ∷ xs) (suc i) d less = inr (in_at xs i d (omega (arith, less)))

pub in_mapped : {X Y : Type 0} (f : X → Y) (x : X) (xs : List X) → IsIn x xs → IsIn (f x) (map f xs)
in_mapped f x [] inside = absurd inside
in_mapped f x (y ∷ ys) (inl same) = inl (ap f same)
in_mapped f x (y ∷ ys) (inr rest) = inr (in_mapped f x ys rest)

pub of_mapped : {X Y : Type 0} (f : X → Y) (y : Y) (xs : List X) → IsIn y (map f xs) → (x : X) × IsIn x xs × (y ≡ f x)
of_mapped f y [] inside = absurd inside
of_mapped f y (x ∷ xs) (inl same) = (x, inl refl, same)
of_mapped f y (x ∷ xs) (inr rest) = let k = of_mapped f y xs rest in (k.0, inr k.1, k.2)

-- what is in a list with another element at a place
pub in_set : {X : Type 0} (xs : List X) (i : ℕ) (x y : X) → IsIn y (slice_set xs i x) → (y ≡ x) ⊎ IsIn y xs
in_set [] i x y inside = absurd inside
in_set (z ∷ xs) zero x y (inl same) = inl same
in_set (z ∷ xs) zero x y (inr rest) = inr (inr rest)
in_set (z ∷ xs) (suc i) x y (inl same) = inr (inl same)
in_set (z ∷ xs) (suc i) x y (inr rest) = elim (in_set xs i x y rest) [ inl new ↦ inl new | inr old ↦ inr (inr old) ]

-- a map of a list with one more element at the end
pub map_last : {X Y : Type 0} (f : X → Y) (xs : List X) (x : X) → map f (xs ++ x ∷ []) ≡ map f xs ++ f x ∷ []
map_last f [] x = refl
map_last f (y ∷ xs) x = ap (λ zs. f y ∷ zs) (map_last f xs x)
