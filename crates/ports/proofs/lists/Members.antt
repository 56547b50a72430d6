-- Lists with one element more, and what stands in an `Option`.
use Rattle.std.proofs.Common.{◌≡◌, ◌⊎◌, inl, inr, List, [], ◌∷◌, ◌++◌, Option, Some, None, IsSomeAnd, IfSome, IsNone, IsSome, refl}
use Rattle.std.proofs.Common.{sym, ap, subst, ◌∙◌}
use Rattle.std.specs.Option.{option_or, option_and_then}
use Rattle.dmatypes.specs.World.{IsIn}

-- ---- members

pub in_left : {X : Type 0} (x : X) (xs ys : List X) → IsIn x xs → IsIn x (xs ++ ys)
in_left x [] ys inside = absurd inside
in_left x (z ∷ xs) ys (inl same) = inl same
in_left x (z ∷ xs) ys (inr rest) = inr (in_left x xs ys rest)

pub in_last : {X : Type 0} (x : X) (xs : List X) → IsIn x (xs ++ x ∷ [])
in_last x [] = inl refl
in_last x (z ∷ xs) = inr (in_last x xs)

-- what is in a list with one more element at the end
pub in_either : {X : Type 0} (x y : X) (xs : List X) → IsIn x (xs ++ y ∷ []) → IsIn x xs ⊎ (x ≡ y)
in_either x y [] (inl same) = inr same
in_either x y [] (inr none) = absurd none
in_either x y (z ∷ xs) (inl same) = inl (inl same)
in_either x y (z ∷ xs) (inr rest) = elim (in_either x y xs rest) [ inl old ↦ inl (inr old) | inr last ↦ inr last ]

-- ---- options

pub none_is_no : {A : Type 0} (o : Option A) (x : A) → o ≡ None → o ≡ Some x → ⊥
none_is_no None x e s = absurd cc
none_is_no (Some y) x e s = absurd cc

pub is_no_none : {A : Type 0} (o : Option A) (x : A) → IsNone o → o ≡ Some x → ⊥
is_no_none None x n e = absurd cc
is_no_none (Some y) x n e = absurd cc

pub is_some : {A : Type 0} (o : Option A) (x : A) → o ≡ Some x → IsSome o
is_some None x e = absurd cc
is_some (Some y) x e = refl

pub some_and : {A : Type 0} (o : Option A) (x : A) (P : A → Type 0) → o ≡ Some x → IsSomeAnd o P → P x
some_and o x P e h = subst (λ (y : Option _). IsSomeAnd y P) e h

pub some_of : {A : Type 0} (o : Option A) (P Q : A → Type 0) → ((x : A) → P x → Q x) → IfSome o P → IfSome o Q
some_of None P Q f h = tt
some_of (Some x) P Q f h = f x h

-- where one of two options came from
pub from_either : {A : Type 0} (o l : Option A) (x : A) → option_or o l ≡ Some x → ((y : A) × (o ≡ Some y)) ⊎ (l ≡ Some x)
from_either None l x e = inr e
from_either (Some y) l x e = inl (y, refl)

pub second_of : {A : Type 0} (o l : Option A) → ((y : A) → o ≡ Some y → ⊥) → option_or o l ≡ l
second_of None l never = refl
second_of (Some y) l never = absurd (never y refl)

-- where an option followed by a map leads
pub followed : {A B : Type 0} (map : A → Option B) (o : Option A) (y : B) → option_and_then map o ≡ Some y
    → (x : A) × (o ≡ Some x) × (map x ≡ Some y)
followed map None y e = absurd cc
followed map (Some x) y e = (x, refl, e)

pub leads : {A B : Type 0} (map : A → Option B) (o : Option A) (x : A) (y : B) → o ≡ Some x → map x ≡ Some y
    → option_and_then map o ≡ Some y
leads map o x y at to = ap (option_and_then map) at ∙ to

pub is_of : {A : Type 0} (o : Option A) (P : A → Type 0) → IsSomeAnd o P → (x : A) × (o ≡ Some x) × P x
is_of None P h = absurd h
is_of (Some x) P h = (x, refl, h)

pub of_is : {A : Type 0} (o : Option A) (x : A) (P : A → Type 0) → o ≡ Some x → P x → IsSomeAnd o P
of_is o x P e h = subst (λ (y : Option _). IsSomeAnd y P) (sym e) h
