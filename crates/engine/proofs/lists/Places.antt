-- Places of a list, and what stands in an `Option`.
use Rattle.std.proofs.Common.{◌≡◌, ◌≢◌, ℕ, zero, suc, ◌<◌, List, [], ◌∷◌, length, Option, Some, None, refl, sym, ap, arith}
use Rattle.std.proofs.Common.{slice_get, slice_set, IsNone, IsSome}
use Rattle.std.proofs.lemmas.Option.{same_Some}

pub get_set : {X : Type 0} (xs : List X) (i : ℕ) (y : X) → i < length xs → slice_get (slice_set xs i y) i ≡ Some y
get_set [] i y h = absurd (omega (arith, h))
get_set (z ∷ xs) zero y h = refl
get_set (z ∷ xs) (suc i) y h = get_set xs i y (omega (arith, h))

pub get_set_other : {X : Type 0} (xs : List X) (i e : ℕ) (y : X) → e ≢ i → slice_get (slice_set xs i y) e ≡ slice_get xs e
get_set_other [] i e y ne = refl
get_set_other (z ∷ xs) zero zero y ne = absurd (ne refl)
get_set_other (z ∷ xs) zero (suc e) y ne = refl
get_set_other (z ∷ xs) (suc i) zero y ne = refl
get_set_other (z ∷ xs) (suc i) (suc e) y ne = get_set_other xs i e y (λ same. ne (ap suc same))

pub is_none : {A : Type 0} (o : Option A) → o ≡ None → IsNone o
is_none None e = refl
is_none (Some x) e = absurd cc

pub not_none : {A : Type 0} (o : Option A) (x : A) → o ≡ Some x → IsNone o → ⊥
not_none None x e n = absurd cc
not_none (Some y) x e n = absurd cc

pub is_some : {A : Type 0} (o : Option A) (x : A) → o ≡ Some x → IsSome o
is_some None x e = absurd cc
is_some (Some y) x e = refl

pub not_some : {A : Type 0} (o : Option A) → o ≡ None → IsSome o → ⊥
not_some None e n = absurd cc
not_some (Some y) e n = absurd cc

pub set_again : {X : Type 0} (xs : List X) (i : ℕ) (x : X) → slice_get xs i ≡ Some x → slice_set xs i x ≡ xs
set_again [] i x h = refl
set_again (z ∷ xs) zero x h = ap (λ y. y ∷ xs) (sym (same_Some z x h))
set_again (z ∷ xs) (suc i) x h = ap (λ ys. z ∷ ys) (set_again xs i x h)
