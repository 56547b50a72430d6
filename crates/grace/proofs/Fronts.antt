-- Beginnings of one list.
use Rattle.std.proofs.Common.{◌≡◌, ◌≤◌, List, [], ◌∷◌, ◌++◌, length, refl, ap, ◌∙◌, arith}
use Rattle.std.proofs.lemmas.List.{length-append}
use mathlib.Core.List.{IsPrefix}

-- of two beginnings the longer begins with the shorter
pub longer : {A : Type 0} (front rest seen more : List A) → seen ++ more ≡ front ++ rest → length front ≤ length seen
    → (between : List A) × (seen ≡ front ++ between)
longer [] rest seen more is enough = (seen, refl)
longer (b ∷ bs) rest [] more is enough = absurd (omega (arith, enough))
longer (b ∷ bs) rest (x ∷ xs) more is enough =
    let first : x ≡ b = cc in
    let others : xs ++ more ≡ bs ++ rest = cc in
    let parted = longer bs rest xs more others (omega (arith, enough)) in
    (parted.0, ap (λ y. y ∷ xs) first ∙ ap (λ ys. b ∷ ys) parted.1)

-- and is no shorter
pub no_shorter : {A : Type 0} (xs ys : List A) → IsPrefix xs ys → length xs ≤ length ys
no_shorter xs ys p = omega (arith, length-append xs p.0, ap length p.1)
