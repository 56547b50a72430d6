-- The part of a list from a place on.
use Rattle.std.proofs.Common.{◌≡◌, ℕ, zero, suc, ◌+◌, ◌≤◌, List, [], ◌∷◌, ◌++◌, append_assoc, drop, take, length, length-drop, length-take-le, remove, refl, ap, ◌∙◌}
use Rattle.std.proofs.Common.{arith}
use Rattle.std.proofs.lemmas.List.{drop-take, take-append-le}
use lib.Seq.{drop_at, take-take}

remove_nil : {A : Type 0} (xs : List A) (k : ℕ) → xs ≡ [] → [] ≡ remove xs k
remove_nil [] zero e = refl
remove_nil [] (suc k) e = refl
remove_nil (x ∷ xs) k e = absurd (cc)

-- the part without the entry at a place
pub drop_remove : {A : Type 0} (n place : ℕ) (xs : List A) → drop n (remove xs (n + place)) ≡ remove (drop n xs) place
drop_remove zero place xs = let at : 0 + place ≡ place = omega arith in ap (remove xs) at
drop_remove {A} (suc n) place [] =
    let nothing : List A = [] in
    let at : suc n + place ≡ suc (n + place) = omega arith in
    ap (λ (k : ℕ). drop (suc n) (remove nothing k)) at ∙ remove_nil nothing place refl
drop_remove (suc n) place (x ∷ xs) =
    let at : suc n + place ≡ suc (n + place) = omega arith in
    ap (λ (k : ℕ). drop (suc n) (remove (x ∷ xs) k)) at ∙ drop_remove n place xs

-- what a part of a list that is written over ends with, where what lies behind is cut off
pub written_part : {A : Type 0} (n start kept : ℕ) (xs ys zs rest : List A) → start ≤ length xs → kept ≤ length ys → start + kept ≤ n
    → drop start (take (start + kept) (take n ((take start xs ++ (ys ++ zs)) ++ rest))) ≡ take kept ys
written_part n start kept xs ys zs rest within few inside =
    ap (drop start) (take-take (start + kept) n _ inside) ∙ drop-take start kept _
    ∙ ap (take kept) (ap (drop start) (append_assoc (take start xs) (ys ++ zs) rest) ∙ drop_at (take start xs) _ start (length-take-le start xs within)
    ∙ append_assoc ys zs rest)
    ∙ take-append-le kept ys _ few

-- a part that stays the same is no longer, wherever it begins
pub still_few : {A : Type 0} (m n most : ℕ) (xs ys : List A) → drop m xs ≡ drop n ys → m ≤ length xs → length ys ≤ n + most
    → length xs ≤ m + most
still_few m n most xs ys same within few = omega (arith, ap length same, length-drop m xs, length-drop n ys)
