-- What isn't in a list that was looked through.
use Rattle.std.proofs.Common.{◌≡◌, Bool, true, false, List, [], ◌∷◌, ◌||◌, None, find, ◌&&◌, refl, sym, ap, ◌∙◌, inl, inr, ℕ}
use Rattle.std.proofs.Common.{if◌then◌else◌, ap₂, ◌++◌, nat_lt, length, drop, subst, ◌⊎◌, ◌≤◌, ◌<◌, arith, length-append, length-drop}
use Rattle.std.proofs.Common.{IsTrue}
use Rattle.std.proofs.lemmas.Bool.Decides.{nat_tests}
use Rattle.std.specs.List.{list_any}
use Rattle.std.proofs.lemmas.Bool.{false≢true}
use Rattle.dmatypes.specs.World.{IsIn}
use Rattle.unit.specs.Lists.{IsNotAmong, TellsSame, is_there, with_entry, with_newest}
use Rattle.unit.proofs.caches.Found.{find_none}
use Rattle.unit.proofs.caches.Remembered.{any_in, in_last, in_push, in_rest}

-- an entry that isn't in a list is new
pub new_outside : {A : Type 0} (same : A → A → Bool) (x : A) (xs : List A) → ((y : A) → same y x ≡ true → y ≡ x)
    → (IsIn x xs → ⊥) → IsNotAmong same x xs
unfolding IsNotAmong
new_outside {A} same x xs law out = by_any (list_any (λ y. same y x) xs) refl
  where
    by_any : (b : Bool) → list_any (λ y. same y x) xs ≡ b → b ≡ false
    by_any true is = absurd (out (any_in same x xs law is))
    by_any false is = refl

-- one that passes a test is, where a search by the test found none
pub new_unfound : {A : Type 0} (same : A → A → Bool) (p : A → Bool) (x : A) (xs : List A) → ((y : A) → same y x ≡ true → y ≡ x)
    → find p xs ≡ None → p x ≡ true → IsNotAmong same x xs
new_unfound same p x xs law none passes = new_outside same x xs law (λ there. find_none p xs none x there passes)

any_of_in : {A : Type 0} (p : A → Bool) (x : A) (xs : List A) → IsIn x xs → p x ≡ true → list_any p xs ≡ true
any_of_in p x [] there passes = absurd there
any_of_in p x (y ∷ ys) (inl is) passes = ap (λ b. b || list_any p ys) (ap p (sym is) ∙ passes)
any_of_in p x (y ∷ ys) (inr there) passes = by_first (p y) (any_of_in p x ys there passes)
  where
    by_first : (b : Bool) → list_any p ys ≡ true → (b || list_any p ys) ≡ true
    by_first true rest = refl
    by_first false rest = rest

-- or where none in the list passes it
pub new_of_none : {A : Type 0} (same : A → A → Bool) (p : A → Bool) (x : A) (xs : List A) → ((y : A) → same y x ≡ true → y ≡ x)
    → list_any p xs ≡ false → p x ≡ true → IsNotAmong same x xs
new_of_none same p x xs law none passes =
    new_outside same x xs law (λ there. absurd (false≢true (sym none ∙ any_of_in p x xs there passes)))

pub both_true : (a b : Bool) → a ≡ true → b ≡ true → (a && b) ≡ true
both_true true true p q = refl
both_true true false p q = absurd (cc)
both_true false b p q = absurd (cc)

-- two tests that tell the same
same_test : (b d : Bool) → (b ≡ true → d ≡ true) → (d ≡ true → b ≡ true) → b ≡ d
same_test true d to from = sym (to refl)
same_test false true to from = absurd (false≢true (from refl))
same_test false false to from = refl

any_same : {A : Type 0} (p q : A → Bool) (xs : List A) → ((y : A) → p y ≡ q y) → list_any p xs ≡ list_any q xs
any_same p q [] e = refl
any_same p q (y ∷ ys) e = ap₂ (λ a b. a || b) (e y) (any_same p q ys e)

-- a list that has an entry remembers nothing more
pub with_there : {A : Type 0} (s t : A → A → Bool) (most : ℕ) (x : A) (xs : List A) → ((y : A) → s y x ≡ true → y ≡ x)
    → s x x ≡ true → TellsSame t → is_there s x xs ≡ true → xs ≡ with_entry t most x xs
unfolding with_entry is_there
with_there {A} s t most x xs law itself tells there =
    let same : list_any (λ y. t y x) xs ≡ true =
    any_same (λ y. t y x) (λ y. s y x) xs (λ y.
    same_test (t y x) (s y x) (λ h. subst (λ (z : A). s z x ≡ true) (sym ((tells y x).0 h)) itself) (λ h. (tells y x).1 (law y h)))
    ∙ there in
    rw same refl

-- and another one remembers it at its end
pub with_new : {A : Type 0} (s t : A → A → Bool) (most : ℕ) (x : A) (xs : List A) → ((y : A) → s y x ≡ true → y ≡ x)
    → s x x ≡ true → TellsSame t → is_there s x xs ≡ false → with_newest most x xs ≡ with_entry t most x xs
unfolding with_entry is_there with_newest
with_new {A} s t most x xs law itself tells there =
    let other : list_any (λ y. t y x) xs ≡ false =
    any_same (λ y. t y x) (λ y. s y x) xs (λ y.
    same_test (t y x) (s y x) (λ h. subst (λ (z : A). s z x ≡ true) (sym ((tells y x).0 h)) itself) (λ h. (tells y x).1 (law y h)))
    ∙ there in
    rw other refl

pub there_in : {A : Type 0} (s : A → A → Bool) (x : A) (xs : List A) → ((y : A) → s y x ≡ true → y ≡ x) → is_there s x xs ≡ true
    → IsIn x xs
unfolding is_there
there_in s x xs law there = any_in s x xs law there

-- what a list with one more at its end has
pub in_with_newest : {A : Type 0} (most : ℕ) (x y : A) (xs : List A) → IsIn y (with_newest most x xs) → IsIn y xs ⊎ (y ≡ x)
unfolding with_newest
in_with_newest {A} most x y xs = by_room (nat_lt (length xs) most)
  where
    first_lost : IsIn y (drop 1 xs) ⊎ (y ≡ x) → IsIn y xs ⊎ (y ≡ x)
    first_lost (inl h) = inl (in_rest y xs h)
    first_lost (inr e) = inr e

    by_room : (room : Bool) → IsIn y (if room then xs ++ x ∷ [] else drop 1 xs ++ x ∷ []) → IsIn y xs ⊎ (y ≡ x)
    by_room true h = in_push x y xs h
    by_room false h = first_lost (in_push x y (drop 1 xs) h)

pub last_in : {A : Type 0} (most : ℕ) (x : A) (xs : List A) → IsIn x (with_newest most x xs)
unfolding with_newest
last_in {A} most x xs = by_room (nat_lt (length xs) most)
  where
    by_room : (room : Bool) → IsIn x (if room then xs ++ x ∷ [] else drop 1 xs ++ x ∷ [])
    by_room true = in_last x xs
    by_room false = in_last x (drop 1 xs)

pub last_of_full : {A : Type 0} (most : ℕ) (x : A) (xs : List A) → most ≤ length xs → drop 1 xs ++ x ∷ [] ≡ with_newest most x xs
unfolding with_newest
last_of_full most x xs full = let test : nat_lt (length xs) most ≡ false = grind (arith, nat_tests) in rw test refl

pub last_of_few : {A : Type 0} (most : ℕ) (x : A) (xs : List A) → length xs < most → xs ++ x ∷ [] ≡ with_newest most x xs
unfolding with_newest
last_of_few most x xs few = let test : nat_lt (length xs) most ≡ true = grind (arith, nat_tests) in rw test refl

pub with_newest_few : {A : Type 0} (most : ℕ) (x : A) (xs : List A) → 0 < most → length xs ≤ most → length (with_newest most x xs) ≤ most
unfolding with_newest
with_newest_few {A} most x xs some few = by_room (nat_lt (length xs) most) refl
  where
    by_room : (room : Bool) → nat_lt (length xs) most ≡ room → length (if room then xs ++ x ∷ [] else drop 1 xs ++ x ∷ []) ≤ most
    by_room true test = grind (arith, nat_tests, length-append {A = A})
    by_room false test = grind (arith, nat_tests, length-append {A = A}, length-drop {A = A})

pub gained_filled : {A B : Type 0} {fill : Bool} (x y : A) → fill ≡ true → B ⊎ (y ≡ x) → B ⊎ (IsTrue fill × (y ≡ x))
gained_filled x y filled (inl h) = inl h
gained_filled x y filled (inr e) = inr (filled, e)
