-- What a list that remembers an entry has.
use Rattle.std.proofs.Common.{◌≡◌, ℕ, ◌⊎◌, ◌||◌, inl, inr, sym, Bool, true, false, if◌then◌else◌, List, [], ◌∷◌, ◌++◌, length, drop, nat_lt}
use Rattle.std.proofs.Common.{IsTrue, subst, refl}
use Rattle.std.specs.List.{list_any}
use Rattle.std.specs.Prelude.{IfOk, IfSome, Option, Result, Ok, Err}
use Rattle.dmatypes.specs.Page.{page_of}
use Rattle.dmatypes.specs.World.{Target}
use Rattle.dmatypes.specs.declared.call.Access.{Access}
use Rattle.dmatypes.specs.declared.refusal.Fault.{Fault}
use Rattle.unit.specs.Answers.{IsRemembered, IsRememberedIn, Tells}
use Rattle.unit.specs.Caches.{Caches, CachedContext}
use Rattle.unit.specs.declared.hit.Hit.{Hit}
use Rattle.dmatypes.specs.World.{IsIn}
use Rattle.unit.specs.Lists.{with_entry, Gains}

pub in_push : {A : Type 0} (x y : A) (xs : List A) → IsIn y (xs ++ x ∷ []) → IsIn y xs ⊎ (y ≡ x)
in_push x y [] (inl e) = inr e
in_push x y [] (inr h) = absurd h
in_push x y (z ∷ zs) (inl e) = inl (inl e)
in_push x y (z ∷ zs) (inr h) = behind (in_push x y zs h)
  where
    behind : IsIn y zs ⊎ (y ≡ x) → IsIn y (z ∷ zs) ⊎ (y ≡ x)
    behind (inl h) = inl (inr h)
    behind (inr e) = inr e

pub in_rest : {A : Type 0} (y : A) (xs : List A) → IsIn y (drop 1 xs) → IsIn y xs
in_rest y [] h = h
in_rest y (x ∷ xs) h = inr h

-- it has the entry and what it had
pub in_with_entry : {A : Type 0} (same : A → A → Bool) (most : ℕ) (x y : A) (xs : List A)
    → IsIn y (with_entry same most x xs) → IsIn y xs ⊎ (y ≡ x)
unfolding with_entry
in_with_entry {A} same most x y xs = by_there (list_any (λ z. same z x) xs) (nat_lt (length xs) most)
  where
    first_lost : IsIn y (drop 1 xs) ⊎ (y ≡ x) → IsIn y xs ⊎ (y ≡ x)
    first_lost (inl h) = inl (in_rest y xs h)
    first_lost (inr e) = inr e

    by_there : (there room : Bool) → IsIn y (if there then xs else (if room then xs ++ x ∷ [] else drop 1 xs ++ x ∷ []))
        → IsIn y xs ⊎ (y ≡ x)
    by_there true room h = inl h
    by_there false true h = in_push x y xs h
    by_there false false h = first_lost (in_push x y (drop 1 xs) h)

-- what is gained by remembering an entry or not
pub gains_entry : {A : Type 0} (fill : Bool) (same : A → A → Bool) (most : ℕ) (x : A) (xs ys : List A)
    → ys ≡ (if fill then with_entry same most x xs else xs) → Gains fill (λ y. y ≡ x) xs ys
gains_entry true same most x xs ys is = λ y h. gained (in_with_entry same most x y xs (subst (IsIn y) is h))
  where
    gained : {y : _} → IsIn y xs ⊎ (y ≡ x) → IsIn y xs ⊎ (IsTrue true × (y ≡ x))
    gained (inl h) = inl h
    gained (inr e) = inr (refl, e)
gains_entry false same most x xs ys is = λ y h. inl (subst (IsIn y) is h)

-- what was gained once and again
pub gains_twice : {A : Type 0} (fill : Bool) (Used Once Again : A → Type 0) (xs ys zs : List A)
    → ((y : A) → Once y → Used y) → ((y : A) → Again y → Used y)
    → Gains fill Once xs ys → Gains fill Again ys zs → Gains fill Used xs zs
gains_twice {A} fill Used Once Again xs ys zs once again first second = λ y h. later y (second y h)
  where
    sooner : (y : A) → IsIn y xs ⊎ (IsTrue fill × Once y) → IsIn y xs ⊎ (IsTrue fill × Used y)
    sooner y (inl h) = inl h
    sooner y (inr (f, u)) = inr (f, once y u)

    later : (y : A) → IsIn y ys ⊎ (IsTrue fill × Again y) → IsIn y xs ⊎ (IsTrue fill × Used y)
    later y (inl h) = sooner y (first y h)
    later y (inr (f, u)) = inr (f, again y u)

pub in_last : {A : Type 0} (x : A) (xs : List A) → IsIn x (xs ++ x ∷ [])
in_last x [] = inl refl
in_last x (y ∷ ys) = inr (in_last x ys)

any_by_first : {A : Type 0} (same : A → A → Bool) (x y : A) (ys : List A) (b : Bool) → ((y : A) → same y x ≡ true → y ≡ x)
    → (list_any (λ y. same y x) ys ≡ true → IsIn x ys)
    → same y x ≡ b → (b || list_any (λ y. same y x) ys) ≡ true → IsIn x (y ∷ ys)
any_by_first same x y ys true law later is any = inl (sym (law y is))
any_by_first same x y ys false law later is any = inr (later any)

pub any_in : {A : Type 0} (same : A → A → Bool) (x : A) (xs : List A) → ((y : A) → same y x ≡ true → y ≡ x)
    → list_any (λ y. same y x) xs ≡ true
    → IsIn x xs
any_in same x [] law any = absurd (cc)
any_in same x (y ∷ ys) law any = any_by_first same x y ys (same y x) law (λ rest. any_in same x ys law rest) refl any

-- the entry is in the list then
pub remembered_in : {A : Type 0} (same : A → A → Bool) (most : ℕ) (x : A) (xs : List A) → ((y : A) → same y x ≡ true → y ≡ x)
    → IsIn x (with_entry same most x xs)
unfolding with_entry
remembered_in {A} same most x xs law = by_there (list_any (λ y. same y x) xs) (nat_lt (length xs) most) refl
  where
    by_there : (there room : Bool) → list_any (λ y. same y x) xs ≡ there
        → IsIn x (if there then xs else (if room then xs ++ x ∷ [] else drop 1 xs ++ x ∷ []))
    by_there true room is = any_in same x xs law is
    by_there false true is = in_last x xs
    by_there false false is = in_last x (drop 1 xs)

-- what a request was told is remembered, as what it was read off is
pub told_remembered : (to : Option Target) (address : ℕ) (access : Access) (result : Result Hit Fault) (caches : Caches) (x : CachedContext)
    (device : ℕ) → Tells to address access result
    → IsIn x caches.contexts → x.device ≡ device → IfSome to (IsRememberedIn caches.leaves x.domain (page_of address))
    → IfOk result (IsRemembered caches device address)
told_remembered to address access (Ok hit) caches x device (y, is, permits, host, told) there same served =
    (x, there, same, subst (IsRememberedIn caches.leaves x.domain (page_of address)) told (rw is at served))
told_remembered to address access (Err fault) caches x device tells there same served = tt
