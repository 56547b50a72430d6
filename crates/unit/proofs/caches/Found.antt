-- What a search in a list found.
use Rattle.std.proofs.Common.{◌≡◌, ◌≢◌, inl, inr, Bool, true, false, List, [], ◌∷◌, Some, None, ◌&&◌, find, cond, refl, sym, ap, ◌∙◌}
use Rattle.std.proofs.lemmas.Option.{none-some, same_Some}
use Rattle.dmatypes.specs.World.{IsIn}

in_by_test : {A : Type 0} (p : A → Bool) (y x : A) (ys : List A) (b : Bool) → (find p ys ≡ Some x → IsIn x ys × (p x ≡ true))
    → p y ≡ b → cond b (Some y) (find p ys) ≡ Some x → IsIn x (y ∷ ys) × (p x ≡ true)
in_by_test p y x ys true later e h = let same : y ≡ x = same_Some y x h in (inl (sym same), ap p (sym same) ∙ e)
in_by_test p y x ys false later e h = let found = later h in (inr found.0, found.1)

-- an element that passes
pub find_in : {A : Type 0} (p : A → Bool) (xs : List A) (x : A) → find p xs ≡ Some x → IsIn x xs × (p x ≡ true)
find_in p [] x h = absurd (none-some x h)
find_in p (y ∷ ys) x h = in_by_test p y x ys (p y) (λ h. find_in p ys x h) refl h

none_by_test : {A : Type 0} (p : A → Bool) (y x : A) (ys : List A) (b : Bool) → (find p ys ≡ None → IsIn x ys → p x ≢ true)
    → p y ≡ b → cond b (Some y) (find p ys) ≡ None → IsIn x (y ∷ ys) → p x ≢ true
none_by_test p y x ys true later e h i = absurd (cc)
none_by_test p y x ys false later e h (inl is) = λ t. absurd (cc)
none_by_test p y x ys false later e h (inr i) = later h i

-- or that none does
pub find_none : {A : Type 0} (p : A → Bool) (xs : List A) → find p xs ≡ None → (x : A) → IsIn x xs → p x ≢ true
find_none p [] h x i = absurd i
find_none p (y ∷ ys) h x i = none_by_test p y x ys (p y) (λ h i. find_none p ys h x i) refl h i

-- both of two tests
pub both : (a b : Bool) → (a && b) ≡ true → (a ≡ true) × (b ≡ true)
both true true h = (refl, refl)
both true false h = absurd (cc)
both false b h = absurd (cc)
