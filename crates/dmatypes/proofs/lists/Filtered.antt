-- What passes a filter.
use Rattle.std.proofs.Common.{◌≡◌, inl, inr, Bool, true, false, cond, List, [], ◌∷◌, filter, refl, sym, ap, ◌∙◌}
use Rattle.dmatypes.specs.World.{IsIn}

by_test : {A : Type 0} (p : A → Bool) (y x : A) (ys : List A) (b : Bool) → p x ≡ b → (IsIn y (filter p ys) → IsIn y ys × (p y ≡ true))
    → IsIn y (cond b (x ∷ filter p ys) (filter p ys)) → IsIn y (x ∷ ys) × (p y ≡ true)
by_test p y x ys true e later (inl same) = (inl same, ap p same ∙ e)
by_test p y x ys true e later (inr h) = let k = later h in (inr k.0, k.1)
by_test p y x ys false e later h = let k = later h in (inr k.0, k.1)

-- what passes a filter was there, and passes its test
pub in_filter : {A : Type 0} (p : A → Bool) (y : A) (xs : List A) → IsIn y (filter p xs) → IsIn y xs × (p y ≡ true)
in_filter p y [] h = absurd h
in_filter p y (x ∷ xs) h = by_test p y x xs (p x) refl (λ k. in_filter p y xs k) h

-- what was there and passes the test passes the filter
to_test : {A : Type 0} (p : A → Bool) (y x : A) (ys : List A) (b : Bool) → p x ≡ b → (IsIn y ys → IsIn y (filter p ys)) → IsIn y (x ∷ ys)
    → p y ≡ true → IsIn y (cond b (x ∷ filter p ys) (filter p ys))
to_test p y x ys true e later (inl same) passes = inl same
to_test p y x ys true e later (inr h) passes = inr (later h)
to_test p y x ys false e later (inl same) passes = absurd (let clash : true ≡ false = sym passes ∙ ap p same ∙ e in cc)
to_test p y x ys false e later (inr h) passes = later h

pub to_filter : {A : Type 0} (p : A → Bool) (y : A) (xs : List A) → IsIn y xs → p y ≡ true → IsIn y (filter p xs)
to_filter p y [] h passes = absurd h
to_filter p y (x ∷ xs) h passes = to_test p y x xs (p x) refl (λ k. to_filter p y xs k passes) h passes
