-- Lists of bounded length that remember.
use Rattle.std.specs.Prelude.{◌≡◌, ◌↔◌, ℕ, ◌⊎◌, ◌∷◌, [], ◌++◌, Bool, true, false, IsTrue, List, length, drop, nat_lt, if◌then◌else◌}
use Rattle.std.specs.List.{list_any}
use Rattle.dmatypes.specs.World.{IsIn}

-- a list of at most this length with one more: an entry that is there already isn't added, a new one goes last,
-- and a full list loses its first entry first
unfoldable pub with_entry : {A : Type 0} → (A → A → Bool) → ℕ → A → List A → List A
with_entry same most x xs =
    if list_any (λ y. same y x) xs then xs
    else (if nat_lt (length xs) most then xs ++ x ∷ [] else drop 1 xs ++ x ∷ [])

-- one with one more at its end, which isn't looked for
unfoldable pub with_newest : {A : Type 0} → ℕ → A → List A → List A
with_newest most x xs = if nat_lt (length xs) most then xs ++ x ∷ [] else drop 1 xs ++ x ∷ []

-- an entry of the list is the same
unfoldable pub is_there : {A : Type 0} → (A → A → Bool) → A → List A → Bool
is_there same x xs = list_any (λ y. same y x) xs

-- no entry of the list is the same
unfoldable pub IsNotAmong : {A : Type 0} → (A → A → Bool) → A → List A → Type 0
IsNotAmong same x xs = list_any (λ y. same y x) xs ≡ false

-- a test tells whether two are the same
abbrev pub TellsSame : {A : Type 0} → (A → A → Bool) → Type 0
TellsSame {A} same = (x y : A) → (same x y ≡ true) ↔ (x ≡ y)

-- what a list gains is of this kind, and it gains only where it is to be filled
abbrev pub Gains : {A : Type 0} → Bool → (A → Type 0) → List A → List A → Type 0
Gains {A} fill Used old new = (y : A) → IsIn y new → IsIn y old ⊎ (IsTrue fill × Used y)
