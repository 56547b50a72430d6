-- What was read by tests, one after the other.
use Rattle.std.proofs.Common.{◌≡◌, ◌⊎◌, Bool, true, false, if◌then◌else◌, Option, Some, None, refl, inl, inr}

-- what a test and what comes behind it gave was given by one of the two
pub if_some : {A : Type 0} (b : Bool) (r s : Option A) (x : A) → (if b then r else s) ≡ Some x
    → ((b ≡ true) × (r ≡ Some x)) ⊎ (s ≡ Some x)
if_some true r s x e = inl (refl, e)
if_some false r s x e = inr e

pub same_some : {A : Type 0} (x y : A) → Some x ≡ Some y → x ≡ y
same_some x y e = cc

pub not_some : {A : Type 0} (x : A) → let r : Option A = None in r ≡ Some x → ⊥
not_some x e = cc

-- a value of which each outcome is refuted is none
pub none_read : {A : Type 0} (r : Option A) → ((x : A) → r ≡ Some x → ⊥) → r ≡ None
none_read None h = refl
none_read (Some x) h = absurd (h x refl)
