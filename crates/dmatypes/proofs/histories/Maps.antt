-- Maps with an entry put in.
use Rattle.std.proofs.Common.{◌≡◌, ◌≢◌, ◌⊎◌, ℕ, inl, inr, Option, refl}
use Rattle.std.proofs.lemmas.Bool.{ne_eqb, eq-eqb}
use Rattle.std.proofs.lemmas.Bool.Decides.{eqb_tells}
use Rattle.dmatypes.specs.World.{put}

pub put_same : {A : Type 0} (key : ℕ) (entry : Option A) (map : ℕ → Option A) → put key entry map key ≡ entry
put_same key entry map = rw (eq-eqb key key refl) refl

pub put_other : {A : Type 0} (key : ℕ) (entry : Option A) (map : ℕ → Option A) (k : ℕ) → k ≢ key → put key entry map k ≡ map k
put_other key entry map k ne = rw (ne_eqb k key ne) refl

pub same_or_not : (a b : ℕ) → (a ≡ b) ⊎ (a ≢ b)
same_or_not a b = elim (eqb_tells a b) [ inl x ↦ inl x.1 | inr x ↦ inr x.1 ]
