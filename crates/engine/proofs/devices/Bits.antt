-- A set of devices as the bits of a number, device by device.
use Rattle.std.proofs.Common.{◌≡◌, ◌<◌, ◌≤◌, ◌+◌, ◌*◌, ◌^◌, ◌%◌, ◌↔◌, ℕ, inl, inr, bit_or, arith, subst, sym, w16}
use Rattle.std.specs.Int.{bit_at}
use Rattle.std.proofs.lemmas.Nat.Bits.{bit_at_set_same, bit_at_set_other}
use Rattle.dmatypes.specs.declared.limits.TheConstants.{DEVICES}
use Rattle.dmatypes.proofs.histories.Maps.{same_or_not}

module _ (In : ℕ → Type 0) (devices k : ℕ) where
  -- the bits of the devices before are told, and no other is set
  abbrev pub AreTold : Type 0
  AreTold = ((v : ℕ) → v < k → (bit_at devices v ≡ 1) ↔ In v) × ((v : ℕ) → k ≤ v → bit_at devices v ≡ 0)

-- one more, which is in the set
pub told_in : (In : ℕ → Type 0) (devices k : ℕ) → k < DEVICES → AreTold In devices k → In k
    → AreTold In (bit_or devices (1 * 2 ^ k % 2 ^ 16)) (k + 1)
told_in In devices k low told is = (
  λ v less. elim (same_or_not v k) [
    | inl same ↦ (
      λ one. subst In (sym same) is,
      λ there. subst (λ n. bit_at (bit_or devices (1 * 2 ^ k % 2 ^ 16)) n ≡ 1) (sym same) (bit_at_set_same w16 devices k low),
    )
    | inr ne ↦ rw (bit_at_set_other w16 devices k low v ne) (told.0 v (omega (arith, less, ne)))
  ],
  λ v more. rw (bit_at_set_other w16 devices k low v (λ same. absurd (omega (arith, more, same)))) (told.1 v (omega (arith, more))),
)

-- one more, which isn't
pub told_out : (In : ℕ → Type 0) (devices k : ℕ) → AreTold In devices k → (In k → ⊥) → AreTold In devices (k + 1)
told_out In devices k told not = (
  λ v less. elim (same_or_not v k) [
    | inl same ↦ (
      λ one. let zero = told.1 v (omega (arith, same)) in absurd (omega (arith, one, zero)),
      λ there. absurd (not (subst In same there)),
    )
    | inr ne ↦ told.0 v (omega (arith, less, ne))
  ],
  λ v more. told.1 v (omega (arith, more)),
)
