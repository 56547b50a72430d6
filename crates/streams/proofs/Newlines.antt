-- The first newline of some bytes.
use Rattle.std.proofs.Common.{◌≡◌, ℕ, zero, suc, ◌+◌, ◌≤◌, ◌<◌, true, List, [], ◌∷◌, ◌++◌, length, take, drop, Option, Some, None}
use Rattle.std.proofs.Common.{ap, subst, arith}
use Rattle.std.specs.Prelude.{◌==◌, slice_index, IfSome, IfNone}
use Rattle.std.proofs.lemmas.Bool.{eqb-true, eq-eqb}
use Rattle.std.proofs.Math.Seq.{take-length}
use Rattle.memchr.specs.Find.{IsFirstByte, is_byte}
use Rattle.streams.specs.Bytes.{IsUnbroken}

-- none of the first bytes is a newline
unbroken_by : (bytes : List ℕ) (n : ℕ) → n ≤ length bytes → ((k : ℕ) → k < n → (slice_index bytes k == 10) ≡ true → ⊥)
    → IsUnbroken (take n bytes)
unbroken_by bytes zero within none = tt
unbroken_by [] (suc n) within none = tt
unbroken_by (b ∷ bytes) (suc n) within none = (
  λ is. none 0 (omega arith) (eq-eqb b 10 is),
  unbroken_by bytes n (omega arith) (λ k less is. none (suc k) (omega arith) is),
)

-- so the byte there parts them
parted : (bytes : List ℕ) (i : ℕ) → i < length bytes → (slice_index bytes i == 10) ≡ true
    → bytes ≡ take i bytes ++ 10 ∷ drop (suc i) bytes
parted [] i within is = absurd (omega arith)
parted (b ∷ bytes) zero within is = ap (λ (x : ℕ). x ∷ bytes) (eqb-true b 10 is)
parted (b ∷ bytes) (suc i) within is = ap (λ (r : List ℕ). b ∷ r) (parted bytes i (omega arith) is)

plus_one : (k : ℕ) → suc k ≡ k + 1
plus_one k = omega arith

pub found : (bytes : List ℕ) (r : Option ℕ) → IsFirstByte (is_byte 10) bytes r
    → IfSome r (λ i. (i < length bytes) × IsUnbroken (take i bytes) × (bytes ≡ take i bytes ++ 10 ∷ drop (i + 1) bytes))
found bytes None first = tt
found bytes (Some i) first = (
  first.0.high,
  unbroken_by bytes i (omega (arith, first.0.high)) (λ k less is. first.0.before k (omega arith) less is),
  subst (λ (n : ℕ). bytes ≡ take i bytes ++ 10 ∷ drop n bytes) (plus_one i) (parted bytes i first.0.high first.1),
)

pub not_found : (bytes : List ℕ) (r : Option ℕ) → IsFirstByte (is_byte 10) bytes r → IfNone r (IsUnbroken bytes)
not_found bytes (Some i) first = tt
not_found bytes None none =
    subst IsUnbroken (take-length bytes) (unbroken_by bytes (length bytes) (omega arith) (λ k less is. none k (omega arith) less is))
