-- Bytes up to one for which a line has no room.
use Rattle.std.proofs.Common.{◌≡◌, ℕ, zero, suc, ◌+◌, ◌≤◌, ◌<◌, List, [], ◌∷◌, ◌++◌, length, take, drop, refl, sym, ap, subst, ◌∙◌, arith}
use Rattle.std.proofs.lemmas.List.{length-append, length-take-le}
use Rattle.streams.specs.Bytes.{EndsLine, IsUnbroken, TakesLine}
use Rattle.streams.specs.declared.stream.LineScan.{LineScan}
use Rattle.streams.specs.declared.stream.LineScan.TheVariants as parts

pub unbroken_within : (bytes : List ℕ) (k i : ℕ) → k ≤ i → IsUnbroken (take i bytes) → IsUnbroken (take k bytes)
unbroken_within bytes zero i within whole = tt
unbroken_within [] (suc k) i within whole = tt
unbroken_within (b ∷ bytes) (suc k) zero within whole = absurd (omega arith)
unbroken_within (b ∷ bytes) (suc k) (suc i) within whole = (whole.0, unbroken_within bytes k i (omega arith) whole.1)

pub unbroken_front : (bytes : List ℕ) (k : ℕ) → IsUnbroken bytes → IsUnbroken (take k bytes)
unbroken_front bytes zero whole = tt
unbroken_front [] (suc k) whole = tt
unbroken_front (b ∷ bytes) (suc k) whole = (whole.0, unbroken_front bytes k whole.1)

-- the bytes for which there is room, and the one behind them
pub past : (bytes : List ℕ) (room : ℕ) → room < length bytes → IsUnbroken (take (suc room) bytes)
    → (b : ℕ) × (bytes ≡ take room bytes ++ b ∷ drop (suc room) bytes) × IsUnbroken (take room bytes ++ b ∷ [])
past [] room more whole = absurd (omega arith)
past (b ∷ bytes) zero more whole = (b, refl, whole)
past (b ∷ bytes) (suc room) more whole =
    let rest = past bytes room (omega arith) whole.1 in (rest.0, ap (λ (r : List ℕ). b ∷ r) rest.1, (whole.0, rest.2))

plus_one : (k : ℕ) → k + 1 ≡ suc k
plus_one k = omega arith

drop_more : (k : ℕ) (bytes : List ℕ) → drop (suc k) bytes ≡ drop 1 (drop k bytes)
drop_more zero bytes = refl
drop_more (suc k) [] = refl
drop_more (suc k) (b ∷ bytes) = drop_more k bytes

-- so many bytes, and the one behind them
pub ended : (most room count : ℕ) (block rest line longer : List ℕ) (taken : LineScan) → EndsLine block room count taken
    → (taken ≡ parts.More → ⊥) → count ≤ length block → longer ≡ line ++ take count block → rest ≡ drop 1 (drop count block)
    → length line + room ≡ most → TakesLine most block rest line longer taken
ended most room count block rest line longer parts.Newline end more within is left full = (
  take count block,
  is,
  end.0 ∙ ap (λ (r : List ℕ). take count block ++ 10 ∷ r)
      (ap (λ (n : ℕ). drop n block) (plus_one count) ∙ drop_more count block ∙ sym left),
  end.1,
)
ended most room count block rest line longer parts.More end more within is left full = absurd (more refl)
ended most room count block rest line longer parts.Long end more within is left full =
    let found = past block room end.1 (subst (λ (n : ℕ). IsUnbroken (take n block)) (plus_one room) end.2) in
    let next : drop (suc room) block ≡ rest = drop_more room block ∙ ap (λ (n : ℕ). drop 1 (drop n block)) (sym end.0) ∙ sym left in (
      take room block,
      found.0,
      is ∙ ap (λ (n : ℕ). line ++ take n block) end.0,
      found.1 ∙ ap (λ (r : List ℕ). take room block ++ found.0 ∷ r) next,
      found.2,
      ap length (is ∙ ap (λ (n : ℕ). line ++ take n block) end.0) ∙ length-append line (take room block)
          ∙ ap (λ (n : ℕ). length line + n) (length-take-le room block (omega (arith, end.1))) ∙ full,
    )
