-- Blocks as sets of page numbers.
use Rattle.std.proofs.Common.{◌≡◌, ℕ, ◌+◌, ◌-◌, ◌<◌, inl, inr, true, arith}
use Rattle.std.proofs.lemmas.Bool.{cases_lt}
use Rattle.std.proofs.lemmas.Bool.Decides.{nat_tests}
use Rattle.std.proofs.lemmas.Nat.{pow_pos}
use Rattle.dmatypes.specs.Block.{Block, Holds}
use Rattle.unit.specs.Filters.{lie_in, meet, Meets}

module _ (block : Block) (first pages : ℕ) (some : 0 < pages) where
  pub holds_of_inside : lie_in block first pages ≡ true → Holds block (record { first = first; pages = pages })
  holds_of_inside h p within =
      let low = within.0 in
      let high = within.1 in
      (grind (arith, nat_tests), grind (arith, nat_tests))

  pub inside_of_holds : Holds block (record { first = first; pages = pages }) → lie_in block first pages ≡ true
  inside_of_holds h =
      let at_first = h first (omega arith, omega arith) in
      let at_last = h (first + pages - 1) (omega arith, omega arith) in
      let low = at_first.0 in
      let high = at_last.1 in
      grind (arith, nat_tests)

  pub meets_of_meeting : meet block first pages ≡ true → Meets block (record { first = first; pages = pages })
  meets_of_meeting h = elim (cases_lt first block.first) [
    | inl before ↦ let room = pow_pos block.order in (block.first, (omega arith, grind (arith, nat_tests)), (omega arith, omega arith))
    | inr behind ↦ (first, (omega arith, omega arith), (omega arith, grind (arith, nat_tests)))
  ]

  pub meeting_of_meets : Meets block (record { first = first; pages = pages }) → meet block first pages ≡ true
  meeting_of_meets (p, within, inside) =
      let low = within.0 in
      let high = within.1 in
      let from = inside.0 in
      let to = inside.1 in
      grind (arith, nat_tests)
