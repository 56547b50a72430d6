-- One frame, counted.
use Rattle.std.proofs.Common.{◌≡◌, ◌≢◌, ℕ, ◌<◌, ◌≤◌, arith}
use Rattle.std.proofs.lemmas.Bool.Decides.{nat_tests}
use Rattle.tables.specs.Tree.{one_if_same}

pub one_if_same-self : (t : ℕ) → one_if_same t t ≡ 1
one_if_same-self t = grind (arith, nat_tests)

pub one_if_same-other : (t f : ℕ) → t ≢ f → one_if_same t f ≡ 0
one_if_same-other t f ne = grind (arith, nat_tests)

pub one_if_same_is : (t f : ℕ) → 0 < one_if_same t f → t ≡ f
one_if_same_is t f h = grind (arith, nat_tests)

pub one_if_same_le : (t f : ℕ) → one_if_same t f ≤ 1
one_if_same_le t f = grind (arith, nat_tests)
