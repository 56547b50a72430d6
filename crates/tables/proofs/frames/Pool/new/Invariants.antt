use Rattle.std.proofs.Common.{◌≡◌, ℕ, ◌≤◌, ◌<◌, length}
use Rattle.tables.specs.Pool.{occurs}
use Rattle.tables.proofs.frames.Pool.new.Given as goal

abbrev pub invariant-loop-number : goal.invariant-loop-number
invariant-loop-number l = record {
  long : length l.slots.items ≡ l.number;
  below : (f : ℕ) → f < l.number → occurs f l.slots.items ≡ 1;
  past : (f : ℕ) → l.number ≤ f → occurs f l.slots.items ≡ 0;
}
