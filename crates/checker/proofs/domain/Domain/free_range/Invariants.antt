use Rattle.std.proofs.Common.{◌≡◌, ℕ, ◌-◌, ◌%◌, ◌^◌, ◌<◌}
use Rattle.dmatypes.specs.World.{AreFreePages}
use Rattle.checker.specs.Pages.{range}
use Rattle.checker.specs.World.{domain_of}
use Rattle.checker.proofs.domain.Domain.free_range.Given as goal

abbrev pub invariant-loop-start : goal.invariant-loop-start
invariant-loop-start l = record {
  aligned : l.start % 2 ^ l.order ≡ 0;
  none : (s : ℕ) → s % 2 ^ l.order ≡ 0 → s < l.start → AreFreePages (domain_of l.self) (range s l.pages) → ⊥;
}

abbrev pub decreases-loop-start : goal.decreases-loop-start
decreases-loop-start l = l.end - l.start
