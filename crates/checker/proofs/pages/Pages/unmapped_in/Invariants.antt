use Rattle.std.proofs.Common.{ℕ, ◌+◌, ◌-◌, ◌<◌, ◌≤◌, IsSome}
use Rattle.checker.specs.Pages.{target_at}
use Rattle.checker.proofs.pages.Pages.unmapped_in.Given as goal

abbrev pub invariant-loop-page : goal.invariant-loop-page
invariant-loop-page l = (l.first ≤ l.page) × ((p : ℕ) → l.first ≤ p → p < l.page → IsSome (target_at l.self p))

abbrev pub decreases-loop-page : goal.decreases-loop-page
decreases-loop-page l = l.first + l.pages - l.page
