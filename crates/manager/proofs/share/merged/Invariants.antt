use Rattle.std.proofs.Common.{◌≡◌, ◌+◌, ◌≤◌, sum_by, vec_len}
use Rattle.manager.specs.Kept.{AllSaw}
use Rattle.manager.proofs.share.merged.Given as goal

abbrev pub invariant-loop-share : goal.invariant-loop-share
invariant-loop-share g l =
    (l.whole.parts + vec_len l.shares ≡ vec_len l.fn.shares)
    × (l.whole.amount + sum_by (λ s. s.calls) l.shares.items ≡ sum_by (λ s. s.calls) l.fn.shares.items)
    × (l.whole.parts ≤ g.B.Ledger.parts)
    × (l.desk ≡ l.fn.desk)
    × (AllSaw l.fn.desk.history l.shares.items → AllSaw l.fn.desk.history l.fn.shares.items)

abbrev pub decreases-loop-share : goal.decreases-loop-share
decreases-loop-share g l = goal.left-loop-share g l
