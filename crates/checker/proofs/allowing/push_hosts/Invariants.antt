use Rattle.std.proofs.Common.{◌≡◌, ◌++◌, take}
use Rattle.checker.specs.Reaching.{hosts}
use Rattle.checker.proofs.allowing.push_hosts.Given as goal

abbrev pub invariant-loop-record : goal.invariant-loop-record
invariant-loop-record l = l.replies.items ≡ l.fn.replies.items ++ hosts l.address l.access (take l.record-index l.records)
