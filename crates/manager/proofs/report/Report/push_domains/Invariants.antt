use Rattle.std.proofs.Common.{◌≡◌, ◌≤◌, ◌+◌, ◌*◌, ◌++◌, length}
use Rattle.manager.specs.Report.{domain_lines}
use Rattle.manager.specs.declared.report.TheConstants.{HEAD_LINES}
use Rattle.manager.specs.declared.report_lines.TheConstants.{LINE_BYTES}
use Rattle.manager.proofs.report.Report.push_domains.Given as goal

-- the lines of the domains so far
abbrev pub invariant-loop-index : goal.invariant-loop-index
invariant-loop-index l = record {
  so_far : l.self ≡ l.fn.self ++ domain_lines l.state l.index;
  few : length l.self ≤ (HEAD_LINES + l.index) * LINE_BYTES;
}
