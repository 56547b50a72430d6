use Rattle.std.proofs.Common.{◌≡◌, ◌≤◌, ◌+◌, ◌*◌, ◌++◌, length}
use Rattle.manager.specs.Report.{device_lines}
use Rattle.manager.specs.declared.report.TheConstants.{DOMAINS_END}
use Rattle.manager.proofs.report.Report.push_devices.Given as goal

-- the lines of the devices so far, each of at most 64 bytes
abbrev pub invariant-loop-device : goal.invariant-loop-device
invariant-loop-device l = record {
  so_far : l.self ≡ l.fn.self ++ device_lines l.state l.device;
  few : length l.self ≤ DOMAINS_END + 64 * l.device;
}
