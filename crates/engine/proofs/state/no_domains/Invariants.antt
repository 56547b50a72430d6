use Rattle.std.proofs.Common.{◌≡◌, None, replicate}
use Rattle.engine.proofs.state.no_domains.Given as goal

abbrev pub invariant-loop-place : goal.invariant-loop-place
invariant-loop-place l = l.domains.items ≡ replicate l._place None
