use Rattle.std.proofs.Common.{ap}
use Rattle.vtdbits.proofs.number.PageBlock.first.Goals as goal

pub returns-clause-value : goal.returns-clause-value
returns-clause-value c = ap (λ b. b.first) c.self.view_is
