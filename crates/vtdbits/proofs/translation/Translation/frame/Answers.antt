use Rattle.std.proofs.Common.{ap}
use Rattle.vtdbits.proofs.translation.Translation.frame.Goals as goal

pub returns : goal.returns
returns c = ap (λ t. t.frame) c.self.view_is
