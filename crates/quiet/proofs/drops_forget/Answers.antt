use Rattle.quiet.proofs.Ends.{drops_forget}
use Rattle.quiet.proofs.drops_forget.Goals as goal

pub returns : goal.returns
returns c = drops_forget
