use Rattle.quiet.proofs.Lazily.{flushes_forget}
use Rattle.quiet.proofs.flushes_forget.Goals as goal

pub returns : goal.returns
returns c = flushes_forget
