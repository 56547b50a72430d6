use Rattle.quiet.proofs.Lazily.{full_lists_forget}
use Rattle.quiet.proofs.full_lists_forget.Goals as goal

pub returns : goal.returns
returns c = full_lists_forget
