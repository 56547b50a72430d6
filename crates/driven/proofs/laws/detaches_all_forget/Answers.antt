use Rattle.driven.proofs.Detached.{detaches_all_forget}
use Rattle.driven.proofs.laws.detaches_all_forget.Goals as goal

pub returns : goal.returns
returns c = detaches_all_forget
