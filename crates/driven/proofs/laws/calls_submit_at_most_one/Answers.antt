use Rattle.driven.proofs.Sent.{submits}
use Rattle.driven.proofs.laws.calls_submit_at_most_one.Goals as goal

pub returns : goal.returns
returns c = λ m t call reply tickets does. submits m t tickets call reply does
