use Rattle.driven.proofs.Calls.{calls_change}
use Rattle.driven.proofs.laws.calls_change_these_words.Goals as goal

pub returns : goal.returns
returns c = calls_change
