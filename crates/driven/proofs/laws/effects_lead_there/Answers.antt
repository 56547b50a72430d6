use Rattle.driven.proofs.Moments.{lead_there}
use Rattle.driven.proofs.laws.effects_lead_there.Goals as goal

pub returns : goal.returns
returns c = lead_there
