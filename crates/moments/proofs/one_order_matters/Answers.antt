use Rattle.moments.proofs.Walks.{order_matters}
use Rattle.moments.proofs.one_order_matters.Goals as goal

pub returns : goal.returns
returns c = order_matters
