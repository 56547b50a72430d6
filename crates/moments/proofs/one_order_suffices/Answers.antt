use Rattle.moments.proofs.Orders.{in_turn}
use Rattle.moments.proofs.one_order_suffices.Goals as goal

pub returns : goal.returns
returns c = in_turn
