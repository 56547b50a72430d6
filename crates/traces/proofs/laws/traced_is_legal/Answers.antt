use Rattle.traces.proofs.Read.{traced_is_legal}
use Rattle.traces.proofs.laws.traced_is_legal.Goals as goal

pub returns : goal.returns
returns c = traced_is_legal
