use Rattle.tables.proofs.sums.OverSpans.{leaves_splitting_few}
use Rattle.tables.proofs.unmapping.spans_met.Goals as goal

pub returns : goal.returns
returns c m level root = leaves_splitting_few m level root c.args.from c.args.to
