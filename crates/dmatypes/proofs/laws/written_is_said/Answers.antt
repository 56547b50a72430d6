use Rattle.dmatypes.proofs.texts.Replied.{written_is_said}
use Rattle.dmatypes.proofs.laws.written_is_said.Goals as goal

pub returns : goal.returns
returns c = written_is_said
