use Rattle.dmatypes.proofs.texts.Replied.{said_is_written}
use Rattle.dmatypes.proofs.laws.said_is_written.Goals as goal

pub returns : goal.returns
returns c = said_is_written
