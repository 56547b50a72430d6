use Rattle.moments.proofs.ReadWords.{words_spelled}
use Rattle.moments.proofs.words_read_are_spelled.Goals as goal

pub returns : goal.returns
returns c = words_spelled
