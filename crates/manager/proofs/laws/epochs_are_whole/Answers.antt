use Rattle.manager.proofs.books.Epochs.{epochs_whole}
use Rattle.manager.proofs.laws.epochs_are_whole.Goals as goal

pub returns : goal.returns
returns c = epochs_whole
