use Rattle.manager.proofs.words.Cleared.{one_device}
use Rattle.manager.proofs.entering.only.Goals as goal

pub returns-then-device-lt16 : goal.returns-then-device-lt16
returns-then-device-lt16 c = one_device c.args.device c.if-device-lt16.true
