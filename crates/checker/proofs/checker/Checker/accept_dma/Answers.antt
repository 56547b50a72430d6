use Rattle.dmatypes.specs.Step.{Answers}
use Rattle.checker.specs.World.{world_of}
use Rattle.checker.proofs.calls.Judged.{accepts_dma}
use Rattle.checker.proofs.checker.Checker.accept_dma.Goals as goal

pub returns : goal.returns
unfolding Answers
returns c = λ whim. accepts_dma c.allows.result (world_of c.args.self.now) c.args.device c.args.address c.args.access whim c.args.reply
    c.allows.ensures
