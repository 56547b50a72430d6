use Rattle.std.proofs.Common.{arith}
use Rattle.dmatypes.specs.History.{IsLegal}
use Rattle.ports.specs.Lawful.{IsLawfulAfter}
use Rattle.ports.proofs.histories.LawfulWords.{legal_empty, lawful_zero}
use Rattle.ports.proofs.steps.Seats.{comes}
use Rattle.ports.proofs.rows.newcomer.Goals as goal

pub split_seat-requires : goal.split_seat-requires
split_seat-requires c = (
  c.requires.table.0,
  c.requires.table.1,
  comes (IsLegal c.args.words.now.shared.key.frames) (IsLawfulAfter c.args.words.now.shared.key.frames)
      (legal_empty c.args.words.now.shared.key.frames) (lawful_zero c.args.words.now.shared.key.frames) _ _ _ c.requires.caller.2
      (omega (arith, c.requires.caller.0, c.requires.caller.1)),
)
