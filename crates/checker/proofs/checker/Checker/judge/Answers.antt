use Rattle.std.proofs.Common.{sym, subst}
use Rattle.dmatypes.specs.declared.reply.Reply.{Reply}
use Rattle.checker.specs.Judging.{Judges}
use Rattle.checker.specs.World.{world_of}
use Rattle.checker.proofs.calls.Judged.{judges_refused}
use Rattle.checker.proofs.checker.Checker.judge.Goals as goal

pub returns-in-Refused : goal.returns-in-Refused
returns-in-Refused c =
    let w = world_of c.args.self.now in
    subst (λ (reply : Reply). Judges w c.args.call.now reply c.may_refuse.result w) (sym c.in-Refused.is)
    (judges_refused c.may_refuse.result w c.args.call.now c.in-Refused.refusal c.may_refuse.ensures)
