use Rattle.std.proofs.Common.{refl}
use Rattle.std.proofs.lemmas.Result.{IfOk-weaker}
use Rattle.dmatypes.specs.Conditions.{Stands, order_of}
use Rattle.checker.specs.World.{world_of}
use Rattle.checker.proofs.calls.Judged.{first_excludes, judges_from_accepts, step_parts}
use Rattle.checker.proofs.checker.Checker.judge_other.Goals as goal

pub returns-in-Some : goal.returns-in-Some
returns-in-Some c =
    let w = world_of c.args.self.now in
    let call = c.args.call.now in (
      λ step. first_excludes (Stands w call) (order_of call) c.in-Some.field-0 (step_parts w call c.args.reply c.requires.answer step).0
          c.in-Some.ensures,
      refl,
    )

pub returns-in-None : goal.returns-in-None
returns-in-None c =
    IfOk-weaker c.accept.result _ _
    (λ legal h. judges_from_accepts legal (world_of c.args.self.now) c.args.call.now c.args.reply (world_of c.accept.new.self)
    c.requires.answer c.in-None.ensures h) c.accept.ensures
