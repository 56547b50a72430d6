use Rattle.std.proofs.Common.{List, sym, subst}
use Rattle.std.specs.Prelude.{IfOk}
use Rattle.std.proofs.lemmas.Result.{IfOk-weaker}
use Rattle.dmatypes.specs.declared.call.Call.{Call}
use Rattle.dmatypes.specs.declared.call.Segment.{Segment}
use Rattle.checker.specs.Judging.{Judges, JudgesMap}
use Rattle.checker.specs.World.{world_of}
use Rattle.checker.proofs.calls.Judged.{judges_map, judges_maplist}
use Rattle.checker.proofs.checker.Checker.judge_answer.Goals as goal

pub returns-in-Map : goal.returns-in-Map
returns-in-Map c =
    let w = world_of c.args.self.now in
    let t = world_of c.judge_map.new.self in
    subst (λ (call : Call). IfOk c.judge_map.result (λ legal. Judges w call c.args.reply legal t)) (sym c.in-Map.is)
    (IfOk-weaker c.judge_map.result _ _
    (λ legal h. judges_map legal w c.in-Map.domain c.in-Map.frame c.in-Map.pages c.in-Map.order c.in-Map.rights c.args.reply t c.requires h)
    c.judge_map.ensures)

pub returns-in-MapList : goal.returns-in-MapList
returns-in-MapList c =
    let w = world_of c.args.self.now in
    let t = world_of c.judge_map-in-MapList.new.self in
    subst (λ (call : Call). IfOk c.judge_map-in-MapList.result (λ legal. Judges w call c.args.reply legal t)) (sym c.in-MapList.is)
    (IfOk-weaker c.judge_map-in-MapList.result _ _
    (λ legal h. judges_maplist legal w c.in-MapList.domain c.in-MapList.order c.in-MapList.rights c.in-MapList.segments c.args.reply t
    c.requires h)
    (subst (λ (ss : List Segment). IfOk c.judge_map-in-MapList.result
    (λ legal. JudgesMap w c.in-MapList.domain ss c.in-MapList.order c.in-MapList.rights c.args.reply legal t)) c.as_slice.ensures.value
    c.judge_map-in-MapList.ensures))
