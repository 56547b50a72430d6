use Rattle.std.proofs.Common.{List, sym, subst}
use Rattle.std.specs.Prelude.{MatchOption}
use Rattle.dmatypes.specs.declared.call.Call.{Call}
use Rattle.dmatypes.specs.declared.call.Segment.{Segment}
use Rattle.dmatypes.specs.declared.reply.Reply.{Reply}
use Rattle.dmatypes.specs.Conditions.{NoConditionStands, NoneStands, StandsAtMap}
use Rattle.dmatypes.specs.Step.{IsMapAnswer}
use Rattle.checker.specs.Allowed.{IsExpectedAnswer}
use Rattle.checker.specs.Judging.{IsAnswer}
use Rattle.checker.specs.Refusing.{map_conditions}
use Rattle.checker.specs.World.{world_of}
use Rattle.checker.proofs.calls.Expected.{expected_map, expected_maplist, none_at_map, none_at_maplist}
use Rattle.checker.proofs.checker.Checker.answer.Goals as goal

pub map_answer-requires : goal.map_answer-requires
map_answer-requires c =
    let w = world_of c.args.self.now in
    none_at_map w c.in-Map.domain c.in-Map.frame c.in-Map.pages c.in-Map.order c.in-Map.rights
    (subst (λ (call : Call). NoConditionStands w call) c.in-Map.is c.requires)

pub map_answer-requires-in-MapList : goal.map_answer-requires-in-MapList
map_answer-requires-in-MapList c =
    let w = world_of c.args.self.now in
    subst (λ (ss : List Segment). NoneStands (StandsAtMap w c.in-MapList.domain ss c.in-MapList.order c.in-MapList.rights) map_conditions)
    (sym c.as_slice.ensures.value)
    (none_at_maplist w c.in-MapList.domain c.in-MapList.order c.in-MapList.rights c.in-MapList.segments
    (subst (λ (call : Call). NoConditionStands w call) c.in-MapList.is c.requires))

pub returns-in-Map : goal.returns-in-Map
returns-in-Map c =
    let w = world_of c.args.self.now in
    subst (λ (call : Call). IsExpectedAnswer w call c.map_answer.result) (sym c.in-Map.is)
    (expected_map c.map_answer.result w c.in-Map.domain c.in-Map.frame c.in-Map.pages c.in-Map.order c.in-Map.rights c.map_answer.ensures)

pub returns-in-MapList : goal.returns-in-MapList
returns-in-MapList c =
    let w = world_of c.args.self.now in
    let o = c.map_answer-in-MapList.result in
    subst (λ (call : Call). IsExpectedAnswer w call o) (sym c.in-MapList.is)
    (expected_maplist o w c.in-MapList.domain c.in-MapList.order c.in-MapList.rights c.in-MapList.segments
    (subst (λ (ss : List Segment). MatchOption o
    ((reply : Reply) → IsMapAnswer w c.in-MapList.domain ss c.in-MapList.order reply → ⊥)
    (λ reply. IsAnswer reply × IsMapAnswer w c.in-MapList.domain ss c.in-MapList.order reply)) c.as_slice.ensures.value
    c.map_answer-in-MapList.ensures))
