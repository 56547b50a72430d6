use Rattle.std.proofs.Common.{◌∙◌, List, take, drop, ap, subst, sym}
use Rattle.std.proofs.lemmas.List.{take-append-drop}
use Rattle.dmatypes.specs.World.{IsIn}
use Rattle.engine.specs.declared.record.Record.{Record}
use Rattle.engine.specs.Ready.{AreReleasable}
use Rattle.engine.proofs.flushes.Together.{from_place, last_releasable}
use Rattle.engine.proofs.lists.Membership.{in_right}
use Rattle.engine.proofs.domain.runs.release_last.Goals as goal

pub release_run-requires-clause-can : goal.release_run-requires-clause-can
release_run-requires-clause-can c =
    let all : List Record = c.args.records.now.items in
    let start = c.last_run-run.result.start in
    let here = from_place c.as_slice-2.result.now start ∙ ap (drop start) c.as_slice-2.ensures.value in
    subst (λ rs. AreReleasable c.args.pool.now c.args.space.now rs) (sym here)
    (last_releasable c.args.pool.now c.args.space.now (take start all) (drop start all)
    (subst (λ rs. AreReleasable c.args.pool.now c.args.space.now rs) (sym (take-append-drop start all)) c.requires.can))

pub release_run-requires-clause-invalidated : goal.release_run-requires-clause-invalidated
release_run-requires-clause-invalidated c r inside =
    let all : List Record = c.args.records.now.items in
    let start = c.last_run-run.result.start in
    let here = from_place c.as_slice-2.result.now start ∙ ap (drop start) c.as_slice-2.ensures.value in
    c.requires.invalidated r (subst (λ rs. IsIn r rs) (take-append-drop start all)
    (in_right r (take start all) (drop start all) (subst (λ rs. IsIn r rs) here inside)))
