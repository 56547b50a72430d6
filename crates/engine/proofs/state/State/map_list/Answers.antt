use Rattle.std.proofs.Common.{subst}
use Rattle.std.proofs.lemmas.Result.{err_from_is_err_and}
use Rattle.dmatypes.specs.declared.call.Call.TheVariants as calls
use Rattle.dmatypes.specs.declared.reply.Reply.TheVariants.{Mapped, Refused}
use Rattle.engine.specs.Steps.{Does}
use Rattle.engine.proofs.state.State.map_list.Goals as goal

pub returns-in_err-placed : goal.returns-in_err-placed
returns-in_err-placed c =
    let p = err_from_is_err_and c.from_residual.result c.from_residual.ensures.1 in
    rw (p.1, p.2)
    (subst (λ xs. Does c.args.self.now (calls.MapList c.args.domain c.args.order c.args.rights (record { items = xs }))
    (Refused c.in_err-placed.field-0.0) c.map_segments.new.self) c.as_slice.ensures.value c.in_err-placed.ensures.does)

pub returns : goal.returns
returns c =
    subst (λ xs. Does c.args.self.now (calls.MapList c.args.domain c.args.order c.args.rights (record { items = xs }))
    (Mapped c.in_ok-placed.placed.address) c.map_segments.new.self) c.as_slice.ensures.value c.in_ok-placed.ensures.does
