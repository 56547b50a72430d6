use Rattle.std.proofs.Common.{Err, Ok}
use Rattle.std.proofs.lemmas.Result.{err_from_is_err_and}
use Rattle.engine.proofs.maps.Mapped.{one_map}
use Rattle.engine.proofs.state.State.map.Goals as goal

pub returns-in_err-placed : goal.returns-in_err-placed
returns-in_err-placed c =
    let p = err_from_is_err_and c.from_residual.result c.from_residual.ensures.1 in
    rw (p.1, p.2) (one_map _ _ c.args.domain c.args.frame c.args.pages c.args.order c.args.rights (Err c.in_err-placed.field-0.0)
    c.in_err-placed.ensures.does)

pub returns : goal.returns
returns c =
    one_map _ _ c.args.domain c.args.frame c.args.pages c.args.order c.args.rights (Ok c.in_ok-placed.placed.address)
    c.in_ok-placed.ensures.does
