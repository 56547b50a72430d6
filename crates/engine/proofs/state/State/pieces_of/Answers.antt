use Rattle.std.proofs.Common.{◌≡◌, None}
use Rattle.engine.specs.Domains.{domain_at}
use Rattle.engine.proofs.domains.OneChanged.{no_id_no_domain}
use Rattle.engine.proofs.state.State.pieces_of.Goals as goal

pub returns-in_err-id-clause-none : goal.returns-in_err-id-clause-none
returns-in_err-id-clause-none c =
    let none : domain_at c.self.inside.domains.items c.args.id ≡ None =
    no_id_no_domain c.self.inside.domains.items c.args.id c.self.invariant.0.places
    (λ id. let some = c.in_err-id.ensures.some.1 id in absurd cc) in
    rw (c.from_residual.ensures, ← c.self.view_is) none
