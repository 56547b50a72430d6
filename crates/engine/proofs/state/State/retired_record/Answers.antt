use Rattle.std.proofs.Common.{◌≡◌, ◌∙◌, None, ap, sym}
use Rattle.engine.specs.Domains.{domain_at}
use Rattle.engine.specs.Spaces.{retired_record_of}
use Rattle.engine.proofs.domains.OneChanged.{no_id_no_domain}
use Rattle.engine.proofs.state.State.retired_record.Goals as goal

pub returns-in_err-id : goal.returns-in_err-id
returns-in_err-id c =
    let none : domain_at c.self.inside.domains.items c.args.id ≡ None =
    no_id_no_domain c.self.inside.domains.items c.args.id c.self.invariant.0.places
    (λ id. let some = c.in_err-id.ensures.some.1 id in absurd cc) in
    c.from_residual.ensures ∙ rw (← c.self.view_is) (ap (λ d. retired_record_of d c.args.index) (sym none))
