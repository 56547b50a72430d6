use Rattle.std.proofs.Common.{◌≡◌, ◌∙◌, None, ap, refl, sym}
use Rattle.std.specs.Prelude.{option_copied}
use Rattle.engine.specs.Domains.{domain_at}
use Rattle.engine.proofs.domains.Found.{finds}
use Rattle.engine.proofs.domains.OneChanged.{can_place, no_id_no_domain}
use Rattle.engine.proofs.state.State.table_at.Goals as goal

pub table_at-requires-clause-tree : goal.table_at-requires-clause-tree
table_at-requires-clause-tree c =
    let found =
    finds c.self.invariant.0 c.in_ok-id.ensures.value c.place_of.ensures.place c.place_of.ensures.low c.index.ensures
    (sym c.as_ref.ensures.value ∙ ap option_copied c.in_ok-domain.was) in
    (can_place _ c.args.id c.in_ok-domain.domain.now c.self.invariant.0.of_world c.self.invariant.0.places found.there).tree

pub returns : goal.returns
returns c =
    let found =
    finds c.self.invariant.0 c.in_ok-id.ensures.value c.place_of.ensures.place c.place_of.ensures.low c.index.ensures
    (sym c.as_ref.ensures.value ∙ ap option_copied c.in_ok-domain.was) in
    rw (← c.self.view_is, found.there) c.table_at.ensures

pub returns-in_err-domain : goal.returns-in_err-domain
returns-in_err-domain c =
    let found =
    finds c.self.invariant.0 c.in_ok-id.ensures.value c.place_of.ensures.place c.place_of.ensures.low c.index.ensures
    (sym c.as_ref.ensures.value ∙ ap option_copied c.in_err-domain.was) in
    rw (c.from_residual-in_err-domain.ensures, ← c.self.view_is, found.there) refl

pub returns-in_err-id : goal.returns-in_err-id
returns-in_err-id c =
    let none : domain_at c.self.inside.domains.items c.args.id ≡ None =
    no_id_no_domain c.self.inside.domains.items c.args.id c.self.invariant.0.places
    (λ id. let some = c.in_err-id.ensures.some.1 id in absurd cc) in
    rw (c.from_residual.ensures, ← c.self.view_is, none) refl
