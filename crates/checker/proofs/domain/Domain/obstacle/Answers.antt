use Rattle.std.proofs.Common.{◌≡◌, true, subst}
use Rattle.std.specs.Prelude.{MatchOption, not}
use Rattle.dmatypes.specs.Page.{Range, IsWithin}
use Rattle.dmatypes.specs.World.{IsIn}
use Rattle.checker.specs.declared.record.Record.{Record}
use Rattle.checker.specs.Pages.{range}
use Rattle.checker.specs.World.{meets_some}
use Rattle.checker.proofs.worlds.Free.{obstacle_of}
use Rattle.checker.proofs.domain.Domain.obstacle.Goals as goal

pub returns-in-None : goal.returns-in-None
returns-in-None c =
    let d = c.args.self.now in
    let r = range c.args.first c.args.pages in
    let same : c.in-Some.range ≡ r = c.in-Some.ensures.0 in
    obstacle_of c.last_held.result d r c.in-Some.ensures.2 c.in-None.ensures
    (subst (λ (s : Range). MatchOption c.last_held.result (not (meets_some d s) ≡ true)
    (λ p. IsWithin s p × (x : Record) × IsIn x d.retired.items × IsWithin x.range p)) same c.last_held.ensures)

pub no_page_in-requires-clause-none : goal.no_page_in-requires-clause-none
no_page_in-requires-clause-none c = λ fits.
    c.in_default.ensures (record { some = c.requires.pages.0; few = c.requires.pages.1; members = λ p inside. (fits p inside).0 }, fits)
