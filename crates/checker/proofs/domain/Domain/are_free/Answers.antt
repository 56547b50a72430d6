use Rattle.std.proofs.Common.{◌≡◌, true, sym, ◌∙◌, arith}
use Rattle.std.proofs.lemmas.Bool.{not-true}
use Rattle.checker.specs.Pages.{NoneIsMappedIn, IsMappedIn}
use Rattle.checker.proofs.worlds.Free.{free_pages, mapped_not_free, held_not_free, not_from}
use Rattle.checker.proofs.domain.Domain.are_free.Goals as goal

pub returns-in-None : goal.returns-in-None
returns-in-None c =
    let d = c.args.self.now in
    let r = c.args.range in
    let none : NoneIsMappedIn d.live r = λ p w. c.in-None.ensures p (omega (arith, w), omega (arith, w)) in (
      λ yes. free_pages d r (c.fits.ensures.0 c.if-not-fits.false) none (sym c.is_held.ensures ∙ not-true c.is_held.result yes),
      λ free. not_from c.is_held.result (λ held. held_not_free d r (sym c.is_held.ensures ∙ held) free),
    )

pub returns-in-Some : goal.returns-in-Some
returns-in-Some c =
    let d = c.args.self.now in
    let r = c.args.range in
    let mapped : IsMappedIn d.live r c.in-Some.field-0 =
    ((omega (arith, c.in-Some.ensures.0), omega (arith, c.in-Some.ensures.0)), c.in-Some.ensures.1) in
    (λ no. absurd cc, λ free. absurd (mapped_not_free d r c.in-Some.field-0 mapped free))

pub returns-then-not-fits : goal.returns-then-not-fits
returns-then-not-fits c = (
  λ no. absurd cc,
  λ free. let fits : c.fits.result ≡ true = c.fits.ensures.1 (λ p inside. (free p inside).0) in cc,
)
