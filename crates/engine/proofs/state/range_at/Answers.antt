use Rattle.std.proofs.Common.{◌≡◌, IsTrue, inr, refl, sym, subst}
use Rattle.dmatypes.specs.Page.{Fits, Range, range_at}
use Rattle.engine.proofs.state.range_at.Goals as goal

pub returns-then-fits-clause-some : goal.returns-then-fits-clause-some
returns-then-fits-clause-some c =
    let is : c.in_ok-range.range ≡ range_at c.args.address c.args.pages = c.in_ok-range.ensures.value in (
      c.if-address-ne0.false,
      is,
      c.in_ok-range.ensures.some.0 refl,
      subst (λ (r : Range). Fits r c.args.width) is (c.fits.ensures.0 c.if-fits.true),
    )

pub returns-else-fits-clause-none : goal.returns-else-fits-clause-none
returns-else-fits-clause-none c =
    let is : c.in_ok-range.range ≡ range_at c.args.address c.args.pages = c.in_ok-range.ensures.value in
    inr (λ both.
    let yes : IsTrue c.fits.result = c.fits.ensures.1 (subst (λ (r : Range). Fits r c.args.width) (sym is) both.1) in
    let no = c.if-fits.false in absurd cc)
