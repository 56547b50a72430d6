use Rattle.std.proofs.Common.{◌+◌, ◌↔◌, IsTrue, subst, arith}
use Rattle.std.specs.Prelude.{nat_le}
use Rattle.std.proofs.lemmas.Bool.{le-leb, leb-true}
use Rattle.dmatypes.specs.Page.{Fits, Range}
use Rattle.dmatypes.proofs.numbers.Ranges.{end_of_fit, fits_by_end}
use Rattle.dmatypes.proofs.page.PageRange.fits.Goals as goal

pub returns : goal.returns
returns c =
    let here : Range = record { first = c.self.inside.first; pages = c.self.inside.pages } in
    subst (λ (r : Range). IsTrue (nat_le (c.self.inside.first + c.self.inside.pages) c.pages_end.result) ↔ Fits r c.args.width)
    c.self.view_is (
      λ low.
          fits_by_end here c.args.width c.self.invariant
          (omega (arith, leb-true (c.self.inside.first + c.self.inside.pages) c.pages_end.result low, c.pages_end.ensures.exact)),
      λ fits.
          le-leb (c.self.inside.first + c.self.inside.pages) c.pages_end.result
          (omega (arith, end_of_fit here c.args.width c.self.invariant fits, c.pages_end.ensures.exact)),
    )
