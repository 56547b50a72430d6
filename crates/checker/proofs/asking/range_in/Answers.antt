use Rattle.std.proofs.Common.{◌≡◌, Option, None, Some, refl, subst}
use Rattle.std.specs.Prelude.{MatchOption}
use Rattle.dmatypes.specs.declared.width.Width.{Width}
use Rattle.dmatypes.specs.Page.{Fits, IsPageRange, Range}
use Rattle.checker.specs.Pages.{range}
use Rattle.checker.proofs.asking.range_in.Goals as goal

found : (o : Option Range) (r : Range) (width : Width) → IsPageRange r → MatchOption o (Fits r width → ⊥) (λ x. (x ≡ r) × Fits r width)
    → MatchOption o (IsPageRange r × Fits r width → ⊥) (λ x. (x ≡ r) × IsPageRange r × Fits r width)
found None r width is none = λ h. none h.1
found (Some x) r width is h = (h.0, is, h.1)

pub returns-in-Some : goal.returns-in-Some
returns-in-Some c =
    found c.where_fits.result (range c.args.first c.args.pages) c.args.width (c.in-Some.ensures.some.0 refl)
    (subst (λ (r : Range). MatchOption c.where_fits.result (Fits r c.args.width → ⊥) (λ x. (x ≡ r) × Fits r c.args.width))
    c.in-Some.ensures.value c.where_fits.ensures)
