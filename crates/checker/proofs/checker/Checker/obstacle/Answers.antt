use Rattle.std.proofs.Common.{◌≡◌, Some, ap, sym, subst, ◌∙◌}
use Rattle.std.specs.Option.{option_copied, option_map}
use Rattle.std.specs.Prelude.{MatchOption}
use Rattle.dmatypes.specs.Page.{IsPageOf, IsWithin, Range}
use Rattle.dmatypes.specs.World.{AreFreePages, IsFree}
use Rattle.checker.specs.Pages.{range}
use Rattle.checker.specs.World.{domain_of, world_of}
use Rattle.checker.proofs.calls.Expected.{obstacle_in}
use Rattle.checker.proofs.checker.Checker.obstacle.Goals as goal

pub returns : goal.returns
returns c =
    let v = domain_of c.in_ok-domain.field-0.now in
    let is : (world_of c.args.self.now).domains c.args.domain ≡ Some v =
    ap (option_map domain_of) (sym c.domain.ensures ∙ ap option_copied c.in_ok-domain.was) in
    let same : range c.first.result c.pages.result ≡ c.args.range =
    λ i. record { first = c.first.ensures.value i; pages = c.pages.ensures.value i } in
    obstacle_in ((world_of c.args.self.now).domains c.args.domain) v c.args.range c.obstacle.result is
    (subst (λ (r : Range). MatchOption c.obstacle.result (AreFreePages v r) (λ p. IsWithin r p × (IsPageOf v.width p × IsFree v p → ⊥)))
    same c.obstacle.ensures)
