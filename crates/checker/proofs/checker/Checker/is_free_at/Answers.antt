use Rattle.std.proofs.Common.{◌≡◌, ◌%◌, ◌^◌, ℕ, ap, sym, subst, ◌∙◌, Some}
use Rattle.std.specs.Option.{option_copied, option_map}
use Rattle.dmatypes.specs.World.{AreFreePages}
use Rattle.checker.specs.World.{domain_of, world_of}
use Rattle.checker.proofs.calls.Asked.{some_and_at, some_and_from}
use Rattle.checker.proofs.checker.Checker.is_free_at.Goals as goal

pub returns-in-Some : goal.returns-in-Some
returns-in-Some c =
    let v = domain_of c.in-Some.domain.now in
    let o = (world_of c.args.self.now).domains c.args.domain in
    let is : o ≡ Some v = ap (option_map domain_of) (sym c.domain.ensures ∙ ap option_copied c.in-Some.is) in
    let aligned : c.args.range.first % 2 ^ c.args.order ≡ 0 =
    subst (λ (n : ℕ). c.args.range.first % n ≡ 0) c.power.ensures.power
    (subst (λ (f : ℕ). f % c.power.result ≡ 0) c.first.ensures.value c.if-first-power-ne0.false) in (
      λ free. (aligned, some_and_from (λ u. AreFreePages u c.args.range) o v is (c.are_free.ensures.0 free)),
      λ h. c.are_free.ensures.1 (some_and_at (λ u. AreFreePages u c.args.range) o v is h.1),
    )
