use Rattle.std.proofs.Common.{◌≡◌, ◌≤◌, ℕ, ap, sym, subst, ◌∙◌, inl, refl, arith, Some}
use Rattle.std.specs.Option.{option_copied, option_map}
use Rattle.dmatypes.specs.Conditions.{total_pages}
use Rattle.checker.specs.World.{domain_of, world_of, HasFreeRange}
use Rattle.checker.proofs.calls.Asked.{some_pages, free_range_stands, no_free_range}
use Rattle.checker.proofs.checker.Checker.range_refusal.Goals as goal

pub free_range-requires-clause-pages : goal.free_range-requires-clause-pages
free_range-requires-clause-pages c =
    let some : 1 ≤ total_pages c.args.segments.now = some_pages c.args.segments.now c.args.order c.args.rights c.requires.1.0 in
    (omega (arith, some, c.in_ok-pages.ensures), omega (arith, c.in_ok-pages.ensures))

pub returns-in-Some : goal.returns-in-Some
returns-in-Some c =
    let v = domain_of c.in_ok-domain.domain.now in
    let n = total_pages c.args.segments.now in
    let is : (world_of c.args.self.now).domains c.args.domain ≡ Some v =
    ap (option_map domain_of) (sym c.domain.ensures ∙ ap option_copied c.in_ok-domain.was) in
    let free : HasFreeRange v n c.args.order =
    subst (λ (k : ℕ). HasFreeRange v k c.args.order) c.in_ok-pages.ensures.0 (c.in-Some.field-0, c.in-Some.ensures) in
    (free_range_stands ((world_of c.args.self.now).domains c.args.domain) v n c.args.order is free, tt)

pub returns-in-None : goal.returns-in-None
returns-in-None c =
    let v = domain_of c.in_ok-domain.domain.now in
    let n = total_pages c.args.segments.now in
    let is : (world_of c.args.self.now).domains c.args.domain ≡ Some v =
    ap (option_map domain_of) (sym c.domain.ensures ∙ ap option_copied c.in_ok-domain.was) in
    let none : HasFreeRange v n c.args.order → ⊥ =
    subst (λ (k : ℕ). HasFreeRange v k c.args.order → ⊥) c.in_ok-pages.ensures.0 c.in-None.ensures in
    inl (no_free_range ((world_of c.args.self.now).domains c.args.domain) v n c.args.order is none, refl)
