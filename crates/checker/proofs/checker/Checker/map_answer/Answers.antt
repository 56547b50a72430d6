use Rattle.std.proofs.Common.{◌≡◌, ◌≤◌, ◌<◌, ℕ, Some, ap, sym, subst, ◌∙◌, arith}
use Rattle.std.specs.Option.{option_copied, option_map}
use Rattle.dmatypes.specs.declared.reply.Reply.TheVariants.{Mapped}
use Rattle.dmatypes.specs.declared.width.TheConstants.{PAGES_END}
use Rattle.dmatypes.specs.Conditions.{total_pages}
use Rattle.dmatypes.specs.World.{AreFreePages}
use Rattle.checker.specs.Pages.{range}
use Rattle.checker.specs.World.{domain_of, world_of}
use Rattle.checker.proofs.calls.Asked.{some_and_at, some_and_from, some_pages}
use Rattle.checker.proofs.checker.Checker.map_answer.Goals as goal

pub free_range-requires-clause-pages : goal.free_range-requires-clause-pages
free_range-requires-clause-pages c =
    let some : 1 ≤ total_pages c.args.segments.now = some_pages c.args.segments.now c.args.order c.args.rights c.requires.1.0 in
    (omega (arith, some, c.in_ok-pages.ensures), omega (arith, c.in_ok-pages.ensures))

pub returns-in_err-first : goal.returns-in_err-first
returns-in_err-first c =
    let v = domain_of c.in_ok-domain.field-0.now in
    let o = (world_of c.args.self.now).domains c.args.domain in
    let is : o ≡ Some v = ap (option_map domain_of) (sym c.domain.ensures ∙ ap option_copied c.in_ok-domain.was) in
    rw c.from_residual-in_err-first.ensures
    (λ reply answer.
    let free : AreFreePages v (range answer.0 (total_pages c.args.segments.now)) =
    some_and_at (λ u. AreFreePages u (range answer.0 (total_pages c.args.segments.now))) o v is answer.2 in
    c.in_err-first.ensures
    (answer.0, (answer.1, subst (λ (n : ℕ). AreFreePages v (range answer.0 n)) (sym c.in_ok-pages.ensures.0) free)))

pub overflow_mul-result : goal.overflow_mul-result
overflow_mul-result c =
    let some : 1 ≤ total_pages c.args.segments.now = some_pages c.args.segments.now c.args.order c.args.rights c.requires.1.0 in
    let first : c.in_ok-first.first < PAGES_END =
    (c.in_ok-first.ensures.1 c.in_ok-first.first (omega arith, omega (arith, some, c.in_ok-pages.ensures))).0.0.1 in
    omega (arith, first)

pub returns : goal.returns
returns c =
    let v = domain_of c.in_ok-domain.field-0.now in
    let o = (world_of c.args.self.now).domains c.args.domain in
    let s = c.in_ok-first.first in
    let is : o ≡ Some v = ap (option_map domain_of) (sym c.domain.ensures ∙ ap option_copied c.in_ok-domain.was) in (
      tt,
      (
        s,
        c.in_ok-first.ensures.0,
        some_and_from (λ u. AreFreePages u (range s (total_pages c.args.segments.now))) o v is
            (subst (λ (n : ℕ). AreFreePages v (range s n)) c.in_ok-pages.ensures.0 c.in_ok-first.ensures.1),
        ap Mapped (omega arith),
      ),
    )
