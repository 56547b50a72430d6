use Rattle.std.proofs.Common.{◌≡◌, ◌+◌, ◌-◌, ◌≤◌, ◌^◌, ◌%◌, ℕ, ap, sym, subst, ◌∙◌, true, false, arith}
use Rattle.std.specs.Prelude.{IsSomeAnd}
use Rattle.dmatypes.specs.declared.reply.Reply.TheVariants.{Mapped}
use Rattle.dmatypes.specs.Conditions.{total_pages}
use Rattle.dmatypes.specs.Page.{IsPage, byte_address}
use Rattle.dmatypes.specs.World.{AreFreePages}
use Rattle.checker.specs.Pages.{range}
use Rattle.checker.specs.World.{world_of}
use Rattle.checker.proofs.calls.Judged.{same_address}
use Rattle.checker.proofs.calls.Asked.{free_members, page_range_of, has_a_range, some_pages}
use Rattle.checker.proofs.checker.Checker.free_at.Goals as goal

pub returns-in-None : goal.returns-in-None
returns-in-None c = λ may.
    let answer = may.1 in
    let o = (world_of c.args.self.now).domains c.args.domain in
    c.in-None.ensures answer.0 (same_address c.args.address (byte_address answer.0 0) answer.3)
    (page_range_of o c.args.segments.now c.args.order c.args.rights answer.0 c.requires.1.0 answer.2)

pub returns-else-is_free_at : goal.returns-else-is_free_at
returns-else-is_free_at c = λ may.
    let answer = may.1 in
    let o = (world_of c.args.self.now).domains c.args.domain in
    let one : c.args.address ≡ byte_address answer.0 0 = same_address c.args.address (byte_address answer.0 0) answer.3 in
    let first : answer.0 ≡ c.in-Some.range.first = omega (arith, one, c.in-Some.ensures.0) in
    let n = total_pages c.args.segments.now in
    let free : IsSomeAnd o (λ v. AreFreePages v c.in-Some.range) =
    subst (λ r. IsSomeAnd o (λ v. AreFreePages v r)) (ap (λ (s : ℕ). range s n) first ∙ sym c.in-Some.ensures.1) answer.2 in
    let clash : true ≡ false =
    sym (c.is_free_at.ensures.1 (subst (λ (s : ℕ). s % 2 ^ c.args.order ≡ 0) first answer.1, free)) ∙ c.if-is_free_at.false in absurd cc

pub returns-then-is_free_at : goal.returns-then-is_free_at
returns-then-is_free_at c =
    let o = (world_of c.args.self.now).domains c.args.domain in
    let s = c.in-Some.range.first in
    let n = total_pages c.args.segments.now in
    let both = c.is_free_at.ensures.0 c.if-is_free_at.true in
    let free : IsSomeAnd o (λ v. AreFreePages v (range s n)) = subst (λ r. IsSomeAnd o
    (λ v. AreFreePages v r)) c.in-Some.ensures.1 both.1 in
    let at : Mapped c.args.address ≡ Mapped (byte_address s 0) = ap Mapped c.in-Some.ensures.0 in
    let none = c.requires in
    let some : 1 ≤ n = some_pages c.args.segments.now c.args.order c.args.rights none.1.0 in
    let last : IsPage (s + (n - 1)) = free_members o (range s n) free (s + (n - 1)) (omega (arith, some), omega (arith, some)) in (
      (
        (none.0, (none.1.0, (none.1.1.0, (has_a_range o n c.args.order s both.0 free, tt)))),
        (s, both.0, free, at),
      ),
      at ∙ ap (λ (f : ℕ). Mapped (byte_address f 0)) (sym c.first.ensures.value),
      omega (arith, last.1, some, c.first.ensures.value),
    )
