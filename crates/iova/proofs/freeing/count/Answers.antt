use Rattle.iova.proofs.Names.{arith, ◌≡◌, ◌-◌, length, subst, sym, nat_tests, Live, pages_as, Space, AreLive, shown, stored}
use Rattle.iova.proofs.Among.{in_le}
use Rattle.iova.proofs.Keep.{in_narrow}
use Rattle.iova.proofs.Shown.{freed_count}
use Rattle.iova.proofs.freeing.count.Goals as goal

pub free_ends_at-ends-requires-clause-some : goal.free_ends_at-ends-requires-clause-some
free_ends_at-ends-requires-clause-some c =
    let i = subst (λ f. AreLive f c.args.tree.now) c.in-Some.is c.requires.freed in
    (in_le 1 (pages_as c.in-Some.pages Live) c.args.tree.now c.requires.space.1.ordered i).0

pub free_ends_at-ends-requires-clause-narrow : goal.free_ends_at-ends-requires-clause-narrow
free_ends_at-ends-requires-clause-narrow c =
    let s = c.requires.space in
    let i = subst (λ f. AreLive f c.args.tree.now) c.in-Some.is c.requires.freed in
    in_narrow (stored s.0 c.args.tree.now) (pages_as c.in-Some.pages Live) s.1 i

pub overflow_sub-result-in-Some : goal.overflow_sub-result-in-Some
overflow_sub-result-in-Some c =
    let a : Space = stored c.requires.space.0 c.args.tree.now in
    let i = subst (λ f. AreLive f c.args.tree.now) c.in-Some.is c.requires.freed in
    let e = c.free_ends_at-ends.ensures in
    let n = freed_count a c.in-Some.pages c.requires.space.1 i in
    grind (arith, nat_tests, n, c.len.ensures.len, e.first, e.last, c.from-before.ensures, c.from-behind.ensures)

pub returns-in-Some : goal.returns-in-Some
returns-in-Some c =
    let a : Space = stored c.requires.space.0 c.args.tree.now in
    let i = subst (λ f. AreLive f c.args.tree.now) c.in-Some.is c.requires.freed in
    let e = c.free_ends_at-ends.ensures in
    let n = freed_count a c.in-Some.pages c.requires.space.1 i in
    subst (λ f. c.len.result - c.from-before.result - c.from-behind.result ≡ length (shown f a.pieces)) (sym c.in-Some.is)
    (grind (arith, nat_tests, n, c.len.ensures.len, e.first, e.last, c.from-before.ensures, c.from-behind.ensures))
