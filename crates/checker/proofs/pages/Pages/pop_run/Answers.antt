use Rattle.std.proofs.Common.{◌+◌, sym, arith}
use Rattle.checker.specs.Pages.{runs_of}
use Rattle.checker.proofs.worlds.Taken.{at_first}
use Rattle.checker.proofs.pages.Pages.pop_run.Goals as goal

pub pop_next-requires-clause-first : goal.pop_next-requires-clause-first
pop_next-requires-clause-first c = c.in-None.ensures.cuts c.args.page c.requires.first

pub pop_next-requires-clause-end : goal.pop_next-requires-clause-end
pop_next-requires-clause-end c = c.in-None.ensures.cuts c.args.end c.requires.end

pub returns-in-Some-clause-leaves : goal.returns-in-Some-clause-leaves
returns-in-Some-clause-leaves c =
    at_first (runs_of c.args.self.now) (runs_of c.remove_at.new.self) c.args.page c.args.end c.in-Some.run' c.args.self.now.apart
    (sym c.in-Some.ensures.run) (omega (arith, c.requires.order, c.if-page-end.false))
    (c.in-Some.ensures.left c.in-Some.run' (sym c.in-Some.ensures.run))

pub returns-in-Some-clause-end : goal.returns-in-Some-clause-end
returns-in-Some-clause-end c = c.in-Some.ensures.cuts c.args.end c.requires.end

pub returns-in-Some-clause-fewer : goal.returns-in-Some-clause-fewer
returns-in-Some-clause-fewer c =
    let there = sym c.in-Some.ensures.run in
    let some = c.args.self.now.apart.some c.args.page c.in-Some.run' there in
    c.in-Some.ensures.fewer c.in-Some.run' there c.args.page (c.args.page + c.in-Some.run'.pages) c.args.end (omega arith)
    (omega (arith, some)) (omega (arith, c.requires.order, c.if-page-end.false))
