use Rattle.std.proofs.Common.{◌∙◌, arith, sym}
use Rattle.unit.proofs.walks.Starts.{found_serves, none_at_level}
use Rattle.unit.proofs.lookups.lowest_table.Goals as goal

pub returns-in-Some-clause-there : goal.returns-in-Some-clause-there
returns-in-Some-clause-there c =
    (found_serves c.args.tables.now c.args.domain c.args.page c.loop-level.level c.in-Some.table
    (sym c.first_table.ensures ∙ c.in-Some.is)).0

pub returns-in-Some-clause-serves : goal.returns-in-Some-clause-serves
returns-in-Some-clause-serves c =
    let found = found_serves c.args.tables.now c.args.domain c.args.page c.loop-level.level c.in-Some.table
    (sym c.first_table.ensures ∙ c.in-Some.is) in
    (found.1, found.2)

pub returns-in-Some-clause-lowest : goal.returns-in-Some-clause-lowest
returns-in-Some-clause-lowest c = λ i there of holds some.
    let found = found_serves c.args.tables.now c.args.domain c.args.page c.loop-level.level c.in-Some.table
    (sym c.first_table.ensures ∙ c.in-Some.is) in
    let least = c.loop-level.invariant.1 i there of holds some in
    omega (arith, found.3)

pub loop-level-preserved : goal.loop-level-preserved
loop-level-preserved c = (
  omega arith,
  none_at_level c.args.tables.now c.args.domain c.args.page c.loop-level.level (sym c.first_table.ensures ∙ c.in_default.is)
      c.loop-level.invariant.1,
)
