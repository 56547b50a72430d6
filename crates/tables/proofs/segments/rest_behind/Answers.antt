use Rattle.std.proofs.Common.{arith}
use Rattle.tables.proofs.maps.Placed.{all_passed, one_passed, rest_there}
use Rattle.tables.proofs.segments.rest_behind.Goals as goal

pub returns-then-page-end-clause-rest : goal.returns-then-page-end-clause-rest
returns-then-page-end-clause-rest c =
    rest_there c.args.segments.now c.args.first c.args.page c.loop-passed.passed (record { frame = 0; pages = 0 }) c.loop-passed-test.true
    (omega (arith, c.if-page-end.true)) c.loop-passed.invariant

pub loop-passed-preserved : goal.loop-passed-preserved
loop-passed-preserved c =
    one_passed c.args.segments.now c.args.first c.args.page c.loop-passed.passed (record { frame = 0; pages = 0 }) c.loop-passed-test.true
    (omega (arith, c.if-page-end.false)) c.loop-passed.invariant

pub returns-clause-rest : goal.returns-clause-rest
returns-clause-rest c =
    all_passed c.args.segments.now c.args.first c.args.page c.loop-passed.passed c.loop-passed-test.false c.loop-passed.invariant
