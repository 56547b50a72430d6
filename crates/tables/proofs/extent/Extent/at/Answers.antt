use Rattle.std.proofs.Common.{◌+◌, ◌≤◌, Option, sym, subst, arith, IfNone}
use Rattle.dmatypes.specs.Conditions.{total_pages}
use Rattle.dmatypes.specs.Rights.{bits_of}
use Rattle.tables.specs.declared.extent.Extent.{Extent}
use Rattle.tables.proofs.maps.Placed.{rest_ended, rest_bounds, rest_onward, placed_at, inner_small, HasRest}
use Rattle.tables.proofs.extent.Extent.at.Goals as goal

pub returns-in_err-rest-clause-none : goal.returns-in_err-rest-clause-none
returns-in_err-rest-clause-none c =
    subst (λ (o : Option Extent). IfNone o (c.args.first + total_pages c.args.segments.now ≤ c.args.page)) (sym c.from_residual.ensures)
    (rest_ended c.args.segments.now c.args.first c.args.page c.requires.after (sym c.in_err-rest.ensures.rest))

pub overflow_add-page : goal.overflow_add-page
overflow_add-page c =
    let r : HasRest c.args.segments.now c.args.first c.args.page c.in_ok-rest.rest =
    rest_bounds c.args.segments.now c.args.first c.args.page c.in_ok-rest.rest c.requires.segments (sym c.in_ok-rest.ensures.rest) in
    omega (arith, r.within, c.requires.within)

pub overflow_mul-page : goal.overflow_mul-page
overflow_mul-page c =
    let r : HasRest c.args.segments.now c.args.first c.args.page c.in_ok-rest.rest =
    rest_bounds c.args.segments.now c.args.first c.args.page c.in_ok-rest.rest c.requires.segments (sym c.in_ok-rest.ensures.rest) in
    omega (arith, r.within, c.requires.within)

pub invariant_of-result : goal.invariant_of-result
invariant_of-result c =
    let r : HasRest c.args.segments.now c.args.first c.args.page c.in_ok-rest.rest =
    rest_bounds c.args.segments.now c.args.first c.args.page c.in_ok-rest.rest c.requires.segments (sym c.in_ok-rest.ensures.rest) in
    record {
      some = omega (arith, c.min-to.ensures, r.some);
      one_span = omega (arith, c.min-to.ensures, r.some);
      pages = omega (arith, c.min-to.ensures, r.within, c.requires.within);
      frames = omega (arith, c.min-to.ensures, r.frames);
      may = c.requires.rights;
    }

pub returns-clause-within : goal.returns-clause-within
returns-clause-within c =
    let r : HasRest c.args.segments.now c.args.first c.args.page c.in_ok-rest.rest =
    rest_bounds c.args.segments.now c.args.first c.args.page c.in_ok-rest.rest c.requires.segments (sym c.in_ok-rest.ensures.rest) in
    omega (arith, c.min-to.ensures, r.within)

pub returns-clause-placed : goal.returns-clause-placed
returns-clause-placed c p low high =
    placed_at c.args.segments.now c.args.first p (bits_of c.args.rights) _
    (rest_onward c.args.segments.now c.args.first c.args.page p c.in_ok-rest.rest (sym c.in_ok-rest.ensures.rest) low
    (omega (arith, c.min-to.ensures)))

pub returns-clause-inner : goal.returns-clause-inner
returns-clause-inner c inside =
    let r : HasRest c.args.segments.now c.args.first c.args.page c.in_ok-rest.rest =
    rest_bounds c.args.segments.now c.args.first c.args.page c.in_ok-rest.rest c.requires.segments (sym c.in_ok-rest.ensures.rest) in
    inner_small c.args.segments.now c.args.first c.args.page c.min-to.result c.in_ok-rest.rest (sym c.in_ok-rest.ensures.rest)
    (omega (arith, c.min-to.ensures)) inside (omega (arith, c.min-to.ensures, r.some)) (omega (arith, c.min-to.ensures, r.some))
