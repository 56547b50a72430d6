use Rattle.std.proofs.Common.{◌≡◌, ◌≢◌, ℕ, Err, Some, ap, refl, subst, sym}
use Rattle.std.proofs.lemmas.Result.{err_from_is_err_and}
use Rattle.dmatypes.specs.Page.{Fits, IsWithin, Range}
use Rattle.iova.specs.Pieces.{AllIn, state_at}
use Rattle.iova.specs.Refusals.{refusal_of_retire}
use Rattle.iova.specs.Space.{IsTooMany}
use Rattle.piece_tree.specs.declared.piece.PageState.TheVariants.{Live}
use Rattle.iova.specs.declared.space.RetireError.{RetireError}
use Rattle.iova.specs.declared.space.RetireError.TheVariants as retires
use Rattle.tables.specs.Pool.{Pool}
use Rattle.engine.specs.contracts.domain.Domain.{the_view}
use Rattle.engine.specs.Domains.{Domain}
use Rattle.engine.specs.Ending.{IsJudgedEnd}
use Rattle.engine.proofs.domain.Domain.may_end.Goals as goal

-- why the space refuses is why the range may not end
judged : (pool : Pool) (d : Domain) (range : Range) (error : RetireError)
    → (error ≡ retires.NotLive → (p : ℕ) × IsWithin range p × (state_at d.space.pieces p ≢ Some Live))
    → (error ≡ retires.TooManyPieces → AllIn Live range d.space.pieces × IsTooMany d.space.pieces range)
    → IsJudgedEnd pool d range (Err (refusal_of_retire error))
judged pool d range retires.NotLive f g = f refl
judged pool d range retires.TooManyPieces f g = g refl

pub returns-in_err-judge-clause-judged : goal.returns-in_err-judge-clause-judged
returns-in_err-judge-clause-judged c =
    let p = err_from_is_err_and c.from_residual.result c.from_residual.ensures.1 in
    rw (p.1, p.2) (subst (λ d. IsJudgedEnd c.args.pool.now d c.args.range (Err (refusal_of_retire c.in_err-judge.field-0.0)))
    c.self.view_is (judged c.args.pool.now (the_view c.self.inside) c.args.range c.in_err-judge.field-0.0
    (λ e. c.in_err-judge.ensures.not_live.0 (ap Err e)) (λ e. c.in_err-judge.ensures.too_many.0 (ap Err e))))

pub may_unmap-requires-clause-fits : goal.may_unmap-requires-clause-fits
may_unmap-requires-clause-fits c =
    subst (Fits c.args.range) (sym (ap (λ (d : Domain). d.width) c.self.view_is)) c.requires.fits
