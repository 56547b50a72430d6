use Rattle.iova.proofs.Names.{◌+◌, inl, inr, refl, arith, Free, pages_as, nat_tests}
use Rattle.iova.proofs.Pieces.{order}
use Rattle.iova.proofs.Keep.{in_narrow}
use Rattle.iova.proofs.carvings.Cuts.{cuts_none, cuts_some}
use Rattle.iova.proofs.carved.is_too_many.Goals as goal

pub returns-then-pages-found : goal.returns-then-pages-found
returns-then-pages-found c = (
  (λ t. (
    cuts_some c.requires.space c.requires.there c.requires.sought.some c.requires.inside (inl c.if-pages-found.true),
    omega (arith, c.piece_count.ensures.count, c.if-piece_count-le-MOST_PIECES_TO_CUT.false),
  )),
  (λ h. refl),
)

pub overflow_add-result : goal.overflow_add-result
overflow_add-result c =
    let n = in_narrow c.args.tree.now (pages_as c.args.found.pages Free) c.requires.space c.requires.there in
    omega (arith, c.requires.inside)

pub returns : goal.returns
returns c = (
  (λ t. (
    cuts_some c.requires.space c.requires.there c.requires.sought.some c.requires.inside (inr (grind (arith, nat_tests))),
    omega (arith, c.piece_count.ensures.count, c.if-piece_count-le-MOST_PIECES_TO_CUT.false),
  )),
  (λ h. elim (order (c.args.found.start + c.args.sought.pages) c.args.found.pages.last) [
    | inl k ↦ grind (arith, nat_tests)
    | inr k ↦
        absurd (cuts_none c.requires.space c.requires.there c.requires.sought.some c.requires.inside c.if-pages-found.false k h.0)
  ]),
)
