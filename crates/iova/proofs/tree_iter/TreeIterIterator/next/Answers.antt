use Rattle.iova.proofs.Names.{◌≡◌, ◌∷◌, ◌∙◌, ◌+◌, List, length, ap, arith, sym, Piece, pieces_from, with_freed}
use Rattle.iova.proofs.searches.Walked.{from_step}
use Rattle.iova.proofs.tree_iter.TreeIterIterator.next.Goals as goal

pub returns-clause-steps : goal.returns-clause-steps
returns-clause-steps c =
    let ps = with_freed c.self.inside.freed c.self.inside.tree.now in
    sym c.self.view_is ∙ from_step 1 ps c.self.inside.page c.in_ok-piece.piece c.self.invariant.ordered
    (sym c.first_from.ensures.first ∙ c.in_ok-piece.was)

pub returns-clause-goes : goal.returns-clause-goes
returns-clause-goes c =
    let ps = with_freed c.self.inside.freed c.self.inside.tree.now in
    let e : c.args.self.now ≡ c.in_ok-piece.piece ∷ pieces_from (c.in_ok-piece.piece.last + 1) ps =
    sym c.self.view_is ∙ from_step 1 ps c.self.inside.page c.in_ok-piece.piece c.self.invariant.ordered
    (sym c.first_from.ensures.first ∙ c.in_ok-piece.was) in
    let l : length c.args.self.now ≡ length (c.in_ok-piece.piece ∷ pieces_from (c.in_ok-piece.piece.last + 1) ps) =
    ap (λ (xs : List Piece). length xs) e in
    record { on = λ _. (tt, tt, omega (arith, l)); keeps = tt; rests = λ _. tt }
