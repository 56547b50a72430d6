use Rattle.iova.proofs.Names.{◌≡◌, ◌∙◌, Some, None, ap, subst, sym, Free, first_or, pieces_from, pages_as, CanList, with_freed}
use Rattle.iova.proofs.searches.InPlace.{shown_freed, shown_none, shown_same}
use Rattle.iova.proofs.searches.Walked.{from_narrow}
use Rattle.iova.proofs.tree_iter.first_from.Goals as goal

pub returns-in_err-piece-clause-first : goal.returns-in_err-piece-clause-first
returns-in_err-piece-clause-first c =
    c.from_residual.ensures
    ∙ sym (shown_none c.args.tree.now c.args.page c.first_from.result c.first_from.ensures c.args.freed c.requires c.in_err-piece.was)

pub returns-in-Some-clause-first : goal.returns-in-Some-clause-first
returns-in-Some-clause-first c =
    let ps = c.args.tree.now in
    let ends = c.in-Some.ends in
    let can = subst (λ f. CanList ps f c.args.page) c.in-Some.is c.requires in
    ap (λ p. Some p) c.in_state.ensures
    ∙ subst (λ f. Some (pages_as ends Free) ≡ first_or (pieces_from c.args.page (with_freed f ps)) None) (sym c.in-Some.is)
    (sym (shown_freed ps c.args.page c.first_from.result c.first_from.ensures c.in_ok-piece.piece c.in_ok-piece.was ends can
    (sym c.if-ends-piece.true)))

pub returns-in_default : goal.returns-in_default
returns-in_default c =
    let s = shown_same c.args.tree.now c.args.page c.first_from.result c.first_from.ensures c.in_ok-piece.piece c.in_ok-piece.was
    c.args.freed c.requires
    (λ ends e h. let same : c.in-Some.ends ≡ ends = cc in c.if-ends-piece.false (ap (λ x. x.first) same ∙ sym h)) in
    record { first = sym s.first; narrow = s.narrow; goes_on = s.goes_on }

pub returns-in_default-2-clause-narrow : goal.returns-in_default-2-clause-narrow
returns-in_default-2-clause-narrow c =
    (from_narrow c.args.tree.now c.args.page c.in_ok-piece.piece c.requires.sorted (sym c.first_from.ensures ∙ c.in_ok-piece.was)).1
