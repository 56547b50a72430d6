use Rattle.piece_tree.proofs.Names.{IfNone, sym, ◌∙◌, subst, AllByRecursion, HasNoRoom, IsFound}
use Rattle.piece_tree.proofs.shapes.Led.{hand-there, hand-piece}
use Rattle.piece_tree.proofs.shapes.Tall.{view_sorted, whole_view}
use Rattle.piece_tree.proofs.tree.PieceTree.seek_fit.Goals as goal

pub returns-in_err-fit-clause-none : goal.returns-in_err-fit-clause-none
returns-in_err-fit-clause-none c =
    let i = c.self.invariant in
    let e = sym (whole_view i.1) ∙ c.self.view_is in
    subst (λ o. IfNone o (AllByRecursion (HasNoRoom c.args.floor c.args.pages c.args.unit) c.args.self.now)) (sym c.from_residual.ensures)
    (subst (λ l. AllByRecursion (HasNoRoom c.args.floor c.args.pages c.args.unit) l) e (c.in_err-fit.ensures.none i.0 i.1))

pub returns-in_err-fit-clause-sorted : goal.returns-in_err-fit-clause-sorted
returns-in_err-fit-clause-sorted c = view_sorted c.self.invariant.1 c.self.view_is

pub index-requires : goal.index-requires
index-requires c =
    let i = c.self.invariant in
    let h = c.in_ok-fit.ensures.hand i.0 i.1 in
    hand-there i.1 h.0

pub returns-clause-some : goal.returns-clause-some
returns-clause-some c =
    let i = c.self.invariant in
    let h = c.in_ok-fit.ensures.hand i.0 i.1 in
    let e = sym (whole_view i.1) ∙ c.self.view_is in
    subst (λ x. IsFound c.args.floor c.args.pages c.args.unit c.args.self.now c.in_ok-fit.fit.start x)
    (sym (hand-piece i.1 h.0 c.index.ensures))
    (subst (λ l. IsFound c.args.floor c.args.pages c.args.unit l c.in_ok-fit.fit.start h.0.piece) e h.1)

pub returns-clause-sorted : goal.returns-clause-sorted
returns-clause-sorted c = view_sorted c.self.invariant.1 c.self.view_is
