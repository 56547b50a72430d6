use Rattle.piece_tree.proofs.Names.{ap, sym, ◌∙◌, with_row}
use Rattle.piece_tree.proofs.shapes.Over.{can-lay}
use Rattle.piece_tree.proofs.shapes.Placed.{page_low}
use Rattle.piece_tree.proofs.shapes.Rows.{row-inside, row-is}
use Rattle.piece_tree.proofs.shapes.Tall.{whole_view}
use Rattle.piece_tree.proofs.tree.PieceTree.lay_row.Goals as goal

pub reach-held-requires : goal.reach-held-requires
reach-held-requires c =
    let i = c.self.invariant in
    let s = c.in-Some-Some in
    let r = row-inside c.args.row.now c.args.self.now _ _ c.requires.inside (s.ensures).item.3 (s.ensures').item.3 in
    let e = sym c.self.view_is ∙ whole_view i.1 in
    record { pages = (r.0, page_low 0 _ _ i.1.sorted (rw e at r.3)); tree = (i.0, i.1, i.2, rw e at r.2) }

pub lay_over-laid-requires : goal.lay_over-laid-requires
lay_over-laid-requires c =
    let i = c.self.invariant in
    let s = c.in-Some-Some in
    let r = row-inside c.args.row.now c.args.self.now _ _ c.requires.inside (s.ensures).item.3 (s.ensures').item.3 in
    (_, _, _, can-lay _ c.args.row.now _ i.1 (c.reach-held.ensures i.0 i.1 i.2) c.self.view_is r.1 r.0 r.3 r.4)

pub invariant_of-self : goal.invariant_of-self
invariant_of-self c =
    let i = c.self.invariant in
    let s = c.in-Some-Some in
    let r = row-inside c.args.row.now c.args.self.now _ _ c.requires.inside (s.ensures).item.3 (s.ensures').item.3 in
    let m = c.lay_over-laid.ensures _ _ _
    (can-lay _ c.args.row.now _ i.1 (c.reach-held.ensures i.0 i.1 i.2) c.self.view_is r.1 r.0 r.3 r.4) in
    (m.shape, m.whole, m.hand)

pub returns : goal.returns
returns c from end rises given =
    let i = c.self.invariant in
    let row = c.args.row.now in
    let first = c.in-Some-Some.first.now in
    let last = c.in-Some-Some.last.now in
    let s = c.in-Some-Some in
    let r = row-inside c.args.row.now c.args.self.now _ _ c.requires.inside (s.ensures).item.3 (s.ensures').item.3 in
    let g = row-is from end row first last given (c.in-Some-Some.ensures).item.3 (c.in-Some-Some.ensures').item.3 in
    let m = c.lay_over-laid.ensures _ _ _ (can-lay _ row _ i.1 (c.reach-held.ensures i.0 i.1 i.2) c.self.view_is r.1 r.0 r.3 r.4) in
    whole_view m.whole ∙ m.all ∙ ap (λ l. with_row first.first row last.last l) (sym (whole_view i.1) ∙ c.self.view_is)
    ∙ ap (λ k. with_row k row last.last c.args.self.now) g.0 ∙ ap (λ k. with_row from row k c.args.self.now) g.1
