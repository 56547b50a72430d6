use Rattle.piece_tree.proofs.Names.{sym, ap, ◌∙◌, arith, Top}
use Rattle.piece_tree.proofs.shapes.Forks.{opened-by}
use Rattle.piece_tree.proofs.shapes.Halved.{opened-far, regraft-can}
use Rattle.piece_tree.proofs.shapes.Hung.{joins-flip}
use Rattle.piece_tree.proofs.shapes.Trimmed.{cleared, off-holds, trim-alone, trim-empty, trim-falls, trim-far, trim-gone, trim-joined}
use Rattle.piece_tree.proofs.shapes.Trimmed.{trim-left, trim-near, trim-nearer, trim-none, trim-rest}
use Rattle.piece_tree.proofs.shapes.Turned.{tree_below}
use Rattle.piece_tree.proofs.laying.+trim.Goals as goal

pub returns-in_default : goal.returns-in_default
returns-in_default t c x from i s =
    trim-empty c.args.before c.args.page i (ap (λ (v : Top). v.root) (sym i.is) ∙ sym c.root.ensures ∙ c.in_default.is)

pub trim-far-requires : goal.trim-far-requires
trim-far-requires t c =
    let q = c.requires in
    let o = c.open-opened.ensures q.0 (tree_below q.1 (sym c.root.ensures ∙ c.in-Some.is)) in
    let f = trim-far c.args.page q.2 q.3 o in
    (omega (arith, c.decreases, trim-falls q.1 o), (o.far, opened-far q.1 o, f.0, f.1))

pub regraft-requires : goal.regraft-requires
regraft-requires t c =
    let q = c.requires in
    let o = c.open-opened.ensures q.0 (tree_below q.1 (sym c.root.ensures ∙ c.in-Some.is)) in
    let f = trim-far c.args.page q.2 q.3 o in
    (_, _, _, _, regraft-can q.1 o (c.trim-far.ensures _ f.0 (opened-far q.1 o) f.1))

pub returns-then-lies_beside : goal.returns-then-lies_beside
returns-then-lies_beside t c x from i s =
    let o = c.open-opened.ensures x (tree_below i (sym c.root.ensures ∙ c.in-Some.is)) in
    let f = trim-far c.args.page from s o in
    let m = c.trim-far.ensures _ f.0 (opened-far i o) f.1 in
    trim-joined c.args.page from s o i m (c.lies_beside.ensures.on c.if-lies_beside.true)
    (joins-flip c.args.before (c.regraft.ensures.joins _ _ _ _ (regraft-can i o m))) c.regraft.ensures.count

pub remove_below-requires : goal.remove_below-requires
remove_below-requires t c =
    let q = c.requires in
    let g = trim-gone q.1 (c.open-opened.ensures q.0 (tree_below q.1 (sym c.root.ensures ∙ c.in-Some.is))) in
    (_, g.0, g.1)

pub remove-requires : goal.remove-requires
remove-requires t c =
    let q = c.requires in
    let o = c.open-opened.ensures q.0 (tree_below q.1 (sym c.root.ensures ∙ c.in-Some.is)) in
    let g = trim-gone q.1 o in
    (cleared q.1 o (c.remove_below.ensures _ g.0 g.1)).parts.here

pub trim-requires : goal.trim-requires
trim-requires t c =
    let q = c.requires in
    let o = c.open-opened.ensures q.0 (tree_below q.1 (sym c.root.ensures ∙ c.in-Some.is)) in
    let g = trim-gone q.1 o in
    let n = trim-near c.args.page q.2 q.3 o in (
      omega (arith, c.decreases, trim-falls q.1 o),
      (_, trim-left q.1 o (c.remove_below.ensures _ g.0 g.1) c.remove.ensures.updates, n.0, n.1),
    )

pub returns-then-lies_beside-2 : goal.returns-then-lies_beside-2
returns-then-lies_beside-2 t c x from i s =
    let o = c.open-opened.ensures x (tree_below i (sym c.root.ensures ∙ c.in-Some.is)) in
    let g = trim-gone i o in
    let r = c.remove_below.ensures _ g.0 g.1 in
    let n = trim-near c.args.page from s o in
    let u = c.remove.ensures in
    let a = trim-alone i o r u.updates u.len u.capacity in
    trim-nearer c.args.page from s o i a a.len (c.lies_beside-2.ensures.on c.if-lies_beside-2.true)
    (c.trim.ensures _ n.0 (trim-left i o r u.updates) n.1)

pub rest_beside-requires : goal.rest_beside-requires
rest_beside-requires t c =
    let q = c.requires in
    let o = c.open-opened.ensures q.0 (tree_below q.1 (sym c.root.ensures ∙ c.in-Some.is)) in
    record {
      piece = (opened-by _ q.1.stands o).piece;
      inside = off-holds c.args.before c.open-opened.result.piece c.args.page (c.lies_beside.ensures.off c.if-lies_beside.false)
          (c.lies_beside-2.ensures.off c.if-lies_beside-2.false);
    }

pub remove-requires-in_default-rest_beside : goal.remove-requires-in_default-rest_beside
remove-requires-in_default-rest_beside t c =
    let q = c.requires in
    let o = c.open-opened.ensures q.0 (tree_below q.1 (sym c.root.ensures ∙ c.in-Some.is)) in
    let g = trim-gone q.1 o in
    (cleared q.1 o (c.remove_below.ensures _ g.0 g.1)).parts.here

pub returns-in_default-rest_beside : goal.returns-in_default-rest_beside
returns-in_default-rest_beside t c x from i s =
    let o = c.open-opened.ensures x (tree_below i (sym c.root.ensures ∙ c.in-Some.is)) in
    let g = trim-gone i o in
    let u = c.remove-in_default-rest_beside.ensures in
    trim-none c.args.page from s o i (c.lies_beside.ensures.off c.if-lies_beside.false)
    (c.lies_beside-2.ensures.off c.if-lies_beside-2.false) c.rest_beside.ensures.rest c.in_default-rest_beside.is
    (trim-alone i o (c.remove_below.ensures _ g.0 g.1) u.updates u.len u.capacity)

pub graft-requires-clause-parts : goal.graft-requires-clause-parts
graft-requires-clause-parts t c =
    let q = c.requires in
    let o = c.open-opened.ensures q.0 (tree_below q.1 (sym c.root.ensures ∙ c.in-Some.is)) in
    let g = trim-gone q.1 o in
    (_, _, (cleared q.1 o (c.remove_below.ensures _ g.0 g.1)).parts)

pub returns : goal.returns
returns t c x from i s =
    let o = c.open-opened.ensures x (tree_below i (sym c.root.ensures ∙ c.in-Some.is)) in
    let g = trim-gone i o in
    let r = c.remove_below.ensures _ g.0 g.1 in
    trim-rest c.args.page from s o i (c.lies_beside.ensures.off c.if-lies_beside.false)
    (c.lies_beside-2.ensures.off c.if-lies_beside-2.false) c.rest_beside.ensures.rest c.in-Some-rest_beside.is r
    (c.graft.ensures.joins _ _ (cleared i o r).parts) c.graft.ensures.count
