use Rattle.piece_tree.proofs.Names.{sym, ◌∙◌, arith, get}
use Rattle.piece_tree.proofs.shapes.Forks.{opened-height}
use Rattle.piece_tree.proofs.shapes.Grafted.{graft-below, graft-between, graft-done}
use Rattle.piece_tree.proofs.shapes.Hung.{link_joins}
use Rattle.piece_tree.proofs.shapes.Turned.{near_below, opened_heights, shown_heights}
use Rattle.piece_tree.proofs.grafts.+graft_onto.Goals as goal

pub returns-then-height-clause-joins : goal.returns-then-height-clause-joins
returns-then-height-clause-joins t c n f parts =
    let h = shown_heights parts in
    let known = shown_heights c.requires.parts.2 in
    link_joins (c.link.ensures.links n f parts (omega arith, omega arith))

pub graft_onto-below-requires : goal.graft_onto-below-requires
graft_onto-below-requires t c =
    let q = c.requires.parts in
    let h = shown_heights q.2 in
    let o = c.open-outer.ensures q.0 (near_below q.2 (sym c.root.ensures ∙ c.in-Some.is)) in
    let d = opened_heights o in
    let s = graft-below q.2 (omega arith) o in
    let high = opened-height (get c.args.nodes.now) q.2.near_stands o in
    (omega (arith, c.decreases), ((o.far, q.1, s.0, s.1), c.requires.piece))

pub between-requires-clause-parts : goal.between-requires-clause-parts
between-requires-clause-parts t c =
    let q = c.requires.parts in
    let h = shown_heights q.2 in
    let o = c.open-outer.ensures q.0 (near_below q.2 (sym c.root.ensures ∙ c.in-Some.is)) in
    let s = graft-below q.2 (omega arith) o in
    let v = graft-between q.2 (omega arith) o (c.graft_onto-below.ensures.joins _ _ s.0) in
    (_, _, v.0, v.1, v.2)

pub returns-clause-joins : goal.returns-clause-joins
returns-clause-joins t c n f parts =
    let h = shown_heights parts in
    let o = c.open-outer.ensures n (near_below parts (sym c.root.ensures ∙ c.in-Some.is)) in
    let s = graft-below parts (omega arith) o in
    let j = c.graft_onto-below.ensures.joins _ _ s.0 in
    let v = graft-between parts (omega arith) o j in
    graft-done parts (omega arith) o j (c.between.ensures.joins _ _ v.0)
