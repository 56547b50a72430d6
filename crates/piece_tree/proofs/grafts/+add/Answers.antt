use Rattle.piece_tree.proofs.Names.{ap, sym, ◌∙◌, subst, arith, get, Top, Adds}
use Rattle.piece_tree.proofs.shapes.Added.{adds-far, adds-leaf, adds-none, own_top, same_length}
use Rattle.piece_tree.proofs.shapes.Forks.{opened-height}
use Rattle.piece_tree.proofs.shapes.Halved.{opened-far, opened-long, regraft-can}
use Rattle.piece_tree.proofs.shapes.Hung.{joins-flip}
use Rattle.piece_tree.proofs.shapes.Led.{root_height}
use Rattle.piece_tree.proofs.shapes.Turned.{opened_heights}
use Rattle.piece_tree.proofs.grafts.+add.Goals as goal

pub add-returns-in_default : goal.add-returns-in_default
add-returns-in_default t c x i =
    subst (λ o. Adds c.args.nodes.now c.args.nodes.now c.args.before c.args.tree x o) (sym c.in_default.is) (adds-none c.args.before i)

pub add-returns-in_default-root : goal.add-returns-in_default-root
add-returns-in_default-root t c x i =
    subst (λ o. Adds c.args.nodes.now c.leaf.new.nodes c.args.before c.leaf.result x o) (sym c.in-Some.is)
    (adds-leaf c.args.before i (ap (λ (v : Top). v.root) (sym i.is) ∙ sym c.root.ensures ∙ c.in_default-root.is) c.leaf.ensures.makes
    c.leaf.ensures.height)

pub add-returns : goal.add-returns
add-returns t c x i =
    subst (λ o. Adds c.args.nodes.now c.add_end.new.nodes c.args.before c.add_end.result x o) (sym c.in-Some.is)
    (c.add_end.ensures x (own_top i) (ap (λ (v : Top). v.root) (sym i.is) ∙ sym c.root.ensures ∙ c.in-Some-root.is))

pub add_end-add-far-requires : goal.add_end-add-far-requires
add_end-add-far-requires t c =
    let q = c.requires.tree in
    let look = get c.args.nodes.now in
    let o = c.open-opened.ensures q.0 (sym q.2, q.1.stands) in
    let high = opened-height look q.1.stands o in
    let a = root_height look _ q.0 (sym q.2) q.1.stands in
    let d = opened_heights o in (
      omega (arith, c.decreases),
      (
        (o.far, opened-far q.1 o, omega (arith, q.3, opened-long q.1 o)),
        (c.requires.piece, (omega (arith, c.requires.room), c.requires.keys)),
      ),
    )

pub add_end-regraft-requires : goal.add_end-regraft-requires
add_end-regraft-requires t c =
    let q = c.requires.tree in
    let o = c.open-opened.ensures q.0 (sym q.2, q.1.stands) in
    let a = c.add-far.ensures o.far (opened-far q.1 o) in
    (_, _, _, _, regraft-can q.1 o a.makes)

pub add_end-returns : goal.add_end-returns
add_end-returns t c x i root =
    let q = c.requires.tree in
    let o = c.open-opened.ensures x (sym root, i.stands) in
    let a = c.add-far.ensures o.far (opened-far i o) in
    adds-far c.args.nodes.now i o a (joins-flip c.args.before (c.regraft.ensures.joins _ _ _ _ (regraft-can i o a.makes)))
    c.regraft.ensures.count (omega (arith, q.3, same_length i q.1 (root ∙ sym q.2)))
