use Rattle.piece_tree.proofs.Names.{IsStarting, ap, pieces_of, refl, subst, sym, ◌∙◌, arith}
use Rattle.piece_tree.proofs.shapes.Led.{down-falls, down-root, node_height, placed-there}
use Rattle.piece_tree.proofs.shapes.Sought.{begin-found, begin-none, begin-on, begin_start, begins_at}
use Rattle.piece_tree.proofs.search.starting_at.Goals as goal

pub returns-in_err-root : goal.returns-in_err-root
returns-in_err-root c =
    let w = c.requires.1 in
    subst (λ o. IsStarting c.args.page (pieces_of c.args.nodes.now c.args.root) o) (sym c.from_residual.ensures)
    (begin-none w (begin_start c.args.page _ c.root.ensures w) c.in_err-root.was)

pub loop-node-init : goal.loop-node-init
loop-node-init c = (
  c.in_ok-root.field-0,
  c.index-node.ensures,
  λ t w. begin_start c.args.page _ (sym c.in_ok-root.was ∙ c.root.ensures) w,
)

pub returns-then-page-node : goal.returns-then-page-node
returns-then-page-node c =
    let w = c.requires.1 in
    let i = c.loop-node.invariant in
    begin-found w (i.2 _ w) i.1 c.if-page-node.true

pub returns-in_err-root-2 : goal.returns-in_err-root-2
returns-in_err-root-2 c =
    let w = c.requires.1 in
    let i = c.loop-node.invariant in
    subst (λ o. IsStarting c.args.page (pieces_of c.args.nodes.now c.args.root) o) (sym c.from_residual-in_err-root-2.ensures)
    (begin-none w (begin-on w (i.2 _ w) i.1 _ c.child.result c.child.ensures.before c.child.ensures.behind _ c.root-in-loop-node.ensures
    c.if-page-node.false refl) c.in_err-root-2.was)

pub index-node-requires-in-loop-node : goal.index-node-requires-in-loop-node
index-node-requires-in-loop-node c =
    let w = c.requires.1 in
    let i = c.loop-node.invariant in
    let q = begin-on w (i.2 _ w) i.1 _ c.child.result c.child.ensures.before c.child.ensures.behind _ c.root-in-loop-node.ensures
    c.if-page-node.false refl in
    placed-there w (begins_at q) c.in_ok-root-2.was

pub loop-node-smaller : goal.loop-node-smaller
loop-node-smaller c =
    let w = c.requires.1 in
    let i = c.loop-node.invariant in
    let x = begins_at (i.2 _ w) in
    let less = down-falls w x refl i.1 _ _ (sym c.in_ok-root-2.was ∙ c.root-in-loop-node.ensures
    ∙ down-root w x refl i.1 _ c.child.result c.child.ensures.before c.child.ensures.behind) in
    omega (arith, less, ap node_height i.1, ap node_height c.index-node-in-loop-node.ensures)

pub loop-node-preserved : goal.loop-node-preserved
loop-node-preserved c = (
  c.in_ok-root-2.field-0,
  c.index-node-in-loop-node.ensures,
  λ t w. let i = c.loop-node.invariant in
      begin-on w (i.2 t w) i.1 _ c.child.result c.child.ensures.before c.child.ensures.behind _
      (sym c.in_ok-root-2.was ∙ c.root-in-loop-node.ensures) c.if-page-node.false refl,
)
