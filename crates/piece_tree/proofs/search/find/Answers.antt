use Rattle.piece_tree.proofs.Names.{ap, refl, sym, ◌∙◌, arith, nat_tests, piece_at}
use Rattle.piece_tree.proofs.shapes.Led.{comes-behind, lies_at, look_start, lies-falls, lies-on, node_height, placed-piece, placed-there}
use Rattle.piece_tree.proofs.shapes.Placed.{found-none, found-some}
use Rattle.piece_tree.proofs.shapes.Tall.{whole_view}
use Rattle.piece_tree.proofs.search.find.Goals as goal

pub returns-in_err-root : goal.returns-in_err-root
returns-in_err-root c =
    let w = c.requires.1 in
    c.from_residual.ensures
    ∙ found-none w (look_start c.args.page c.args.page _ c.root.ensures w).0 (omega arith) c.in_err-root.was
    ∙ ap (λ l. piece_at l c.args.page) (sym (whole_view w))

pub loop-node-init : goal.loop-node-init
loop-node-init c = (
  c.in_ok-root.field-0,
  c.index-node.ensures,
  λ t w. (look_start c.args.page c.args.page _ (sym c.in_ok-root.was ∙ c.root.ensures) w).0,
)

pub has_any-requires-clause-piece : goal.has_any-requires-clause-piece
has_any-requires-clause-piece c =
    let w = c.requires.1 in
    let i = c.loop-node.invariant in
    placed-piece w (lies_at (i.2 _ w)) refl i.1

pub returns-then-has_any : goal.returns-then-has_any
returns-then-has_any c =
    let w = c.requires.1 in
    let i = c.loop-node.invariant in
    found-some w (i.2 _ w) refl i.1 (c.if-has_any.ensures.0 refl)
    ∙ ap (λ l. piece_at l c.args.page) (sym (whole_view w))

pub returns-in_err-root-2 : goal.returns-in_err-root-2
returns-in_err-root-2 c =
    let w = c.requires.1 in
    let i = c.loop-node.invariant in
    let x = lies-on w (i.2 _ w) refl i.1 _ c.child.result c.child.ensures.before c.child.ensures.behind _ c.root-in-loop-node.ensures
    (λ e. grind (arith, nat_tests)) (comes-behind c.loop-node.node.now.piece _ _ c.if-has_any.ensures.1) in
    c.from_residual-in_err-root-2.ensures ∙ found-none w x.0 (omega arith) c.in_err-root-2.was
    ∙ ap (λ l. piece_at l c.args.page) (sym (whole_view w))

pub index-node-requires-in-loop-node : goal.index-node-requires-in-loop-node
index-node-requires-in-loop-node c =
    let w = c.requires.1 in
    let i = c.loop-node.invariant in
    let x = lies-on w (i.2 _ w) refl i.1 _ c.child.result c.child.ensures.before c.child.ensures.behind _ c.root-in-loop-node.ensures
    (λ e. grind (arith, nat_tests)) (comes-behind c.loop-node.node.now.piece _ _ c.if-has_any.ensures.1) in
    placed-there w (lies_at x.0) c.in_ok-root-2.was

pub loop-node-smaller : goal.loop-node-smaller
loop-node-smaller c =
    let w = c.requires.1 in
    let i = c.loop-node.invariant in
    let less = lies-falls w (i.2 _ w) refl i.1 _ c.child.result c.child.ensures.before c.child.ensures.behind _
    (sym c.in_ok-root-2.was ∙ c.root-in-loop-node.ensures) in
    omega (arith, less, ap node_height i.1, ap node_height c.index-node-in-loop-node.ensures)

pub loop-node-preserved : goal.loop-node-preserved
loop-node-preserved c = (
  c.in_ok-root-2.field-0,
  c.index-node-in-loop-node.ensures,
  (λ t w. let i = c.loop-node.invariant in
      (lies-on w (i.2 t w) refl i.1 _ c.child.result c.child.ensures.before c.child.ensures.behind _
      (sym c.in_ok-root-2.was ∙ c.root-in-loop-node.ensures)
      (λ e. grind (arith, nat_tests)) (comes-behind c.loop-node.node.now.piece _ _ c.if-has_any.ensures.1)).0),
)
