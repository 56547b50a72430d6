use Rattle.piece_tree.proofs.Names.{arith, sym, ◌∙◌, subst, length-set, IsSome, None, Piece, AreSteps, Lies, nat_tests, refl}
use Rattle.piece_tree.proofs.shapes.Placed.{found-none}
use Rattle.piece_tree.proofs.shapes.Led.{comes-behind, lies_at, look_start, lies-falls, placed-piece, placed-there, walk-few, walk-leads}
use Rattle.piece_tree.proofs.way.walk.Goals as goal

pub loop-at-init : goal.loop-at-init
loop-at-init c = (
  (λ t w. let q = look_start c.args.first c.args.last _ c.root-at.ensures w in
      (q.0, subst (λ p. AreSteps c.args.way.now 0 p) (sym q.1) refl)),
  c.told-way,
)

pub index-node-requires : goal.index-node-requires
index-node-requires c =
    let q = c.requires.tree in let l = (c.loop-at.invariant.0 q.0 q.1).0 in placed-there q.1 (lies_at l) c.in-Some.is

pub bounds-way-depth : goal.bounds-way-depth
bounds-way-depth c = let q = c.requires.tree in walk-few c.loop-at.way c.loop-at.depth q.1 (c.loop-at.invariant.0 q.0 q.1) c.in-Some.is

pub offset_bounds-way-depth : goal.offset_bounds-way-depth
offset_bounds-way-depth c =
    let q = c.requires.tree in omega (arith, walk-few c.loop-at.way c.loop-at.depth q.1 (c.loop-at.invariant.0 q.0 q.1) c.in-Some.is)

pub overflow_add-depth : goal.overflow_add-depth
overflow_add-depth c =
    let q = c.requires.tree in omega (arith, walk-few c.loop-at.way c.loop-at.depth q.1 (c.loop-at.invariant.0 q.0 q.1) c.in-Some.is)

pub loop-at-smaller : goal.loop-at-smaller
loop-at-smaller c =
    let q = c.requires.tree in
    lies-falls q.1 (c.loop-at.invariant.0 q.0 q.1).0 c.in-Some.is c.index-node.ensures _ c.child.result c.child.ensures.before
    c.child.ensures.behind _ c.root-at-in-Some.ensures

pub loop-at-preserved : goal.loop-at-preserved
loop-at-preserved c = (
  (λ t w. let l = c.loop-at.invariant.0 t w in
      walk-leads w l.0 c.in-Some.is c.index-node.ensures _ c.child.result c.child.ensures.before c.child.ensures.behind _
      c.root-at-in-Some.ensures c.loop-at.way c.loop-at.depth l.1 c.loop-at.invariant.1 (λ e. grind (arith, nat_tests))
      (comes-behind c.index-node.result.now.piece _ _ c.if-has_any.ensures.1)),
  length-set c.loop-at.way c.loop-at.depth _ ∙ c.loop-at.invariant.1,
)

pub has_any-requires-clause-piece : goal.has_any-requires-clause-piece
has_any-requires-clause-piece c =
    let q = c.requires.tree in
    placed-piece q.1 (lies_at (c.loop-at.invariant.0 q.0 q.1).0) c.in-Some.is c.index-node.ensures

pub returns-then-has_any : goal.returns-then-has_any
returns-then-has_any c t w =
    let l = subst (λ a. (q : Lies c.args.first c.args.last a t) × AreSteps c.loop-at.way c.loop-at.depth q.path) c.in-Some.is
    (c.loop-at.invariant.0 t w) in
    record {
      lies = l.0;
      steps = l.1;
      node = c.index-node.result.now;
      there = c.index-node.ensures;
      has = c.if-has_any.ensures.0 refl;
    }

pub unreachable-requires : goal.unreachable-requires
unreachable-requires c =
    let q = c.requires.tree in
    let n = found-none q.1 (c.loop-at.invariant.0 q.0 q.1).0 c.requires.pages.0 c.in_default.is in
    let x : IsSome {T = Piece} None = subst (λ o. IsSome o) (sym n) q.2 in
    cc
