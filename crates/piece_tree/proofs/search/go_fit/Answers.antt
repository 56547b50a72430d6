use Rattle.piece_tree.proofs.Names.{◌∙◌, ◌+◌, true, false, IfNone, Some, ap, sym, subst, arith, length-set, nat_lt, slice_set}
use Rattle.piece_tree.proofs.Names.{nat_tests, AllByRecursion, Top, Step, HasNoRoom, IsWhole, Shape, items, step_at}
use Rattle.piece_tree.proofs.shapes.Fitting.{Next, fit-end, fit-few, fit-here, fit-low, fit-piece, fit-there, fitting_start}
use Rattle.piece_tree.proofs.shapes.Fitting.{go-above, go-before, go-behind, fit-smaller, none-all}
use Rattle.piece_tree.proofs.shapes.Room.{none_short}
use Rattle.piece_tree.proofs.search.go_fit.Goals as goal

pub returns-then-longest-pages-clause-none : goal.returns-then-longest-pages-clause-none
returns-then-longest-pages-clause-none c t w =
    none_short c.args.floor c.args.pages c.args.unit t (omega (
      arith,
      ap (λ (v : Top). v.longest) w.here,
      c.longest.ensures,
      c.if-longest-pages.true,
    ))

pub loop-at-init : goal.loop-at-init
loop-at-init c =
    fitting_start c.args.nodes.now c.args.root c.args.way.now c.args.floor c.args.pages c.args.unit c.told-way c.requires.some_pages
    (omega (arith, c.longest.ensures, c.if-longest-pages.false)) c.root-at.result c.root-at.ensures

pub index-node-requires : goal.index-node-requires
index-node-requires c = let q = c.requires.tree in fit-there q.1 (c.loop-at.invariant.0 q.0 q.1) c.in-Some.is

pub goes_before-requires-clause-low : goal.goes_before-requires-clause-low
goes_before-requires-clause-low c =
    let q = c.requires.tree in
    fit-low q.1 (c.loop-at.invariant.0 q.0 q.1) c.in-Some.is c.index-node.ensures c.requires.floor

pub offset_bounds-way-depth : goal.offset_bounds-way-depth
offset_bounds-way-depth c = let q = c.requires.tree in omega (arith, fit-few q.1 (c.loop-at.invariant.0 q.0 q.1) c.in-Some.is)

pub bounds-way-depth : goal.bounds-way-depth
bounds-way-depth c = let q = c.requires.tree in fit-few q.1 (c.loop-at.invariant.0 q.0 q.1) c.in-Some.is

pub overflow_add-depth : goal.overflow_add-depth
overflow_add-depth c = let q = c.requires.tree in omega (arith, fit-few q.1 (c.loop-at.invariant.0 q.0 q.1) c.in-Some.is)

pub start_in-requires-clause-piece : goal.start_in-requires-clause-piece
start_in-requires-clause-piece c =
    let q = c.requires.tree in fit-piece q.1 (c.loop-at.invariant.0 q.0 q.1) c.in-Some.is c.index-node.ensures

pub start_in-requires-clause-low : goal.start_in-requires-clause-low
start_in-requires-clause-low c =
    let q = c.requires.tree in
    fit-low q.1 (c.loop-at.invariant.0 q.0 q.1) c.in-Some.is c.index-node.ensures c.requires.floor

pub overflow_add-node : goal.overflow_add-node
overflow_add-node c =
    let q = c.requires.tree in omega (arith, fit-piece q.1 (c.loop-at.invariant.0 q.0 q.1) c.in-Some.is c.index-node.ensures)

pub returns-in-Some-start_in-clause-hand : goal.returns-in-Some-start_in-clause-hand
returns-in-Some-start_in-clause-hand c t w =
    fit-here w (c.loop-at.invariant.0 t w) c.in-Some.is c.index-node.ensures c.in-Some-start_in.start
    (c.goes_before.ensures.stays c.if-goes_before.false) (rw c.in-Some-start_in.is at c.start_in.ensures.some)

pub step_above-requires : goal.step_above-requires
step_above-requires c =
    let q = c.requires.tree in
    let h = fit-few q.1 (c.loop-at.invariant.0 q.0 q.1) c.in-Some.is in (
      (c.loop-at.invariant.0 q.0 q.1).path,
      (c.loop-at.invariant.0 q.0 q.1).steps,
      omega (arith, h),
    )

pub returns-in_err-depth-clause-none : goal.returns-in_err-depth-clause-none
returns-in_err-depth-clause-none c t w =
    subst (λ o. IfNone o (AllByRecursion (HasNoRoom c.args.floor c.args.pages c.args.unit) (items t))) (sym c.from_residual.ensures)
    (none-all w (c.loop-at.invariant.0 t w) c.in-Some.is c.index-node.ensures (c.goes_before.ensures.stays c.if-goes_before.false)
    (rw c.in_default-start_in.is at c.start_in.ensures.none)
    (omega (arith, c.longest-in-Some.ensures, c.if-passed.true))
    (c.in_err-depth.ensures.none (c.loop-at.invariant.0 t w).path (c.loop-at.invariant.0 t w).steps))

-- down before the piece
to_before : (c : goal.After-root-at-then-goes_before) (t : Shape) (w : IsWhole c.args.nodes.now c.args.root t)
    → Next (c.loop-at.invariant.0 t w)
    (slice_set c.loop-at.way c.loop-at.depth (record { key = c.in-Some.key; before = true })) c.root-at-then-goes_before.result
    (c.loop-at.depth + 1) c.loop-at.low c.loop-at.passed
to_before c t w =
    let h = c.goes_before.ensures.goes c.if-goes_before.true in
    go-before w (c.loop-at.invariant.0 t w) c.in-Some.is c.index-node.ensures h.0 c.loop-at.invariant.1
    (omega (arith, h.1, c.requires.some_pages)) c.root-at-then-goes_before.result c.root-at-then-goes_before.ensures

pub loop-at-smaller-then-goes_before : goal.loop-at-smaller-then-goes_before
loop-at-smaller-then-goes_before c =
    let q = c.requires.tree in fit-smaller q.1 (c.loop-at.invariant.0 q.0 q.1) _ _ _ _ _ (to_before c q.0 q.1)

pub loop-at-preserved-then-goes_before : goal.loop-at-preserved-then-goes_before
loop-at-preserved-then-goes_before c = ((λ t w. (to_before c t w).0), length-set c.loop-at.way c.loop-at.depth _ ∙ c.loop-at.invariant.1)

-- up to the next piece
to_above : (c : goal.In_ok-depth) (t : Shape) (w : IsWhole c.args.nodes.now c.args.root t)
    → Next (c.loop-at.invariant.0 t w) c.loop-at.way
    (Some (step_at c.loop-at.way c.in_ok-depth.depth).key) c.in_ok-depth.depth c.max-low.result
    (nat_lt c.longest-in-Some.result c.args.pages)
to_above c t w =
    let s = c.in_ok-depth.ensures.some (c.loop-at.invariant.0 t w).path (c.loop-at.invariant.0 t w).steps in
    go-above w (c.loop-at.invariant.0 t w) c.in-Some.is c.index-node.ensures (c.goes_before.ensures.stays c.if-goes_before.false)
    (rw c.in_default-start_in.is at c.start_in.ensures.none)
    (omega (arith, c.longest-in-Some.ensures, c.if-passed.true)) s c.max-low.result c.max-low.ensures _ (ap (λ (x :
    Step). Some x.key) s.step) _ (grind (arith, nat_tests, c.if-passed.true))

pub loop-at-smaller-then-passed : goal.loop-at-smaller-then-passed
loop-at-smaller-then-passed c = let q = c.requires.tree in fit-smaller q.1 (c.loop-at.invariant.0 q.0 q.1) _ _ _ _ _ (to_above c q.0 q.1)

pub loop-at-preserved-then-passed : goal.loop-at-preserved-then-passed
loop-at-preserved-then-passed c = ((λ t w. (to_above c t w).0), c.loop-at.invariant.1)

pub offset_bounds-way-depth-else-passed : goal.offset_bounds-way-depth-else-passed
offset_bounds-way-depth-else-passed c = let q = c.requires.tree in omega (arith, fit-few q.1 (c.loop-at.invariant.0 q.0 q.1) c.in-Some.is)

pub bounds-way-depth-else-passed : goal.bounds-way-depth-else-passed
bounds-way-depth-else-passed c = let q = c.requires.tree in fit-few q.1 (c.loop-at.invariant.0 q.0 q.1) c.in-Some.is

pub overflow_add-depth-else-passed : goal.overflow_add-depth-else-passed
overflow_add-depth-else-passed c = let q = c.requires.tree in omega (arith, fit-few q.1 (c.loop-at.invariant.0 q.0 q.1) c.in-Some.is)

-- down behind the piece
to_behind : (c : goal.After-root-at-else-passed) (t : Shape) (w : IsWhole c.args.nodes.now c.args.root t)
    → Next (c.loop-at.invariant.0 t w)
    (slice_set c.loop-at.way c.loop-at.depth (record { key = c.in-Some.key; before = false })) c.root-at-else-passed.result
    (c.loop-at.depth + 1) c.max-low.result (nat_lt c.longest-in-Some.result c.args.pages)
to_behind c t w =
    go-behind w (c.loop-at.invariant.0 t w) c.in-Some.is c.index-node.ensures (c.goes_before.ensures.stays c.if-goes_before.false)
    (rw c.in_default-start_in.is at c.start_in.ensures.none)
    c.loop-at.invariant.1 c.max-low.result c.max-low.ensures _ (grind (arith, nat_tests, c.if-passed.false))
    (omega (arith, c.longest-in-Some.ensures, c.if-passed.false, c.requires.some_pages)) c.root-at-else-passed.result
    c.root-at-else-passed.ensures

pub loop-at-smaller : goal.loop-at-smaller
loop-at-smaller c = let q = c.requires.tree in fit-smaller q.1 (c.loop-at.invariant.0 q.0 q.1) _ _ _ _ _ (to_behind c q.0 q.1)

pub loop-at-preserved : goal.loop-at-preserved
loop-at-preserved c = ((λ t w. (to_behind c t w).0), length-set c.loop-at.way c.loop-at.depth _ ∙ c.loop-at.invariant.1)

pub returns-clause-none : goal.returns-clause-none
returns-clause-none c t w = absurd (fit-end w (c.loop-at.invariant.0 t w) c.in_default.is)
