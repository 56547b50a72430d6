use Rattle.iova.proofs.Names.{refl, sym, subst, arith, IsPageRange, IsCarved, with_carved, Takes, IsSpace}
use Rattle.iova.proofs.Taken.{start_is}
use Rattle.iova.proofs.carvings.Carved.{stock_narrow, carved_in}
use Rattle.iova.proofs.carvings.State.{view_space}
use Rattle.iova.proofs.carvings.Taken.{Carves, carves}
use Rattle.iova.proofs.space.Space.take_behind.Goals as goal
use Rattle.iova.proofs.space.Space.take_behind.Goals.{After-unwrap, then-not-has_few_pieces-via-then-not-has_few_pieces}
use Rattle.iova.proofs.space.Space.take_behind.Goals.{then-not-has_few_pieces-via-else-not-has_few_pieces+then-not-carve}

pub returns-in_err-start-clause-space : goal.returns-in_err-start-clause-space
returns-in_err-start-clause-space c =
    let v = view_space c.self.inside.carved.chain c.self.inside.carved.stock c.self.invariant.0 c.self.invariant.1 c.self.view_is in
    (v, v)

pub carve-requires-clause-narrow : goal.carve-requires-clause-narrow
carve-requires-clause-narrow c =
    let k = c.self.inside.carved in
    let p = c.in_ok-start.ensures.place in
    let n = stock_narrow c.self.inside.tree k.chain p.0 c.self.invariant.0
    (carved_in c.self.inside.tree.pieces k.chain k.stock p.0 p.1 c.self.invariant.1) in
    omega (arith, p.2.3, n.1)

pub invariant_of-self-else-not-carve : goal.invariant_of-self-else-not-carve
invariant_of-self-else-not-carve c =
    let k = c.self.inside.carved in
    let e = carves c.self.inside.tree c.args.self.now k.chain c.carve.new.self.chain k.stock c.in_ok-start.start c.args.sought.pages
    c.self.invariant.0 c.self.invariant.1 c.self.view_is c.requires.sought.some c.requires.sought.few c.in_ok-start.ensures.place
    (c.has_few_pieces.ensures.0 c.if-not-has_few_pieces.false) (c.carve.ensures.carved c.if-not-carve.false) in
    (c.self.invariant.0, subst (λ b. IsCarved c.self.inside.tree.pieces c.carve.new.self.chain b) (sym c.carve.ensures.stock) e.carved)

pub returns-then-not-has_few_pieces-clause-space : goal.returns-then-not-has_few_pieces-clause-space
returns-then-not-has_few_pieces-clause-space c =
    let v = view_space c.self.inside.carved.chain c.self.inside.carved.stock c.self.invariant.0 c.self.invariant.1 c.self.view_is in
    elim c.then-not-has_few_pieces.branch [
      | then-not-has_few_pieces-via-then-not-has_few_pieces w ↦ (v, subst (λ x. IsSpace x) (sym w.self-is) v)
      | then-not-has_few_pieces-via-else-not-has_few_pieces+then-not-carve w ↦ (
        v,
        subst (λ x. IsSpace x) (sym w.self-is)
            (subst (λ l. IsSpace (with_carved l c.self.inside.tree)) (sym (w.carve.ensures.unchanged w.if-not-carve.true))
            (view_space c.self.inside.carved.chain c.self.inside.carved.stock c.self.invariant.0 c.self.invariant.1 refl)),
      )
    ]

pub unwrap-requires : goal.unwrap-requires
unwrap-requires c =
    let k = c.self.inside.carved in
    let e = carves c.self.inside.tree c.args.self.now k.chain c.carve.new.self.chain k.stock c.in_ok-start.start c.args.sought.pages
    c.self.invariant.0 c.self.invariant.1 c.self.view_is c.requires.sought.some c.requires.sought.few c.in_ok-start.ensures.place
    (c.has_few_pieces.ensures.0 c.if-not-has_few_pieces.false) (c.carve.ensures.carved c.if-not-carve.false) in
    c.new.ensures.some.1 (e.range.members c.in_ok-start.start (omega arith, omega (arith, c.requires.sought.some)))

-- the pages are carved
carved : (c : After-unwrap)
    → Carves c.self.inside.tree c.args.self.now c.carve.new.self.chain c.self.inside.carved.stock c.in_ok-start.start c.args.sought.pages
carved c =
    let k = c.self.inside.carved in
    carves c.self.inside.tree c.args.self.now k.chain c.carve.new.self.chain k.stock c.in_ok-start.start c.args.sought.pages
    c.self.invariant.0 c.self.invariant.1 c.self.view_is c.requires.sought.some c.requires.sought.few c.in_ok-start.ensures.place
    (c.has_few_pieces.ensures.0 c.if-not-has_few_pieces.false) (c.carve.ensures.carved c.if-not-carve.false)

pub returns-clause-range : goal.returns-clause-range
returns-clause-range c =
    subst (λ n. IsPageRange (record { first = n; pages = c.args.sought.pages }))
    (sym (start_is c.new.result c.unwrap.result c.in_ok-start.start c.unwrap.ensures c.new.ensures.value)) (carved c).range

pub returns-clause-taken : goal.returns-clause-taken
returns-clause-taken c =
    let new = with_carved c.carve.new.self.chain c.self.inside.tree in
    subst (λ n. Takes c.args.self.now new (record { first = n; pages = c.args.sought.pages }))
    (sym (start_is c.new.result c.unwrap.result c.in_ok-start.start c.unwrap.ensures c.new.ensures.value)) (carved c).taken

pub returns-clause-space : goal.returns-clause-space
returns-clause-space c = (carved c).spaces
