use Rattle.iova.proofs.Names.{◌≡◌, ◌%◌, sym, subst, arith, with_pieces, IsRoundUp, IsLowestFrom}
use Rattle.iova.proofs.carvings.Carved.{chain_within, stock_narrow, carved_in}
use Rattle.iova.proofs.carvings.Sought.{digits_zero, first_lowest, is_more, next_lowest, unit_small}
use Rattle.iova.proofs.carved.Carved.next_start.Goals as goal
use Rattle.iova.proofs.carved.Carved.next_start.Goals.{in-None, in-Some-2}

pub round_up-start-requires-clause-page : goal.round_up-start-requires-clause-page
round_up-start-requires-clause-page c =
    let n = stock_narrow _ _ _ c.requires.carved.1 (carved_in _ _ _ _ c.in_ok-stock.was c.requires.carved.2) in
    omega (arith, n, c.if-sought-stock.false, c.max-low.ensures)

pub has_room-requires-clause-low : goal.has_room-requires-clause-low
has_room-requires-clause-low c =
    let n = stock_narrow _ _ _ c.requires.carved.1 (carved_in _ _ _ _ c.in_ok-stock.was c.requires.carved.2) in
    omega (arith, n, c.if-sought-stock.false, c.max-low.ensures)

pub overflow_add-start : goal.overflow_add-start
overflow_add-start c =
    let k = carved_in _ _ _ _ c.in_ok-stock.was c.requires.carved.2 in
    let w = chain_within k c.in-Some.ends c.in-Some.ensures.some c.in-Some.ensures.first in
    omega (arith, w, stock_narrow _ _ _ c.requires.carved.1 k)

pub overflow_add-start-then-start-sought-eq0 : goal.overflow_add-start-then-start-sought-eq0
overflow_add-start-then-start-sought-eq0 c =
    let k = carved_in _ _ _ _ c.in_ok-stock.was c.requires.carved.2 in
    let n = stock_narrow _ _ _ c.requires.carved.1 k in
    let few = c.requires.sought.few in
    elim c.match-ends.branch [
      | in-None w ↦
          let small = unit_small c.args.sought c.requires.sought in
          omega (arith, w.start-is, n, few, small, c.if-sought-stock.false, c.max-low.ensures, w.round_up-start.ensures.near)
      | in-Some-2 w ↦
          omega (arith, w.start-is, n, few, chain_within k w.in-Some.ends w.in-Some.ensures.some w.in-Some.ensures.first)
    ]

pub returns-then-start-sought-clause-lowest : goal.returns-then-start-sought-clause-lowest
returns-then-start-sought-clause-lowest c a sp k =
    let sought = c.args.sought in
    let s = c.requires.sought in
    let d = carved_in _ _ _ _ c.in_ok-stock.was k in
    let more = is_more sought c.in_ok-stock.stock.sought s d.sought (omega (arith, c.if-sought-stock.false))
    (omega (arith, c.if-sought-stock-2.false)) (omega (arith, c.if-sought-stock-3.false)) in
    let lowest = IsLowestFrom sought.floor (with_pieces c.args.self.now.chain a.pieces) sought.pages sought.unit in
    elim c.match-ends.branch [
      | in-None w ↦
          let up = subst (λ n. IsRoundUp n sought.unit w.round_up-start.result) c.max-low.ensures w.round_up-start.ensures.up in
          subst lowest (sym w.start-is) (first_lowest sp d sought more s.some w.round_up-start.result w.in-None.ensures.none up
          (omega (arith, w.start-is, c.if-start-sought.true)))
      | in-Some-2 w ↦
          let f = chain_within d w.in-Some.ends w.in-Some.ensures.some w.in-Some.ensures.first in
          let at : c.match-ends.start ≡ d.end = omega (arith, w.start-is, f.1) in
          let z = digits_zero sought c.match-ends.start s c.if-start-sought-eq0.true in
          subst lowest (sym at) (next_lowest sp d sought more s.some f.2
          (λ n e h. let r = w.has_room.ensures.none w.if-has_room.false n e (omega (arith, c.max-low.ensures)) in omega (arith, f.0, r))
          (subst (λ n. n % sought.unit ≡ 0) at z) (omega (arith, at, c.if-start-sought.true)))
    ]
