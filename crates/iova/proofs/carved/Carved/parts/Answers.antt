use Rattle.iova.proofs.Names.{◌-◌, sym, subst, arith, Stock}
use Rattle.iova.proofs.carvings.Carved.{stock_narrow, carved_in, chain_within}
use Rattle.iova.proofs.carvings.Placed.{Between, all_placed}
use Rattle.iova.proofs.carvings.State.{follows}
use Rattle.iova.proofs.carved.Carved.parts.Goals as goal

pub ends-requires : goal.ends-requires
ends-requires c = follows c.requires.0.pieces c.args.self.now.chain c.args.self.now.stock c.requires.2

pub overflow_add-ends : goal.overflow_add-ends
overflow_add-ends c =
    let k = carved_in _ _ _ _ c.in-Some-Some.is-1 c.requires.2 in
    let w = chain_within k c.in-Some-Some.ends c.in-Some-Some.ensures.some c.in-Some-Some.ensures.first in
    omega (arith, w, stock_narrow _ _ _ c.requires.1 k)

pub returns-in-Some-Some-clause-some : goal.returns-in-Some-Some-clause-some
returns-in-Some-Some-clause-some c a p rest sp k e =
    let stock : Stock = c.in-Some-Some.stock in
    let ends = c.in-Some-Some.ends in
    let d = carved_in _ _ _ _ c.in-Some-Some.is-1 k in
    let w = chain_within d ends c.in-Some-Some.ensures.some c.in-Some-Some.ensures.first in
    all_placed a c.args.self.now.chain stock sp d c.between.result c.between-in-Some-Some.result w.2
    (subst (λ n. Between stock.pages.first (n - 1) c.between.result) (sym w.0) (c.between.ensures.some, c.between.ensures.none))
    (subst (λ n. Between n stock.pages.last c.between-in-Some-Some.result) (sym w.1)
    (c.between-in-Some-Some.ensures.some, c.between-in-Some-Some.ensures.none))
