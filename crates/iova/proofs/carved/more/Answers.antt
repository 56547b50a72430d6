use Rattle.iova.proofs.Names.{◌≡◌, ◌+◌, List, [], ◌∷◌, Some, length, slice_get, subst, arith, nat_tests, Stock, Piece, AreCarved}
use Rattle.iova.proofs.Names.{with_pieces, Space, IsSpace, rest_below}
use Rattle.iova.proofs.carvings.Carved.{carved_in}
use Rattle.iova.proofs.carvings.InPlace.{counted, follow_le, free_piece}
use Rattle.iova.proofs.carved.more.Goals as goal

-- the first of them says whether one is left before it
counted_by : {a : Space} (chain : List Piece) {stock : Stock} (p : Piece) → IsSpace a → AreCarved a.pieces chain stock
    → slice_get chain 0 ≡ Some p → length (with_pieces chain a.pieces)
    ≡ length a.pieces + length chain + length (rest_below p.first (free_piece stock.pages.first stock.pages.last))
counted_by [] p sp c e = absurd (cc)
counted_by {a} (q ∷ chain) {stock = stock} p sp c e =
    let first : c.from ≡ p.first = cc in
    let some = follow_le (q.last + 1) chain c.end c.follow.3 in
    let m = free_piece stock.pages.first stock.pages.last in
    subst (λ n. length (with_pieces (q ∷ chain) a.pieces) ≡ length a.pieces + length (q ∷ chain) + length (rest_below n m)) first
    (counted sp stock.pages.first stock.pages.last c.there (q ∷ chain) c.from c.end (omega arith) c.follow (omega arith) c.left)

pub returns-in-Some-Some : goal.returns-in-Some-Some
returns-in-Some-Some c a sp k =
    let stock = c.in-Some-Some.stock in
    let p = c.in-Some-Some.first.now in
    let n = counted_by c.args.carved.now.chain p sp
    (carved_in a.pieces c.args.carved.now.chain c.args.carved.now.stock stock c.in-Some-Some.is-1 k)
    (cc (c.as_slice.ensures, c.in-Some-Some.ensures.value)) in
    let r : length (rest_below p.first (free_piece stock.pages.first stock.pages.last)) ≡ c.from.result = grind (arith, nat_tests) in
    omega (arith, n, c.len.ensures)
