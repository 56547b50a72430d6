-- What is known of the chain where pieces are carved.
use Rattle.iova.proofs.Names.{◌≡◌, ℕ, ◌+◌, ◌<◌, ◌≤◌, List, max, [], ◌∷◌, length, ap, Option, Some, sym, ◌∙◌, subst, arith, Ends, Stock}
use Rattle.iova.proofs.Names.{NUMBERS_END, Piece, AreCarved, FollowOn, IsCarved, Space, IsSpace}
use Rattle.iova.proofs.Keep.{in_narrow}
use Rattle.iova.proofs.carvings.At.{ends_alike}
use Rattle.iova.proofs.carvings.InPlace.{follow_le, follow_some, free_piece}

-- where the free piece is known
pub carved_in : (pieces chain : List Piece) (known : Option Stock) (stock : Stock) → known ≡ Some stock → IsCarved pieces chain known
    → AreCarved pieces chain stock
carved_in pieces chain known stock e c = subst (λ o. IsCarved pieces chain o) e c

-- the page that they begin with, and the one behind them
pub same_ends : (chain : List Piece) (from end first other : ℕ) → FollowOn from chain end → FollowOn first chain other → first < other
    → (from ≡ first) × (end ≡ other)
same_ends [] from end first other f g h = absurd (omega arith)
same_ends (p ∷ ps) from end first other f g h = (sym f.0 ∙ g.0, ends_alike (p.last + 1) ps end other f.3 g.3)

-- they lie in the free piece, and behind page 0
pub chain_within : {pieces chain : List Piece} {stock : Stock} (c : AreCarved pieces chain stock) (ends : Ends)
    → FollowOn ends.first chain (ends.last + 1) → (p : Piece) × (ps : List Piece) × (chain ≡ p ∷ ps)
    → (c.from ≡ ends.first) × (c.end ≡ ends.last + 1) × (c.from < c.end) × (1 ≤ ends.first) × (stock.pages.first ≤ ends.first)
    × (ends.last < stock.pages.last)
chain_within {chain = chain} c ends f w =
    let some = follow_some ends.first chain (ends.last + 1) f (omega (arith, ap (λ (l : List Piece). length l) w.2)) in
    let e = same_ends chain c.from c.end ends.first (ends.last + 1) c.follow f some in
    omega (arith, e, c.low, c.sought.floor, c.left)

-- all of its pages have numbers below the end of the numbers, and so does the floor
pub stock_narrow : (a : Space) (chain : List Piece) (stock : Stock) → IsSpace a → AreCarved a.pieces chain stock
    → (max stock.pages.first stock.sought.floor ≤ stock.pages.last) × (stock.pages.last < NUMBERS_END)
stock_narrow a chain stock sp c = (
  omega (arith, follow_le c.from chain c.end c.follow),
  in_narrow a (free_piece stock.pages.first stock.pages.last) sp c.there,
)
