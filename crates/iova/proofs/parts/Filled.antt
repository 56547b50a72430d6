-- The pieces of a new space, and the state of a page.
use Rattle.iova.proofs.Names.{◌≡◌, ℕ, List, [], ◌∷◌, Option, Some, None, refl, arith, nat_tests, Piece, PageState, state_at, piece_at}

-- the state of the piece
abbrev pub its_state : Option Piece → Option PageState
its_state None = None
its_state (Some p) = Some p.state

pub state_is : (ps : List Piece) (page : ℕ) → its_state (piece_at ps page) ≡ state_at ps page
unfolding piece_at state_at
state_is [] page = refl
state_is (p ∷ ps) page = let e = state_is ps page in grind (arith, nat_tests)
