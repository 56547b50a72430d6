-- Where a start that was found lies.
use Rattle.iova.proofs.Names.{◌≡◌, ℕ, ◌+◌, ◌≤◌, ◌∷◌, ◌++◌, List, refl, inl, sym, subst, arith, IsIn, Free, Piece, NUMBERS_END, AreSorted}
use Rattle.iova.proofs.Names.{IsFound, Ends, pages_as}
use Rattle.iova.proofs.Among.{in_append_right}
use Rattle.iova.proofs.Puts.{free_state}
use Rattle.iova.proofs.Sorted.{sorted_in}

-- a piece between others is one of them
pub in_middle : (ps xs : List Piece) (p : Piece) (ys : List Piece) → ps ≡ xs ++ p ∷ ys → IsIn p ps
in_middle ps xs p ys e = subst (λ l. IsIn p l) (sym e) (in_append_right p xs (p ∷ ys) (inl refl))

-- so many pages from there on have numbers
pub found_narrow : (floor pages unit : ℕ) (ps : List Piece) (start : ℕ) (p : Piece) → AreSorted 0 ps → IsFound floor pages unit ps start p
    → start + pages ≤ NUMBERS_END
found_narrow floor pages unit ps start p s f =
    let w = sorted_in 0 ps p s (in_middle ps f.before p f.behind f.parts) in
    omega (arith, f.here.room, w.1)

-- the piece is one of them
pub found_there : (floor pages unit : ℕ) (ps : List Piece) (start : ℕ) (p : Piece) → IsFound floor pages unit ps start p → (ends : Ends)
    → pages_as ends p.state ≡ p → IsIn (pages_as ends Free) ps
found_there floor pages unit ps start p f ends e =
    subst (λ s. IsIn (pages_as ends s) ps) (free_state p.state f.here.free)
    (subst (λ q. IsIn q ps) (sym e) (in_middle ps f.before p f.behind f.parts))
