-- Each page of a space lies in a piece.
use Rattle.iova.proofs.Names.{ℕ, ◌≤◌, List, Option, Some, None, IsSome, refl, sym, subst, Piece, with_piece, piece_at, state_at, Space}
use Rattle.iova.proofs.Names.{IsPageTo, IsSpace}
use Rattle.iova.proofs.Among.{in_state, put_piece}
use Rattle.iova.proofs.Keep.{is_some}
use Rattle.iova.proofs.parts.Filled.{its_state, state_is}

some_piece : (o : Option Piece) → IsSome (its_state o) → IsSome o
some_piece None h = absurd (cc)
some_piece (Some p) h = refl

-- where a page has a state, it lies in a piece
pub in_piece : (ps : List Piece) (page : ℕ) → IsSome (state_at ps page) → IsSome (piece_at ps page)
in_piece ps page h = some_piece (piece_at ps page) (subst (λ o. IsSome o) (sym (state_is ps page)) h)

-- a piece put over those of a space has pages of the space alone, if a space comes of it
module _ (a : Space) (sp : IsSpace a) (p : Piece) (new : IsSpace (record a { pieces = with_piece p a.pieces }))
    (some : p.first ≤ p.last) where
  pub put_page : (page : ℕ) → p.first ≤ page → page ≤ p.last → IsPageTo a.last page
  put_page page l h =
      new.others page (is_some (with_piece p a.pieces) page p.state
      (in_state 1 p (with_piece p a.pieces) page new.ordered (put_piece p.first p.last p.state a.pieces) l h))

  pub put_lies : (page : ℕ) → p.first ≤ page → page ≤ p.last → IsSome (piece_at a.pieces page)
  put_lies page l h = in_piece a.pieces page (sp.pages page (put_page page l h))
