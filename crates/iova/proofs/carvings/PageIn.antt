-- The piece that a page lies in: one of the chain, or one of the tree's.
use Rattle.iova.proofs.Names.{◌≡◌, ◌≢◌, ℕ, ◌∙◌, List, Option, Some, None, ap, sym, subst, IsIn, Stock, Free, Piece, IsCarved, with_carved}
use Rattle.iova.proofs.Names.{Holds, state_at, piece_at, Space, IsSpace}
use Rattle.iova.proofs.Among.{in_state}
use Rattle.iova.proofs.carvings.PieceAt.{follow_ordered}
use Rattle.iova.proofs.carvings.State.{carving, chain_there, untouched, used_stays, view_space}
use Rattle.iova.proofs.searches.Found.{at_of}
use Rattle.iova.proofs.searches.CutAt.{at_in}

-- a piece of the chain is there
pub found_in : {a now : Space} (chain : List Piece) (known : Option Stock) (page : ℕ) {q : Piece} → IsSpace a
    → IsCarved a.pieces chain known → with_carved chain a ≡ now → piece_at chain page ≡ Some q → IsIn q now.pieces × Holds q page
found_in chain None page {q} sp k view e = absurd (subst (λ l. IsIn q l) k (at_in chain page q e).0)
found_in chain (Some stock) page {q} sp k view e =
    let i = at_in chain page q e in (subst (λ (v : Space). IsIn q v.pieces) view (chain_there (carving sp k) q i.0), i.1)

-- and its pages are in its state
pub found_state : {a now : Space} (chain : List Piece) (known : Option Stock) (page : ℕ) {q : Piece} → IsSpace a
    → IsCarved a.pieces chain known → with_carved chain a ≡ now → piece_at chain page ≡ Some q → state_at now.pieces page ≡ Some q.state
found_state {now = now} chain known page {q} sp k view e =
    let i = found_in chain known page sp k view e in
    in_state 1 q now.pieces page (view_space chain known sp k view).ordered i.0 i.1.0 i.1.1

-- else the page lies where it does in the tree
pub lies_as : {a now : Space} (chain : List Piece) (known : Option Stock) (page : ℕ) → IsSpace a → IsCarved a.pieces chain known
    → with_carved chain a ≡ now → piece_at chain page ≡ None → state_at now.pieces page ≡ state_at a.pieces page
lies_as {a} chain None page sp k view e =
    ap (λ (v : Space). state_at v.pieces page) (sym view) ∙ ap (λ l. state_at (with_carved l a).pieces page) k
lies_as chain (Some stock) page sp k view e =
    ap (λ (v : Space). state_at v.pieces page) (sym view) ∙ untouched (carving sp k) page (λ q m h.
    absurd (cc (at_of k.from q chain page (follow_ordered k.from chain k.end k.follow) m h.0 h.1)))

-- and a piece in use stays
pub stays_in : {a now : Space} (chain : List Piece) (known : Option Stock) (q : Piece) → IsSpace a → IsCarved a.pieces chain known
    → with_carved chain a ≡ now → IsIn q a.pieces → q.state ≢ Free → IsIn q now.pieces
stays_in {a} chain None q sp k view i n =
    subst (λ (v : Space). IsIn q v.pieces) view (subst (λ l. IsIn q (with_carved l a).pieces) (sym k) i)
stays_in chain (Some stock) q sp k view i n = subst (λ (v : Space). IsIn q v.pieces) view (used_stays (carving sp k) q i n)
