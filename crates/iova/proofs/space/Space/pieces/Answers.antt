use Rattle.iova.proofs.Names.{◌≡◌, ℕ, List, [], ◌∷◌, ◌++◌, ◌==◌, Bool, false, if◌then◌else◌, Option, None, length, ◌∙◌, refl, ap, sym}
use Rattle.iova.proofs.Names.{arith, nat_tests, Ends, Parts, Piece, free_of, in_place_of, with_carved, with_pieces, Space}
use Rattle.iova.proofs.carvings.State.{view_space}
use Rattle.iova.proofs.space.Space.pieces.Goals as goal

-- the tree's piece counts as passed where there is no chain, and what comes is the tree's pieces
abbrev coming : ℕ → Option Ends → List Piece → Option Ends → List Piece → Bool → List Piece
coming stock before chain behind pieces passed =
    if passed then free_of before ++ chain ++ free_of behind ++ pieces
    else in_place_of stock (free_of before ++ chain ++ free_of behind) pieces

-- so it is all pieces of the space
are_all : (a now : Space) (parts : Parts) (chain l pieces : List Piece) (passed : Bool) → passed ≡ (length chain == 0) → pieces ≡ a.pieces
    → chain ≡ l → (l ≡ [] → (parts.before ≡ None) × (parts.behind ≡ None))
    → ((first : Piece) (rest : List Piece) → l ≡ first ∷ rest
    → in_place_of parts.first (free_of parts.before ++ l ++ free_of parts.behind) a.pieces ≡ with_pieces l a.pieces)
    → with_carved l a ≡ now → coming parts.first parts.before chain parts.behind pieces passed ≡ now.pieces
are_all a now parts chain [] pieces passed none tree is f g view = let e = f refl in cc (e.0, e.1)
are_all a now parts chain (p ∷ ps) pieces passed none tree is f g view =
    let not : length (p ∷ ps) == 0 ≡ false = grind (arith, nat_tests) in cc (g p ps refl)

pub returns-clause-pieces : goal.returns-clause-pieces
returns-clause-pieces c =
    let a = c.self.inside.tree in
    are_all a _ c.parts-parts.result c.as_slice-chain.result.now c.self.inside.carved.chain c.pieces.result c.is_empty.result
    c.is_empty.ensures c.pieces.ensures.pieces c.as_slice-chain.ensures c.parts-parts.ensures.none
    (λ first rest e. c.parts-parts.ensures.some a first rest c.self.invariant.0 c.self.invariant.1 e) c.self.view_is

-- as many are left as there are pieces
pub invariant_of-result : goal.invariant_of-result
invariant_of-result c =
    let a = c.self.inside.tree in
    c.piece_count.ensures.count
    ∙ sym (ap (λ (ps : List Piece). length ps) (are_all a _ c.parts-parts.result c.as_slice-chain.result.now c.self.inside.carved.chain
    c.pieces.result c.is_empty.result c.is_empty.ensures c.pieces.ensures.pieces c.as_slice-chain.ensures c.parts-parts.ensures.none
    (λ first rest e. c.parts-parts.ensures.some a first rest c.self.invariant.0 c.self.invariant.1 e) c.self.view_is))

pub returns-clause-space : goal.returns-clause-space
returns-clause-space c =
    view_space c.self.inside.carved.chain c.self.inside.carved.stock c.self.invariant.0 c.self.invariant.1 c.self.view_is
