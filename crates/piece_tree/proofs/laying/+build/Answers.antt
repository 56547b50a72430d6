use Rattle.piece_tree.proofs.Names.{◌≡◌, ℕ, ◌+◌, ◌-◌, ◌/◌, ◌<◌, ◌≤◌, ◌==◌, max, Bool, false, List, ◌∷◌, ◌++◌, length, get_or, take, drop}
use Rattle.piece_tree.proofs.Names.{ap, sym, subst, ◌∙◌, add-one, arith, drop-cons, nat_tests, length-drop, length-take-le}
use Rattle.piece_tree.proofs.Names.{take-append-drop, take_rest, Piece, Top, Slab, Node, MOST_PIECES, IsLeastHeight, Makes, Parted, AreNear}
use Rattle.piece_tree.proofs.Names.{Empty, items}
use Rattle.piece_tree.proofs.shapes.Crowned.{least-crown, least-far, least-near}
use Rattle.piece_tree.proofs.shapes.Halved.{parted-two}
use Rattle.piece_tree.proofs.laying.+build.Goals as goal

-- a list by one of its elements
around_one : (ps xs ys : List Piece) (i : ℕ) (d : Piece) → i < length ps → xs ≡ take i ps
    → ys ≡ take (length ps - (i + 1)) (drop (i + 1) ps) → xs ++ get_or ps i d ∷ ys ≡ ps
around_one ps xs ys i d h e f =
    ap (λ l. l ++ get_or ps i d ∷ ys) e ∙ ap (λ l. take i ps ++ get_or ps i d ∷ l) (f ∙ take_rest ps (i + 1))
    ∙ ap (λ l. take i ps ++ l) (ap (λ n. get_or ps i d ∷ drop n ps) (add-one i) ∙ sym (drop-cons ps i d h)) ∙ take-append-drop i ps

-- the two halves beside the middle one
halves : (ps : List Piece) → 0 < length ps → let i = length ps / 2 in let f = length ps - (i + 1) in
    (length (take f (drop (i + 1) ps)) ≤ length (take i ps)) × (length (take i ps) ≤ length (take f (drop (i + 1) ps)) + 1)
    × (length (take i ps) + 1 + length (take f (drop (i + 1) ps)) ≡ length ps)
halves ps some =
    let i = length ps / 2 in
    let f = length ps - (i + 1) in
    let a : length (take i ps) ≡ i = length-take-le i ps (omega arith) in
    let b : length (drop (i + 1) ps) ≡ f = length-drop (i + 1) ps in
    let d : length (take f (drop (i + 1) ps)) ≡ f = length-take-le f (drop (i + 1) ps) (omega (arith, b)) in
    (omega (arith, a, d, some), omega (arith, a, d, some), omega (arith, a, d, some))

some_pieces : (n : ℕ) (empty : Bool) → empty ≡ (n == 0) → empty ≡ false → 0 < n
some_pieces n empty e h = let z : (n == 0) ≡ false = sym e ∙ h in grind (arith, nat_tests)

-- trees of the two halves
half_parts : {old mid new : Slab Node} {near far : Top} (ps : List Piece) → 0 < length ps → length ps ≤ MOST_PIECES
    → (n : Makes old mid near Empty (take (length ps / 2) ps))
    → (f : Makes mid new far Empty (take (length ps - (length ps / 2 + 1)) (drop (length ps / 2 + 1) ps)))
    → IsLeastHeight (length (take (length ps / 2) ps)) near.height
    → IsLeastHeight (length (take (length ps - (length ps / 2 + 1)) (drop (length ps / 2 + 1) ps))) far.height
    → Parted old new near far Empty n.shape f.shape × AreNear n.shape f.shape
    × (length (items n.shape) + length (items f.shape) < MOST_PIECES)
half_parts ps some few n f ln lf =
    let h = halves ps some in
    let a = ap (λ (v : Top). v.height) n.tree.is in
    let b = ap (λ (v : Top). v.height) f.tree.is in (
      parted-two n f,
      (omega (arith, least-near _ _ _ _ ln lf h.0 h.1), omega (arith, least-far _ _ _ _ ln lf h.0 h.1)),
      omega (arith, ap length n.all, ap length f.all, h.2, few),
    )

pub crown-requires-clause-parts : goal.crown-requires-clause-parts
crown-requires-clause-parts t c =
    let ps = c.args.pieces.now in
    let some = some_pieces (length ps) c.is_empty.result c.is_empty.ensures c.if-is_empty.false in
    let n = c.build-near.ensures in
    let f = c.build-far.ensures in
    let h = half_parts ps some c.requires.few n.makes f.makes n.height f.height in
    (_, _, _, h.0, h.1, h.2)

pub returns-clause-makes : goal.returns-clause-makes
returns-clause-makes t c =
    let ps = c.args.pieces.now in
    let some = some_pieces (length ps) c.is_empty.result c.is_empty.ensures c.if-is_empty.false in
    let n = c.build-near.ensures in
    let f = c.build-far.ensures in
    let h = half_parts ps some c.requires.few n.makes f.makes n.height f.height in
    subst (λ l. Makes c.args.nodes.now c.crown.new.nodes c.crown.result Empty l)
    (around_one ps (items n.makes.shape) (items f.makes.shape) (length ps / 2) _ (omega (arith, some)) n.makes.all f.makes.all)
    (c.crown.ensures.makes _ _ _ h.0 h.1 h.2)

pub returns-clause-height : goal.returns-clause-height
returns-clause-height t c =
    let ps = c.args.pieces.now in
    let some = some_pieces (length ps) c.is_empty.result c.is_empty.ensures c.if-is_empty.false in
    let h = halves ps some in
    let n = c.build-near.ensures in
    let f = c.build-far.ensures in
    subst (λ k. IsLeastHeight (length ps) k) (sym c.crown.ensures.height)
    (subst (λ m. IsLeastHeight m (1 + max c.build-near.result.height c.build-far.result.height)) h.2
    (least-crown _ _ _ _ n.height f.height h.0 h.1))
