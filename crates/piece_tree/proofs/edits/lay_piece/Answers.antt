use Rattle.piece_tree.proofs.Names.{◌≡◌, ◌∷◌, ◌∙◌, Some, ap, arith, length-append, Node, Piece, items}
use Rattle.piece_tree.proofs.shapes.Forks.{is_there}
use Rattle.piece_tree.proofs.shapes.Over.{lay-done, lay-held, lay-same, p, x}
use Rattle.piece_tree.proofs.edits.lay_piece.Goals as goal

pub index-requires : goal.index-requires
index-requires c = let q = c.requires in is_there q.1.reaches.there

pub renew-root-requires-clause-held : goal.renew-root-requires-clause-held
renew-root-requires-clause-held c = let q = c.requires in (_, _, _, _, lay-held q.1)

-- the highest piece has just these pages
pub returns-then-there-piece-2 : goal.returns-then-there-piece-2
returns-then-there-piece-2 c t can =
    let k = can.reaches in
    let f = c.index.ensures in
    let there = k.there in
    let same : k.node ≡ c.index.result.now = cc in
    let piece = ap (λ (n : Node). n.piece) same in
    let b = c.renew-root.ensures.becomes _ _ _ _ (lay-held can) in
    lay-done can (lay-same can (ap (λ (q : Piece). q.first) piece ∙ c.if-there-piece.true)
    (ap (λ (q : Piece). q.last) piece ∙ c.if-there-piece-2.true))
    b.0 (omega (
      arith,
      c.renew-root.ensures.count.len,
      length-append (items (x can).l) (c.args.piece ∷ items (x can).r),
      length-append (items (x can).l) (p can ∷ items (x can).r),
    )) (Some c.args.held) (record { path = _; piece = c.args.piece; left = _; right = _; is = b.1; steps = k.steps })

pub lay_over-requires : goal.lay_over-requires
lay_over-requires c = let q = c.requires in (_, _, _, q.1)

pub returns : goal.returns
returns c t can = c.lay_over.ensures _ _ _ can
