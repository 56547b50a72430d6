use Rattle.piece_tree.proofs.Names.{[], ◌∷◌, ap, sym, ◌∙◌, refl, with_piece}
use Rattle.piece_tree.proofs.shapes.Over.{can-lay}
use Rattle.piece_tree.proofs.shapes.Placed.{page_low}
use Rattle.piece_tree.proofs.shapes.Tall.{whole_view}
use Rattle.piece_tree.proofs.tree.PieceTree.lay.Goals as goal

pub reach-held-requires-clause-tree : goal.reach-held-requires-clause-tree
reach-held-requires-clause-tree c =
    let i = c.self.invariant in
    let e = sym c.self.view_is ∙ whole_view i.1 in
    (i.0, i.1, i.2, rw e at c.requires.first)

pub reach-held-requires-clause-pages : goal.reach-held-requires-clause-pages
reach-held-requires-clause-pages c =
    let i = c.self.invariant in
    (c.requires.some, page_low 0 _ _ i.1.sorted (rw (sym c.self.view_is ∙ whole_view i.1) at c.requires.last))

pub lay_piece-laid-requires : goal.lay_piece-laid-requires
lay_piece-laid-requires c =
    let i = c.self.invariant in (
      _,
      can-lay _ (c.args.piece ∷ []) _ i.1 (c.reach-held.ensures i.0 i.1 i.2) c.self.view_is (refl, c.requires.some, refl)
          c.requires.some c.requires.last c.requires.room,
    )

pub invariant_of-self : goal.invariant_of-self
invariant_of-self c =
    let i = c.self.invariant in
    let m = c.lay_piece-laid.ensures _ (can-lay _ (c.args.piece ∷ []) _ i.1 (c.reach-held.ensures i.0 i.1 i.2) c.self.view_is
    (refl, c.requires.some, refl) c.requires.some c.requires.last c.requires.room) in
    (m.shape, m.whole, m.hand)

pub returns : goal.returns
returns c =
    let i = c.self.invariant in
    let m = c.lay_piece-laid.ensures _ (can-lay _ (c.args.piece ∷ []) _ i.1 (c.reach-held.ensures i.0 i.1 i.2) c.self.view_is
    (refl, c.requires.some, refl) c.requires.some c.requires.last c.requires.room) in
    whole_view m.whole ∙ m.all ∙ ap (λ l. with_piece c.args.piece l) (sym (whole_view i.1) ∙ c.self.view_is)
