-- What changed at the end of a way, and the whole tree once that was gone back up.
use Rattle.piece_tree.proofs.Names.{◌≡◌, ℕ, ◌+◌, ◌<◌, ◌≤◌, max, List, ◌∷◌, ◌++◌, Some, refl, ap, ◌∙◌, subst, arith, Slab, Updates, get}
use Rattle.piece_tree.proofs.Names.{Piece, Node, Top, Held, Step, Makes, IsPiece, Shape, Fork, items, height_of, uses, top_of, joint}
use Rattle.piece_tree.proofs.Names.{Look, Stands, IsWhole, free_pages, Above, plug, uses_above, AreSteps, CanLift, CanMend, Mends}
use Rattle.piece_tree.proofs.Names.{WholeBecomes, IsHeld}
use Rattle.piece_tree.proofs.shapes.Apart.{IsApart, apart-same, apart-still, used-there}
use Rattle.piece_tree.proofs.shapes.Forks.{beside_key, one-same}
use Rattle.piece_tree.proofs.shapes.Mended.{plug_stands, plug-high, plug-uses, same_above, steps_few}
use Rattle.piece_tree.proofs.shapes.Tall.{low_tree}

edit-can : {old : Slab Node} {look : Look} {root top : Top} {way : List Step} {depth : ℕ} {path : Above} {was new : Shape}
    → IsWhole old root (plug path was) → AreSteps way depth path → ((k : ℕ) → 0 < uses_above path k → look k ≡ get old k)
    → top ≡ top_of new → Stands look new → ((k : ℕ) → uses_above path k + uses new k ≤ 1) → height_of new ≤ 14
    → CanMend look way depth root top path was new
edit-can {old} {look} {way = way} {depth} {path} {was} w s same is stands once high = record {
  steps = s;
  above = same_above (get old) look path was (plug_stands (get old) path was w.stands).1 same;
  here = w.here;
  is = is;
  stands = stands;
  once = once;
  low = w.low;
  fair = omega (arith, high, steps_few way depth path was s, w.low);
}

edit-once : {old : Slab Node} {root : Top} (path : Above) (was : Shape) → IsWhole old root (plug path was) → (k : ℕ)
    → uses_above path k + uses was k ≤ 1
edit-once path was w k = omega (arith, w.once k, plug-uses path was k)

unfoldable edit-done : {old now : Slab Node} {look : Look} {result : Top} {path : Above} {was new : Shape}
    → ((k : ℕ) → uses_above path k + uses new k ≤ 1)
    → Mends look (get now) result path was new → now.capacity ≡ old.capacity → WholeBecomes old now result path (items new)
edit-done once m c = record {
  shape = m.shape;
  here = m.here;
  stands = m.stands;
  once = λ k. omega (arith, m.keys k, once k);
  all = m.all;
  capacity = c;
}

module _ {nodes : Slab Node} {root : Top} {way : List Step} {held : Held} {path : Above} {p : Piece} {l r : Shape}
    (h : IsHeld nodes root way held path p l r) where
  abbrev was : Shape
  was = Fork held.key p l r

  stands : Stands (get nodes) was
  stands = (plug_stands (get nodes) path was h.whole.stands).0

  pub renew-there : get nodes held.key ≡ Some (joint p (top_of l) (top_of r))
  renew-there = stands.0

  -- ---- another piece

  module _ {node : Node} (f : get nodes held.key ≡ Some node) {q : Piece} (i : IsPiece q) {longest : ℕ} {mid : Slab Node}
      (u : Updates nodes mid held.key (Some (record node { piece = q })))
      (e : longest ≡ max (free_pages q) (max node.left.longest node.right.longest)) where
    abbrev new : Shape
    new = Fork held.key q l r

    renew-once : (k : ℕ) → uses_above path k + uses new k ≤ 1
    renew-once k = omega (arith, edit-once path was h.whole k)

    pub renew-can : CanLift (get mid) way held.depth root longest path was new
    renew-can =
        let a = stands.0 in
        let is : node ≡ joint p (top_of l) (top_of r) = cc in
        let own = one-same held.key in
        record {
          can = edit-can h.whole h.steps
              (λ k g. u.others k (λ x. let y : uses_above path k ≡ uses_above path held.key = ap (uses_above path) x in
              omega (arith, renew-once held.key))) refl (
                rw is at u.changed,
                i,
                stands.2,
                beside_key l u stands.3 (omega (arith, renew-once held.key)),
                beside_key r u stands.4 (omega (arith, renew-once held.key)),
              ) renew-once (omega (arith, plug-high path was, h.whole.low));
          same_root = refl;
          same_height = refl;
          is = rw is at e;
        }

    pub renew-done : {end : Slab Node} {result : Top} → Mends (get mid) (get end) result path was new → end.capacity ≡ nodes.capacity
        → (b : WholeBecomes nodes end result path (items l ++ q ∷ items r)) × (b.shape ≡ plug path new)
    unfolding edit-done
    renew-done m c = (edit-done renew-once m c, m.plain refl)

  -- ---- a piece over others

  beside : IsApart (get nodes) (uses_above path) was
  beside = record {
    there = λ k g. used-there (get nodes) (plug path was) k h.whole.stands (omega (arith, plug-uses path was k));
    once = edit-once path was h.whole;
  }

  module _ {mid : Slab Node} {top : Top} {pieces : List Piece} (m : Makes nodes mid top was pieces) where
    pub laid-can : CanMend (get mid) way held.depth root top path was m.shape
    laid-can = edit-can h.whole h.steps (apart-same m beside) m.tree.is m.tree.stands (apart-still m beside).once
        (low_tree (get mid) m.shape m.tree.stands m.tree.few)

    pub laid-done : {now : Slab Node} {result : Top} → Mends (get mid) (get now) result path was m.shape → now.capacity ≡ mid.capacity
        → WholeBecomes nodes now result path pieces
    laid-done {now} {result} w c = subst (λ ps. WholeBecomes nodes now result path ps) m.all
        (edit-done (apart-still m beside).once w (c ∙ m.capacity))
