-- All pieces of a tree taken out: the root, then the tree before it, and then the one behind it.
use Rattle.piece_tree.proofs.Names.{◌≡◌, ℕ, ◌+◌, ◌<◌, ◌≤◌, length, Some, None, ap, sym, ◌∙◌, arith, length-append}
use Rattle.piece_tree.proofs.Names.{Piece, Slab, Updates, get, slab_len, Node, Top, Removes, Shape, Fork, items, height_of, one, uses}
use Rattle.piece_tree.proofs.Names.{at_root, Stands, IsBelow, root_of, top_of}
use Rattle.piece_tree.proofs.shapes.Forks.{beside_key, one-same, differs, same_stands}
use Rattle.piece_tree.proofs.shapes.Led.{Roots, roots, node_height, root_height}

-- where a tree goes, one beside it stays
pub beside_removed : (old new : Slab Node) (t s : Shape) → Removes old new t → Stands (get old) s → ((k : ℕ) → uses t k + uses s k ≤ 1)
    → Stands (get new) s
beside_removed old new t s r h once = same_stands (get old) (get new) s h (λ k g. r.others k (omega (arith, once k)))

module _ {old mid : Slab Node} {key : ℕ} (t : Shape) (b : IsBelow (get old) (Some key) t) (once : (k : ℕ) → uses t k ≤ 1) {node : Node}
    (f : get old key ≡ Some node) (u : Updates old mid key None) where
  abbrev x : Roots key node t
  x = roots (get old) key node t (sym b.0) b.1 f

  whole : Stands (get old) (Fork key node.piece x.l x.r)
  whole = rw x.is at b.1

  uses-t : (k : ℕ) → uses t k ≡ one key k + uses x.l k + uses x.r k
  uses-t k = ap (λ y. uses y k) x.is

  -- a tree below it can go then, and is lower
  abbrev pub CanGo : Slab Node → Top → Shape → Type 0
  CanGo now top s = IsBelow (get now) top.root s × ((k : ℕ) → uses s k ≤ 1)
      × (node_height (at_root (get now) top.root) < node_height (at_root (get old) (Some key)))

  can_go : (now : Slab Node) (top : Top) (s : Shape) → top ≡ top_of s → Stands (get now) s → ((k : ℕ) → uses s k ≤ uses t k)
      → height_of s < height_of t → CanGo now top s
  can_go now top s e h less low =
      let r : top.root ≡ root_of s = ap (λ (v : Top). v.root) e in (
        (r, h),
        (λ k. omega (arith, once k, less k)),
        omega (arith, root_height (get old) (Some key) t b.0 b.1, root_height (get now) top.root s r h, low),
      )

  pub remove-left : CanGo mid node.left x.l
  remove-left = can_go mid node.left x.l x.left
      (beside_key x.l u whole.3 (omega (arith, once key, uses-t key, one-same key))) (λ k. omega (arith, uses-t k))
      (omega (arith, ap height_of x.is))

  module _ {next : Slab Node} (r : Removes mid next x.l) where
    pub remove-right : CanGo next node.right x.r
    remove-right = can_go next node.right x.r x.right
        (beside_removed mid next x.l x.r r
        (beside_key x.r u whole.4 (omega (arith, once key, uses-t key, one-same key))) (λ k. omega (arith, once k, uses-t k)))
        (λ k. omega (arith, uses-t k)) (omega (arith, ap height_of x.is))

    pub remove-done : {new : Slab Node} → Removes next new x.r → slab_len mid + 1 ≡ slab_len old → mid.capacity ≡ old.capacity
        → Removes old new t
    remove-done q len capacity = record {
      others = λ k z. q.others k (omega (arith, uses-t k)) ∙ r.others k (omega (arith, uses-t k))
          ∙ u.others k (λ e. differs k key t z (omega (arith, uses-t key, one-same key)) (sym e));
      len = omega (arith, len, r.len, q.len, ap (λ y. length (items y)) x.is, length-append {A = Piece});
      capacity = q.capacity ∙ r.capacity ∙ capacity;
    }
