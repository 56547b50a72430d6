-- A tree hung on a side of a key, where another one was.
use Rattle.piece_tree.proofs.Names.{◌≡◌, ℕ, Bool, true, false, Some, refl, ap, sym, ◌∙◌, arith, abs_diff, not, Slab, Updates, get}
use Rattle.piece_tree.proofs.Names.{Piece, Node, Top, Look, Shape, items, height_of, longest_of, fork, root_of, top_of, tree_at}
use Rattle.piece_tree.proofs.Names.{with_child, joint_at, AreNear, AreParts, CanHang, Links, Joins}
use Rattle.std.specs.Prelude.{◌≤◌}
use Rattle.piece_tree.proofs.shapes.Forks.{beside_key, fork-height, fork-uses, is_there, linked, no_key, one-same}

-- the same from the other side
pub fork-flip : (b : Bool) (key : ℕ) (p : Piece) (n f : Shape) → fork (not b) key p f n ≡ fork b key p n f
fork-flip true key p n f = refl
fork-flip false key p n f = refl

pub joint-flip : (b : Bool) (p : Piece) (near far : Top) → joint_at (not b) p far near ≡ joint_at b p near far
joint-flip true p near far = refl
joint-flip false p near far = refl

-- the tree on that side
joint_near : (b : Bool) (p : Piece) (near far : Top) (node : Node) → node ≡ joint_at b p near far → (child : Top)
    → (b ≡ true → child ≡ node.left) → (b ≡ false → child ≡ node.right) → child ≡ near
joint_near true p near far node is child on off = on refl ∙ ap (λ (x : Node). x.left) is
joint_near false p near far node is child on off = off refl ∙ ap (λ (x : Node). x.right) is

pub parts_flip : {look : Look} {near far : Top} {key : ℕ} {n f : Shape} → AreParts look near key far n f → AreParts look far key near f n
parts_flip a = record {
  near_is = a.far_is;
  far_is = a.near_is;
  near_stands = a.far_stands;
  far_stands = a.near_stands;
  here = a.here;
  once = λ k. omega (arith, a.once k);
  low = (a.low.1, a.low.0);
}

pub joins-flip : {old new : Look} (b : Bool) {top : Top} {key : ℕ} {p : Piece} {n f : Shape} → Joins old new (not b) top key p f n
    → Joins old new b top key p n f
joins-flip b {key = key} {p = p} {n = n} {f = f} j = record {
  shape = j.shape;
  is = j.is;
  stands = j.stands;
  all = j.all ∙ ap items (fork-flip b key p n f);
  keys = λ k. omega (arith, j.keys k);
  others = λ k z. j.others k (omega arith);
  tall = (j.tall.1, j.tall.0);
  short = omega (arith, j.short);
  plain = λ w. j.plain (w.1, w.0) ∙ fork-flip b key p n f;
}

unfoldable pub link_joins : {old new : Look} {b : Bool} {top : Top} {key : ℕ} {p : Piece} {n f : Shape} → Links old new b top key p n f
    → Joins old new b top key p n f
link_joins {b = b} {key = key} {p = p} {n = n} {f = f} u = record {
  shape = fork b key p n f;
  is = u.is;
  stands = u.stands;
  all = refl;
  keys = fork-uses b key p n f;
  others = λ k z. u.others k (no_key key k (omega arith));
  tall = (omega (arith, fork-height), omega (arith, fork-height));
  short = omega (arith, fork-height);
  plain = λ w. refl;
}

-- the root and the height of one tree, and what is longest of the other
pub shows : (s t : Shape) (root : Top) (longest : ℕ) → root ≡ top_of t → root_of s ≡ root_of t → height_of s ≡ height_of t
    → longest ≡ longest_of s → record root { longest = longest } ≡ top_of s
shows s t root longest e r h l = rw (e, ← r, ← h, l) refl

-- ---- a tree in the place of another one

module _ {look : Look} {b : Bool} {key : ℕ} {tree : Top} {piece : Piece} {was n f : Shape} (h : CanHang look b key tree piece was n f)
    {node : Node} (e : look key ≡ Some node) where
  node_is : node ≡ joint_at b piece (top_of was) (top_of f)
  node_is = let a = h.here in cc

  -- what a side shows
  pub hung-on : (r : Top) → (b ≡ true → r ≡ node.left) → (b ≡ false → r ≡ node.right) → r ≡ top_of was
  hung-on r on off = joint_near b piece (top_of was) (top_of f) node node_is r on off

  -- the node with another tree on that side
  pub hung-made : (new : Top) → with_child b node new ≡ joint_at b piece new (top_of f)
  hung-made new = go b node_is
    where
      go : (b : Bool) → node ≡ joint_at b piece (top_of was) (top_of f) → with_child b node new ≡ joint_at b piece new (top_of f)
      go true is = ap (λ (x : Node). record x { left = new }) is
      go false is = ap (λ (x : Node). record x { right = new }) is

  pub hung-piece : (new : Top) → (with_child b node new).piece ≡ piece
  hung-piece new = ap (λ (x : Node). x.piece) (hung-made new) ∙ same b
    where
      same : (b : Bool) → (joint_at b piece new (top_of f)).piece ≡ piece
      same true = refl
      same false = refl

  pub hung-here : AreParts look tree key (top_of f) n f
  hung-here = record {
    near_is = h.tree_is;
    far_is = refl;
    near_stands = h.stands;
    far_stands = h.beside;
    here = is_there e;
    once = h.once;
    low = h.low;
  }

-- and once it is written
module _ {old new : Slab Node} {b : Bool} {key : ℕ} {tree : Top} {piece : Piece} {was n f : Shape}
    (h : CanHang (get old) b key tree piece was n f) {node : Node} (e : get old key ≡ Some node)
    (u : Updates old new key (Some (with_child b node tree))) where
  made : with_child b node tree ≡ joint_at b piece tree (top_of f)
  made = hung-made h e tree

  pub hung-parts : (other : Top) → (not b ≡ true → other ≡ (with_child b node tree).left)
      → (not b ≡ false → other ≡ (with_child b node tree).right) → AreParts (get new) tree key other n f
  hung-parts other on off =
      let own = one-same key in
      record {
        near_is = h.tree_is;
        far_is = joint_near (not b) piece (top_of f) tree _ (made ∙ sym (joint-flip b piece tree (top_of f))) other on off;
        near_stands = beside_key n u h.stands (omega (arith, h.once key));
        far_stands = beside_key f u h.beside (omega (arith, h.once key));
        here = is_there u.changed;
        once = h.once;
        low = h.low;
      }

  -- by turns
  pub hung-joins : (then : Look) (top : Top) → Joins (get new) then b top key (with_child b node tree).piece n f
      → Joins (get old) then b top key piece n f
  hung-joins then top j =
      let same = hung-piece h e tree in
      let x : Joins (get new) then b top key piece n f = rw same at j in
      record {
        shape = x.shape;
        is = x.is;
        stands = x.stands;
        all = x.all;
        keys = x.keys;
        others = λ k z. x.others k z ∙ u.others k (no_key key k (omega arith));
        tall = x.tall;
        short = x.short;
        plain = x.plain;
      }

  -- as they are
  pub hung-links : AreNear n f → Links (get old) (get new) b (tree_at key (with_child b node tree)) key piece n f
  hung-links near = linked (hung-here h e) h.fine near made u

  pub hung-near : abs_diff (with_child b node tree).left.height (with_child b node tree).right.height ≤ 1 → AreNear n f
  hung-near d = go b (rw made at d)
    where
      high : tree.height ≡ height_of n
      high = ap (λ (v : Top). v.height) h.tree_is

      go : (b : Bool) → abs_diff (joint_at b piece tree (top_of f)).left.height (joint_at b piece tree (top_of f)).right.height ≤ 1
          → AreNear n f
      go true d = (grind (arith, high, d), grind (arith, high, d))
      go false d = (grind (arith, high, d), grind (arith, high, d))
