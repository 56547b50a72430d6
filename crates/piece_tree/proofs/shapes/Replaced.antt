-- A row put over pieces of a tree, of which one is at its root: what stays before it, and behind it.
use Rattle.piece_tree.proofs.Names.{◌≡◌, ℕ, ◌+◌, ◌<◌, ◌≤◌, true, false, List, [], ◌∷◌, ◌++◌, length, refl, arith}
use Rattle.piece_tree.proofs.Names.{AllByRecursion, Slab, get, Piece, Node, Opened, Top, CanKeep, CanReplace, Halved, IsTree, Makes, IsRow}
use Rattle.piece_tree.proofs.Names.{part_above, part_below, rest_above, rest_below, with_row, AreSorted, HasAny, IsPiece, Shape, items}
use Rattle.piece_tree.proofs.Names.{top_of, Opens}
use Rattle.piece_tree.proofs.shapes.Flanked.{Cleared}
use Rattle.piece_tree.proofs.shapes.Forks.{opened-by}
use Rattle.piece_tree.proofs.shapes.Halved.{far-tree, halved-far, halved-near, halved-open, near-tree, opened-long}
use Rattle.piece_tree.proofs.shapes.Laid.{above-all, above-mid, below-all, below-mid, row_pieces}
use Rattle.piece_tree.proofs.shapes.Rows.{row-ends, row-one}
use Rattle.piece_tree.proofs.shapes.Sorted.{ends_below, sorted_at, sorted_front}

module _ {nodes : Slab Node} {key first last : ℕ} {row : List Piece} {t : Shape} (can : CanReplace nodes key first row last t)
    {opened : Opened}
    (o : Opens true key opened t) where
  ordered : AreSorted can.from (items o.near ++ opened.piece ∷ items o.far)
  ordered = rw o.is at can.sorted

  at : (can.from ≤ opened.piece.first) × IsPiece opened.piece × AreSorted (opened.piece.last + 1) (items o.far)
  at = sorted_at can.from (items o.near) opened.piece (items o.far) ordered

  pub replace-piece : IsPiece opened.piece
  replace-piece = at.1

  tree : IsTree (get nodes) (top_of t) t
  tree = record { is = refl; stands = can.below.1; once = can.once; few = can.few }

  pub replace-any : HasAny opened.piece first last
  replace-any = can.root _ (opened-by (get nodes) can.below.1 o).here

  halved : Halved nodes nodes opened.near key opened.far t o.near o.far
  halved = halved-open tree o

  long : length (items t) ≡ length (items o.near) + 1 + length (items o.far)
  long = opened-long tree o

  pub replace-near : CanKeep (get nodes) true opened.near opened.piece first o.near
  replace-near = record {
    tree = near-tree halved (omega (arith, can.few, long));
    from = can.from;
    sorted = sorted_front can.from (items o.near) (opened.piece ∷ items o.far) ordered;
    all = λ h. below-all first (items o.near) (ends_below can.from first (items o.near) opened.piece (items o.far) ordered h);
  }

  module _ {mid : Slab Node} {near : Top} (m : Makes nodes mid near o.near (part_below first (items o.near))) where
    half : Halved nodes mid near key opened.far t m.shape o.far
    half = halved-near halved m

    pub replace-far : CanKeep (get mid) false opened.far opened.piece last o.far
    replace-far = record {
      tree = far-tree half (omega (arith, can.few, long));
      from = opened.piece.last + 1;
      sorted = at.2;
      all = λ h. above-all (opened.piece.last + 1) last (items o.far) at.2 (omega (arith, h));
    }

    pub replace-cleared : {next : Slab Node} {far : Top} (w : Makes mid next far o.far (part_above last (items o.far)))
        → Cleared nodes next near key far t (rest_below first opened.piece) row
        (rest_above last opened.piece) (with_row first row last (items t))
    replace-cleared {next} {far} w = record {
      n = m.shape;
      f = w.shape;
      halved = halved-far half w;
      view = rw (
        o.is,
        below-mid can.from first (items o.near) opened.piece (items o.far) ordered replace-any.1,
        above-mid can.from last (items o.near) opened.piece (items o.far) ordered replace-any.0,
        m.all,
        w.all,
      ) refl;
    }

-- ---- the row

row_some : (first end : ℕ) (row : List Piece) → IsRow first row end → first < end → 1 ≤ length row
row_some first end [] r h = absurd (omega (arith, r))
row_some first end (p ∷ ps) r h = omega arith

module _ {nodes : Slab Node} {key first last : ℕ} {row : List Piece} {t : Shape} (can : CanReplace nodes key first row last t) where
  pub replace-some : 1 ≤ length row
  replace-some = row_some first (last + 1) row can.is_row (omega (arith, can.some))

  pub replace-all : AllByRecursion IsPiece row
  replace-all = row_pieces first row (last + 1) can.is_row (omega (arith, can.narrow))

  -- the ends of the row are the pages' own
  pub replace-as : (row' : List Piece) (from end : ℕ) → row ≡ row' → from ≡ first → end ≡ last
      → CanReplace nodes key from row' end t × (with_row from row' end (items t) ≡ with_row first row last (items t))
  replace-as row' from end e f g = (rw (f, g, ← e) can, rw (f, g, ← e) refl)

  pub replace-one : {p : Piece} {rest : List Piece} → row ≡ p ∷ rest → length rest ≡ 0 → CanReplace nodes key p.first (p ∷ []) p.last t
      × (with_row p.first (p ∷ []) p.last (items t) ≡ with_row first row last (items t))
  replace-one {p} {rest} e none =
      let r = row-one first last row p rest e none can.is_row in
      replace-as (p ∷ []) p.first p.last r.2 r.0 r.1

  pub replace-ends : {p : Piece} {rest : List Piece} (others : List Piece) (q : Piece) → row ≡ p ∷ rest → rest ≡ others ++ q ∷ []
      → CanReplace nodes key p.first (p ∷ others ++ q ∷ []) q.last t
      × (with_row p.first (p ∷ others ++ q ∷ []) q.last (items t) ≡ with_row first row last (items t))
  replace-ends {p} {rest} others q e f =
      let r = row-ends first last row p rest others q e f can.is_row in
      replace-as (p ∷ others ++ q ∷ []) p.first q.last r.2 r.0 r.1
