-- The whole tree, once it became one of other pieces.
use Rattle.piece_tree.proofs.Names.{◌≡◌, List, length, ap, ◌∙◌, arith, Slab, get, Piece, Node, Top}
use Rattle.piece_tree.proofs.Names.{IsTree, Makes, AreSorted, Shape, IsWhole, pieces_of, top_of}
use Rattle.piece_tree.proofs.shapes.Tall.{low_tree, whole_view}

pub whole_tree : {nodes : Slab Node} {root top : Top} {t : Shape} → IsWhole nodes root t → top ≡ top_of t → IsTree (get nodes) top t
whole_tree w e = record { is = e; stands = w.stands; once = w.once; few = w.few }

module _ {old new : Slab Node} {root top : Top} {t : Shape} {pieces : List Piece} (w : IsWhole old root t)
    (m : Makes old new top t pieces) (s : AreSorted 0 pieces) where
  pub made-whole : IsWhole new top m.shape
  made-whole = record {
    here = m.tree.is;
    stands = m.tree.stands;
    once = m.tree.once;
    low = low_tree (get new) m.shape m.tree.stands m.tree.few;
    sorted = rw m.all s;
    count = omega (arith, m.len, w.count, ap length m.all);
    few = m.tree.few;
    room = rw m.capacity w.room;
    keys = rw m.capacity w.keys;
  }

  pub made-view : pieces_of new top ≡ pieces
  made-view = whole_view made-whole ∙ m.all
