-- Two trees with a key between them, where pieces are to come: each tree takes what they leave of the piece at its end.
use Rattle.piece_tree.proofs.Names.{◌≡◌, ℕ, ◌+◌, ◌<◌, ◌≤◌, true, false, List, [], ◌∷◌, ◌++◌, length, Option, Some, ap, ◌∙◌, arith}
use Rattle.piece_tree.proofs.Names.{append_assoc, length-append, Slab, get, slab_len, Piece, MOST_PIECES, Node, Top, Adds, Flanked, Halved}
use Rattle.piece_tree.proofs.Names.{IsTree, Makes, Parted, some_of, Shape, Empty, items, AreParts, Joins, KeepsCount}
use Rattle.piece_tree.proofs.shapes.Halved.{near-tree, far-tree, halved-near, halved-far, middle-join, middle-parts, parted-key}

-- all pieces are those of the trees, those that are left at their ends, and between these the ones that are to come
pub record Cleared (old new : Slab Node) (near : Top) (key : ℕ) (far : Top) (t : Shape) (below between above all : List Piece)
    : Type 0 where
  pub n : Shape
  pub f : Shape
  pub halved : Halved old new near key far t n f
  pub view : all ≡ (items n ++ below) ++ (between ++ (above ++ items f))

module _ {old mid : Slab Node} {near far : Top} {key : ℕ} {t : Shape} {xs between ys all : List Piece}
    (w : Cleared old mid near key far t xs between ys all) (few : length all ≤ MOST_PIECES) (some : 1 ≤ length between) where
  long : length all ≡ length (items w.n) + length xs + length between + length ys + length (items w.f)
  long = ap length w.view ∙ omega (arith, length-append {A = Piece})

  pub flank-near : IsTree (get mid) near w.n × (length (items w.n) < MOST_PIECES)
  flank-near = (near-tree w.halved (omega (arith, long)), omega (arith, long))

  pub flank-near_room : slab_len old + length all ≤ old.capacity + length (items t) → (below : Option Piece) → some_of below ≡ xs
      → slab_len mid + length (some_of below) ≤ mid.capacity
  flank-near_room room below is = omega (arith, long, w.halved.len, w.halved.capacity, ap length is)

  module _ {next : Slab Node} {top : Top} {below : Option Piece} (is : some_of below ≡ xs)
      (adds : (u : Shape) → IsTree (get mid) near u → Adds mid next true top u below) where
    abbrev a : Adds mid next true top w.n below
    a = adds w.n flank-near.0

    half : Halved old next top key far t a.makes.shape w.f
    half = halved-near w.halved a.makes

    pub flank-far : IsTree (get next) far w.f × (length (items w.f) < MOST_PIECES)
    flank-far = (far-tree half (omega (arith, long)), omega (arith, long))

    pub flank-far_room : slab_len old + length all ≤ old.capacity + length (items t) → (above : Option Piece) → some_of above ≡ ys
        → slab_len next + length (some_of above) ≤ next.capacity
    flank-far_room room above same =
        omega (arith, long, half.len, half.capacity, ap length is, ap length same, ap length a.makes.all, length-append {A = Piece})

    pub flanked : {new : Slab Node} {end : Top} {above : Option Piece} → some_of above ≡ ys
        → ((u : Shape) → IsTree (get next) far u → Adds next new false end u above) → Flanked old new top key end t between all
    flanked same also =
        let b = also w.f flank-far.0 in
        record {
          n = a.makes.shape;
          f = b.makes.shape;
          halved = halved-far half b.makes;
          view = cc (w.view, is, a.makes.all, same, b.makes.all);
        }

-- ---- a row

row-long : {old new : Slab Node} {near far : Top} {key : ℕ} {t : Shape} {first : Piece} {all : List Piece} (others : List Piece)
    (last : Piece) (w : Flanked old new near key far t (first ∷ others ++ last ∷ []) all)
    → length all ≡ length (items w.n) + length others + 2 + length (items w.f)
row-long {first = first} others last w = omega (
  arith,
  ap length w.view,
  length-append (items w.n) ((first ∷ others ++ last ∷ []) ++ items w.f),
  length-append (others ++ last ∷ []) (items w.f),
  length-append others (last ∷ []),
)

-- there is room for those between its first and its last piece, and for the last one
pub row-room : {old new : Slab Node} {near far : Top} {key : ℕ} {t : Shape} {first : Piece} {all : List Piece} (others : List Piece)
    (last : Piece) → Flanked old new near key far t (first ∷ others ++ last ∷ []) all → length all ≤ MOST_PIECES
    → slab_len old + length all ≤ old.capacity + length (items t)
    → (length others ≤ MOST_PIECES) × (slab_len new + length others + 1 ≤ new.capacity)
row-room others last w few room =
    let long = row-long others last w in (omega (arith, few), omega (arith, room, w.halved.len, w.halved.capacity))

-- the first piece of a row goes under the key, with a tree of those between on its side, and the last one under a new key
module _ {old mid next joined : Slab Node} {near far middle top : Top} {key : ℕ} {t : Shape} {first : Piece} {others all : List Piece}
    (last : Piece) (w : Flanked old mid near key far t (first ∷ others ++ last ∷ []) all) (few : length all ≤ MOST_PIECES)
    (m : Makes mid next middle Empty others)
    (joins : (n f : Shape) → AreParts (get next) near key middle n f → Joins (get next) (get joined) true top key first n f)
    (count : KeepsCount next joined) where
  abbrev j : Joins (get next) (get joined) true top key first w.n m.shape
  j = joins w.n m.shape (middle-parts w.halved m)

  parted : Parted old joined top far t j.shape w.f
  parted = middle-join w.halved m j count (omega (arith, few, row-long others last w, length-append {A = Piece}))
      (omega (arith, few, row-long others last w))

  regroup : (xs ys : List Piece) → xs ++ ((first ∷ others ++ last ∷ []) ++ ys) ≡ (xs ++ first ∷ others) ++ last ∷ ys
  regroup xs ys = simp append_assoc

  pub row-flanked : {new : Slab Node} {at : Top} {end : ℕ} → Makes joined new at Empty (last ∷ []) → at.root ≡ Some end
      → Flanked old new top end far t (last ∷ []) all
  row-flanked l e = record {
    n = j.shape;
    f = w.f;
    halved = parted-key parted l e;
    view = cc (w.view, regroup (items w.n) (items w.f), m.all, j.all);
  }
