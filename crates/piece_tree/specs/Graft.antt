-- Trees put together at a key, and pieces put over others of a tree.
use Rattle.std.specs.Prelude.{ℕ, ◌≡◌, ◌+◌, ◌*◌, ◌^◌, ◌<◌, ◌≤◌, Bool, true, false, List, [], ◌∷◌, ◌++◌, length, Option, Some, None, IsSome}
use Rattle.slab.specs.Slab.{Slab, get, slab_len}
use Rattle.piece_tree.specs.declared.piece.Piece.{Piece}
use Rattle.piece_tree.specs.declared.piece.TheConstants.{MOST_PIECES, NUMBERS_END}
use Rattle.piece_tree.specs.declared.node.Node.{Node}
use Rattle.piece_tree.specs.declared.top.TheConstants.{KEYS_END}
use Rattle.piece_tree.specs.Top.{Top}
use Rattle.piece_tree.specs.Laid.{IsRow, part_beside, with_row}
use Rattle.piece_tree.specs.Pieces.{AreSorted, HasAny}
use Rattle.piece_tree.specs.Tree.{Look, Shape, AreParts, IsBelow, Stands, items, height_of, one, uses, top_of}

-- a tree that is handed on, of so few pieces that it is low, with no key in two places
pub record IsTree (look : Look) (top : Top) (t : Shape) : Type 0 where
  pub is : top ≡ top_of t
  pub stands : Stands look t
  pub once : (k : ℕ) → uses t k ≤ 1
  pub few : length (items t) ≤ MOST_PIECES

-- the tree became one of these pieces. No key beside it changed or came into it
pub record Makes (old new : Slab Node) (top : Top) (t : Shape) (pieces : List Piece) : Type 0 where
  pub shape : Shape
  pub tree : IsTree (get new) top shape
  pub all : items shape ≡ pieces
  pub apart : (k : ℕ) → uses t k ≡ 0 → IsSome (get old k) → (get new k ≡ get old k) × (uses shape k ≡ 0)
  pub len : slab_len new + length (items t) ≡ slab_len old + length pieces
  pub capacity : new.capacity ≡ old.capacity

-- ---- a piece between two trees

-- what was made of a tree so far: two trees. No key beside it changed or came into them
pub record Parted (old new : Slab Node) (near far : Top) (t n f : Shape) : Type 0 where
  pub near_tree : IsTree (get new) near n
  pub far_tree : IsTree (get new) far f
  pub once : (k : ℕ) → uses n k + uses f k ≤ 1
  pub apart : (k : ℕ) → uses t k ≡ 0 → IsSome (get old k) → (get new k ≡ get old k) × (uses n k + uses f k ≡ 0)
  pub len : slab_len new + length (items t) ≡ slab_len old + (length (items n) + length (items f))
  pub capacity : new.capacity ≡ old.capacity

-- the height of the lowest tree of so many pieces
abbrev pub IsLeastHeight : (pieces height : ℕ) → Type 0
IsLeastHeight pieces height = (pieces < 2 ^ height) × (2 ^ height ≤ 2 * pieces + 1)

-- ---- a piece added at an end

-- a piece, if there is one
abbrev pub some_of : Option Piece → List Piece
some_of None = []
some_of (Some p) = p ∷ []

-- pieces on one side of a place, before it or behind it, and those on the other side
abbrev pub side_by_side : (before : Bool) → List Piece → List Piece → List Piece
side_by_side true near far = near ++ far
side_by_side false near far = far ++ near

-- the tree has the piece at one end, and is at most one higher for it
pub record Adds (old new : Slab Node) (before : Bool) (top : Top) (t : Shape) (piece : Option Piece) : Type 0 where
  pub makes : Makes old new top t (side_by_side before (items t) (some_of piece))
  pub tall : height_of t ≤ height_of makes.shape
  pub short : height_of makes.shape ≤ height_of t + 1

-- ---- pieces taken out

-- no key of the tree has a node any more, and no other key changed
pub record Removes (old new : Slab Node) (t : Shape) : Type 0 where
  pub others : (k : ℕ) → uses t k ≡ 0 → get new k ≡ get old k
  pub len : slab_len new + length (items t) ≡ slab_len old
  pub capacity : new.capacity ≡ old.capacity

-- ---- what stays on a side of a page

-- the page lies on one side of a piece, before it or behind it
abbrev pub LiesBeside : (before : Bool) → Piece → ℕ → Type 0
LiesBeside true p page = page < p.first
LiesBeside false p page = p.last < page

-- it doesn't
abbrev pub LiesOff : (before : Bool) → Piece → ℕ → Type 0
LiesOff true p page = p.first ≤ page
LiesOff false p page = page ≤ p.last

-- a tree on a side of a piece. If a page doesn't lie on that side of the piece, the tree lies on that side of the page
pub record CanKeep (look : Look) (before : Bool) (top : Top) (beside : Piece) (page : ℕ) (t : Shape) : Type 0 where
  pub tree : IsTree look top t
  pub from : ℕ
  pub sorted : AreSorted from (items t)
  pub all : LiesOff before beside page → part_beside before page (items t) ≡ items t

-- ---- pieces put over others

-- what was made of a tree so far: a key, and the trees on its two sides. No key beside it changed or came into them
pub record Halved (old new : Slab Node) (near : Top) (key : ℕ) (far : Top) (t n f : Shape) : Type 0 where
  pub parts : AreParts (get new) near key far n f
  pub apart : (k : ℕ) → uses t k ≡ 0 → IsSome (get old k) → (get new k ≡ get old k) × (one key k + uses n k + uses f k ≡ 0)
  pub len : slab_len new + length (items t) ≡ slab_len old + (length (items n) + 1 + length (items f))
  pub capacity : new.capacity ≡ old.capacity

-- and with these between the pieces of the two trees they are all
pub record Flanked (old new : Slab Node) (near : Top) (key : ℕ) (far : Top) (t : Shape) (between all : List Piece) : Type 0 where
  pub n : Shape
  pub f : Shape
  pub halved : Halved old new near key far t n f
  pub view : all ≡ items n ++ (between ++ items f)

-- a row can be put over pages from a first to a last one, of which the piece at the root has one
pub record CanReplace (nodes : Slab Node) (key : ℕ) (first : ℕ) (row : List Piece) (last : ℕ) (t : Shape) : Type 0 where
  pub below : IsBelow (get nodes) (Some key) t
  pub once : (k : ℕ) → uses t k ≤ 1
  pub few : length (items t) ≤ MOST_PIECES
  pub from : ℕ
  pub sorted : AreSorted from (items t)
  pub root : (node : Node) → get nodes key ≡ Some node → HasAny node.piece first last
  pub is_row : IsRow first row (last + 1)
  pub some : first ≤ last
  pub narrow : last < NUMBERS_END
  pub short : length (with_row first row last (items t)) ≤ MOST_PIECES
  pub room : slab_len nodes + length (with_row first row last (items t)) ≤ nodes.capacity + length (items t)
  pub keys : nodes.capacity ≤ KEYS_END
