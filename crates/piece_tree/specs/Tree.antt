-- Pieces in a balanced tree: nodes of a slab, named by their keys. The pieces before a node's own lie on its left, and those behind it on
-- its right. Each node has what is handed on of these two trees.
use Rattle.std.specs.Prelude.{ℕ, zero, suc, ◌≡◌, ◌≢◌, ◌+◌, ◌-◌, ◌≤◌, ◌==◌, max, Bool, true, false, if◌then◌else◌, List, [], ◌∷◌, ◌++◌}
use Rattle.std.specs.Prelude.{length, Option}
use Rattle.std.specs.Prelude.{Some, None, IsSome}
use Rattle.slab.specs.Slab.{Slab, get, slab_len}
use Rattle.piece_tree.specs.declared.piece.Piece.{Piece}
use Rattle.piece_tree.specs.declared.node.Node.{Node}
use Rattle.piece_tree.specs.declared.top.TheConstants.{KEYS_END}
use Rattle.piece_tree.specs.declared.way.TheConstants.{MOST_HEIGHT}
use Rattle.piece_tree.specs.declared.node.Opened.{Opened}
use Rattle.piece_tree.specs.Top.{Top}
use Rattle.piece_tree.specs.Pieces.{is_free, AreSorted, IsPiece}

-- what is under each key
abbrev pub Look : Type 0
Look = ℕ → Option Node

-- ---- a tree apart from memory

-- nothing, or a piece under a key, with what lies before it and behind it
pub data Shape : Type 0 where
  Empty : Shape
  Fork : (key : ℕ) (piece : Piece) (left right : Shape) → Shape

abbrev pub items : Shape → List Piece
items Empty = []
items (Fork key piece left right) = items left ++ piece ∷ items right

abbrev pub height_of : Shape → ℕ
height_of Empty = 0
height_of (Fork key piece left right) = 1 + max (height_of left) (height_of right)

-- how many pages of a piece are free
abbrev pub free_pages : Piece → ℕ
free_pages p = if is_free p.state then p.last + 1 - p.first else 0

-- the greatest length of a free piece
abbrev pub longest_of : Shape → ℕ
longest_of Empty = 0
longest_of (Fork key piece left right) = max (free_pages piece) (max (longest_of left) (longest_of right))

abbrev pub root_of : Shape → Option ℕ
root_of Empty = None
root_of (Fork key piece left right) = Some key

-- 1 for the key itself
abbrev pub one : ℕ → ℕ → ℕ
one key k = if k == key then 1 else 0

-- how often a tree uses a key
abbrev pub uses : Shape → ℕ → ℕ
uses Empty k = 0
uses (Fork key piece left right) k = one key k + uses left k + uses right k

-- heights differ by at most one
abbrev pub AreNear : Shape → Shape → Type 0
AreNear s t = (height_of s ≤ height_of t + 1) × (height_of t ≤ height_of s + 1)

-- a key with its piece, a tree on one side of it, before it or behind it, and a tree on the other side
abbrev pub fork : (before : Bool) → ℕ → Piece → Shape → Shape → Shape
fork true key piece near far = Fork key piece near far
fork false key piece near far = Fork key piece far near

-- ---- a tree in memory

-- what is handed on of a tree
abbrev pub top_of : Shape → Top
top_of t = record { root = root_of t; height = height_of t; longest = longest_of t }

-- the greatest length of a free piece in the tree that a node is the root of
abbrev pub longest_at : Node → ℕ
longest_at node = max (free_pages node.piece) (max node.left.longest node.right.longest)

-- that tree
abbrev pub tree_at : ℕ → Node → Top
tree_at key node = record {
  root = Some key;
  height = 1 + max node.left.height node.right.height;
  longest = longest_at node;
}

-- the node with another tree on a side
abbrev pub with_child : (before : Bool) → Node → Top → Node
with_child true node tree = record node { left = tree }
with_child false node tree = record node { right = tree }

-- the node of a piece between two trees
abbrev pub joint : Piece → Top → Top → Node
joint piece left right = record { piece = piece; left = left; right = right }

abbrev pub joint_at : (before : Bool) → Piece → Top → Top → Node
joint_at true piece near far = joint piece near far
joint_at false piece near far = joint piece far near

-- each key has its node, and the trees on its two sides are nearly as high
abbrev pub Stands : Look → Shape → Type 0
Stands look Empty = Unit {0}
Stands look (Fork key piece left right) = (look key ≡ Some (joint piece (top_of left) (top_of right))) × IsPiece piece
    × AreNear left right × Stands look left × Stands look right

abbrev pub IsBelow : Look → Option ℕ → Shape → Type 0
IsBelow look root t = (root ≡ root_of t) × Stands look t

abbrev pub IsTop : Look → Top → Shape → Type 0
IsTop look top t = (top ≡ top_of t) × Stands look t

-- what lies at a key, by a side
pub record Opens (before : Bool) (key : ℕ) (opened : Opened) (t : Shape) : Type 0 where
  pub near : Shape
  pub far : Shape
  pub is : t ≡ fork before key opened.piece near far
  pub near_is : opened.near ≡ top_of near
  pub far_is : opened.far ≡ top_of far

-- as many keys with a node, and as much room
pub record KeepsCount (old new : Slab Node) : Type 0 where
  pub len : slab_len new ≡ slab_len old
  pub capacity : new.capacity ≡ old.capacity

-- two trees and a key, with no key in two places
pub record AreParts (look : Look) (near : Top) (key : ℕ) (far : Top) (n f : Shape) : Type 0 where
  pub near_is : near ≡ top_of n
  pub far_is : far ≡ top_of f
  pub near_stands : Stands look n
  pub far_stands : Stands look f
  pub here : IsSome (look key)
  pub once : (k : ℕ) → one key k + uses n k + uses f k ≤ 1
  pub low : (height_of n ≤ 100) × (height_of f ≤ 100)

-- the key has the piece, with the two trees as its children, and no other key changed
pub record Links (old new : Look) (before : Bool) (top : Top) (key : ℕ) (piece : Piece) (n f : Shape) : Type 0 where
  pub is : top ≡ top_of (fork before key piece n f)
  pub stands : Stands new (fork before key piece n f)
  pub others : (k : ℕ) → k ≢ key → new k ≡ old k

-- one tree was made of two and a key with a piece, by turns where they aren't nearly as high. No other key changed
pub record Joins (old new : Look) (before : Bool) (top : Top) (key : ℕ) (piece : Piece) (n f : Shape) : Type 0 where
  pub shape : Shape
  pub is : top ≡ top_of shape
  pub stands : Stands new shape
  pub all : items shape ≡ items (fork before key piece n f)
  pub keys : (k : ℕ) → uses shape k ≡ one key k + uses n k + uses f k
  pub others : (k : ℕ) → one key k + uses n k + uses f k ≡ 0 → new k ≡ old k
  pub tall : (height_of n ≤ height_of shape) × (height_of f ≤ height_of shape)
  pub short : height_of shape ≤ 1 + max (height_of n) (height_of f)
  pub plain : AreNear n f → shape ≡ fork before key piece n f

-- a tree can come on a side of a key, in the place of another one
pub record CanHang (look : Look) (before : Bool) (key : ℕ) (tree : Top) (piece : Piece) (was n f : Shape) : Type 0 where
  pub here : look key ≡ Some (joint_at before piece (top_of was) (top_of f))
  pub fine : IsPiece piece
  pub near : AreNear was f
  pub tree_is : tree ≡ top_of n
  pub stands : Stands look n
  pub beside : Stands look f
  pub once : (k : ℕ) → one key k + uses n k + uses f k ≤ 1
  pub low : (height_of n ≤ 100) × (height_of f ≤ 100)

-- ---- the whole tree

-- what stands at a root
abbrev pub at_root : Look → Option ℕ → Option Node
at_root look None = None
at_root look (Some key) = look key

abbrev pub around : Option Node → (Option ℕ → List Piece) → List Piece
around None below = []
around (Some node) below = below node.left.root ++ node.piece ∷ below node.right.root

-- the pieces below a root, in order, so many nodes deep
unfoldable pub contents : Look → ℕ → Option ℕ → List Piece
contents look zero root = []
contents look (suc depth) root = around (at_root look root) (contents look depth)

-- all the pieces
abbrev pub pieces_of : Slab Node → Top → List Piece
pieces_of nodes root = contents (get nodes) MOST_HEIGHT root.root

-- a tree of pieces in order stands below the root, at most 14 high, with no key in two places. There is room for all pieces, and no more
-- than there are keys
pub record IsWhole (nodes : Slab Node) (root : Top) (t : Shape) : Type 0 where
  pub here : root ≡ top_of t
  pub stands : Stands (get nodes) t
  pub once : (k : ℕ) → uses t k ≤ 1
  pub low : height_of t ≤ 14
  pub sorted : AreSorted 0 (items t)
  pub count : slab_len nodes ≡ length (items t)
  pub few : length (items t) ≤ 1024
  pub room : 1024 ≤ nodes.capacity
  pub keys : nodes.capacity ≤ KEYS_END
