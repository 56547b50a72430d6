-- Ways down a tree: what lies above a place in it. A way is the steps from the root down, and `Above` is what lies beside them.
use Rattle.std.specs.Prelude.{ℕ, ◌≡◌, ◌+◌, ◌*◌, ◌<◌, ◌≤◌, Bool, true, false, List, [], ◌∷◌, ◌++◌, length, Option, Some, IfSome, slice_index_or}
use Rattle.std.specs.List.{AllByRecursion}
use Rattle.slab.specs.Slab.{Slab, get}
use Rattle.piece_tree.specs.declared.edits.Laid.{Laid}
use Rattle.piece_tree.specs.declared.piece.Piece.{Piece}
use Rattle.piece_tree.specs.declared.piece.TheConstants.{MOST_PIECES, NUMBERS_END}
use Rattle.piece_tree.specs.declared.node.Node.{Node}
use Rattle.piece_tree.specs.Top.{Top}
use Rattle.piece_tree.specs.declared.way.Held.{Held}
use Rattle.piece_tree.specs.declared.way.Step.{Step}
use Rattle.piece_tree.specs.declared.way.TheConstants.{MOST_HEIGHT}
use Rattle.piece_tree.specs.Laid.{IsRow, with_row}
use Rattle.piece_tree.specs.Pieces.{HasAny, IsPiece}
use Rattle.piece_tree.specs.Tree.{Look, Shape, Fork, items, height_of, longest_of, root_of, top_of, one, uses, fork, joint_at}
use Rattle.piece_tree.specs.Tree.{AreNear, Stands}
use Rattle.piece_tree.specs.Tree.{IsWhole}

-- nothing, or a key above a place, which lies before it or behind it, with its piece and the tree on its other side
pub data Above : Type 0 where
  Whole : Above
  Beside : (before : Bool) (key : ℕ) (piece : Piece) (other : Shape) (up : Above) → Above

-- the whole tree, with this one at the place
abbrev pub plug : Above → Shape → Shape
plug Whole t = t
plug (Beside before key piece other up) t = plug up (fork before key piece t other)

-- all pieces, with these at the place
abbrev pub among : Above → List Piece → List Piece
among Whole ps = ps
among (Beside true key piece other up) ps = among up (ps ++ piece ∷ items other)
among (Beside false key piece other up) ps = among up (items other ++ piece ∷ ps)

-- the pieces before the place, and those behind it
abbrev pub front : Above → List Piece
front Whole = []
front (Beside true key piece other up) = front up
front (Beside false key piece other up) = front up ++ (items other ++ piece ∷ [])

abbrev pub back : Above → List Piece
back Whole = []
back (Beside true key piece other up) = piece ∷ items other ++ back up
back (Beside false key piece other up) = back up

-- how often a key is used beside the place
abbrev pub uses_above : Above → ℕ → ℕ
uses_above Whole k = 0
uses_above (Beside before key piece other up) k = one key k + uses other k + uses_above up k

-- each key beside the place has its node, with this tree at the place
abbrev pub AreAbove : Look → Above → Shape → Type 0
AreAbove look Whole t = Unit {0}
AreAbove look (Beside before key piece other up) t =
    (look key ≡ Some (joint_at before piece (top_of t) (top_of other))) × IsPiece piece × AreNear t other × Stands look other
    × AreAbove look up (fork before key piece t other)

-- the step that was taken so far down
abbrev pub step_at : List Step → ℕ → Step
step_at way d = slice_index_or way d (record { key = 0; before = false })

-- these are the steps to the place, from the root down
abbrev pub AreSteps : List Step → ℕ → Above → Type 0
AreSteps way depth Whole = depth ≡ 0
AreSteps way depth (Beside before key piece other up) =
    (d : ℕ) × (depth ≡ d + 1) × (step_at way d ≡ record { key = key; before = before }) × AreSteps way d up

-- a way on from the end of another one
abbrev pub within : (inner up : Above) → Above
within Whole up = up
within (Beside before key piece other inner) up = Beside before key piece other (within inner up)

-- each step of the way goes on behind its key
abbrev pub GoesBehind : Above → Type 0
GoesBehind Whole = Unit {0}
GoesBehind (Beside true key piece other up) = ⊥
GoesBehind (Beside false key piece other up) = GoesBehind up

-- the last step of the way that goes on before its key: so many steps lead to that key
pub record IsStepAbove (way : List Step) (depth : ℕ) (path : Above) : Type 0 where
  pub inner : Above
  pub key : ℕ
  pub piece : Piece
  pub other : Shape
  pub up : Above
  pub is : path ≡ within inner (Beside true key piece other up)
  pub on : GoesBehind inner
  pub step : step_at way depth ≡ record { key = key; before = true }
  pub steps : AreSteps way depth up

-- ---- up

-- at the end of the way lies another tree than what the keys above it show. None of them is so high that the whole gets too high
pub record CanMend (look : Look) (way : List Step) (depth : ℕ) (root : Top) (top : Top) (path : Above) (t new : Shape) : Type 0 where
  pub steps : AreSteps way depth path
  pub above : AreAbove look path t
  pub here : root ≡ top_of (plug path t)
  pub is : top ≡ top_of new
  pub stands : Stands look new
  pub once : (k : ℕ) → uses_above path k + uses new k ≤ 1
  pub low : height_of (plug path t) ≤ MOST_HEIGHT
  pub fair : height_of new + depth ≤ 2 * MOST_HEIGHT

-- and it has the root and the height of the one that was there, and so much is longest
pub record CanLift (look : Look) (way : List Step) (depth : ℕ) (root : Top) (longest : ℕ) (path : Above) (t new : Shape) : Type 0 where
  pub can : CanMend look way depth root (top_of new) path t new
  pub same_root : root_of new ≡ root_of t
  pub same_height : height_of new ≡ height_of t
  pub is : longest ≡ longest_of new

-- the tree below the root is the whole one with the other tree's pieces at the place
pub record Mends (old new : Look) (root : Top) (path : Above) (t end : Shape) : Type 0 where
  pub shape : Shape
  pub here : root ≡ top_of shape
  pub stands : Stands new shape
  pub all : items shape ≡ among path (items end)
  pub keys : (k : ℕ) → uses shape k ≡ uses_above path k + uses end k
  pub others : (k : ℕ) → uses_above path k + uses end k ≡ 0 → new k ≡ old k
  pub plain : height_of end ≡ height_of t → shape ≡ plug path end

-- ---- down

-- at this place of the tree lie pages from a first to a last one: what comes before it ends below them, and what comes behind begins above
pub record Lies (first last : ℕ) (at : Option ℕ) (t : Shape) : Type 0 where
  pub path : Above
  pub there : Shape
  pub is : t ≡ plug path there
  pub root : at ≡ root_of there
  pub before : AllByRecursion (λ q. q.last < first) (front path)
  pub behind : AllByRecursion (λ q. last < q.first) (back path)

-- and the way leads there, to the highest piece that has some of these pages
pub record Reaches (nodes : Slab Node) (way : List Step) (first last : ℕ) (held : Held) (t : Shape) : Type 0 where
  pub lies : Lies first last (Some held.key) t
  pub steps : AreSteps way held.depth lies.path
  pub node : Node
  pub there : get nodes held.key ≡ Some node
  pub has : HasAny node.piece first last

-- the way leads to a key of the tree below the root, which has a piece between two trees
pub record IsHeld (nodes : Slab Node) (root : Top) (way : List Step) (held : Held) (path : Above) (p : Piece) (l r : Shape)
    : Type 0 where
  pub whole : IsWhole nodes root (plug path (Fork held.key p l r))
  pub steps : AreSteps way held.depth path

-- the way leads to the key at hand, if there is one
pub record IsHand (way : List Step) (held : Held) (t : Shape) : Type 0 where
  pub path : Above
  pub piece : Piece
  pub left : Shape
  pub right : Shape
  pub is : t ≡ plug path (Fork held.key piece left right)
  pub steps : AreSteps way held.depth path

abbrev pub IsAtHand : List Step → Option Held → Shape → Type 0
IsAtHand way hand t = IfSome hand (λ held. IsHand way held t)

-- ---- a change at the end of a way

-- the tree below the root is the one with these pieces at the place, and there is as much room
pub record WholeBecomes (old new : Slab Node) (root : Top) (path : Above) (pieces : List Piece) : Type 0 where
  pub shape : Shape
  pub here : root ≡ top_of shape
  pub stands : Stands (get new) shape
  pub once : (k : ℕ) → uses shape k ≤ 1
  pub all : items shape ≡ among path pieces
  pub capacity : new.capacity ≡ old.capacity

-- a row can be laid over pages from a first to a last one: the way leads to the highest piece that has some of them
pub record CanLay (nodes : Slab Node) (root : Top) (way : List Step) (held : Held) (first : ℕ) (row : List Piece) (last : ℕ) (t : Shape)
    : Type 0 where
  pub whole : IsWhole nodes root t
  pub reaches : Reaches nodes way first last held t
  pub is_row : IsRow first row (last + 1)
  pub some : first ≤ last
  pub narrow : last < NUMBERS_END
  pub few : length (with_row first row last (items t)) ≤ MOST_PIECES

-- a whole tree of these pieces lies below the root, and what is at hand in it is
pub record LaysOver (new : Slab Node) (laid : Laid) (way : List Step) (pieces : List Piece) : Type 0 where
  pub shape : Shape
  pub whole : IsWhole new laid.root shape
  pub all : items shape ≡ pieces
  pub hand : IsAtHand way laid.hand shape
