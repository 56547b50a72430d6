-- How a map finds its place in a domain, and what it makes of the domain and of the table frames. The floor of a domain of 39 bits is page
-- 1, that of one of 48 bits page 2^27.
use Rattle.std.specs.Prelude.{◌≡◌, ℕ, ◌+◌, ◌^◌, ◌<◌, List, [], Some, None, length}
use Rattle.dmatypes.specs.declared.call.Segment.{Segment}
use Rattle.dmatypes.specs.declared.refusal.Refusal.{Refusal}
use Rattle.dmatypes.specs.declared.refusal.Refusal.TheVariants as refusals
use Rattle.dmatypes.specs.Conditions.{total_pages}
use Rattle.dmatypes.specs.World.{placed}
use Rattle.dmatypes.specs.Page.{Range, levels, pages_end}
use Rattle.dmatypes.specs.declared.width.Width.{Width}
use Rattle.dmatypes.specs.declared.width.Width.TheVariants.{W39, W48}
use Rattle.iova.specs.Changes.{Takes}
use Rattle.piece_tree.specs.declared.piece.PageState.TheVariants.{Free}
use Rattle.iova.specs.Pieces.{state_at}
use Rattle.iova.specs.Space.{IsFit, IsLowestFrom, IsSpace, IsTooMany}
use Rattle.tables.specs.Changes.{KeepsSpellings, MakesTables, MapsPages, TakesAndGivesFrames}
use Rattle.tables.specs.Lacks.{frames_to_map}
use Rattle.tables.specs.Pool.{Pool, memory, IsPool, IsTree}
use Rattle.tables.specs.Segments.{is_large_at}
use Rattle.tables.specs.Spelled.{AreSpelled}
use Rattle.tables.specs.Trail.{FillsInOrder}
use Rattle.tables.specs.Tree.{states}
use Rattle.engine.specs.Domains.{Domain}

-- ---- the start

-- the page at or above which a domain of this width is served first: a wide one has the pages that no narrow one has (own)
abbrev pub floor_of : Width → ℕ
floor_of W39 = 1
floor_of W48 = pages_end W39

-- the domain serves so many pages at this start: of the aligned ones where they are free the lowest at or above its floor, and
-- where there is none the lowest of all
abbrev pub ServesAt : Domain → ℕ → ℕ → ℕ → Type 0
ServesAt domain pages order start = IsLowestFrom (floor_of domain.width) domain.space.pieces pages (2 ^ order) start

-- it serves them there, where the range doesn't cut a piece or there are no more than 1,022
pub record IsTaken (domain : Domain) (pages order start : ℕ) : Type 0 where
  pub lowest : ServesAt domain pages order start
  pub room : IsTooMany domain.space.pieces (record { first = start; pages = pages }) → ⊥

-- where it serves them the range cuts a piece, and there are more than 1,022
abbrev pub IsCrowded : Domain → ℕ → ℕ → Type 0
IsCrowded domain pages order =
    (start : ℕ) × ServesAt domain pages order start × IsTooMany domain.space.pieces (record { first = start; pages = pages })

-- ---- the table frames

-- how many a map of the segments at a start takes
abbrev pub frames_taken : Pool → Width → ℕ → List Segment → ℕ → ℕ
frames_taken pool width root segments start = frames_to_map pool (levels width) root segments start

-- where the domain serves them the tables that are lacking are more than the free frames
abbrev pub IsShort : Pool → Domain → List Segment → ℕ → Type 0
IsShort pool domain segments order =
    (start : ℕ) × IsTaken domain (total_pages segments) order start
    × (length pool.free < frames_taken pool domain.width domain.root segments start)

-- ---- the domain

-- its tree is one of the pool, and maps no page that is free
pub record CanPlace (pool : Pool) (domain : Domain) : Type 0 where
  pub tree : IsTree pool (levels domain.width) domain.root
  pub absent : (p : ℕ) → state_at domain.space.pieces p ≡ Some Free → states (memory pool.words) (levels domain.width) domain.root p ≡ None

-- segments from a first page on, at a multiple of 2^`order` pages, with these rights
pub record Placement : Type 0 where
  pub segments : List Segment
  pub order : ℕ
  pub rights : ℕ
  pub first : ℕ

-- its pages
abbrev pub range_of : Placement → Range
range_of at = record { first = at.first; pages = total_pages at.segments }

-- the pages of the segments are live where the domain serves them, and the domain's tree maps them, one segment after the other. The
-- table frames that it took were free, and its words spell entries still. Nothing else of the domain changes
pub record Places (pool : Pool) (old : Domain) (at : Placement) (pool' : Pool) (new : Domain) : Type 0 where
  pub taken : IsTaken old (total_pages at.segments) at.order at.first
  pub takes : Takes old.space new.space (range_of at)
  pub is_space : IsSpace new.space
  pub count : length pool'.free + frames_taken pool old.width old.root at.segments at.first ≡ length pool.free
  pub moves : TakesAndGivesFrames pool pool' (levels old.width) old.root []
  pub spelled : KeepsSpellings pool pool' (levels old.width) old.root
  pub maps : MapsPages pool pool' (levels old.width) old.root at.first (at.first + total_pages at.segments)
      (placed at.segments at.first at.rights)
  pub order : AreSpelled pool.words (levels old.width) old.root → FillsInOrder pool pool'
  pub makes : MakesTables pool pool' (levels old.width) old.root at.first (at.first + total_pages at.segments)
      (is_large_at at.segments at.first)
  pub is_pool : IsPool pool'
  pub same : new ≡ record old { space = new.space }

-- what a map of segments is refused for: no start, else a start where the range cuts a piece and there are more than
-- 1,022, else more tables to make than frames are free
abbrev pub IsUnplaced : Pool → Domain → List Segment → ℕ → Refusal → Type 0
IsUnplaced pool domain segments order refusals.NoRange =
    (start : ℕ) → IsFit domain.space.pieces (total_pages segments) (2 ^ order) start → ⊥
IsUnplaced pool domain segments order refusals.TooManyPieces = IsCrowded domain (total_pages segments) order
IsUnplaced pool domain segments order refusals.NoFrames = IsShort pool domain segments order
IsUnplaced pool domain segments order _ = ⊥
