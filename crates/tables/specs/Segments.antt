-- Segments of host frames, mapped one after the other from a first page on.
use Rattle.std.specs.Prelude.{◌≡◌, ℕ, ◌+◌, ◌-◌, ◌%◌, ◌≤◌, length, drop, Bool, false, ◌&&◌, ◌==◌, nat_le, if◌then◌else◌, Option, Some}
use Rattle.std.specs.Prelude.{None, List, [], ◌∷◌}
use Rattle.dmatypes.specs.declared.page.TheConstants.{FRAMES_END, SPAN_PAGES}
use Rattle.dmatypes.specs.declared.call.Segment.{Segment}
use Rattle.dmatypes.specs.Conditions.{total_pages}
use Rattle.dmatypes.specs.World.{is_within}
use Rattle.tables.specs.declared.segments.Passed.{Passed}

-- what is left of a page's segment from that page on
unfoldable pub rest_at : List Segment → ℕ → ℕ → Option Segment
rest_at [] first p = None
rest_at (s ∷ ss) first p =
    if is_within (record { first = first; pages = s.pages }) p
    then Some (record { frame = s.frame + (p - first); pages = first + s.pages - p })
    else rest_at ss (first + s.pages) p

-- 512 pages of frames from a multiple of 512 on
abbrev pub fills_large : Option Segment → Bool
fills_large None = false
fills_large (Some s) = (s.frame % SPAN_PAGES == 0) && nat_le SPAN_PAGES s.pages

-- a leaf of 512 pages begins at the page, where no table is there
abbrev pub is_large_at : List Segment → ℕ → ℕ → Bool
is_large_at segments first p = (p % SPAN_PAGES == 0) && fills_large (rest_at segments first p)

-- each has a page, and its frames are host frames
abbrev pub AreSegments : List Segment → Type 0
AreSegments [] = Unit {0}
AreSegments (s ∷ ss) = (1 ≤ s.pages) × (s.frame + s.pages ≤ FRAMES_END) × AreSegments ss

-- a number of frames from one on
abbrev pub one_segment : ℕ → ℕ → List Segment
one_segment frame pages = record { frame = frame; pages = pages } ∷ []

-- so many segments lie before a page, and the others follow one another from there on
pub record ArePassed (segments : List Segment) (first page : ℕ) (passed : Passed) : Type 0 where
  pub few : passed.count ≤ length segments
  pub before : passed.start ≤ page
  pub rest : (p : ℕ) → page ≤ p → rest_at segments first p ≡ rest_at (drop passed.count segments) passed.start p
  pub left : AreSegments (drop passed.count segments)
  pub end : passed.start + total_pages (drop passed.count segments) ≡ first + total_pages segments
