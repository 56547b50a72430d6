-- How a map is judged before its domain is looked at.
use Rattle.std.specs.Prelude.{◌≡◌, ◌≢◌, ℕ, ◌<◌, ◌≤◌, List, [], Result, Ok, Err}
use Rattle.dmatypes.specs.declared.page.TheConstants.{MOST_PAGES}
use Rattle.dmatypes.specs.declared.call.Segment.{Segment}
use Rattle.dmatypes.specs.declared.refusal.Refusal.{Refusal}
use Rattle.dmatypes.specs.declared.refusal.Refusal.TheVariants as refusals
use Rattle.dmatypes.specs.Conditions.{IsBadMap, SomeHas, total_pages}
use Rattle.dmatypes.specs.Rights.{bits_of}
use Rattle.tables.specs.Segments.{AreSegments}
use Rattle.engine.specs.declared.wanted.Wanted.{Wanted}

-- a segment begins at a table frame, a number below `frames`
abbrev pub AreOwned : ℕ → List Segment → Type 0
AreOwned frames segments = SomeHas (λ s. s.frame < frames) segments

-- segments that a map can ask for, but for its order and rights
pub record AreMappable (segments : List Segment) : Type 0 where
  pub some : segments ≢ []
  pub each : AreSegments segments
  pub few : total_pages segments ≤ MOST_PAGES

-- this is wanted
pub record Wants (w : Wanted) (segments : List Segment) (order rights : ℕ) : Type 0 where
  pub pages_are : w.pages ≡ total_pages segments
  pub order_is : w.order ≡ order
  pub rights_are : bits_of w.rights ≡ rights
  pub mappable : AreMappable segments

abbrev pub IsJudged : ℕ → List Segment → ℕ → ℕ → Result Wanted Refusal → Type 0
IsJudged frames segments order rights (Err refusals.BadRange) = IsBadMap segments order rights
IsJudged frames segments order rights (Err refusals.FrameOwned) = (IsBadMap segments order rights → ⊥) × AreOwned frames segments
IsJudged frames segments order rights (Err _) = ⊥
IsJudged frames segments order rights (Ok w) =
    (IsBadMap segments order rights → ⊥) × (AreOwned frames segments → ⊥) × Wants w segments order rights
