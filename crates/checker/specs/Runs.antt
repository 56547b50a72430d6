-- Pages that are mapped run by run: each run stands at its first page. The pages of a run are mapped to frames that follow one another,
-- with the same rights.
use Rattle.std.specs.Prelude.{◌≡◌, ℕ, zero, suc, ◌+◌, ◌-◌, ◌^◌, ◌<◌, ◌≤◌, nat_lt, List, length, Option, Some, None, MatchOption, if◌then◌else◌}
use Rattle.std.specs.BTreeMap.Range.{entries_between}
use Rattle.std.specs.Option.{option_or}
use Rattle.std.specs.Ordering.{nat_cmp}
use Rattle.std.specs.declared.ops.Bound.TheVariants.{Excluded, Included}
use Rattle.dmatypes.specs.declared.page.TheConstants.{FRAMES_END}
use Rattle.dmatypes.specs.World.{Target, without}
use Rattle.checker.specs.declared.run.Run.{Run}

-- the run that begins at a page holds another page
abbrev pub Holds : ℕ → Run → ℕ → Type 0
Holds first r p = (first ≤ p) × (p < first + r.pages)

-- what it maps that page to
abbrev pub target_of : ℕ → Run → ℕ → Target
target_of first r p = record { frame = r.frame + (p - first); rights = r.rights }

-- the same, where it holds the page
abbrev pub by_run : ℕ → Option Run → ℕ → Option Target
by_run first None p = None
by_run first (Some r) p = if nat_lt p (first + r.pages) then Some (target_of first r p) else None

-- what the last of the runs that begin at a number or before, and hold the page, maps it to
unfoldable pub by_runs : (ℕ → Option Run) → ℕ → ℕ → Option Target
by_runs runs zero p = by_run 0 (runs 0) p
by_runs runs (suc n) p = option_or (by_run (suc n) (runs (suc n)) p) (by_runs runs n p)

-- each run has pages and host frames, and none has a page of another
pub record AreApart (runs : ℕ → Option Run) : Type 0 where
  pub some : (k : ℕ) (r : Run) → runs k ≡ Some r → 1 ≤ r.pages
  pub ends : (k : ℕ) (r : Run) → runs k ≡ Some r → k + r.pages < 2 ^ 64
  pub frames : (k : ℕ) (r : Run) → runs k ≡ Some r → r.frame + r.pages ≤ FRAMES_END
  pub apart : (k j : ℕ) (r s : Run) → runs k ≡ Some r → runs j ≡ Some s → k < j → k + r.pages ≤ j

-- no run has pages on both sides
abbrev pub IsCutAt : (ℕ → Option Run) → ℕ → Type 0
IsCutAt runs p = (k : ℕ) (r : Run) → runs k ≡ Some r → k < p → k + r.pages ≤ p

-- of the pages from the one on and before the other, the first that are mapped are those of a run
pub record HasFirst (now : ℕ → Option Target) (page end start : ℕ) (r : Run) : Type 0 where
  pub from : page ≤ start
  pub below : start < end
  pub some : 1 ≤ r.pages
  pub ends : start + r.pages < 2 ^ 64
  pub frames : r.frame + r.pages ≤ FRAMES_END
  pub gap : (q : ℕ) → page ≤ q → q < start → now q ≡ None
  pub here : (q : ℕ) → start ≤ q → q < start + r.pages → now q ≡ Some (target_of start r q)

-- that run leaves, where there is one
abbrev pub RunLeaves : (ℕ → Option Target) → (ℕ → Option Target) → ℕ → ℕ → Option (ℕ × Run) → Type 0
RunLeaves old new page end o =
    MatchOption o (((q : ℕ) → page ≤ q → q < end → old q ≡ None) × ((p : ℕ) → new p ≡ old p))
    (λ e. HasFirst old page end e.0 e.1 × ((p : ℕ) → new p ≡ without (record { first = e.0; pages = e.1.pages }) old p))

-- how many runs of a list begin from a page on and before another
abbrev pub begun_between : ℕ → ℕ → List (ℕ × Run) → ℕ
begun_between from end es = length (entries_between nat_cmp (Included from) (Excluded end) es)
