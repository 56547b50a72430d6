-- What pages are mapped to. The last run that begins at a page or before, and holds it, says what the page is mapped to.
use Rattle.std.specs.Prelude.{◌≡◌, ℕ, Option, None, IsNone, IsSome}
use Rattle.std.specs.Ordering.{nat_cmp}
use Rattle.std.specs.BTreeMap as tree
use Rattle.dmatypes.specs.Page.{Range, IsWithin}
use Rattle.dmatypes.specs.World.{Target}
use Rattle.checker.specs.declared.pages.Pages.{Pages}
use Rattle.checker.specs.declared.run.Run.{Run}
use Rattle.checker.specs.Runs.{begun_between, by_runs}

-- the runs by their first pages
abbrev pub runs_of : Pages → ℕ → Option Run
runs_of m = tree.get nat_cmp m.runs

-- how many of them begin from a page on and before another
abbrev pub runs_between : Pages → ℕ → ℕ → ℕ
runs_between m from end = begun_between from end m.runs.entries

-- what a page is mapped to
abbrev pub target_at : Pages → ℕ → Option Target
target_at m p = by_runs (runs_of m) p p

abbrev pub range : ℕ → ℕ → Range
range first pages = record { first = first; pages = pages }

-- a page of the range that is mapped
abbrev pub IsMappedIn : Pages → Range → ℕ → Type 0
IsMappedIn m r p = IsWithin r p × IsSome (target_at m p)

-- no page of the range is mapped
abbrev pub NoneIsMappedIn : Pages → Range → Type 0
NoneIsMappedIn m r = (p : ℕ) → IsWithin r p → target_at m p ≡ None

-- every page of the range is mapped
abbrev pub AllAreMappedIn : Pages → Range → Type 0
AllAreMappedIn m r = (p : ℕ) → IsWithin r p → IsSome (target_at m p)

-- a page of the range that isn't mapped
abbrev pub IsUnmappedIn : Pages → Range → ℕ → Type 0
IsUnmappedIn m r p = IsWithin r p × IsNone (target_at m p)
