-- Runs in a list, in the order of their pages.
use Rattle.std.specs.Prelude.{ℕ, ◌+◌, ◌≤◌, nat_le, Bool, true, ◌&&◌, List, [], ◌∷◌, Option, Some, None, if◌then◌else◌}
use Rattle.dmatypes.specs.declared.page.TheConstants.{FRAMES_END}
use Rattle.dmatypes.specs.World.{Target, is_within}
use Rattle.checker.specs.declared.run.Run.{Run}
use Rattle.checker.specs.Runs.{target_of}

-- the run has pages and host frames
abbrev pub IsSoundRun : Run → Type 0
IsSoundRun r = (1 ≤ r.pages) × (r.frame + r.pages ≤ FRAMES_END)

-- each run begins where the one before ended or behind, the first at a page or behind
unfoldable pub is_rising : ℕ → List (ℕ × Run) → Bool
is_rising from [] = true
is_rising from (e ∷ es) =
    nat_le from e.0 && (nat_le 1 e.1.pages && (nat_le (e.1.frame + e.1.pages) FRAMES_END && is_rising (e.0 + e.1.pages) es))

-- what the first run that holds a page maps it to
unfoldable pub at_runs : List (ℕ × Run) → ℕ → Option Target
at_runs [] p = None
at_runs (e ∷ es) p = if is_within (record { first = e.0; pages = e.1.pages }) p then Some (target_of e.0 e.1 p) else at_runs es p

-- where the last run ends, or a page where there is none
unfoldable pub runs_end : ℕ → List (ℕ × Run) → ℕ
runs_end from [] = from
runs_end from (e ∷ es) = runs_end (e.0 + e.1.pages) es
