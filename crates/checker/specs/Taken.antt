-- What the pages of a record were mapped to. A record keeps them as runs in the order of their pages (`is_rising`), and the first run that
-- holds a page says what it was mapped to.
use Rattle.std.specs.Prelude.{ℕ, ◌-◌, length, vec_capacity, Option}
use Rattle.dmatypes.specs.World.{Target}
use Rattle.checker.specs.declared.taken.Taken.{Taken}
use Rattle.checker.specs.Rising.{at_runs, runs_end}

-- what a page was mapped to
abbrev pub taken_at : Taken → ℕ → Option Target
taken_at t p = at_runs t.runs.items p

-- where the last of them ends
abbrev pub taken_end : Taken → ℕ
taken_end t = runs_end 0 t.runs.items

-- how many runs more there is room for
abbrev pub taken_room : Taken → ℕ
taken_room t = vec_capacity t.runs - length t.runs.items
