-- When a write has failed. A `Source` and a `Sink` (src/ends.rt) each say which bytes are left to read or were written, where that is
-- known, and always whether they have failed (`has_failed`). A source has failed where a read answers an error. No call follows one that
-- failed.
use Rattle.std.specs.Prelude.{ℕ, ◌==◌, Bool, true, Result, Ok, Err}

-- a write of at least one byte answered a failure, or took none
abbrev pub takes_none : {E : Type 0} → Result ℕ E → Bool
takes_none (Ok n) = n == 0
takes_none (Err e) = true
