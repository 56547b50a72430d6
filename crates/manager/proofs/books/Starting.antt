-- A book begins.
use Rattle.std.proofs.Common.{◌≤◌, Bool, ℕ, [], refl, arith, replicate}
use Rattle.ports.proofs.histories.EmptyWords.{empty_lawful}
use Rattle.engine.specs.State.{IsNew, State}
use Rattle.engine.proofs.states.New.{of_empty_world, whole_new}
use Rattle.manager.specs.Kept.{IsKept}

-- a book of a new state keeps what books keep
pub kept_new : (frames room : ℕ) (mode : Bool) (most : ℕ) (m : State) → room ≤ most → IsNew frames mode m
    → IsKept frames room mode most (record { history = []; state = m; last = replicate 256 0; handed = 0 })
kept_new frames room mode most m le new = record {
  legal = tt;
  quarantine = of_empty_world m frames mode new;
  whole = whole_new m frames mode new;
  goes = (m, (new, refl));
  begun = omega arith;
  within = omega arith;
  all_kept = λ _. refl;
  room_within = le;
  calls = new.calls_are;
  lawful = empty_lawful frames [];
}
