-- A line that says a call is no longer than one may be.
use Rattle.std.proofs.Common.{◌≡◌, ℕ, ◌≤◌, Bool, true, false, cond, List, length, Some, None, refl, arith}
use Rattle.std.specs.Prelude.{nat_le}
use Rattle.dmatypes.specs.declared.call.Call.{Call}
use Rattle.dmatypes.specs.declared.limits.TheConstants.{LONGEST_LINE}
use Rattle.dmatypes.specs.Grammar.{says, fields, call_of}

pub says_short : (line : List ℕ) (call : Call) → says line ≡ Some call → length line ≤ LONGEST_LINE
unfolding says
says_short line call e = short (nat_le (length line) LONGEST_LINE) refl e where
  short : (b : Bool) → nat_le (length line) LONGEST_LINE ≡ b → cond b (call_of (fields line)) None ≡ Some call → length line ≤ LONGEST_LINE
  short true h s = grind arith
  short false h s = absurd cc
