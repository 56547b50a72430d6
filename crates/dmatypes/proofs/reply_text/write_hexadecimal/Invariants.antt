use Rattle.std.proofs.Common.{◌≡◌, ◌≤◌, ◌++◌, false, length, drop}
use Rattle.std.specs.Fmt.{digits}
use Rattle.dmatypes.proofs.reply_text.write_hexadecimal.Given as goal

-- the digits of what is left, and those that are written, are all digits
abbrev pub invariant-loop-left : goal.invariant-loop-left
invariant-loop-left l =
    (length (digits 16 false l.left) ≤ l.at) × (l.at ≤ 16) × (length l.buffer ≡ 16)
    × (digits 16 false l.left ++ drop l.at l.buffer ≡ digits 16 false l.n)

abbrev pub decreases-loop-left : goal.decreases-loop-left
decreases-loop-left l = l.left
