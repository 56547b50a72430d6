use Rattle.std.proofs.Common.{◌≡◌, ◌<◌, ◌^◌, drop}
use Rattle.dmatypes.specs.Reading.{numeral_after}
use Rattle.dmatypes.proofs.fields.numeral.Given as goal

-- all digits say what those say that are left, behind the number that the others wrote
abbrev pub invariant-loop-c : goal.invariant-loop-c
invariant-loop-c l = (numeral_after l.radix 0 l.digits ≡ numeral_after l.radix l.number (drop l.c-index l.digits)) × (l.number < 2 ^ 64)
