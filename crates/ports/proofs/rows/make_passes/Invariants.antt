use Rattle.std.proofs.Common.{◌≡◌, ◌+◌, vec_len}
use Rattle.ports.specs.Seen.{ArePasses, rows_of}
use Rattle.ports.specs.Rule.{made_desk}
use Rattle.dmatypes.specs.declared.limits.TheConstants.{DEVICES}
use Rattle.ports.proofs.rows.make_passes.Given as goal

abbrev pub invariant-loop-number : goal.invariant-loop-number
invariant-loop-number l =
    (l.desk.table_id ≡ l.initial.desk.table_id) × (l.desk.me.0 ≡ made_desk l.words.shared.key.frames (DEVICES + l.number))
    × (vec_len l.made ≡ l.number)
    × ArePasses (rows_of l.words.shared.table_id l.words.shared.key.frames) l.made.items l.number
