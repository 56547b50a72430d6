use Rattle.std.proofs.Common.{◌≡◌, vec_len}
use Rattle.ports.specs.Seen.{ArePorts, rows_of}
use Rattle.ports.specs.Rule.{made_desk}
use Rattle.ports.proofs.rows.make_ports.Given as goal

abbrev pub invariant-loop-device : goal.invariant-loop-device
invariant-loop-device l =
    (l.desk.table_id ≡ l.initial.desk.table_id) × (l.desk.me.0 ≡ made_desk l.words.shared.key.frames l.device)
    × (vec_len l.ports ≡ l.device)
    × ArePorts (rows_of l.words.shared.table_id l.words.shared.key.frames) l.ports.items l.device
