use Rattle.vtdm_c.proofs.Hosts.{aligned, judged_alike, nothing_moves, reached, tables_begin}
use Rattle.vtdm_c.proofs.laws.frames_by_numbers.Goals as goal

pub returns : goal.returns
returns c = record { judged = judged_alike; reached = reached; aligned = aligned; tables = tables_begin; same = nothing_moves }
