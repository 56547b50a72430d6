use Rattle.std.proofs.Common.{inr}
use Rattle.vectors.proofs.layouts.gives_host.Goals as goal

pub host-requires : goal.host-requires
host-requires g c = inr (_, c.encode.ensures.spells)
