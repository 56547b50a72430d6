use Rattle.quiet.proofs.WhatIsMet.{cached_during}
use Rattle.quiet.proofs.cached_during_is_old_or_new.Goals as goal

pub returns : goal.returns
returns c = cached_during
