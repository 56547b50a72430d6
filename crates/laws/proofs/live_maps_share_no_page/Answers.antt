use Rattle.laws.proofs.worlds.Live.{taken_between}
use Rattle.laws.proofs.live_maps_share_no_page.Goals as goal

pub returns : goal.returns
returns c = taken_between
