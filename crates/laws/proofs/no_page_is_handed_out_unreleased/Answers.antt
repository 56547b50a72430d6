use Rattle.laws.proofs.reach.Released.{released_between}
use Rattle.laws.proofs.no_page_is_handed_out_unreleased.Goals as goal

pub returns : goal.returns
returns c = released_between
