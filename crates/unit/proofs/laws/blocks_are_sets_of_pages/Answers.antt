use Rattle.unit.proofs.caches.Blocks.{holds_of_inside, inside_of_holds, meets_of_meeting, meeting_of_meets}
use Rattle.unit.proofs.laws.blocks_are_sets_of_pages.Goals as goal

pub returns : goal.returns
returns c = record {
  inside = λ block first pages some. (holds_of_inside block first pages some, inside_of_holds block first pages some);
  meeting = λ block first pages some. (meets_of_meeting block first pages some, meeting_of_meets block first pages some);
}
