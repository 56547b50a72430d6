use Rattle.checker.proofs.texts.Events.{event_text_is_said}
use Rattle.checker.proofs.laws.event_text_is_said.Goals as goal

pub returns : goal.returns
returns c = event_text_is_said
