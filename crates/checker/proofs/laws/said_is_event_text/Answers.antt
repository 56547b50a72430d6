use Rattle.checker.proofs.texts.Events.{said_is_event_text}
use Rattle.checker.proofs.laws.said_is_event_text.Goals as goal

pub returns : goal.returns
returns c = said_is_event_text
