use Rattle.driven.proofs.Stages.{each_stage, read_in_order}
use Rattle.driven.proofs.laws.each_stage_is_old_or_new.Goals as goal

pub returns-clause-order : goal.returns-clause-order
returns-clause-order c = read_in_order

pub returns-clause-found : goal.returns-clause-found
returns-clause-found c = each_stage
