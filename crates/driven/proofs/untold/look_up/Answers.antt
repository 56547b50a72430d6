use Rattle.engine.specs.Domains.{domain_at}
use Rattle.driven.proofs.Spans.{stays_now}
use Rattle.driven.proofs.untold.look_up.Goals as goal

pub returns-in-Stay-clause-stay : goal.returns-in-Stay-clause-stay
returns-in-Stay-clause-stay c =
    stays_now c.args.state.now.pool (domain_at c.args.state.now.domains c.args.unmap.now.domain) c.args.unmap.now.first
    c.args.unmap.now.last c.fill_tables.new.tables.items c.fill_tables.ensures
