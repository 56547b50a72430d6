use Rattle.traces.proofs.Told.{expected_told}
use Rattle.traces.proofs.finding.allowed_to.Goals as goal

pub returns-in_default : goal.returns-in_default
returns-in_default c =
    expected_told (λ v. v.items) c.list_of.result _ c.args.call.now c.expected.result c.in_default.not-Dma c.expected.ensures
    c.list_of.ensures
