use Rattle.std.proofs.Common.{sym, ◌∙◌}
use Rattle.checker.proofs.worlds.Attached.{attached_by, to_attached}
use Rattle.checker.proofs.checker.Checker.is_attached.Goals as goal

pub returns : goal.returns
returns c =
    let m = c.args.self.now.devices in (
      λ yes. attached_by m c.args.domain c.is_among.ensures.ordered (sym c.is_among.ensures.value ∙ yes),
      λ h. c.is_among.ensures.value ∙ to_attached m c.args.domain h.0 h.1,
    )
