use Rattle.std.proofs.Common.{ap, subst, sym}
use Rattle.dmatypes.specs.Page.{Fits}
use Rattle.engine.specs.Domains.{Domain}
use Rattle.engine.proofs.domain.Domain.cut.Goals as goal

pub unmap-cut-requires-clause-fits : goal.unmap-cut-requires-clause-fits
unmap-cut-requires-clause-fits c =
    subst (Fits c.args.range) (sym (ap (λ (d : Domain). d.width) c.self.view_is)) c.requires.fits
