use Rattle.std.proofs.Common.{subst, sym}
use Rattle.dmatypes.specs.Page.{Fits}
use Rattle.dmatypes.specs.World.{IsIn}
use Rattle.engine.specs.Domains.{Domain}
use Rattle.engine.proofs.domain.Domain.unmap.Goals as goal

pub unmap_lazily-released-requires-clause-made : goal.unmap_lazily-released-requires-clause-made
unmap_lazily-released-requires-clause-made c r i = c.requires.made r (subst (λ (d : Domain). IsIn r d.records) c.may_end.ensures.same i)

pub unmap_strictly-requires-clause-fits : goal.unmap_strictly-requires-clause-fits
unmap_strictly-requires-clause-fits c =
    subst (λ (d : Domain). Fits c.args.range d.width) (sym c.may_end.ensures.same) c.requires.fits

pub unmap_lazily-released-requires-clause-fits : goal.unmap_lazily-released-requires-clause-fits
unmap_lazily-released-requires-clause-fits c =
    subst (λ (d : Domain). Fits c.args.range d.width) (sym c.may_end.ensures.same) c.requires.fits
