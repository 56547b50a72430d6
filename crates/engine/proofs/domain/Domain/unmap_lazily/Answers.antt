use Rattle.std.proofs.Common.{ℕ, ◌≡◌, inl, inr, ap, subst, sym}
use Rattle.dmatypes.specs.Page.{Fits}
use Rattle.engine.specs.Domains.{Domain, Operands, operands_of}
use Rattle.engine.specs.Ending.{MakesRoom}
use Rattle.engine.proofs.unmaps.LazyRange.{still_ends}
use Rattle.engine.proofs.domain.Domain.unmap_lazily.Goals as goal

-- where room is made for a record, the domain keeps its width
same_width : (old : Operands) (id released : ℕ) (new : Operands) → MakesRoom old id released new → new.domain.width ≡ old.domain.width
same_width old id released new room = elim room [
  | inl has ↦ ap (λ (p : Operands). p.domain.width) has.same
  | inr empties ↦ ap (λ (d : Domain). d.width) empties.flushes.same
]

pub end-last-requires-clause-fits : goal.end-last-requires-clause-fits
end-last-requires-clause-fits c =
    subst (Fits c.args.range) (sym (same_width _ _ _ _ c.make_room-released.ensures.room)) c.requires.fits

pub end-last-requires-clause-can : goal.end-last-requires-clause-can
end-last-requires-clause-can c =
    (still_ends (operands_of c.args.pool.now c.args.self.now c.args.iommu.now)
    (operands_of c.make_room-released.new.pool c.make_room-released.new.self c.make_room-released.new.iommu) c.args.id
    c.make_room-released.result
    c.args.range c.requires.can c.requires.may c.make_room-released.ensures.room).0

pub end-last-requires-clause-may : goal.end-last-requires-clause-may
end-last-requires-clause-may c =
    (still_ends (operands_of c.args.pool.now c.args.self.now c.args.iommu.now)
    (operands_of c.make_room-released.new.pool c.make_room-released.new.self c.make_room-released.new.iommu) c.args.id
    c.make_room-released.result
    c.args.range c.requires.can c.requires.may c.make_room-released.ensures.room).1
