use Rattle.std.proofs.Common.{inl, inr, refl, subst}
use Rattle.dmatypes.specs.Conditions.{SomeIsNotLive, Stands}
use Rattle.dmatypes.specs.Page.{Range}
use Rattle.checker.specs.World.{world_of}
use Rattle.checker.proofs.calls.Asked.{some_not_none}
use Rattle.checker.proofs.checker.Checker.unmap_refusal.Goals as goal

pub returns-then-is_not_live : goal.returns-then-is_not_live
unfolding Stands
returns-then-is_not_live c =
    let w = world_of c.args.self.now in
    inr (
      some_not_none (w.domains c.args.domain) (c.has_domain.ensures.0 c.if-not-has_domain.false),
      inr (
        c.in-Some.ensures.1,
        inl (
          subst (λ (r : Range). SomeIsNotLive w c.args.domain r) c.in-Some.ensures.0
              (c.is_not_live.ensures.0 c.if-is_not_live.true),
          refl,
        ),
      ),
    )
