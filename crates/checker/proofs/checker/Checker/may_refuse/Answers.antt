use Rattle.std.proofs.Common.{inl, inr, subst}
use Rattle.dmatypes.specs.Conditions.{IsRefused, Stands, order_of}
use Rattle.dmatypes.specs.Step.{IsStep}
use Rattle.checker.specs.World.{world_of}
use Rattle.checker.proofs.calls.Judged.{first_excludes, first_unique}
use Rattle.checker.proofs.checker.Checker.may_refuse.Goals as goal

pub returns-in-Some : goal.returns-in-Some
unfolding IsStep
returns-in-Some c =
    let w = world_of c.args.self.now in
    let call = c.args.call.now in (
      λ same. inl (subst (IsRefused w call) (c.is_same.ensures.0 same) c.in-Some.ensures),
      λ step. elim step [
        | inl h ↦ c.is_same.ensures.1 (first_unique (Stands w call) (order_of call) c.in-Some.first c.args.refusal c.in-Some.ensures h)
        | inr h ↦ absurd (first_excludes (Stands w call) (order_of call) c.in-Some.first h.0 c.in-Some.ensures)
      ],
    )

pub returns-in-None : goal.returns-in-None
unfolding IsStep
returns-in-None c =
    let w = world_of c.args.self.now in
    let call = c.args.call.now in (
      λ meets. inr (c.in-None.ensures, c.may_meet.ensures.0 meets),
      λ step. elim step [
        | inl h ↦ absurd (first_excludes (Stands w call) (order_of call) c.args.refusal c.in-None.ensures h)
        | inr h ↦ c.may_meet.ensures.1 h.1
      ],
    )
