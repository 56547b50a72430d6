use Rattle.std.proofs.Common.{◌≡◌, ℕ, List, ◌∙◌, refl, ap, subst}
use Rattle.arrayvec.specs.ArrayVec.{ArrayVec}
use Rattle.std.proofs.lemmas.Result.{err_from_is_err_and}
use Rattle.dmatypes.specs.Conditions.{total_pages}
use Rattle.dmatypes.specs.declared.call.Call.TheVariants as calls
use Rattle.dmatypes.specs.declared.call.Segment.{Segment}
use Rattle.dmatypes.specs.declared.reply.Reply.{Reply}
use Rattle.dmatypes.specs.declared.reply.Reply.TheVariants as replies
use Rattle.engine.specs.State.{State}
use Rattle.engine.specs.Steps.{Does}
use Rattle.quiet.specs.Quiet.{IsSound}
use Rattle.driven.proofs.Asked.{all_told}
use Rattle.driven.proofs.Known.{map_can_tell, map_tells, silent}
use Rattle.driven.proofs.Told.{refused}
use Rattle.driven.proofs.Trees.{list_brings, list_pages}
use Rattle.driven.proofs.driven.Driven.map_list.Goals as goal
use Rattle.driven.proofs.driven.Driven.map_list.Goals.{else-tells, then-tells}

-- the call that the state did, by the list that its slice is of
of_list : (m t : State) (domain order rights : ℕ) (xs : List Segment) (segments : ArrayVec Segment) (reply : Reply) → xs ≡ segments.items
    → Does m (calls.MapList domain order rights (record { items = xs })) reply t
    → Does m (calls.MapList domain order rights segments) reply t
of_list m t domain order rights xs segments reply is does =
    subst (λ ys. Does m (calls.MapList domain order rights (record { items = ys })) reply t) is does

pub returns-in_err-placed-clause-does : goal.returns-in_err-placed-clause-does
returns-in_err-placed-clause-does c =
    let refuses = of_list c.deref_mut-state.result.now c.map_segments.new.self c.args.domain c.args.order c.args.rights
    c.as_slice.result.now
    c.args.segments.now (replies.Refused c.in_err-placed.field-0.0) c.as_slice.ensures.value c.in_err-placed.ensures.does in
    let p = err_from_is_err_and c.from_residual.result c.from_residual.ensures.1 in
    rw (p.1, p.2, ← c.self.view_is, ← c.deref_mut-state.ensures.value) refuses

pub returns-in_err-placed-clause-effects : goal.returns-in_err-placed-clause-effects
returns-in_err-placed-clause-effects c =
    λ tells. all_told _ _ _ _ _ c.forget.ensures.all (
    let refuses = of_list c.deref_mut-state.result.now c.map_segments.new.self c.args.domain c.args.order c.args.rights
    c.as_slice.result.now
    c.args.segments.now (replies.Refused c.in_err-placed.field-0.0) c.as_slice.ensures.value c.in_err-placed.ensures.does in
    let p = err_from_is_err_and c.from_residual.result c.from_residual.ensures.1 in
    rw (p.1, p.2, ← c.self.view_is, ← c.deref_mut-state.ensures.value, c.forget.ensures.told)
    (refused c.deref_mut-state.result.now c.map_segments.new.self
    (calls.MapList c.args.domain c.args.order c.args.rights c.args.segments.now) c.in_err-placed.field-0.0 refuses))

pub invariant_of-self-2 : goal.invariant_of-self-2
invariant_of-self-2 c =
    let done = of_list c.deref_mut-state.result.now c.map_segments.new.self c.args.domain c.args.order c.args.rights c.as_slice.result.now
    c.args.segments.now (replies.Mapped c.in_ok-placed.placed.address) c.as_slice.ensures.value c.in_ok-placed.ensures.does in
    let count : c.in_ok-placed.placed.pages ≡ total_pages c.args.segments.now.items =
    c.in_ok-placed.ensures.pages ∙ ap (λ xs. total_pages xs) c.as_slice.ensures.value in
    let call = calls.MapList c.args.domain c.args.order c.args.rights c.args.segments.now in
    let sound : IsSound c.deref_mut-state.result.now = record { of_world = c.keeps.ensures.of_world; places = c.keeps.ensures.places } in
    elim c.if-tells.branch [
      | then-tells w ↦
          let (domain, first, pages, waits) = w.mapped.ensures.pages in
          rw w.self-inside-is
          (map_can_tell c.deref_mut-state.result.now c.map_segments.new.self call (replies.Mapped c.in_ok-placed.placed.address)
          c.keeps.ensures.tickets done w.mapped.result _ _ _ domain first (pages ∙ count) (waits ∙ c.of-before.ensures.waits)
          (list_pages c.deref_mut-state.result.now c.map_segments.new.self c.args.domain c.args.order c.args.rights
          c.in_ok-placed.placed.address c.args.segments.now sound done))
      | else-tells w ↦ rw (w.self-inside-is, c.forget.ensures.all) tt
    ]

pub returns-clause-does : goal.returns-clause-does
returns-clause-does c =
    let done = of_list c.deref_mut-state.result.now c.map_segments.new.self c.args.domain c.args.order c.args.rights c.as_slice.result.now
    c.args.segments.now (replies.Mapped c.in_ok-placed.placed.address) c.as_slice.ensures.value c.in_ok-placed.ensures.does in
    elim c.if-tells.branch [
      | then-tells w ↦ rw (w.self-inside-is, ← c.self.view_is, ← c.deref_mut-state.ensures.value) done
      | else-tells w ↦ rw (w.self-inside-is, ← c.self.view_is, ← c.deref_mut-state.ensures.value) done
    ]

pub returns-clause-effects : goal.returns-clause-effects
returns-clause-effects c =
    let done = of_list c.deref_mut-state.result.now c.map_segments.new.self c.args.domain c.args.order c.args.rights c.as_slice.result.now
    c.args.segments.now (replies.Mapped c.in_ok-placed.placed.address) c.as_slice.ensures.value c.in_ok-placed.ensures.does in
    let count : c.in_ok-placed.placed.pages ≡ total_pages c.args.segments.now.items =
    c.in_ok-placed.ensures.pages ∙ ap (λ xs. total_pages xs) c.as_slice.ensures.value in
    let call = calls.MapList c.args.domain c.args.order c.args.rights c.args.segments.now in
    let sound : IsSound c.deref_mut-state.result.now = record { of_world = c.keeps.ensures.of_world; places = c.keeps.ensures.places } in
    λ tells es told. elim c.if-tells.branch [
      | then-tells w ↦
          let (domain, first, pages, waits) = w.mapped.ensures.pages in
          rw (w.self-inside-is, ← c.self.view_is, ← c.deref_mut-state.ensures.value)
          (map_tells c.deref_mut-state.result.now c.map_segments.new.self call (replies.Mapped c.in_ok-placed.placed.address)
          c.keeps.ensures.tickets done w.mapped.result _ _ _ domain first (pages ∙ count) (waits ∙ c.of-before.ensures.waits)
          (λ b s. refl) refl (λ es. tt)
          (list_brings c.deref_mut-state.result.now c.map_segments.new.self c.args.domain c.args.order c.args.rights
          c.in_ok-placed.placed.address c.args.segments.now sound done w.mapped.result.grew
          (λ no. w.mapped.ensures.stays no ∙ c.of-before.ensures.free)) es (rw w.self-inside-is at told))
      | else-tells w ↦ absurd (silent (rw (← c.self.view_is) at tells) w.if-tells.false)
    ]
