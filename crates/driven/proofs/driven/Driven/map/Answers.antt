use Rattle.std.proofs.Common.{◌∙◌, refl}
use Rattle.std.proofs.lemmas.Result.{err_from_is_err_and}
use Rattle.dmatypes.specs.declared.call.Call.TheVariants as calls
use Rattle.dmatypes.specs.declared.reply.Reply.TheVariants as replies
use Rattle.quiet.specs.Quiet.{IsSound}
use Rattle.driven.proofs.Asked.{all_told}
use Rattle.driven.proofs.Known.{map_can_tell, map_tells, silent}
use Rattle.driven.proofs.Told.{refused}
use Rattle.driven.proofs.Trees.{map_brings, map_pages}
use Rattle.driven.proofs.driven.Driven.map.Goals as goal
use Rattle.driven.proofs.driven.Driven.map.Goals.{else-tells, then-tells}

pub returns-in_err-address-clause-effects : goal.returns-in_err-address-clause-effects
returns-in_err-address-clause-effects c =
    λ tells. all_told _ _ _ _ _ c.forget.ensures.all (
    let p = err_from_is_err_and c.from_residual.result c.from_residual.ensures.1 in
    rw (p.1, p.2, ← c.self.view_is, ← c.deref_mut-state.ensures.value, c.forget.ensures.told)
    (refused c.deref_mut-state.result.now c.map.new.self (calls.Map c.args.domain c.args.frame c.args.pages c.args.order c.args.rights)
    c.in_err-address.field-0.0 c.in_err-address.ensures))

pub invariant_of-self-2 : goal.invariant_of-self-2
invariant_of-self-2 c =
    let call = calls.Map c.args.domain c.args.frame c.args.pages c.args.order c.args.rights in
    let sound : IsSound c.deref_mut-state.result.now = record { of_world = c.keeps.ensures.of_world; places = c.keeps.ensures.places } in
    elim c.if-tells.branch [
      | then-tells w ↦
          let (domain, first, pages, waits) = w.mapped.ensures.pages in
          rw w.self-inside-is
          (map_can_tell c.deref_mut-state.result.now c.map.new.self call (replies.Mapped c.in_ok-address.address) c.keeps.ensures.tickets
          c.in_ok-address.ensures w.mapped.result _ _ _ domain first pages (waits ∙ c.of-before.ensures.waits)
          (map_pages c.deref_mut-state.result.now c.map.new.self c.args.domain c.args.frame c.args.pages c.args.order c.args.rights
          c.in_ok-address.address sound c.in_ok-address.ensures))
      | else-tells w ↦ rw (w.self-inside-is, c.forget.ensures.all) tt
    ]

pub returns-clause-effects : goal.returns-clause-effects
returns-clause-effects c =
    let call = calls.Map c.args.domain c.args.frame c.args.pages c.args.order c.args.rights in
    let sound : IsSound c.deref_mut-state.result.now = record { of_world = c.keeps.ensures.of_world; places = c.keeps.ensures.places } in
    λ tells es told. elim c.if-tells.branch [
      | then-tells w ↦
          let (domain, first, pages, waits) = w.mapped.ensures.pages in
          rw (w.self-inside-is, ← c.self.view_is, ← c.deref_mut-state.ensures.value)
          (map_tells c.deref_mut-state.result.now c.map.new.self call (replies.Mapped c.in_ok-address.address) c.keeps.ensures.tickets
          c.in_ok-address.ensures w.mapped.result _ _ _ domain first pages (waits ∙ c.of-before.ensures.waits) (λ b s. refl) refl (λ es. tt)
          (map_brings c.deref_mut-state.result.now c.map.new.self c.args.domain c.args.frame c.args.pages c.args.order c.args.rights
          c.in_ok-address.address sound c.in_ok-address.ensures w.mapped.result.grew
          (λ no. w.mapped.ensures.stays no ∙ c.of-before.ensures.free)) es (rw w.self-inside-is at told))
      | else-tells w ↦ absurd (silent (rw (← c.self.view_is) at tells) w.if-tells.false)
    ]
