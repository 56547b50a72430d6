use Rattle.std.proofs.Common.{◌≡◌, ℕ, ◌+◌, ◌-◌, ◌/◌, ◌∙◌, ap, subst, sym, arith}
use Rattle.std.proofs.lemmas.Result.{err_from_is_err_and}
use Rattle.dmatypes.specs.declared.call.Call.TheVariants as calls
use Rattle.dmatypes.specs.declared.page.TheConstants.{PAGE_BYTES}
use Rattle.engine.specs.Details.{released_by}
use Rattle.quiet.specs.Quiet.{IsSound}
use Rattle.driven.specs.Driven.{IsEnded}
use Rattle.driven.proofs.Asked.{all_told}
use Rattle.driven.proofs.Known.{good, known_by, silent, unmap_can_tell, unmap_tells}
use Rattle.driven.proofs.Told.{refused}
use Rattle.driven.proofs.driven.Driven.unmap.Goals as goal
use Rattle.driven.proofs.driven.Driven.unmap.Goals.{else-tells, else-tells-2, then-tells, then-tells-2}

pub returns-in_err-unmapped-clause-effects : goal.returns-in_err-unmapped-clause-effects
returns-in_err-unmapped-clause-effects c =
    λ tells. all_told _ _ _ _ _ c.forget.ensures.all (
    let p = err_from_is_err_and c.from_residual.result c.from_residual.ensures.1 in
    rw (p.1, p.2, ← c.self.view_is, ← c.deref_mut-state.ensures.value, c.forget.ensures.told)
    (refused c.deref_mut-state.result.now c.unmap.new.self (calls.Unmap c.args.domain c.args.address c.args.pages)
    c.in_err-unmapped.field-0.0 c.in_err-unmapped.ensures.does))

pub ended-requires : goal.ended-requires
ended-requires c =
    let sound : IsSound c.deref_mut-state.result.now = record { of_world = c.keeps.ensures.of_world; places = c.keeps.ensures.places } in
    good c.deref_mut-state.result.now c.unmap.new.self c.args.domain c.args.address c.args.pages (released_by c.in_ok-unmapped.unmapped)
    sound c.in_ok-unmapped.ensures.does

pub invariant_of-self-2 : goal.invariant_of-self-2
invariant_of-self-2 c =
    let m = c.deref_mut-state.result.now in
    let t = c.unmap.new.self in
    let released : ℕ = released_by c.in_ok-unmapped.unmapped in
    let sound : IsSound m = record { of_world = c.keeps.ensures.of_world; places = c.keeps.ensures.places } in
    let does = c.in_ok-unmapped.ensures.does in
    let pages = good m t c.args.domain c.args.address c.args.pages released sound does in
    let last : ℕ = c.args.address / PAGE_BYTES + c.args.pages - 1 in
    let end : c.args.address / PAGE_BYTES + c.args.pages ≡ last + 1 = omega (arith, pages) in
    elim c.if-tells-2.branch [
      | then-tells-2 w ↦ elim c.if-tells.branch [
        | then-tells v ↦
            let (domain, first, ends, waits, gives) = w.ended.ensures.pages in
            let of_last : w.ended.result.last ≡ last = omega (arith, ends, end) in
            let noted =
            known_by m t c.args.domain c.args.address c.args.pages released sound does last end w.ended.result.lowest
            v.note.new.tables.items w.ended.ensures.noted
            (λ stay. (
              sym w.released-released.ensures ∙ (w.ended.ensures.stay stay).0,
              (w.ended.ensures.stay stay).1 ∙ c.of-before.ensures.free,
            ))
            w.ended.ensures.narrow v.note.ensures in
            rw w.self-inside-is
            (subst (λ tables. IsEnded t w.ended.result tables) (sym (ap (λ s. s.1.1.1.1.0.items) v.self-inside-is))
            (unmap_can_tell m t c.args.domain c.args.address c.args.pages released sound does last end c.keeps.ensures.tickets
            w.ended.result domain first of_last (waits ∙ c.of-before.ensures.waits) (gives ∙ w.released-released.ensures)
            v.note.new.tables.items noted))
        | else-tells v ↦ absurd (silent w.if-tells-2.true v.if-tells.false)
      ]
      | else-tells-2 w ↦ rw (w.self-inside-is, c.forget.ensures.all) tt
    ]

pub returns-clause-effects : goal.returns-clause-effects
returns-clause-effects c =
    let m = c.deref_mut-state.result.now in
    let t = c.unmap.new.self in
    let released : ℕ = released_by c.in_ok-unmapped.unmapped in
    let sound : IsSound m = record { of_world = c.keeps.ensures.of_world; places = c.keeps.ensures.places } in
    let does = c.in_ok-unmapped.ensures.does in
    let pages = good m t c.args.domain c.args.address c.args.pages released sound does in
    let last : ℕ = c.args.address / PAGE_BYTES + c.args.pages - 1 in
    let end : c.args.address / PAGE_BYTES + c.args.pages ≡ last + 1 = omega (arith, pages) in
    λ tells es told. elim c.if-tells-2.branch [
      | then-tells-2 w ↦ elim c.if-tells.branch [
        | then-tells v ↦
            let (domain, first, ends, waits, gives) = w.ended.ensures.pages in
            let of_last : w.ended.result.last ≡ last = omega (arith, ends, end) in
            let noted =
            known_by m t c.args.domain c.args.address c.args.pages released sound does last end w.ended.result.lowest
            v.note.new.tables.items w.ended.ensures.noted
            (λ stay. (
              sym w.released-released.ensures ∙ (w.ended.ensures.stay stay).0,
              (w.ended.ensures.stay stay).1 ∙ c.of-before.ensures.free,
            ))
            w.ended.ensures.narrow v.note.ensures in
            rw (w.self-inside-is, ← c.self.view_is, ← c.deref_mut-state.ensures.value)
            (unmap_tells m t c.args.domain c.args.address c.args.pages released sound does last end c.keeps.ensures.tickets
            w.ended.result domain first of_last (waits ∙ c.of-before.ensures.waits) (gives ∙ w.released-released.ensures)
            v.note.new.tables.items noted es (rw (w.self-inside-is, v.self-inside-is) at told))
        | else-tells v ↦ absurd (silent w.if-tells-2.true v.if-tells.false)
      ]
      | else-tells-2 w ↦ absurd (silent (rw (← c.self.view_is) at tells) w.if-tells-2.false)
    ]
