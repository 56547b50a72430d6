use Rattle.std.proofs.Common.{◌≡◌, [], ◌∷◌, ◌++◌, All, ap, arith, get_or, length, subst, sym, ◌∙◌}
use Rattle.manager.specs.Kept.{Book}
use Rattle.ports.specs.Seen.{Port}
use Rattle.ports.specs.Steps.{counter}
use Rattle.ports.specs.declared.known.OwnStep.TheVariants.{Loaded}
use Rattle.storm.specs.Storms.{HasMet}
use Rattle.storm.proofs.Meeting.{Meets, has_met}
use Rattle.storm.proofs.Writing.{left_next, whole_of, written_next}
use Rattle.storm.proofs.storming.meet_all.Goals as goal

pub returns-clause-met : goal.returns-clause-met
returns-clause-met g c hits checked_in =
    let i = c.loop-port.invariant in
    let all = c.deref_mut-port-items.ensures in
    let history = c.args.history.now.history in
    let items = c.loop-port.port-items in
    let ports = c.args.ports.now in
    let few : length items ≡ ports.len = omega (arith, c.loop-port.auto.port-items, all.len) in
    let whole = whole_of items ports.items ports.len few (omega (arith, ap length all.value, all.len)) in
    subst (λ l. All (HasMet hits history) l) (sym whole)
    (λ k d within.
    has_met hits history (get_or ports.items k d) (get_or items k d)
    (checked_in k d (omega (arith, within, c.loop-port.auto.port-items, ap length all.value)))
    (i.1 k (omega (arith, within, c.loop-port.auto.port-items, c.loop-port-test.false)) d))

pub loop-port-preserved : goal.loop-port-preserved
loop-port-preserved g c =
    let i = c.loop-port.invariant in
    let history = c.args.history.now.history in
    let old : Port = get_or c.loop-port.port-items c.loop-port.port-index c.port-item.result in
    let met : Meets history old c.meet.new.port = (
      c.meet.ensures.did ∙ ap (λ (b : Book). old.did ++ Loaded counter (length b.history) ∷ []) i.0,
      c.meet.ensures.seen.1 ∙ ap (λ (b : Book). b.history) i.0,
      c.meet.ensures.same.1,
    ) in (
      c.meet.ensures.same.0 ∙ i.0,
      written_next (Meets history) c.args.ports.now.items c.loop-port.port-items c.loop-port.port-index c.port-item.result c.meet.new.port
          (omega (arith, c.loop-port-test.true, c.loop-port.auto.port-items)) c.port-item.is
          (subst (λ p. Meets history p c.meet.new.port) (sym c.port-item.is) met) i.1 i.2,
      left_next (Meets history) c.args.ports.now.items c.loop-port.port-items c.loop-port.port-index c.port-item.result c.meet.new.port i.2,
    )
