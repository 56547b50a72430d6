use Rattle.std.proofs.Common.{subst, sym}
use Rattle.dmatypes.specs.declared.call.Call.TheVariants as calls
use Rattle.engine.specs.State.{request_reply}
use Rattle.quiet.specs.Quiet.{IsSound}
use Rattle.driven.specs.Effects.{AreEffects}
use Rattle.driven.proofs.Asked.{all_told, asks_nothing}
use Rattle.driven.proofs.Rows.{rows}
use Rattle.driven.proofs.driven.Driven.dma.Goals as goal

pub returns-clause-effects : goal.returns-clause-effects
returns-clause-effects c =
    all_told _ _ _ _ _ c.forget.ensures.all (
    let sound : IsSound c.deref_mut-state.result.now = record { of_world = c.keeps.ensures.of_world; places = c.keeps.ensures.places } in
    let call = calls.Dma c.args.device c.args.address c.args.access c.args.whim in
    subst (λ es. AreEffects c.args.self.now.state call (request_reply c.dma.result) c.dma.new.self es) (sym c.forget.ensures.told)
    (rw (← c.self.view_is, ← c.deref_mut-state.ensures.value)
    (asks_nothing c.deref_mut-state.result.now c.dma.new.self call (request_reply c.dma.result) sound c.keeps.ensures.tickets
    c.dma.ensures.does
    (λ f k no. no) tt (rows c.deref_mut-state.result.now c.dma.new.self call (request_reply c.dma.result) c.dma.ensures.does.becomes))))
