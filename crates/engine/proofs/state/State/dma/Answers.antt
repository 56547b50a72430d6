use Rattle.std.proofs.Common.{◌≡◌, ◌+◌, ◌∙◌, true, false, sym, refl}
use Rattle.dmatypes.specs.Page.{IsInWindow}
use Rattle.dmatypes.specs.declared.call.Call.TheVariants as calls
use Rattle.unit.specs.Caches.{unit_state}
use Rattle.engine.specs.contracts.state.State.{the_view}
use Rattle.engine.specs.State.{State, host_in, reached_reply}
use Rattle.engine.specs.Steps.{Does}
use Rattle.engine.proofs.requests.Stepped.{request_does, request_hits, request_no_device, request_window}
use Rattle.engine.proofs.states.Refused.{whole_quiet}
use Rattle.engine.proofs.state.State.dma.Goals as goal

pub returns-then-device-ge-DEVICES : goal.returns-then-device-ge-DEVICES
returns-then-device-ge-DEVICES c = rw (← c.self.view_is) (record {
  does = request_no_device _ _ c.args.device c.args.address c.args.access c.args.whim refl c.if-device-ge-DEVICES.true;
  hit = tt;
})

pub returns-then-is_in_window : goal.returns-then-is_in_window
returns-then-is_in_window c =
    rw (← c.self.view_is) (record {
      does =
          request_window _ _ c.args.device c.args.address c.args.access c.args.whim refl c.if-device-ge-DEVICES.false
          (c.is_in_window.ensures.0 c.if-is_in_window.true);
      hit = tt;
    })

abbrev after : goal.After-dma-answer → State
after c = record (the_view c.self.inside) {
  iommu = record c.self.inside.iommu { unit = c.dma-answer.new.self };
  calls = c.self.inside.calls + 1;
}

does : (c : goal.After-dma-answer)
    → Does (the_view c.self.inside) (calls.Dma c.args.device c.args.address c.args.access c.args.whim)
    (reached_reply (host_in c.dma-answer.result))
    (after c)
does c =
    let outside : IsInWindow c.args.address → ⊥ =
    λ inside. let both : true ≡ false = sym (c.is_in_window.ensures.1 inside) ∙ c.if-is_in_window.false in cc in
    request_does (the_view c.self.inside) (after c) c.args.device c.args.address c.args.access c.args.whim c.dma-answer.result
    c.if-device-ge-DEVICES.false
    outside c.dma-answer.ensures.answers c.dma-answer.ensures.remembered (λ i.
    record (the_view c.self.inside) {
      iommu = record c.self.inside.iommu {
        unit = unit_state c.dma-answer.new.self.caches (c.dma-answer.ensures.steps i) (c.dma-answer.ensures.done i)
            (c.dma-answer.ensures.caching i);
      };
      calls = c.self.inside.calls + 1;
    })

pub returns : goal.returns
returns c = rw (← c.self.view_is) (record {
  does = does c;
  hit =
      request_hits (the_view c.self.inside) c.args.device c.args.address c.args.access c.args.whim c.dma-answer.new.self.caches
      c.dma-answer.result
      c.if-device-ge-DEVICES.false c.dma-answer.ensures.answers;
})

pub invariant_of-self-2 : goal.invariant_of-self-2
invariant_of-self-2 c = (
  whole_quiet (the_view c.self.inside) (after c) (calls.Dma c.args.device c.args.address c.args.access c.args.whim)
      (reached_reply (host_in c.dma-answer.result)) c.self.invariant.0 (does c) refl refl refl refl c.dma-answer.ensures.steps,
  c.self.invariant.1,
)
