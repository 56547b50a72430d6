use Rattle.std.proofs.Common.{ℕ, [], None, arith, false, refl, replicate, subst, sym}
use Rattle.dmatypes.specs.World.{empty}
use Rattle.dmatypes.specs.declared.limits.TheConstants.{DEVICES}
use Rattle.queue.specs.Ring.{ring_of}
use Rattle.unit.specs.Caches.{nothing, unit_state}
use Rattle.vtdbits.specs.declared.context.ContextEntry.TheVariants.{Absent}
use Rattle.engine.specs.contracts.state.State.{the_view}
use Rattle.engine.specs.declared.iommu.Iommu.{Iommu}
use Rattle.engine.specs.Ending.{status_of}
use Rattle.engine.specs.State.{IsNew, State}
use Rattle.engine.specs.Quarantine.{Quarantine}
use Rattle.engine.specs.Tickets.{Follow, pairs_of}
use Rattle.engine.specs.Whole.{IsWhole}
use Rattle.engine.proofs.states.New.{of_empty_world, whole_new}
use Rattle.engine.proofs.state.State.after.Goals as goal

abbrev quiet : ℕ → Iommu
quiet waits = record {
  contexts = replicate DEVICES Absent;
  ring = ring_of [] (status_of waits) [];
  unit = unit_state nothing 0 0 false;
  sent = waits;
  shown = None;
}

module _ (m : State) (frames waits : ℕ) (new : IsNew frames false m) where
  abbrev late : State
  late = record m { iommu = quiet waits; calls = waits }

  abbrev early : State
  early = record m { iommu = record (quiet 0) { ring = ring_of [] 0 [] }; calls = 0 }

  is_new : IsNew frames false early
  is_new = record {
    frames_are = new.frames_are;
    free = new.free;
    past = new.past;
    count = new.count;
    zeroed = new.zeroed;
    domains_are = new.domains_are;
    contexts_are = refl;
    ring_is = refl;
    unit_is = refl;
    sent_is = refl;
    shown_is = refl;
    tickets_are = new.tickets_are;
    calls_are = refl;
  }

  of_empty : Quarantine late (empty frames)
  of_empty =
      let q = of_empty_world early frames false is_new in
      record {
        table_frames = q.table_frames;
        domains = q.domains;
        caches = record { leaves = q.caches.leaves; tables = q.caches.tables };
        faults = λ f inside. absurd inside;
        contexts = record { devices = q.contexts.devices; roots = q.contexts.roots; cached = q.contexts.cached };
        frames = q.frames;
        tickets = q.tickets;
      }

  late_whole : IsWhole frames late
  unfolding Follow pairs_of
  late_whole =
      let whole = whole_new early frames false is_new in
      let k = whole.tickets in
      record {
        of_world = (empty frames, of_empty);
        places = whole.places;
        devices = whole.devices;
        frames_are = whole.frames_are;
        tickets = record {
          done = [];
          half = [];
          ahead = [];
          reached = waits;
          split = new.tickets_are;
          one = omega arith;
          ring = refl;
          status = refl;
          sent = refl;
          past = λ t none. absurd none;
          clear = λ t none. absurd none;
          different = k.different;
          begun = k.begun;
          few = k.few;
        };
        sent = omega arith;
        steps = omega arith;
        begun = λ h inside. let few = whole.begun h inside in omega (arith, few);
        made = λ h inside r there. let few = whole.made h inside r there in omega (arith, few);
      }

pub invariant_of-state : goal.invariant_of-state
invariant_of-state c =
    let frames = c.args.frames in
    let new : IsNew frames false (the_view c.state.inside) = subst (IsNew frames false) (sym c.state.view_is) c.in_ok-state.ensures.new in (
      subst (λ (x : Iommu). IsWhole c.state.inside.pool.frames (record (the_view c.state.inside) { iommu = x; calls = c.args.calls }))
          (sym c.after-state-inside.ensures)
          (subst (λ n. IsWhole n (late (the_view c.state.inside) frames c.args.calls new)) (sym new.frames_are)
          (late_whole (the_view c.state.inside) frames c.args.calls new)),
      c.state.invariant.1,
    )
