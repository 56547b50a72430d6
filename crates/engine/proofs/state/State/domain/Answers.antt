use Rattle.std.proofs.Common.{◌≡◌, ◌∙◌, ◌+◌, None, Some, ap, arith, refl, slice_set}
use Rattle.dmatypes.specs.declared.call.Call.TheVariants as calls
use Rattle.dmatypes.specs.declared.refusal.Refusal.TheVariants as refusals
use Rattle.dmatypes.specs.declared.reply.Reply.TheVariants.{Made, Refused}
use Rattle.engine.specs.contracts.state.State.{the_view}
use Rattle.engine.specs.Domains.{Domain, new_domain}
use Rattle.engine.specs.State.{State}
use Rattle.engine.specs.Steps.{Does}
use Rattle.std.proofs.lemmas.List.{length-set}
use Rattle.std.proofs.lemmas.Result.{err_from_is_err_and}
use Rattle.engine.proofs.domains.OneChanged.{at_place, count_set, some_room}
use Rattle.engine.proofs.domains.Made.{IsEmptyTree, no_id, no_root, makes}
use Rattle.engine.proofs.states.Refused.{whole_quiet}
use Rattle.engine.proofs.state.State.domain.Goals as goal

pub returns-in_default : goal.returns-in_default
returns-in_default c =
    rw (← c.self.view_is) (no_id _ _ c.args.mode c.args.width refl c.self.invariant.0.places
    (rw c.as_slice.ensures.value at c.in_default.ensures.none))

-- ---- no frame is free

abbrev refused : goal.After-from_residual → State
refused c = record (the_view c.self.inside) {
  pool = c.new.new.pool;
  calls = c.self.inside.calls + 1;
}

refuses : (c : goal.After-from_residual)
    → Does (the_view c.self.inside) (calls.Domain c.args.mode c.args.width) (Refused refusals.NoFrames) (refused c)
refuses c =
    let vacant = rw c.as_slice.ensures.value at c.in-Some.ensures.vacant in
    no_root (the_view c.self.inside) (refused c) c.args.mode c.args.width c.in-Some.index
    (ap (λ pool. record (the_view c.self.inside) { pool = pool; calls = c.self.inside.calls + 1 }) c.in_err-tree.ensures.unchanged)
    c.self.invariant.0.places vacant.0 (at_place c.self.inside.domains.items (c.in-Some.index + 1) c.in-Some.index None refl vacant.1)
    (c.in_err-tree.ensures.refused.0 refl)

pub returns-in_err-tree : goal.returns-in_err-tree
returns-in_err-tree c =
    let p = err_from_is_err_and c.from_residual.result c.from_residual.ensures.1 in rw (p.1, p.2, ← c.self.view_is) (refuses c)

pub invariant_of-self-in_err-tree : goal.invariant_of-self-in_err-tree
invariant_of-self-in_err-tree c = (
  whole_quiet (the_view c.self.inside) (refused c) (calls.Domain c.args.mode c.args.width) (Refused refusals.NoFrames)
      c.self.invariant.0
      (refuses c) refl refl refl refl refl,
  c.self.invariant.1,
)

-- ---- a domain

pub unwrap-room-requires : goal.unwrap-room-requires
unwrap-room-requires c =
    let vacant = rw c.as_slice.ensures.value at c.in-Some.ensures.vacant in
    c.pop.ensures.variant.1 (some_room _ _ c.in-Some.index c.self.inside.domains.items c.self.invariant.0.places vacant.1
    c.self.invariant.1)

abbrev after : goal.Joined-index_mut → State
after c = record (the_view c.self.inside) {
  pool = c.new.new.pool;
  domains = slice_set c.self.inside.domains.items c.in-Some.index (Some c.new-2.result);
  calls = c.self.inside.calls + 1;
}

does : (c : goal.Joined-index_mut) → Does (the_view c.self.inside) (calls.Domain c.args.mode c.args.width) (Made (c.in-Some.index + 1))
    (after c)
does c =
    let vacant = rw c.as_slice.ensures.value at c.in-Some.ensures.vacant in
    let grown : IsEmptyTree c.self.inside.pool c.new.new.pool c.args.width c.in_ok-tree.tree.root =
    record {
      roots =
          record {
            free = c.in_ok-tree.ensures.free;
            count = c.in_ok-tree.ensures.count;
            words = c.in_ok-tree.ensures.words;
            frames = c.in_ok-tree.ensures.size;
          };
      empty = c.in_ok-tree.ensures.empty;
      spelled = c.in_ok-tree.ensures.spelled;
      frames = c.in_ok-tree.ensures.frames;
      pool = c.in_ok-tree.ensures.pool;
    } in
    let new : c.new-2.result ≡ new_domain c.args.mode c.args.width c.in_ok-tree.tree.root =
    c.new-2.ensures.new ∙ ap (λ n. new_domain c.args.mode n c.in_ok-tree.tree.root) c.in_ok-tree.ensures.width in
    makes (the_view c.self.inside) (after c) c.args.mode c.args.width c.in-Some.index c.in_ok-tree.tree.root
    c.self.invariant.0.places vacant.0
    (at_place c.self.inside.domains.items (c.in-Some.index + 1) c.in-Some.index None refl vacant.1)
    (rw c.as_slice.ensures.value at c.in-Some.ensures.first) grown
    (rw new at c.new-2.ensures.space) (rw new at c.new-2.ensures.free)
    (ap (λ (d : Domain).
    record (the_view c.self.inside) {
      pool = c.new.new.pool;
      domains = slice_set c.self.inside.domains.items c.in-Some.index (Some d);
      calls = c.self.inside.calls + 1;
    })
    new)

pub returns : goal.returns
returns c = rw (← c.self.view_is) (does c)

pub invariant_of-self-2 : goal.invariant_of-self-2
invariant_of-self-2 c =
    let vacant = rw c.as_slice.ensures.value at c.in-Some.ensures.vacant in
    let fewer = rw c.unwrap-room.ensures at c.pop.ensures.cases in
    let more = count_set c.self.inside.domains.items c.in-Some.index None (Some c.new-2.result) vacant.1 in (
      whole_quiet (the_view c.self.inside) (after c) (calls.Domain c.args.mode c.args.width) (Made (c.in-Some.index + 1))
          c.self.invariant.0
          (does c) (length-set c.self.inside.domains.items c.in-Some.index (Some c.new-2.result)) refl refl refl refl,
      record {
        count = omega (arith, more, c.self.invariant.1.count, fewer);
        roomy = omega (arith, c.self.invariant.1.roomy, c.pop.ensures.capacity);
      },
    )
