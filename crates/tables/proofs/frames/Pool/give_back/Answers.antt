use Rattle.std.proofs.Common.{◌≡◌, ℕ, ◌+◌, ◌<◌, ◌≤◌, length, length-take, take, ap, sym, ◌∙◌, subst, arith}
use Rattle.tables.specs.Pool.{Pool, occurs, IsZeroed}
use Rattle.tables.proofs.pools.GivenBack.{given_state, given_fits, occurs-append}
use Rattle.tables.proofs.frames.Pool.give_back.Goals as goal

pub slice_bounds-copy_from_slice-end : goal.slice_bounds-copy_from_slice-end
slice_bounds-copy_from_slice-end c =
    let pool : Pool =
    record {
      words = c.self.inside.words.items;
      free = take c.self.inside.free c.self.inside.slots.items;
      frames = length c.self.inside.slots.items;
      trail = c.self.inside.trail.moments;
    } in
    let stored : pool ≡ c.args.self.now = c.self.view_is in
    let once : (f : ℕ) → occurs f pool.free + occurs f c.args.frames.now ≤ 1 =
    subst (λ (p : Pool). (f : ℕ) → occurs f p.free + occurs f c.args.frames.now ≤ 1) (sym stored) c.requires.once in
    let within : (f : ℕ) → 0 < occurs f c.args.frames.now → f < pool.frames =
    subst (λ (p : Pool). (f : ℕ) → 0 < occurs f c.args.frames.now → f < p.frames) (sym stored) c.requires.within in
    let fits : length pool.free + length c.args.frames.now ≤ pool.frames =
    given_fits pool c.args.frames.now c.self.invariant.0 once within in
    omega (
      arith,
      fits,
      length-take c.self.inside.free c.self.inside.slots.items,
      c.self.invariant.1,
      ap (λ xs. length xs) c.deref_mut.ensures.value,
    )

pub invariant_of-self : goal.invariant_of-self
invariant_of-self c =
    let all =
    given_state c.self.inside.words.items c.self.inside.trail.moments c.self.inside.slots.len c.self.inside.free
    c.self.inside.slots.items c.deref_mut.result.now
    c.copy_from_slice.new.self c.args.frames.now c.deref_mut.ensures.value c.copy_from_slice.ensures.after (omega arith)
    c.self.invariant.1 c.self.invariant.0
    (subst (λ (p : Pool). (f : ℕ) → occurs f p.free + occurs f c.args.frames.now ≤ 1) (sym c.self.view_is) c.requires.once)
    (subst (λ (p : Pool). (f : ℕ) → 0 < occurs f c.args.frames.now → f < p.frames) (sym c.self.view_is) c.requires.within)
    (subst (λ (p : Pool). (f : ℕ) → 0 < occurs f c.args.frames.now → IsZeroed p.words f) (sym c.self.view_is) c.requires.zeroed) in
    (all.0, all.1)

pub returns-clause-free : goal.returns-clause-free
returns-clause-free c f =
    let all =
    given_state c.self.inside.words.items c.self.inside.trail.moments c.self.inside.slots.len c.self.inside.free
    c.self.inside.slots.items c.deref_mut.result.now
    c.copy_from_slice.new.self c.args.frames.now c.deref_mut.ensures.value c.copy_from_slice.ensures.after (omega arith)
    c.self.invariant.1 c.self.invariant.0
    (subst (λ (p : Pool). (f : ℕ) → occurs f p.free + occurs f c.args.frames.now ≤ 1) (sym c.self.view_is) c.requires.once)
    (subst (λ (p : Pool). (f : ℕ) → 0 < occurs f c.args.frames.now → f < p.frames) (sym c.self.view_is) c.requires.within)
    (subst (λ (p : Pool). (f : ℕ) → 0 < occurs f c.args.frames.now → IsZeroed p.words f) (sym c.self.view_is) c.requires.zeroed) in
    ap (occurs f) all.2 ∙ occurs-append f (take c.self.inside.free c.self.inside.slots.items) c.args.frames.now
    ∙ ap (λ (p : Pool). occurs f p.free + occurs f c.args.frames.now) c.self.view_is

pub returns-clause-pool : goal.returns-clause-pool
returns-clause-pool c = (invariant_of-self c).0
