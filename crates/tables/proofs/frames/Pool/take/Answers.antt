use Rattle.std.proofs.Common.{◌≡◌, ◌-◌, ◌<◌, length, length-take, take, get_or, ap, sym, subst, arith, ⊎_elim}
use Rattle.std.proofs.lemmas.List.{get_or_read}
use Rattle.std.proofs.lemmas.Bool.{cases_lt}
use Rattle.tables.specs.Pool.{Pool, IsZeroed}
use Rattle.tables.proofs.pools.FreeList.{occurs_front, fewer_keeps, last_free}
use Rattle.tables.proofs.frames.Pool.take.Goals as goal

pub invariant_of-self : goal.invariant_of-self
invariant_of-self c =
    let some : 0 < c.self.inside.free =
    omega (
      arith,
      c.requires,
      ap (λ (p : Pool). length p.free) c.self.view_is,
      length-take c.self.inside.free c.self.inside.slots.items,
    ) in (
      fewer_keeps _ (take (c.self.inside.free - 1) c.self.inside.slots.items) c.self.invariant.0
          (λ f. omega (arith, occurs_front c.self.inside.slots.items c.self.inside.free f some c.self.invariant.1)),
      omega arith,
    )

pub returns-clause-within : goal.returns-clause-within
returns-clause-within c =
    let slots = c.self.inside.slots.items in
    let n = c.self.inside.free in
    let some : 0 < c.self.inside.free =
    omega (
      arith,
      c.requires,
      ap (λ (p : Pool). length p.free) c.self.view_is,
      length-take c.self.inside.free c.self.inside.slots.items,
    ) in
    let is : c.index.result.now ≡ get_or slots (n - 1) 0 = get_or_read slots (n - 1) c.index.result.now (omega arith) c.index.ensures 0 in
    let frames : length c.self.inside.slots.items ≡ c.args.self.now.frames = ap (λ (p : Pool). p.frames) c.self.view_is in
    ⊎_elim (λ l. l) (λ g.
    absurd (omega (arith, c.self.invariant.0.within (get_or slots (n - 1) 0) (omega arith), last_free slots n some c.self.invariant.1)))
    (cases_lt c.index.result.now c.args.self.now.frames)

pub returns-clause-zeroed : goal.returns-clause-zeroed
returns-clause-zeroed c =
    let slots = c.self.inside.slots.items in
    let n = c.self.inside.free in
    let some : 0 < c.self.inside.free =
    omega (
      arith,
      c.requires,
      ap (λ (p : Pool). length p.free) c.self.view_is,
      length-take c.self.inside.free c.self.inside.slots.items,
    ) in
    let is : c.index.result.now ≡ get_or slots (n - 1) 0 = get_or_read slots (n - 1) c.index.result.now (omega arith) c.index.ensures 0 in
    subst (λ f. IsZeroed c.self.inside.words.items f) (sym is)
    (c.self.invariant.0.zeroed (get_or slots (n - 1) 0) (last_free slots n some c.self.invariant.1))

pub returns-clause-pool : goal.returns-clause-pool
returns-clause-pool c = (invariant_of-self c).0
