use Rattle.std.proofs.Common.{◌≡◌, ◌+◌, ◌<◌, length, length-take, length-set, take, set, ap, sym, ◌∙◌, subst, arith}
use Rattle.tables.specs.Tree.{one_if_same}
use Rattle.tables.specs.Pool.{Pool, occurs, IsZeroed}
use Rattle.tables.proofs.pools.FreeList.{occurs_given, more_keeps, shorter}
use Rattle.tables.proofs.frames.Pool.give.Goals as goal

pub index_mut-requires : goal.index_mut-requires
index_mut-requires c =
    let slots = c.self.inside.slots.items in
    let n = c.self.inside.free in
    let frames : length c.self.inside.slots.items ≡ c.args.self.now.frames = ap (λ (p : Pool). p.frames) c.self.view_is in
    let taken : occurs c.args.frame (take n slots) ≡ 0 = ap (λ (p : Pool). occurs c.args.frame p.free) c.self.view_is ∙ c.requires.taken in
    omega (
      arith,
      shorter (take n slots) (length slots) c.args.frame c.self.invariant.0.once c.self.invariant.0.within (omega arith) taken,
      length-take n slots,
    )

pub invariant_of-self : goal.invariant_of-self
invariant_of-self c =
    let slots = c.self.inside.slots.items in
    let n = c.self.inside.free in
    let frames : length c.self.inside.slots.items ≡ c.args.self.now.frames = ap (λ (p : Pool). p.frames) c.self.view_is in
    let taken : occurs c.args.frame (take n slots) ≡ 0 = ap (λ (p : Pool). occurs c.args.frame p.free) c.self.view_is ∙ c.requires.taken in
    let words : c.args.self.now.words ≡ c.self.inside.words.items = sym (ap (λ (p : Pool). p.words) c.self.view_is) in
    let room : n < length slots =
    omega (
      arith,
      shorter (take n slots) (length slots) c.args.frame c.self.invariant.0.once c.self.invariant.0.within (omega arith) taken,
      length-take n slots,
    ) in (
      rw length-set (more_keeps _ c.args.frame (take (n + 1) (set slots n c.args.frame)) _ c.self.invariant.0 (omega arith) taken
          (subst (λ w. IsZeroed w c.args.frame) words c.requires.zeroed) (λ f. occurs_given slots n c.args.frame f room)),
      rw length-set (omega arith),
    )

pub returns-clause-free : goal.returns-clause-free
returns-clause-free c f =
    let slots = c.self.inside.slots.items in
    let n = c.self.inside.free in
    let frames : length c.self.inside.slots.items ≡ c.args.self.now.frames = ap (λ (p : Pool). p.frames) c.self.view_is in
    let taken : occurs c.args.frame (take n slots) ≡ 0 = ap (λ (p : Pool). occurs c.args.frame p.free) c.self.view_is ∙ c.requires.taken in
    let room : n < length slots =
    omega (
      arith,
      shorter (take n slots) (length slots) c.args.frame c.self.invariant.0.once c.self.invariant.0.within (omega arith) taken,
      length-take n slots,
    ) in
    occurs_given slots n c.args.frame f room ∙ ap (λ (p : Pool). occurs f p.free + one_if_same c.args.frame f) c.self.view_is

pub returns-clause-count : goal.returns-clause-count
returns-clause-count c =
    let slots = c.self.inside.slots.items in
    let n = c.self.inside.free in
    let frames : length c.self.inside.slots.items ≡ c.args.self.now.frames = ap (λ (p : Pool). p.frames) c.self.view_is in
    let taken : occurs c.args.frame (take n slots) ≡ 0 = ap (λ (p : Pool). occurs c.args.frame p.free) c.self.view_is ∙ c.requires.taken in
    let room : n < length slots =
    omega (
      arith,
      shorter (take n slots) (length slots) c.args.frame c.self.invariant.0.once c.self.invariant.0.within (omega arith) taken,
      length-take n slots,
    ) in
    omega (
      arith,
      ap (λ (p : Pool). length p.free) c.self.view_is,
      length-take n slots,
      length-take (n + 1) (set slots n c.args.frame),
      length-set slots n c.args.frame,
    )

pub returns-clause-pool : goal.returns-clause-pool
returns-clause-pool c = (invariant_of-self c).0
