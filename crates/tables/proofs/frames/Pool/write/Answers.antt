use Rattle.std.proofs.Common.{◌≡◌, ◌+◌, ◌*◌, ◌≤◌, length, take, ap, sym, ◌∙◌, subst, set, arith}
use Rattle.tables.specs.declared.entries.TheConstants.{TABLE_ENTRIES}
use Rattle.tables.specs.Pool.{Pool, word, occurs, IsWrite, IsPool}
use Rattle.tables.proofs.pools.FreeList.{wrote, write_keeps}
use Rattle.tables.proofs.frames.Pool.write.Goals as goal

pub invariant_of-self : goal.invariant_of-self
invariant_of-self c =
    let frames : length c.self.inside.slots.items ≡ c.args.self.now.frames = ap (λ (p : Pool). p.frames) c.self.view_is in
    let taken : occurs c.args.frame (take c.self.inside.free c.self.inside.slots.items) ≡ 0 =
    ap (λ (p : Pool). occurs c.args.frame p.free) c.self.view_is ∙ c.requires.taken in
    subst (λ f.
    IsPool (record {
      words = set c.self.inside.words.items (f * TABLE_ENTRIES + c.args.index) c.args.value;
      free = take c.self.inside.free c.self.inside.slots.items;
      frames = length c.self.inside.slots.items;
      trail = c.and-self-inside.result.moments;
    }) × (c.self.inside.free ≤ length c.self.inside.slots.items))
    (sym c.number.ensures.value) (
      write_keeps _ c.args.frame c.args.index c.args.value c.and-self-inside.result.moments c.self.invariant.0
          (omega arith) c.requires.index taken,
      c.self.invariant.1,
    )

pub returns-clause-wrote : goal.returns-clause-wrote
returns-clause-wrote c =
    let words : c.self.inside.words.items ≡ c.args.self.now.words = ap (λ (p : Pool). p.words) c.self.view_is in
    let frames : length c.self.inside.slots.items ≡ c.args.self.now.frames = ap (λ (p : Pool). p.frames) c.self.view_is in
    let one : IsWrite c.self.inside.words.items
    (set c.self.inside.words.items (c.number.result * TABLE_ENTRIES + c.args.index) c.args.value) c.args.frame c.args.index
    c.args.value =
    subst (λ f.
    IsWrite c.self.inside.words.items (set c.self.inside.words.items (f * TABLE_ENTRIES + c.args.index) c.args.value) c.args.frame
    c.args.index c.args.value)
    (sym c.number.ensures.value) (wrote c.self.inside.words.items (length c.self.inside.slots.items) c.args.frame c.args.index
    c.args.value c.self.invariant.0.fit (omega arith) c.requires.index) in
    (one.0, λ f k k_in other. one.1 f k k_in other ∙ ap (λ w. word w f k) words)

pub returns-clause-pool : goal.returns-clause-pool
returns-clause-pool c = (invariant_of-self c).0
