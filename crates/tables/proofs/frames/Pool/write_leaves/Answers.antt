use Rattle.std.proofs.Common.{◌≡◌, ◌+◌, ◌*◌, length, take, ap, ◌∙◌, arith}
use Rattle.tables.specs.declared.entries.TheConstants.{TABLE_ENTRIES}
use Rattle.vtdbits.specs.Entry.{look}
use Rattle.tables.specs.Pool.{Pool, word, occurs}
use Rattle.tables.proofs.pools.Patched.{IsPatch, patched, patch_lent}
use Rattle.tables.proofs.frames.Pool.write_leaves.Goals as goal
use Rattle.tables.proofs.frames.Pool.write_leaves.Goals.{After-spell_leaves}

spelled : (c : After-spell_leaves)
    → (length c.spell_leaves.new.words ≡ c.args.count)
    × IsPatch (record {
      words = c.self.inside.words.items;
      free = take c.self.inside.free c.self.inside.slots.items;
      frames = length c.self.inside.slots.items;
      trail = c.self.inside.trail.moments;
    })
    (patched c.self.inside.words.len (c.number.result * TABLE_ENTRIES + c.args.from)
    (c.number.result * TABLE_ENTRIES + c.args.from + c.args.count) c.self.inside.words.items c.deref_mut.result.now
    c.spell_leaves.new.words)
    c.args.frame c.args.from c.spell_leaves.new.words
spelled c =
    let frames : length c.self.inside.slots.items ≡ c.args.self.now.frames = ap (λ (p : Pool). p.frames) c.self.view_is in
    let taken : occurs c.args.frame (take c.self.inside.free c.self.inside.slots.items) ≡ 0 =
    ap (λ (p : Pool). occurs c.args.frame p.free) c.self.view_is ∙ c.requires.taken in
    patch_lent c.self.inside.words.len c.number.result c.args.frame c.args.from c.args.count _
    (record {
      words = c.self.inside.words.items;
      free = take c.self.inside.free c.self.inside.slots.items;
      frames = length c.self.inside.slots.items;
      trail = c.self.inside.trail.moments;
    }) c.deref_mut.result.now c.spell_leaves.new.words c.number.ensures.value c.deref_mut.ensures.value (omega arith) c.self.invariant.0
    (omega arith) taken c.requires.within (omega arith) c.spell_leaves.ensures.length

pub invariant_of-self : goal.invariant_of-self
invariant_of-self c = ((spelled (goal.at.invariant_of-self c).After-spell_leaves).1.keeps _, c.self.invariant.1)

pub returns-clause-leaves : goal.returns-clause-leaves
returns-clause-leaves c k k_in =
    ap (look 1) ((spelled (goal.at.returns-clause-leaves c).After-spell_leaves).1.inside k
    (omega (arith, (spelled (goal.at.returns-clause-leaves c).After-spell_leaves).0)))
    ∙ c.spell_leaves.ensures.leaves k
    (omega (arith, (spelled (goal.at.returns-clause-leaves c).After-spell_leaves).0, c.spell_leaves.ensures.length))

pub returns-clause-rest : goal.returns-clause-rest
returns-clause-rest c f k k_in other =
    (spelled (goal.at.returns-clause-rest c).After-spell_leaves).1.rest f k k_in
    (λ e low high. other e low (omega (arith, high, (spelled (goal.at.returns-clause-rest c).After-spell_leaves).0)))
    ∙ ap (λ (p : Pool). word p.words f k) c.self.view_is

pub returns-clause-pool : goal.returns-clause-pool
returns-clause-pool c = (spelled (goal.at.returns-clause-pool c).After-spell_leaves).1.keeps _
