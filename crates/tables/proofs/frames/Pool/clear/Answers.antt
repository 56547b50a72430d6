use Rattle.std.proofs.Common.{◌≡◌, ◌+◌, ◌*◌, length, take, get_or, ap, ◌∙◌, arith}
use Rattle.std.proofs.lemmas.List.{get_or-replicate}
use Rattle.tables.specs.declared.entries.TheConstants.{TABLE_ENTRIES}
use Rattle.tables.specs.Pool.{Pool, word, occurs}
use Rattle.tables.proofs.pools.Patched.{IsPatch, patched, patch_lent}
use Rattle.tables.proofs.frames.Pool.clear.Goals as goal
use Rattle.tables.proofs.frames.Pool.clear.Goals.{After-fill}

cleared : (c : After-fill)
    → (length c.fill.new.self ≡ c.args.count)
    × IsPatch (record {
      words = c.self.inside.words.items;
      free = take c.self.inside.free c.self.inside.slots.items;
      frames = length c.self.inside.slots.items;
      trail = c.self.inside.trail.moments;
    })
    (patched c.self.inside.words.len (c.number.result * TABLE_ENTRIES + c.args.from)
    (c.number.result * TABLE_ENTRIES + c.args.from + c.args.count) c.self.inside.words.items c.deref_mut.result.now c.fill.new.self)
    c.args.frame c.args.from c.fill.new.self
cleared c =
    let frames : length c.self.inside.slots.items ≡ c.args.self.now.frames = ap (λ (p : Pool). p.frames) c.self.view_is in
    let taken : occurs c.args.frame (take c.self.inside.free c.self.inside.slots.items) ≡ 0 =
    ap (λ (p : Pool). occurs c.args.frame p.free) c.self.view_is ∙ c.requires.taken in
    patch_lent c.self.inside.words.len c.number.result c.args.frame c.args.from c.args.count _
    (record {
      words = c.self.inside.words.items;
      free = take c.self.inside.free c.self.inside.slots.items;
      frames = length c.self.inside.slots.items;
      trail = c.self.inside.trail.moments;
    }) c.deref_mut.result.now c.fill.new.self c.number.ensures.value c.deref_mut.ensures.value (omega arith) c.self.invariant.0
    (omega arith) taken c.requires.within (omega arith) c.fill.ensures.len

pub invariant_of-self : goal.invariant_of-self
invariant_of-self c = ((cleared (goal.at.invariant_of-self c).After-fill).1.keeps _, c.self.invariant.1)

pub returns-clause-cleared : goal.returns-clause-cleared
returns-clause-cleared c k k_in =
    (cleared (goal.at.returns-clause-cleared c).After-fill).1.inside k
    (omega (arith, (cleared (goal.at.returns-clause-cleared c).After-fill).0))
    ∙ ap (λ xs. get_or xs k 0) (c.fill.ensures.after (λ y e. e))
    ∙ get_or-replicate _ k 0 0 (omega (arith, (cleared (goal.at.returns-clause-cleared c).After-fill).0, c.fill.ensures.len))

pub returns-clause-rest : goal.returns-clause-rest
returns-clause-rest c f k k_in other =
    (cleared (goal.at.returns-clause-rest c).After-fill).1.rest f k k_in
    (λ e low high. other e low (omega (arith, high, (cleared (goal.at.returns-clause-rest c).After-fill).0)))
    ∙ ap (λ (p : Pool). word p.words f k) c.self.view_is

pub returns-clause-pool : goal.returns-clause-pool
returns-clause-pool c = (cleared (goal.at.returns-clause-pool c).After-fill).1.keeps _
