use Rattle.std.proofs.Common.{◌≤◌, ◌+◌, ◌∙◌, ap, arith, drop, length, List, remove}
use Rattle.unit.specs.Caches.{CachedLeaf}
use Rattle.unit.proofs.caches.Parts.{drop_remove, still_few}
use Rattle.unit.specs.declared.recent.TheConstants.{LEAVES}
use Rattle.unit.proofs.recent.Recent.evict.Goals as goal

pub returns-then-place-len-clause-items : goal.returns-then-place-len-clause-items
returns-then-place-len-clause-items c =
    c.compact_if_few-self-inside.ensures.items ∙ ap (drop c.self.inside.start) c.remove.ensures.items
    ∙ drop_remove c.self.inside.start c.args.place c.self.inside.list.items
    ∙ ap (λ (xs : List CachedLeaf). remove xs c.args.place) c.self.view_is

pub invariant_of-self : goal.invariant_of-self
invariant_of-self c =
    let few : length c.remove.new.self.items ≤ c.self.inside.start + LEAVES = omega (arith, c.remove.ensures.len, c.self.invariant) in (
      c.compact_if_few-self-inside.ensures.within,
      still_few c.compact_if_few-self-inside.result c.self.inside.start LEAVES
          c.compact_if_few-self-inside.new.list.items c.remove.new.self.items
          c.compact_if_few-self-inside.ensures.items c.compact_if_few-self-inside.ensures.within few,
      c.compact_if_few-self-inside.ensures.few,
    )
