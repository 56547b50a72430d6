use Rattle.std.proofs.Common.{◌≡◌, ℕ, List, ◌∙◌, ap, sym, arith, Some, ◌≤◌, ◌-◌, subst, rules}
use Rattle.vtdbits.specs.declared.entry.SsEntry.{SsEntry}
use Rattle.tables.specs.Pool.{memory}
use Rattle.tables.specs.Tree.{index_in}
use Rattle.unit.specs.Caches.{CachedLeaf, CachedNonLeaf}
use Rattle.dmatypes.specs.World.{IsIn}
use Rattle.unit.specs.Walking.{IsPassed}
use Rattle.unit.proofs.caches.Remembered.{gains_entry, gains_twice}
use Rattle.unit.proofs.caches.Known.{new_outside}
use Rattle.unit.proofs.walks.Lowest.{lowest_below, table_new}
use Rattle.unit.proofs.walks.Walked.{met_absent, met_table, met_small, met_large, passed_next, passed_below}
use Rattle.unit.proofs.walking.+walk.Goals as goal

-- an entry that was read is the one on the page's way
on_way : (words : List ℕ) (level table page index : ℕ) (e : SsEntry) → index ≡ index_in (level - 1) page
    → memory words level table index ≡ e → memory words level table (index_in (level - 1) page) ≡ e
on_way words level table page index e at is = ap (memory words level table) (sym at) ∙ is

pub returns-in-Absent-clause-leaf : goal.returns-in-Absent-clause-leaf
returns-in-Absent-clause-leaf t c =
    let m = memory c.args.pool.now.words in
    let is = on_way _ _ _ _ _ _ c.index_of.ensures.exact c.in-Absent.ensures.is in
    met_absent m c.args.asked.domain c.args.table c.args.asked.page c.args.level c.requires.low is

pub returns-in-Table-clause-leaf : goal.returns-in-Table-clause-leaf
returns-in-Table-clause-leaf t c =
    let m = memory c.args.pool.now.words in
    let is = on_way _ _ _ _ _ _ c.index_of.ensures.exact c.in-Table.ensures.is in
    c.walk.ensures.leaf
    ∙ met_table m c.args.asked.domain c.args.table c.args.asked.page c.args.level c.requires.low c.in-Table.below is

pub returns-in-Table-clause-passed : goal.returns-in-Table-clause-passed
returns-in-Table-clause-passed t c =
    let m = memory c.args.pool.now.words in
    let is = on_way _ _ _ _ _ _ c.index_of.ensures.exact c.in-Table.ensures.is in
    let deep : 2 ≤ c.args.level = omega (arith, c.in-Table.ensures.stands) in
    gains_twice c.args.asked.fill
    (IsPassed m c.args.level c.args.table c.args.asked.domain c.args.asked.page)
    (λ y. y ≡ c.new-table.result)
    (IsPassed m (c.args.level - 1) c.in-Table.below c.args.asked.domain c.args.asked.page) _ _ _
    (λ y e. passed_next m c.args.asked.domain c.args.table c.args.asked.page c.in-Table.below c.args.level deep is y
    (e ∙ c.new-table.ensures))
    (passed_below m c.args.asked.domain c.args.table c.args.asked.page c.in-Table.below c.args.level deep is)
    (gains_entry _ _ _ _ _ _ c.remember.ensures.items)
    c.walk.ensures.passed

pub returns-in-Leaf-clause-leaf : goal.returns-in-Leaf-clause-leaf
returns-in-Leaf-clause-leaf t c =
    let m = memory c.args.pool.now.words in
    let is = on_way _ _ _ _ _ _ c.index_of.ensures.exact c.in-Leaf.ensures.is in
    ap (λ (l : CachedLeaf). Some l) c.small.ensures
    ∙ met_small m c.args.asked.domain c.args.table c.args.asked.page c.args.level c.requires.low c.in-Leaf.leaf is
    (omega (arith, c.in-Leaf.ensures.stands))

pub returns-in-LargeLeaf-clause-leaf : goal.returns-in-LargeLeaf-clause-leaf
returns-in-LargeLeaf-clause-leaf t c =
    let m = memory c.args.pool.now.words in
    let is = on_way _ _ _ _ _ _ c.index_of.ensures.exact c.in-LargeLeaf.ensures.is in
    ap (λ (l : CachedLeaf). Some l) c.large.ensures
    ∙ met_large m c.args.asked.domain c.args.table c.args.asked.page c.args.level c.requires.low c.in-LargeLeaf.leaf is
    (omega (arith, c.in-LargeLeaf.ensures.stands))

pub remember-requires : goal.remember-requires
remember-requires t c =
    let deep : 2 ≤ c.args.level = omega (arith, c.in-Table.ensures.stands) in (
      omega arith,
      (
        omega arith,
        λ lowest.
            new_outside _ c.new-table.result c.args.passed.now.items (λ y same. search rules) (λ there.
            table_new c.args.asked.domain c.args.asked.page c.args.level c.in-Table.below c.args.passed.now.items deep
            (c.requires.lowest lowest)
            (subst (λ (i : CachedNonLeaf). IsIn i c.args.passed.now.items) c.new-table.ensures there)),
      ),
    )

pub walk-requires : goal.walk-requires
walk-requires t c =
    let deep : 2 ≤ c.args.level = omega (arith, c.in-Table.ensures.stands) in (
      omega arith,
      (
        c.requires.page,
        (
          omega arith,
          (
            omega arith,
            λ lowest.
                lowest_below c.args.asked.domain c.args.asked.page c.args.level c.in-Table.below c.args.passed.now.items deep
                (c.requires.lowest lowest)
                c.args.asked.fill c.new-table.result c.new-table.ensures c.remember.new.list.items
                (gains_entry _ _ _ _ _ _ c.remember.ensures.items),
          ),
        ),
      ),
    )
