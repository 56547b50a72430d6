use Rattle.std.proofs.Common.{◌-◌, sym, subst, ◌∙◌, arith, inl, inr}
use Rattle.vtdbits.specs.declared.entry.SsEntry.TheVariants.{Absent, Table, Leaf, LargeLeaf}
use Rattle.vtdbits.specs.Entry.{MayStandAt}
use Rattle.tables.specs.Pool.{memory}
use Rattle.tables.proofs.walks.Levels.{root_in_level, below_level, large_level, is_large-one, is_large-zero}
use Rattle.tables.proofs.entries.+is_in_large_leaf.Goals as goal

pub entry-requires-clause-table : goal.entry-requires-clause-table
entry-requires-clause-table t c = root_in_level c.args.pool.now (c.args.level - 1) c.args.table c.args.level (omega arith) c.requires.tree

pub is_in_large_leaf-requires : goal.is_in_large_leaf-requires
is_in_large_leaf-requires t c = (
  omega arith,
  (
    omega (arith, c.in-Table.ensures.stands),
    (
      omega arith,
      below_level c.args.pool.now (c.args.level - 1) c.args.table c.index_of.result c.in-Table.below c.args.level (omega arith)
          c.requires.tree c.index_of.ensures.inside c.in-Table.ensures.is,
    ),
  ),
)

pub returns-in-Table : goal.returns-in-Table
returns-in-Table t c =
    c.is_in_large_leaf.ensures
    ∙ sym (large_level (memory c.args.pool.now.words) (c.args.level - 1) c.args.table c.args.page c.args.level c.index_of.result
    (Table c.in-Table.below) (omega arith) c.index_of.ensures.exact c.in-Table.ensures.is)

pub returns-in-LargeLeaf : goal.returns-in-LargeLeaf
returns-in-LargeLeaf t c =
    sym (large_level (memory c.args.pool.now.words) (c.args.level - 1) c.args.table c.args.page c.args.level c.index_of.result
    (LargeLeaf c.in-LargeLeaf.field-0) (omega arith) c.index_of.ensures.exact c.in-LargeLeaf.ensures.is
    ∙ is_large-one (c.args.level - 1) c.in-LargeLeaf.field-0.frame c.in-LargeLeaf.field-0.rights
    (omega (arith, c.in-LargeLeaf.ensures.stands)))

pub returns-in-Absent : goal.returns-in-Absent
returns-in-Absent t c =
    elim c.in-Absent.is [
      | inl e ↦
          sym (large_level (memory c.args.pool.now.words) (c.args.level - 1) c.args.table c.args.page c.args.level c.index_of.result Absent
          (omega arith) c.index_of.ensures.exact (c.entry.ensures.is ∙ e))
      | inr (x, e) ↦
          sym (large_level (memory c.args.pool.now.words) (c.args.level - 1) c.args.table c.args.page c.args.level c.index_of.result
          (Leaf x) (omega arith) c.index_of.ensures.exact (c.entry.ensures.is ∙ e)
          ∙ is_large-zero (c.args.level - 1) x.frame x.rights
          (omega (arith, subst (λ y. MayStandAt c.args.level y) e c.entry.ensures.stands)))
    ]
