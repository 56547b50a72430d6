use Rattle.std.proofs.Common.{◌-◌, sym, ◌∙◌, arith, inl, inr}
use Rattle.vtdbits.specs.declared.entry.SsEntry.TheVariants.{Absent, Table, Leaf, LargeLeaf}
use Rattle.tables.specs.Pool.{memory}
use Rattle.tables.proofs.walks.Levels.{root_in_level, below_level, top_level, table_read}
use Rattle.tables.proofs.entries.+table_at.Goals as goal

pub entry-requires-clause-table : goal.entry-requires-clause-table
entry-requires-clause-table t c = root_in_level c.args.pool.now (c.args.level - 1) c.args.table c.args.level (omega arith) c.requires.tree

pub table_at-requires : goal.table_at-requires
table_at-requires t c = (
  omega arith,
  (
    omega (arith, c.in-Table.ensures.stands),
    (
      omega arith,
      (
        c.requires.wanted,
        below_level c.args.pool.now (c.args.level - 1) c.args.table c.index_of.result c.in-Table.below c.args.level (omega arith)
            c.requires.tree c.index_of.ensures.inside c.in-Table.ensures.is,
      ),
    ),
  ),
)

pub returns-then-level-wanted : goal.returns-then-level-wanted
returns-then-level-wanted t c =
    sym (top_level (memory c.args.pool.now.words) (c.args.level - 1) c.args.table c.args.page c.args.wanted c.args.level (omega arith)
    (sym c.if-level-wanted.true))

pub returns-in-Table : goal.returns-in-Table
returns-in-Table t c =
    c.table_at.ensures
    ∙ sym (table_read (memory c.args.pool.now.words) (c.args.level - 1) c.args.table c.args.page c.args.wanted c.args.level
    c.index_of.result (Table c.in-Table.below) (omega arith) c.if-level-wanted.false c.index_of.ensures.exact c.in-Table.ensures.is)

pub returns-in-Absent : goal.returns-in-Absent
returns-in-Absent t c =
    elim c.in-Absent.is [
      | inl e ↦
          sym (table_read (memory c.args.pool.now.words) (c.args.level - 1) c.args.table c.args.page c.args.wanted c.args.level
          c.index_of.result Absent (omega arith) c.if-level-wanted.false c.index_of.ensures.exact (c.entry.ensures.is ∙ e))
      | inr (inl (x, e)) ↦
          sym (table_read (memory c.args.pool.now.words) (c.args.level - 1) c.args.table c.args.page c.args.wanted c.args.level
          c.index_of.result (Leaf x) (omega arith) c.if-level-wanted.false c.index_of.ensures.exact (c.entry.ensures.is ∙ e))
      | inr (inr (x, e)) ↦
          sym (table_read (memory c.args.pool.now.words) (c.args.level - 1) c.args.table c.args.page c.args.wanted c.args.level
          c.index_of.result (LargeLeaf x) (omega arith) c.if-level-wanted.false c.index_of.ensures.exact (c.entry.ensures.is ∙ e))
    ]
