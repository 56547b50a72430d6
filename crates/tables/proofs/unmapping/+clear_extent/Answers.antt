use Rattle.std.proofs.Common.{◌≡◌, ℕ, ◌-◌, ◌<◌, ◌≤◌, Option, Some, None, IsSome, sym, ap, subst, ◌∙◌, arith, inl, inr}
use Rattle.vtdbits.specs.Entry.{MayStandAt}
use Rattle.vtdbits.specs.declared.entry.SsEntry.TheVariants.{Absent}
use Rattle.tables.specs.Tree.{LeafEntry, leaf_from}
use Rattle.tables.specs.Pool.{memory}
use Rattle.tables.specs.Extents.{cut_of}
use Rattle.tables.proofs.maps.Descending.{absent_below}
use Rattle.tables.proofs.walks.Levels.{root_in_level, below_level, leaf_level}
use Rattle.tables.proofs.unmaps.SplitLeaf.{leaves_splitting_below}
use Rattle.tables.proofs.unmaps.Unmapped.{unmap_through}
use Rattle.tables.proofs.spelled.UnderEntry.{through_spelled}
use Rattle.tables.proofs.unmapping.+clear_extent.Goals as goal

deep : (level : ℕ) → (level ≡ 2 → ⊥) → 2 ≤ level → (1 ≤ level - 1) × (1 < level - 1)
deep level ne low = (omega arith, omega arith)

pub entry-requires-clause-table : goal.entry-requires-clause-table
entry-requires-clause-table t c = root_in_level c.args.pool.now (c.args.level - 1) c.args.table c.args.level (omega arith) c.requires.tree

pub clear_extent-requires : goal.clear_extent-requires
clear_extent-requires t c = (
  omega arith,
  (
    omega (arith, (deep c.args.level c.if-level-eq2.false c.requires.low).1),
    (
      omega arith,
      (
        below_level c.args.pool.now (c.args.level - 1) c.args.table c.index_of.result c.in-Table.below c.args.level (omega arith)
            c.requires.tree c.index_of.ensures.inside c.in-Table.ensures.is,
        (
          c.requires.some,
          (
            c.requires.one_span,
            (
              c.requires.within,
              (
                (λ p from to.
                    subst (λ (o : Option LeafEntry). IsSome o) (absent_below (memory c.args.pool.now.words) c.args.level (c.args.level - 1)
                    c.args.table c.index_of.result c.in-Table.below c.args.from c.args.to p (omega arith)
                    (deep c.args.level c.if-level-eq2.false c.requires.low).0 c.requires.one_span c.index_of.ensures.exact
                    c.in-Table.ensures.is from to)
                    (c.requires.there p from to)),
                omega (
                  arith,
                  c.requires.room,
                  leaves_splitting_below (memory c.args.pool.now.words) c.args.level (c.args.level - 1) c.args.table c.in-Table.below
                      c.args.from
                      c.args.to (absent_below (memory c.args.pool.now.words) c.args.level (c.args.level - 1) c.args.table c.index_of.result
                      c.in-Table.below c.args.from c.args.to c.args.from (omega arith)
                      (deep c.args.level c.if-level-eq2.false c.requires.low).0 c.requires.one_span c.index_of.ensures.exact
                      c.in-Table.ensures.is (omega arith) c.requires.some),
                ),
              ),
            ),
          ),
        ),
      ),
    ),
  ),
)

pub returns-clause-moves : goal.returns-clause-moves
returns-clause-moves t c =
    (unmap_through c.args.pool.now c.clear_extent.new.pool c.args.level (c.args.level - 1) c.args.table c.index_of.result c.in-Table.below
    c.args.from c.args.to (cut_of c.clear_extent.result) (omega arith) (deep c.args.level c.if-level-eq2.false c.requires.low).1
    c.requires.some c.requires.one_span c.requires.tree c.index_of.ensures.inside c.index_of.ensures.exact c.in-Table.ensures.is
    c.clear_extent.ensures.moves c.clear_extent.ensures.unmaps).0

pub returns-clause-spelled : goal.returns-clause-spelled
returns-clause-spelled t c =
    through_spelled c.args.pool.now c.clear_extent.new.pool c.args.level (c.args.level - 1) c.args.table c.index_of.result c.in-Table.below
    (cut_of c.clear_extent.result) (omega arith) c.requires.tree c.index_of.ensures.inside c.in-Table.ensures.is
    c.clear_extent.ensures.moves c.clear_extent.ensures.spelled

pub returns-clause-unmaps : goal.returns-clause-unmaps
returns-clause-unmaps t c =
    (unmap_through c.args.pool.now c.clear_extent.new.pool c.args.level (c.args.level - 1) c.args.table c.index_of.result c.in-Table.below
    c.args.from c.args.to (cut_of c.clear_extent.result) (omega arith) (deep c.args.level c.if-level-eq2.false c.requires.low).1
    c.requires.some c.requires.one_span c.requires.tree c.index_of.ensures.inside c.index_of.ensures.exact c.in-Table.ensures.is
    c.clear_extent.ensures.moves c.clear_extent.ensures.unmaps).1

pub returns-clause-split : goal.returns-clause-split
returns-clause-split t c =
    c.clear_extent.ensures.split
    ∙ sym (leaves_splitting_below (memory c.args.pool.now.words) c.args.level (c.args.level - 1) c.args.table c.in-Table.below c.args.from
    c.args.to
    (absent_below (memory c.args.pool.now.words) c.args.level (c.args.level - 1) c.args.table c.index_of.result c.in-Table.below
    c.args.from c.args.to c.args.from (omega arith) (deep c.args.level c.if-level-eq2.false c.requires.low).0 c.requires.one_span
    c.index_of.ensures.exact c.in-Table.ensures.is (omega arith) c.requires.some))

pub returns-clause-count : goal.returns-clause-count
returns-clause-count t c =
    omega (
      arith,
      c.clear_extent.ensures.count,
      leaves_splitting_below (memory c.args.pool.now.words) c.args.level (c.args.level - 1) c.args.table c.in-Table.below c.args.from
          c.args.to
          (absent_below (memory c.args.pool.now.words) c.args.level (c.args.level - 1) c.args.table c.index_of.result c.in-Table.below
          c.args.from c.args.to c.args.from (omega arith) (deep c.args.level c.if-level-eq2.false c.requires.low).0 c.requires.one_span
          c.index_of.ensures.exact c.in-Table.ensures.is (omega arith) c.requires.some),
    )

not_there : (o : Option LeafEntry) → o ≡ None → IsSome o → ⊥
not_there None e h = cc
not_there (Some x) e h = cc

pub unreachable-requires : goal.unreachable-requires
unreachable-requires t c =
    elim c.in-Absent.is [
      | inl e ↦ not_there (leaf_from (memory c.args.pool.now.words) c.args.level c.args.table c.args.from)
          (leaf_level (memory c.args.pool.now.words) (c.args.level - 1) c.args.table c.args.from c.args.level Absent (omega arith)
          (ap (λ i. memory c.args.pool.now.words c.args.level c.args.table i) (sym c.index_of.ensures.exact) ∙ c.entry.ensures.is ∙ e))
          (c.requires.there c.args.from (omega arith) c.requires.some)
      | inr (inl (x, e)) ↦ let wrong = subst (λ y. MayStandAt c.args.level y) e c.entry.ensures.stands in omega (arith, c.requires.low)
      | inr (inr (x, e)) ↦ let wrong = subst (λ y. MayStandAt c.args.level y) e c.entry.ensures.stands in c.if-level-eq2.false wrong
    ]
