use Rattle.std.proofs.Common.{◌≡◌, ℕ, ◌+◌, ◌-◌, ◌<◌, ◌≤◌, true, false, [], length, refl, sym, ap, subst, ◌∙◌, arith, inl, inr}
use Rattle.vtdbits.specs.declared.entry.SsEntry.TheVariants.{Absent, Leaf, LargeLeaf}
use Rattle.tables.specs.Tree.{index_in, table_from}
use Rattle.tables.specs.Pool.{memory}
use Rattle.tables.specs.Changes.{TakesAndGivesFrames, KeepsSpellings, MapsPages}
use Rattle.tables.specs.Lacks.{tables_lacking_at}
use Rattle.tables.specs.Extents.{extent_states, is_large}
use Rattle.vtdbits.specs.Translation.{target}
use Rattle.dmatypes.specs.Rights.{bits_of}
use Rattle.tables.proofs.maps.Descending.{Through, map_through, absent_below, made_through}
use Rattle.tables.proofs.maps.Descending.{count_through, count_added, count_absent, no_leaf}
use Rattle.tables.proofs.maps.Descending.{spared_through, spared_added}
use Rattle.tables.proofs.counts.OnePage.{lacks_at-one, lacks_at-large}
use Rattle.tables.proofs.walks.Levels.{root_in_level, root_taken_level, below_level}
use Rattle.tables.proofs.maps.Mapped.{maps_over, moves_then}
use Rattle.tables.proofs.maps.Runs.{run_moves, run_maps}
use Rattle.tables.proofs.unmaps.UnderEntry.{moved_tree}
use Rattle.tables.proofs.spelled.Runs.{run_spelled}
use Rattle.tables.proofs.spelled.Stays.{named_spelled, page_blank}
use Rattle.tables.proofs.spelled.UnderEntry.{through_spelled}
use Rattle.tables.proofs.trails.Fills.{fills_after, fills_run}
use Rattle.tables.proofs.walks.Words.{zeroed_bare}
use Rattle.tables.proofs.mapping.+map_extent.Goals as goal
use Rattle.tables.proofs.mapping.+map_extent.Goals.{After-add_table-below, After-map_extent-else-level-eq2}
use Rattle.tables.proofs.mapping.+map_extent.Goals.{else-level-eq2-via-then-level-eq2+else-is_large, else-level-eq2-via-else-level-eq2}

pub write_run-requires-clause-table : goal.write_run-requires-clause-table
write_run-requires-clause-table t c =
    root_in_level c.args.pool.now (c.args.level - 1) c.args.table c.args.level (omega arith) c.requires.tree

pub write_run-requires-clause-taken : goal.write_run-requires-clause-taken
write_run-requires-clause-taken t c =
    root_taken_level c.args.pool.now (c.args.level - 1) c.args.table c.args.level (omega arith) c.requires.tree

pub entry-requires-clause-table : goal.entry-requires-clause-table
entry-requires-clause-table t c = root_in_level c.args.pool.now (c.args.level - 1) c.args.table c.args.level (omega arith) c.requires.tree

-- a run of words, in a table of level 1
pub returns-then-level-eq1-clause-moves : goal.returns-then-level-eq1-clause-moves
returns-then-level-eq1-clause-moves t c =
    subst (λ n. TakesAndGivesFrames c.args.pool.now c.write_run.new.pool n c.args.table []) (sym c.if-level-eq1.true)
    (run_moves c.args.pool.now c.write_run.new.pool c.args.table c.args.extent.now.from c.args.extent.now.to _ c.write_run.ensures.run
    c.write_run.ensures.free c.write_run.ensures.frames)

pub returns-then-level-eq1-clause-maps : goal.returns-then-level-eq1-clause-maps
returns-then-level-eq1-clause-maps t c =
    subst (λ n.
    MapsPages c.args.pool.now c.write_run.new.pool n c.args.table c.args.extent.now.from c.args.extent.now.to
    (extent_states c.args.extent.now))
    (sym c.if-level-eq1.true) (run_maps c.args.pool.now c.write_run.new.pool c.args.table c.args.extent.now.from c.args.extent.now.to _
    (λ p. target (c.args.extent.now.frame + (p - c.args.extent.now.from)) (bits_of c.args.extent.now.rights)) c.write_run.ensures.run
    (λ q low high. omega (arith, low, high, c.args.extent.now.one_span)) (λ p. refl))

pub returns-then-level-eq1-clause-spelled : goal.returns-then-level-eq1-clause-spelled
returns-then-level-eq1-clause-spelled t c =
    subst (λ n. KeepsSpellings c.args.pool.now c.write_run.new.pool n c.args.table) (sym c.if-level-eq1.true)
    (run_spelled c.args.pool.now c.write_run.new.pool c.args.table c.args.extent.now.from c.args.extent.now.to _ c.write_run.ensures.run
    c.args.extent.now.some c.args.extent.now.one_span (λ p low high e. cc))

pub returns-then-level-eq1-clause-count : goal.returns-then-level-eq1-clause-count
returns-then-level-eq1-clause-count t c =
    let none : tables_lacking_at (memory c.args.pool.now.words) c.args.level c.args.table (is_large c.args.extent.now)
    c.args.extent.now.from ≡ 0 =
    ap (λ n. tables_lacking_at (memory c.args.pool.now.words) n c.args.table (is_large c.args.extent.now) c.args.extent.now.from)
    c.if-level-eq1.true
    ∙ lacks_at-one (memory c.args.pool.now.words) c.args.table (is_large c.args.extent.now) c.args.extent.now.from in
    omega (arith, none, ap length c.write_run.ensures.free)

-- through the table that is there
low : (level : ℕ) → (level ≡ 1 → ⊥) → 1 ≤ level → 1 ≤ level - 1
low level ne some = omega arith

deeper : (level : ℕ) → 1 < level → (level ≡ 2 → ⊥) → 1 < level - 1
deeper level lower ne = omega arith

true_false : true ≡ false → ⊥
true_false e = cc

pub map_extent-requires : goal.map_extent-requires
map_extent-requires t c =
    let some : 1 ≤ c.args.level - 1 = low c.args.level c.if-level-eq1.false c.requires.low in (
      omega arith,
      (
        some,
        (
          omega (arith, c.requires.high),
          (
            below_level c.args.pool.now (c.args.level - 1) c.args.table c.index_of-index.result c.in-Table.below c.args.level (omega arith)
                c.requires.tree c.index_of-index.ensures.inside c.in-Table.ensures.is,
            (
              (λ p from to.
                  sym (absent_below (memory c.args.pool.now.words) c.args.level (c.args.level - 1) c.args.table c.index_of-index.result
                  c.in-Table.below c.args.extent.now.from c.args.extent.now.to p (omega arith) some c.args.extent.now.one_span
                  c.index_of-index.ensures.exact c.in-Table.ensures.is from to) ∙ c.requires.absent p from to),
              omega (
                arith,
                c.requires.room,
                count_through (memory c.args.pool.now.words) c.args.level (c.args.level - 1) c.args.table c.index_of-index.result
                    c.in-Table.below c.args.extent.now.from (is_large c.args.extent.now) (omega arith) some c.index_of-index.ensures.exact
                    c.in-Table.ensures.is,
              ),
            ),
          ),
        ),
      ),
    )

pub returns-in-Table-clause-moves : goal.returns-in-Table-clause-moves
returns-in-Table-clause-moves t c =
    (map_through c.args.pool.now c.map_extent.new.pool c.args.level (c.args.level - 1) c.args.table c.index_of-index.result c.in-Table.below
    c.args.extent.now.from c.args.extent.now.to (extent_states c.args.extent.now) (omega arith)
    (low c.args.level c.if-level-eq1.false c.requires.low)
    c.args.extent.now.one_span c.requires.tree c.index_of-index.ensures.inside c.index_of-index.ensures.exact c.in-Table.ensures.is
    c.map_extent.ensures.moves c.map_extent.ensures.maps).0

pub returns-in-Table-clause-spelled : goal.returns-in-Table-clause-spelled
returns-in-Table-clause-spelled t c =
    through_spelled c.args.pool.now c.map_extent.new.pool c.args.level (c.args.level - 1) c.args.table c.index_of-index.result
    c.in-Table.below [] (omega arith) c.requires.tree c.index_of-index.ensures.inside c.in-Table.ensures.is c.map_extent.ensures.moves
    c.map_extent.ensures.spelled

pub returns-in-Table-clause-maps : goal.returns-in-Table-clause-maps
returns-in-Table-clause-maps t c =
    (map_through c.args.pool.now c.map_extent.new.pool c.args.level (c.args.level - 1) c.args.table c.index_of-index.result c.in-Table.below
    c.args.extent.now.from c.args.extent.now.to (extent_states c.args.extent.now) (omega arith)
    (low c.args.level c.if-level-eq1.false c.requires.low)
    c.args.extent.now.one_span c.requires.tree c.index_of-index.ensures.inside c.index_of-index.ensures.exact c.in-Table.ensures.is
    c.map_extent.ensures.moves c.map_extent.ensures.maps).1

pub returns-in-Table-clause-made : goal.returns-in-Table-clause-made
returns-in-Table-clause-made t c =
    let through =
    map_through c.args.pool.now c.map_extent.new.pool c.args.level (c.args.level - 1) c.args.table c.index_of-index.result
    c.in-Table.below c.args.extent.now.from c.args.extent.now.to (extent_states c.args.extent.now) (omega arith)
    (low c.args.level c.if-level-eq1.false c.requires.low) c.args.extent.now.one_span c.requires.tree c.index_of-index.ensures.inside
    c.index_of-index.ensures.exact c.in-Table.ensures.is c.map_extent.ensures.moves c.map_extent.ensures.maps in
    made_through (memory c.map_extent.new.pool.words) c.args.level (c.args.level - 1) c.args.table c.index_of-index.result c.in-Table.below
    c.args.extent.now.from (is_large c.args.extent.now) (omega arith) c.index_of-index.ensures.exact through.2 c.map_extent.ensures.made

pub returns-in-Table-clause-spared : goal.returns-in-Table-clause-spared
returns-in-Table-clause-spared t c lower large =
    let some : 1 ≤ c.args.level - 1 = low c.args.level c.if-level-eq1.false c.requires.low in
    let through =
    map_through c.args.pool.now c.map_extent.new.pool c.args.level (c.args.level - 1) c.args.table c.index_of-index.result
    c.in-Table.below c.args.extent.now.from c.args.extent.now.to (extent_states c.args.extent.now) (omega arith) some
    c.args.extent.now.one_span c.requires.tree c.index_of-index.ensures.inside c.index_of-index.ensures.exact c.in-Table.ensures.is
    c.map_extent.ensures.moves c.map_extent.ensures.maps in
    spared_through (memory c.args.pool.now.words) (memory c.map_extent.new.pool.words) c.args.level (c.args.level - 1) c.args.table
    c.index_of-index.result c.in-Table.below c.args.extent.now.from (omega arith) some c.index_of-index.ensures.exact c.in-Table.ensures.is
    through.2 (λ deep. c.map_extent.ensures.spared deep large)

pub returns-in-Table-clause-count : goal.returns-in-Table-clause-count
returns-in-Table-clause-count t c =
    omega (
      arith,
      c.map_extent.ensures.count,
      count_through (memory c.args.pool.now.words) c.args.level (c.args.level - 1) c.args.table c.index_of-index.result c.in-Table.below
          c.args.extent.now.from (is_large c.args.extent.now) (omega arith) (low c.args.level c.if-level-eq1.false c.requires.low)
          c.index_of-index.ensures.exact c.in-Table.ensures.is,
    )

-- a large leaf
pub returns-then-is_large-clause-count : goal.returns-then-is_large-clause-count
returns-then-is_large-clause-count t c =
    let large : is_large c.args.extent.now ≡ true = sym c.is_large.ensures ∙ c.if-is_large.true in
    let index : c.index_of-index.result ≡ index_in 1 c.args.extent.now.from =
    c.index_of-index.ensures.exact ∙ ap (λ n. index_in (n - 1) c.args.extent.now.from) c.if-level-eq2.true in
    let absent : memory c.args.pool.now.words 2 c.args.table (index_in 1 c.args.extent.now.from) ≡ Absent =
    ap (λ i. memory c.args.pool.now.words 2 c.args.table i) (sym index)
    ∙ subst (λ n. memory c.args.pool.now.words n c.args.table c.index_of-index.result ≡ Absent) c.if-level-eq2.true c.in-Absent.ensures.is
    in
    let none : tables_lacking_at (memory c.args.pool.now.words) c.args.level c.args.table (is_large c.args.extent.now)
    c.args.extent.now.from ≡ 0 =
    ap (λ n. tables_lacking_at (memory c.args.pool.now.words) n c.args.table (is_large c.args.extent.now) c.args.extent.now.from)
    c.if-level-eq2.true ∙ ap (λ b. tables_lacking_at (memory c.args.pool.now.words) 2 c.args.table b c.args.extent.now.from) large
    ∙ lacks_at-large (memory c.args.pool.now.words) c.args.table c.args.extent.now.from absent in
    omega (arith, none, ap length c.write_large.ensures.free)

pub returns-then-is_large-clause-spared : goal.returns-then-is_large-clause-spared
returns-then-is_large-clause-spared t c lower large =
    subst (λ n.
    table_from (memory c.write_large.new.pool.words) n c.args.table c.args.extent.now.from 1
    ≡ table_from (memory c.args.pool.now.words) n c.args.table c.args.extent.now.from 1)
    (sym c.if-level-eq2.true) (c.write_large.ensures.tables c.args.extent.now.from 1)

-- a leaf stands in no way of absent pages
pub unreachable-requires : goal.unreachable-requires
unreachable-requires t c =
    elim c.in-Leaf.is [
      | inl (x, e) ↦
          no_leaf (memory c.args.pool.now.words) c.args.level (c.args.level - 1) c.args.table c.index_of-index.result c.args.extent.now.from
          (Leaf x) (omega arith) c.index_of-index.ensures.exact (c.entry.ensures.is ∙ e)
          (λ below. (record { size = c.args.level - 1; frame = x.frame; rights = x.rights }, refl))
          (c.requires.absent c.args.extent.now.from (omega arith) c.args.extent.now.some)
      | inr (x, e) ↦
          no_leaf (memory c.args.pool.now.words) c.args.level (c.args.level - 1) c.args.table c.index_of-index.result c.args.extent.now.from
          (LargeLeaf x) (omega arith) c.index_of-index.ensures.exact (c.entry.ensures.is ∙ e)
          (λ below. (record { size = c.args.level - 1; frame = x.frame; rights = x.rights }, refl))
          (c.requires.absent c.args.extent.now.from (omega arith) c.args.extent.now.some)
    ]

-- through a new table
pub add_table-below-requires-clause-room : goal.add_table-below-requires-clause-room
add_table-below-requires-clause-room t c =
    omega (
      arith,
      c.requires.room,
      count_absent (memory c.args.pool.now.words) c.args.level (c.args.level - 1) c.args.table c.index_of-index.result
          c.args.extent.now.from (is_large c.args.extent.now) (omega arith)
          (low c.args.level c.if-level-eq1.false c.requires.low) c.index_of-index.ensures.exact c.in-Absent.ensures.is
          (λ (e : c.args.level - 1 ≡ 1). elim c.else-level-eq2.branch [
            | else-level-eq2-via-then-level-eq2+else-is_large w ↦ sym w.is_large.ensures ∙ w.if-is_large.false
            | else-level-eq2-via-else-level-eq2 w ↦ absurd (w.if-level-eq2.false (omega arith))
          ]),
    )

-- the table that was added is lacking no more
added_count : (t : ℕ) (c : After-add_table-below t)
    → tables_lacking_at (memory c.args.pool.now.words) c.args.level c.args.table (is_large c.args.extent.now) c.args.extent.now.from
    ≡ tables_lacking_at (memory c.add_table-below.new.pool.words) c.args.level c.args.table (is_large c.args.extent.now)
    c.args.extent.now.from + 1
added_count t c =
    count_added (memory c.args.pool.now.words) (memory c.add_table-below.new.pool.words) c.args.level (c.args.level - 1) c.args.table
    c.index_of-index.result c.add_table-below.result c.args.extent.now.from
    (is_large c.args.extent.now) (omega arith) (low c.args.level c.if-level-eq1.false c.requires.low) c.index_of-index.ensures.exact
    c.in-Absent.ensures.is c.add_table-below.ensures.names
    (zeroed_bare c.add_table-below.new.pool.words c.add_table-below.result c.add_table-below.ensures.zeroed)
    (λ (e : c.args.level - 1 ≡ 1). elim c.else-level-eq2.branch [
      | else-level-eq2-via-then-level-eq2+else-is_large w ↦ sym w.is_large.ensures ∙ w.if-is_large.false
      | else-level-eq2-via-else-level-eq2 w ↦ absurd (w.if-level-eq2.false (omega arith))
    ])

pub map_extent-requires-else-level-eq2 : goal.map_extent-requires-else-level-eq2
map_extent-requires-else-level-eq2 t c =
    let some : 1 ≤ c.args.level - 1 = low c.args.level c.if-level-eq1.false c.requires.low in
    let l = c.args.level - 1 in
    let mid = c.add_table-below.new.pool in
    let n = memory mid.words in
    let added = added_count t (goal.at.map_extent-requires-else-level-eq2 t c).After-add_table-below in
    let below =
    count_through n c.args.level l c.args.table c.index_of-index.result c.add_table-below.result c.args.extent.now.from
    (is_large c.args.extent.now) (omega arith) some c.index_of-index.ensures.exact c.add_table-below.ensures.names in (
      omega arith,
      (
        some,
        (
          omega (arith, c.requires.high),
          (
            below_level mid l c.args.table c.index_of-index.result c.add_table-below.result c.args.level (omega arith)
                (moved_tree c.args.pool.now mid c.args.level c.args.table [] c.requires.tree c.add_table-below.ensures.moves)
                c.index_of-index.ensures.inside c.add_table-below.ensures.names,
            (
              (λ p from to.
                  sym (absent_below n c.args.level l c.args.table c.index_of-index.result c.add_table-below.result c.args.extent.now.from
                  c.args.extent.now.to p (omega arith) some c.args.extent.now.one_span c.index_of-index.ensures.exact
                  c.add_table-below.ensures.names from to) ∙ c.add_table-below.ensures.leaves p ∙ c.requires.absent p from to),
              omega
                  (arith, c.requires.room, added, below, c.add_table-below.ensures.count),
            ),
          ),
        ),
      ),
    )

-- what was mapped below the table that was added, seen from this one
added_through : (t : ℕ) (c : After-map_extent-else-level-eq2 t)
    → Through c.add_table-below.new.pool c.map_extent-else-level-eq2.new.pool c.args.level (c.args.level - 1) c.args.table
    c.index_of-index.result c.add_table-below.result c.args.extent.now.from c.args.extent.now.to (extent_states c.args.extent.now)
added_through t c =
    let mid = c.add_table-below.new.pool in
    let new = c.map_extent-else-level-eq2.new.pool in
    let l = c.args.level - 1 in
    let some : 1 ≤ c.args.level - 1 = low c.args.level c.if-level-eq1.false c.requires.low in
    map_through mid new c.args.level l c.args.table c.index_of-index.result c.add_table-below.result c.args.extent.now.from
    c.args.extent.now.to (extent_states c.args.extent.now) (omega arith) some c.args.extent.now.one_span
    (moved_tree c.args.pool.now mid c.args.level c.args.table [] c.requires.tree c.add_table-below.ensures.moves)
    c.index_of-index.ensures.inside c.index_of-index.ensures.exact c.add_table-below.ensures.names c.map_extent-else-level-eq2.ensures.moves
    c.map_extent-else-level-eq2.ensures.maps

pub returns-else-level-eq2-clause-moves : goal.returns-else-level-eq2-clause-moves
returns-else-level-eq2-clause-moves t c =
    let mid = c.add_table-below.new.pool in
    let new = c.map_extent-else-level-eq2.new.pool in
    let l = c.args.level - 1 in
    let some : 1 ≤ c.args.level - 1 = low c.args.level c.if-level-eq1.false c.requires.low in
    let through = added_through t (goal.at.returns-else-level-eq2-clause-moves t c).After-map_extent-else-level-eq2 in
    moves_then c.args.pool.now mid new c.args.level c.args.table [] [] c.add_table-below.ensures.moves through.0

pub returns-else-level-eq2-clause-spelled : goal.returns-else-level-eq2-clause-spelled
returns-else-level-eq2-clause-spelled t c s =
    let mid = c.add_table-below.new.pool in
    through_spelled mid c.map_extent-else-level-eq2.new.pool c.args.level (c.args.level - 1) c.args.table c.index_of-index.result
    c.add_table-below.result [] (omega arith)
    (moved_tree c.args.pool.now mid c.args.level c.args.table [] c.requires.tree c.add_table-below.ensures.moves)
    c.index_of-index.ensures.inside c.add_table-below.ensures.names c.map_extent-else-level-eq2.ensures.moves
    c.map_extent-else-level-eq2.ensures.spelled (c.add_table-below.ensures.spelled s)

pub returns-else-level-eq2-clause-maps : goal.returns-else-level-eq2-clause-maps
returns-else-level-eq2-clause-maps t c =
    let mid = c.add_table-below.new.pool in
    let new = c.map_extent-else-level-eq2.new.pool in
    let l = c.args.level - 1 in
    let some : 1 ≤ c.args.level - 1 = low c.args.level c.if-level-eq1.false c.requires.low in
    let through = added_through t (goal.at.returns-else-level-eq2-clause-maps t c).After-map_extent-else-level-eq2 in
    maps_over c.args.pool.now mid new c.args.level c.args.table c.args.extent.now.from c.args.extent.now.to
    (extent_states c.args.extent.now) c.add_table-below.ensures.leaves c.add_table-below.ensures.moves
    (c.add_table-below.ensures.maps c.args.extent.now.from c.args.extent.now.to c.args.extent.now.some (sym c.index_of-index.ensures.exact))
    through.1

pub returns-else-level-eq2-clause-made : goal.returns-else-level-eq2-clause-made
returns-else-level-eq2-clause-made t c =
    let mid = c.add_table-below.new.pool in
    let new = c.map_extent-else-level-eq2.new.pool in
    let l = c.args.level - 1 in
    let some : 1 ≤ c.args.level - 1 = low c.args.level c.if-level-eq1.false c.requires.low in
    let through = added_through t (goal.at.returns-else-level-eq2-clause-made t c).After-map_extent-else-level-eq2 in
    made_through (memory new.words) c.args.level l c.args.table c.index_of-index.result c.add_table-below.result c.args.extent.now.from
    (is_large c.args.extent.now) (omega arith) c.index_of-index.ensures.exact through.2 c.map_extent-else-level-eq2.ensures.made

pub returns-else-level-eq2-clause-spared : goal.returns-else-level-eq2-clause-spared
returns-else-level-eq2-clause-spared t c lower large =
    let mid = c.add_table-below.new.pool in
    let new = c.map_extent-else-level-eq2.new.pool in
    let l = c.args.level - 1 in
    let some : 1 ≤ c.args.level - 1 = low c.args.level c.if-level-eq1.false c.requires.low in
    let through = added_through t (goal.at.returns-else-level-eq2-clause-spared t c).After-map_extent-else-level-eq2 in
    let deep : 1 < c.args.level - 1 = elim c.else-level-eq2.branch [
      | else-level-eq2-via-then-level-eq2+else-is_large w ↦ absurd (true_false (sym large ∙ sym w.is_large.ensures ∙ w.if-is_large.false))
      | else-level-eq2-via-else-level-eq2 w ↦ deeper c.args.level lower w.if-level-eq2.false
    ] in
    spared_added (memory c.args.pool.now.words) (memory mid.words) (memory new.words) c.args.level l c.args.table c.index_of-index.result
    c.add_table-below.result c.args.extent.now.from (omega arith) deep c.index_of-index.ensures.exact c.in-Absent.ensures.is through.2
    (zeroed_bare mid.words c.add_table-below.result c.add_table-below.ensures.zeroed)
    (c.map_extent-else-level-eq2.ensures.spared deep large)

pub returns-else-level-eq2-clause-count : goal.returns-else-level-eq2-clause-count
returns-else-level-eq2-clause-count t c =
    let some : 1 ≤ c.args.level - 1 = low c.args.level c.if-level-eq1.false c.requires.low in
    let l = c.args.level - 1 in
    let mid = c.add_table-below.new.pool in
    let n = memory mid.words in
    let added = added_count t (goal.at.returns-else-level-eq2-clause-count t c).After-add_table-below in
    let below =
    count_through n c.args.level l c.args.table c.index_of-index.result c.add_table-below.result c.args.extent.now.from
    (is_large c.args.extent.now) (omega arith) some c.index_of-index.ensures.exact c.add_table-below.ensures.names in
    omega (arith, added, below, c.add_table-below.ensures.count, c.map_extent-else-level-eq2.ensures.count)

-- in which order
pub returns-then-level-eq1-clause-order : goal.returns-then-level-eq1-clause-order
returns-then-level-eq1-clause-order t c s =
    fills_run c.args.pool.now c.write_run.new.pool c.args.table c.args.extent.now.from c.args.extent.now.to _ c.write_run.ensures.trail
    c.write_run.ensures.free c.write_run.ensures.run c.args.extent.now.one_span (λ p low high.
    page_blank c.args.pool.now.words c.args.level c.args.table p c.if-level-eq1.true s (c.requires.absent p low high))

pub returns-in-Table-clause-order : goal.returns-in-Table-clause-order
returns-in-Table-clause-order t c s =
    c.map_extent.ensures.order (named_spelled c.args.pool.now.words c.args.level (c.args.level - 1) c.args.table c.index_of-index.result
    c.in-Table.below (omega arith) s c.index_of-index.ensures.inside c.in-Table.ensures.is)

pub returns-else-level-eq2-clause-order : goal.returns-else-level-eq2-clause-order
returns-else-level-eq2-clause-order t c s =
    let mid = c.add_table-below.new.pool in
    fills_after c.args.pool.now mid c.map_extent-else-level-eq2.new.pool (c.add_table-below.ensures.order s)
    (c.map_extent-else-level-eq2.ensures.order (named_spelled mid.words c.args.level (c.args.level - 1) c.args.table
    c.index_of-index.result c.add_table-below.result (omega arith) (c.add_table-below.ensures.spelled s)
    c.index_of-index.ensures.inside c.add_table-below.ensures.names))
