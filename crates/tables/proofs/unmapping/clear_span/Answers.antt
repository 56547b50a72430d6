use Rattle.std.proofs.Common.{◌≡◌, ℕ, ◌+◌, ◌-◌, ◌/◌, ◌%◌, ◌<◌, ◌≤◌, [], ◌∷◌, length, refl, sym, ap, subst, ◌∙◌, arith}
use Rattle.dmatypes.specs.declared.page.TheConstants.{SPAN_PAGES}
use Rattle.std.proofs.lemmas.Bool.Decides.{nat_tests}
use Rattle.vtdbits.specs.Entry.{entry_of, look}
use Rattle.vtdbits.specs.declared.entry.SsEntry.TheVariants.{Absent, Table, LargeLeaf}
use Rattle.tables.specs.Tree.{index_in}
use Rattle.tables.specs.declared.entries.TheConstants.{TABLE_ENTRIES}
use Rattle.tables.specs.Pool.{Pool, word, occurs, memory, IsTree}
use Rattle.tables.specs.Changes.{TakesAndGivesFrames, KeepsSpellings, UnmapsPages}
use Rattle.tables.proofs.unmaps.UnderEntry.{root_in, root_taken, below_in, moved_tree}
use Rattle.tables.proofs.walks.Words.{memory_at}
use Rattle.tables.proofs.walks.Onward.{index_lt}
use Rattle.tables.proofs.walks.Steps.{leaf_under}
use Rattle.vtdbits.specs.Entry.{MayStandAt}
use Rattle.tables.specs.Tree.{leaf_from}
use Rattle.std.proofs.Common.{Option, Some, None, IsSome, inl, inr}
use Rattle.tables.specs.Extents.{WritesEntries}
use Rattle.tables.specs.Tree.{LeafEntry}
use Rattle.tables.proofs.unmaps.Cleared.{run_through, large_gone}
use Rattle.tables.proofs.unmaps.CutTable.{table_cut, under_cut}
use Rattle.tables.proofs.maps.Large.{under_written}
use Rattle.tables.proofs.maps.Runs.{run_moves}
use Rattle.tables.proofs.spelled.Runs.{run_spelled}
use Rattle.tables.proofs.spelled.UnderEntry.{leaf_spelled, through_spelled}
use Rattle.tables.proofs.unmaps.SplitLeaf.{split_unmaps, leaves_splitting_whole, leaves_splitting_table, leaves_splitting_large}
use Rattle.tables.proofs.trails.Steps.{after, clears_word}
use Rattle.tables.proofs.unmapping.clear_span.Goals as goal
use Rattle.tables.proofs.unmapping.clear_span.Goals.{After-write, After-write-then-is_whole, After-clear_run-in-LargeLeaf}

pub entry-requires-clause-table : goal.entry-requires-clause-table
entry-requires-clause-table c = root_in c.args.pool.now 1 c.args.table c.requires.tree

pub clear_run-requires-clause-table : goal.clear_run-requires-clause-table
clear_run-requires-clause-table c =
    root_in c.args.pool.now 0 c.in-Table.below (below_in c.args.pool.now 1 c.args.table c.index_of-index.result c.in-Table.below
    c.requires.tree c.index_of-index.ensures.inside c.in-Table.ensures.is)

pub clear_run-requires-clause-taken : goal.clear_run-requires-clause-taken
clear_run-requires-clause-taken c =
    root_taken c.args.pool.now 0 c.in-Table.below (below_in c.args.pool.now 1 c.args.table c.index_of-index.result c.in-Table.below
    c.requires.tree c.index_of-index.ensures.inside c.in-Table.ensures.is)

-- a run of cleared entries in a table under an entry
run_stays : (old new : Pool) (t i c from to : ℕ) → IsTree old 2 t → i < TABLE_ENTRIES → memory old.words 2 t i ≡ Table c
    → WritesEntries old.words new.words c from to (λ p. Absent)
    → ((p : ℕ) → from ≤ p → p < to → word new.words c (p % SPAN_PAGES) ≡ 0) → new.free ≡ old.free → new.frames ≡ old.frames → from < to
    → from / SPAN_PAGES ≡ (to - 1) / SPAN_PAGES → KeepsSpellings old new 2 t
run_stays old new t i c from to tree a names run zeroed free frames some one =
    through_spelled old new 2 1 t i c [] refl tree a names (run_moves old new c from to (λ p. Absent) run free frames)
    (run_spelled old new c from to (λ p. Absent) run some one (λ p low high _. zeroed p low high))

-- less than a whole span
part : (from to : ℕ) → from < to → from / SPAN_PAGES ≡ (to - 1) / SPAN_PAGES → (to - from ≡ SPAN_PAGES → ⊥) → to - from < SPAN_PAGES
part from to some one ne = omega arith

-- the first page of a whole one
even : (from to : ℕ) → from < to → from / SPAN_PAGES ≡ (to - 1) / SPAN_PAGES → to - from ≡ SPAN_PAGES
    → (from % SPAN_PAGES ≡ 0) × (from + SPAN_PAGES ≡ to)
even from to some one e = (omega arith, omega arith)

-- through a table, in part
pub returns-then-not-is_whole-clause-moves : goal.returns-then-not-is_whole-clause-moves
returns-then-not-is_whole-clause-moves c =
    (run_through c.args.pool.now c.clear_run.new.pool c.args.table c.index_of-index.result c.in-Table.below c.args.from c.args.to
    c.requires.tree c.index_of-index.ensures.inside c.index_of-index.ensures.exact c.in-Table.ensures.is c.clear_run.ensures.run
    c.clear_run.ensures.free c.clear_run.ensures.frames c.requires.some c.requires.one_span
    (part c.args.from c.args.to c.requires.some c.requires.one_span c.if-not-is_whole.true)).0

pub returns-then-not-is_whole-clause-unmaps : goal.returns-then-not-is_whole-clause-unmaps
returns-then-not-is_whole-clause-unmaps c =
    (run_through c.args.pool.now c.clear_run.new.pool c.args.table c.index_of-index.result c.in-Table.below c.args.from c.args.to
    c.requires.tree c.index_of-index.ensures.inside c.index_of-index.ensures.exact c.in-Table.ensures.is c.clear_run.ensures.run
    c.clear_run.ensures.free c.clear_run.ensures.frames c.requires.some c.requires.one_span
    (part c.args.from c.args.to c.requires.some c.requires.one_span c.if-not-is_whole.true)).1

pub returns-then-not-is_whole-clause-spelled : goal.returns-then-not-is_whole-clause-spelled
returns-then-not-is_whole-clause-spelled c =
    run_stays c.args.pool.now c.clear_run.new.pool c.args.table c.index_of-index.result c.in-Table.below c.args.from c.args.to
    c.requires.tree c.index_of-index.ensures.inside c.in-Table.ensures.is c.clear_run.ensures.run c.clear_run.ensures.zeroed
    c.clear_run.ensures.free c.clear_run.ensures.frames c.requires.some c.requires.one_span

pub returns-then-not-is_whole-clause-split : goal.returns-then-not-is_whole-clause-split
returns-then-not-is_whole-clause-split c =
    sym (leaves_splitting_table (memory c.args.pool.now.words) c.args.table c.args.from c.args.to c.in-Table.below
    (part c.args.from c.args.to c.requires.some c.requires.one_span c.if-not-is_whole.true)
    (ap (λ i. memory c.args.pool.now.words 2 c.args.table i) (sym c.index_of-index.ensures.exact) ∙ c.in-Table.ensures.is))

pub returns-then-not-is_whole-clause-count : goal.returns-then-not-is_whole-clause-count
returns-then-not-is_whole-clause-count c =
    omega (
      arith,
      leaves_splitting_table (memory c.args.pool.now.words) c.args.table c.args.from c.args.to c.in-Table.below
          (part c.args.from c.args.to c.requires.some c.requires.one_span c.if-not-is_whole.true)
          (ap (λ i. memory c.args.pool.now.words 2 c.args.table i) (sym c.index_of-index.ensures.exact) ∙ c.in-Table.ensures.is),
      ap length c.clear_run.ensures.free,
    )

pub write-requires-clause-frame : goal.write-requires-clause-frame
write-requires-clause-frame c = omega (arith, root_in c.args.pool.now 1 c.args.table c.requires.tree, c.clear_run.ensures.frames)

pub write-requires-clause-taken : goal.write-requires-clause-taken
write-requires-clause-taken c =
    ap (occurs c.args.table) c.clear_run.ensures.free ∙ root_taken c.args.pool.now 1 c.args.table c.requires.tree

-- what was written in the place of its entry is seen as absent
cut_absent : (c : After-write) → memory c.write.new.self.words 2 c.args.table c.index_of-index.result ≡ Absent
unfolding look entry_of
cut_absent c =
    memory_at c.write.new.self.words 2 c.args.table c.index_of-index.result ∙ ap (look 2) c.write.ensures.wrote.0 ∙ grind (arith, nat_tests)

-- the table itself, with its whole span
was_cut : (c : After-write)
    → TakesAndGivesFrames c.args.pool.now c.write.new.self 2 c.args.table (c.in-Table.below ∷ [])
    × UnmapsPages c.args.pool.now c.write.new.self 2 c.args.table c.args.from c.args.to (c.in-Table.below ∷ [])
was_cut c =
    let e = even c.args.from c.args.to c.requires.some c.requires.one_span c.if-not-is_whole.false in
    let all =
    table_cut c.args.pool.now c.clear_run.new.pool c.write.new.self c.args.table c.index_of-index.result c.in-Table.below c.args.from _
    c.requires.tree c.index_of-index.ensures.inside c.index_of-index.ensures.exact e.0 c.in-Table.ensures.is
    (subst (λ to. WritesEntries c.args.pool.now.words c.clear_run.new.pool.words c.in-Table.below c.args.from to (λ p. Absent)) (sym e.1)
    c.clear_run.ensures.run)
    (λ p low high. c.clear_run.ensures.zeroed p low (omega (arith, high, e.1))) c.clear_run.ensures.free c.clear_run.ensures.frames
    c.write.ensures.wrote c.write.ensures.free c.write.ensures.frames (cut_absent c) in
    (all.0, subst (λ to. UnmapsPages c.args.pool.now c.write.new.self 2 c.args.table c.args.from to (c.in-Table.below ∷ [])) e.1 all.1)

pub returns-else-not-is_whole-clause-moves : goal.returns-else-not-is_whole-clause-moves
returns-else-not-is_whole-clause-moves c = (was_cut (goal.at.returns-else-not-is_whole-clause-moves c).After-write).0

pub returns-else-not-is_whole-clause-unmaps : goal.returns-else-not-is_whole-clause-unmaps
returns-else-not-is_whole-clause-unmaps c = (was_cut (goal.at.returns-else-not-is_whole-clause-unmaps c).After-write).1

pub returns-else-not-is_whole-clause-spelled : goal.returns-else-not-is_whole-clause-spelled
returns-else-not-is_whole-clause-spelled c =
    let absent = cut_absent (goal.at.returns-else-not-is_whole-clause-spelled c).After-write in
    leaf_spelled c.args.pool.now c.write.new.self 1 c.args.table c.index_of-index.result (c.in-Table.below ∷ []) Absent c.requires.tree
    c.index_of-index.ensures.inside
    (under_cut c.args.pool.now c.clear_run.new.pool c.write.new.self c.args.table c.index_of-index.result c.in-Table.below c.args.from
    c.args.to _ c.requires.tree c.index_of-index.ensures.inside c.in-Table.ensures.is c.clear_run.ensures.run c.clear_run.ensures.free
    c.clear_run.ensures.frames c.write.ensures.wrote c.write.ensures.free c.write.ensures.frames absent)
    absent (λ x e. cc) (λ _. c.write.ensures.wrote.0)

pub returns-else-not-is_whole-clause-split : goal.returns-else-not-is_whole-clause-split
returns-else-not-is_whole-clause-split c =
    sym (leaves_splitting_whole (memory c.args.pool.now.words) 2 c.args.table c.args.from c.args.to
    (omega (arith, c.if-not-is_whole.false)))

pub returns-else-not-is_whole-clause-count : goal.returns-else-not-is_whole-clause-count
returns-else-not-is_whole-clause-count c =
    omega (
      arith,
      leaves_splitting_whole (memory c.args.pool.now.words) 2 c.args.table c.args.from c.args.to (omega (arith, c.if-not-is_whole.false)),
      ap length c.clear_run.ensures.free,
      ap length c.write.ensures.free,
    )

-- a large leaf, with its whole span
pub write-requires-then-is_whole-clause-frame : goal.write-requires-then-is_whole-clause-frame
write-requires-then-is_whole-clause-frame c = root_in c.args.pool.now 1 c.args.table c.requires.tree

pub write-requires-then-is_whole-clause-taken : goal.write-requires-then-is_whole-clause-taken
write-requires-then-is_whole-clause-taken c = root_taken c.args.pool.now 1 c.args.table c.requires.tree

large_absent : (c : After-write-then-is_whole)
    → memory c.write-then-is_whole.new.self.words 2 c.args.table c.index_of-index.result ≡ Absent
unfolding look entry_of
large_absent c =
    memory_at c.write-then-is_whole.new.self.words 2 c.args.table c.index_of-index.result
    ∙ ap (look 2) c.write-then-is_whole.ensures.wrote.0
    ∙ grind (arith, nat_tests)

leaf_gone : (c : After-write-then-is_whole)
    → TakesAndGivesFrames c.args.pool.now c.write-then-is_whole.new.self 2 c.args.table []
    × UnmapsPages c.args.pool.now c.write-then-is_whole.new.self 2 c.args.table c.args.from c.args.to []
leaf_gone c =
    let e = even c.args.from c.args.to c.requires.some c.requires.one_span c.if-is_whole.true in
    let new = c.write-then-is_whole.new.self in
    let all =
    large_gone c.args.pool.now new c.args.table c.index_of-index.result c.args.from _ c.in-LargeLeaf.leaf c.requires.tree
    c.index_of-index.ensures.inside c.index_of-index.ensures.exact e.0 c.write-then-is_whole.ensures.wrote
    c.write-then-is_whole.ensures.free c.write-then-is_whole.ensures.frames c.in-LargeLeaf.ensures.is (large_absent c) in
    (all.0, subst (λ to. UnmapsPages c.args.pool.now new 2 c.args.table c.args.from to []) e.1 all.1)

pub returns-then-is_whole-clause-moves : goal.returns-then-is_whole-clause-moves
returns-then-is_whole-clause-moves c = (leaf_gone (goal.at.returns-then-is_whole-clause-moves c).After-write-then-is_whole).0

pub returns-then-is_whole-clause-unmaps : goal.returns-then-is_whole-clause-unmaps
returns-then-is_whole-clause-unmaps c = (leaf_gone (goal.at.returns-then-is_whole-clause-unmaps c).After-write-then-is_whole).1

pub returns-then-is_whole-clause-spelled : goal.returns-then-is_whole-clause-spelled
returns-then-is_whole-clause-spelled c =
    let new = c.write-then-is_whole.new.self in
    let absent = large_absent (goal.at.returns-then-is_whole-clause-spelled c).After-write-then-is_whole in
    leaf_spelled c.args.pool.now new 1 c.args.table c.index_of-index.result [] Absent c.requires.tree c.index_of-index.ensures.inside
    (under_written c.args.pool.now new 1 c.args.table c.index_of-index.result _ (LargeLeaf c.in-LargeLeaf.leaf) Absent
    c.write-then-is_whole.ensures.wrote c.write-then-is_whole.ensures.free c.write-then-is_whole.ensures.frames
    c.in-LargeLeaf.ensures.is absent (λ below. refl) (λ below. refl))
    absent (λ x e. cc) (λ _. c.write-then-is_whole.ensures.wrote.0)

pub returns-then-is_whole-clause-split : goal.returns-then-is_whole-clause-split
returns-then-is_whole-clause-split c =
    sym (leaves_splitting_whole (memory c.args.pool.now.words) 2 c.args.table c.args.from c.args.to (omega (arith, c.if-is_whole.true)))

pub returns-then-is_whole-clause-count : goal.returns-then-is_whole-clause-count
returns-then-is_whole-clause-count c =
    omega (
      arith,
      leaves_splitting_whole (memory c.args.pool.now.words) 2 c.args.table c.args.from c.args.to (omega (arith, c.if-is_whole.true)),
      ap length c.write-then-is_whole.ensures.free,
    )

-- a large leaf, in part
pub split-below-requires-clause-room : goal.split-below-requires-clause-room
split-below-requires-clause-room c =
    omega (
      arith,
      c.requires.room,
      leaves_splitting_large (memory c.args.pool.now.words) c.args.table c.args.from c.args.to c.in-LargeLeaf.leaf
          (part c.args.from c.args.to c.requires.some c.requires.one_span c.if-is_whole.false)
          (ap (λ i. memory c.args.pool.now.words 2 c.args.table i) (sym c.index_of-index.ensures.exact) ∙ c.in-LargeLeaf.ensures.is),
    )

pub clear_run-requires-in-LargeLeaf-clause-table : goal.clear_run-requires-in-LargeLeaf-clause-table
clear_run-requires-in-LargeLeaf-clause-table c =
    let mid = c.split-below.new.pool in
    let s = c.split-below.ensures.split in
    let tree : IsTree c.split-below.new.pool 2 c.args.table =
    moved_tree c.args.pool.now mid 2 c.args.table [] c.requires.tree c.split-below.ensures.moves in
    root_in mid 0 c.split-below.result
    (below_in mid 1 c.args.table (index_in 1 c.args.from) c.split-below.result tree (index_lt 1 c.args.from) s.is)

pub clear_run-requires-in-LargeLeaf-clause-taken : goal.clear_run-requires-in-LargeLeaf-clause-taken
clear_run-requires-in-LargeLeaf-clause-taken c =
    let mid = c.split-below.new.pool in
    let s = c.split-below.ensures.split in
    let tree : IsTree c.split-below.new.pool 2 c.args.table =
    moved_tree c.args.pool.now mid 2 c.args.table [] c.requires.tree c.split-below.ensures.moves in
    root_taken mid 0 c.split-below.result
    (below_in mid 1 c.args.table (index_in 1 c.args.from) c.split-below.result tree (index_lt 1 c.args.from) s.is)

part_gone : (c : After-clear_run-in-LargeLeaf)
    → TakesAndGivesFrames c.args.pool.now c.clear_run-in-LargeLeaf.new.pool 2 c.args.table []
    × UnmapsPages c.args.pool.now c.clear_run-in-LargeLeaf.new.pool 2 c.args.table c.args.from c.args.to []
part_gone c =
    let mid = c.split-below.new.pool in
    let s = c.split-below.ensures.split in
    let tree : IsTree c.split-below.new.pool 2 c.args.table =
    moved_tree c.args.pool.now mid 2 c.args.table [] c.requires.tree c.split-below.ensures.moves in
    let new = c.clear_run-in-LargeLeaf.new.pool in
    let short = part c.args.from c.args.to c.requires.some c.requires.one_span c.if-is_whole.false in
    let run =
    run_through mid new c.args.table (index_in 1 c.args.from) c.split-below.result c.args.from c.args.to tree (index_lt 1 c.args.from)
    refl s.is c.clear_run-in-LargeLeaf.ensures.run c.clear_run-in-LargeLeaf.ensures.free c.clear_run-in-LargeLeaf.ensures.frames
    c.requires.some c.requires.one_span short in
    let all =
    split_unmaps c.args.pool.now mid new c.args.table (index_in 1 c.args.from) c.args.from c.args.to c.split-below.result
    c.in-LargeLeaf.leaf c.requires.tree (index_lt 1 c.args.from) refl s c.requires.some short run.0 run.1 in
    all

pub returns-else-is_whole-clause-moves : goal.returns-else-is_whole-clause-moves
returns-else-is_whole-clause-moves c = (part_gone (goal.at.returns-else-is_whole-clause-moves c).After-clear_run-in-LargeLeaf).0

pub returns-else-is_whole-clause-unmaps : goal.returns-else-is_whole-clause-unmaps
returns-else-is_whole-clause-unmaps c = (part_gone (goal.at.returns-else-is_whole-clause-unmaps c).After-clear_run-in-LargeLeaf).1

pub returns-else-is_whole-clause-spelled : goal.returns-else-is_whole-clause-spelled
returns-else-is_whole-clause-spelled c s =
    let mid = c.split-below.new.pool in
    run_stays mid c.clear_run-in-LargeLeaf.new.pool c.args.table (index_in 1 c.args.from) c.split-below.result c.args.from c.args.to
    (moved_tree c.args.pool.now mid 2 c.args.table [] c.requires.tree c.split-below.ensures.moves) (index_lt 1 c.args.from)
    c.split-below.ensures.split.is c.clear_run-in-LargeLeaf.ensures.run c.clear_run-in-LargeLeaf.ensures.zeroed
    c.clear_run-in-LargeLeaf.ensures.free c.clear_run-in-LargeLeaf.ensures.frames c.requires.some c.requires.one_span
    (c.split-below.ensures.spelled s)

pub returns-else-is_whole-clause-split : goal.returns-else-is_whole-clause-split
returns-else-is_whole-clause-split c =
    sym (leaves_splitting_large (memory c.args.pool.now.words) c.args.table c.args.from c.args.to c.in-LargeLeaf.leaf
    (part c.args.from c.args.to c.requires.some c.requires.one_span c.if-is_whole.false)
    (ap (λ i. memory c.args.pool.now.words 2 c.args.table i) (sym c.index_of-index.ensures.exact) ∙ c.in-LargeLeaf.ensures.is))

pub returns-else-is_whole-clause-count : goal.returns-else-is_whole-clause-count
returns-else-is_whole-clause-count c =
    omega (
      arith,
      leaves_splitting_large (memory c.args.pool.now.words) c.args.table c.args.from c.args.to c.in-LargeLeaf.leaf
          (part c.args.from c.args.to c.requires.some c.requires.one_span c.if-is_whole.false)
          (ap (λ i. memory c.args.pool.now.words 2 c.args.table i) (sym c.index_of-index.ensures.exact) ∙ c.in-LargeLeaf.ensures.is),
      c.split-below.ensures.count,
      ap length c.clear_run-in-LargeLeaf.ensures.free,
    )

-- the pages are there
not_there : (o : Option LeafEntry) → o ≡ None → IsSome o → ⊥
not_there None e h = cc
not_there (Some x) e h = cc

pub unreachable-requires : goal.unreachable-requires
unreachable-requires c =
    elim c.in-Absent.is [
      | inl e ↦ not_there (leaf_from (memory c.args.pool.now.words) 2 c.args.table c.args.from)
          (leaf_under (memory c.args.pool.now.words) 1 c.args.table c.args.from Absent
          (ap (λ i. memory c.args.pool.now.words 2 c.args.table i) (sym c.index_of-index.ensures.exact) ∙ c.entry.ensures.is ∙ e))
          (c.requires.there c.args.from (omega arith) c.requires.some)
      | inr (x, e) ↦ let wrong = subst (λ y. MayStandAt 2 y) e c.entry.ensures.stands in omega arith
    ]

-- in which order
pub returns-else-not-is_whole-clause-order : goal.returns-else-not-is_whole-clause-order
returns-else-not-is_whole-clause-order c =
    after c.args.pool.now c.clear_run.new.pool c.write.new.self c.clear_run.ensures.order
    (clears_word c.clear_run.new.pool c.write.new.self c.args.table c.index_of-index.result c.write.ensures.trail c.write.ensures.free
    c.write.ensures.wrote)

pub returns-then-is_whole-clause-order : goal.returns-then-is_whole-clause-order
returns-then-is_whole-clause-order c =
    clears_word c.args.pool.now c.write-then-is_whole.new.self c.args.table c.index_of-index.result c.write-then-is_whole.ensures.trail
    c.write-then-is_whole.ensures.free c.write-then-is_whole.ensures.wrote

pub returns-else-is_whole-clause-order : goal.returns-else-is_whole-clause-order
returns-else-is_whole-clause-order c =
    after c.args.pool.now c.split-below.new.pool c.clear_run-in-LargeLeaf.new.pool c.split-below.ensures.order
    c.clear_run-in-LargeLeaf.ensures.order
