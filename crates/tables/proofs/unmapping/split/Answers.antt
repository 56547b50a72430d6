use Rattle.std.proofs.Common.{◌≡◌, ℕ, ◌+◌, ◌-◌, ◌*◌, ◌/◌, ◌%◌, ◌<◌, ◌≤◌, [], ap, ap₂, subst, ◌∙◌, ◌++◌, ◌∷◌, arith}
use Rattle.dmatypes.specs.declared.page.TheConstants.{SPAN_PAGES}
use Rattle.dmatypes.specs.World.{Target}
use Rattle.vtdbits.specs.Translation.{target}
use Rattle.vtdbits.specs.declared.entry.SsEntry.TheVariants.{Leaf}
use Rattle.tables.specs.Tree.{index_in}
use Rattle.tables.specs.declared.entries.TheConstants.{TABLE_ENTRIES}
use Rattle.tables.specs.Pool.{IsWrite, memory, moment_of, occurs, word}
use Rattle.tables.proofs.sums.OneFrame.{one_if_same-self}
use Rattle.tables.proofs.unmaps.SplitLeaf.{leaf_stays, splits}
use Rattle.tables.proofs.unmaps.UnderEntry.{root_in, root_taken, under_moves}
use Rattle.tables.proofs.walks.Onward.{index_lt}
use Rattle.tables.proofs.spelled.Runs.{split_spelled}
use Rattle.tables.proofs.trails.Steps.{after, fills, names}
use Rattle.tables.proofs.unmapping.split.Goals as goal
use Rattle.tables.proofs.unmapping.split.Goals.{After-write}

pub write_run-requires-clause-taken : goal.write_run-requires-clause-taken
write_run-requires-clause-taken c =
    omega (
      arith,
      c.take-below.ensures.free c.take-below.result,
      c.take-below.ensures.old_pool.once c.take-below.result,
      one_if_same-self c.take-below.result,
    )

-- the leaves of the run, page by page
leaves : (page number rights : ℕ) (x : Target) → number ≡ x.frame → rights ≡ x.rights → (p : ℕ) → page / SPAN_PAGES * SPAN_PAGES ≤ p
    → p < page / SPAN_PAGES * SPAN_PAGES + SPAN_PAGES
    → Leaf (target (number + (p - page / SPAN_PAGES * SPAN_PAGES)) rights) ≡ Leaf (target (x.frame + p % SPAN_PAGES) x.rights)
leaves page number rights x frame same p low high =
    let offset : number + (p - page / SPAN_PAGES * SPAN_PAGES) ≡ x.frame + p % SPAN_PAGES = omega arith in
    ap₂ (λ f r. Leaf (target f r)) offset same

pub write-requires-clause-frame : goal.write-requires-clause-frame
write-requires-clause-frame c =
    omega (arith, root_in c.args.pool.now 1 c.args.table c.requires.tree, c.take-below.ensures.frames, c.write_run.ensures.frames)

pub write-requires-clause-taken : goal.write-requires-clause-taken
write-requires-clause-taken c =
    omega (
      arith,
      root_taken c.args.pool.now 1 c.args.table c.requires.tree,
      c.take-below.ensures.free c.args.table,
      ap (occurs c.args.table) c.write_run.ensures.free,
    )

-- the table is named
named : (c : After-write) → IsWrite c.write_run.new.pool.words c.write.new.self.words c.args.table (index_in 1 c.args.page) c.encode.result
named c =
    subst (λ i. IsWrite c.write_run.new.pool.words c.write.new.self.words c.args.table i c.encode.result) c.index_of.ensures.exact
    c.write.ensures.wrote

pub returns-clause-split : goal.returns-clause-split
returns-clause-split c =
    splits c.args.pool.now c.take-below.new.self c.write_run.new.pool c.write.new.self c.args.table (index_in 1 c.args.page) c.args.page
    c.take-below.result c.encode.result _ c.args.leaf c.requires.tree (index_lt 1 c.args.page) c.requires.leaf
    c.take-below.ensures.free c.take-below.ensures.words c.take-below.ensures.frames c.write_run.ensures.run c.write_run.ensures.free
    c.write_run.ensures.frames (named (goal.at.returns-clause-split c).After-write) c.write.ensures.free c.write.ensures.frames
    (c.encode.ensures.looked 2 (omega arith, omega arith))
    (leaves c.args.page c.number.result c.rights.result.0 c.args.leaf (omega (arith, c.number.ensures.value, c.frame.ensures.value))
    c.rights.ensures.value)

pub returns-clause-moves : goal.returns-clause-moves
returns-clause-moves c =
    under_moves c.args.pool.now c.write.new.self 1 c.args.table (index_in 1 c.args.page) [] c.requires.tree (index_lt 1 c.args.page)
    (returns-clause-split c).under

pub returns-clause-spelled : goal.returns-clause-spelled
returns-clause-spelled c =
    split_spelled c.args.pool.now c.write.new.self c.args.table (index_in 1 c.args.page) c.args.page c.take-below.result c.args.leaf
    c.requires.tree (index_lt 1 c.args.page) (returns-clause-split c)

-- an index is that of a page
page_at : (page k : ℕ) → k < TABLE_ENTRIES → ((page / SPAN_PAGES * SPAN_PAGES + k) / SPAN_PAGES ≡ page / SPAN_PAGES)
    × ((page / SPAN_PAGES * SPAN_PAGES + k) % SPAN_PAGES ≡ k)
page_at page k k_in = (omega arith, omega arith)

pub returns-clause-order : goal.returns-clause-order
returns-clause-order c =
    let below = c.take-below.result in
    let filled : (k : ℕ) → k < TABLE_ENTRIES
    → memory c.write.new.self.words 1 below k ≡ Leaf (target (c.args.leaf.frame + k) c.args.leaf.rights) =
    λ k k_in.
    subst (λ i. memory c.write.new.self.words 1 below i ≡ Leaf (target (c.args.leaf.frame + i) c.args.leaf.rights))
    (page_at c.args.page k k_in).1
    ((returns-clause-split c).spelled (c.args.page / SPAN_PAGES * SPAN_PAGES + k) (page_at c.args.page k k_in).0) in
    after c.args.pool.now c.write_run.new.pool c.write.new.self
    (fills c.args.pool.now c.write_run.new.pool below (c.write_run.ensures.trail ∙ ap (λ ms. ms ++ moment_of c.write_run.new.pool ∷ [])
    c.take-below.ensures.trail)
    (λ f. omega (arith, c.take-below.ensures.free f, ap (occurs f) c.write_run.ensures.free)) (returns-clause-split c).free
    (λ f k k_in ne. c.write_run.ensures.run.rest f k k_in (λ e p _ _ _. ne e) ∙ ap (λ ws. word ws f k) c.take-below.ensures.words))
    (names c.write_run.new.pool c.write.new.self c.args.table (index_in 1 c.args.page) c.encode.result c.write.ensures.trail
    c.write.ensures.free (named (goal.at.returns-clause-order c).After-write) (record {
      leaf = c.args.leaf;
      table = below;
      was =
          leaf_stays c.args.pool.now c.take-below.new.self c.write_run.new.pool c.args.table (index_in 1 c.args.page) c.args.page below _
          c.args.leaf c.requires.tree (index_lt 1 c.args.page) c.requires.leaf c.take-below.ensures.free c.take-below.ensures.words
          c.write_run.ensures.run;
      is = (returns-clause-split c).is;
      taken =
          omega (
            arith,
            c.take-below.ensures.free below,
            c.take-below.ensures.old_pool.once below,
            one_if_same-self below,
            ap (occurs below) c.write_run.ensures.free,
            ap (occurs below) c.write.ensures.free,
          );
      filled = filled;
    }))
