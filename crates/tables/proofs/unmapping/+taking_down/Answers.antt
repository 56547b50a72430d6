use Rattle.std.proofs.Common.{◌≡◌, ℕ, ◌-◌, ap, ◌∙◌, arith, rules}
use Rattle.dmatypes.specs.declared.page.TheConstants.{SPAN_PAGES}
use Rattle.tables.specs.declared.entries.TheConstants.{TABLE_ENTRIES}
use Rattle.tables.specs.Tree.{sum_below, uses}
use Rattle.tables.specs.Pool.{memory, occurs, word}
use Rattle.tables.specs.Under.{used_at}
use Rattle.tables.proofs.sums.OneFrame.{one_if_same-self}
use Rattle.tables.proofs.walks.Levels.{root_in_level}
use Rattle.tables.proofs.trails.Ends.{no_end}
use Rattle.tables.proofs.unmaps.Destroyed.{taking_down_start, taking_down_more, root_left, taken_left}
use Rattle.tables.proofs.unmaps.Destroyed.{IsFreed, below_left, nothing_used, table_freed, tree_apart, uses_level}
use Rattle.tables.proofs.unmaps.Ending.{ending_last, ending_more, entry_cleared, entry_ends}
use Rattle.tables.proofs.unmapping.+taking_down.Goals as goal

-- the order first: it alone tells some wrong bodies from the right ones
pub take_down-returns-clause-order : goal.take_down-returns-clause-order
take_down-returns-clause-order t c =
    let done : c.loop-index.index ≡ SPAN_PAGES = omega (arith, c.loop-index.auto.index-end, c.loop-index-test.false) in
    ending_last c.args.pool.now c.loop-index.pool c.give.new.self c.args.level c.args.table c.loop-index.index c.requires.low done
    c.loop-index.invariant.state c.loop-index.invariant.order c.give.ensures.trail c.give.ensures.words c.give.ensures.free

pub take_down_entry-returns-in-Table-clause-order : goal.take_down_entry-returns-in-Table-clause-order
take_down_entry-returns-in-Table-clause-order t c =
    entry_ends c.args.pool.now c.write.new.self c.take_down.new.pool c.args.level c.args.table c.args.index c.in-Table.below
    c.requires.index c.in-Table.ensures.is c.requires.taken c.write.ensures.wrote c.take_down.ensures.order
    (entry_cleared c.args.pool.now c.write.new.self c.args.level c.args.table c.args.index c.write.ensures.trail c.write.ensures.wrote
    c.write.ensures.free c.requires.below)

pub take_down_entry-returns-in_default-clause-order : goal.take_down_entry-returns-in_default-clause-order
take_down_entry-returns-in_default-clause-order t c =
    entry_cleared c.args.pool.now c.write.new.self c.args.level c.args.table c.args.index c.write.ensures.trail c.write.ensures.wrote
    c.write.ensures.free c.requires.below

pub take_down-loop-index-init : goal.take_down-loop-index-init
take_down-loop-index-init t c = record {
  state = taking_down_start c.args.pool.now c.args.level c.args.table;
  order = no_end c.args.pool.now c.args.level c.args.table;
}

pub take_down-take_down_entry-requires : goal.take_down-take_down_entry-requires
take_down-take_down_entry-requires t c = (
  omega arith,
  (
    c.requires.low,
    (
      c.requires.high,
      (
        omega (
          arith,
          root_in_level c.args.pool.now (c.args.level - 1) c.args.table c.args.level (omega arith) c.requires.tree,
          c.loop-index.invariant.state.frames,
        ),
        (
          taken_left c.args.pool.now c.loop-index.pool c.args.level (c.args.level - 1) c.args.table c.loop-index.index (omega arith)
              c.loop-index-test.true c.requires.tree c.loop-index.invariant.state,
          (
            c.loop-index-test.true,
            λ below is.
                below_left c.args.pool.now c.loop-index.pool c.args.level (c.args.level - 1) c.args.table c.loop-index.index below
                (omega arith) c.loop-index-test.true c.requires.tree c.loop-index.invariant.state is,
          ),
        ),
      ),
    ),
  ),
)

pub take_down-loop-index-preserved : goal.take_down-loop-index-preserved
take_down-loop-index-preserved t c =
    let freed : IsFreed c.loop-index.pool c.take_down_entry.new.pool c.args.level c.args.table c.loop-index.index =
    record {
      free = c.take_down_entry.ensures.free;
      cleared = c.take_down_entry.ensures.cleared;
      row = c.take_down_entry.ensures.row;
      others = c.take_down_entry.ensures.others;
      frames = c.take_down_entry.ensures.frames;
    } in
    record {
      state =
          taking_down_more c.args.pool.now c.loop-index.pool c.take_down_entry.new.pool c.args.level (c.args.level - 1) c.args.table
          c.loop-index.index (omega arith) c.loop-index-test.true c.requires.tree c.loop-index.invariant.state freed;
      order =
          ending_more c.args.pool.now c.loop-index.pool c.args.level c.args.table c.loop-index.index c.requires.low
          c.loop-index-test.true c.requires.tree c.loop-index.invariant.state c.take_down_entry.new.pool c.loop-index.invariant.order
          c.take_down_entry.ensures.order;
    }

pub take_down-give-requires-clause-within : goal.take_down-give-requires-clause-within
take_down-give-requires-clause-within t c =
    omega (
      arith,
      root_in_level c.args.pool.now (c.args.level - 1) c.args.table c.args.level (omega arith) c.requires.tree,
      c.loop-index.invariant.state.frames,
    )

pub take_down-give-requires-clause-taken : goal.take_down-give-requires-clause-taken
take_down-give-requires-clause-taken t c =
    root_left c.args.pool.now c.loop-index.pool c.args.level (c.args.level - 1) c.args.table c.loop-index.index (omega arith)
    (omega (arith, c.loop-index.auto.index-end)) c.requires.tree c.loop-index.invariant.state

pub take_down-returns-clause-free : goal.take_down-returns-clause-free
take_down-returns-clause-free t c f =
    let done : c.loop-index.index ≡ SPAN_PAGES = omega (arith, c.loop-index.auto.index-end, c.loop-index-test.false) in
    let all : sum_below (used_at c.args.pool.now c.args.level c.args.table f) c.loop-index.index
    ≡ sum_below (used_at c.args.pool.now c.args.level c.args.table f) TABLE_ENTRIES =
    ap (sum_below (used_at c.args.pool.now c.args.level c.args.table f)) done in
    omega (
      arith,
      c.give.ensures.free f,
      c.loop-index.invariant.state.free f,
      all,
      uses_level c.args.pool.now c.args.level (c.args.level - 1) c.args.table f (omega arith),
    )

pub take_down-returns-clause-others : goal.take_down-returns-clause-others
take_down-returns-clause-others t c f k k_in none =
    let done : c.loop-index.index ≡ SPAN_PAGES = omega (arith, c.loop-index.auto.index-end, c.loop-index-test.false) in
    let all : sum_below (used_at c.args.pool.now c.args.level c.args.table f) c.loop-index.index
    ≡ sum_below (used_at c.args.pool.now c.args.level c.args.table f) TABLE_ENTRIES =
    ap (sum_below (used_at c.args.pool.now c.args.level c.args.table f)) done in
    let whole = uses_level c.args.pool.now c.args.level (c.args.level - 1) c.args.table f (omega arith) in
    ap (λ ws. word ws f k) c.give.ensures.words
    ∙ c.loop-index.invariant.state.others f k k_in
    (λ e.
    let own : uses (memory c.args.pool.now.words) c.args.level c.args.table f
    ≡ uses (memory c.args.pool.now.words) c.args.level c.args.table c.args.table =
    ap (λ x. uses (memory c.args.pool.now.words) c.args.level c.args.table x) e in
    omega (
      arith,
      own,
      none,
      uses_level c.args.pool.now c.args.level (c.args.level - 1) c.args.table c.args.table (omega arith),
      one_if_same-self c.args.table,
    ))
    (omega (arith, all, whole, none))

pub take_down_entry-take_down-requires : goal.take_down_entry-take_down-requires
take_down_entry-take_down-requires t c =
    let tree = c.requires.below c.in-Table.below c.in-Table.ensures.is in
    let apart =
    tree_apart c.args.pool.now c.args.level c.args.table c.args.index c.in-Table.below c.in-Table.ensures.is c.requires.taken tree in
    (omega arith, (search rules, (omega arith, search apart)))

-- what became of a table that an entry named
table_gone : (t : ℕ) (c : goal.take_down_entry-After-take_down t)
    → IsFreed c.args.pool.now c.take_down.new.pool c.args.level c.args.table c.args.index
table_gone t c =
    table_freed c.args.pool.now c.write.new.self c.take_down.new.pool c.args.level c.args.table c.args.index c.in-Table.below
    c.requires.index c.in-Table.ensures.is c.requires.taken c.write.ensures.wrote c.write.ensures.free c.write.ensures.frames
    c.take_down.ensures.free c.take_down.ensures.others c.take_down.ensures.frames

pub take_down_entry-returns-in-Table-clause-free : goal.take_down_entry-returns-in-Table-clause-free
take_down_entry-returns-in-Table-clause-free t c = (table_gone t c).free

pub take_down_entry-returns-in-Table-clause-cleared : goal.take_down_entry-returns-in-Table-clause-cleared
take_down_entry-returns-in-Table-clause-cleared t c = (table_gone t c).cleared

pub take_down_entry-returns-in-Table-clause-row : goal.take_down_entry-returns-in-Table-clause-row
take_down_entry-returns-in-Table-clause-row t c = (table_gone t c).row

pub take_down_entry-returns-in-Table-clause-others : goal.take_down_entry-returns-in-Table-clause-others
take_down_entry-returns-in-Table-clause-others t c = (table_gone t c).others

pub take_down_entry-returns-in_default-clause-free : goal.take_down_entry-returns-in_default-clause-free
take_down_entry-returns-in_default-clause-free t c f =
    omega (
      arith,
      ap (occurs f) c.write.ensures.free,
      nothing_used c.args.pool.now c.args.level c.args.table c.args.index f c.entry-named.result c.entry-named.ensures.is
          c.in_default.not-Table,
    )
