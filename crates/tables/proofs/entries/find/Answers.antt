use Rattle.std.proofs.Common.{◌≡◌, ◌+◌, ◌-◌, ◌%◌, Some, sym, ap, ◌∙◌, arith}
use Rattle.dmatypes.specs.declared.page.TheConstants.{SPAN_PAGES}
use Rattle.vtdbits.specs.declared.entry.SsEntry.TheVariants.{Absent, Table, Leaf, LargeLeaf}
use Rattle.vtdbits.specs.Translation.{target}
use Rattle.tables.specs.Pool.{memory}
use Rattle.tables.proofs.walks.Levels.{root_in_level, below_level, stated_level, stated_large, stated_small}
use Rattle.tables.proofs.entries.find.Goals as goal

pub entry-requires-clause-table : goal.entry-requires-clause-table
entry-requires-clause-table c =
    root_in_level c.args.pool.now (c.loop-height.height - 1) c.loop-height.at c.loop-height.height
    (omega (arith, c.loop-height.invariant.low)) c.loop-height.invariant.tree

pub loop-height-preserved : goal.loop-height-preserved
loop-height-preserved c = record {
  low = omega (arith, c.in-Table.ensures.stands);
  high = omega (arith, c.loop-height.invariant.high);
  tree =
      below_level c.args.pool.now (c.loop-height.height - 1) c.loop-height.at c.index_of.result c.in-Table.below c.loop-height.height
      (omega (arith, c.loop-height.invariant.low)) c.loop-height.invariant.tree c.index_of.ensures.inside c.in-Table.ensures.is;
  same =
      c.loop-height.invariant.same
      ∙ stated_level (memory c.args.pool.now.words) (c.loop-height.height - 1) c.loop-height.at c.args.page c.loop-height.height
      c.index_of.result (Table c.in-Table.below) (omega (arith, c.loop-height.invariant.low)) c.index_of.ensures.exact
      c.in-Table.ensures.is;
}

pub returns-in-Absent : goal.returns-in-Absent
returns-in-Absent c =
    sym (c.loop-height.invariant.same
    ∙ stated_level (memory c.args.pool.now.words) (c.loop-height.height - 1) c.loop-height.at c.args.page c.loop-height.height
    c.index_of.result Absent (omega (arith, c.loop-height.invariant.low)) c.index_of.ensures.exact c.in-Absent.ensures.is)

pub returns-in-Leaf : goal.returns-in-Leaf
returns-in-Leaf c =
    sym (stated_small c.args.page (c.loop-height.height - 1) c.in-Leaf.leaf (omega (arith, c.in-Leaf.ensures.stands)))
    ∙ sym (c.loop-height.invariant.same
    ∙ stated_level (memory c.args.pool.now.words) (c.loop-height.height - 1) c.loop-height.at c.args.page c.loop-height.height
    c.index_of.result (Leaf c.in-Leaf.leaf) (omega (arith, c.loop-height.invariant.low)) c.index_of.ensures.exact
    c.in-Leaf.ensures.is)

pub returns-in-LargeLeaf : goal.returns-in-LargeLeaf
returns-in-LargeLeaf c =
    let named : c.unwrap.result ≡ c.number.result + c.args.page % SPAN_PAGES = (rw c.unwrap.ensures at c.new.ensures.value) in
    let frame : c.unwrap.result ≡ c.in-LargeLeaf.leaf.frame + c.args.page % SPAN_PAGES =
    omega (arith, c.number.ensures.value, c.frame.ensures.value) in
    ap (λ x. Some x) (c.new-in-LargeLeaf.ensures ∙ ap (λ f. target f c.rights.result.0) frame
    ∙ ap (λ r. target (c.in-LargeLeaf.leaf.frame + c.args.page % SPAN_PAGES) r) c.rights.ensures.value)
    ∙ sym (stated_large c.args.page (c.loop-height.height - 1) c.in-LargeLeaf.leaf (omega (arith, c.in-LargeLeaf.ensures.stands)))
    ∙ sym (c.loop-height.invariant.same
    ∙ stated_level (memory c.args.pool.now.words) (c.loop-height.height - 1) c.loop-height.at c.args.page c.loop-height.height
    c.index_of.result (LargeLeaf c.in-LargeLeaf.leaf) (omega (arith, c.loop-height.invariant.low)) c.index_of.ensures.exact
    c.in-LargeLeaf.ensures.is)
