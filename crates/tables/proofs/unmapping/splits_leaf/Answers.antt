use Rattle.std.proofs.Common.{◌+◌, Bool, cond, ◌⊎◌, ◌<◌, inl, inr, sym, ap, ◌∙◌}
use Rattle.dmatypes.specs.declared.page.TheConstants.{SPAN_PAGES}
use Rattle.tables.specs.Pool.{memory}
use Rattle.tables.proofs.sums.OverSpans.{splitting_covered, splitting_else}
use Rattle.tables.proofs.unmapping.splits_leaf.Goals as goal
use Rattle.tables.proofs.unmapping.splits_leaf.Goals.{else-from-page-via-then-from-page+else-page-to, else-from-page-via-else-from-page}

pub returns-then-page-to : goal.returns-then-page-to
returns-then-page-to c =
    sym (splitting_covered (memory c.args.pool.now.words) c.args.level c.args.root c.args.from c.args.to c.args.page c.if-from-page.true
    c.if-page-to.true)

pub returns : goal.returns
returns c =
    let out : (c.args.page < c.args.from) ⊎ (c.args.to < c.args.page + SPAN_PAGES) =
    elim c.else-from-page.branch [
      | else-from-page-via-then-from-page+else-page-to w ↦ inr w.if-page-to.false
      | else-from-page-via-else-from-page w ↦ inl w.if-from-page.false
    ] in
    ap (λ (b : Bool). cond b 1 0) c.is_in_large_leaf.ensures
    ∙ sym (splitting_else (memory c.args.pool.now.words) c.args.level c.args.root c.args.from c.args.to c.args.page out)
