use Rattle.std.proofs.Common.{rules, tests, not, ◌∙◌, sym}
use Rattle.std.proofs.lemmas.Iterator.{YieldsList-from_slice}
use Rattle.std.proofs.lemmas.Iterator.Search.{any_from_yields_List}
use Rattle.arrayvec.proofs.ArrayVecLemmas.{filter-from_retain}
use Rattle.unit.proofs.caches.Kept.{kept_whole}
use Rattle.unit.proofs.filters.forget.Goals as goal

pub returns-then-any-clause-items : goal.returns-then-any-clause-items
returns-then-any-clause-items g c =
    filter-from_retain _ (λ entry. not (g.T.Cached.drops c.args.descriptor.now entry)) _
    (λ x b f' y called. search rules) _ _ c.retain.ensures.filtered

pub returns-else-any-clause-items : goal.returns-else-any-clause-items
returns-else-any-clause-items g c =
    let some =
    any_from_yields_List (g.T.Cached.drops c.args.descriptor.now) _ _ _ c.any.ensures.ran (YieldsList-from_slice _ cc)
    (λ x b q k. search (rules, tests)) in
    sym (kept_whole (g.T.Cached.drops c.args.descriptor.now) c.args.list.now.items (sym some ∙ c.if-any.false))
