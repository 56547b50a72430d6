use Rattle.std.proofs.Common.{◌≡◌, ◌+◌, ◌-◌, ◌≤◌, rules, tests, arith, ◌∙◌, ap, sym, Bool, drop, filter, length, length-drop, not, take, take_all}
use Rattle.std.proofs.lemmas.Iterator.{YieldsList-from_slice}
use Rattle.std.proofs.lemmas.Iterator.Search.{any_from_yields_List}
use Rattle.std.specs.List.{list_any}
use Rattle.unit.specs.Caches.{CachedLeaf}
use Rattle.unit.specs.Filters.{drops_leaf}
use Rattle.unit.proofs.caches.Kept.{kept_whole}
use Rattle.unit.proofs.caches.Parts.{still_few, written_part}
use Rattle.unit.specs.declared.recent.TheConstants.{LEAVES}
use Rattle.unit.proofs.recent.Recent.forget.Goals as goal

pub returns-then-not-any-clause-items : goal.returns-then-not-any-clause-items
returns-then-not-any-clause-items c =
    let some =
    any_from_yields_List (drops_leaf c.args.descriptor.now) _ _ _ c.any.ensures.ran (YieldsList-from_slice _ cc)
    (λ x b q k. search (rules, tests)) in
    sym (kept_whole (drops_leaf c.args.descriptor.now) c.args.self.now
    (ap (list_any (drops_leaf c.args.descriptor.now)) (sym c.as_slice.ensures.value) ∙ sym some ∙ c.if-not-any.true))

pub returns-clause-items : goal.returns-clause-items
returns-clause-items c =
    let start = c.self.inside.start in
    let xs = c.as_mut_slice.result.now in
    let p : CachedLeaf → Bool = λ (l : CachedLeaf). not (drops_leaf c.args.descriptor.now l) in
    let whole : length xs ≡ length c.self.inside.list.items = ap length c.as_mut_slice.ensures.value in
    let behind : length (drop start xs) ≡ length xs - start = length-drop start xs in
    let part : take (length xs - start) (drop start xs) ≡ drop start xs = take_all _ _ (omega (arith, behind)) in
    let few : c.keep-kept.result ≤ length xs - start = omega (arith, c.keep-kept.ensures.few, behind, ap length part) in
    c.compact_if_few-self-inside.ensures.items ∙ ap (drop start) c.truncate.ensures.items
    ∙ written_part (length c.self.inside.list.items) start c.keep-kept.result xs c.keep-kept.new.leaves _ _ (omega (arith, whole, c.self.invariant))
    (omega (arith, few)) (omega (arith, few, whole, c.self.invariant))
    ∙ c.keep-kept.ensures.kept ∙ ap (filter p) (part ∙ ap (drop start) c.as_mut_slice.ensures.value ∙ c.self.view_is)

pub invariant_of-self : goal.invariant_of-self
invariant_of-self c =
    let few : length c.truncate.new.self.items ≤ c.self.inside.start + LEAVES =
    omega (arith, c.truncate.ensures.len, ap length c.as_mut_slice.ensures.value, c.self.invariant) in (
      c.compact_if_few-self-inside.ensures.within,
      still_few c.compact_if_few-self-inside.result c.self.inside.start LEAVES
          c.compact_if_few-self-inside.new.list.items c.truncate.new.self.items
          c.compact_if_few-self-inside.ensures.items c.compact_if_few-self-inside.ensures.within few,
      c.compact_if_few-self-inside.ensures.few,
    )
