use Rattle.std.proofs.Common.{◌≡◌, ◌+◌, ◌-◌, ◌∙◌, ℕ, ap, arith, drop, length, List, sym}
use Rattle.std.proofs.lemmas.List.{drop-drop, length-drop}
use Rattle.unit.specs.Caches.{CachedLeaf}
use Rattle.unit.specs.declared.recent.TheConstants.{LEAVES}
use Rattle.unit.proofs.recent.Recent.lose_first.Goals as goal

pub returns : goal.returns
returns c =
    let items = c.self.inside.list.items in
    let long : length (drop c.self.inside.start items) ≡ LEAVES = ap length c.self.view_is ∙ c.requires in
    let next : c.len.result - (LEAVES - 1) ≡ c.self.inside.start + 1 =
    omega (arith, long, length-drop c.self.inside.start items, c.len.ensures.value) in
    ap (λ (n : ℕ). drop n items) next ∙ sym (drop-drop 1 c.self.inside.start items)
    ∙ ap (λ (xs : List CachedLeaf). drop 1 xs) c.self.view_is
