use Rattle.std.proofs.Common.{◌≡◌, None, rules}
use Rattle.std.specs.BTreeMap as tree
use Rattle.std.specs.Ordering.{nat_cmp}
use Rattle.checker.proofs.worlds.Runs.{not_held}
use Rattle.checker.proofs.pages.Pages.new.Goals as goal

pub returns-clause-pages : goal.returns-clause-pages
returns-clause-pages c = λ p. not_held (tree.get nat_cmp c.new.result) p (λ k r is h.
    let none : tree.get nat_cmp c.new.result k ≡ None = search rules in absurd cc)
