use Rattle.std.proofs.Common.{◌∙◌, ◌++◌, ◌∷◌, [], ap, arith, length, List}
use Rattle.unit.specs.Caches.{CachedLeaf}
use Rattle.unit.specs.declared.recent.TheConstants.{LEAVES}
use Rattle.unit.proofs.caches.Known.{last_of_full, last_of_few}
use Rattle.unit.proofs.recent.Recent.push.Goals as goal
use Rattle.unit.proofs.recent.Recent.push.Goals.{then-as_slice-eq-LEAVES, else-as_slice-eq-LEAVES}

pub returns : goal.returns
returns c = elim c.if-as_slice-eq-LEAVES.branch [
  | then-as_slice-eq-LEAVES w ↦
      c.add.ensures ∙ ap (λ (xs : List CachedLeaf). xs ++ c.args.leaf ∷ []) (w.self-is ∙ w.lose_first.ensures)
      ∙ last_of_full LEAVES c.args.leaf c.args.self.now (omega (arith, ap length c.as_slice.ensures.value))
  | else-as_slice-eq-LEAVES w ↦
      c.add.ensures ∙ ap (λ (xs : List CachedLeaf). xs ++ c.args.leaf ∷ []) w.self-is
      ∙ last_of_few LEAVES c.args.leaf c.args.self.now (omega (arith, ap length c.as_slice.ensures.value))
]
