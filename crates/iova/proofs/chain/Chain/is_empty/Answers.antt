use Rattle.iova.proofs.Names.{◌∙◌, length, ap, sym, arith, drop_of_length-le, nat_tests, length-drop}
use Rattle.iova.proofs.chain.Chain.is_empty.Goals as goal

pub returns : goal.returns
returns c = (
  (λ t. sym c.self.view_is ∙ drop_of_length-le c.self.inside.pieces.items {i = c.self.inside.begin}
      (let e = c.is_empty.ensures in grind (arith, nat_tests))),
  (λ e.
      let n = ap (λ l. length l) (c.self.view_is ∙ e) in
      let d = length-drop c.self.inside.begin c.self.inside.pieces.items in
      let z = c.self.invariant.2 (omega (arith, n, d, c.self.invariant.0)) in
      let r = c.is_empty.ensures in grind (arith, nat_tests)),
)
