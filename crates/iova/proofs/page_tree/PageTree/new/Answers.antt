use Rattle.iova.proofs.Names.{rules, subst, sym, NoneFreeBelow, AllFree, IsSpace, new_space, stored}
use Rattle.iova.proofs.NewSpace.{new_space_is}
use Rattle.iova.proofs.LowestFree.{none_below_start}
use Rattle.iova.proofs.page_tree.PageTree.new.Goals as goal

pub invariant_of-result : goal.invariant_of-result
invariant_of-result c =
    let n = new_space_is c.args.last c.requires.some c.requires.narrow in
    subst (λ l. IsSpace (stored c.args.last l) × NoneFreeBelow 1 l × Unit {0} × Unit {0}) (sym c.fill.ensures)
    (n.space, none_below_start 1 (new_space c.args.last).pieces n.space.ordered, tt, tt)

pub returns : goal.returns
returns c =
    let n = new_space_is c.args.last c.requires.some c.requires.narrow in
    record {
      new = search rules;
      free = subst (λ l. AllFree (stored c.args.last l)) (sym c.fill.ensures) n.free;
      space = subst (λ l. IsSpace (stored c.args.last l)) (sym c.fill.ensures) n.space;
    }
