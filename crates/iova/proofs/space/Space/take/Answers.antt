use Rattle.iova.proofs.Names.{◌≡◌, ◌^◌, ◌*◌, ◌%◌, ◌≤◌, ℕ, List, Result, Ok, Err, IfOk, sym, subst, arith, Piece, IsOrdered, IsLowestFit}
use Rattle.iova.proofs.Names.{IsLowestFrom}
use Rattle.iova.proofs.Taken.{unit_is}
use Rattle.iova.proofs.searches.FromFloor.{first_from, from_first}
use Rattle.iova.proofs.space.Space.take.Goals as goal

pub take_sought-requires : goal.take_sought-requires
take_sought-requires c = record {
  sought = record {
    floor = omega arith;
    some = c.requires.some_pages;
    few = c.requires.few_pages;
    power = (c.args.order, c.requires.order, unit_is c.args.order c.requires.order);
  };
}

-- from the first page on, the lowest is the lowest of all
lowest : {E : Type 0} (r : Result ℕ E) (ps : List Piece) (pages unit other : ℕ) → unit ≡ other → IsOrdered 1 ps → 1 ≤ pages
    → IfOk r (IsLowestFrom 1 ps pages unit) → IfOk r (IsLowestFit ps pages other)
lowest (Ok start) ps pages unit other e o pos f =
    first_from 1 pages other start ps (omega arith) o pos (subst (λ u. IsLowestFrom 1 ps pages u start) e f)
lowest (Err x) ps pages unit other e o pos f = tt

pub returns-clause-lowest : goal.returns-clause-lowest
returns-clause-lowest c =
    lowest c.take_sought.result c.args.self.now.pieces c.args.pages (1 * 2 ^ c.args.order % 18446744073709551616) (2 ^ c.args.order)
    (unit_is c.args.order c.requires.order) c.take_sought.ensures.space.0.ordered c.requires.some_pages c.take_sought.ensures.lowest

pub returns-clause-too_many : goal.returns-clause-too_many
returns-clause-too_many c =
    let t = c.take_sought.ensures.too_many in
    let ps = c.args.self.now.pieces in
    let u = unit_is c.args.order c.requires.order in
    let o = c.take_sought.ensures.space.0.ordered in (
      (λ e.
          let x = t.0 e in (
            x.0,
            first_from 1 c.args.pages (2 ^ c.args.order) x.0 ps (omega arith) o c.requires.some_pages
                (subst (λ n. IsLowestFrom 1 ps c.args.pages n x.0) u x.1),
            x.2,
          )),
      (λ h.
          t.1 (
            h.0,
            subst (λ n. IsLowestFrom 1 ps c.args.pages n h.0) (sym u)
                (from_first 1 c.args.pages (2 ^ c.args.order) h.0 ps (omega arith) o c.requires.some_pages h.1),
            h.2,
          )),
    )
