use Rattle.iova.proofs.Names.{sym, subst, arith, IsSpace}
use Rattle.iova.proofs.Taken.{one_start, space_taken}
use Rattle.iova.proofs.searches.FromFloor.{from_first, one_from}
use Rattle.iova.proofs.carved.take.Goals as goal

pub returns-in-Some-clause-space : goal.returns-in-Some-clause-space
returns-in-Some-clause-space c =
    subst (λ v. IsSpace v) (sym c.in-Some.ensures.taken.is)
    (space_taken c.args.tree.now (record { first = c.in-Some.start; pages = c.args.sought.pages }) c.requires.space c.requires.sought.some
    c.in-Some.ensures.taken.free c.in-Some.ensures.few)

pub returns-in-Some-clause-too_many : goal.returns-in-Some-clause-too_many
returns-in-Some-clause-too_many c = (
  (λ e. absurd (cc)),
  (λ h.
      let s = c.args.sought in
      let ps = c.args.tree.now.pieces in
      let o = c.requires.space.ordered in
      let low = from_first s.floor s.pages s.unit _ ps (omega (arith, c.if-sought-eq1.true)) o c.requires.sought.some
      c.in-Some.ensures.lowest in
      absurd (one_start ps s.pages _ h.0 (one_from s.floor s.pages s.unit _ h.0 ps low h.1) c.in-Some.ensures.few h.2)),
)
