use Rattle.std.proofs.Common.{rules, ap, sym, subst}
use Rattle.dmatypes.specs.History.{IsLegal}
use Rattle.ports.specs.Lawful.{IsLawfulAfter}
use Rattle.ports.specs.Seen.{AreEmptyBut}
use Rattle.ports.specs.declared.known.View.{View}
use Rattle.ports.proofs.lists.Rows.{none_filled}
use Rattle.ports.proofs.histories.LawfulWords.{legal_empty, lawful_zero}
use Rattle.ports.proofs.steps.Seats.{opens}
use Rattle.ports.proofs.rows.Rows.new.Goals as goal

pub of_words-requires : goal.of_words-requires
of_words-requires c =
    opens (IsLegal c.args.frames) (IsLawfulAfter c.args.frames) (legal_empty c.args.frames) (lawful_zero c.args.frames) _ _

pub invariant_of-result-2 : goal.invariant_of-result-2
invariant_of-result-2 c = (
  search rules,
  search rules,
  subst (AreEmptyBut 0) (sym (ap (λ (v : View). v.last) c.in_ok-passes.ensures.desk.1)) none_filled,
)
