use Rattle.std.proofs.Common.{inl, inr, refl}
use Rattle.checker.proofs.checker.Checker.expected.Goals as goal

pub returns-in-Some : goal.returns-in-Some
returns-in-Some c = inl (c.in-Some.refusal, c.in-Some.ensures, refl)

pub returns-in-None : goal.returns-in-None
returns-in-None c = inr (c.in-None.ensures, c.answer.ensures)
