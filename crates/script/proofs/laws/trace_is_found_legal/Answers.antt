use Rattle.std.proofs.Common.{◌≡◌, ℕ, List, [], Ok, Err, subst, sym}
use Rattle.checker.specs.Traces.{event_said}
use Rattle.dmatypes.specs.declared.reply.Event.{Event}
use Rattle.dmatypes.specs.History.{IsLegal}
use Rattle.script.specs.declared.error.RunError.TheVariants as errors
use Rattle.script.specs.Traced.{TraceIsFoundLegal}
use Rattle.streams.specs.Lines.{LinesSay}
use Rattle.traces.specs.Checked.{Checked, IsLegalIfRead}
use Rattle.traces.specs.declared.checking.Judgement.{Judgement}
use Rattle.traces.specs.declared.error.CheckError.{CheckError}
use Rattle.std.specs.Prelude.{Result}
use Rattle.traces.proofs.Read.{traced_is_legal}
use Rattle.script.proofs.laws.trace_is_found_legal.Goals as goal

of_text : (frames : ℕ) (history : List Event) (shown traced rest : List ℕ) (found : Result Judgement CheckError) → IsLegal frames history
    → LinesSay event_said shown history [] → traced ≡ shown → Checked frames traced rest found
    → (events : List Event) × IsLegal frames events × LinesSay event_said traced events [] × IsLegalIfRead events found
of_text frames history shown traced rest found legal lines is checked =
    let said = subst (λ (t : List ℕ). LinesSay event_said t history []) (sym is) lines in
    (history, legal, said, traced_is_legal frames history traced rest found legal said checked)

legal : TraceIsFoundLegal
legal size input left traced (Ok u) rest found whole ran checked =
    of_text size.frames ran.2.outcome.history ran.0 traced rest found ran.2.outcome.legal ran.2.is_shown ran.1 checked
legal size input left traced (Err (errors.BadLine k)) rest found whole ran checked =
    of_text size.frames ran.2.outcome.history ran.0 traced rest found ran.2.outcome.legal ran.2.is_shown ran.1 checked
legal size input left traced (Err errors.Read) rest found whole ran checked =
    of_text size.frames ran.2.outcome.history ran.0 traced rest found ran.2.outcome.legal ran.2.is_shown ran.1 checked
legal size input left traced (Err errors.Write) rest found whole ran checked = absurd whole
legal size input left traced (Err errors.NoMemory) rest found whole ran checked = absurd whole

pub returns : goal.returns
returns c = legal
