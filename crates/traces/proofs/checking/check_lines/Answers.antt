use Rattle.std.proofs.Common.{sym, ap, ◌∙◌}
use Rattle.std.proofs.lemmas.Result.{err_from_is_err_and}
use Rattle.checker.specs.Traces.{event_said}
use Rattle.streams.specs.Lines.{LineSays}
use Rattle.traces.proofs.Judging.{bad_cut, bad_long, bad_unsaid, fails_reading, goes_on, is_illegal, lacks_memory}
use Rattle.traces.proofs.checking.check_lines.Goals as goal

pub returns-in-Ok-Cut-clause-checked : goal.returns-in-Ok-Cut-clause-checked
returns-in-Ok-Cut-clause-checked g c =
    let h = rw c.in-Ok-Cut.field-0-is at c.in-Ok-Cut.ensures.bytes in
    bad_cut _ _ _ _ _ c.loop.number c.next_line.new.line.items c.loop.invariant.judged h.0 h.1 c.in-Ok-Cut.ensures.few h.2 h.3

pub returns-in-Ok-Long-clause-checked : goal.returns-in-Ok-Long-clause-checked
returns-in-Ok-Long-clause-checked g c =
    let h = rw c.in-Ok-Long.field-0-is at c.in-Ok-Long.ensures.bytes in
    bad_long _ _ _ _ _ c.loop.number c.next_line.new.line.items h.0 c.loop.invariant.judged h.1 h.2 h.3

pub returns-in-Err-Read-clause-checked : goal.returns-in-Err-Read-clause-checked
returns-in-Err-Read-clause-checked g c =
    fails_reading _ _ _ _ _ c.loop.number c.next_line.new.line.items c.loop.invariant.judged c.in-Err-Read.ensures.bytes.0
    c.in-Err-Read.ensures.bytes.1 c.in-Err-Read.ensures.few

pub returns-in_default-clause-checked : goal.returns-in_default-clause-checked
returns-in_default-clause-checked g c =
    let h = rw c.in-Ok-Newline.field-0-is at c.in-Ok-Newline.ensures.bytes in
    bad_unsaid _ _ _ _ _ c.loop.number c.next_line.new.line.items c.loop.invariant.judged h.0 h.1 c.in-Ok-Newline.ensures.few
    (ap event_said (sym c.as_slice.ensures.value) ∙ sym c.parse_event.ensures ∙ c.in_default.is)

pub loop-preserved : goal.loop-preserved
loop-preserved g c =
    let h = rw c.in-Ok-Newline.field-0-is at c.in-Ok-Newline.ensures.bytes in
    let said : LineSays event_said c.next_line.new.line.items c.in-Some-parse_event.event = record
    { whole = h.1; is = ap event_said (sym c.as_slice.ensures.value) ∙ sym c.parse_event.ensures ∙ c.in-Some-parse_event.is } in
    record {
      judged = rw c.saturating_add-number.ensures (goes_on _ _ _ _ _ _ c.loop.number c.next_line.new.line.items
          c.in-Some-parse_event.event c.loop.invariant.judged h.0 said (rw c.if-not-branch.false at c.in_ok-judge.ensures));
      reader = c.in-Ok-Newline.ensures.ok.0;
    }

pub returns-in_err-judge-clause-checked : goal.returns-in_err-judge-clause-checked
returns-in_err-judge-clause-checked g c =
    let h = rw c.in-Ok-Newline.field-0-is at c.in-Ok-Newline.ensures.bytes in
    let said : LineSays event_said c.next_line.new.line.items c.in-Some-parse_event.event = record
    { whole = h.1; is = ap event_said (sym c.as_slice.ensures.value) ∙ sym c.parse_event.ensures ∙ c.in-Some-parse_event.is } in
    let p = err_from_is_err_and c.from_residual.result c.from_residual.ensures.1 in
    rw (p.1, p.2) (lacks_memory _ _ _ _ _ c.loop.number c.next_line.new.line.items c.in-Some-parse_event.event c.loop.invariant.judged
    h.0 said)

pub returns-in_err-finding-clause-checked : goal.returns-in_err-finding-clause-checked
returns-in_err-finding-clause-checked g c =
    let h = rw c.in-Ok-Newline.field-0-is at c.in-Ok-Newline.ensures.bytes in
    let said : LineSays event_said c.next_line.new.line.items c.in-Some-parse_event.event = record
    { whole = h.1; is = ap event_said (sym c.as_slice.ensures.value) ∙ sym c.parse_event.ensures ∙ c.in-Some-parse_event.is } in
    let p = err_from_is_err_and c.from_residual-in_err-finding.result c.from_residual-in_err-finding.ensures.1 in
    rw (p.1, p.2) (lacks_memory _ _ _ _ _ c.loop.number c.next_line.new.line.items c.in-Some-parse_event.event c.loop.invariant.judged
    h.0 said)

pub returns-then-not-branch-clause-checked : goal.returns-then-not-branch-clause-checked
returns-then-not-branch-clause-checked g c =
    let h = rw c.in-Ok-Newline.field-0-is at c.in-Ok-Newline.ensures.bytes in
    let said : LineSays event_said c.next_line.new.line.items c.in-Some-parse_event.event = record
    { whole = h.1; is = ap event_said (sym c.as_slice.ensures.value) ∙ sym c.parse_event.ensures ∙ c.in-Some-parse_event.is } in
    is_illegal _ _ _ _ _ _ c.loop.number c.next_line.new.line.items c.in-Some-parse_event.event c.in_ok-finding.finding
    c.loop.invariant.judged h.0 said (rw c.if-not-branch.true at c.in_ok-judge.ensures) c.in_ok-finding.ensures
