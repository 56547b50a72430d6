use Rattle.std.proofs.Common.{◌++◌, ◌∷◌, [], List, ℕ, sym, ap, subst, ◌∙◌}
use Rattle.dmatypes.specs.Grammar.{says}
use Rattle.script.proofs.Going.{begins, ends, ends_cut, ends_long, ends_unsaid, fails_reading, fails_writing, goes_on, stopped}
use Rattle.streams.specs.Bytes.{Sent}
use Rattle.streams.specs.Lines.{LineSays}
use Rattle.streams.proofs.Known.{sent_more}
use Rattle.script.proofs.answering.answer_lines.Goals as goal

pub loop-init : goal.loop-init
loop-init g c = record {
  going = begins _ _ _ _ _ c.args.book.now _ c.keeps.ensures c.requires.none;
  reader = c.requires.reader;
  writer = c.requires.writer;
}

pub returns-in-Ok-Nothing-clause-written : goal.returns-in-Ok-Nothing-clause-written
returns-in-Ok-Nothing-clause-written g c =
    let h = rw c.in-Ok-Nothing.field-0-is at c.in-Ok-Nothing.ensures.bytes in
    let empty = rw c.in-Ok-Nothing.field-0-is at c.in-Ok-Nothing.ensures.answered in
    ends _ _ _ _ _ _ _ _ _ _ c.loop.book c.loop.number (tt {0}) c.loop.invariant.going h.0 h.1
    (subst (λ (b : List ℕ). Sent (g.W.Sink.contents c.loop.writer.wrapped)
    (g.W.Sink.contents c.next_line.new.writer.wrapped) c.loop.writer.block b []) empty c.in-Ok-Nothing.ensures.sent)

pub returns-in-Ok-Cut-clause-written : goal.returns-in-Ok-Cut-clause-written
returns-in-Ok-Cut-clause-written g c =
    let h = rw c.in-Ok-Cut.field-0-is at c.in-Ok-Cut.ensures.bytes in
    let empty = rw c.in-Ok-Cut.field-0-is at c.in-Ok-Cut.ensures.answered in
    ends_cut (Unit {0}) _ _ _ _ _ _ _ _ _ _ c.loop.book c.loop.number c.next_line.new.line.items c.loop.invariant.going h.0 h.1
    c.in-Ok-Cut.ensures.few h.2 h.3
    (subst (λ (b : List ℕ). Sent (g.W.Sink.contents c.loop.writer.wrapped)
    (g.W.Sink.contents c.next_line.new.writer.wrapped) c.loop.writer.block b []) empty c.in-Ok-Cut.ensures.sent)

pub returns-in-Ok-Long-clause-written : goal.returns-in-Ok-Long-clause-written
returns-in-Ok-Long-clause-written g c =
    let h = rw c.in-Ok-Long.field-0-is at c.in-Ok-Long.ensures.bytes in
    stopped _ _ _ _ _ _ _ _ _ _ _ _ _ _ c.loop.book c.loop.number (c.next_line.new.line.items ++ h.0 ∷ []) c.stop_at.result _ _
    c.loop.invariant.going h.1 c.in-Ok-Long.ensures.sent c.stop_at.ensures.sent c.stop_at.ensures.stopped
    (λ sent. ends_long (Unit {0}) _ _ _ _ _ _ _ _ _ _ c.loop.book c.loop.number c.next_line.new.line.items h.0 c.loop.invariant.going
    h.1 h.2 h.3 sent)

pub returns-in-Err-Read-clause-written : goal.returns-in-Err-Read-clause-written
returns-in-Err-Read-clause-written g c =
    fails_reading (Unit {0}) _ _ _ _ _ _ _ _ _ _ c.loop.book c.loop.number c.next_line.new.line.items c.loop.invariant.going
    c.in-Err-Read.ensures.bytes.0 c.in-Err-Read.ensures.bytes.1 c.in-Err-Read.ensures.few
    (subst (λ (b : List ℕ). Sent (g.W.Sink.contents c.loop.writer.wrapped)
    (g.W.Sink.contents c.next_line.new.writer.wrapped) c.loop.writer.block b [])
    (rw c.in-Err-Read.field-0-is at c.in-Err-Read.ensures.answered) c.in-Err-Read.ensures.sent)

pub returns-in-Err-Write-clause-written : goal.returns-in-Err-Write-clause-written
returns-in-Err-Write-clause-written g c =
    fails_writing (Unit {0}) _ _ _ _ _ _ _ _ _ _ _ c.loop.book c.loop.book c.loop.number c.next_line.new.line.items
    c.loop.invariant.going
    c.in-Err-Write.ensures.bytes.0 c.in-Err-Write.ensures.sent

pub returns-in_default-clause-written : goal.returns-in_default-clause-written
returns-in_default-clause-written g c =
    let h = rw c.in-Ok-Newline.field-0-is at c.in-Ok-Newline.ensures.bytes in
    let unsaid = ap says (sym c.as_slice.ensures.value) ∙ sym c.parse_line.ensures ∙ c.in_default.is in
    stopped _ _ _ _ _ _ _ _ _ _ _ _ _ _ c.loop.book c.loop.number (c.next_line.new.line.items ++ 10 ∷ []) c.stop_at-in_default.result _ _
    c.loop.invariant.going h.0 c.in-Ok-Newline.ensures.sent c.stop_at-in_default.ensures.sent c.stop_at-in_default.ensures.stopped
    (λ sent. ends_unsaid (Unit {0}) _ _ _ _ _ _ _ _ _ _ c.loop.book c.loop.number c.next_line.new.line.items c.loop.invariant.going h.0 h.1
    c.in-Ok-Newline.ensures.few unsaid sent)

pub returns-in-Err-clause-written : goal.returns-in-Err-clause-written
returns-in-Err-clause-written g c =
    let h = rw c.in-Ok-Newline.field-0-is at c.in-Ok-Newline.ensures.bytes in
    fails_writing (Unit {0}) _ _ _ _ _ _ _ _ _ _ _ c.loop.book c.answer-entered.new.book c.loop.number
    (c.next_line.new.line.items ++ 10 ∷ []) c.loop.invariant.going h.0
    (sent_more _ _ _ _ _ _ [] [] c.in-Ok-Newline.ensures.sent c.in-Err.ensures.sent)

pub loop-preserved : goal.loop-preserved
loop-preserved g c =
    let h = rw c.in-Ok-Newline.field-0-is at c.in-Ok-Newline.ensures.bytes in
    let said : LineSays says c.next_line.new.line.items c.in-Some-parse_line.call = record
    { whole = h.1; is = ap says (sym c.as_slice.ensures.value) ∙ sym c.parse_line.ensures ∙ c.in-Some-parse_line.is } in
    let put = rw c.as_slice-in-loop.ensures.value at c.in-Ok.ensures.sent in
    record {
      going = rw c.saturating_add-number.ensures (goes_on _ _ _ _ _ _ _ _ _ _ _ _ _ c.loop.book c.answer-entered.new.book c.loop.number
          c.next_line.new.line.items c.in-Some-parse_line.call c.answer-entered.result c.answer-entered.new.text.bytes
          _ c.loop.invariant.going h.0 said c.in-Ok-Newline.ensures.sent c.answer-entered.ensures.kept c.answer-entered.ensures.one put);
      reader = c.in-Ok-Newline.ensures.ok.0;
      writer = c.in-Ok.ensures.failed;
    }
