use Rattle.std.proofs.Common.{◌≡◌, ℕ, ◌<◌, List, [], ◌∷◌, ◌++◌, get_or, length, arith, length-append, refl, ap, subst, ◌∙◌, inl, inr}
use Rattle.std.proofs.Math.Seq.{get_or-append_seam}
use Rattle.manager.specs.Kept.{Share, new_share}
use Rattle.script.proofs.Concluding.{answers_known, drawing_known, nothing_written, report_known, trace_known}
use Rattle.script.proofs.running.work_on.Goals as goal

-- what all have, the last one has
last_has : {A : Type 0} (P : A → Type 0) (xs ys : List A) (y : A) → xs ≡ ys ++ y ∷ []
    → ((k : ℕ) (d : A) → k < length xs → P (get_or xs k d)) → P y
last_has P xs ys y e all =
    let inside : length ys < length xs = omega (arith, ap length e, length-append ys (y ∷ [])) in
    subst P (ap (λ l. get_or l (length ys) y) e ∙ get_or-append_seam ys y [] y) (all (length ys) y inside)

none_in : {A : Type 0} (xs : List A) → length xs ≡ 0 → xs ≡ []
none_in [] e = refl
none_in (x ∷ xs) e = absurd (omega (arith, e))

pub answer_lines-end-requires-clause-none : goal.answer_lines-end-requires-clause-none
answer_lines-end-requires-clause-none g c =
    let fresh = rw c.in-Ok.is at c.requires.fresh in
    let zero : c.in-Some.mine.calls ≡ 0 = ap (λ (s : Share). s.calls) (last_has (λ s. s ≡ new_share) c.in-Ok.made.shares.items
    c.pop.new.self.items c.in-Some.mine c.in-Some.ensures.items fresh) in
    rw c.audit.ensures.same (none_in _ (c.audit.ensures.alone c.requires.one ∙ zero))

pub returns-in_default-clause-written : goal.returns-in_default-clause-written
returns-in_default-clause-written g c = nothing_written _ c.args.output _ _ _ _

pub returns-in-Answers-clause-written : goal.returns-in-Answers-clause-written
returns-in-Answers-clause-written g c =
    elim c.in-Answers.is [
      | inl answers ↦ answers_known _ c.args.output c.replies_for.result _ _ _ _ _ _ c.answer_lines-end.new.book
          c.answer_lines-end.result answers c.replies_for.ensures c.answer_lines-end.ensures.written
      | inr trace ↦ trace_known _ c.args.output c.replies_for.result _ _ _ _ _ _ c.answer_lines-end.new.book
          c.answer_lines-end.result trace c.replies_for.ensures c.answer_lines-end.ensures.written
    ]

pub returns-clause-written : goal.returns-clause-written
returns-clause-written g c =
    drawing_known _ c.args.output c.replies_for.result _ _ _ _ _ _ _ _ _ c.answer_lines-end.new.writer.block
    c.send_report-end.new.writer.block c.send_drawing.new.writer.block c.answer_lines-end.new.book c.answer_lines-end.result
    c.send_report-end.result c.send_drawing.result c.in-Drawing.is c.replies_for.ensures c.answer_lines-end.ensures.written
    c.answer_lines-end.ensures.all_sent (λ e. c.answer_lines-end.ensures.memory (rw e refl))
    (rw c.write_report-in-Drawing.ensures at c.send_report-end.ensures.sent) c.send_drawing.ensures.sent

pub returns-in-Report-clause-written : goal.returns-in-Report-clause-written
returns-in-Report-clause-written g c =
    report_known _ c.args.output c.replies_for.result _ _ _ _ _ _ _ _ c.answer_lines-end.new.writer.block
    c.send_report.new.writer.block c.answer_lines-end.new.book c.answer_lines-end.result c.send_report.result c.in-Report.is
    c.replies_for.ensures c.answer_lines-end.ensures.written c.answer_lines-end.ensures.all_sent
    (λ e. c.answer_lines-end.ensures.memory (rw e refl)) (rw c.write_report.ensures at c.send_report.ensures.sent)
