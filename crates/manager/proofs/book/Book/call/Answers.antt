use Rattle.std.proofs.Common.{◌≡◌, ◌<◌, ◌∙◌, ◌∷◌, [], ap, length, length-append, subst, arith}
use Rattle.dmatypes.specs.History.{event}
use Rattle.engine.specs.State.{State}
use Rattle.engine.specs.Steps.{Does}
use Rattle.ports.specs.Lawful.{IsLawfulAfter}
use Rattle.ports.specs.Seen.{Desk, Rows}
use Rattle.ports.specs.Steps.{AreLawful}
use Rattle.manager.specs.Kept.{Book, end_of}
use Rattle.manager.proofs.books.Entering.{IsKept-push, push_legal}
use Rattle.manager.proofs.books.Epochs.{all_told, kept_more}
use Rattle.manager.proofs.book.Book.call.Goals as goal

pub enter-requires-clause-legal : goal.enter-requires-clause-legal
enter-requires-clause-legal g c =
    let i = c.self.invariant in
    let s = c.self.inside in
    let k = c.enter-event.result.now.call in
    let frames : s.desk.rows.frames ≡ g.B.Owner.frames = ap (λ (r : Rows). r.frames) i.7 ∙ i.8 in
    let a : Book = record { history = s.desk.history; state = s.state.value; last = s.desk.last; handed = s.handed } in
    rw frames
    (push_legal g.B.Owner.frames g.B.Owner.room g.B.Owner.mode g.B.Owner.most a (event k c.perform-reply.result.reply)
    c.perform-reply.new.self i.0
    (subst (λ (s : State). Does s k c.perform-reply.result.reply c.perform-reply.new.self) c.as_mut-state.ensures.value
    c.perform-reply.ensures.does)).0

pub enter-requires-clause-state : goal.enter-requires-clause-state
enter-requires-clause-state g c =
    let i = c.self.invariant in
    let s = c.self.inside in
    let k = c.enter-event.result.now.call in
    let frames : s.desk.rows.frames ≡ g.B.Owner.frames = ap (λ (r : Rows). r.frames) i.7 ∙ i.8 in
    let a : Book = record { history = s.desk.history; state = s.state.value; last = s.desk.last; handed = s.handed } in
    rw frames
    (push_legal g.B.Owner.frames g.B.Owner.room g.B.Owner.mode g.B.Owner.most a (event k c.perform-reply.result.reply)
    c.perform-reply.new.self i.0
    (subst (λ (s : State). Does s k c.perform-reply.result.reply c.perform-reply.new.self) c.as_mut-state.ensures.value
    c.perform-reply.ensures.does)).1

pub invariant_of-self-2 : goal.invariant_of-self-2
invariant_of-self-2 g c =
    let i = c.self.invariant in
    let s = c.self.inside in
    let a : Book = record { history = s.desk.history; state = s.state.value; last = s.desk.last; handed = s.handed } in
    let told = all_told s.handed s.desk.history s.kept.events i.0.begun i.9 in
    let less : length s.desk.history < end_of g.B.Owner.room g.B.Owner.most a =
    omega (arith, told, i.0.within, i.11, c.if-before-end.false) in
    let k = c.enter-event.result.now.call in
    let frames : s.desk.rows.frames ≡ g.B.Owner.frames = ap (λ (r : Rows). r.frames) i.7 ∙ i.8 in
    let same : c.tell-2.new.self ≡ c.enter.new.desk = c.tell-2.ensures.same.0 in
    let history = ap (λ (d : Desk). d.history) same ∙ c.enter.ensures.history in
    let lawful : AreLawful (IsLawfulAfter g.B.Owner.frames) c.tell-2.new.self.history c.tell-2.new.self.last =
    rw (same, ← frames) c.enter.ensures.lawful in (
      IsKept-push g.B.Owner.frames g.B.Owner.room g.B.Owner.mode g.B.Owner.most a (event k c.perform-reply.result.reply)
          c.perform-reply.new.self c.tell-2.new.self.history c.tell-2.new.self.last history i.0 less
          (subst (λ (s : State). Does s k c.perform-reply.result.reply c.perform-reply.new.self) c.as_mut-state.ensures.value
          c.perform-reply.ensures.does)
          c.keeps.ensures lawful,
      i.1,
      i.2,
      i.3,
      omega (
        arith,
        i.4,
        c.audit.ensures.total,
        c.add.ensures.total,
        ap length history ∙ length-append s.desk.history (event k c.perform-reply.result.reply ∷ []),
      ),
      i.5,
      i.6,
      ap (λ (d : Desk). d.rows) same ∙ c.enter.ensures.rows ∙ i.7,
      i.8,
      kept_more s.handed s.desk.history c.tell-2.new.self.history s.kept.events _ i.0.begun i.9 history,
      i.10,
      i.11,
      i.12,
      i.13,
    )

pub returns-clause-kept : goal.returns-clause-kept
returns-clause-kept g c =
    let i = c.self.invariant in
    let s = c.self.inside in
    let a : Book = record { history = s.desk.history; state = s.state.value; last = s.desk.last; handed = s.handed } in
    let told = all_told s.handed s.desk.history s.kept.events i.0.begun i.9 in
    let less : length s.desk.history < end_of g.B.Owner.room g.B.Owner.most a =
    omega (arith, told, i.0.within, i.11, c.if-before-end.false) in
    let k = c.enter-event.result.now.call in
    let frames : s.desk.rows.frames ≡ g.B.Owner.frames = ap (λ (r : Rows). r.frames) i.7 ∙ i.8 in
    let same : c.tell-2.new.self ≡ c.enter.new.desk = c.tell-2.ensures.same.0 in
    let history = ap (λ (d : Desk). d.history) same ∙ c.enter.ensures.history in
    let lawful : AreLawful (IsLawfulAfter g.B.Owner.frames) c.tell-2.new.self.history c.tell-2.new.self.last =
    rw (same, ← frames) c.enter.ensures.lawful in
    IsKept-push g.B.Owner.frames g.B.Owner.room g.B.Owner.mode g.B.Owner.most a (event k c.perform-reply.result.reply)
    c.perform-reply.new.self c.tell-2.new.self.history c.tell-2.new.self.last history i.0 less
    (subst (λ (s : State). Does s k c.perform-reply.result.reply c.perform-reply.new.self) c.as_mut-state.ensures.value
    c.perform-reply.ensures.does)
    c.keeps.ensures lawful
