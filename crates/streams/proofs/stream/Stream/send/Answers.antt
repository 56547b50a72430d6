use Rattle.std.proofs.Common.{Result, Ok, Err, OnErr}
use Rattle.streams.proofs.Known.{front_with, front_without, sent_on}
use Rattle.streams.proofs.stream.Stream.send.Goals as goal

always : {A E : Type 0} (r : Result A E) (P : Type 0) → P → OnErr r P
always (Ok a) P p = tt
always (Err e) P p = p

pub returns-clause-front : goal.returns-clause-front
returns-clause-front g c =
    always c.flush.result _ (front_with _ _ c.args.self.now.block c.flush.new.self.block c.args.text.now
    (sent_on _ _ _ c.args.self.now.block c.put.new.self.block c.flush.new.self.block c.args.text.now c.in_ok-put.ensures.sent
    c.flush.ensures.sent))

pub returns-in_err-put-clause-front : goal.returns-in_err-put-clause-front
returns-in_err-put-clause-front g c =
    always c.from_residual.result _
    (front_without _ _ c.args.self.now.block c.put.new.self.block c.args.text.now c.in_err-put.ensures.sent)
