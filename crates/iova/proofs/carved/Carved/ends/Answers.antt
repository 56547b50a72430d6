use Rattle.iova.proofs.carvings.At.{follow_got}
use Rattle.iova.proofs.carved.Carved.ends.Goals as goal

pub returns : goal.returns
returns c =
    let is = c.as_slice-pieces.ensures in
    let f = follow_got c.requires.0 c.args.self.now.chain c.requires.1 c.in_ok-first.first.now c.in_ok-last.last.now c.requires.2
    (cc (is, c.in_ok-first.ensures.value)) (cc (is, c.in_ok-last.ensures.value)) in
    record { some = f.0; first = (c.in_ok-first.first.now, f.1, f.2); none = tt }
