use Rattle.std.proofs.Common.{arith, refl}
use Rattle.dmatypes.specs.History.{after}
use Rattle.manager.proofs.words.Filled.{filled, hit_backed, hit_page, lawful_filled, missed_is, not_filled, other_is, reached}
use Rattle.manager.proofs.entering.fill.Goals as goal

pub returns-in_default : goal.returns-in_default
returns-in_default c = record {
  filled = other_is _ c.args.event.now.call c.args.event.now.reply c.args.desk.now.last c.in_default.not-Dma;
  lawful = c.requires.lawful;
  same = (refl, refl);
}

pub returns-in_default-hit-clause-filled : goal.returns-in_default-hit-clause-filled
returns-in_default-hit-clause-filled c =
    missed_is _ _ _ _ c.in-Dma.device c.in-Dma.address c.in-Dma.access c.in-Dma.whim _ c.in-Dma.is c.in_default-hit.not-Some c.requires.hit

pub port_word-requires : goal.port_word-requires
port_word-requires c =
    hit_page c.args.desk.now.rows.frames c.args.desk.now.history c.in-Dma.device c.in-Dma.address c.in-Dma.access c.args.event.now.reply
    c.in-Some.hit c.requires.legal
    (reached (after c.args.desk.now.rows.frames c.args.desk.now.history) c.args.event.now.call c.args.event.now.reply c.args.hit
    c.in-Dma.device c.in-Dma.address c.in-Dma.access c.in-Dma.whim c.in-Some.hit c.in-Dma.is c.in-Some.is c.requires.hit)

pub fill-requires-clause-device : goal.fill-requires-clause-device
fill-requires-clause-device c =
    let r =
    (reached (after c.args.desk.now.rows.frames c.args.desk.now.history) c.args.event.now.call c.args.event.now.reply c.args.hit
    c.in-Dma.device c.in-Dma.address c.in-Dma.access c.in-Dma.whim c.in-Some.hit c.in-Dma.is c.in-Some.is c.requires.hit) in
    omega (arith, r.low)

pub fill-requires-clause-lawful : goal.fill-requires-clause-lawful
fill-requires-clause-lawful c =
    hit_backed (after c.args.desk.now.rows.frames c.args.desk.now.history) c.port_word.result c.in-Dma.device c.in-Dma.address
    c.in-Dma.access c.args.event.now.reply c.in-Some.hit c.port_word.ensures.page c.port_word.ensures.translation
    (reached (after c.args.desk.now.rows.frames c.args.desk.now.history) c.args.event.now.call c.args.event.now.reply c.args.hit
    c.in-Dma.device c.in-Dma.address c.in-Dma.access c.in-Dma.whim c.in-Some.hit c.in-Dma.is c.in-Some.is c.requires.hit)

pub returns-then-whim-clause-filled : goal.returns-then-whim-clause-filled
returns-then-whim-clause-filled c =
    filled (after c.args.desk.now.rows.frames c.args.desk.now.history) c.args.event.now.call c.args.event.now.reply c.in-Dma.device
    c.in-Dma.address c.in-Dma.access c.in-Dma.whim c.in-Some.hit c.port_word.result c.args.desk.now.last c.fill.new.self.last c.in-Dma.is
    c.if-whim.true c.port_word.ensures.page c.port_word.ensures.translation
    (reached (after c.args.desk.now.rows.frames c.args.desk.now.history) c.args.event.now.call c.args.event.now.reply c.args.hit
    c.in-Dma.device c.in-Dma.address c.in-Dma.access c.in-Dma.whim c.in-Some.hit c.in-Dma.is c.in-Some.is c.requires.hit)
    c.fill.ensures.word c.fill.ensures.last

pub returns-then-whim-clause-lawful : goal.returns-then-whim-clause-lawful
returns-then-whim-clause-lawful c =
    let r =
    (reached (after c.args.desk.now.rows.frames c.args.desk.now.history) c.args.event.now.call c.args.event.now.reply c.args.hit
    c.in-Dma.device c.in-Dma.address c.in-Dma.access c.in-Dma.whim c.in-Some.hit c.in-Dma.is c.in-Some.is c.requires.hit) in
    lawful_filled c.args.desk.now.rows.frames c.args.desk.now.history c.in-Dma.device _ c.port_word.result c.args.desk.now.last
    c.fill.new.self.last (omega (arith, r.low)) c.requires.lawful c.fill.ensures.word
    (hit_backed (after c.args.desk.now.rows.frames c.args.desk.now.history) c.port_word.result c.in-Dma.device c.in-Dma.address
    c.in-Dma.access c.args.event.now.reply c.in-Some.hit c.port_word.ensures.page c.port_word.ensures.translation r) c.fill.ensures.last

pub returns-else-whim-clause-filled : goal.returns-else-whim-clause-filled
returns-else-whim-clause-filled c =
    not_filled _ _ _ c.in-Dma.device c.in-Dma.address c.in-Dma.access c.in-Dma.whim _ c.in-Dma.is c.if-whim.false
