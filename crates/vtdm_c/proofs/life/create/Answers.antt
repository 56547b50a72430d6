use Rattle.vtdm_c.proofs.Made.{made}
use Rattle.vtdm_c.proofs.life.create.Goals as goal
use Rattle.std.proofs.Common.{◌∙◌, sym, ap, arith, is_some}

pub returns : goal.returns
returns c =
    let none = sym c.is_live.ensures ∙ c.if-is_live.false in
    made c.args.handle.now.slot.held c.args.frames c.args.caching c.args.unit c.in-Ok.session.value c.put.new.self.slot.held none
    (omega (arith, c.if-frames-lt-LEAST_TABLE_FRAMES.false)) (omega (arith, c.if-frames-gt-MOST_TABLE_FRAMES.false))
    (c.writes_status.ensures.0 c.if-not-writes_status.false) (c.base_of.ensures.some.0 (ap is_some c.in-Some.is)) c.put.ensures c.in-Ok.ensures
