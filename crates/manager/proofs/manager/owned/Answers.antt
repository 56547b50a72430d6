use Rattle.std.proofs.Common.{◌≡◌, ◌<◌, arith, length, refl, sym, ap, ◌∙◌}
use Rattle.std.specs.Vec.Iter.{into_iter_items, into_iter_len}
use Rattle.std.proofs.lemmas.Iterator.Adapters.{YieldsList-from_vec}
use Rattle.std.proofs.lemmas.Iterator.Consumers.{YieldsList-turn}
use Rattle.std.proofs.lemmas.Option.{same_Some, slice_get_read}
use Rattle.ports.specs.Seen.{Port, new_port}
use Rattle.manager.proofs.manager.owned.Goals as goal

pub invariant_of-push : goal.invariant_of-push
invariant_of-push g c =
    let items : into_iter_items c.into_iter-port-iterator.result ≡ c.args.ports.items =
    c.into_iter-port-iterator.ensures.into_iter_gives.0 in
    let len : into_iter_len c.into_iter-port-iterator.result ≡ length c.args.ports.items =
    c.into_iter-port-iterator.ensures.into_iter_gives.1 ∙ c.args.ports.ok.0 in
    let t =
    YieldsList-turn (YieldsList-from_vec {s = c.into_iter-port-iterator.result} c.args.ports.items items len) c.loop-port.yielded
    c.loop-port.port-iterator c.loop-port.yielded_by c.next.result c.next.new.self c.in-Some.port c.in-Some.is c.next.ensures.steps in
    let at = slice_get_read c.args.ports.items (length c.args.ports.items) (length c.loop-port.yielded) c.in-Some.port refl t.0 t.1 in
    let low : length c.loop-port.yielded < 16 = omega (arith, t.0, c.requires.0, c.args.ports.ok.0) in
    let k = length c.loop-port.yielded in
    (ap (λ (p : Port). p.rows) (same_Some c.in-Some.port (new_port g.B.Owner.rows k) (sym at ∙ c.requires.1 k low)), tt)
