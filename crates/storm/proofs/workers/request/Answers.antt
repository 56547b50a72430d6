use Rattle.std.proofs.Common.{◌≡◌, arith, length, subst, sym, ◌∙◌}
use Rattle.storm.specs.Storms.{AreHits}
use Rattle.storm.proofs.Hits.{one_hit_more}
use Rattle.storm.proofs.workers.request.Goals as goal

pub loop-made-preserved : goal.loop-made-preserved
loop-made-preserved g c =
    let i = c.loop-made.invariant in
    let hit = c.hit.ensures.hit in (
      c.read.ensures c.loop-made.made i.0,
      c.hit.ensures.same ∙ i.1,
      one_hit_more c.args.device c.loop-made.port.device c.loop-made.made c.hit.result.1 c.address_of-address.result hit.word
          c.loop-made.port.did c.hit.new.self.did i.2 i.1 c.address_of-address.ensures hit.did,
    )

pub returns-clause-port : goal.returns-clause-port
returns-clause-port g c =
    let i = c.loop-made.invariant in
    let device = c.check_in.ensures.port.1 ∙ i.1 in
    let all : c.loop-made.made ≡ c.args.site.now.calls = omega (arith, c.loop-made-test.false, c.loop-made.auto.made-end) in (
      (
        c.loop-made.port.did,
        length c.check_in.new.port.seen,
        subst (λ d. AreHits d c.args.site.now.calls c.loop-made.port.did) (sym device)
            (subst (λ n. AreHits c.args.device n c.loop-made.port.did) all i.2),
        c.check_in.ensures.did,
      ),
      sym c.check_in.ensures.same,
    )
