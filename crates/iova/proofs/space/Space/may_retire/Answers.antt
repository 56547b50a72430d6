use Rattle.iova.proofs.Names.{refl}
use Rattle.iova.proofs.carvings.Ends.{live_may}
use Rattle.iova.proofs.carvings.State.{follows}
use Rattle.iova.proofs.space.Space.may_retire.Goals as goal

pub is_live-requires : goal.is_live-requires
is_live-requires c = follows c.self.inside.tree.pieces c.self.inside.carved.chain c.self.inside.carved.stock c.self.invariant.1

pub returns-then-is_live : goal.returns-then-is_live
returns-then-is_live c =
    let k = c.self.inside.carved in
    let pages = c.ends_of in
    let may = live_may c.self.inside.tree c.args.self.now k.chain k.stock pages.result c.args.range c.self.invariant.0 c.self.invariant.1
    c.self.view_is (c.is_live.ensures c.if-is_live.true) pages.ensures.first pages.ensures.last pages.ensures.range.some in
    record {
      ok = ((λ e. may), (λ m. refl));
      not_live = ((λ e. absurd (cc)), (λ h. absurd (h.2 (may.live h.0 h.1))));
      too_many = ((λ e. absurd (cc)), (λ h. absurd (may.room h.1)));
    }
