use Rattle.iova.proofs.Names.{◌≡◌, ◌∙◌, ap, refl, subst, with_carved, IsIn, Live, piece_of, Space, MayRetire}
use Rattle.iova.proofs.carvings.Ends.{as_piece, live_may}
use Rattle.iova.proofs.searches.Holding.{may_whole}
use Rattle.iova.proofs.space.Space.judge.Goals as goal

pub returns-then-is_live : goal.returns-then-is_live
returns-then-is_live c =
    let k = c.self.inside.carved in
    let pages = c.ends_of-pages in
    let may = live_may c.self.inside.tree c.args.self.now k.chain k.stock pages.result c.args.range c.self.invariant.0 c.self.invariant.1
    c.self.view_is (c.is_live.ensures c.if-is_live.true) pages.ensures.first pages.ensures.last pages.ensures.range.some in
    record {
      ok = ((λ e. may), (λ m. refl));
      not_live = ((λ e. absurd (cc)), (λ h. absurd (h.2 (may.live h.0 h.1))));
      too_many = ((λ e. absurd (cc)), (λ h. absurd (may.room h.1)));
      unchanged = refl;
    }

pub returns-then-hold_live : goal.returns-then-hold_live
returns-then-hold_live c =
    let tree = c.hand_over.new.tree in
    let pages = c.ends_of-pages in
    let there : IsIn (piece_of c.args.range Live) tree.pieces = subst (λ p. IsIn p tree.pieces)
    (as_piece pages.result c.args.range Live pages.ensures.first pages.ensures.last) (c.hold_live.ensures.live c.if-hold_live.true) in
    let was : tree ≡ c.args.self.now = c.hand_over.ensures.tree ∙ c.self.view_is in
    let may = subst (λ (v : Space). MayRetire v.pieces c.args.range) was
    (may_whole c.args.range tree.pieces c.hand_over.ensures.space.ordered pages.ensures.range.some there) in
    record {
      ok = ((λ e. may), (λ m. refl));
      not_live = ((λ e. absurd (cc)), (λ h. absurd (h.2 (may.live h.0 h.1))));
      too_many = ((λ e. absurd (cc)), (λ h. absurd (may.room h.1)));
      unchanged = ap (λ l. with_carved l c.hold_live.new.self) c.hand_over.ensures.chain ∙ c.hold_live.ensures.unchanged ∙ was;
    }
