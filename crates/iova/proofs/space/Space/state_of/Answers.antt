use Rattle.iova.proofs.Names.{◌≡◌, ◌∙◌, Some, None, refl, sym, piece_at}
use Rattle.iova.proofs.carvings.PageIn.{found_state, lies_as}
use Rattle.iova.proofs.carvings.State.{view_space}
use Rattle.iova.proofs.Keep.{is_some}
use Rattle.iova.proofs.space.Space.state_of.Goals as goal

pub returns-in-Some : goal.returns-in-Some
returns-in-Some c =
    let i = c.self.invariant in
    let k = c.self.inside.carved in
    let at : piece_at k.chain c.args.page ≡ Some c.in-Some.piece =
    cc (c.as_slice.ensures, c.number.ensures.value, c.piece_at.ensures, c.in-Some.is) in
    let here = found_state k.chain k.stock c.args.page i.0 i.1 c.self.view_is at in
    let view = view_space k.chain k.stock i.0 i.1 c.self.view_is in
    record {
      state = sym here;
      some = ((λ e. (view.others c.args.page (is_some c.args.self.now.pieces c.args.page c.in-Some.piece.state here)).1), (λ l. refl));
    }

pub returns-in-None-clause-state : goal.returns-in-None-clause-state
returns-in-None-clause-state c =
    let k = c.self.inside.carved in
    let at : piece_at k.chain c.args.page ≡ None = cc (c.as_slice.ensures, c.number.ensures.value, c.piece_at.ensures, c.in-None.is) in
    c.state_of.ensures.state ∙ sym (lies_as k.chain k.stock c.args.page c.self.invariant.0 c.self.invariant.1 c.self.view_is at)
