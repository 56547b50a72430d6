use Rattle.iova.proofs.Names.{◌≡◌, ◌≢◌, ℕ, arith, Option, Some, None, IfSome, IfNone, sym, subst, IsIn, Live, Piece, FollowOn, piece_at}
use Rattle.iova.proofs.carvings.PageIn.{found_in, found_state, lies_as, stays_in}
use Rattle.iova.proofs.carvings.State.{follows, view_space}
use Rattle.iova.proofs.space.Space.live_at.Goals as goal

pub piece_at-requires : goal.piece_at-requires
piece_at-requires c =
    subst (λ l. (from : ℕ) × (end : ℕ) × FollowOn from l end) (sym c.as_slice.ensures)
    (follows c.self.inside.tree.pieces c.self.inside.carved.chain c.self.inside.carved.stock c.self.invariant.1)

pub returns-in-Live : goal.returns-in-Live
returns-in-Live c =
    let i = c.self.invariant in
    let k = c.self.inside.carved in
    let at : piece_at k.chain c.args.page ≡ Some c.in-Some.piece =
    cc (c.as_slice.ensures, c.piece_at.ensures, c.in-Some.is) in
    let found = found_in k.chain k.stock c.args.page i.0 i.1 c.self.view_is at in
    record { live = (found.0, found.1, c.in-Live.is); none = tt; space = view_space k.chain k.stock i.0 i.1 c.self.view_is }

pub returns-in-Free : goal.returns-in-Free
returns-in-Free c =
    let i = c.self.invariant in
    let k = c.self.inside.carved in
    let at : piece_at k.chain c.args.page ≡ Some c.in-Some.piece =
    cc (c.as_slice.ensures, c.piece_at.ensures, c.in-Some.is) in
    let here = found_state k.chain k.stock c.args.page i.0 i.1 c.self.view_is at in
    let is = c.in-Free.is in
    record { live = tt; none = λ e. absurd (grind arith); space = view_space k.chain k.stock i.0 i.1 c.self.view_is }

keep : {P Q : Piece → Type 0} (o : Option Piece) → IfSome o P → ((q : Piece) → P q → Q q) → IfSome o Q
keep None h k = tt
keep (Some q) h k = k q h

pub returns-in-None : goal.returns-in-None
returns-in-None c =
    let i = c.self.invariant in
    let k = c.self.inside.carved in
    let at : piece_at k.chain c.args.page ≡ None = cc (c.as_slice.ensures, c.piece_at.ensures, c.in-None.is) in
    let same = lies_as k.chain k.stock c.args.page i.0 i.1 c.self.view_is at in
    let stays = λ (q : Piece) (l : IsIn q c.self.inside.tree.pieces) (is : q.state ≡ Live).
    stays_in k.chain k.stock q i.0 i.1 c.self.view_is l (λ f. absurd (cc)) in
    record {
      live = keep c.live_at.result c.live_at.ensures.live (λ q l. (stays q l.0 l.2, l.1, l.2));
      none = subst (λ s. IfNone c.live_at.result (s ≢ Some Live)) (sym same) c.live_at.ensures.none;
      space = view_space k.chain k.stock i.0 i.1 c.self.view_is;
    }
