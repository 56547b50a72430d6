use Rattle.iova.proofs.Names.{AreLive, arith, ℕ, List, refl, ◌≡◌, ◌∙◌, ◌≤◌, IsSome, ap, subst, sym, Piece, Retired, with_piece, piece_at, Retires}
use Rattle.iova.proofs.Names.{NoneFreeBelow, piece_of, Space, IsSpace, MayRetire, stored, Range}
use Rattle.iova.proofs.LowestFree.{none_below_put}
use Rattle.iova.proofs.Known.{live_none, shown_none}
use Rattle.iova.proofs.parts.Shows.{Shows, shows}
use Rattle.iova.proofs.Partition.{put_lies}
use Rattle.iova.proofs.Taken.{retires, space_retired}
use Rattle.iova.proofs.page_tree.PageTree.retire.Goals as goal

-- the pages of a range become one piece in a tree with what the space shows
record Laid (last : ℕ) (tree : List Piece) (now : Space) (range : Range) (p : Piece) : Type 0 where
  some : p.first ≤ p.last
  space : IsSpace (stored last (with_piece p tree))
  lies : (page : ℕ) → p.first ≤ page → page ≤ p.last → IsSome (piece_at tree page)
  retires : Retires now (stored last (with_piece p tree)) range

laid : {last : ℕ} {tree : List Piece} {now : Space} {range : Range} {p : Piece} → Shows last tree now → MayRetire now.pieces range
    → 1 ≤ range.pages → p ≡ piece_of range Retired → Laid last tree now range p
laid {last} {tree} {now} {range} t may some is =
    let a : Space = stored last tree in
    let kept : MayRetire tree range = subst (λ (v : Space). MayRetire v.pieces range) (sym t.is) may in
    let q : Piece = piece_of range Retired in
    let space = space_retired a range t.space some kept in
    subst (λ p. Laid last tree now range p) (sym is) (record {
      some = omega arith;
      space = space;
      lies = put_lies a t.space q space (omega arith);
      retires = subst (λ v. Retires v (stored last (with_piece q tree)) range) t.is
          (retires a (stored last (with_piece q tree)) range t.space some kept.live refl);
    })

pub lay-requires : goal.lay-requires
lay-requires c =
    let t = shows c.put_freed.ensures.pieces c.self.view_is (c.put_freed.ensures.space c.self.inside.last c.self.invariant.0) in
    let l = laid t c.requires c.ends_of.ensures.range.some (c.in_state.ensures ∙ c.ends_of.ensures.piece Retired) in
    record {
      first = l.lies c.in_state.result.first (omega arith) l.some;
      last = l.lies c.in_state.result.last l.some (omega arith);
      some = l.some;
      room = l.space.few;
    }

pub invariant_of-self : goal.invariant_of-self
invariant_of-self c =
    let t = shows c.put_freed.ensures.pieces c.self.view_is (c.put_freed.ensures.space c.self.inside.last c.self.invariant.0) in
    let l = laid t c.requires c.ends_of.ensures.range.some (c.in_state.ensures ∙ c.ends_of.ensures.piece Retired) in
    let used = ap (λ (p : Piece). p.state) c.in_state.ensures in
    let p = c.in_state.result in
    subst (λ l. IsSpace (stored c.self.inside.last l) × NoneFreeBelow c.put_freed.new.low l × AreLive c.put_freed.new.freed l × Unit {0}) (sym c.lay.ensures) (
      l.space,
      none_below_put c.put_freed.new.low p.first p.last p.state c.put_freed.new.tree t.space.ordered l.some c.put_freed.ensures.low
          (λ e. absurd (cc)),
      live_none c.put_freed.ensures.none _,
      tt,
    )

pub returns : goal.returns
returns c =
    let t = shows c.put_freed.ensures.pieces c.self.view_is (c.put_freed.ensures.space c.self.inside.last c.self.invariant.0) in
    let l = laid t c.requires c.ends_of.ensures.range.some (c.in_state.ensures ∙ c.ends_of.ensures.piece Retired) in
    let is = ap (λ l. stored c.self.inside.last l) (sym (shown_none c.put_freed.ensures.none ∙ c.lay.ensures)) in
    record {
      retired = subst (λ v. Retires c.args.self.now v c.args.range) is l.retires;
      space = (t.now_space, subst (λ v. IsSpace v) is l.space);
    }
