use Rattle.iova.proofs.Names.{AreLive, ◌∙◌, ℕ, ◌+◌, ◌<◌, ◌≤◌, max, List, inl, inr, ap, subst, sym, arith, Piece, NUMBERS_END, Stock, Ends, AreCarved}
use Rattle.iova.proofs.Names.{FollowOn, with_carved, NoneFreeBelow, Space, IsSpace, stored}
use Rattle.iova.proofs.carvings.Row.{IsOneRow, none_below_carved, none_below_row, one_row}
use Rattle.iova.proofs.carvings.State.{carved_space}
use Rattle.iova.proofs.Known.{live_none, shown_none}
use Rattle.iova.proofs.parts.Shows.{Shows, shows}
use Rattle.iova.proofs.page_tree.PageTree.put_row.Goals as goal

-- the row, in the tree with what the space shows
row_in : {last : ℕ} {tree row : List Piece} {now : Space} → Shows last tree now → (stock : Stock) × AreCarved now.pieces row stock
    → (pages : Ends) → FollowOn pages.first row (pages.last + 1) × (pages.first ≤ pages.last) → IsOneRow (stored last tree) row pages
row_in {last} {tree} {row} t carved pages w =
    one_row (stored last tree) row carved.0 pages t.space
    (subst (λ (v : Space). AreCarved v.pieces row carved.0) (sym t.is) carved.1) w.0 w.1

pub low_behind-self-inside-requires-clause-narrow : goal.low_behind-self-inside-requires-clause-narrow
low_behind-self-inside-requires-clause-narrow c =
    let t = shows c.put_freed.ensures.pieces c.self.view_is (c.put_freed.ensures.space c.self.inside.last c.self.invariant.0) in
    subst (λ (p : Piece). p.last < NUMBERS_END) (sym c.in_state.ensures) (row_in t c.requires.carved c.args.pages c.requires.pages).narrow

pub lay_row-requires : goal.lay_row-requires
lay_row-requires c =
    let t = shows c.put_freed.ensures.pieces c.self.view_is (c.put_freed.ensures.space c.self.inside.last c.self.invariant.0) in
    let r = row_in t c.requires.carved c.args.pages c.requires.pages in
    record { inside = (c.args.pages.first, c.args.pages.last, r.there, c.requires.pages.1, r.follows, r.at, r.inside, r.few) }

pub invariant_of-self : goal.invariant_of-self
invariant_of-self c =
    let t = shows c.put_freed.ensures.pieces c.self.view_is (c.put_freed.ensures.space c.self.inside.last c.self.invariant.0) in
    let r = row_in t c.requires.carved c.args.pages c.requires.pages in
    let low = c.low_behind-self-inside in
    let is = c.lay_row.ensures c.args.pages.first c.args.pages.last c.requires.pages.1 r.follows ∙ r.same in
    let view : Space = with_carved c.args.row.now (stored c.self.inside.last c.put_freed.new.tree) in
    let first = ap (λ (p : Piece). p.first) c.in_state.ensures in
    let last = ap (λ (p : Piece). p.last) c.in_state.ensures in
    subst (λ l. IsSpace (stored c.self.inside.last l) × NoneFreeBelow low.result l × AreLive c.put_freed.new.freed l × Unit {0}) (sym is) (
      carved_space r.stands,
      elim low.ensures.is [
        | inl h ↦ subst (λ n. NoneFreeBelow n view.pieces) (sym (h.1 ∙ ap (λ n. max c.put_freed.new.low (n + 1)) last))
            (none_below_row r.stands c.put_freed.new.low c.put_freed.ensures.low (omega (arith, h.0, first)))
        | inr h ↦ subst (λ n. NoneFreeBelow n view.pieces) (sym h.1)
            (none_below_carved r.stands c.put_freed.new.low c.put_freed.ensures.low)
      ],
      live_none c.put_freed.ensures.none _,
      tt,
    )

pub returns : goal.returns
returns c =
    let t = shows c.put_freed.ensures.pieces c.self.view_is (c.put_freed.ensures.space c.self.inside.last c.self.invariant.0) in
    let r = row_in t c.requires.carved c.args.pages c.requires.pages in
    let is = shown_none c.put_freed.ensures.none
    ∙ c.lay_row.ensures c.args.pages.first c.args.pages.last c.requires.pages.1 r.follows ∙ r.same in
    record {
      is = ap (λ l. stored c.self.inside.last l) is ∙ ap (λ (v : Space). with_carved c.args.row.now v) t.is;
      space = subst (λ l. IsSpace (stored c.self.inside.last l)) (sym is) (carved_space r.stands);
    }
