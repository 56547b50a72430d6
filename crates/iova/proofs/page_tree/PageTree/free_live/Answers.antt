use Rattle.iova.proofs.Names.{◌≡◌, ℕ, ◌≤◌, ◌∙◌, List, refl, ap, subst, sym, Range, PageState, Free, Live, Ends, Piece, FreesLive, with_free}
use Rattle.iova.proofs.Names.{pages_as, piece_of, Space, IsSpace, MayRetire, shown, stored}
use Rattle.iova.proofs.FreedLive.{frees_live, space_freed_live}
use Rattle.iova.proofs.Known.{none_of, live_none, shown_none}
use Rattle.iova.proofs.parts.Shows.{Shows, shows}
use Rattle.iova.proofs.searches.CutAt.{at_in}
use Rattle.iova.proofs.page_tree.PageTree.free_live.Goals as goal

-- the pages of a range come free in a tree with what the space shows
module _ {last : ℕ} {tree : List Piece} {now : Space} (t : Shows last tree now) {range : Range} {pages : Ends} {state : PageState}
    (some : 1 ≤ range.pages) (is : pages_as pages state ≡ piece_of range state) (may : MayRetire now.pieces range) where
  kept : MayRetire tree range
  kept = subst (λ (v : Space). MayRetire v.pieces range) (sym t.is) may

  comes_free : {new : Space} → new ≡ stored last (with_free (pages_as pages state) tree) → FreesLive now new range
  comes_free {new} e = subst (λ v. FreesLive v new range) t.is (frees_live (stored last tree) range t.space some kept new
      (e ∙ ap (λ p. stored last (with_free p tree)) is))

  stays : IsSpace now × IsSpace (stored last (with_free (pages_as pages state) tree))
  stays = (
    t.now_space,
    subst (λ p. IsSpace (stored last (with_free p tree))) (sym is) (space_freed_live (stored last tree) range t.space some kept),
  )

pub returns-then-are : goal.returns-then-are
returns-then-are c =
    let none = none_of c.self.inside.freed c.is_none.ensures c.if-is_none.true in
    let t = shows (ap (λ f. shown f c.self.inside.tree) (sym none)) c.self.view_is c.self.invariant.0 in
    let e = c.ends_of-pages.ensures in
    let is = e.piece Live in record { freed = comes_free t e.range.some is c.requires refl; space = stays t e.range.some is c.requires }

pub invariant_of-self-then-is_live : goal.invariant_of-self-then-is_live
invariant_of-self-then-is_live c =
    let pages = c.ends_of-pages.result in
    let there = (at_in c.put_freed.new.tree pages.first (pages_as pages Live) (c.is_live.ensures.0 c.if-is_live.true)).0 in
    (c.put_freed.ensures.space c.self.inside.last c.self.invariant.0, c.put_freed.ensures.low, there, tt)

pub returns-then-is_live : goal.returns-then-is_live
returns-then-is_live c =
    let t = shows c.put_freed.ensures.pieces c.self.view_is (c.put_freed.ensures.space c.self.inside.last c.self.invariant.0) in
    let e = c.ends_of-pages.ensures in
    let is = e.piece Live in record { freed = comes_free t e.range.some is c.requires refl; space = stays t e.range.some is c.requires }

pub invariant_of-self-else-is_live : goal.invariant_of-self-else-is_live
invariant_of-self-else-is_live c =
    (c.put_freed.ensures.space c.self.inside.last c.self.invariant.0, c.put_freed.ensures.low, live_none c.put_freed.ensures.none _, tt)

pub free-requires-clause-space : goal.free-requires-clause-space
free-requires-clause-space c _ =
    let t = shows c.put_freed.ensures.pieces c.self.view_is (c.put_freed.ensures.space c.self.inside.last c.self.invariant.0) in
    subst (λ l. IsSpace (stored c.self.inside.last (with_free (pages_as c.ends_of-pages.result Free) l)))
    (sym (shown_none c.put_freed.ensures.none))
    (stays t c.ends_of-pages.ensures.range.some (c.ends_of-pages.ensures.piece Free) c.requires).1

pub returns-clause-freed : goal.returns-clause-freed
returns-clause-freed c =
    let t = shows c.put_freed.ensures.pieces c.self.view_is (c.put_freed.ensures.space c.self.inside.last c.self.invariant.0) in
    comes_free t c.ends_of-pages.ensures.range.some (c.ends_of-pages.ensures.piece Free) c.requires
    (c.free.ensures.is
    ∙ ap (λ l. stored c.self.inside.last (with_free (pages_as c.ends_of-pages.result Free) l)) (shown_none c.put_freed.ensures.none))
