use Rattle.iova.proofs.Names.{arith, ◌∙◌, List, Option, Some, None, IfSome, ap, inl, subst, sym, Ends, Free, Piece, IsOrdered, pages_as}
use Rattle.iova.proofs.Names.{IsSpace, Space, IsFirstOrNone, stored, with_freed}
use Rattle.iova.proofs.Among.{in_le, put_piece}
use Rattle.iova.proofs.Shown.{space_shown}
use Rattle.iova.proofs.Sorted.{space_sorted}
use Rattle.iova.proofs.searches.Walked.{from_all}
use Rattle.iova.proofs.page_tree.PageTree.pieces.Goals as goal

-- the first page lies before all
first_page : (freed : Option Ends) (ps : List Piece) → IsOrdered 1 (with_freed freed ps) → IfSome freed (λ ends. IsFirstOrNone ends 1)
first_page None ps o = tt
first_page (Some ends) ps o =
    inl (in_le 1 (pages_as ends Free) (with_freed (Some ends) ps) o (put_piece ends.first ends.last Free ps)).0

pub invariant_of-result : goal.invariant_of-result
invariant_of-result c =
    let a = c.self.inside in
    let sp = space_shown a.last a.tree c.self.invariant.0 a.freed c.self.invariant.2 in
    let ordered = subst (λ l. IsOrdered 1 l) c.freed_ends.ensures.shown sp.ordered in
    record {
      kept = c.self.invariant.0.ordered;
      sorted = space_sorted (stored a.last a.tree) c.self.invariant.0;
      ordered = ordered;
      place = c.freed_ends.ensures.place;
      narrow = c.freed_ends.ensures.narrow;
      outside = first_page c.freed_ends.result a.tree ordered;
    }

pub returns : goal.returns
returns c =
    let a = c.self.inside in
    let sp = space_shown a.last a.tree c.self.invariant.0 a.freed c.self.invariant.2 in
    let ordered = subst (λ l. IsOrdered 1 l) c.freed_ends.ensures.shown sp.ordered in
    let all = from_all 1 1 (with_freed c.freed_ends.result a.tree) ordered (omega arith) in
    record {
      pieces = all ∙ sym c.freed_ends.ensures.shown ∙ ap (λ (v : Space). v.pieces) c.self.view_is;
      space = subst (λ v. IsSpace v) c.self.view_is sp;
    }
