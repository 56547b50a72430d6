use Rattle.std.proofs.Common.{◌≡◌, ℕ, ◌+◌, ◌-◌, ◌<◌, ◌^◌, All, List, ◌∷◌, length, suc, ap, subst, ◌∙◌, refl, arith}
use Rattle.std.proofs.lemmas.List.Sums.{sum_by-cons}
use Rattle.piece_tree.specs.declared.piece.Piece.{Piece}
use Rattle.piece_tree.specs.declared.piece.PageState.{PageState}
use Rattle.piece_tree.specs.declared.piece.PageState.TheVariants.{Free, Live, Retired}
use Rattle.iova.specs.Pieces.{IsOrdered}
use Rattle.engine.specs.Totals.{live_as, live_in, live_pages}
use Rattle.engine.proofs.domain.readers.live_pages.Goals as goal

first_live : (all rest : List Piece) (p : Piece) → all ≡ p ∷ rest → p.state ≡ Live → live_pages all ≡ (p.last + 1 - p.first) + live_pages
    rest
first_live all rest p e l = ap live_pages e ∙ sum_by-cons live_in p rest ∙ ap (λ s. live_as s (p.last + 1 - p.first) + live_pages rest) l

other_state : (s : PageState) (pages : ℕ) → (s ≡ Live → ⊥) → live_as s pages ≡ 0
other_state Free pages h = refl
other_state Live pages h = absurd (h refl)
other_state Retired pages h = refl

first_other : (all rest : List Piece) (p : Piece) → all ≡ p ∷ rest → (p.state ≡ Live → ⊥) → live_pages all ≡ 0 + live_pages rest
first_other all rest p e h = ap live_pages e ∙ sum_by-cons live_in p rest ∙ ap (λ n. n + live_pages rest) (other_state p.state (p.last +
    1 - p.first) h)

behind_first : (from : ℕ) (all rest : List Piece) (p : Piece) → all ≡ p ∷ rest → IsOrdered from all → IsOrdered (p.last + 1) rest
behind_first from all rest p e o = (subst (λ ps. IsOrdered from ps) e o).3

narrow_rest : (all rest : List Piece) (p : Piece) → all ≡ p ∷ rest → All (λ (q : Piece). q.last < 2 ^ 40) all
    → All (λ (q : Piece). q.last < 2 ^ 40) rest
narrow_rest all rest p e a k d h = subst (λ ps. All (λ (q : Piece). q.last < 2 ^ 40) ps) e a (suc k) d (omega arith)

narrow_first : (all rest : List Piece) (p : Piece) → all ≡ p ∷ rest → All (λ (q : Piece). q.last < 2 ^ 40) all → p.last < 2 ^ 40
narrow_first all rest p e a = subst (λ ps. All (λ (q : Piece). q.last < 2 ^ 40) ps) e a 0 p (omega arith)

pub loop-piece-preserved-in-Live : goal.loop-piece-preserved-in-Live
loop-piece-preserved-in-Live c =
    let i = c.loop-piece.invariant in
    let e = c.in-Some.ensures.steps in
    let live = first_live c.loop-piece.piece-iterator c.next.new.self c.in-Some.piece e c.in-Live.is in
    let most = narrow_first c.loop-piece.piece-iterator c.next.new.self c.in-Some.piece e i.narrow in
    let count = ap (λ (ps : List Piece). length ps) e in
    record {
      next = tt;
      finite = tt;
      so_far = omega (arith, i.so_far);
      from = c.in-Some.piece.last + 1;
      ordered = behind_first i.from c.loop-piece.piece-iterator c.next.new.self c.in-Some.piece e i.ordered;
      narrow = narrow_rest c.loop-piece.piece-iterator c.next.new.self c.in-Some.piece e i.narrow;
      few = omega (arith, i.few);
    }

pub loop-piece-preserved : goal.loop-piece-preserved
loop-piece-preserved c =
    let i = c.loop-piece.invariant in
    let e = c.in-Some.ensures.steps in
    let live = first_other c.loop-piece.piece-iterator c.next.new.self c.in-Some.piece e c.in_default.not-Live in
    let count = ap (λ (ps : List Piece). length ps) e in
    record {
      next = tt;
      finite = tt;
      so_far = omega (arith, i.so_far);
      from = c.in-Some.piece.last + 1;
      ordered = behind_first i.from c.loop-piece.piece-iterator c.next.new.self c.in-Some.piece e i.ordered;
      narrow = narrow_rest c.loop-piece.piece-iterator c.next.new.self c.in-Some.piece e i.narrow;
      few = omega (arith, i.few);
    }
