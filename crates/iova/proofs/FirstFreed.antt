-- A piece that came free is the lowest fit for as many pages, where no free piece before it fits them.
use Rattle.iova.proofs.Names.{◌≡◌, ℕ, ◌+◌, ◌%◌, ◌<◌, ◌≤◌, refl, ap, sym, ◌∙◌, inl, inr, subst, arith, IsIn, Ends, Free, Live, Piece}
use Rattle.iova.proofs.Names.{free_start, widened, with_free, NoneFreeBelow, Space, IsLowestFit, IsSpace, pages_as}
use Rattle.iova.proofs.Pieces.{order}
use Rattle.iova.proofs.Among.{in_one, put_only, put_piece}
use Rattle.iova.proofs.FreeRange.{free_start_free}
use Rattle.iova.proofs.LowestFree.{front_first, holding}
use Rattle.iova.proofs.Shown.{bounds, space_shown_free, wide}

module _ (a : Space) (pages : Ends) (sp : IsSpace a) (i : IsIn (pages_as pages Live) a.pieces) where
  abbrev m : Piece
  m = widened (pages_as pages Live) a.pieces

  -- it touches no free piece before it, if none begins below it
  pub alone_lowest : (low : ℕ) → NoneFreeBelow low a.pieces → pages.first ≤ low → free_start a.pieces pages.first ≡ pages.first
  alone_lowest low none h =
      let b = bounds a pages sp i in
      elim (order pages.first m.first) [
        | inl l ↦ omega (arith, l, b.1)
        | inr l ↦
            let r = holding a.pieces m.first Free (free_start_free 1 pages.first a.pieces m.first sp.ordered (omega arith) l) in
            let n = none r.0 r.1 r.3 in
            absurd (omega (arith, n, r.2.0, l, h))
      ]

  -- the first free piece that is long enough
  pub first_fit : (wanted unit : ℕ) → free_start a.pieces pages.first ≡ pages.first
      → ((p : Piece) → IsIn p a.pieces → p.state ≡ Free → p.first < pages.first → p.last + 1 < p.first + wanted)
      → 1 ≤ wanted → pages.last + 1 ≡ pages.first + wanted → pages.first % unit ≡ 0
      → IsLowestFit (with_free (pages_as pages Live) a.pieces) wanted unit pages.first
  first_fit wanted unit alone none some long aligned =
      let b = bounds a pages sp i in
      let w = wide a pages sp i in
      let s = space_shown_free a pages sp i in
      subst (λ n. IsLowestFit (with_free (pages_as pages Live) a.pieces) wanted unit n) alone
      (front_first m wanted unit (with_free (pages_as pages Live) a.pieces) s.ordered (put_piece m.first m.last Free a.pieces) refl
      (λ p k free less. elim (put_only m.first m.last Free p a.pieces sp.ordered k) [
        | inl e ↦ absurd (grind arith)
        | inr x ↦ elim x.2.whole [
          | inl e ↦ none p (subst (λ q. IsIn q a.pieces) (sym e) x.1) free (omega (arith, less, alone))
          | inr c ↦
              let e = in_one 1 x.0 (pages_as pages Live) a.pieces pages.first sp.ordered x.1 i in
              let apart = x.2.apart in
              let begins = x.2.begins in
              let some = x.2.some in absurd (grind arith)
        ]
      ]) some (omega (arith, b.2, alone, long)) (ap (λ n. n % unit) alone ∙ aligned))
