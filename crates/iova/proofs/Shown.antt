-- What a space shows while it knows a piece that came free, which its tree has as live.
use Rattle.iova.proofs.Names.{◌≡◌, ◌≢◌, ℕ, ◌+◌, ◌-◌, ◌<◌, ◌≤◌, ◌⊎◌, ◌↔◌, List, [], ◌∷◌, ◌++◌, length, Option, Some, None, IfSome, refl, ap}
use Rattle.iova.proofs.Names.{sym, ◌∙◌, inl, inr, subst, arith, append-nil, append_assoc, length-append, AllByRecursion, Range, IsIn, Ends}
use Rattle.iova.proofs.Names.{nat_tests, PageState, Free, Live, Piece, Holds, free_end, free_start, widened, with_free, IsOrdered}
use Rattle.iova.proofs.Names.{piece_of, state_at, with_piece, Space, IsSpace, Frees, Takes, AreLive, TakesPlace, shown, stored, rest_above}
use Rattle.iova.proofs.Names.{rest_below, pages_as}
use Rattle.iova.proofs.Pieces.{order}
use Rattle.iova.proofs.Puts.{ordered_put}
use Rattle.iova.proofs.Among.{in_le, in_one, in_other, in_state, put_piece}
use Rattle.iova.proofs.Freed.{frees, space_freed}
use Rattle.iova.proofs.FreeRange.{free_end_ge, free_start_le}
use Rattle.iova.proofs.Same.{same_pieces}
use Rattle.iova.proofs.Taken.{takes}
use Rattle.iova.proofs.parts.Added.{rest_below-none, rest_below-some, with_over}
use Rattle.iova.proofs.parts.Over.{with_alike}
use Rattle.iova.proofs.parts.Parts.{above_whole, below_whole, ordered_behind}

-- a piece that is there, and those before and behind it
pub parted : (p : Piece) (ps : List Piece) → IsIn p ps → (xs : List Piece) × (ys : List Piece) × (ps ≡ xs ++ p ∷ ys)
parted p [] m = absurd m
parted p (q ∷ ps) m = elim m [
  | inl e ↦ ([], ps, ap (λ r. r ∷ ps) (sym e))
  | inr n ↦ let r = parted p ps n in (q ∷ r.0, r.1, ap (λ l. q ∷ l) r.2)
]

-- a piece that is put where it is changes nothing
pub put_again : (from : ℕ) (p : Piece) (ps : List Piece) → IsOrdered from ps → IsIn p ps → with_piece p ps ≡ ps
put_again from p ps o i =
    let r = parted p ps i in cc (with_alike from r.0 p r.1 p (subst (λ l. IsOrdered from l) r.2 o) refl refl)

-- the pages as a range
abbrev range_of : Ends → Range
range_of pages = record { first = pages.first; pages = pages.last - pages.first + 1 }

range_is : (pages : Ends) (s : PageState) → pages.first ≤ pages.last → pages_as pages s ≡ piece_of (range_of pages) s
range_is pages s w =
    let e : pages.last ≡ pages.first + (pages.last - pages.first + 1) - 1 = omega arith in cc

-- ---- a live piece that came free

module _ (a : Space) (pages : Ends) (sp : IsSpace a) (i : IsIn (pages_as pages Live) a.pieces) where
  abbrev q : Piece
  q = pages_as pages Live

  -- the free piece that it is by then
  abbrev m : Piece
  m = widened q a.pieces

  abbrev b : Space
  b = record a { pieces = with_free q a.pieces }

  pub wide : pages.first ≤ pages.last
  wide = (in_le 1 q a.pieces sp.ordered i).1

  pub space_shown_free : IsSpace (record a { pieces = with_free (pages_as pages Live) a.pieces })
  space_shown_free = space_freed a q sp i

  pub bounds : (1 ≤ free_start a.pieces pages.first) × (free_start a.pieces pages.first ≤ pages.first)
      × (pages.last ≤ free_end a.pieces pages.last)
  bounds =
      let b = free_start_le 1 pages.first a.pieces sp.ordered (in_le 1 q a.pieces sp.ordered i).0 in
      (b.0, b.1, free_end_ge 1 pages.last a.pieces sp.ordered)

  came_free : Frees a b (range_of pages) Live
  came_free =
      let e = range_is pages Live wide in
      frees a b (range_of pages) Live sp (omega arith) (subst (λ p. IsIn p a.pieces) e i)
      (ap (λ p. record a { pieces = with_free p a.pieces }) e)

  pub freed_inside : (page : ℕ) → pages.first ≤ page → page ≤ pages.last
      → state_at (with_free (pages_as pages Live) a.pieces) page ≡ Some Free
  freed_inside page l h = came_free.states.inside page (l, omega (arith, wide))

  pub freed_outside : (page : ℕ) → (page < pages.first) ⊎ (pages.last < page)
      → state_at (with_free (pages_as pages Live) a.pieces) page ≡ state_at a.pieces page
  freed_outside page x =
      came_free.states.outside page (λ w. elim x [ inl h ↦ omega (arith, w.0, h) | inr h ↦ omega (arith, w.1, h, wide) ])

  pub freed_fewer : length (with_free (pages_as pages Live) a.pieces) ≤ length a.pieces
  freed_fewer = came_free.fewer

  -- the pieces in use are those of before without it
  pub freed_others : (r : Piece) → r.state ≢ Free → IsIn r (with_free (pages_as pages Live) a.pieces)
      ↔ (IsIn r a.pieces × (r ≢ pages_as pages Live))
  freed_others r n =
      subst (λ p. IsIn r (with_free q a.pieces) ↔ (IsIn r a.pieces × (r ≢ p))) (sym (range_is pages Live wide)) (came_free.in_use r n)

  -- ---- and is taken again

  abbrev c : List Piece
  c = with_piece q b.pieces

  back_takes : Takes b (record b { pieces = c }) (range_of pages)
  back_takes =
      takes b (record b { pieces = c }) (range_of pages) space_shown_free (omega arith)
      (λ page w. freed_inside page w.0 (omega (arith, w.1, wide)))
      (ap (λ p. record b { pieces = with_piece p b.pieces }) (range_is pages Live wide))

  back_ordered : IsOrdered 1 c
  back_ordered =
      ordered_put 1 pages.first pages.last Live b.pieces space_shown_free.ordered (in_le 1 q a.pieces sp.ordered i).0 wide (omega arith)
      (λ f. absurd (cc))

  back_states : (page : ℕ) → state_at c page ≡ state_at a.pieces page
  back_states page =
      let inside = back_takes.states.inside page in
      let outside = back_takes.states.outside page in
      let was = in_state 1 q a.pieces page sp.ordered i in
      let before = freed_outside page in
      let w = wide in grind arith

  same_or_other : (r : Piece) → IsIn r a.pieces → (r ≡ q) ⊎ (r ≢ q)
  same_or_other r k =
      let w = in_le 1 r a.pieces sp.ordered k in
      let v = wide in
      let one = in_one 1 r q a.pieces pages.first sp.ordered k i in grind arith

  pub taken_back : with_piece (pages_as pages Live) (with_free (pages_as pages Live) a.pieces) ≡ a.pieces
  taken_back =
      let e = range_is pages Live wide in
      same_pieces 1 c a.pieces back_ordered sp.ordered back_states
      (λ r n k. elim ((back_takes.in_use r n).0 k) [
        | inl x ↦ subst (λ p. IsIn p a.pieces) (e ∙ sym x) i
        | inr x ↦ ((freed_others r n).0 x).0
      ])
      (λ r n k. (back_takes.in_use r n).1 (elim (same_or_other r k) [
        | inl x ↦ inl (x ∙ e)
        | inr x ↦ inr ((freed_others r n).1 (k, x))
      ]))

  -- ---- the pieces of before that it takes the place of

  parts : (xs : List Piece) × (ys : List Piece) × (b.pieces ≡ xs ++ m ∷ ys)
  parts = parted m b.pieces (put_piece m.first m.last Free a.pieces)

  was : a.pieces ≡ (parts.0 ++ rest_below pages.first m) ++ q ∷ (rest_above pages.last m ++ parts.1)
  was =
      let r = parts in
      let o = subst (λ l. IsOrdered 1 l) r.2 space_shown_free.ordered in
      let w = wide in
      let bs = bounds in
      let below = below_whole 1 r.0 m r.1 pages.first o bs.1 in
      let above = above_whole (m.last + 1) pages.last r.1 (ordered_behind 1 r.0 m r.1 o) (omega (arith, bs.2)) in
      cc (taken_back, with_over 1 r.0 m r.1 q o (omega (arith, bs.2, w)) (omega (arith, bs.1, w)))

  -- how many more pieces there were
  pub freed_count : length a.pieces
      ≡ length (with_free (pages_as pages Live) a.pieces) + length (rest_below pages.first m) + length (rest_above pages.last m)
  freed_count =
      let r = parts in
      let x = rest_below pages.first m in
      let y = rest_above pages.last m in
      omega (
        arith,
        ap length was,
        ap length r.2,
        length-append (r.0 ++ x) (q ∷ (y ++ r.1)),
        length-append r.0 x,
        length-append y r.1,
        length-append r.0 (m ∷ r.1),
      )

  within_above : AllByRecursion (λ p. p.first ≤ m.last) (rest_above pages.last m)
  within_above = grind (arith, nat_tests)

  pub freed_place : TakesPlace (record { first = free_start a.pieces pages.first; last = free_end a.pieces pages.last }) a.pieces
  freed_place =
      let r = parts in
      let y = rest_above pages.last m in
      let bs = bounds in
      let z : Piece = record m { last = pages.first - 1 } in
      elim (order pages.first m.first) [
        | inl l ↦ record {
          before = r.0;
          first = q;
          rest = y;
          behind = r.1;
          parts = cc (was, rest_below-none pages.first m l, append-nil r.0, append_assoc r.0 (q ∷ y) r.1);
          begins = omega (arith, l, bs.1);
          within = within_above;
          now = r.2;
        }
        | inr l ↦ record {
          before = r.0;
          first = z;
          rest = q ∷ y;
          behind = r.1;
          parts = cc (was, rest_below-some pages.first m l, append_assoc r.0 (z ∷ []) (q ∷ (y ++ r.1)), append_assoc r.0 (z ∷ q ∷ y) r.1);
          begins = refl;
          within = (omega (arith, bs.2, wide), within_above);
          now = r.2;
        }
      ]

-- ---- a space

module _ (last : ℕ) (pieces : List Piece) (sp : IsSpace (stored last pieces)) where
  pub space_shown : (freed : Option Ends) → AreLive freed pieces → IsSpace (stored last (shown freed pieces))
  space_shown None k = sp
  space_shown (Some pages) k = space_shown_free (stored last pieces) pages sp k

  -- no more pieces are shown than there are
  pub few_shown : (freed : Option Ends) → AreLive freed pieces → length (shown freed pieces) ≤ length pieces
  few_shown None k = omega arith
  few_shown (Some pages) k = freed_fewer (stored last pieces) pages sp k

  -- a live piece of the tree is shown, if one of its pages is shown as it is in the tree
  pub live_shown : (freed : Option Ends) → AreLive freed pieces → (p : Piece) (page : ℕ) → IsIn p pieces
      → Holds p page → p.state ≡ Live → state_at (shown freed pieces) page ≡ state_at pieces page → IsIn p (shown freed pieces)
  live_shown None k p page i h l e = i
  live_shown (Some pages) k p page i h l e =
      let a : Space = stored last pieces in
      let other = λ (f : p ≡ pages_as pages Live).
      let g : (pages.first ≤ page) × (page ≤ pages.last) = subst (λ (r : Piece). (r.first ≤ page) × (page ≤ r.last)) f h in
      in_other p pieces page Free sp.ordered i (cc (freed_inside a pages sp k page g.0 g.1)) (λ f. absurd (cc)) h in
      (freed_others a pages sp k p (λ f. absurd (cc))).1 (i, other)

  -- a page of the piece that came free is free, and any other is what it is in the tree
  pub state_inside : (freed : Option Ends) → AreLive freed pieces → (pages : Ends) (page : ℕ) → freed ≡ Some pages → pages.first ≤ page
      → page ≤ pages.last → state_at (shown freed pieces) page ≡ Some Free
  state_inside freed k pages page e l h =
      subst (λ f. state_at (shown f pieces) page ≡ Some Free) (sym e)
      (freed_inside (stored last pieces) pages sp (subst (λ f. AreLive f pieces) e k) page l h)

  pub state_outside : (freed : Option Ends) → AreLive freed pieces → (page : ℕ)
      → IfSome freed (λ pages. (page < pages.first) ⊎ (pages.last < page)) → state_at (shown freed pieces) page ≡ state_at pieces page
  state_outside None k page x = refl
  state_outside (Some pages) k page x = freed_outside (stored last pieces) pages sp k page x
