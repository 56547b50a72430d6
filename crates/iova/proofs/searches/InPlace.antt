-- The first piece from a page on, where a free one stands in the place of others.
use Rattle.iova.proofs.Names.{◌≡◌, ◌≢◌, ℕ, ◌+◌, ◌<◌, ◌≤◌, ◌⊎◌, List, [], ◌∷◌, ◌++◌, Option, Some, None, IfSome, refl, ap, sym, ◌∙◌, inl}
use Rattle.iova.proofs.Names.{inr, subst, arith, AllByRecursion, Ends, NUMBERS_END, Free, Piece, IsOrdered, first_or, pieces_from, CanList}
use Rattle.iova.proofs.Names.{IsFirstOrNone, TakesPlace, with_freed, AreSorted, pages_as}
use Rattle.std.proofs.lemmas.List.{append_assoc}
use Rattle.iova.proofs.Pieces.{order}
use Rattle.iova.proofs.parts.Parts.{first_from, some_page}
use Rattle.iova.proofs.searches.Walked.{from-here, from-nil, from-past, from_before, from_behind, from_found, from_narrow}

-- those that begin below the page are none of them
from_all_below : (xs ys : List Piece) (last page : ℕ) → AllByRecursion (λ p. p.first ≤ last) xs → last < page
    → pieces_from page (xs ++ ys) ≡ pieces_from page ys
from_all_below [] ys last page a h = refl
from_all_below (x ∷ xs) ys last page a h = from-past x (xs ++ ys) page (omega (arith, a.0)) ∙ from_all_below xs ys last page a.1 h

-- no piece before another one is among them, or the first that is ends below that one
from_front : (from : ℕ) (xs : List Piece) (q : Piece) (ys : List Piece) (page : ℕ) → IsOrdered from (xs ++ q ∷ ys)
    → (pieces_from page xs ≡ [])
    ⊎ ((x : Piece) × (zs : List Piece) × (pieces_from page xs ≡ x ∷ zs) × (x.first ≤ x.last) × (x.last < q.first))
from_front from [] q ys page o = inl (from-nil page)
from_front from (x ∷ xs) q ys page o = elim (order page x.first) [
  | inl h ↦ inr (x, xs, from-here x xs page h, o.1, omega (arith, first_from (x.last + 1) xs q ys o.3))
  | inr h ↦ elim (from_front (x.last + 1) xs q ys page o.3) [
    | inl e ↦ inl (from-past x xs page h ∙ e)
    | inr w ↦ inr (w.0, w.1, from-past x xs page h ∙ w.2, w.3, w.4)
  ]
]

-- the first of the pieces from a page on
abbrev first_of : ℕ → List Piece → Option Piece
first_of page ps = first_or (pieces_from page ps) None

-- what is shown first beside what is kept first: the free piece in the place of the one that begins where it does, or the same
-- piece, which lies apart from the free one
abbrev ShowsFirst : Ends → Option Piece → Option Piece → Type 0
ShowsFirst ends kept shown =
    ((p : Piece) × (kept ≡ Some p) × (p.first ≡ ends.first) × (shown ≡ Some (pages_as ends Free)))
    ⊎ ((shown ≡ kept) × ((p : Piece) → kept ≡ Some p → (p.first ≢ ends.first) × IsFirstOrNone ends (p.last + 1)))

module _ (ends : Ends) (ps : List Piece) (o : IsOrdered 1 ps) (new : IsOrdered 1 (with_freed (Some ends) ps)) (t : TakesPlace ends ps) where
  abbrev free : Piece
  free = pages_as ends Free

  old_parts : ps ≡ t.before ++ t.first ∷ (t.rest ++ t.behind)
  old_parts = t.parts ∙ append_assoc t.before (t.first ∷ t.rest) t.behind

  old_order : IsOrdered 1 (t.before ++ t.first ∷ (t.rest ++ t.behind))
  old_order = subst (λ l. IsOrdered 1 l) old_parts o

  new_order : IsOrdered 1 (t.before ++ free ∷ t.behind)
  new_order = subst (λ l. IsOrdered 1 l) t.now new

  module _ (page : ℕ) where
    answers_under : page ≤ ends.first → ShowsFirst ends (first_of page ps) (first_of page (with_freed (Some ends) ps))
    answers_under h =
        let a = from_before t.before t.first (t.rest ++ t.behind) page None (omega (arith, t.begins)) in
        let b = from_before t.before free t.behind page None h in
        elim (from_front 1 t.before free t.behind page new_order) [
          | inl e ↦ inl (t.first, cc (old_parts, a, e), t.begins, cc (t.now, b, e))
          | inr w ↦ inr (
            cc (old_parts, a, t.now, b, w.2),
            (λ p e. let same : w.0 ≡ p = cc (old_parts, a, w.2) in
                subst (λ q. (q.first ≢ ends.first) × IsFirstOrNone ends (q.last + 1)) same (omega arith, inl (omega (arith, w.4)))),
          )
        ]

    answers_past : ends.last < page → ShowsFirst ends (first_of page ps) (first_of page (with_freed (Some ends) ps))
    answers_past h =
        let wide = some_page 1 t.before free t.behind new_order in
        let a = from_behind 1 t.before t.first (t.rest ++ t.behind) page old_order (omega (arith, t.begins)) in
        let c = from_all_below t.rest t.behind ends.last page t.within h in
        let b = from_behind 1 t.before free t.behind page new_order (omega arith) in
        inr (cc (old_parts, t.now, a, b, c), (λ p e. let w = from_found 1 ps page p o e in (omega (arith, w), inr (omega (arith, w)))))

-- ---- the pieces of a space

from_page : {ps : List Piece} {freed : Option Ends} {page : ℕ} → CanList ps freed page → (other : ℕ)
    → IfSome freed (λ ends. IsFirstOrNone ends other) → CanList ps freed other
from_page c other h = record { kept = c.kept; sorted = c.sorted; ordered = c.ordered; place = c.place; narrow = c.narrow; outside = h }

module _ (ps : List Piece) (page : ℕ) (found : Option Piece) (is : found ≡ first_of page ps) where
  abbrev first_shown : Option Ends → Option Piece
  first_shown freed = first_of page (with_freed freed ps)

  found_answers : (ends : Ends) → CanList ps (Some ends) page → ShowsFirst ends found (first_shown (Some ends))
  found_answers ends c =
      subst (λ f. ShowsFirst ends f (first_shown (Some ends))) (sym is) (elim c.outside [
        | inl h ↦ answers_under ends ps c.kept c.ordered c.place page h
        | inr h ↦ answers_past ends ps c.kept c.ordered c.place page h
      ])

  pub shown_none : (freed : Option Ends) → CanList ps freed page → found ≡ None → first_shown freed ≡ None
  shown_none None c e = sym is ∙ e
  shown_none (Some ends) c e = elim (found_answers ends c) [ inl a ↦ absurd (let f = a.1 in cc) | inr a ↦ a.0 ∙ e ]

  module _ (p : Piece) (e : found ≡ Some p) where
    found_narrow : AreSorted 0 ps → p.last < NUMBERS_END
    found_narrow s = (from_narrow ps page p s (sym is ∙ e)).1

    -- it begins where the free one does, and that is shown
    pub shown_freed : (ends : Ends) → CanList ps (Some ends) page → p.first ≡ ends.first
        → first_shown (Some ends) ≡ Some (pages_as ends Free)
    shown_freed ends c h = elim (found_answers ends c) [ inl a ↦ a.3 | inr a ↦ absurd ((a.1 p e).0 h) ]

    -- it begins elsewhere, and is shown itself
    pub record ShowsSame (freed : Option Ends) : Type 0 where
      pub first : first_shown freed ≡ Some p
      pub narrow : p.last < NUMBERS_END
      pub goes_on : CanList ps freed (p.last + 1)

    pub shown_same : (freed : Option Ends) → CanList ps freed page → ((ends : Ends) → freed ≡ Some ends → p.first ≢ ends.first)
        → ShowsSame freed
    shown_same None c h = record { first = sym is ∙ e; narrow = found_narrow c.sorted; goes_on = from_page c (p.last + 1) tt }
    shown_same (Some ends) c h =
        let s : (first_shown (Some ends) ≡ Some p) × IsFirstOrNone ends (p.last + 1) = elim (found_answers ends c) [
          | inl a ↦ absurd (let f = a.1 in let same : a.0 ≡ p = cc in h ends refl (sym (ap (λ q. q.first) same) ∙ a.2))
          | inr a ↦ (a.0 ∙ e, (a.1 p e).1)
        ] in
        record { first = s.0; narrow = found_narrow c.sorted; goes_on = from_page c (p.last + 1) s.1 }
