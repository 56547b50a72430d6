-- The list of a tree, at the place of a page.
use Rattle.piece_tree.proofs.Names.{◌≡◌, ℕ, ◌+◌, ◌<◌, ◌≤◌, List, [], ◌∷◌, ◌++◌, length, Option, Some, None, refl, ap, sym, ◌∙◌, inl, inr, ◌⊎◌}
use Rattle.piece_tree.proofs.Names.{arith, nat_tests, AllByRecursion, Slab, get, slab_len, Top, Piece}
use Rattle.piece_tree.proofs.Names.{IsSome, MOST_PIECES, NUMBERS_END, Node, AreSorted, Holds, piece_at, Shape, items, IsWhole, Above}
use Rattle.piece_tree.proofs.Names.{among, front, back, Lies, WholeBecomes}
use Rattle.piece_tree.proofs.shapes.Led.{lies_at, placed-all, placed-none, placed-sorted, under}
use Rattle.piece_tree.proofs.shapes.Sorted.{all_map, ends_below}
use Rattle.piece_tree.proofs.shapes.Tall.{low_tree, order}

-- ---- the whole then

pub whole-now : {old new : Slab Node} {root result : Top} {t : Shape} {path : Above} {ps all : List Piece} → IsWhole old root t
    → (b : WholeBecomes old new result path ps) → among path ps ≡ all → AreSorted 0 all → slab_len new ≡ length all
    → length all ≤ MOST_PIECES → IsWhole new result b.shape
whole-now {new = new} w b e s len few =
    let is = b.all ∙ e in
    record {
      here = b.here;
      stands = b.stands;
      once = b.once;
      low = low_tree (get new) b.shape b.stands (rw is few);
      sorted = rw is s;
      count = len ∙ sym (ap length is);
      few = rw is few;
      room = rw b.capacity w.room;
      keys = rw b.capacity w.keys;
    }

-- ---- what is found

pub at-none : (page : ℕ) (ps : List Piece) → AllByRecursion (λ q. page < q.first) ps → piece_at ps page ≡ None
unfolding piece_at
at-none page [] a = refl
at-none page (p ∷ ps) a = grind (arith, nat_tests, at-none page ps a.1, a.0)

pub at-skip : (page : ℕ) (xs ys : List Piece) → AllByRecursion (λ q. q.last < page) xs → piece_at (xs ++ ys) page ≡ piece_at ys page
unfolding piece_at
at-skip page [] ys a = refl
at-skip page (x ∷ xs) ys a = grind (arith, nat_tests, at-skip page xs ys a.1, a.0)

-- the piece that a page lies in, by its place in the list
pub found_at : (from page : ℕ) (xs : List Piece) (p : Piece) (ys : List Piece) → AreSorted from (xs ++ p ∷ ys) → Holds p page
    → piece_at (xs ++ p ∷ ys) page ≡ Some p
unfolding piece_at
found_at from page xs p ys s h =
    let here : piece_at (p ∷ ys) page ≡ Some p = grind (arith, nat_tests, h.0, h.1) in
    at-skip page xs (p ∷ ys) (ends_below from page xs p ys s h.0) ∙ here

at-first : (page : ℕ) (p : Piece) (ps : List Piece) → (Holds p page × (piece_at (p ∷ ps) page ≡ Some p))
    ⊎ (piece_at (p ∷ ps) page ≡ piece_at ps page)
unfolding piece_at
at-first page p ps = elim (order p.first page) [
  | inl a ↦ elim (order page p.last) [ inl b ↦ inl ((a, b), grind (arith, nat_tests)) | inr b ↦ inr (grind (arith, nat_tests)) ]
  | inr a ↦ inr (grind (arith, nat_tests))
]

-- and back
pub found_split : (ps : List Piece) (page : ℕ) (p : Piece) → piece_at ps page ≡ Some p
    → (before : List Piece) × (behind : List Piece) × (ps ≡ before ++ p ∷ behind) × Holds p page
unfolding piece_at
found_split [] page p e = absurd (cc)
found_split (q ∷ ps) page p e = elim (at-first page q ps) [
  | inl h ↦ let is : q ≡ p = let x = h.1 in cc in ([], ps, ap (λ x. x ∷ ps) is, rw is at h.0)
  | inr h ↦ let r = found_split ps page p (sym h ∙ e) in (q ∷ r.0, r.1, ap (λ l. q ∷ l) r.2, r.3)
]

-- a page that lies in a piece is a number that no sum overflows
pub page_low : (from page : ℕ) (ps : List Piece) → AreSorted from ps → IsSome (piece_at ps page) → page < NUMBERS_END
unfolding piece_at
page_low from page [] s h = absurd (cc)
page_low from page (p ∷ ps) s h = elim (at-first page p ps) [
  | inl a ↦ omega (arith, a.0.1, s.1.1)
  | inr e ↦ page_low (p.last + 1) page ps s.2 (rw e at h)
]

-- where a way down to pages ends
module _ {nodes : Slab Node} {root : Top} {first last : ℕ} {at : Option ℕ} {t : Shape} (w : IsWhole nodes root t)
    (q : Lies first last at t) where
  -- no piece has the first of them
  pub found-none : first ≤ last → at ≡ None → None ≡ piece_at (items t) first
  found-none some none =
      let above = all_map (λ x. last < x.first) (λ x. first < x.first) (λ x h. omega (arith, h, some)) (back q.path) q.behind in
      sym (ap (λ l. piece_at l first) (placed-none (lies_at q) none) ∙ at-skip first (front q.path) (back q.path) q.before
      ∙ at-none first (back q.path) above)

  pub found-some : {key : ℕ} → at ≡ Some key → {n : Node} → get nodes key ≡ Some n → Holds n.piece first
      → Some n.piece ≡ piece_at (items t) first
  found-some here f holds =
      sym (ap (λ l. piece_at l first) (placed-all w (lies_at q) here f)
      ∙ found_at 0 first (front q.path ++ items (under w (lies_at q) here f).l) _ _ (placed-sorted w (lies_at q) here f) holds)
