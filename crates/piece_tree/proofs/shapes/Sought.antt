-- Searches in a tree.
use Rattle.piece_tree.proofs.Names.{◌≡◌, ℕ, ◌+◌, ◌<◌, ◌≤◌, true, false, List, [], ◌∷◌, ◌++◌, Option, Some, None, IfSome, refl, ap, sym, ◌∙◌}
use Rattle.piece_tree.proofs.Names.{◌⊎◌, inl, inr, append_assoc, arith, nat_tests, AllByRecursion, Slab, get, Top, Piece, Node, AreSorted}
use Rattle.piece_tree.proofs.Names.{first_of, pieces_from, Shape, items, root_of, top_of, at_root, IsWhole, pieces_of}
use Rattle.piece_tree.proofs.Names.{Above, Whole, Beside, Bool, plug, front, back, IsPiece, IsStarting, nat_lt, piece_at}
use Rattle.piece_tree.proofs.shapes.Led.{Place, Roots, beside, down, down-falls, down-is, down-root, node_height, placed-all, placed-is}
use Rattle.piece_tree.proofs.shapes.Led.{placed-none, placed-piece, placed-sorted, under}
use Rattle.piece_tree.proofs.shapes.Placed.{found_at, found_split}
use Rattle.piece_tree.proofs.shapes.Sorted.{all_append, all_map, all_right, begins_above, sorted_at}
use Rattle.piece_tree.proofs.shapes.Tall.{whole_view}

-- ---- the first piece from a page on

from-skip : (page : ℕ) (xs ys : List Piece) → AllByRecursion (λ q. q.first < page) xs → pieces_from page (xs ++ ys) ≡ pieces_from page ys
unfolding pieces_from
from-skip page [] ys a = refl
from-skip page (x ∷ xs) ys a = grind (arith, nat_tests, from-skip page xs ys a.1, a.0)

from-all : (page : ℕ) (ps : List Piece) → IfSome (first_of ps) (λ p. page ≤ p.first) → pieces_from page ps ≡ ps
unfolding pieces_from
from-all page [] a = refl
from-all page (p ∷ ps) a = grind (arith, nat_tests, a)

-- so far: what comes before a place begins below the page, and what was found is the first piece behind it
pub record Narrows (page : ℕ) (at : Option ℕ) (found : Option Piece) (t : Shape) : Type 0 where
  pub path : Above
  pub there : Shape
  pub is : t ≡ plug path there
  pub root : at ≡ root_of there
  pub before : AllByRecursion (λ q. q.first < page) (front path)
  pub behind : found ≡ first_of (back path)
  pub from : IfSome found (λ p. page ≤ p.first)

abbrev pub IsNarrowing : Slab Node → Top → ℕ → Option ℕ → Option Piece → Type 0
IsNarrowing nodes root page at found = (t : Shape) → IsWhole nodes root t → Narrows page at found t

pub narrow_start : (nodes : Slab Node) (root : Top) (page : ℕ) (at : Option ℕ) → at ≡ root.root → IsNarrowing nodes root page at None
narrow_start nodes root page at e t w =
    record { path = Whole; there = t; is = refl; root = e ∙ ap (λ (v : Top). v.root) w.here; before = tt; behind = refl; from = tt }

abbrev pub narrows_at : {page : ℕ} {at : Option ℕ} {found : Option Piece} {t : Shape} → Narrows page at found t → Place at t
narrows_at q = record { path = q.path; there = q.there; is = q.is; root = q.root }

begins_below : (from page : ℕ) (xs : List Piece) (p : Piece) (ys : List Piece) → AreSorted from (xs ++ p ∷ ys) → p.first < page
    → AllByRecursion (λ q. q.first < page) xs
begins_below from page [] p ys s h = tt
begins_below from page (x ∷ xs) p ys s h =
    (let a = sorted_at (x.last + 1) xs p ys s.2 in omega (arith, a.0, s.1), begins_below (x.last + 1) page xs p ys s.2 h)

module _ {nodes : Slab Node} {root : Top} {page : ℕ} {at : Option ℕ} {found : Option Piece} {key : ℕ} {t : Shape}
    (w : IsWhole nodes root t) (q : Narrows page at found t) (e : at ≡ Some key) {node : Node} (f : get nodes key ≡ Some node) where
  abbrev x : Roots key node q.there
  x = under w (narrows_at q) e f

  pub narrow-falls : (to : Option ℕ) → (to ≡ node.left.root) ⊎ (to ≡ node.right.root)
      → node_height (at_root (get nodes) to) < node_height (at_root (get nodes) at)
  narrow-falls to at_it = elim at_it [
    | inl a ↦ down-falls w (narrows_at q) e f true to (a ∙ ap (λ (v : Top). v.root) x.left)
    | inr a ↦ down-falls w (narrows_at q) e f false to (a ∙ ap (λ (v : Top). v.root) x.right)
  ]

  pub narrow-right : (to : Option ℕ) → to ≡ node.right.root → node.piece.first < page → Narrows page to found t
  narrow-right to at_it h = record {
    path = Beside false key node.piece x.l q.path;
    there = x.r;
    is = placed-is w (narrows_at q) e f;
    root = at_it ∙ ap (λ (v : Top). v.root) x.right;
    before = rw append_assoc at (all_append (λ y. y.first < page) (front q.path ++ items x.l) (node.piece ∷ [])
        (begins_below 0 page (front q.path ++ items x.l) node.piece (items x.r ++ back q.path) (placed-sorted w (narrows_at q) e f) h)
        (h, tt));
    behind = q.behind;
    from = q.from;
  }

  pub narrow-left : (to : Option ℕ) → to ≡ node.left.root → page ≤ node.piece.first → Narrows page to (Some node.piece) t
  narrow-left to at_it h = record {
    path = Beside true key node.piece x.r q.path;
    there = x.l;
    is = placed-is w (narrows_at q) e f;
    root = at_it ∙ ap (λ (v : Top). v.root) x.left;
    before = q.before;
    behind = refl;
    from = h;
  }

pub narrow-end : {nodes : Slab Node} {root : Top} {page : ℕ} {at : Option ℕ} {found : Option Piece} {t : Shape} → IsWhole nodes root t
    → Narrows page at found t → at ≡ None → found ≡ first_of (pieces_from page (pieces_of nodes root))
narrow-end {nodes} {root} {page} {t = t} w q e =
    q.behind ∙ sym (ap (λ ps. first_of (pieces_from page ps)) (whole_view w ∙ placed-none (narrows_at q) e)
    ∙ ap first_of (from-skip page (front q.path) (back q.path) q.before ∙ from-all page (back q.path) (rw q.behind at q.from)))

-- ---- the piece that begins at a page

-- so far: what comes before a place begins before the page, and what comes behind it begins behind the page
pub record Begins (page : ℕ) (at : Option ℕ) (t : Shape) : Type 0 where
  pub path : Above
  pub there : Shape
  pub is : t ≡ plug path there
  pub root : at ≡ root_of there
  pub before : AllByRecursion (λ q. q.first < page) (front path)
  pub behind : AllByRecursion (λ q. page < q.first) (back path)

abbrev pub IsBeginningIn : Slab Node → Top → ℕ → Node → Type 0
IsBeginningIn nodes root page node =
    (key : ℕ) × (get nodes key ≡ Some node) × ((t : Shape) → IsWhole nodes root t → Begins page (Some key) t)

abbrev pub begins_at : {page : ℕ} {at : Option ℕ} {t : Shape} → Begins page at t → Place at t
begins_at q = record { path = q.path; there = q.there; is = q.is; root = q.root }

pub begin_start : {nodes : Slab Node} {root : Top} (page : ℕ) (at : Option ℕ) → at ≡ root.root → {t : Shape} → IsWhole nodes root t
    → Begins page at t
begin_start page at e {t} w =
    record { path = Whole; there = t; is = refl; root = e ∙ ap (λ (v : Top). v.root) w.here; before = tt; behind = tt }

module _ {nodes : Slab Node} {root : Top} {page key : ℕ} {t : Shape} (w : IsWhole nodes root t) (q : Begins page (Some key) t)
    {node : Node} (f : get nodes key ≡ Some node) where
  -- it begins where was come to
  pub begin-found : page ≡ node.piece.first → IsStarting page (pieces_of nodes root) (Some node.piece)
  begin-found e =
      let x = begins_at q in let s = placed-piece w x refl f in (
        sym e,
        ap (λ l. piece_at l page) (whole_view w ∙ placed-all w x refl f)
            ∙ found_at 0 page (front q.path ++ items (under w x refl f).l) node.piece (items (under w x refl f).r ++ back q.path)
            (placed-sorted w x refl f) (omega (arith, e), omega (arith, e, s.0)),
      )

  pub begin-on : (b : Bool) (child : Top) → (b ≡ true → child ≡ node.left) → (b ≡ false → child ≡ node.right) → (to : Option ℕ)
      → to ≡ child.root → (page ≡ node.piece.first → ⊥) → b ≡ nat_lt page node.piece.first → Begins page to t
  begin-on b child left right to at_it other e =
      let x = begins_at q in record {
        path = Beside b key node.piece (beside w x refl f b) q.path;
        there = down w x refl f b;
        is = down-is w x refl f b;
        root = at_it ∙ down-root w x refl f b child left right;
        before = before b e;
        behind = behind b e;
      }
    where
      u : Roots key node q.there
      u = under w (begins_at q) refl f

      s : (0 ≤ node.piece.first) × IsPiece node.piece × AreSorted (node.piece.last + 1) (items u.r ++ back q.path)
      s = sorted_at 0 (front q.path ++ items u.l) node.piece (items u.r ++ back q.path) (placed-sorted w (begins_at q) refl f)

      before : (b : Bool) → b ≡ nat_lt page node.piece.first
          → AllByRecursion (λ y. y.first < page) (front (Beside b key node.piece (beside w (begins_at q) refl f b) q.path))
      before true e = q.before
      before false e = let h : node.piece.first < page = grind (arith, nat_tests, other, e) in
          rw append_assoc at (all_append (λ y. y.first < page) (front q.path ++ items u.l) (node.piece ∷ [])
          (begins_below 0 page (front q.path ++ items u.l) node.piece (items u.r ++ back q.path) (placed-sorted w (begins_at q) refl f) h)
          (h, tt))

      behind : (b : Bool) → b ≡ nat_lt page node.piece.first
          → AllByRecursion (λ y. page < y.first) (back (Beside b key node.piece (beside w (begins_at q) refl f b) q.path))
      behind true e = let h : page < node.piece.first = grind (arith, nat_tests, e) in
          (h, begins_above (node.piece.last + 1) page (items u.r ++ back q.path) s.2 (omega (arith, s.1.0, h)))
      behind false e = q.behind

-- it begins nowhere
pub begin-none : {nodes : Slab Node} {root : Top} {page : ℕ} {at : Option ℕ} {t : Shape} → IsWhole nodes root t
    → Begins page at t → at ≡ None → IsStarting page (pieces_of nodes root) None
begin-none {page = page} {at = at} w q none p found e =
    let split = found_split _ page p found in
    let all = all_append (λ y. y.first ≡ page → ⊥) (front q.path) (back q.path)
    (all_map (λ y. y.first < page) (λ y. y.first ≡ page → ⊥) (λ y h same. omega (arith, h, same)) (front q.path) q.before)
    (all_map (λ y. page < y.first) (λ y. y.first ≡ page → ⊥) (λ y h same. omega (arith, h, same)) (back q.path) q.behind) in
    (all_right (λ y. y.first ≡ page → ⊥) split.0 (p ∷ split.1)
    (rw (sym (whole_view w ∙ placed-none (begins_at q) none) ∙ split.2) at all)).0 e

-- the root that is shown
pub top_root : {top : Top} (t : Shape) → top ≡ top_of t → root_of t ≡ top.root
top_root t e = sym (ap (λ (v : Top). v.root) e)
