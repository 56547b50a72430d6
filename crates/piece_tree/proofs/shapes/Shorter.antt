-- The way down to what is left before a page: its pieces are short before that page just where all are.
use Rattle.piece_tree.proofs.Names.{◌≡◌, ℕ, ◌+◌, ◌<◌, ◌≤◌, ◌↔◌, ◌∷◌, ◌++◌, Some, None, IsSome, ap, sym, ◌∙◌, arith, AllByRecursion}
use Rattle.piece_tree.proofs.Names.{Slab, get, Node, Top, AreSorted, IsPiece, IsShortBefore, Look, Shape, Empty, Fork, IsTop, IsWhole}
use Rattle.piece_tree.proofs.Names.{Stands, at_root, free_pages, height_of, items, longest_of}
use Rattle.piece_tree.proofs.shapes.Forks.{none_empty}
use Rattle.piece_tree.proofs.shapes.Led.{Roots, node_height, root_falls, root_there, roots}
use Rattle.piece_tree.proofs.shapes.Sorted.{all_append, all_left, all_map, all_right, begins_above, ends_below, sorted_at, sorted_front}
use Rattle.piece_tree.proofs.shapes.Sought.{top_root}

abbrev pub AreShortBefore : (page pages : ℕ) → Shape → Type 0
AreShortBefore page pages t = AllByRecursion (IsShortBefore page pages) (items t)

-- where the longest is short
short_before : (page pages : ℕ) (t : Shape) → longest_of t < pages → AreShortBefore page pages t
short_before page pages Empty h = tt
short_before page pages (Fork key p l r) h =
    all_append (IsShortBefore page pages) (items l) (p ∷ items r) (short_before page pages l (omega arith))
    ((λ before. omega arith), short_before page pages r (omega arith))

-- where all end before the page, the longest is short
longest_short : (look : Look) (page pages : ℕ) (t : Shape) → Stands look t → 1 ≤ pages → AllByRecursion (λ p. p.last < page) (items t)
    → AreShortBefore page pages t → longest_of t < pages
longest_short look page pages Empty s some ends all = some
longest_short look page pages (Fork key p l r) s some ends all =
    let own = all_right (λ q. q.last < page) (items l) (p ∷ items r) ends in
    let here = all_right (IsShortBefore page pages) (items l) (p ∷ items r) all in
    let short : free_pages p < pages = here.0 (omega (arith, s.1, own.0)) in
    let left = longest_short look page pages l s.3 some (all_left (λ q. q.last < page) (items l) (p ∷ items r) ends)
    (all_left (IsShortBefore page pages) (items l) (p ∷ items r) all) in
    let right = longest_short look page pages r s.4 some own.1 here.1 in
    omega (arith, short, left, right)

-- what is left lies below the place that was come to, and tells of all
pub record Tells (nodes : Slab Node) (at : Top) (page pages : ℕ) (t : Shape) : Type 0 where
  pub there : Shape
  pub from : ℕ
  pub below : IsTop (get nodes) at there
  pub sorted : AreSorted from (items there)
  pub same : AreShortBefore page pages there ↔ AreShortBefore page pages t

abbrev pub IsTelling : Slab Node → Top → ℕ → ℕ → Top → Type 0
IsTelling nodes root page pages at = (t : Shape) → IsWhole nodes root t → Tells nodes at page pages t

pub shorter_start : (nodes : Slab Node) (root : Top) (page pages : ℕ) → IsTelling nodes root page pages root
shorter_start nodes root page pages t w = record {
  there = t;
  from = 0;
  below = (w.here, w.stands);
  sorted = w.sorted;
  same = ((λ a. a), (λ a. a));
}

-- nothing is left
pub shorter_end : {nodes : Slab Node} {at : Top} {page pages : ℕ} {t : Shape} → Tells nodes at page pages t → at.root ≡ None
    → AreShortBefore page pages t
shorter_end i e = i.same.0 (rw (none_empty i.there (top_root i.there i.below.0 ∙ e)) tt)

-- what is longest there is short
pub shorter_all : {nodes : Slab Node} {at : Top} {page pages : ℕ} {t : Shape} → Tells nodes at page pages t → at.longest < pages
    → AreShortBefore page pages t
shorter_all {page = page} {pages = pages} i h =
    i.same.0 (short_before page pages i.there (omega (arith, h, ap (λ (v : Top). v.longest) i.below.0)))

-- ---- at a node

module _ {nodes : Slab Node} {at : Top} {page pages key : ℕ} {t : Shape} (i : Tells nodes at page pages t) (e : at.root ≡ Some key) where
  pub shorter-there : IsSome (get nodes key)
  shorter-there = root_there (get nodes) key i.there (top_root i.there i.below.0 ∙ e) i.below.1

  module _ {node : Node} (f : get nodes key ≡ Some node) where
    abbrev z : Roots key node i.there
    z = roots (get nodes) key node i.there (top_root i.there i.below.0 ∙ e) i.below.1 f

    stands : Stands (get nodes) (Fork key node.piece z.l z.r)
    stands = rw z.is at i.below.1

    sorted : AreSorted i.from (items z.l ++ node.piece ∷ items z.r)
    sorted = rw z.is at i.sorted

    sorted-right : AreSorted (node.piece.last + 1) (items z.r)
    sorted-right = (sorted_at i.from (items z.l) node.piece (items z.r) sorted).2

    pub shorter-piece : IsPiece node.piece
    shorter-piece = stands.1

    pub shorter-falls : (node_height (at_root (get nodes) node.left.root) < node_height (at_root (get nodes) at.root))
        × (node_height (at_root (get nodes) node.right.root) < node_height (at_root (get nodes) at.root))
    shorter-falls =
        let high = sym (top_root i.there i.below.0) in (
          root_falls (get nodes) _ _ i.there z.l high i.below.1 (ap (λ (v : Top). v.root) z.left) stands.3
              (omega (arith, ap height_of z.is)),
          root_falls (get nodes) _ _ i.there z.r high i.below.1 (ap (λ (v : Top). v.root) z.right) stands.4
              (omega (arith, ap height_of z.is)),
        )

    -- all are short where those on both sides are, and the piece between them
    together : AreShortBefore page pages z.l → IsShortBefore page pages node.piece → AreShortBefore page pages z.r
        → AreShortBefore page pages t
    together left here right =
        i.same.0 (rw z.is (all_append (IsShortBefore page pages) (items z.l) (node.piece ∷ items z.r) left (here, right)))

    apart : AreShortBefore page pages t
        → AreShortBefore page pages z.l × IsShortBefore page pages node.piece × AreShortBefore page pages z.r
    apart all =
        let own = rw z.is at (i.same.1 all) in
        let here = all_right (IsShortBefore page pages) (items z.l) (node.piece ∷ items z.r) own in
        (all_left (IsShortBefore page pages) (items z.l) (node.piece ∷ items z.r) own, here.0, here.1)

    -- the piece begins before the page and is long, or one on its left is
    pub shorter-long : node.piece.first < page → pages ≤ free_pages node.piece → AreShortBefore page pages t → ⊥
    shorter-long before long all = let short = (apart all).1 before in omega (arith, short, long)

    pub shorter-long_left : node.piece.first < page → 1 ≤ pages → pages ≤ node.left.longest → AreShortBefore page pages t → ⊥
    shorter-long_left before some long all =
        let short = longest_short (get nodes) page pages z.l stands.3 some
        (ends_below i.from page (items z.l) node.piece (items z.r) sorted (omega (arith, before))) (apart all).0 in
        omega (arith, short, long, ap (λ (v : Top). v.longest) z.left)

    -- the piece begins at the page or behind it, and so do those on its right
    pub shorter-before : page ≤ node.piece.first → Tells nodes node.left page pages t
    shorter-before h = record {
      there = z.l;
      from = i.from;
      below = (z.left, stands.3);
      sorted = sorted_front i.from (items z.l) (node.piece ∷ items z.r) sorted;
      same = (
        (λ left. together left (λ before. absurd (omega (arith, h, before)))
            (all_map (λ q. page < q.first) (IsShortBefore page pages) (λ q behind before. absurd (omega (arith, behind, before)))
            (items z.r) (begins_above (node.piece.last + 1) page (items z.r) sorted-right (omega (arith, h, shorter-piece))))),
        (λ all. (apart all).0),
      );
    }

    pub shorter-behind : free_pages node.piece < pages → node.left.longest < pages → Tells nodes node.right page pages t
    shorter-behind here left = record {
      there = z.r;
      from = node.piece.last + 1;
      below = (z.right, stands.4);
      sorted = sorted-right;
      same = (
        (λ right. together (short_before page pages z.l (omega (arith, left, ap (λ (v : Top). v.longest) z.left))) (λ before. here)
            right),
        (λ all. (apart all).2),
      );
    }
