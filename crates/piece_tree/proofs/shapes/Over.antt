-- The whole tree, once a row was put over pieces of it.
use Rattle.piece_tree.proofs.Names.{◌≡◌, ℕ, ◌+◌, ◌<◌, ◌≤◌, List, ◌++◌, length, Option, Some, None, IsSome, refl, ap, sym, ◌∙◌, arith}
use Rattle.piece_tree.proofs.Names.{append_assoc, length-append, Slab, get, slab_len, Top, Piece, MOST_PIECES, NUMBERS_END, Node, Held}
use Rattle.piece_tree.proofs.Names.{Step, CanReplace, IsRow, with_row, AreSorted, piece_at, Shape, Fork, items, IsWhole}
use Rattle.piece_tree.proofs.Names.{pieces_of, Above, among, front, back, plug, CanLay, IsAtHand, IsHeld, LaysOver, Reaches, WholeBecomes}
use Rattle.piece_tree.proofs.shapes.Covered.{above-none, below-none, row-at, row-within, with_row-sorted}
use Rattle.piece_tree.proofs.shapes.Led.{Roots, lies_at, placed-is, under}
use Rattle.piece_tree.proofs.shapes.Mended.{plug-items, plug-uses, plug_stands}
use Rattle.piece_tree.proofs.shapes.Placed.{found_split, whole-now}
use Rattle.piece_tree.proofs.shapes.Sorted.{plug-parts, sorted_at, sorted_back, sorted_there}
use Rattle.piece_tree.proofs.shapes.Tall.{whole_view}

-- a page that lies in a piece is the number of one
pub at-narrow : (from page : ℕ) (ps : List Piece) → AreSorted from ps → IsSome (piece_at ps page) → page < NUMBERS_END
at-narrow from page ps s h = go (piece_at ps page) refl h
  where
    go : (o : Option Piece) → piece_at ps page ≡ o → IsSome o → page < NUMBERS_END
    go None e k = absurd (cc)
    go (Some p) e k =
        let r = found_split ps page p e in
        let a = sorted_at from r.0 p r.1 (rw r.2 at s) in
        omega (arith, a.1, r.3)

-- what can be laid, by the list that is seen
pub can-lay : {nodes : Slab Node} {root : Top} {way : List Step} {held : Held} {t : Shape} {view : List Piece}
    → (first : ℕ) (row : List Piece) (last : ℕ) → IsWhole nodes root t → Reaches nodes way first last held t → pieces_of nodes root ≡ view
    → IsRow first row (last + 1) → first ≤ last → IsSome (piece_at view last) → length (with_row first row last view) ≤ MOST_PIECES
    → CanLay nodes root way held first row last t
can-lay {nodes = nodes} {root = root} {t = t} {view = view} first row last w r e is_row some there few =
    let v : view ≡ items t = sym e ∙ whole_view w in
    record {
      whole = w;
      reaches = r;
      is_row = is_row;
      some = some;
      narrow = at-narrow 0 last (items t) w.sorted (rw v at there);
      few = rw v at few;
    }

-- ---- a row over pieces of which one is the highest

module _ {nodes : Slab Node} {root : Top} {way : List Step} {held : Held} {first : ℕ} {row : List Piece} {last : ℕ} {t : Shape}
    (c : CanLay nodes root way held first row last t) where
  abbrev pub path : Above
  path = c.reaches.lies.path

  abbrev pub p : Piece
  p = c.reaches.node.piece

  abbrev pub x : Roots held.key c.reaches.node c.reaches.lies.there
  x = under c.whole (lies_at c.reaches.lies) refl c.reaches.there

  abbrev pub sub : Shape
  sub = Fork held.key p x.l x.r

  shape : t ≡ plug path sub
  shape = placed-is c.whole (lies_at c.reaches.lies) refl c.reaches.there

  pub lay-held : IsHeld nodes root way held path p x.l x.r
  lay-held = record { whole = rw shape at c.whole; steps = c.reaches.steps }

  all : items t ≡ front path ++ (items sub ++ back path)
  all = ap items shape ∙ plug-items path sub ∙ plug-parts path (items sub) ∙ simp append_assoc

  sub-sorted : AreSorted 0 (among path (items sub))
  sub-sorted = rw (ap items shape ∙ plug-items path sub) at c.whole.sorted

  laid : with_row first row last (items t) ≡ among path (with_row first row last (items sub))
  laid = ap (λ l. with_row first row last l) all
      ∙ row-within first last row (front path) (items sub) (back path) c.reaches.lies.before c.reaches.lies.behind
      (sorted_back 0 (front path ++ items sub) (back path) (rw (all, ← append_assoc) at c.whole.sorted)) c.some
      ∙ sym (plug-parts path (with_row first row last (items sub)))

  sizes : (ps : List Piece) → length (among path ps) ≡ length (front path) + length ps + length (back path)
  sizes ps = ap length (plug-parts path ps) ∙ omega (arith, length-append {A = Piece})

  pub lay-can : CanReplace nodes held.key first row last sub
  lay-can =
      let whole = lay-held.whole in
      let stands = plug_stands (get nodes) path sub whole.stands in
      let order = sorted_there path (items sub) 0 sub-sorted in
      let a = sizes (with_row first row last (items sub)) in
      let b = sizes (items sub) in
      let d = ap length laid in
      let e = ap length (ap items shape ∙ plug-items path sub) in
      record {
        below = (refl, stands.0);
        once = λ k. omega (arith, whole.once k, plug-uses path sub k);
        few = omega (arith, c.whole.few, b, e);
        from = order.0;
        sorted = order.1;
        root = λ node f.
            let there = c.reaches.there in
            let same : c.reaches.node ≡ node = cc in
            rw same at c.reaches.has;
        is_row = c.is_row;
        some = c.some;
        narrow = c.narrow;
        short = omega (arith, c.few, a, d);
        room = omega (arith, c.few, c.whole.room, c.whole.count, a, b, d, e);
        keys = c.whole.keys;
      }

  -- the highest piece has just these pages: what is left of it is nothing
  pub lay-same : p.first ≡ first → p.last ≡ last → items x.l ++ (row ++ items x.r) ≡ with_row first row last (items sub)
  lay-same starts ends =
      let order = sorted_there path (items sub) 0 sub-sorted in
      let some = c.some in
      rw (
        row-at order.0 first last row (items x.l) p (items x.r) order.1 (omega (arith, starts), omega (arith, some, ends))
            (omega (arith, starts, some), omega (arith, ends)),
        below-none first p (omega (arith, starts)),
        above-none last p (omega (arith, ends)),
      )
      (simp append_assoc)

  pub lay-done : {ps : List Piece} → ps ≡ with_row first row last (items sub) → {new : Slab Node} {result : Top}
      → (m : WholeBecomes nodes new result path ps) → slab_len new + length (items sub) ≡ slab_len nodes + length ps
      → (hand : Option Held) → IsAtHand way hand m.shape
      → LaysOver new (record { root = result; hand = hand }) way (with_row first row last (items t))
  lay-done {ps = ps} e {new = new} {result = result} m len hand there =
      let view = with_row first row last (items t) in
      let same : among path ps ≡ view = ap (among path) e ∙ sym laid in
      let order = with_row-sorted 0 first last row (items t) c.whole.sorted (omega arith) c.is_row c.narrow in
      let count : slab_len new ≡ length view = omega (
        arith,
        len,
        c.whole.count,
        sizes ps,
        sizes (items sub),
        ap length same,
        ap length (ap items shape ∙ plug-items path sub),
      ) in
      record { shape = m.shape; whole = whole-now c.whole m same order count c.few; all = m.all ∙ same; hand = there }
