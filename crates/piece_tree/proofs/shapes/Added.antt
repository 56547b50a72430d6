-- A piece added at an end of a tree.
use Rattle.piece_tree.proofs.Names.{◌≡◌, ℕ, ◌+◌, ◌<◌, ◌≤◌, max, Bool, true, false, List, [], ◌∷◌, ◌++◌, length, Some, None, refl, ap, sym}
use Rattle.piece_tree.proofs.Names.{◌∙◌, inl, inr, subst, arith, append_assoc, length-append, append-nil, Slab, get, Piece, MOST_PIECES}
use Rattle.piece_tree.proofs.Names.{Node, Opened, Top, Adds, IsTree, Makes, side_by_side, Look, Shape, Empty, items, height_of, root_of}
use Rattle.piece_tree.proofs.Names.{top_of, fork, AreNear, Joins, KeepsCount, Opens}
use Rattle.piece_tree.proofs.shapes.Forks.{none_empty, fork-height, opened-by, opened-height}
use Rattle.piece_tree.proofs.shapes.Halved.{halved-side, opened-half, opened-long}
use Rattle.piece_tree.proofs.shapes.Tall.{contents_is, low_tree, order}

-- ---- no piece

nothing_beside : (b : Bool) (ps : List Piece) → ps ≡ side_by_side b ps []
nothing_beside true ps = simp append-nil
nothing_beside false ps = refl

pub adds-none : {nodes : Slab Node} (b : Bool) {top : Top} {t : Shape} → IsTree (get nodes) top t → Adds nodes nodes b top t None
adds-none b {t = t} is = record {
  makes = record {
    shape = t;
    tree = is;
    all = nothing_beside b (items t);
    apart = λ k z there. (refl, z);
    len = omega (arith, ap length (nothing_beside b (items t)));
    capacity = refl;
  };
  tall = omega arith;
  short = omega arith;
}

-- ---- a piece

pub own_top : {look : Look} {top : Top} {t : Shape} → IsTree look top t → IsTree look (top_of t) t
own_top i = record { is = refl; stands = i.stands; once = i.once; few = i.few }

-- at a root there is one tree alone, as far as its pieces go
pub same_length : {look : Look} {near far : Top} {s t : Shape} → IsTree look near s → IsTree look far t → root_of s ≡ root_of t
    → length (items s) ≡ length (items t)
same_length {look} {near} {far} {s} {t} x y e =
    let a = low_tree look s x.stands x.few in
    let b = low_tree look t y.stands y.few in
    ap length (sym (contents_is look 14 (root_of s) s refl x.stands a) ∙ contents_is look 14 (root_of s) t e y.stands b)

-- no tree
pub adds-leaf : {old new : Slab Node} (b : Bool) {tree top : Top} {t : Shape} {p : Piece} → IsTree (get old) tree t → root_of t ≡ None
    → Makes old new top Empty (p ∷ []) → top.height ≡ 1 → Adds old new b top t (Some p)
adds-leaf {old} {new} b {tree} {top} {t} {p} i none m high = subst (λ x. Adds old new b top x (Some p)) (sym (none_empty t none)) (leafs b)
  where
    tall : height_of m.shape ≡ 1
    tall = sym (ap (λ (v : Top). v.height) m.tree.is) ∙ high

    leafs : (b : Bool) → Adds old new b top Empty (Some p)
    leafs true = record { makes = m; tall = omega arith; short = omega (arith, tall) }
    leafs false = record { makes = m; tall = omega arith; short = omega (arith, tall) }

added : (b : Bool) (key : ℕ) (p q : Piece) (n f s : Shape) → items s ≡ side_by_side b (items f) (q ∷ [])
    → items (fork b key p n s) ≡ side_by_side b (items (fork b key p n f)) (q ∷ [])
added true key p q n f s e = ap (λ l. items n ++ p ∷ l) e ∙ simp append_assoc
added false key p q n f s e = ap (λ l. l ++ p ∷ items n) e

added_length : (b : Bool) (ps : List Piece) (p : Piece) → length (side_by_side b ps (p ∷ [])) ≡ length ps + 1
added_length true ps p = omega (arith, length-append {A = Piece})
added_length false ps p = omega arith

-- a tree, to that on whose far side it was added
module _ (nodes : Slab Node) {b : Bool} {top : Top} {key : ℕ} {t : Shape} {opened : Opened} (i : IsTree (get nodes) top t)
    (o : Opens b key opened t) {mid : Slab Node} {far : Top} {p : Piece} (a : Adds nodes mid b far o.far (Some p)) {new : Slab Node}
    {all : Top} (j : Joins (get mid) (get new) b all key opened.piece o.near a.makes.shape) (c : KeepsCount mid new)
    (room : length (items t) < MOST_PIECES) where
  few : length (items o.near) + length (items a.makes.shape) < MOST_PIECES
  few = omega (arith, room, opened-long i o, ap length a.makes.all, added_length b (items o.far) p)

  made : Makes nodes new all t (side_by_side b (items t) (p ∷ []))
  made = subst (λ l. Makes nodes new all t l)
      (added b key opened.piece p o.near o.far a.makes.shape a.makes.all ∙ ap (λ x. side_by_side b (items x) (p ∷ [])) (sym o.is))
      (halved-side (opened-half i o a.makes) b j c few)

  shown : height_of made.shape ≡ height_of j.shape
  shown = sym (ap (λ (v : Top). v.height) made.tree.is) ∙ ap (λ (v : Top). v.height) j.is

  high : height_of t ≡ 1 + max (height_of o.near) (height_of o.far)
  high = opened-height (get nodes) i.stands o

  near : AreNear o.near o.far
  near = (opened-by (get nodes) i.stands o).near

  grown : height_of t ≤ height_of j.shape
  grown = elim (order (height_of a.makes.shape) (height_of o.near + 1)) [
    | inl x ↦
        let e = ap height_of (j.plain (omega (arith, near, a.tall), x)) ∙ fork-height b key opened.piece o.near a.makes.shape in
        omega (arith, high, a.tall)
    | inr x ↦ omega (arith, high, near, a.short, j.tall)
  ]

  pub adds-far : Adds nodes new b all t (Some p)
  adds-far = record { makes = made; tall = omega (arith, shown, grown); short = omega (arith, shown, high, a.short, j.short) }
