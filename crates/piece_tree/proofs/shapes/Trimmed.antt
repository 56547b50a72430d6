-- What stays of a tree before a page, or behind it: by the tree on that side of its root, what stays of the root's piece, and what stays of
-- the tree on the other side.
use Rattle.piece_tree.proofs.Names.{◌≡◌, ℕ, ◌+◌, ◌<◌, ◌≤◌, Bool, true, false, List, [], ◌∷◌, ◌++◌, length, Option, Some, None}
use Rattle.piece_tree.proofs.Names.{refl, ap, sym, ◌∙◌, subst, arith, append_assoc, not, append-nil, Slab, Updates, get, slab_len, Piece}
use Rattle.piece_tree.proofs.Names.{Node, Opened, Top, Halved, IsTree, LiesBeside, LiesOff, Makes, Removes, side_by_side, some_of}
use Rattle.piece_tree.proofs.Names.{part_above, part_below, part_beside, rest_beside, AreSorted, Holds, Shape, Empty, items}
use Rattle.piece_tree.proofs.Names.{Look, height_of, root_of, uses, top_of, fork, IsBelow, Joins, KeepsCount, Opens}
use Rattle.piece_tree.proofs.shapes.Apart.{twice_apart}
use Rattle.piece_tree.proofs.shapes.Forks.{beside_key, no_key, none_empty, one-same, opened-height, opened-uses}
use Rattle.piece_tree.proofs.shapes.Halved.{halved-open, halved-side, opened-far, opened-half, opened-long}
use Rattle.piece_tree.proofs.shapes.Laid.{above-at, above-back, above-front, below-at, below-back, below-front, part-nil}
use Rattle.piece_tree.proofs.shapes.Laid.{part-short, sorted-beside}
use Rattle.piece_tree.proofs.shapes.Removed.{beside_removed}
use Rattle.piece_tree.proofs.shapes.Sorted.{all_append, begins_above, ends_below, sorted_at}
use Rattle.piece_tree.proofs.shapes.Turned.{opened_heights}

-- a tree as it is
pub made-same : {nodes : Slab Node} {top : Top} {t : Shape} → IsTree (get nodes) top t → Makes nodes nodes top t (items t)
made-same {t = t} i = record { shape = t; tree = i; all = refl; apart = λ k z e. (refl, z); len = refl; capacity = refl }

-- one tree became another one, and that one a third one
pub made-twice : {old mid new : Slab Node} {near top : Top} {t n : Shape} {ps : List Piece} → Makes old mid near t (items n)
    → ((k : ℕ) → uses t k ≡ 0 → uses n k ≡ 0) → (w : Makes mid new top n ps)
    → slab_len mid + length (items t) ≡ slab_len old + length (items n)
    → Makes old new top t ps
made-twice m none w len = record {
  shape = w.shape;
  tree = w.tree;
  all = w.all;
  apart = λ k z e.
      let a = m.apart k z e in
      twice_apart w k (none k z) a.0 e;
  len = omega (arith, w.len, len);
  capacity = w.capacity ∙ m.capacity;
}

-- ---- lists

append_one : (xs : List Piece) (p : Piece) (ys : List Piece) → xs ++ p ∷ ys ≡ (xs ++ p ∷ []) ++ ys
append_one xs p ys = simp append_assoc

-- the page lies behind the piece, as seen from the side that stays
pub part-far : (b : Bool) (from page key : ℕ) (p : Piece) (n f g : Shape) → AreSorted from (items (fork b key p n f))
    → LiesBeside (not b) p page → items g ≡ part_beside b page (items f)
    → items (fork b key p n g) ≡ part_beside b page (items (fork b key p n f))
part-far true from page key p n f g s h e =
    let a = sorted_at from (items n) p (items f) s in
    let below = ends_below from page (items n) p (items f) s (omega (arith, h, a.1)) in
    sym (ap (part_below page) (append_one (items n) p (items f))
    ∙ below-back page (items n ++ p ∷ []) (items f) (all_append (λ q. q.last < page) (items n) (p ∷ []) below (h, tt))
    ∙ sym (append_one (items n) p (part_below page (items f))) ∙ ap (λ l. items n ++ p ∷ l) (sym e))
part-far false from page key p n f g s h e =
    let a = sorted_at from (items f) p (items n) s in
    let above = begins_above (p.last + 1) page (items n) a.2 (omega (arith, h, a.1)) in
    sym (above-front page (items f) (p ∷ items n) (h, above) (omega arith, a.1, a.2) ∙ ap (λ l. l ++ p ∷ items n) (sym e))

-- it lies before the piece
pub part-near : (b : Bool) (from page key : ℕ) (p : Piece) (n f : Shape) → AreSorted from (items (fork b key p n f))
    → LiesBeside b p page → part_beside b page (items (fork b key p n f)) ≡ part_beside b page (items n)
part-near true from page key p n f s h =
    let a = sorted_at from (items n) p (items f) s in
    let above = begins_above (p.last + 1) page (items f) a.2 (omega (arith, h, a.1)) in
    below-front page (items n) (p ∷ items f) (h, above) (omega arith, a.1, a.2)
part-near false from page key p n f s h =
    let a = sorted_at from (items f) p (items n) s in
    let below = ends_below from page (items f) p (items n) s (omega (arith, h, a.1)) in
    ap (part_above page) (append_one (items f) p (items n))
    ∙ above-back page (items f ++ p ∷ []) (items n) (all_append (λ q. q.last < page) (items f) (p ∷ []) below (h, tt))

-- it lies in it
pub part-here : (b : Bool) (from page key : ℕ) (p : Piece) (n f : Shape) → AreSorted from (items (fork b key p n f)) → Holds p page
    → part_beside b page (items (fork b key p n f)) ≡ side_by_side b (items n) (rest_beside b page p)
part-here true from page key p n f s h = below-at from page (items n) p (items f) s h
part-here false from page key p n f s h = above-at from page (items f) p (items n) s h

pub off-holds : (b : Bool) (p : Piece) (page : ℕ) → LiesOff (not b) p page → LiesOff b p page → Holds p page
off-holds true p page h g = (g, h)
off-holds false p page h g = (h, g)

side_fork : (b : Bool) (key : ℕ) (p : Piece) (n : Shape) → items (fork b key p n Empty) ≡ side_by_side b (items n) (p ∷ [])
side_fork true key p n = refl
side_fork false key p n = refl

side_none : (b : Bool) (ps : List Piece) → side_by_side b ps [] ≡ ps
side_none true ps = simp append-nil
side_none false ps = refl

-- no tree
pub trim-empty : (b : Bool) (page : ℕ) {nodes : Slab Node} {top : Top} {t : Shape} → IsTree (get nodes) top t → root_of t ≡ None
    → Makes nodes nodes top t (part_beside b page (items t))
trim-empty b page {nodes} {top} {t} i e = subst (λ l. Makes nodes nodes top t l)
    (ap items (none_empty t e) ∙ sym (part-nil b page) ∙ ap (λ x. part_beside b page (items x)) (sym (none_empty t e))) (made-same i)

-- ---- a tree that was opened

module _ {look : Look} {b : Bool} {top : Top} {key : ℕ} {t : Shape} {opened : Opened}
    (i : IsTree look top t) (o : Opens b key opened t) where
  -- both trees are lower
  pub trim-falls : (opened.near.height < top.height) × (opened.far.height < top.height)
  trim-falls =
      let a : top.height ≡ height_of t = ap (λ (v : Top). v.height) i.is in
      let d = opened_heights o in
      let e = opened-height look i.stands o in
      (omega arith, omega arith)

  -- the tree on the other side can go
  pub trim-gone : IsBelow look opened.far.root o.far × ((k : ℕ) → uses o.far k ≤ 1)
  trim-gone = let f = opened-far i o in ((ap (λ (v : Top). v.root) f.is, f.stands), f.once)

module _ {nodes next : Slab Node} {b : Bool} {top : Top} {key : ℕ} {t : Shape} {opened : Opened} (i : IsTree (get nodes) top t)
    (o : Opens b key opened t) (r : Removes nodes next o.far) where
  abbrev h : Halved nodes nodes opened.near key opened.far t o.near o.far
  h = halved-open i o

  pub cleared : Halved nodes next opened.near key (top_of Empty) t o.near Empty
  cleared = record {
    parts = record {
      near_is = h.parts.near_is;
      far_is = refl;
      near_stands = beside_removed nodes next o.far o.near r h.parts.near_stands (λ k. omega (arith, h.parts.once k));
      far_stands = tt;
      here = rw (r.others key (omega (arith, h.parts.once key, one-same key))) h.parts.here;
      once = λ k. omega (arith, h.parts.once k);
      low = (h.parts.low.0, omega arith);
    };
    apart = λ k z e. let a = h.apart k z e in (r.others k (omega (arith, a.1)) ∙ a.0, omega (arith, a.1));
    len = omega (arith, h.len, r.len);
    capacity = r.capacity ∙ h.capacity;
  }

  -- and so does the root
  module _ {new : Slab Node} (u : Updates next new key None) where
    pub trim-left : IsTree (get new) opened.near o.near
    trim-left = record {
      is = h.parts.near_is;
      stands = beside_key o.near u cleared.parts.near_stands (omega (arith, h.parts.once key, one-same key));
      once = λ k. omega (arith, h.parts.once k);
      few = omega (arith, i.few, opened-long i o);
    }

    pub trim-alone : slab_len new + 1 ≡ slab_len next → new.capacity ≡ next.capacity → Makes nodes new opened.near t (items o.near)
    trim-alone len capacity = record {
      shape = o.near;
      tree = trim-left;
      all = refl;
      apart = λ k z e. let a = cleared.apart k z e in (u.others k (no_key key k (omega (arith, a.1))) ∙ a.0, omega (arith, a.1));
      len = omega (arith, cleared.len, len);
      capacity = capacity ∙ cleared.capacity;
    }

-- in order
module _ (page from : ℕ) {b : Bool} {key : ℕ} {t : Shape} {opened : Opened} (s : AreSorted from (items t)) (o : Opens b key opened t) where
  ordered : AreSorted from (items (fork b key opened.piece o.near o.far))
  ordered = rw o.is at s

  pub trim-far : (low : ℕ) × AreSorted low (items o.far)
  trim-far = sorted_far b o.far o.near ordered
    where
      sorted_far : (b : Bool) (f n : Shape) → AreSorted from (items (fork b key opened.piece n f)) → (low : ℕ) × AreSorted low (items f)
      sorted_far true f n s = sorted-beside false from key opened.piece f n s
      sorted_far false f n s = sorted-beside true from key opened.piece f n s

  pub trim-near : (low : ℕ) × AreSorted low (items o.near)
  trim-near = sorted-beside b from key opened.piece o.near o.far ordered

  holding : LiesOff (not b) opened.piece page → LiesOff b opened.piece page → (rest : Option Piece)
      → some_of rest ≡ rest_beside b page opened.piece → part_beside b page (items t) ≡ side_by_side b (items o.near) (some_of rest)
  holding off on rest is = ap (λ x. part_beside b page (items x)) o.is
      ∙ part-here b from page key opened.piece o.near o.far ordered (off-holds b opened.piece page off on)
      ∙ ap (side_by_side b (items o.near)) (sym is)

  module _ {nodes : Slab Node} {top : Top} (i : IsTree (get nodes) top t) where
    pub trim-joined : {mid : Slab Node} {far : Top} (m : Makes nodes mid far o.far (part_beside b page (items o.far)))
        → LiesBeside (not b) opened.piece page → {new : Slab Node} {all : Top}
        → Joins (get mid) (get new) b all key opened.piece o.near m.shape → KeepsCount mid new
        → Makes nodes new all t (part_beside b page (items t))
    trim-joined m on {new} {all} j c = subst (λ l. Makes nodes new all t l)
        (part-far b from page key opened.piece o.near o.far m.shape ordered on m.all ∙ ap (λ x. part_beside b page (items x)) (sym o.is))
        (halved-side (opened-half i o m) b j c
        (omega (arith, i.few, opened-long i o, ap length m.all, part-short b page (items o.far))))

    pub trim-nearer : {new end : Slab Node} {all : Top} → Makes nodes new opened.near t (items o.near)
        → slab_len new + length (items t) ≡ slab_len nodes + length (items o.near) → LiesBeside b opened.piece page
        → Makes new end all o.near (part_beside b page (items o.near)) → Makes nodes end all t (part_beside b page (items t))
    trim-nearer {end = end} {all} a len on w = subst (λ l. Makes nodes end all t l)
        (sym (ap (λ x. part_beside b page (items x)) o.is ∙ part-near b from page key opened.piece o.near o.far ordered on))
        (made-twice a (λ k z. omega (arith, opened-uses (get nodes) i.stands o k, z)) w len)

    module _ (off : LiesOff (not b) opened.piece page) (on : LiesOff b opened.piece page) {rest : Option Piece}
        (is : some_of rest ≡ rest_beside b page opened.piece) where
      -- nothing is left of its piece
      pub trim-none : {new : Slab Node} → rest ≡ None → Makes nodes new opened.near t (items o.near)
          → Makes nodes new opened.near t (part_beside b page (items t))
      trim-none {new} none a = subst (λ l. Makes nodes new opened.near t l)
          (sym (holding off on rest is ∙ ap (λ r. side_by_side b (items o.near) (some_of r)) none ∙ side_none b (items o.near))) a

      -- the root has what is left of it
      pub trim-rest : {p : Piece} → rest ≡ Some p → {next new : Slab Node} {all : Top} (r : Removes nodes next o.far)
          → Joins (get next) (get new) b all key p o.near Empty → KeepsCount next new
          → Makes nodes new all t (part_beside b page (items t))
      trim-rest {p} some {new = new} {all} r j c = subst (λ l. Makes nodes new all t l)
          (side_fork b key p o.near ∙ sym (holding off on rest is ∙ ap (λ r. side_by_side b (items o.near) (some_of r)) some))
          (halved-side (cleared i o r) b j c (omega (arith, i.few, opened-long i o)))
