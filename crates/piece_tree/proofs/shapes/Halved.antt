-- A key between two trees, which became parts of one tree or are going to: what becomes of them as others come.
use Rattle.piece_tree.proofs.Names.{◌≡◌, ℕ, ◌+◌, ◌<◌, ◌≤◌, Bool, true, false, List, [], ◌∷◌, ◌++◌, length, Some, refl, ap, sym, ◌∙◌}
use Rattle.piece_tree.proofs.Names.{inl, inr, arith, length-append, not, Slab, get, Piece, MOST_PIECES, Node, Opened, Top}
use Rattle.piece_tree.proofs.Names.{Halved, IsTree, Makes, Parted, Look, Shape, Empty, items, height_of, root_of, one, uses, fork, top_of}
use Rattle.piece_tree.proofs.Names.{AreParts, CanHang, Joins, KeepsCount, Opens}
use Rattle.piece_tree.proofs.shapes.Apart.{IsApart, apart-still, apart-stands, root-used, twice_apart, used-there}
use Rattle.piece_tree.proofs.shapes.Forks.{StandsBy, one-same, same_key, opened-by, opened-there, opened-uses, same_stands}
use Rattle.piece_tree.proofs.shapes.Hung.{joins-flip, joint-flip, parts_flip}
use Rattle.piece_tree.proofs.shapes.Tall.{low_tree, order}

tree_low : {look : Look} {top : Top} {t : Shape} → IsTree look top t → height_of t ≤ 100
tree_low {look} {t = t} i = omega (arith, low_tree look t i.stands i.few)

-- ---- what lies beside another tree

-- the key and one of the trees, beside the other one
far_apart : {look : Look} {near far : Top} {key : ℕ} {n f : Shape} → AreParts look near key far n f
    → IsApart look (λ k. one key k + uses f k) n
far_apart {look} {key = key} {f = f} a = record {
  there = λ k g. elim (order (one key k) 0) [
    | inl x ↦ used-there look f k a.far_stands (omega arith)
    | inr x ↦ rw (same_key key k x) a.here
  ];
  once = λ k. omega (arith, a.once k);
}

-- and all of them, beside what has no key yet
parts_apart : {look : Look} {near far : Top} {key : ℕ} {n f : Shape} → AreParts look near key far n f
    → IsApart look (λ k. one key k + uses n k + uses f k) Empty
parts_apart {look} {n = n} a = record {
  there = λ k g. elim (order (uses n k) 0) [
    | inl x ↦ (far_apart a).there k (omega arith)
    | inr x ↦ used-there look n k a.near_stands x
  ];
  once = λ k. omega (arith, a.once k);
}

-- ---- a key between two trees

pub halved_flip : {old new : Slab Node} {near far : Top} {key : ℕ} {t n f : Shape} → Halved old new near key far t n f
    → Halved old new far key near t f n
halved_flip h = record {
  parts = parts_flip h.parts;
  apart = λ k z e. let a = h.apart k z e in (a.0, omega arith);
  len = omega (arith, h.len);
  capacity = h.capacity;
}

module _ {old mid : Slab Node} {near far : Top} {key : ℕ} {t n f : Shape} (h : Halved old mid near key far t n f) where
  pub near-tree : length (items n) ≤ MOST_PIECES → IsTree (get mid) near n
  near-tree few = record { is = h.parts.near_is; stands = h.parts.near_stands; once = λ k. omega (arith, h.parts.once k); few = few }

  -- one of the trees became another one
  pub halved-near : {new : Slab Node} {top : Top} {ps : List Piece} (m : Makes mid new top n ps) → Halved old new top key far t m.shape f
  halved-near {new} m =
      let a = far_apart h.parts in
      let b = apart-still m a in
      record {
        parts = record {
          near_is = m.tree.is;
          far_is = h.parts.far_is;
          near_stands = m.tree.stands;
          far_stands = apart-stands m a f h.parts.far_stands (λ k. omega arith);
          here = b.there key (omega (arith, one-same key));
          once = λ k. omega (arith, b.once k);
          low = (tree_low m.tree, h.parts.low.1);
        };
        apart = λ k z e.
            let x = h.apart k z e in let y = twice_apart m k (omega arith) x.0 e in (y.0, omega arith);
        len = omega (arith, h.len, m.len, ap length m.all);
        capacity = m.capacity ∙ h.capacity;
      }

  -- both became one, with the key between them
  pub halved-join : {new : Slab Node} {top : Top} {p : Piece} {ps : List Piece} → Joins (get mid) (get new) true top key p n f
      → KeepsCount mid new → items n ++ p ∷ items f ≡ ps → length ps ≤ MOST_PIECES → Makes old new top t ps
  halved-join {p = p} j c e few = record {
    shape = j.shape;
    tree = record { is = j.is; stands = j.stands; once = λ k. omega (arith, j.keys k, h.parts.once k); few = rw (j.all ∙ e) few };
    all = j.all ∙ e;
    apart = λ k z s. let a = h.apart k z s in (j.others k a.1 ∙ a.0, j.keys k ∙ a.1);
    len = omega (arith, h.len, c.len, ap length e, length-append {A = Piece});
    capacity = c.capacity ∙ h.capacity;
  }

pub far-tree : {old mid : Slab Node} {near far : Top} {key : ℕ} {t n f : Shape} → Halved old mid near key far t n f
    → length (items f) ≤ MOST_PIECES → IsTree (get mid) far f
far-tree h few = near-tree (halved_flip h) few

pub halved-far : {old mid : Slab Node} {near far : Top} {key : ℕ} {t n f : Shape} → Halved old mid near key far t n f
    → {new : Slab Node} {top : Top} {ps : List Piece} (m : Makes mid new top f ps) → Halved old new near key top t n m.shape
halved-far h m = halved_flip (halved-near (halved_flip h) m)

-- a tree that was opened
module _ {look : Look} {b : Bool} {top : Top} {key : ℕ} {t : Shape} {opened : Opened}
    (i : IsTree look top t) (o : Opens b key opened t) where
  abbrev by : StandsBy look b key opened.piece o.near o.far
  by = opened-by look i.stands o

  pub opened-long : length (items t) ≡ length (items o.near) + 1 + length (items o.far)
  opened-long = ap (λ x. length (items x)) o.is ∙ sizes b
    where
      sizes : (b : Bool) → length (items (fork b key opened.piece o.near o.far)) ≡ length (items o.near) + 1 + length (items o.far)
      sizes true = omega (arith, length-append {A = Piece})
      sizes false = omega (arith, length-append {A = Piece})

  pub opened-far : IsTree look opened.far o.far
  opened-far = record {
    is = o.far_is;
    stands = by.other;
    once = λ k. omega (arith, i.once k, opened-uses look i.stands o k);
    few = omega (arith, i.few, opened-long);
  }

module _ {nodes : Slab Node} {b : Bool} {top : Top} {key : ℕ} {t : Shape} {opened : Opened} (i : IsTree (get nodes) top t)
    (o : Opens b key opened t) where
  pub halved-open : Halved nodes nodes opened.near key opened.far t o.near o.far
  halved-open =
      let uses-t = opened-uses (get nodes) i.stands o in
      let n = low_tree (get nodes) o.near (by i o).one (omega (arith, i.few, opened-long i o)) in
      let f = low_tree (get nodes) o.far (by i o).other (omega (arith, i.few, opened-long i o)) in
      record {
        parts = record {
          near_is = o.near_is;
          far_is = o.far_is;
          near_stands = (by i o).one;
          far_stands = (by i o).other;
          here = opened-there (get nodes) i.stands o;
          once = λ k. omega (arith, i.once k, uses-t k);
          low = (omega (arith, n), omega (arith, f));
        };
        apart = λ k z e. (refl, omega (arith, uses-t k));
        len = omega (arith, opened-long i o);
        capacity = refl;
      }

  -- the tree on the far side became another one
  module _ {mid : Slab Node} {far : Top} {ps : List Piece} (m : Makes nodes mid far o.far ps) where
    pub opened-half : Halved nodes mid opened.near key far t o.near m.shape
    opened-half = halved-far halved-open m

    pub regraft-can : CanHang (get mid) (not b) key far opened.piece o.far m.shape o.near
    regraft-can =
        let parts = opened-half.parts in
        record {
          here = (m.apart key (omega (arith, halved-open.parts.once key, one-same key)) halved-open.parts.here).0 ∙ (by i o).here
              ∙ ap (λ n. Some n) (sym (joint-flip b opened.piece (top_of o.near) (top_of o.far)));
          fine = (by i o).piece;
          near = ((by i o).near.1, (by i o).near.0);
          tree_is = m.tree.is;
          stands = m.tree.stands;
          beside = parts.near_stands;
          once = λ k. omega (arith, parts.once k);
          low = (parts.low.1, parts.low.0);
        }

-- both became one, by the side
pub halved-side : {old mid : Slab Node} {near far : Top} {key : ℕ} {t n f : Shape} → Halved old mid near key far t n f
    → (b : Bool) {new : Slab Node} {top : Top} {p : Piece} → Joins (get mid) (get new) b top key p n f → KeepsCount mid new
    → length (items n) + length (items f) < MOST_PIECES → Makes old new top t (items (fork b key p n f))
halved-side {n = n} {f} h true {p = p} j c few = halved-join h j c refl (omega (arith, few, length-append {A = Piece}))
halved-side {n = n} {f} h false {p = p} j c few =
    halved-join (halved_flip h) (joins-flip true j) c refl (omega (arith, few, length-append {A = Piece}))

-- ---- two trees

pub parted-two : {old mid new : Slab Node} {near far : Top} {xs ys : List Piece} (m : Makes old mid near Empty xs)
    (w : Makes mid new far Empty ys) → Parted old new near far Empty m.shape w.shape
parted-two {mid = mid} m w =
    let a : IsApart (get mid) (uses m.shape) Empty =
    record { there = λ k. used-there (get mid) m.shape k m.tree.stands; once = λ k. omega (arith, m.tree.once k) } in
    record {
      near_tree = record {
        is = m.tree.is;
        stands = apart-stands w a m.shape m.tree.stands (λ k. omega arith);
        once = m.tree.once;
        few = m.tree.few;
      };
      far_tree = w.tree;
      once = (apart-still w a).once;
      apart = λ k z e. let x = m.apart k z e in let y = twice_apart w k z x.0 e in (y.0, omega arith);
      len = omega (arith, m.len, w.len, ap length m.all, ap length w.all);
      capacity = w.capacity ∙ m.capacity;
    }

-- a new key comes between them
pub parted-key : {old mid new : Slab Node} {near far at : Top} {t n f : Shape} {p : Piece} {key : ℕ} → Parted old mid near far t n f
    → Makes mid new at Empty (p ∷ []) → at.root ≡ Some key → Halved old new near key far t n f
parted-key {mid = mid} {new} {n = n} {f} {key = key} h m e =
    let root : root_of m.shape ≡ Some key = sym (ap (λ (v : Top). v.root) m.tree.is) ∙ e in
    let a : IsApart (get mid) (λ k. uses n k + uses f k) Empty = record {
      there = λ k g. elim (order (uses n k) 0) [
        | inl x ↦ used-there (get mid) f k h.far_tree.stands (omega arith)
        | inr x ↦ used-there (get mid) n k h.near_tree.stands x
      ];
      once = λ k. omega (arith, h.once k);
    } in
    let b = apart-still m a in
    record {
      parts = record {
        near_is = h.near_tree.is;
        far_is = h.far_tree.is;
        near_stands = apart-stands m a n h.near_tree.stands (λ k. omega arith);
        far_stands = apart-stands m a f h.far_tree.stands (λ k. omega arith);
        here = used-there (get new) m.shape key m.tree.stands (omega (arith, root-used m.shape key key root, one-same key));
        once = λ k. omega (arith, b.once k, root-used m.shape key k root);
        low = (tree_low h.near_tree, tree_low h.far_tree);
      };
      apart = λ k z s.
          let x = h.apart k z s in
          let y = twice_apart m k refl x.0 s in
          (y.0, omega (arith, root-used m.shape key k root));
      len = omega (arith, h.len, m.len);
      capacity = m.capacity ∙ h.capacity;
    }

-- ---- a key between two trees, and one of new keys: the key joins the first of them with that

module _ {old mid next : Slab Node} {near far : Top} {key : ℕ} {t n f : Shape} (h : Halved old mid near key far t n f)
    {middle : Top} {ps : List Piece} (m : Makes mid next middle Empty ps) where
  beside : IsApart (get mid) (λ k. one key k + uses n k + uses f k) Empty
  beside = parts_apart h.parts

  still : IsApart (get next) (λ k. one key k + uses n k + uses f k) m.shape
  still = apart-still m beside

  pub middle-parts : AreParts (get next) near key middle n m.shape
  middle-parts = record {
    near_is = h.parts.near_is;
    far_is = m.tree.is;
    near_stands = apart-stands m beside n h.parts.near_stands (λ k. omega arith);
    far_stands = m.tree.stands;
    here = still.there key (omega (arith, one-same key));
    once = λ k. omega (arith, still.once k);
    low = (h.parts.low.0, tree_low m.tree);
  }

  pub middle-join : {new : Slab Node} {top : Top} {p : Piece} → (j : Joins (get next) (get new) true top key p n m.shape)
      → KeepsCount next new → length (items n ++ p ∷ ps) ≤ MOST_PIECES → length (items f) ≤ MOST_PIECES
      → Parted old new top far t j.shape f
  middle-join {new} {p = p} j c long short =
      let all = j.all ∙ ap (λ l. items n ++ p ∷ l) m.all in
      record {
        near_tree = record { is = j.is; stands = j.stands; once = λ k. omega (arith, j.keys k, still.once k); few = rw all long };
        far_tree = record {
          is = h.parts.far_is;
          stands = same_stands (get next) (get new) f (apart-stands m beside f h.parts.far_stands (λ k. omega arith))
              (λ k g. j.others k (omega (arith, still.once k)));
          once = λ k. omega (arith, h.parts.once k);
          few = short;
        };
        once = λ k. omega (arith, j.keys k, still.once k);
        apart = λ k z e.
            let x = h.apart k z e in
            let y = twice_apart m k refl x.0 e in
            (j.others k (omega arith) ∙ y.0, omega (arith, j.keys k));
        len = omega (arith, h.len, m.len, c.len, ap length all, length-append {A = Piece});
        capacity = c.capacity ∙ m.capacity ∙ h.capacity;
      }
