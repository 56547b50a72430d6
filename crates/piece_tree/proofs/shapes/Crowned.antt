-- A new key between two trees, and the heights of trees that are built so.
use Rattle.piece_tree.proofs.Names.{◌≡◌, ◌≢◌, ℕ, zero, suc, ◌+◌, ◌^◌, ◌<◌, ◌≤◌, max, ◌∷◌, ◌++◌, length, Some, None, IsSome, refl, ap, sym}
use Rattle.piece_tree.proofs.Names.{◌∙◌, inl, inr, subst, arith, length-append, pow_mono, two-pow-succ, Slab, Updates, get}
use Rattle.piece_tree.proofs.Names.{slab_len, Node, Top, Piece, MOST_PIECES, IsLeastHeight, Makes, Parted, IsPiece, Shape, Empty, Fork}
use Rattle.piece_tree.proofs.Names.{AreNear, items, joint, one, top_of, tree_at, uses}
use Rattle.piece_tree.proofs.shapes.Apart.{unused, used-there}
use Rattle.piece_tree.proofs.shapes.Forks.{one-other, one-same, same_key, same_stands}
use Rattle.piece_tree.proofs.shapes.Tall.{order}

module _ {was mid : Slab Node} {near far : Top} {n f : Shape} (h : Parted was mid near far Empty n f) (key : ℕ)
    (none : get mid key ≡ None) where
  not_used : (k : ℕ) → 0 < one key k → uses n k + uses f k ≡ 0
  not_used k g =
      let a = unused (get mid) n key h.near_tree.stands none in
      let b = unused (get mid) f key h.far_tree.stands none in
      rw (same_key key k g) (omega (arith, a, b))

  once : (k : ℕ) → one key k + uses n k + uses f k ≤ 1
  once k = elim (order (one key k) 0) [
    | inl x ↦ omega (arith, h.once k)
    | inr x ↦ omega (arith, not_used k x, ap (one key) (same_key key k x), one-same key)
  ]

  other : (k : ℕ) → IsSome (get mid k) → k ≢ key
  other k there x = let y : get mid k ≡ get mid key = ap (get mid) x in absurd (cc)

  pub crown-makes : {new : Slab Node} {p : Piece} → IsPiece p → AreNear n f → length (items n) + length (items f) < MOST_PIECES
      → Updates mid new key (Some (joint p near far)) → slab_len new ≡ slab_len mid + 1 → new.capacity ≡ mid.capacity
      → Makes was new (tree_at key (joint p near far)) Empty (items n ++ p ∷ items f)
  crown-makes {new} {p} i close few u len capacity = record {
    shape = Fork key p n f;
    tree = record {
      is = rw (h.near_tree.is, h.far_tree.is) refl;
      stands = (
        rw (h.near_tree.is, h.far_tree.is) at u.changed,
        i,
        close,
        same_stands (get mid) (get new) n h.near_tree.stands
            (λ k g. u.others k (other k (used-there (get mid) n k h.near_tree.stands g))),
        same_stands (get mid) (get new) f h.far_tree.stands
            (λ k g. u.others k (other k (used-there (get mid) f k h.far_tree.stands g))),
      );
      once = once;
      few = omega (arith, few, length-append {A = Piece});
    };
    all = refl;
    apart = λ k z there.
        let x = h.apart k z there in
        let new_one = other k (rw x.0 there) in
        (u.others k new_one ∙ x.0, omega (arith, x.1, one-other key k new_one));
    len = omega (arith, h.len, len, length-append {A = Piece});
    capacity = capacity ∙ h.capacity;
  }

-- no tree and no tree
pub parted-none : (nodes : Slab Node) → Parted nodes nodes (top_of Empty) (top_of Empty) Empty Empty Empty
parted-none nodes = record {
  near_tree = record { is = refl; stands = tt; once = λ k. omega arith; few = omega arith };
  far_tree = record { is = refl; stands = tt; once = λ k. omega arith; few = omega arith };
  once = λ k. omega arith;
  apart = λ k z e. (refl, refl);
  len = omega arith;
  capacity = refl;
}

-- ---- heights

-- the two halves of a list are as high but for one
module _ (n f hn hf : ℕ) (ln : IsLeastHeight n hn) (lf : IsLeastHeight f hf) (more : f ≤ n) (few : n ≤ f + 1) where
  pub least-far : hf ≤ hn
  least-far = elim (order hf hn) [
    | inl x ↦ x
    | inr x ↦ let m : 2 ^ suc hn ≤ 2 ^ hf = pow_mono x in absurd (omega (arith, m, two-pow-succ hn, ln, lf))
  ]

  pub least-near : hn ≤ hf + 1
  least-near = elim (order hn (hf + 1)) [
    | inl x ↦ x
    | inr x ↦
        let m : 2 ^ suc (suc hf) ≤ 2 ^ hn = pow_mono (omega (arith, x)) in
        absurd (omega (arith, m, two-pow-succ hf, two-pow-succ (suc hf), ln, lf))
  ]

  -- and with one between them the height is the least again
  pub least-crown : IsLeastHeight (n + 1 + f) (1 + max hn hf)
  least-crown = subst (λ h. IsLeastHeight (n + 1 + f) (1 + h)) (sym (highest least-far)) (upon hn ln)
    where
      highest : hf ≤ hn → max hn hf ≡ hn
      highest less = omega arith

      twice : (h : ℕ) → 2 ^ (1 + h) ≡ 2 ^ h + 2 ^ h
      twice h = let e : 1 + h ≡ suc h = omega arith in ap (λ k. 2 ^ k) e ∙ two-pow-succ h

      upon : (h : ℕ) → IsLeastHeight n h → IsLeastHeight (n + 1 + f) (1 + h)
      upon zero l = (omega (arith, twice zero, l, more), omega (arith, twice zero, l, few))
      upon (suc h) l = (omega (arith, twice (suc h), l, more), omega (arith, twice (suc h), two-pow-succ h, l, few))
