-- What lies beside a tree that became another: no key of it changed or came into the tree.
use Rattle.piece_tree.proofs.Names.{◌≡◌, ◌≢◌, ℕ, ◌+◌, ◌<◌, ◌≤◌, List, Option, Some, None, IsSome, refl, ap, sym, ◌∙◌, inl, inr, arith}
use Rattle.piece_tree.proofs.Names.{Slab, get, Piece, Node, Top, Makes, Look, Shape, Empty, Fork, root_of, one, uses, top_of, joint, Stands}
use Rattle.piece_tree.proofs.shapes.Forks.{one-other, same_stands}
use Rattle.piece_tree.proofs.shapes.Tall.{order}

-- a key without a node isn't used
pub unused : (look : Look) (t : Shape) (k : ℕ) → Stands look t → look k ≡ None → uses t k ≡ 0
unused look Empty k s e = refl
unused look (Fork key p l r) k s e =
    let a = unused look l k s.3 e in
    let b = unused look r k s.4 e in
    let c : one key k ≡ 0 = one-other key k (no_key s.0 e) in
    omega arith
  where
    no_key : look key ≡ Some (joint p (top_of l) (top_of r)) → look k ≡ None → k ≢ key
    no_key h e x = let y : look k ≡ look key = ap look x in absurd (cc)

-- a root is one of the keys
pub root-used : (t : Shape) (key k : ℕ) → root_of t ≡ Some key → one key k ≤ uses t k
root-used Empty key k e = absurd (cc)
root-used (Fork x p l r) key k e = let same : x ≡ key = cc in let own = ap (λ y. one y k) same in omega arith

-- a key of a tree has its node
pub used-there : (look : Look) (t : Shape) (k : ℕ) → Stands look t → 0 < uses t k → IsSome (look k)
used-there look t k s g = some (look k) refl
  where
    some : (o : Option Node) → o ≡ look k → IsSome o
    some None e = absurd (omega (arith, unused look t k s (sym e)))
    some (Some n) e = refl

-- a key that didn't change, and that the tree doesn't use which became another
pub twice_apart : {mid new : Slab Node} {top : Top} {t : Shape} {pieces : List Piece} {was : Option Node}
    (m : Makes mid new top t pieces) (k : ℕ) → uses t k ≡ 0 → get mid k ≡ was → IsSome was → (get new k ≡ was) × (uses m.shape k ≡ 0)
twice_apart m k z same e = let x = m.apart k z (rw same e) in (x.0 ∙ same, x.1)

-- keys that have a node, and that a tree doesn't use
pub record IsApart (look : Look) (beside : ℕ → ℕ) (t : Shape) : Type 0 where
  pub there : (k : ℕ) → 0 < beside k → IsSome (look k)
  pub once : (k : ℕ) → beside k + uses t k ≤ 1

module _ {old new : Slab Node} {top : Top} {t : Shape} {pieces : List Piece} {beside : ℕ → ℕ} (m : Makes old new top t pieces)
    (a : IsApart (get old) beside t) where
  pub apart-same : (k : ℕ) → 0 < beside k → get new k ≡ get old k
  apart-same k g = (m.apart k (omega (arith, a.once k)) (a.there k g)).0

  pub apart-stands : (s : Shape) → Stands (get old) s → ((k : ℕ) → uses s k ≤ beside k) → Stands (get new) s
  apart-stands s h few = same_stands (get old) (get new) s h (λ k g. apart-same k (omega (arith, few k)))

  -- they still are
  pub apart-still : IsApart (get new) beside m.shape
  apart-still = record {
    there = λ k g. rw (apart-same k g) (a.there k g);
    once = λ k. elim (order (beside k) 0) [
      | inl x ↦ omega (arith, m.tree.once k)
      | inr g ↦ omega (arith, a.once k, (m.apart k (omega (arith, a.once k)) (a.there k g)).1)
    ];
  }
