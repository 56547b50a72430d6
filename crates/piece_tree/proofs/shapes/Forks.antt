-- A key with a tree on each of its sides, by the side: what it shows, and how it is written.
use Rattle.piece_tree.proofs.Names.{◌≡◌, ◌≢◌, ℕ, ◌+◌, ◌<◌, max, Bool, true, false, Option, Some, None, IsSome, refl, ap, ◌∙◌, arith}
use Rattle.piece_tree.proofs.Names.{nat_tests}
use Rattle.piece_tree.proofs.Names.{Slab, Updates, get, Piece, Node, Opened, Top, IsPiece, Look, Shape, Empty, Fork, height_of, root_of}
use Rattle.piece_tree.proofs.Names.{one, uses, AreNear, fork, top_of, joint_at, tree_at, Stands, Opens, AreParts, Links}

-- ---- keys

pub one-same : (key : ℕ) → one key key ≡ 1
one-same key = grind (arith)

pub one-other : (key k : ℕ) → k ≢ key → one key k ≡ 0
one-other key k h = grind (arith)

pub is_there : {A : Type 0} {o : Option A} {x : A} → o ≡ Some x → IsSome o
is_there e = rw e refl

pub same_key : (key k : ℕ) → 0 < one key k → k ≡ key
same_key key k g = grind (arith, nat_tests)

-- a key that isn't used once is another one
pub no_key : (key k : ℕ) → one key k ≡ 0 → k ≢ key
no_key key k z e = let same : one key k ≡ one key key = ap (one key) e in absurd (omega (arith, one-same key))

pub none_empty : (t : Shape) → root_of t ≡ None → t ≡ Empty
none_empty Empty e = refl
none_empty (Fork k p l r) e = absurd (cc)

-- a key that a tree doesn't use is none that it does
pub differs : (key k : ℕ) (t : Shape) → uses t key ≡ 0 → 0 < uses t k → k ≢ key
differs key k t z g e = let w : uses t k ≡ uses t key = ap (uses t) e in absurd (omega arith)

-- a tree whose keys have the same nodes
pub same_stands : (look next : Look) (t : Shape) → Stands look t → ((k : ℕ) → 0 < uses t k → next k ≡ look k) → Stands next t
same_stands look next Empty s h = tt
same_stands look next (Fork key p l r) s h = (
  h key (omega (arith, one-same key)) ∙ s.0,
  s.1,
  s.2,
  same_stands look next l s.3 (λ k u. h k (omega arith)),
  same_stands look next r s.4 (λ k u. h k (omega arith)),
)

-- a tree beside a key at which another node lies, or none
pub beside_key : {old new : Slab Node} {key : ℕ} {node : Option Node} (s : Shape) → Updates old new key node → Stands (get old) s
    → uses s key ≡ 0 → Stands (get new) s
beside_key {old} {new} {key} s u h z = same_stands (get old) (get new) s h (λ k g. u.others k (differs key k s z g))

-- ---- by a side

pub fork-height : (b : Bool) (key : ℕ) (p : Piece) (n f : Shape) → height_of (fork b key p n f) ≡ 1 + max (height_of n) (height_of f)
fork-height true key p n f = refl
fork-height false key p n f = omega arith

pub fork-uses : (b : Bool) (key : ℕ) (p : Piece) (n f : Shape) (k : ℕ) → uses (fork b key p n f) k ≡ one key k + uses n k + uses f k
fork-uses true key p n f k = refl
fork-uses false key p n f k = omega arith

pub fork-root : (b : Bool) (key : ℕ) (p : Piece) (n f : Shape) → root_of (fork b key p n f) ≡ Some key
fork-root true key p n f = refl
fork-root false key p n f = refl

pub fork-top : (b : Bool) (key : ℕ) (p : Piece) (n f : Shape)
    → tree_at key (joint_at b p (top_of n) (top_of f)) ≡ top_of (fork b key p n f)
fork-top true key p n f = refl
fork-top false key p n f = refl

-- the parts of it
pub record StandsBy (look : Look) (b : Bool) (key : ℕ) (p : Piece) (n f : Shape) : Type 0 where
  pub here : look key ≡ Some (joint_at b p (top_of n) (top_of f))
  pub piece : IsPiece p
  pub near : AreNear n f
  pub one : Stands look n
  pub other : Stands look f

pub stands_by : (look : Look) (b : Bool) (key : ℕ) (p : Piece) (n f : Shape) → Stands look (fork b key p n f) → StandsBy look b key p n f
stands_by look true key p n f s = record { here = s.0; piece = s.1; near = s.2; one = s.3; other = s.4 }
stands_by look false key p n f s = record { here = s.0; piece = s.1; near = (s.2.1, s.2.0); one = s.4; other = s.3 }

pub by_stands : (look : Look) (b : Bool) (key : ℕ) (p : Piece) (n f : Shape) → StandsBy look b key p n f → Stands look (fork b key p n f)
by_stands look true key p n f s = (s.here, s.piece, s.near, s.one, s.other)
by_stands look false key p n f s = (s.here, s.piece, (s.near.1, s.near.0), s.other, s.one)

-- ---- opened

module _ (look : Look) {b : Bool} {key : ℕ} {opened : Opened} {t : Shape} (s : Stands look t) (o : Opens b key opened t) where
  pub opened-by : StandsBy look b key opened.piece o.near o.far
  opened-by = stands_by look b key opened.piece o.near o.far (rw o.is at s)

  pub opened-there : IsSome (look key)
  opened-there = is_there opened-by.here

  pub opened-uses : (k : ℕ) → uses t k ≡ one key k + uses o.near k + uses o.far k
  opened-uses k = ap (λ x. uses x k) o.is ∙ fork-uses b key opened.piece o.near o.far k

  pub opened-height : height_of t ≡ 1 + max (height_of o.near) (height_of o.far)
  opened-height = ap height_of o.is ∙ fork-height b key opened.piece o.near o.far

-- ---- written

-- two trees that are nearly as high, and a key with the node of a piece between them
pub linked : {old new : Slab Node} {b : Bool} {near far : Top} {key : ℕ} {p : Piece} {n f : Shape} {node : Node}
    → AreParts (get old) near key far n f → IsPiece p → AreNear n f → node ≡ joint_at b p near far → Updates old new key (Some node)
    → Links (get old) (get new) b (tree_at key node) key p n f
linked {old} {new} {b} {near} {far} {key} {p} {n} {f} {node} a i w e u =
    let own = one-same key in
    let is : node ≡ joint_at b p (top_of n) (top_of f) =
    rw (← a.near_is, ← a.far_is) e in
    record {
      is = ap (tree_at key) is ∙ fork-top b key p n f;
      stands = by_stands (get new) b key p n f (record {
        here = u.changed ∙ ap (λ x. Some x) is;
        piece = i;
        near = w;
        one = beside_key n u a.near_stands (omega (arith, a.once key));
        other = beside_key f u a.far_stands (omega (arith, a.once key));
      });
      others = u.others;
    }

-- a tree beside what was linked
pub beside_linked : {old new : Look} {b : Bool} {top : Top} {key : ℕ} {p : Piece} {n f : Shape} (t : Shape) → Links old new b top key p n f
    → uses t key ≡ 0 → Stands old t → Stands new t
beside_linked {old} {new} {key = key} t u z s = same_stands old new t s (λ x g. u.others x (differs key x t z g))
