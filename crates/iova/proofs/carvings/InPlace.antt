-- Pieces that are carved out of a free piece stand in its place, with what is left of it before and behind them.
use Rattle.iova.proofs.Names.{◌≡◌, ◌≢◌, ℕ, ◌+◌, ◌<◌, ◌≤◌, List, [], ◌∷◌, ◌++◌, length, refl, ap, sym, ◌∙◌, subst, arith, append-nil}
use Rattle.iova.proofs.Names.{append_assoc, length-append, Free, Piece, IsIn, FollowOn, with_pieces, IsOrdered, with_piece, Space, IsSpace}
use Rattle.iova.proofs.Names.{rest_below}
use Rattle.iova.proofs.Shown.{parted}
use Rattle.iova.proofs.parts.Added.{rest_above-some, rest_below-none, with_over}
use Rattle.iova.proofs.Puts.{free_state, ordered_put}
use Rattle.iova.proofs.parts.Parts.{above_whole, below_whole, first_from, ordered_behind}

-- a free piece from a first to a last page
abbrev pub free_piece : ℕ → ℕ → Piece
free_piece first last = record { first = first; last = last; state = Free }

-- ---- pieces that follow on one another

pub follow_le : (from : ℕ) (chain : List Piece) (end : ℕ) → FollowOn from chain end → from ≤ end
follow_le from [] end f = omega (arith, f)
follow_le from (e ∷ es) end f = omega (arith, f.0, f.1, follow_le (e.last + 1) es end f.3)

pub follow_some : (from : ℕ) (chain : List Piece) (end : ℕ) → FollowOn from chain end → 0 < length chain → from < end
follow_some from [] end f h = absurd (omega arith)
follow_some from (e ∷ es) end f h = omega (arith, follow_le (e.last + 1) es end f.3)

-- those of a first part, and of the rest
pub follow_parts : (from : ℕ) (xs ys : List Piece) (end : ℕ) → FollowOn from (xs ++ ys) end
    → (mid : ℕ) × FollowOn from xs mid × FollowOn mid ys end
follow_parts from [] ys end f = (from, refl, f)
follow_parts from (x ∷ xs) ys end f = let r = follow_parts (x.last + 1) xs ys end f.3 in (r.0, (f.0, f.1, f.2, r.1), r.2)

-- and of both
pub follow_both : (from : ℕ) (xs ys : List Piece) (mid end : ℕ) → FollowOn from xs mid → FollowOn mid ys end
    → FollowOn from (xs ++ ys) end
follow_both from [] ys mid end f g = subst (λ n. FollowOn n ys end) (sym f) g
follow_both from (x ∷ xs) ys mid end f g = (f.0, f.1, f.2, follow_both (x.last + 1) xs ys mid end f.3 g)

-- ---- one piece

module _ (xs : List Piece) (first last : ℕ) (ys : List Piece) (e : Piece) (o : IsOrdered 1 (xs ++ free_piece first last ∷ ys))
    (low : first ≤ e.first) (some : e.first ≤ e.last) (left : e.last < last) where
  abbrev m : Piece
  m = free_piece first last

  -- it lies there, with what is left of the free piece before it and behind it
  pub one_is : with_piece e (xs ++ free_piece first last ∷ ys)
      ≡ (xs ++ rest_below e.first (free_piece first last)) ++ e ∷ free_piece (e.last + 1) last ∷ ys
  one_is =
      let below = below_whole 1 xs m ys e.first o low in
      let above = above_whole (last + 1) e.last ys (ordered_behind 1 xs m ys o) (omega arith) in
      cc (with_over 1 xs m ys e o (omega arith) (omega arith), rest_above-some e.last m left)

  -- in order
  pub one_ordered : e.state ≢ Free
      → IsOrdered 1 ((xs ++ rest_below e.first (free_piece first last)) ++ e ∷ free_piece (e.last + 1) last ∷ ys)
  one_ordered n =
      subst (λ l. IsOrdered 1 l) one_is
      (ordered_put 1 e.first e.last e.state (xs ++ m ∷ ys) o (omega (arith, first_from 1 xs m ys o)) some (omega arith)
      (λ f. absurd (n (free_state e.state f))))

-- all of them, with what is left of the free piece: where there is none, it begins with that
pub chain_is : (xs : List Piece) (first last : ℕ) (ys chain : List Piece) (begin end : ℕ) → IsOrdered 1 (xs ++ free_piece first last ∷ ys)
    → first ≤ begin → FollowOn begin chain end → (end ≡ begin → begin ≡ first) → end ≤ last
    → with_pieces chain (xs ++ free_piece first last ∷ ys)
    ≡ (xs ++ rest_below begin (free_piece first last)) ++ (chain ++ free_piece end last ∷ ys)
chain_is xs first last ys [] begin end o low f h left =
    cc (h (sym f), rest_below-none begin (free_piece first last) (omega (arith, h (sym f))), append-nil xs)
chain_is xs first last ys (e ∷ es) begin end o low f h left =
    let zs : List Piece = xs ++ rest_below e.first (free_piece first last) in
    let less : e.last < last = omega (arith, follow_le (e.last + 1) es end f.3) in
    let same = append_assoc zs (e ∷ []) (free_piece (e.last + 1) last ∷ ys) in
    let now = subst (λ l. IsOrdered 1 l) (sym same) (one_ordered xs first last ys e o (omega arith) f.1 less f.2) in
    let rest = chain_is (zs ++ e ∷ []) (e.last + 1) last ys es (e.last + 1) end now (omega arith) f.3 (λ _. refl) left in
    let none = rest_below-none (e.last + 1) (free_piece (e.last + 1) last) (omega arith) in
    let one = one_is xs first last ys e o (omega arith) f.1 less in
    cc (append-nil (zs ++ e ∷ []), append_assoc zs (e ∷ []) (es ++ free_piece end last ∷ ys))

-- ---- in a space

module _ {a : Space} (sp : IsSpace a) (first last : ℕ) (there : IsIn (free_piece first last) a.pieces) where
  -- the pieces before the free piece and behind it
  abbrev pub before : List Piece
  before = (parted (free_piece first last) a.pieces there).0

  abbrev pub behind : List Piece
  behind = (parted (free_piece first last) a.pieces there).1

  pub was : a.pieces ≡ before ++ free_piece first last ∷ behind
  was = (parted (free_piece first last) a.pieces there).2

  pub was_ordered : IsOrdered 1 (before ++ free_piece first last ∷ behind)
  was_ordered = subst (λ l. IsOrdered 1 l) was sp.ordered

  module _ (chain : List Piece) (begin end : ℕ) (low : first ≤ begin) (follow : FollowOn begin chain end) (some : begin < end)
      (left : end ≤ last) where
    pub row_is : with_pieces chain a.pieces
        ≡ (before ++ rest_below begin (free_piece first last)) ++ (chain ++ free_piece end last ∷ behind)
    row_is = ap (with_pieces chain) was
        ∙ chain_is before first last behind chain begin end was_ordered low follow (λ e. absurd (omega arith)) left

    -- how many there are
    pub counted : length (with_pieces chain a.pieces) ≡ length a.pieces + length chain + length (rest_below begin (free_piece first last))
    counted = omega (arith, ap length row_is, ap length was, length-append {A = Piece})
