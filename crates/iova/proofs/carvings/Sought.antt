-- The lowest start of what is sought, where it lies right behind the pieces that were carved out of a free piece.
use Rattle.iova.proofs.Names.{◌≡◌, ℕ, ◌+◌, ◌-◌, ◌%◌, ◌^◌, ◌<◌, ◌≤◌, max, List, [], inl, inr, subst, arith, bit_and, and_mask, zero-mod}
use Rattle.iova.proofs.Names.{mod-mod-pow, pow_mono, Stock, Sought, Piece, AreCarved, FollowOn, IsSought, with_pieces, IsRoundUp, Space}
use Rattle.iova.proofs.Names.{IsFit, IsLowestFrom, IsSpace}
use Rattle.iova.proofs.Pieces.{order}
use Rattle.iova.proofs.carvings.State.{carving, follow_at, follow_in, free_was, left_free, chain_state}

-- a multiple of a power of two is one of each lower power
power_less : (a b n : ℕ) → 2 ^ a ≤ 2 ^ b → n % (2 ^ b) ≡ 0 → n % (2 ^ a) ≡ 0
power_less a b n h e = elim (order a b) [
  | inl k ↦
      let s : (b - a) + a ≡ b = omega arith in cc (mod-mod-pow n (b - a) a, zero-mod (2 ^ a))
  | inr k ↦
      let m : 2 ^ b ≤ 2 ^ a = pow_mono (omega arith) in
      let s : 2 ^ a ≡ 2 ^ b = omega arith in cc
]

-- this much is sought, at least as much as before
pub record IsMore (sought was : Sought) : Type 0 where
  pub floor : sought.floor ≡ was.floor
  pub pages : was.pages ≤ sought.pages
  pub aligned : (n : ℕ) → n % sought.unit ≡ 0 → n % was.unit ≡ 0

module _ {a : Space} {chain : List Piece} {stock : Stock} (sp : IsSpace a) (c : AreCarved a.pieces chain stock) (sought : Sought)
    (more : IsMore sought stock.sought) (some : 1 ≤ sought.pages) where
  -- it doesn't begin before the free piece
  not_below : (other : ℕ) → IsFit (with_pieces chain a.pieces) sought.pages sought.unit other → sought.floor ≤ other
      → stock.pages.first ≤ other
  not_below other f h =
      c.none other (record {
        aligned = more.aligned other f.aligned;
        free = λ page w. free_was (carving sp c) page (f.free page (w.0, omega (arith, w.1, more.pages)));
      }) (omega (arith, more.floor))

  -- nor in a page of the pieces
  not_in : (other page : ℕ) → IsFit (with_pieces chain a.pieces) sought.pages sought.unit other → other ≤ page
      → page < other + sought.pages → c.from ≤ page → page < c.end → ⊥
  not_in other page f h l begins ends =
      let r = follow_at c.from chain c.end c.follow page begins ends in
      (follow_in c.from chain c.end c.follow r.0 r.1).3 (cc (chain_state (carving sp c) r.0 r.1 page r.2, f.free page (h, l)))

  -- where nothing is carved, it is the first multiple in the free piece
  pub first_lowest : (start : ℕ) → chain ≡ [] → IsRoundUp (max stock.pages.first sought.floor) sought.unit start
      → start + sought.pages ≤ stock.pages.last → IsLowestFrom sought.floor (with_pieces chain a.pieces) sought.pages sought.unit start
  first_lowest start none up left =
      let e : c.from ≡ c.end = subst (λ r. FollowOn c.from r c.end) none c.follow in
      record {
        fit = record {
          aligned = up.0;
          free = λ page w. left_free (carving sp c) page (omega (arith, up.1)) (omega arith)
              (elim (order c.end page) [ inl k ↦ inr k | inr k ↦ inl (omega arith) ]);
        };
        above = λ h other f g. up.2 other f.aligned (omega (arith, not_below other f g));
        below = λ h other f. absurd (omega (arith, up.1));
      }

  -- else it is right behind the pieces, where too few pages are free before them
  pub next_lowest : c.from < c.end
      → ((n : ℕ) → n % sought.unit ≡ 0 → max stock.pages.first sought.floor ≤ n → c.from < n + sought.pages)
      → c.end % sought.unit ≡ 0 → c.end + sought.pages ≤ stock.pages.last
      → IsLowestFrom sought.floor (with_pieces chain a.pieces) sought.pages sought.unit c.end
  next_lowest chain_some less m left = record {
    fit = record {
      aligned = m;
      free = λ page w. left_free (carving sp c) page (omega (arith, c.low)) (omega arith) (inr w.0);
    };
    above = λ h other f g. elim (order c.end other) [
      | inl k ↦ k
      | inr k ↦
          let u = less other f.aligned (omega (arith, not_below other f g)) in
          elim (order c.from other) [
            | inl l ↦ absurd (not_in other other f (omega arith) (omega arith) l k)
            | inr l ↦ absurd (not_in other c.from f (omega arith) u (omega arith) chain_some)
          ]
    ];
    below = λ h other f. absurd (omega (arith, c.low, more.floor));
  }

-- a larger power of two is a multiple of a smaller one
pub is_more : (sought was : Sought) → IsSought sought → IsSought was → sought.floor ≡ was.floor → was.pages ≤ sought.pages
    → was.unit ≤ sought.unit → IsMore sought was
is_more sought was s w floor pages unit = record {
  floor = floor;
  pages = pages;
  aligned = λ n e. cc (w.power.2, power_less w.power.0 s.power.0 n (omega (arith, w.power.2, s.power.2)) (cc (s.power.2, e)));
}

-- a unit is small
pub unit_small : (sought : Sought) → IsSought sought → (0 < sought.unit) × (sought.unit ≤ 512)
unit_small sought s =
    let h : s.power.0 ≤ 9 = omega (arith, s.power.1) in
    let l : 0 ≤ s.power.0 = omega arith in
    let m : 2 ^ s.power.0 ≤ 2 ^ 9 = pow_mono h in
    let z : 2 ^ 0 ≤ 2 ^ s.power.0 = pow_mono l in omega (arith, s.power.2)

-- a multiple, by its last digits
pub digits_zero : (sought : Sought) (start : ℕ) → IsSought sought → bit_and start (sought.unit - 1) ≡ 0 → start % sought.unit ≡ 0
digits_zero sought start s e = cc (s.power.2, and_mask start s.power.0)
