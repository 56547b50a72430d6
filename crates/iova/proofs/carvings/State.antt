-- What carving pieces out of a free piece leaves: a space, in which each page lies as before but for those of the pieces.
use Rattle.iova.proofs.Names.{◌≡◌, ◌≢◌, ℕ, ◌+◌, ◌<◌, ◌≤◌, ◌⊎◌, List, [], ◌∷◌, ◌++◌, length, max, Option, None, Some, refl, sym, ◌∙◌, inl}
use Rattle.iova.proofs.Names.{inr, subst, arith, IsIn, Stock, Free, Piece, MOST_PIECES, AreCarved, FollowOn, IsCarved, with_carved}
use Rattle.iova.proofs.Names.{with_pieces, Holds, state_at, with_piece, Space, IsSpace, rest_below}
use Rattle.iova.proofs.Pieces.{order, put_outside}
use Rattle.iova.proofs.Among.{in_append_right, in_le, in_other, in_state, is_apart, put_keeps, put_only, put_piece}
use Rattle.iova.proofs.Keep.{is_some, space_put}
use Rattle.iova.proofs.Puts.{free_state}
use Rattle.iova.proofs.searches.Found.{holds}
use Rattle.iova.proofs.carvings.InPlace.{before, behind, counted, follow_le, free_piece, row_is}

-- pieces can be carved out of a free piece of a space, from a page on
pub record Carving (a : Space) (first last : ℕ) (chain : List Piece) (begin end : ℕ) : Type 0 where
  pub space : IsSpace a
  pub there : IsIn (free_piece first last) a.pieces
  pub low : first ≤ begin
  pub follow : FollowOn begin chain end
  pub left : end ≤ last
  pub few : length (with_pieces chain a.pieces) ≤ MOST_PIECES

pub carving : {a : Space} {chain : List Piece} {stock : Stock} → IsSpace a → (c : AreCarved a.pieces chain stock)
    → Carving a stock.pages.first stock.pages.last chain c.from c.end
carving sp c = record { space = sp; there = c.there; low = omega (arith, c.low); follow = c.follow; left = c.left; few = c.few }

-- others are carved in the place of those
pub recarved : {pieces chain : List Piece} {stock : Stock} → AreCarved pieces chain stock → (new : List Piece) (from end : ℕ)
    → max stock.pages.first stock.sought.floor ≤ from → FollowOn from new end → end ≤ stock.pages.last
    → length (with_pieces new pieces) ≤ MOST_PIECES → AreCarved pieces new stock
recarved c new from end low follow left few =
    record { there = c.there; sought = c.sought; none = c.none; from = from; end = end; low = low; follow = follow; left = left; few = few }

-- the free piece is free
pub was_free : {chain : List Piece} {a : Space} {first last begin end : ℕ} → Carving a first last chain begin end → (page : ℕ)
    → first ≤ page → page ≤ last → state_at a.pieces page ≡ Some Free
was_free {a} {first} {last} c page h l = in_state 1 (free_piece first last) a.pieces page c.space.ordered c.there h l

-- ---- the first of them

module _ {a : Space} {first last : ℕ} {e : Piece} {es : List Piece} {begin end : ℕ} (c : Carving a first last (e ∷ es) begin end) where
  abbrev pub now : Space
  now = record a { pieces = with_piece e a.pieces }

  -- then the others
  pub next : Carving now (e.last + 1) last es (e.last + 1) end
  next =
      let le = follow_le (e.last + 1) es end c.follow.3 in
      let alone : FollowOn begin (e ∷ []) (e.last + 1) = (c.follow.0, c.follow.1, c.follow.2, refl) in
      let one = row_is c.space first last c.there (e ∷ []) begin (e.last + 1) c.low alone (omega arith) (omega arith) in
      let fewer = counted c.space first last c.there (e ∷ []) begin (e.last + 1) c.low alone (omega arith) (omega arith) in
      let all = counted c.space first last c.there (e ∷ es) begin end c.low c.follow (omega arith) c.left in
      record {
        space = space_put a e.first e.last e.state c.space c.follow.1
            (λ page h l. is_some a.pieces page Free (was_free c page (omega arith) (omega arith)))
            (λ f. absurd (c.follow.2 (free_state e.state f))) (omega arith);
        there = subst (λ l. IsIn (free_piece (e.last + 1) last) l) (sym one)
            (in_append_right (free_piece (e.last + 1) last) (before c.space first last c.there ++ rest_below begin (free_piece first last))
            (e ∷ free_piece (e.last + 1) last ∷ behind c.space first last c.there) (inr (inl refl)));
        low = omega arith;
        follow = c.follow.3;
        left = c.left;
        few = c.few;
      }

-- ---- all of them

pub carved_space : {chain : List Piece} {a : Space} {first last begin end : ℕ} → Carving a first last chain begin end
    → IsSpace (with_carved chain a)
carved_space {chain = []} c = c.space
carved_space {chain = e ∷ es} c = carved_space {chain = es} (next c)

-- a page that none of them has lies as before
pub untouched : {chain : List Piece} {a : Space} {first last begin end : ℕ} → Carving a first last chain begin end → (page : ℕ)
    → ((q : Piece) → IsIn q chain → Holds q page → ⊥) → state_at (with_pieces chain a.pieces) page ≡ state_at a.pieces page
untouched {chain = []} c page h = refl
untouched {chain = e ∷ es} {a} c page h =
    untouched {chain = es} (next c) page (λ q m k. h q (inr m) k)
    ∙ put_outside 1 e.first e.last e.state a.pieces page c.space.ordered c.follow.1 (h e (inl refl))

-- pieces that lie before them or behind them stay
pub apart_stays : {chain : List Piece} {a : Space} {first last begin end : ℕ} → Carving a first last chain begin end → (q : Piece)
    → IsIn q a.pieces → (q.last < begin) ⊎ (end ≤ q.first) → IsIn q (with_pieces chain a.pieces)
apart_stays {chain = []} c q m h = m
apart_stays {chain = e ∷ es} {a} {end = end} c q m h =
    let le = follow_le (e.last + 1) es end c.follow.3 in
    let stays = λ (x : (q.last < e.first) ⊎ (e.last < q.first)). put_keeps e.first e.last e.state q a.pieces c.space.ordered m x in
    elim h [
      | inl k ↦ apart_stays {chain = es} (next c) q (stays (inl (omega arith))) (inl (omega arith))
      | inr k ↦ apart_stays {chain = es} (next c) q (stays (inr (omega arith))) (inr k)
    ]

-- those that are carved are there
pub chain_there : {chain : List Piece} {a : Space} {first last begin end : ℕ} → Carving a first last chain begin end → (q : Piece)
    → IsIn q chain → IsIn q (with_pieces chain a.pieces)
chain_there {chain = []} c q m = absurd m
chain_there {chain = e ∷ es} {a} c q m = elim m [
  | inl x ↦ subst (λ r. IsIn r (with_pieces (e ∷ es) a.pieces)) (sym x)
      (apart_stays {chain = es} (next c) e (put_piece e.first e.last e.state a.pieces) (inl (omega arith)))
  | inr x ↦ chain_there {chain = es} (next c) q x
]

-- what is in use is what was, and those that are carved
pub used_only : {chain : List Piece} {a : Space} {first last begin end : ℕ} → Carving a first last chain begin end → (q : Piece)
    → q.state ≢ Free → IsIn q (with_pieces chain a.pieces) → IsIn q chain ⊎ IsIn q a.pieces
used_only {chain = []} c q n m = inr m
used_only {chain = e ∷ es} {a} {end = end} c q n m = elim (used_only {chain = es} (next c) q n m) [
  | inl x ↦ inl (inr x)
  | inr x ↦
      let le = follow_le (e.last + 1) es end c.follow.3 in
      let free = λ (p : Piece) (i : IsIn p a.pieces) (s : p.state ≡ q.state) (page : ℕ) (f : state_at a.pieces page ≡ Some Free).
      in_other p a.pieces page Free c.space.ordered i f (λ t. n (sym s ∙ t)) in
      elim (put_only e.first e.last e.state q a.pieces c.space.ordered x) [
        | inl y ↦ inl (inl y)
        | inr y ↦ elim y.2.whole [
          | inl z ↦ inr (subst (λ r. IsIn r a.pieces) (sym z) y.1)
          | inr z ↦
              let out = free y.0 y.1 y.2.state in
              let one = out e.first (was_free c e.first (omega arith) (omega arith)) in
              let two = out e.last (was_free c e.last (omega arith) (omega arith)) in absurd (grind arith)
        ]
      ]
]

-- ---- where they follow on one another

pub follow_in : (from : ℕ) (chain : List Piece) (end : ℕ) → FollowOn from chain end → (q : Piece) → IsIn q chain
    → (from ≤ q.first) × (q.first ≤ q.last) × (q.last < end) × (q.state ≢ Free)
follow_in from [] end f q m = absurd m
follow_in from (e ∷ es) end f q m = elim m [
  | inl x ↦ subst (λ (r : Piece). (from ≤ r.first) × (r.first ≤ r.last) × (r.last < end) × (r.state ≢ Free)) (sym x)
      (omega arith, f.1, omega (arith, follow_le (e.last + 1) es end f.3), f.2)
  | inr x ↦ let r = follow_in (e.last + 1) es end f.3 q x in (omega arith, r.1, r.2, r.3)
]

-- each page from the first to the last lies in one
pub follow_at : (from : ℕ) (chain : List Piece) (end : ℕ) → FollowOn from chain end → (page : ℕ) → from ≤ page → page < end
    → (q : Piece) × IsIn q chain × Holds q page
follow_at from [] end f page h l = absurd (omega arith)
follow_at from (e ∷ es) end f page h l = elim (order page e.last) [
  | inl k ↦ (e, inl refl, omega arith)
  | inr k ↦ let r = follow_at (e.last + 1) es end f.3 page (omega arith) l in (r.0, inr r.1, r.2)
]

-- whether a page lies in one of the pieces
pub held : (chain : List Piece) (page : ℕ) → ((q : Piece) × IsIn q chain × Holds q page) ⊎ ((q : Piece) → IsIn q chain → Holds q page → ⊥)
held [] page = inr (λ q m h. m)
held (e ∷ es) page = elim (holds e page) [
  | inl h ↦ inl (e, inl refl, h)
  | inr n ↦ elim (held es page) [
    | inl x ↦ inl (x.0, inr x.1, x.2)
    | inr x ↦ inr (λ q m h. elim m [ inl y ↦ n (subst (λ r. Holds r page) y h) | inr y ↦ x q y h ])
  ]
]

-- ---- what lies where

module _ {chain : List Piece} {a : Space} {first last begin end : ℕ} (c : Carving a first last chain begin end) where
  -- a piece in use lies before the free piece or behind it, so it stays
  pub used_apart : (q : Piece) → IsIn q a.pieces → q.state ≢ Free → (q.last < first) ⊎ (last < q.first)
  used_apart q m n =
      let v = in_le 1 (free_piece first last) a.pieces c.space.ordered c.there in
      is_apart q first last (in_le 1 q a.pieces c.space.ordered m).1 v.1
      (λ page h x y. in_other q a.pieces page Free c.space.ordered m (was_free c page x y) n h)

  pub used_stays : (q : Piece) → IsIn q a.pieces → q.state ≢ Free → IsIn q (with_pieces chain a.pieces)
  used_stays q m n = apart_stays c q m (elim (used_apart q m n) [ inl h ↦ inl (omega arith) | inr h ↦ inr (omega arith) ])

  -- a page of one of them is in its state
  pub chain_state : (q : Piece) → IsIn q chain → (page : ℕ) → Holds q page → state_at (with_pieces chain a.pieces) page ≡ Some q.state
  chain_state q m page h = in_state 1 q (with_pieces chain a.pieces) page (carved_space c).ordered (chain_there c q m) h.0 h.1

  -- the other pages of the free piece are free
  pub left_free : (page : ℕ) → first ≤ page → page ≤ last → (page < begin) ⊎ (end ≤ page)
      → state_at (with_pieces chain a.pieces) page ≡ Some Free
  left_free page h l out =
      untouched c page (λ q m k. let f = follow_in begin chain end c.follow q m in omega (arith, out)) ∙ was_free c page h l

  -- and no page is free now that wasn't
  pub free_was : (page : ℕ) → state_at (with_pieces chain a.pieces) page ≡ Some Free → state_at a.pieces page ≡ Some Free
  free_was page e = elim (held chain page) [
    | inl x ↦ absurd ((follow_in begin chain end c.follow x.0 x.1).3 (cc (chain_state x.0 x.1 page x.2)))
    | inr x ↦ sym (untouched c page x) ∙ e
  ]

-- ---- as a space keeps them

-- with what is carved it is a space
pub view_space : {a now : Space} (chain : List Piece) (stock : Option Stock) → IsSpace a → IsCarved a.pieces chain stock
    → with_carved chain a ≡ now → IsSpace now
view_space {a} chain None sp k view = subst (λ v. IsSpace v) view (subst (λ l. IsSpace (with_carved l a)) (sym k) sp)
view_space chain (Some stock) sp k view = subst (λ v. IsSpace v) view (carved_space (carving sp k))

-- the pieces follow on one another
pub follows : (pieces chain : List Piece) (stock : Option Stock) → IsCarved pieces chain stock
    → (from : ℕ) × (end : ℕ) × FollowOn from chain end
follows pieces chain None k = (0, 0, subst (λ l. FollowOn 0 l 0) (sym k) refl)
follows pieces chain (Some stock) k = (k.from, k.end, k.follow)
