-- A tree is low, and has the pieces that its look-ups give.
use Rattle.piece_tree.proofs.Names.{◌≡◌, ℕ, zero, suc, ◌+◌, ◌<◌, ◌≤◌, length, [], Option, refl, ap, ◌∙◌, inl, inr, ◌⊎◌, arith}
use Rattle.piece_tree.proofs.Names.{length-append, leb_tells, Slab, get, Node, Top, Look, Shape, Empty, Fork, items, height_of, root_of}
use Rattle.piece_tree.proofs.Names.{top_of, Stands, contents, pieces_of, IsWhole, AreSorted, List, Piece, sym}

pub order : (a b : ℕ) → (a ≤ b) ⊎ (b < a)
order a b = elim (leb_tells a b) [ inl h ↦ inl h.1 | inr h ↦ inr h.1 ]

-- the fewest nodes of a balanced tree so high
abbrev least : ℕ → ℕ
least zero = 0
least (suc zero) = 1
least (suc (suc n)) = least (suc n) + least n + 1

tall_least : (look : Look) (n : ℕ) (t : Shape) → Stands look t → n ≤ height_of t → least n ≤ length (items t)
tall_least look zero t s h = omega arith
tall_least look (suc zero) Empty s h = absurd (omega arith)
tall_least look (suc zero) (Fork k p l r) s h = omega (arith, length-append {A = Piece})
tall_least look (suc (suc n)) Empty s h = absurd (omega arith)
tall_least look (suc (suc n)) (Fork k p l r) s h =
    elim (order (height_of l) (height_of r)) [
      | inl x ↦
          let c = tall_least look n l s.3 (omega (arith, s.2)) in
          let d = tall_least look (suc n) r s.4 (omega (arith, s.2)) in
          omega (arith, length-append {A = Piece})
      | inr x ↦
          let c = tall_least look (suc n) l s.3 (omega (arith, s.2)) in
          let d = tall_least look n r s.4 (omega (arith, s.2)) in
          omega (arith, length-append {A = Piece})
    ]

pub low_tree : (look : Look) (t : Shape) → Stands look t → length (items t) ≤ 1024 → height_of t ≤ 14
low_tree look t s h =
    elim (order (height_of t) 14) [
      | inl x ↦ x
      | inr x ↦ let e : 1596 ≤ length (items t) = tall_least look 15 t s x in absurd (omega arith)
    ]

pub contents_is : (look : Look) (depth : ℕ) (root : Option ℕ) (t : Shape) → root ≡ root_of t → Stands look t → height_of t ≤ depth
    → contents look depth root ≡ items t
unfolding contents
contents_is look zero root Empty e s h = refl
contents_is look zero root (Fork k p l r) e s h = absurd (omega arith)
contents_is look (suc depth) root Empty e s h = rw e
contents_is look (suc depth) root (Fork k p l r) e s h =
    rw (e, s.0, contents_is look depth (root_of l) l refl s.3 (omega arith), contents_is look depth (root_of r) r refl s.4 (omega arith))

-- what is kept is what is seen
pub whole_view : {nodes : Slab Node} {root : Top} {t : Shape} → IsWhole nodes root t → pieces_of nodes root ≡ items t
whole_view {nodes} {root} {t} w = contents_is (get nodes) 14 root.root t (ap (λ (v : Top). v.root) w.here) w.stands w.low

pub view_sorted : {nodes : Slab Node} {root : Top} {t : Shape} {view : List Piece} → IsWhole nodes root t → pieces_of nodes root ≡ view
    → AreSorted 0 view
view_sorted w e = rw (sym e ∙ whole_view w) w.sorted

pub none_view : (nodes : Slab Node) → pieces_of nodes (top_of Empty) ≡ []
unfolding contents
none_view nodes = refl
