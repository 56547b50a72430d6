-- A strict unmap: what its descriptor leaves in the caches doesn't meet the range.
use Rattle.std.proofs.Common.{◌≡◌, ℕ, zero, suc, ◌+◌, ◌-◌, ◌%◌, ◌/◌, ◌^◌, ◌<◌, ◌≤◌, ◌⊎◌, inl, inr, ⊎_elim, Bool, true, false, List, [], ◌∷◌}
use Rattle.dmatypes.specs.declared.width.Width.{Width}
use Rattle.std.proofs.Common.{refl, sym, ap, subst, ◌∙◌, arith}
use Rattle.std.proofs.lemmas.Bool.Decides.{nat_tests}
use Rattle.std.proofs.lemmas.Bool.{cases_lt}
use Rattle.std.specs.Prelude.{◌↔◌, IsTrue}
use Rattle.dmatypes.specs.Block.{Block}
use Rattle.dmatypes.specs.Page.{Range}
use Rattle.tables.specs.Changes.{UnmapsPages}
use Rattle.tables.specs.Pool.{Pool, memory, occurs}
use Rattle.tables.specs.Cut.{Cut}
use Rattle.tables.specs.Tree.{IsLeafAt, IsTableAt, span}
use Rattle.tables.proofs.unmaps.Ended.{unmap_tables, unmap_whole}
use Rattle.tables.proofs.walks.Near.{div_within, span_pos}
use Rattle.tables.proofs.walks.Steps.{span-one, span-zero}
use Rattle.unit.specs.Caches.{CachedLeaf, CachedNonLeaf}
use Rattle.unit.specs.Filters.{drops_leaf, drops_non_leaf}
use Rattle.vtdbits.specs.declared.descriptor.Descriptor.{Descriptor}
use Rattle.vtdbits.specs.declared.descriptor.Descriptor.TheVariants.{IotlbDomain, IotlbPages}
use Rattle.engine.specs.Ending.{IsBlockOf, IsSent, hint_of, leaves_split}
use Rattle.dmatypes.specs.declared.page.TheConstants.{SPAN_ORDER, SPAN_PAGES}
use Rattle.dmatypes.specs.Page.{levels}
use Rattle.vtdbits.specs.declared.number.TheConstants.{MOST_BLOCK_ORDER}

-- ---- one descriptor

-- a leaf in the block is dropped
dropped_within : (d : ℕ) (b : Block) (hint : Bool) (l : CachedLeaf) → l.domain ≡ d → b.first ≤ l.first
    → l.first + l.pages ≤ b.first + 2 ^ b.order → drops_leaf (IotlbPages d b hint) l ≡ false → ⊥
dropped_within d b hint l e low high left = grind (arith, nat_tests)

-- a table that meets the block is dropped where the hint is clear
dropped_meeting : (d : ℕ) (b : Block) (i : CachedNonLeaf) → i.domain ≡ d → i.first < b.first + 2 ^ b.order → b.first < i.first + i.pages
    → drops_non_leaf (IotlbPages d b false) i ≡ false → ⊥
dropped_meeting d b i e low high left = grind (arith, nat_tests)

dropped_leaf : (d : ℕ) (l : CachedLeaf) → l.domain ≡ d → drops_leaf (IotlbDomain d) l ≡ false → ⊥
dropped_leaf d l e left = grind (arith, nat_tests)

dropped_table : (d : ℕ) (i : CachedNonLeaf) → i.domain ≡ d → drops_non_leaf (IotlbDomain d) i ≡ false → ⊥
dropped_table d i e left = grind (arith, nat_tests)

-- ---- what is sent

-- a block that holds the range, and where a leaf was split one of 512 pages
pub record Covers (range : Range) (split : Bool) (b : Block) : Type 0 where
  pub low : b.first ≤ range.first
  pub high : range.first + range.pages ≤ b.first + 2 ^ b.order
  pub large : split ≡ true → (2 ^ b.order ≡ SPAN_PAGES) × (b.first % SPAN_PAGES ≡ 0)

one_span : (n : ℕ) → SPAN_ORDER ≤ n → n ≤ MOST_BLOCK_ORDER → 2 ^ n ≡ SPAN_PAGES
one_span n low high = let is : n ≡ SPAN_ORDER = omega arith in rw is refl

covers : (range : Range) (split : Bool) (b : Block) → 1 ≤ range.pages → IsBlockOf range split b → b.order ≤ MOST_BLOCK_ORDER
    → Covers range split b
covers range split b some is small = record {
  low = (is.holds range.first (omega arith, omega (arith, some))).0;
  high = (let last = is.holds (range.first + range.pages - 1) (omega (arith, some), omega (arith, some)) in omega (arith, last.1, some));
  large = λ yes. let size = one_span b.order (is.wide (rw yes refl)) small in (size, subst (λ n. b.first % n ≡ 0) size is.aligned);
}

-- the descriptor is one for the domain, or one for a block that covers the range
pub sent_covers : (d : ℕ) (range : Range) (cut : Cut) (x : Descriptor) → 1 ≤ range.pages → IsSent d range cut x
    → (x ≡ IotlbDomain d) ⊎ ((b : Block) × (x ≡ IotlbPages d b (hint_of cut)) × Covers range cut.split b)
sent_covers d range cut x some sent = elim sent.2 [
  | inl pages ↦ inr (sent.0, pages.1, covers range cut.split sent.0 some sent.1 pages.0)
  | inr domain ↦ inl domain.1
]

-- ---- leaves

-- where a leaf entry meets the range, the block holds all of it
in_block : (range : Range) (split : Bool) (b : Block) (l : CachedLeaf) (j : ℕ) (whole : Bool) → split ≡ whole → Covers range split b → j < 2
    → l.pages ≡ span j → l.first % span j ≡ 0 → (split ≡ false → (range.first ≤ l.first) × (l.first + l.pages ≤ range.first + range.pages))
    → l.first < range.first + range.pages → range.first < l.first + l.pages
    → (b.first ≤ l.first) × (l.first + l.pages ≤ b.first + 2 ^ b.order)
in_block range split b l j false e c small pages even covered lt gt =
    let k = covered e in (omega (arith, k.0, c.low), omega (arith, k.1, c.high))
in_block range split b l zero true e c small pages even covered lt gt =
    let one : l.pages ≡ 1 = pages ∙ span-zero in (omega (arith, c.low, one), omega (arith, c.high, one))
in_block range split b l (suc zero) true e c small pages even covered lt gt =
    let size = (c.large e).0 in
    let base = (c.large e).1 in
    let many : l.pages ≡ SPAN_PAGES = pages ∙ span-one in
    let aligned : l.first % SPAN_PAGES ≡ 0 = subst (λ (n : ℕ). l.first % n ≡ 0) span-one even in (
      inside_low b.first l.first range.first range.pages (omega (arith, c.high, size)) base aligned c.low (omega (arith, gt, many)),
      inside_high b.first l.first (2 ^ b.order) range.first range.pages size base aligned c.high lt many,
    )
  where
    inside_low : (b f s n : ℕ) → s + n ≤ b + SPAN_PAGES → b % SPAN_PAGES ≡ 0 → f % SPAN_PAGES ≡ 0 → b ≤ s → s < f + SPAN_PAGES → b ≤ f
    inside_low b f s n high base aligned low gt = omega arith

    inside_high : (b f k s n : ℕ) → k ≡ SPAN_PAGES → b % SPAN_PAGES ≡ 0 → f % SPAN_PAGES ≡ 0 → s + n ≤ b + k → f < s + n
        → l.pages ≡ SPAN_PAGES → f + l.pages ≤ b + k
    inside_high b f k s n size base aligned high lt many = omega arith
in_block range split b l (suc (suc j)) true e c small pages even covered lt gt = absurd (omega (arith, small))

-- a leaf entry is covered where none was split and they meet
leaf_covered : (old : Pool) (width : Width) (root : ℕ) (range : Range) (l : CachedLeaf) → 1 ≤ range.pages
    → leaves_split old width root range ≡ 0
    → IsLeafAt (memory old.words) (levels width) root l.first l.pages l.frame l.rights → l.first < range.first + range.pages
    → range.first < l.first + l.pages → (range.first ≤ l.first) × (l.first + l.pages ≤ range.first + range.pages)
leaf_covered old width root range l some none (j, at) lt gt = by_page (cases_lt l.first range.first)
  where
    pos : 0 < span j
    pos = span_pos j

    whole : (p : ℕ) → range.first ≤ p → p < range.first + range.pages → l.first ≤ p → p < l.first + l.pages → (q : ℕ) → l.first ≤ q
        → q < l.first + l.pages → (range.first ≤ q) × (q < range.first + range.pages)
    whole p low high above below q q_above q_below =
        unmap_whole old (levels width) root range.first (range.first + range.pages) none p
        (record { size = j; frame = l.frame; rights = l.rights })
        low
        high (at.4 p above below) q
        (same_part l.first q p (span j) pos at.2 q_above (omega (arith, q_below, at.1)) above (omega (arith, below, at.1)))
      where
        same_part : (f a b n : ℕ) → 0 < n → f % n ≡ 0 → f ≤ a → a < f + n → f ≤ b → b < f + n → a / n ≡ b / n
        same_part f a b n some even low high low' high' = div_within f a n some even low high ∙ sym (div_within f b n some even low' high')

    around : (p : ℕ) → range.first ≤ p → p < range.first + range.pages → l.first ≤ p → p < l.first + l.pages
        → (range.first ≤ l.first) × (l.first + l.pages ≤ range.first + range.pages)
    around p low high above below =
        let first = whole p low high above below l.first (omega arith) (omega (arith, at.1, pos)) in
        let last = whole p low high above below (l.first + l.pages - 1) (omega (arith, at.1, pos)) (omega (arith, at.1, pos)) in
        (first.0, omega (arith, last.1, at.1, pos))

    by_page : (l.first < range.first) ⊎ (range.first ≤ l.first) → (range.first ≤ l.first) × (l.first + l.pages ≤ range.first + range.pages)
    by_page (inl before) = around range.first (omega arith) (omega (arith, some)) (omega (arith, before)) gt
    by_page (inr after) = around l.first after lt (omega arith) (omega (arith, at.1, pos))

none_of : (n : ℕ) (b : Bool) → (b ≡ true → 0 < n) → (0 < n → b ≡ true) → b ≡ false → n ≡ 0
none_of zero b to from e = refl
none_of (suc n) b to from e = let yes : b ≡ true = from (omega arith) in absurd (both e yes)
  where
    both : b ≡ false → b ≡ true → ⊥
    both low high = let clash : true ≡ false = sym high ∙ low in cc

module _ (old new : Pool) (width : Width) (root d : ℕ) (range : Range) (cut : Cut) (x : Descriptor) (some : 1 ≤ range.pages)
    (sent : IsSent d range cut x) (split : IsTrue cut.split ↔ (0 < leaves_split old width root range)) where
  meets : (l : CachedLeaf) → l.domain ≡ d → drops_leaf x l ≡ false
      → IsLeafAt (memory old.words) (levels width) root l.first l.pages l.frame l.rights
      → l.first < range.first + range.pages → range.first < l.first + l.pages → ⊥
  meets l here left at lt gt = elim (sent_covers d range cut x some sent) [
    | inl all ↦ dropped_leaf d l here (ap (λ y. drops_leaf y l) (sym all) ∙ left)
    | inr block ↦
        let inside = in_block range cut.split block.0 l at.0 cut.split refl block.2 at.1.0 at.1.1 at.1.2
        (λ e. leaf_covered old width root range l some (none_of (leaves_split old width root range) cut.split split.0 split.1 e) at lt gt)
        lt gt in
        dropped_within d block.0 (hint_of cut) l here inside.0 inside.1 (ap (λ y. drops_leaf y l) (sym block.1) ∙ left)
  ]

  -- a leaf entry of a cached leaf that the descriptor leaves is apart from the range
  pub strict_apart : (l : CachedLeaf) → l.domain ≡ d → drops_leaf x l ≡ false
      → IsLeafAt (memory old.words) (levels width) root l.first l.pages l.frame l.rights
      → (l.first + l.pages ≤ range.first) ⊎ (range.first + range.pages ≤ l.first)
  strict_apart l here left at =
      ⊎_elim
      (λ (lt : l.first < range.first + range.pages).
      ⊎_elim (λ (gt : range.first < l.first + l.pages). absurd (meets l here left at lt gt))
      (λ (over : l.first + l.pages ≤ range.first). inl over) (cases_lt range.first (l.first + l.pages)))
      (λ (over : range.first + range.pages ≤ l.first). inr over) (cases_lt l.first (range.first + range.pages))

  -- ---- tables

  hint_clear : (c : ℕ) (fs : List ℕ) (b : Bool) → 0 < occurs c fs → hint_of (record { frames = fs; split = b }) ≡ false
  hint_clear c [] b held = absurd (omega (arith, held))
  hint_clear c (f ∷ fs) b held = refl

  table_left : (b : Block) (i : CachedNonLeaf) → i.domain ≡ d → Covers range cut.split b → 0 < occurs i.frame cut.frames → 0 < i.pages
      → range.first ≤ i.first → i.first + i.pages ≤ range.first + range.pages → drops_non_leaf (IotlbPages d b (hint_of cut)) i ≡ false → ⊥
  table_left b i here c held pages low high left =
      dropped_meeting d b i here (omega (arith, c.high, high, pages)) (omega (arith, c.low, low, pages))
      (ap (λ h. drops_non_leaf (IotlbPages d b h) i) (sym (hint_clear i.frame cut.frames cut.split held)) ∙ left)

  -- a cached table that the descriptor leaves wasn't cut
  pub strict_table : range.first < span (levels width) → UnmapsPages old new (levels width) root range.first (range.first + range.pages)
      cut.frames
      → (i : CachedNonLeaf)
      → i.domain ≡ d → i.pages ≡ span i.level → drops_non_leaf x i ≡ false
      → IsTableAt (memory old.words) (levels width) root i.first i.level i.frame
      → IsTableAt (memory new.words) (levels width) root i.first i.level i.frame
  strict_table within un i here pages left at =
      elim (unmap_tables old new (levels width) root range.first (range.first + range.pages)
      cut.frames within un i.first i.level i.frame at) [
        | inl stays ↦ stays
        | inr gone ↦
            let one : i.pages ≡ SPAN_PAGES = pages ∙ ap span gone.0 ∙ span-one in
            elim (sent_covers d range cut x some sent) [
              | inl all ↦ absurd (dropped_table d i here (ap (λ y. drops_non_leaf y i) (sym all) ∙ left))
              | inr block ↦
                  absurd (table_left block.0 i here block.2 gone.3 (omega (arith, one)) gone.1 (omega (arith, gone.2, one))
                  (ap (λ y. drops_non_leaf y i) (sym block.1) ∙ left))
            ]
      ]
