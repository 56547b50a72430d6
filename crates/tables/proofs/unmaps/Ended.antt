-- What a whole unmap says of the entries of its tree.
use Rattle.std.proofs.Common.{◌≡◌, ℕ, ◌+◌, ◌*◌, ◌/◌, ◌%◌, ◌<◌, ◌≤◌, ◌⊎◌, inl, inr, ⊎_elim, Bool, true, cond, Some, List, sym, ap, subst}
use Rattle.std.proofs.Common.{◌∙◌, arith}
use Rattle.std.proofs.Math.Nat.{mod-lt}
use Rattle.std.proofs.lemmas.Nat.{div-add-mod'}
use Rattle.std.proofs.lemmas.Bool.{cases_lt}
use Rattle.std.proofs.lemmas.Bool.Decides.{nat_tests}
use Rattle.dmatypes.specs.declared.page.TheConstants.{SPAN_PAGES}
use Rattle.tables.specs.Tree.{LeafEntry, span, leaf_from, table_from, is_large_leaf, IsLeafAt, IsTableAt}
use Rattle.tables.specs.Pool.{Pool, memory, occurs}
use Rattle.tables.specs.Changes.{UnmapsPages}
use Rattle.tables.specs.Lacks.{splits_leaf, leaves_splitting}
use Rattle.tables.proofs.pools.Kept.{same_root, leaf_inside}
use Rattle.tables.proofs.walks.Near.{near_table, div_within, span_pos}
use Rattle.tables.proofs.walks.Sizes.{leaf_size, same_large}
use Rattle.tables.proofs.walks.Steps.{div_span_one, div_span_zero, span-one}
use Rattle.tables.proofs.sums.OverSpans.{none_split, splitting_else}

-- a page of a leaf's span is one of its pages
in_leaf : (j first p q : ℕ) → first % span j ≡ 0 → first ≤ p → p < first + span j → p / span j ≡ q / span j
    → (first ≤ q) × (q < first + span j)
in_leaf j first p q aligned low high e =
    let at : p / span j ≡ first / span j = div_within first p (span j) (span_pos j) aligned low high in
    around first q (span j) (span_pos j) aligned (sym e ∙ at)
  where
    around : (first q n : ℕ) → 0 < n → first % n ≡ 0 → q / n ≡ first / n → (first ≤ q) × (q < first + n)
    around first q n pos aligned same =
        let a : first / n * n + first % n ≡ first = div-add-mod' first n in
        let b : q / n * n + q % n ≡ q = div-add-mod' q n in
        let c : q % n < n = mod-lt q pos in
        let d : q / n * n ≡ first / n * n = ap (λ (x : ℕ). x * n) same in
        (omega arith, omega arith)

-- a leaf entry apart from the pages stays
pub unmap_leaves : (old new : Pool) (level root from to : ℕ) (cut : List ℕ) → 1 ≤ level → from < span level
    → UnmapsPages old new level root from to cut → (first pages frame rights : ℕ)
    → IsLeafAt (memory old.words) level root first pages frame rights → (first + pages ≤ from) ⊎ (to ≤ first)
    → IsLeafAt (memory new.words) level root first pages frame rights
unmap_leaves old new level root from to cut some within un first pages frame rights (j, leaf) apart = (
  j,
  (
    leaf.0,
    leaf.1,
    leaf.2,
    leaf.3,
    λ p low high.
        let reach : p < first + span j = omega (arith, high, leaf.1) in
        let inside : p / span level ≡ from / span level =
        leaf_inside level j first p some leaf.0 leaf.2 low reach ∙ same_root level first from leaf.3 within in
        un.leaves p (record { size = j; frame = frame; rights = rights }) inside (leaf.4 p low high)
        (λ q q_low q_high e.
        let around = in_leaf j first p q leaf.2 low reach e in none first (omega (arith, leaf.1)) apart q q_low q_high around.0 around.1),
  ),
)
  where
    none : (first : ℕ) → first + pages ≡ first + span j → (first + pages ≤ from) ⊎ (to ≤ first) → (q : ℕ) → from ≤ q → q < to → first ≤ q
        → q < first + span j → ⊥
    none first e (inl h) q low high a b = omega arith
    none first e (inr h) q low high a b = omega arith

-- a table entry stays, or its table was cut
pub unmap_tables : (old new : Pool) (height root from to : ℕ) (cut : List ℕ) → from < span height
    → UnmapsPages old new height root from to cut
    → (first level table : ℕ) → IsTableAt (memory old.words) height root first level table
    → IsTableAt (memory new.words) height root first level table
    ⊎ ((level ≡ 1) × (from ≤ first) × (first + SPAN_PAGES ≤ to) × (0 < occurs table cut))
unmap_tables old new height root from to cut within un first level table at =
    let start : table_from (memory old.words) height root first level ≡ Some table =
    at.4 first (omega arith) (omega (arith, span_pos level)) in
    ⊎_elim
    (λ (there : table_from (memory new.words) height root first level ≡ Some table).
    inl (
      at.0,
      at.1,
      at.2,
      at.3,
      λ p low high.
          near_table (memory new.words) height root first p level table
          (sym (div_within first p (span level) (span_pos level) at.2 low high)) there,
    ))
    (λ gone.
    let aligned : first % SPAN_PAGES ≡ 0 = ap (λ (n : ℕ). first % n) (sym span-one) ∙ subst (λ (v : ℕ). first % span v ≡ 0) gone.0 at.2 in
    inr (gone.0, omega (arith, gone.1.0), omega (arith, gone.1.1), gone.2))
    (un.tables first level table (same_root height first from at.3 within) start)

-- where none is split, the pages cover each leaf entry that they meet
pub unmap_whole : (old : Pool) (level root from to : ℕ) → leaves_splitting (memory old.words) level root from to ≡ 0
    → (p : ℕ) (x : LeafEntry) → from ≤ p
    → p < to → leaf_from (memory old.words) level root p ≡ Some x → (q : ℕ) → q / span x.size ≡ p / span x.size → (from ≤ q) × (q < to)
unmap_whole old level root from to none p x low high leaf q near = by_size (cases_lt 0 x.size)
  where
    by_size : (0 < x.size) ⊎ (x.size ≤ 0) → (from ≤ q) × (q < to)
    by_size (inr small) =
        let zero_size : x.size ≡ 0 = omega arith in
        let same : q ≡ p = sym (div_span_zero q) ∙ subst (λ v. q / span v ≡ p / span v) zero_size near ∙ div_span_zero p in
        (omega arith, omega arith)
    by_size (inl large) =
        let one : x.size ≡ 1 = omega (arith, leaf_size old.words level root p x leaf) in
        let span_same : q / SPAN_PAGES ≡ p / SPAN_PAGES =
        sym (div_span_one q) ∙ subst (λ v. q / span v ≡ p / span v) one near ∙ div_span_one p in
        let zero_here : splits_leaf (memory old.words) level root from to (p / SPAN_PAGES * SPAN_PAGES) ≡ 0 =
        none_split (memory old.words) level root from to p low high none in
        let is : is_large_leaf (leaf_from (memory old.words) level root (p / SPAN_PAGES * SPAN_PAGES)) ≡ true =
        sym (same_large old.words level root p (p / SPAN_PAGES * SPAN_PAGES)
        (div_span_one p ∙ (let e : p / SPAN_PAGES ≡ p / SPAN_PAGES * SPAN_PAGES / SPAN_PAGES = omega arith in e)
        ∙ sym (div_span_one (p / SPAN_PAGES * SPAN_PAGES)))) ∙ ap is_large_leaf leaf ∙ large_is large in (
          ⊎_elim (λ (early : p / SPAN_PAGES * SPAN_PAGES < from). absurd (not_both (inl early) zero_here is))
              (λ (fine : from ≤ p / SPAN_PAGES * SPAN_PAGES). omega arith) (cases_lt (p / SPAN_PAGES * SPAN_PAGES) from),
          ⊎_elim
              (λ (late : to < p / SPAN_PAGES * SPAN_PAGES + SPAN_PAGES). absurd (not_both (inr late) zero_here is))
              (λ (fine : p / SPAN_PAGES * SPAN_PAGES + SPAN_PAGES ≤ to). omega arith)
              (cases_lt to (p / SPAN_PAGES * SPAN_PAGES + SPAN_PAGES)),
        )
      where
        large_is : 0 < x.size → is_large_leaf (Some x) ≡ true
        large_is h = grind (arith, nat_tests)

        not_both : ((p / SPAN_PAGES * SPAN_PAGES < from) ⊎ (to < p / SPAN_PAGES * SPAN_PAGES + SPAN_PAGES))
            → splits_leaf (memory old.words) level root from to (p / SPAN_PAGES * SPAN_PAGES) ≡ 0
            → is_large_leaf (leaf_from (memory old.words) level root (p / SPAN_PAGES * SPAN_PAGES)) ≡ true → ⊥
        not_both out zero_here is =
            let value =
            splitting_else (memory old.words) level root from to (p / SPAN_PAGES * SPAN_PAGES) out ∙ ap (λ (b : Bool). cond b 1 0) is in
            omega (arith, value, zero_here)
