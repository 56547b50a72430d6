-- Leaves of memory stand for one page or for 512.
use Rattle.std.proofs.Common.{◌≡◌, ℕ, zero, suc, ◌+◌, ◌-◌, ◌*◌, ◌/◌, ◌%◌, ◌<◌, ◌≤◌, ◌⊎◌, inl, inr, ⊎_elim, Bool, true, false, cond, Option}
use Rattle.std.proofs.Common.{Some, None, IsSome, List, refl, sym, ap, subst, ◌∙◌, arith}
use Rattle.std.proofs.lemmas.Bool.{cases_lt}
use Rattle.std.proofs.lemmas.Bool.Decides.{nat_tests}
use Rattle.std.proofs.lemmas.Option.{none-some, same_Some}
use Rattle.dmatypes.specs.declared.page.TheConstants.{SPAN_PAGES}
use Rattle.vtdbits.specs.Entry.{look}
use Rattle.vtdbits.proofs.Entries.{leaf_looked, large_leaf_looked}
use Rattle.vtdbits.specs.declared.entry.SsEntry.{SsEntry}
use Rattle.vtdbits.specs.declared.entry.SsEntry.TheVariants.{Absent, Table, Leaf, LargeLeaf}
use Rattle.tables.specs.Tree.{LeafEntry, span, index_in, leaf_of, leaf_from, is_large_leaf}
use Rattle.tables.specs.Pool.{Pool, word, memory}
use Rattle.tables.specs.Changes.{UnmapsPages}
use Rattle.tables.specs.Lacks.{splits_leaf}
use Rattle.tables.specs.Extents.{extent_splits}
use Rattle.tables.proofs.walks.Near.{near_leaf, near_at}
use Rattle.tables.proofs.walks.Steps.{leaf-suc, leaf-zero, div_span_one}
use Rattle.tables.proofs.sums.OverSpans.{splitting_covered, splitting_else}
use Rattle.tables.proofs.unmaps.SplitLeaf.{leaves_splitting_whole, leaves_splitting_part}
use Rattle.tables.proofs.walks.Words.{memory_at}

size_by : (words : List ℕ) (l t p : ℕ) (x : LeafEntry) (e : SsEntry) → look (suc l) (word words t (index_in l p)) ≡ e
    → ((c : ℕ) → leaf_from (memory words) l c p ≡ Some x → x.size < 2) → leaf_of e l (λ c. leaf_from (memory words) l c p) ≡ Some x
    → x.size < 2
size_by words l t p x Absent is below h = absurd (none-some x h)
size_by words l t p x (Table c) is below h = below c h
size_by words l t p x (Leaf y) is below h =
    let s = leaf_looked (suc l) (word words t (index_in l p)) y is in
    let size : l ≡ x.size = ap (λ (z : LeafEntry). z.size) (same_Some (record { size = l; frame = y.frame; rights = y.rights }) x h) in
    omega (arith, s.0)
size_by words l t p x (LargeLeaf y) is below h =
    let s = large_leaf_looked (suc l) (word words t (index_in l p)) y is in
    let size : l ≡ x.size = ap (λ (z : LeafEntry). z.size) (same_Some (record { size = l; frame = y.frame; rights = y.rights }) x h) in
    omega (arith, s.0)

-- no walk meets a leaf of more than 512 pages
pub leaf_size : (words : List ℕ) (l t p : ℕ) (x : LeafEntry) → leaf_from (memory words) l t p ≡ Some x → x.size < 2
leaf_size words zero t p x h = absurd (none-some x (sym (leaf-zero (memory words) t p) ∙ h))
leaf_size words (suc l) t p x h =
    size_by words l t p x (look (suc l) (word words t (index_in l p))) refl (λ c k. leaf_size words l c p x k)
    (ap (λ e. leaf_of e l (λ c. leaf_from (memory words) l c p)) (sym (memory_at words (suc l) t (index_in l p)))
    ∙ sym (leaf-suc (memory words) l t p) ∙ h)

large_is : (x : LeafEntry) → 0 < x.size → is_large_leaf (Some x) ≡ true
large_is x h = grind (arith, nat_tests)

large_not : (x : LeafEntry) → x.size ≤ 0 → is_large_leaf (Some x) ≡ false
large_not x h = grind (arith, nat_tests)

one_large : (words : List ℕ) (l t p q : ℕ) (o : Option LeafEntry) → p / span 1 ≡ q / span 1 → leaf_from (memory words) l t p ≡ o
    → is_large_leaf o ≡ true → is_large_leaf (leaf_from (memory words) l t q) ≡ true
one_large words l t p q None near h large = cc
one_large words l t p q (Some x) near h large =
    let size : x.size ≡ 1 = (let some : 0 < x.size = grind (arith, nat_tests) in omega (arith, leaf_size words l t p x h)) in
    ap is_large_leaf (near_leaf (memory words) l t p q x (subst (λ v. p / span v ≡ q / span v) (sym size) near) h) ∙ large

-- the pages of a span of 512 are in a large leaf together
pub same_large : (words : List ℕ) (l t p q : ℕ) → p / span 1 ≡ q / span 1
    → is_large_leaf (leaf_from (memory words) l t p) ≡ is_large_leaf (leaf_from (memory words) l t q)
same_large words l t p q near =
    by_both (is_large_leaf (leaf_from (memory words) l t p)) (is_large_leaf (leaf_from (memory words) l t q)) refl refl
  where
    by_both : (a b : Bool) → is_large_leaf (leaf_from (memory words) l t p) ≡ a → is_large_leaf (leaf_from (memory words) l t q) ≡ b → a ≡ b
    by_both true b x y = sym (one_large words l t p q (leaf_from (memory words) l t p) near refl x) ∙ y
    by_both false true x y = sym x ∙ one_large words l t q p (leaf_from (memory words) l t q) (sym near) refl y
    by_both false false x y = refl

-- a leaf behind pages that were unmapped up to an edge is as it was
pub leaf_ahead : (old cur : Pool) (level root from place : ℕ) (cut : List ℕ) → UnmapsPages old cur level root from place cut
    → ((place % SPAN_PAGES ≡ 0) ⊎ (place ≡ from)) → place / span level ≡ from / span level
    → IsSome (leaf_from (memory old.words) level root place)
    → leaf_from (memory cur.words) level root place ≡ leaf_from (memory old.words) level root place
leaf_ahead old cur level root from place cut un edge wide there = by_leaf (leaf_from (memory old.words) level root place) refl there
  where
    far : (x : LeafEntry) → x.size < 2 → (q : ℕ) → from ≤ q → q < place → place / span x.size ≡ q / span x.size → ⊥
    far x size q low high e =
        ⊎_elim
        (λ (even : place % SPAN_PAGES ≡ 0).
        let wider : place / span 1 ≡ q / span 1 = near_at x.size 1 place q (omega arith) e in
        let near : place / SPAN_PAGES ≡ q / SPAN_PAGES = sym (div_span_one place) ∙ wider ∙ div_span_one q in
        omega arith)
        (λ (here : place ≡ from). omega arith)
        edge

    by_leaf : (o : Option LeafEntry) → leaf_from (memory old.words) level root place ≡ o → IsSome o
        → leaf_from (memory cur.words) level root place ≡ o
    by_leaf None e h = cc
    by_leaf (Some x) e h = un.leaves place x wide e (far x (leaf_size old.words level root place x e))

-- what an extent splits is what its span splits of the whole
pub extent_is : (old cur : Pool) (level root from to place next : ℕ) → from ≤ place → place < next → next ≤ to
    → place / SPAN_PAGES ≡ (next - 1) / SPAN_PAGES → ((place % SPAN_PAGES ≡ 0) ⊎ (place ≡ from)) → ((next % SPAN_PAGES ≡ 0) ⊎ (next ≡ to))
    → leaf_from (memory cur.words) level root place ≡ leaf_from (memory old.words) level root place
    → extent_splits (memory cur.words) level root place next
    ≡ splits_leaf (memory old.words) level root from to (place / SPAN_PAGES * SPAN_PAGES)
extent_is old cur level root from to place next low some high one edge end same =
    ⊎_elim
    (λ (part : next - place < SPAN_PAGES).
    leaves_splitting_part (memory cur.words) level root place next part
    ∙ ap (λ o. cond (is_large_leaf o) 1 0) same
    ∙ ap (λ (b : Bool). cond b 1 0) (same_large old.words level root place (place / SPAN_PAGES * SPAN_PAGES)
    (div_span_one place ∙ (let e : place / SPAN_PAGES ≡ place / SPAN_PAGES * SPAN_PAGES / SPAN_PAGES = omega arith in e)
    ∙ sym (div_span_one (place / SPAN_PAGES * SPAN_PAGES))))
    ∙ sym
    (splitting_else (memory old.words) level root from to (place / SPAN_PAGES * SPAN_PAGES)
    (opened from to place next low some high one part edge end)))
    (λ (whole : SPAN_PAGES ≤ next - place).
    leaves_splitting_whole (memory cur.words) level root place next whole
    ∙ sym (splitting_covered (memory old.words) level root from to (place / SPAN_PAGES * SPAN_PAGES) (omega arith) (omega arith)))
    (cases_lt (next - place) SPAN_PAGES)
  where
    opened : (from to place next : ℕ) → from ≤ place → place < next → next ≤ to → place / SPAN_PAGES ≡ (next - 1) / SPAN_PAGES
        → next - place < SPAN_PAGES → ((place % SPAN_PAGES ≡ 0) ⊎ (place ≡ from)) → ((next % SPAN_PAGES ≡ 0) ⊎ (next ≡ to))
        → (place / SPAN_PAGES * SPAN_PAGES < from) ⊎ (to < place / SPAN_PAGES * SPAN_PAGES + SPAN_PAGES)
    opened from to place next low some high one part (inl even) (inl stop) = absurd (omega arith)
    opened from to place next low some high one part (inl even) (inr stop) = inr (omega arith)
    opened from to place next low some high one part (inr here) end =
        ⊎_elim (λ (h : place / SPAN_PAGES * SPAN_PAGES < from). inl h)
        (λ (h : from ≤ place / SPAN_PAGES * SPAN_PAGES). by_end end (omega arith)) (cases_lt (place / SPAN_PAGES * SPAN_PAGES) from)
      where
        by_end : ((next % SPAN_PAGES ≡ 0) ⊎ (next ≡ to)) → place % SPAN_PAGES ≡ 0
            → (place / SPAN_PAGES * SPAN_PAGES < from) ⊎ (to < place / SPAN_PAGES * SPAN_PAGES + SPAN_PAGES)
        by_end (inl stop) even = absurd (omega arith)
        by_end (inr stop) even = inr (omega arith)
