-- One step of a walk, and of the count of frames.
use Rattle.std.proofs.Common.{◌≡◌, ◌≢◌, ℕ, zero, suc, ◌+◌, ◌-◌, ◌*◌, ◌/◌, ◌%◌, ◌<◌, ◌≤◌, ◌⊎◌, inl, inr, ⊎_elim, cond, eqb, true, false}
use Rattle.std.proofs.Common.{Option, Some, None, refl, sym, ap, subst, ◌∙◌, arith, mul_comm}
use Rattle.std.proofs.Math.Nat.{div-div-eq-div-mul, div-one}
use Rattle.std.proofs.lemmas.Bool.Decides.{nat_tests, eqb_tells}
use Rattle.std.proofs.lemmas.Option.{none-some, same_Some}
use Rattle.dmatypes.specs.declared.page.TheConstants.{SPAN_PAGES}
use Rattle.tables.specs.declared.entries.TheConstants.{TABLE_ENTRIES}
use Rattle.vtdbits.specs.declared.entry.SsEntry.{SsEntry}
use Rattle.vtdbits.specs.declared.entry.SsEntry.TheVariants.{Absent, Table, Leaf, LargeLeaf}
use Rattle.tables.specs.Under.{used_by_entry}
use Rattle.tables.specs.Tree.{Memory, span, index_in, leaf_of, table_of, leaf_from, table_from, sum_below, one_if_same, entry_uses, uses}
use Rattle.tables.proofs.sums.Firsts.{sum_below_part, sum_below_two, sum_below-none}
use Rattle.tables.proofs.sums.OneFrame.{one_if_same-self}
use Rattle.tables.proofs.walks.Onward.{IsBare, deeper, index_lt}
use Rattle.tables.proofs.walks.Agreeing.{root_used, under}

pub leaf-suc : (m : Memory) (l t p : ℕ) → leaf_from m (suc l) t p ≡ leaf_of (m (suc l) t (index_in l p)) l (λ c. leaf_from m l c p)
unfolding leaf_from
leaf-suc m l t p = refl

pub table-suc : (m : Memory) (l t p w : ℕ)
    → table_from m (suc l) t p w ≡ cond (eqb w (suc l)) (Some t) (table_of (m (suc l) t (index_in l p)) (λ c. table_from m l c p w))
unfolding table_from
table-suc m l t p w = refl

-- there is nothing at level 0
pub leaf-zero : (m : Memory) (t p : ℕ) → leaf_from m 0 t p ≡ None
unfolding leaf_from
leaf-zero m t p = refl

pub table-zero : (m : Memory) (t p w : ℕ) → table_from m 0 t p w ≡ None
unfolding table_from
table-zero m t p w = refl

pub uses-suc : (m : Memory) (l t f : ℕ) → uses m (suc l) t f ≡ one_if_same t f + sum_below (used_by_entry m l t f) TABLE_ENTRIES
unfolding uses
uses-suc m l t f = refl

pub same_or_not : (a b : ℕ) → (a ≡ b) ⊎ (a ≢ b)
same_or_not a b = elim (eqb_tells a b) [ inl h ↦ inl h.1 | inr h ↦ inr h.1 ]

-- the leaf under an entry, by what it is
pub leaf_under : (m : Memory) (l t p : ℕ) (e : SsEntry) → m (suc l) t (index_in l p) ≡ e
    → leaf_from m (suc l) t p ≡ leaf_of e l (λ c. leaf_from m l c p)
leaf_under m l t p e is = leaf-suc m l t p ∙ ap (λ x. leaf_of x l (λ c. leaf_from m l c p)) is

-- the table of the level itself, and one below an entry
pub table_top : (m : Memory) (l t p w : ℕ) → w ≡ suc l → table_from m (suc l) t p w ≡ Some t
table_top m l t p w e =
    let yes : eqb w (suc l) ≡ true =
    grind (arith, nat_tests) in
    table-suc m l t p w ∙ ap (λ b. cond b (Some t) (table_of (m (suc l) t (index_in l p)) (λ c. table_from m l c p w))) yes

pub table_under : (m : Memory) (l t p w : ℕ) (e : SsEntry) → w ≢ suc l → m (suc l) t (index_in l p) ≡ e
    → table_from m (suc l) t p w ≡ table_of e (λ c. table_from m l c p w)
table_under m l t p w e ne is =
    let no : eqb w (suc l) ≡ false = grind (arith, nat_tests) in
    table-suc m l t p w ∙ ap (λ b. cond b (Some t) (table_of (m (suc l) t (index_in l p)) (λ c. table_from m l c p w))) no
    ∙ ap (λ x. table_of x (λ c. table_from m l c p w)) is

-- no table lies above the one where a walk begins
pub too_high : (m : Memory) (l t p w : ℕ) → l < w → table_from m l t p w ≡ None
too_high m l t p w lt = by_value (table_from m l t p w) refl
  where
    by_value : (o : Option ℕ) → table_from m l t p w ≡ o → o ≡ None
    by_value None e = refl
    by_value (Some c) e = absurd (let le : w ≤ l = deeper m l t p w c e in omega arith)

-- a table is used by itself, beside its entries
pub own_use : (m : Memory) (l t i : ℕ) → i < TABLE_ENTRIES → 1 + used_by_entry m l t t i ≤ uses m (suc l) t t
own_use m l t i inside = omega (arith, uses-suc m l t t, one_if_same-self t, sum_below_part (used_by_entry m l t t) TABLE_ENTRIES i inside)

pub child_use : (m : Memory) (l t f i : ℕ) → i < TABLE_ENTRIES → used_by_entry m l t f i ≤ uses m (suc l) t f
child_use m l t f i inside = omega (arith, uses-suc m l t f, sum_below_part (used_by_entry m l t f) TABLE_ENTRIES i inside)

pub two_uses : (m : Memory) (l t f i j : ℕ) → i < TABLE_ENTRIES → j < TABLE_ENTRIES → j ≢ i
    → used_by_entry m l t f i + used_by_entry m l t f j ≤ uses m (suc l) t f
two_uses m l t f i j a b ne = omega (arith, uses-suc m l t f, sum_below_two (used_by_entry m l t f) TABLE_ENTRIES i j a b ne)

-- what a walk finds is used
pub found_used : (m : Memory) (l t p w c : ℕ) → table_from m l t p w ≡ Some c → 0 < uses m l t c
found_used m zero t p w c found = absurd (none-some c (sym (table-zero m t p w) ∙ found))
found_used m (suc l) t p w c found =
    ⊎_elim
    (λ (top : w ≡ suc l). let same : t ≡ c = same_Some t c (sym (table_top m l t p w top) ∙ found) in
    subst (λ f. 0 < uses m (suc l) t f) same (root_used m l t))
    (λ (lower : w ≢ suc l). by_entry (λ b h. found_used m l b p w c h) (m (suc l) t (index_in l p)) refl
    (sym (table_under m l t p w (m (suc l) t (index_in l p)) lower refl) ∙ found))
    (same_or_not w (suc l))
  where
    by_entry : ((b : ℕ) → table_from m l b p w ≡ Some c → 0 < uses m l b c) → (e : SsEntry) → m (suc l) t (index_in l p) ≡ e
        → table_of e (λ b. table_from m l b p w) ≡ Some c → 0 < uses m (suc l) t c
    by_entry below Absent is h = absurd (none-some c h)
    by_entry below (Table b) is h = under m l t (index_in l p) b c (index_lt l p) is (below b h)
    by_entry below (Leaf s) is h = absurd (none-some c h)
    by_entry below (LargeLeaf s) is h = absurd (none-some c h)

-- a table that a walk finds below the first one is below one that an entry there names
found_under : (m : Memory) (l t p w c : ℕ) → w < suc l → table_from m (suc l) t p w ≡ Some c
    → (b : ℕ) × ((m (suc l) t (index_in l p) ≡ Table b) × (table_from m l b p w ≡ Some c))
found_under m l t p w c lower found =
    by_entry (m (suc l) t (index_in l p)) refl
    (sym (table_under m l t p w (m (suc l) t (index_in l p)) (λ e. omega arith) refl) ∙ found)
  where
    by_entry : (e : SsEntry) → m (suc l) t (index_in l p) ≡ e → table_of e (λ b. table_from m l b p w) ≡ Some c
        → (b : ℕ) × ((m (suc l) t (index_in l p) ≡ Table b) × (table_from m l b p w ≡ Some c))
    by_entry Absent is h = absurd (none-some c h)
    by_entry (Table b) is h = (b, (is, h))
    by_entry (Leaf s) is h = absurd (none-some c h)
    by_entry (LargeLeaf s) is h = absurd (none-some c h)

pub found_below : (m : Memory) (level t p w c : ℕ) → w < level → table_from m level t p w ≡ Some c
    → (b : ℕ) × ((m level t (index_in (level - 1) p) ≡ Table b) × (table_from m (level - 1) b p w ≡ Some c))
found_below m level t p w c lower found =
    let up : level ≡ suc (level - 1) = omega arith in
    subst
    (λ v. table_from m v t p w ≡ Some c
    → (b : ℕ) × ((m v t (index_in (level - 1) p) ≡ Table b) × (table_from m (level - 1) b p w ≡ Some c)))
    (sym up) (found_under m (level - 1) t p w c (omega arith)) found

-- a bare table uses itself alone
pub uses-bare : (m : Memory) (l t f : ℕ) → IsBare m t → uses m (suc l) t f ≡ one_if_same t f
uses-bare m l t f bare =
    let none : sum_below (used_by_entry m l t f) TABLE_ENTRIES ≡ 0 =
    sum_below-none (used_by_entry m l t f) TABLE_ENTRIES (λ j lt. ap (λ e. entry_uses e (λ c. uses m l c f)) (bare (suc l) j lt)) in
    omega (arith, uses-suc m l t f)

-- and so does a table of level 1
pub uses-one : (m : Memory) (t f : ℕ) → uses m 1 t f ≡ one_if_same t f
unfolding uses
uses-one m t f =
    let none : sum_below (used_by_entry m 0 t f) TABLE_ENTRIES ≡ 0 =
    sum_below-none (used_by_entry m 0 t f) TABLE_ENTRIES (λ j lt. by_entry (m 1 t j)) in
    omega (arith, uses-suc m 0 t f)
  where
    by_entry : (e : SsEntry) → entry_uses e (λ c. uses m 0 c f) ≡ 0
    by_entry Absent = refl
    by_entry (Table c) = refl
    by_entry (Leaf s) = refl
    by_entry (LargeLeaf s) = refl

-- ---- spans

pub span-suc : (l : ℕ) → span (suc l) ≡ TABLE_ENTRIES * span l
unfolding span
span-suc l = refl

pub span-zero : span 0 ≡ 1
unfolding span
span-zero = refl

pub span-one : span 1 ≡ SPAN_PAGES
unfolding span
span-one = refl

pub div_span_zero : (p : ℕ) → p / span 0 ≡ p
div_span_zero p = ap (λ n. p / n) span-zero ∙ div-one p

pub div_span_one : (p : ℕ) → p / span 1 ≡ p / SPAN_PAGES
div_span_one p = ap (λ n. p / n) span-one

pub index-zero : (p : ℕ) → index_in 0 p ≡ p % SPAN_PAGES
index-zero p = ap (λ n. n % TABLE_ENTRIES) (div_span_zero p)

pub div_span-suc : (l p : ℕ) → p / span (suc l) ≡ p / span l / TABLE_ENTRIES
div_span-suc l p = ap (λ n. p / n) (span-suc l ∙ mul_comm TABLE_ENTRIES (span l)) ∙ sym (div-div-eq-div-mul p (span l) TABLE_ENTRIES)

-- pages with one index in one table are in one span of its entries
pub same_span : (l p q : ℕ) → p / span (suc l) ≡ q / span (suc l) → index_in l p ≡ index_in l q → p / span l ≡ q / span l
same_span l p q wide same = omega (arith, div_span-suc l p, div_span-suc l q, wide, same)

pub same_index : (l p q : ℕ) → p / span l ≡ q / span l → index_in l p ≡ index_in l q
same_index l p q e = ap (λ n. n % TABLE_ENTRIES) e

pub wide_span : (l p q : ℕ) → p / span l ≡ q / span l → p / span (suc l) ≡ q / span (suc l)
wide_span l p q e = div_span-suc l p ∙ ap (λ n. n / TABLE_ENTRIES) e ∙ sym (div_span-suc l q)
