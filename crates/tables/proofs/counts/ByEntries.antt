-- The tables that are lacking, by spans and by entries.
use Rattle.std.proofs.Common.{◌≡◌, ℕ, zero, suc, ◌+◌, ◌-◌, ◌*◌, ◌/◌, ◌%◌, ◌<◌, ◌≤◌, ⊎_elim, Bool, true, false, cond, eqb, ◌&&◌, Option}
use Rattle.std.proofs.Common.{Some, None, refl, sym, ap, subst, ◌∙◌, arith}
use Rattle.std.proofs.Math.Nat.{div-mul-le_self, lt-div-mul-add, mul-le-mul_right, add-mul, mul_assoc}
use Rattle.std.proofs.lemmas.Nat.{div-mul-add, le-div}
use Rattle.std.proofs.lemmas.Bool.{cases_lt}
use Rattle.std.proofs.lemmas.Bool.Decides.{nat_tests}
use Rattle.std.proofs.lemmas.Option.{none-some}
use Rattle.dmatypes.specs.declared.page.TheConstants.{SPAN_PAGES}
use Rattle.tables.specs.declared.entries.TheConstants.{TABLE_ENTRIES}
use Rattle.vtdbits.specs.declared.entry.SsEntry.{SsEntry}
use Rattle.vtdbits.specs.declared.entry.SsEntry.TheVariants.{Absent, Table, Leaf, LargeLeaf}
use Rattle.tables.specs.Tree.{Memory, LeafEntry, span, index_in, leaf_of, table_of, leaf_from, table_from, stated, states, sum_below}
use Rattle.tables.specs.Lacks.{lacks_table, tables_lacking, sum_spans}
use Rattle.tables.specs.ByEntries.{is_met, own_lack, entry_below, entry_lacks}
use Rattle.tables.proofs.sums.Firsts.{sum_below_same, sum_below-suc, sum_below-zero, sum_below-none}
use Rattle.tables.proofs.walks.Near.{span_pos}
use Rattle.tables.proofs.walks.Steps.{span-suc, span-zero, leaf-suc, table_top, table_under, div_span-suc}
use Rattle.tables.proofs.counts.OnePage.{lacking_by, lacking_is}
use Rattle.tables.proofs.sums.OverSpans.{one_more_mul}
use Rattle.tables.proofs.counts.ByExtents.{lacks-is}
use Rattle.tables.proofs.sums.Blocks.{is_met-yes, met_spans, met_spans_same, met_one, among_spans}
use Rattle.tables.proofs.sums.Blocks.{unmet_spans, span_in, spans_below, sum_below_swap}

-- what a page's span of a level lacks, under an entry that could name a table of a level
below_lacks : Memory → ℕ → SsEntry → (ℕ → Bool) → ℕ → ℕ → ℕ
below_lacks m l e large w p = lacking_by (table_of e (λ c. table_from m l c p w)) w (large p)

below_lacks-is : (m : Memory) (l : ℕ) (e : SsEntry) (large : ℕ → Bool) (w p : ℕ)
    → below_lacks m l e large w p ≡ lacking_by (table_of e (λ c. table_from m l c p w)) w (large p)
unfolding below_lacks
below_lacks-is m l e large w p = refl

-- the same as a sum over the spans of a level in the entry's own
level_lacks : Memory → ℕ → SsEntry → (ℕ → Bool) → ℕ → ℕ → ℕ → ℕ → ℕ
level_lacks m l e large from to first v = met_spans (below_lacks m l e large (v + 1)) (v + 1) from to first (span (l - (v + 1)))

-- no leaf lies under the entry for a page
MeetsNone : Memory → ℕ → SsEntry → ℕ → Type 0
MeetsNone m l e p = leaf_of e l (λ c. leaf_from m l c p) ≡ None

-- ---- one step down

step_clear : (m : Memory) (l p : ℕ) (e : SsEntry) → MeetsNone m (suc l) e p
    → MeetsNone m l (entry_below e (λ c. m (suc l) c (index_in l p))) p
unfolding MeetsNone
step_clear m l p Absent h = refl
step_clear m l p (Table c) h = sym (leaf-suc m l c p) ∙ h
step_clear m l p (Leaf t) h = refl
step_clear m l p (LargeLeaf t) h = refl

step_way : (m : Memory) (l p w : ℕ) (e : SsEntry) → w ≤ l
    → table_of e (λ c. table_from m (suc l) c p w) ≡ table_of (entry_below e (λ c. m (suc l) c (index_in l p))) (λ c. table_from m l c p w)
step_way m l p w Absent le = refl
step_way m l p w (Table c) le = table_under m l c p w (m (suc l) c (index_in l p)) (λ e. omega arith) refl
step_way m l p w (Leaf t) le = refl
step_way m l p w (LargeLeaf t) le = refl

step_lacks : (m : Memory) (l : ℕ) (e : SsEntry) (large : ℕ → Bool) (w p i : ℕ) → w ≤ l → index_in l p ≡ i
    → below_lacks m (suc l) e large w p ≡ below_lacks m l (entry_below e (λ c. m (suc l) c i)) large w p
unfolding below_lacks
step_lacks m l e large w p i le at =
    ap (λ o. lacking_by o w (large p)) (step_way m l p w e le)
    ∙ ap (λ j. lacking_by (table_of (entry_below e (λ c. m (suc l) c j)) (λ c. table_from m l c p w)) w (large p)) at

-- an entry under which no leaf lies lacks its own table or names it
own_lacks : (m : Memory) (l first p w : ℕ) (e : SsEntry) (b : Bool) → w ≡ suc l → MeetsNone m (suc l) e p
    → own_lack e (suc l) b ≡ lacking_by (table_of e (λ c. table_from m (suc l) c first w)) w b
unfolding MeetsNone lacking_by
own_lacks m l first p w Absent b e h = ap (λ x. cond (eqb x 1 && b) 0 1) (sym e)
own_lacks m l first p w (Table c) b e h = sym (ap (λ o. lacking_by o w b) (table_top m l c first w e))
own_lacks m l first p w (Leaf t) b e h = absurd (none-some (record { size = suc l; frame = t.frame; rights = t.rights }) (sym h))
own_lacks m l first p w (LargeLeaf t) b e h = absurd (none-some (record { size = suc l; frame = t.frame; rights = t.rights }) (sym h))

-- ---- places

-- the spans of the entries of a table
entry_first : (q i l : ℕ) → q * span (suc l) + i * span l ≡ (q * TABLE_ENTRIES + i) * span l
entry_first q i l = omega (arith, add-mul (q * SPAN_PAGES) i (span l), mul_assoc q SPAN_PAGES (span l), ap (λ n. q * n) (span-suc l))

-- a page in the span of the entry at an index
entry_page : (q i l p : ℕ) → i < TABLE_ENTRIES → p / span l ≡ q * TABLE_ENTRIES + i → (p / span (suc l) ≡ q) × (index_in l p ≡ i)
entry_page q i l p i_in at = (
  (let e : p / span l / TABLE_ENTRIES ≡ q = omega arith in div_span-suc l p ∙ e),
  (let e : p / span l % TABLE_ENTRIES ≡ i = omega arith in e),
)

-- a page of the pages in a span that meets them
page_met : (q l from to : ℕ) → from < to → is_met l from to (q * span l) ≡ true → (p : ℕ) × ((from ≤ p) × (p < to) × (p / span l ≡ q))
page_met q l from to some meets =
    let low : from < q * span l + span l = grind (arith, nat_tests) in
    let high : q * span l < to = grind (arith, nat_tests) in
    ⊎_elim
    (λ (before : from < q * span l). (
      q * span l,
      (
        (omega arith),
        high,
        ap (λ x. x / span l) (let e : q * span l ≡ q * span l + 0 = omega arith in e) ∙ div-mul-add q (span l) 0 (span_pos l),
      ),
    ))
    (λ (inside : q * span l ≤ from). (
      from,
      (
        (omega arith),
        some,
        ap (λ x. x / span l) (let e : from ≡ q * span l + (from - q * span l) = omega arith in e)
            ∙ div-mul-add q (span l) (from - q * span l) (omega arith),
      ),
    ))
    (cases_lt from (q * span l))

clear_below : (m : Memory) (l : ℕ) (e : SsEntry) (q i p : ℕ) → (p / span (suc l) ≡ q) × (index_in l p ≡ i)
    → (p / span (suc l) ≡ q → MeetsNone m (suc l) e p) → MeetsNone m l (entry_below e (λ c. m (suc l) c i)) p
clear_below m l e q i p place clear =
    subst (λ j. MeetsNone m l (entry_below e (λ c. m (suc l) c j)) p) place.1 (step_clear m l p e (clear place.0))

-- ---- an entry by levels

lacks-zero : (m : Memory) (e : SsEntry) (large : ℕ → Bool) (from to first : ℕ) → entry_lacks m 0 e large from to first ≡ 0
unfolding entry_lacks
lacks-zero m e large from to first = refl

entries_below : Memory → ℕ → SsEntry → (ℕ → Bool) → ℕ → ℕ → ℕ → ℕ → ℕ
entries_below m l e large from to first i = entry_lacks m l (entry_below e (λ c. m (suc l) c i)) large from to (first + i * span l)

entries_below-is : (m : Memory) (l : ℕ) (e : SsEntry) (large : ℕ → Bool) (from to first i : ℕ)
    → entries_below m l e large from to first i ≡ entry_lacks m l (entry_below e (λ c. m (suc l) c i)) large from to (first + i * span l)
unfolding entries_below
entries_below-is m l e large from to first i = refl

lacks-suc : (m : Memory) (l : ℕ) (e : SsEntry) (large : ℕ → Bool) (from to first : ℕ)
    → entry_lacks m (suc l) e large from to first
    ≡ cond (is_met (suc l) from to first)
    (own_lack e (suc l) (large first) + sum_below (entries_below m l e large from to first) TABLE_ENTRIES) 0
unfolding entry_lacks entries_below
lacks-suc m l e large from to first = refl

-- nothing where the pages don't meet its span
unmet_level : (m : Memory) (l : ℕ) (e : SsEntry) (large : ℕ → Bool) (from to first v : ℕ) → is_met (suc l) from to first ≡ false → v < suc l
    → level_lacks m (suc l) e large from to first v ≡ 0
unfolding level_lacks
unmet_level m l e large from to first v apart v_in =
    unmet_spans (below_lacks m (suc l) e large (v + 1)) (v + 1) (suc l) from to first (omega arith) apart

-- the tables of the entry's own level
top_level : (m : Memory) (l : ℕ) (e : SsEntry) (large : ℕ → Bool) (from to first p : ℕ) → is_met (suc l) from to first ≡ true
    → MeetsNone m (suc l) e p → level_lacks m (suc l) e large from to first l ≡ own_lack e (suc l) (large first)
unfolding level_lacks
top_level m l e large from to first p meets clear =
    let level : l + 1 ≡ suc l = omega arith in
    met_one (below_lacks m (suc l) e large (l + 1)) (l + 1) from to first (span (suc l - (l + 1)))
    (ap span (let e : suc l - (l + 1) ≡ 0 = omega arith in e) ∙ span-zero)
    (ap (λ x. is_met x from to first) level ∙ meets)
    ∙ below_lacks-is m (suc l) e large (l + 1) first
    ∙ sym (own_lacks m l first p (l + 1) e (large first) level clear)

-- the tables of a lower level, entry by entry
lower_level : (m : Memory) (l : ℕ) (e : SsEntry) (large : ℕ → Bool) (from to q v : ℕ) → v < l
    → level_lacks m (suc l) e large from to (q * span (suc l)) v
    ≡ sum_below (λ i. level_lacks m l (entry_below e (λ c. m (suc l) c i)) large from to (q * span (suc l) + i * span l) v) TABLE_ENTRIES
unfolding level_lacks
lower_level m l e large from to q v v_in =
    spans_below (below_lacks m (suc l) e large (v + 1)) (v + 1) l from to (q * span (suc l)) (omega arith)
    ∙ sum_below_same (λ i.
    met_spans (below_lacks m l (entry_below e (λ c. m (suc l) c i)) large (v + 1)) (v + 1) from to (q * span (suc l) + i * span l)
    (span (l - (v + 1))))
    (λ i. met_spans (below_lacks m (suc l) e large (v + 1)) (v + 1) from to (q * span (suc l) + i * span l) (span (l - (v + 1))))
    TABLE_ENTRIES (λ i i_in.
    met_spans_same (below_lacks m l (entry_below e (λ c. m (suc l) c i)) large (v + 1)) (below_lacks m (suc l) e large (v + 1)) (v + 1)
    from to (q * span (suc l) + i * span l) (span (l - (v + 1)))
    (λ k k_in.
    step_lacks m l e large (v + 1) (q * span (suc l) + i * span l + k * span (v + 1)) i (omega arith) (inside i k i_in k_in)))
  where
    inside : (i k : ℕ) → i < TABLE_ENTRIES → k < span (l - (v + 1)) → index_in l (q * span (suc l) + i * span l + k * span (v + 1)) ≡ i
    inside i k i_in k_in =
        let next : (k + 1) * span (v + 1) ≤ span (l - (v + 1)) * span (v + 1) =
        mul-le-mul_right (span (v + 1)) (let le : k + 1 ≤ span (l - (v + 1)) = omega arith in le) in
        let short : k * span (v + 1) < span l =
        omega (arith, one_more_mul k (span (v + 1)), span_in (v + 1) l (omega arith), span_pos (v + 1)) in
        let at =
        ap (λ x. (x + k * span (v + 1)) / span l) (entry_first q i l)
        ∙ div-mul-add (q * SPAN_PAGES + i) (span l) (k * span (v + 1)) short in
        (entry_page q i l (q * span (suc l) + i * span l + k * span (v + 1)) i_in at).1

-- the step from the entries of a table to the entry that names it
step_levels : (m : Memory) (l : ℕ) (e : SsEntry) (large : ℕ → Bool) (from to q : ℕ) → from < to
    → ((p : ℕ) → from ≤ p → p < to → p / span (suc l) ≡ q → MeetsNone m (suc l) e p)
    → ((i : ℕ) → i < TABLE_ENTRIES → entry_lacks m l (entry_below e (λ c. m (suc l) c i)) large from to ((q * SPAN_PAGES + i) * span l)
    ≡ sum_below (level_lacks m l (entry_below e (λ c. m (suc l) c i)) large from to ((q * SPAN_PAGES + i) * span l)) l)
    → entry_lacks m (suc l) e large from to (q * span (suc l)) ≡ sum_below (level_lacks m (suc l) e large from to (q * span (suc l)))
    (suc l)
step_levels m l e large from to q some clear each = by_met (is_met (suc l) from to (q * span (suc l))) refl
  where
    below : (i : ℕ) → i < TABLE_ENTRIES
        → entries_below m l e large from to (q * span (suc l)) i
        ≡ sum_below (level_lacks m l (entry_below e (λ c. m (suc l) c i)) large from to (q * span (suc l) + i * span l)) l
    below i i_in =
        entries_below-is m l e large from to (q * span (suc l)) i
        ∙ ap (entry_lacks m l (entry_below e (λ c. m (suc l) c i)) large from to) (entry_first q i l)
        ∙ each i i_in
        ∙ ap (λ x. sum_below (level_lacks m l (entry_below e (λ c. m (suc l) c i)) large from to x) l) (sym (entry_first q i l))

    by_met : (b : Bool) → is_met (suc l) from to (q * span (suc l)) ≡ b
        → entry_lacks m (suc l) e large from to (q * span (suc l))
        ≡ sum_below (level_lacks m (suc l) e large from to (q * span (suc l))) (suc l)
    by_met false apart =
        lacks-suc m l e large from to (q * span (suc l))
        ∙ ap (λ b.
        cond b
        (own_lack e (suc l) (large (q * span (suc l))) + sum_below (entries_below m l e large from to (q * span (suc l))) TABLE_ENTRIES)
        0) apart
        ∙ sym (sum_below-none (level_lacks m (suc l) e large from to (q * span (suc l))) (suc l)
        (λ v v_in. unmet_level m l e large from to (q * span (suc l)) v apart v_in))
    by_met true meets =
        let first : ℕ = q * span (suc l) in
        let page = page_met q (suc l) from to some meets in
        let top : level_lacks m (suc l) e large from to first l ≡ own_lack e (suc l) (large first) =
        top_level m l e large from to first page.0 meets (clear page.0 page.1.0 page.1.1 page.1.2) in
        let lower : sum_below (level_lacks m (suc l) e large from to first) l
        ≡ sum_below (entries_below m l e large from to first) TABLE_ENTRIES =
        sum_below_same
        (λ v. sum_below (λ i. level_lacks m l (entry_below e (λ c. m (suc l) c i)) large from to (first + i * span l) v) TABLE_ENTRIES)
        (level_lacks m (suc l) e large from to first) l (λ v v_in. lower_level m l e large from to q v v_in)
        ∙ sum_below_swap (λ v i. level_lacks m l (entry_below e (λ c. m (suc l) c i)) large from to (first + i * span l) v) TABLE_ENTRIES l
        ∙ sum_below_same (entries_below m l e large from to first)
        (λ i. sum_below (λ v. level_lacks m l (entry_below e (λ c. m (suc l) c i)) large from to (first + i * span l) v) l) TABLE_ENTRIES
        (λ i i_in. sym (below i i_in)) in
        let whole : entry_lacks m (suc l) e large from to first
        ≡ own_lack e (suc l) (large first) + sum_below (entries_below m l e large from to first) TABLE_ENTRIES =
        lacks-suc m l e large from to first
        ∙ ap (λ b. cond b (own_lack e (suc l) (large first) + sum_below (entries_below m l e large from to first) TABLE_ENTRIES) 0) meets in
        omega (arith, top, lower, whole, sum_below-suc (level_lacks m (suc l) e large from to first) l)

-- what an entry lacks is what the spans of each level in its own lack
by_levels : (m : Memory) (l : ℕ) (e : SsEntry) (large : ℕ → Bool) (from to q : ℕ) → from < to
    → ((p : ℕ) → from ≤ p → p < to → p / span l ≡ q → MeetsNone m l e p)
    → entry_lacks m l e large from to (q * span l) ≡ sum_below (level_lacks m l e large from to (q * span l)) l
by_levels m zero e large from to q some clear =
    lacks-zero m e large from to (q * span 0) ∙ sym (sum_below-zero (level_lacks m 0 e large from to (q * span 0)))
by_levels m (suc l) e large from to q some clear =
    step_levels m l e large from to q some clear
    (λ i i_in. by_levels m l (entry_below e (λ c. m (suc l) c i)) large from to (q * SPAN_PAGES + i) some
    (λ p low high at. clear_below m l e q i p (entry_page q i l p i_in at) (clear p low high)))

-- ---- from the root

-- a page of which nothing is stated has no leaf
unstated : (p : ℕ) (o : Option LeafEntry) → stated p o ≡ None → o ≡ None
unstated p None h = refl
unstated p (Some x) h = absurd (none-some _ (sym h))

root_clear : (m : Memory) (level root p : ℕ) → states m level root p ≡ None → MeetsNone m level (Table root) p
unfolding MeetsNone
root_clear m level root p h = unstated p (leaf_from m level root p) h

-- the root lacks no table of its own level
root_level : (m : Memory) (l root : ℕ) (large : ℕ → Bool) (from to first : ℕ) → is_met (suc l) from to first ≡ true
    → level_lacks m (suc l) (Table root) large from to first l ≡ 0
unfolding level_lacks lacking_by
root_level m l root large from to first meets =
    met_one (below_lacks m (suc l) (Table root) large (l + 1)) (l + 1) from to first (span (suc l - (l + 1)))
    (ap span (let e : suc l - (l + 1) ≡ 0 = omega arith in e) ∙ span-zero)
    (ap (λ x. is_met x from to first) (let e : l + 1 ≡ suc l = omega arith in e) ∙ meets)
    ∙ below_lacks-is m (suc l) (Table root) large (l + 1) first
    ∙ ap (λ o. lacking_by o (l + 1) (large first)) (table_top m l root first (l + 1) (omega arith))

-- a lower level's spans under the root are all that meet the pages
under_root : (m : Memory) (l root : ℕ) (large : ℕ → Bool) (from to v : ℕ) → from < to → from / span (suc l) ≡ (to - 1) / span (suc l)
    → v < l
    → level_lacks m (suc l) (Table root) large from to (from / span (suc l) * span (suc l)) v
    ≡ sum_spans (λ p. lacks_table m (suc l) root (large p) (v + 1) p) (v + 1) from to
unfolding level_lacks
under_root m l root large from to v some one v_in =
    let wide : span (suc l - (v + 1)) * span (v + 1) ≡ span (suc l) = span_in (v + 1) (suc l) (omega arith) in
    let place : from / span (suc l) * span (suc l) ≡ from / span (suc l) * span (suc l - (v + 1)) * span (v + 1) =
    ap (λ x. from / span (suc l) * x) (sym wide) ∙ sym (mul_assoc (from / span (suc l)) (span (suc l - (v + 1))) (span (v + 1))) in
    let b : ℕ = from / span (suc l) * span (suc l - (v + 1)) in
    let low : b ≤ from / span (v + 1) =
    le-div b from (span (v + 1)) (span_pos (v + 1)) (omega (arith, place, div-mul-le_self from (span (suc l)))) in
    let above : to - 1 < (to - 1) / span (suc l) * span (suc l) + span (suc l) = lt-div-mul-add (span_pos (suc l)) in
    let same : (to - 1) / span (suc l) * span (suc l) ≡ from / span (suc l) * span (suc l) = ap (λ x. x * span (suc l)) (sym one) in
    let high : (to - 1) / span (v + 1) < b + span (suc l - (v + 1)) =
    div_below (to - 1) (b + span (suc l - (v + 1))) (span (v + 1)) (span_pos (v + 1))
    (omega (arith, above, same, place, wide, add-mul b (span (suc l - (v + 1))) (span (v + 1)))) in
    ap (λ x. met_spans (below_lacks m (suc l) (Table root) large (v + 1)) (v + 1) from to x (span (suc l - (v + 1)))) place
    ∙ met_spans_same (λ p. lacks_table m (suc l) root (large p) (v + 1) p) (below_lacks m (suc l) (Table root) large (v + 1)) (v + 1) from
    to (b * span (v + 1)) (span (suc l - (v + 1))) (λ k k_in.
    below_lacks-is m (suc l) (Table root) large (v + 1) (b * span (v + 1) + k * span (v + 1))
    ∙ sym (lacking_is m (suc l) root (large (b * span (v + 1) + k * span (v + 1))) (v + 1) (b * span (v + 1) + k * span (v + 1))
    (table_from m (suc l) root (b * span (v + 1) + k * span (v + 1)) (v + 1)) refl))
    ∙ among_spans (λ p. lacks_table m (suc l) root (large p) (v + 1) p) (v + 1) from to b (span (suc l - (v + 1))) some low high
  where
    div_below : (x k n : ℕ) → 0 < n → x < k * n → x / n < k
    div_below x k n pos lt =
        ⊎_elim (λ (h : x / n < k). h)
        (λ (h : k ≤ x / n). let le : k * n ≤ x / n * n = mul-le-mul_right n h in absurd (omega (arith, div-mul-le_self x n)))
        (cases_lt (x / n) k)

pub lacks_by_entries : (m : Memory) (level root : ℕ) (large : ℕ → Bool) (from to : ℕ) → from < to
    → from / span level ≡ (to - 1) / span level → ((p : ℕ) → from ≤ p → p < to → states m level root p ≡ None)
    → tables_lacking m level root large from to ≡ entry_lacks m level (Table root) large from to (from / span level * span level)
lacks_by_entries m zero root large from to some one absent =
    lacks-is m 0 root large from to
    ∙ ap (sum_below (λ v. sum_spans (λ p. lacks_table m 0 root (large p) (v + 1) p) (v + 1) from to)) (let e : 0 - 1 ≡ 0 = omega arith in e)
    ∙ sum_below-zero (λ v. sum_spans (λ p. lacks_table m 0 root (large p) (v + 1) p) (v + 1) from to)
    ∙ sym (lacks-zero m (Table root) large from to (from / span 0 * span 0))
lacks_by_entries m (suc l) root large from to some one absent =
    let first : ℕ = from / span (suc l) * span (suc l) in
    let levels =
    by_levels m (suc l) (Table root) large from to (from / span (suc l)) some
    (λ p low high at. root_clear m (suc l) root p (absent p low high)) in
    let above : from < first + span (suc l) = lt-div-mul-add (span_pos (suc l)) in
    let meets : is_met (suc l) from to first ≡ true =
    is_met-yes (suc l) from to first above (omega (arith, div-mul-le_self from (span (suc l)))) in
    let top = root_level m l root large from to first meets in
    let flat : tables_lacking m (suc l) root large from to
    ≡ sum_below (λ v. sum_spans (λ p. lacks_table m (suc l) root (large p) (v + 1) p) (v + 1) from to) l =
    lacks-is m (suc l) root large from to
    ∙ ap (sum_below (λ v. sum_spans (λ p. lacks_table m (suc l) root (large p) (v + 1) p) (v + 1) from to))
    (let e : suc l - 1 ≡ l = omega arith in e) in
    let lower : sum_below (level_lacks m (suc l) (Table root) large from to first) l
    ≡ sum_below (λ v. sum_spans (λ p. lacks_table m (suc l) root (large p) (v + 1) p) (v + 1) from to) l =
    sum_below_same (λ v. sum_spans (λ p. lacks_table m (suc l) root (large p) (v + 1) p) (v + 1) from to)
    (level_lacks m (suc l) (Table root) large from to first) l (λ v v_in. under_root m l root large from to v some one v_in) in
    omega (arith, levels, top, flat, lower, sum_below-suc (level_lacks m (suc l) (Table root) large from to first) l)
