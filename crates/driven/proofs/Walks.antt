-- Where the tables of a tree are: on the ways of which pages.
use Rattle.std.proofs.Common.{◌≡◌, ◌≢◌, ◌⊎◌, inl, inr, ⊎_elim, ℕ, zero, suc, ◌+◌, ◌*◌, ◌/◌, ◌%◌, ◌<◌, ◌≤◌, Some, refl, sym, ap}
use Rattle.std.proofs.Common.{◌∙◌, arith}
use Rattle.std.proofs.Math.Nat.{mul-div-le, mul-mod_right}
use Rattle.std.proofs.lemmas.Bool.{cases_lt}
use Rattle.std.proofs.lemmas.Nat.{div-mul-add}
use Rattle.std.proofs.lemmas.Option.{none-some, same_Some}
use Rattle.vtdbits.specs.declared.entry.SsEntry.{SsEntry}
use Rattle.vtdbits.specs.declared.entry.SsEntry.TheVariants.{Absent, Table, Leaf, LargeLeaf}
use Rattle.tables.specs.declared.entries.TheConstants.{TABLE_ENTRIES}
use Rattle.tables.specs.Changes.{MeetsNone}
use Rattle.tables.specs.Tree.{LeafEntry, Memory, entry_uses, index_in, leaf_from, one_if_same, span, sum_below, table_from, uses}
use Rattle.tables.specs.Under.{used_by_entry}
use Rattle.tables.proofs.sums.Firsts.{sum_below-suc, sum_below-zero}
use Rattle.tables.proofs.sums.OneFrame.{one_if_same_is}
use Rattle.tables.proofs.walks.Near.{div_within, span_pos}
use Rattle.tables.proofs.walks.Onward.{deeper}
use Rattle.tables.proofs.walks.Steps.{div_span-suc, leaf_under, leaf-zero, same_index, same_or_not, table_top, table_under}
use Rattle.tables.proofs.walks.Steps.{uses-suc, wide_span}
use Rattle.moments.proofs.Passed.{step}

-- ---- pages

-- a page of the same span whose way reads the word at an index
pub page_at : (l p k : ℕ) → k < TABLE_ENTRIES → (q : ℕ) × ((q / span (suc l) ≡ p / span (suc l)) × (index_in l q ≡ k))
page_at l p k inside =
    let a : ℕ = p / span (suc l) in
    let q : ℕ = (a * TABLE_ENTRIES + k) * span l + 0 in
    let whole : q / span l ≡ a * TABLE_ENTRIES + k = div-mul-add (a * TABLE_ENTRIES + k) (span l) 0 (span_pos l) in (
      q,
      (
        div_span-suc l q ∙ ap (λ n. n / TABLE_ENTRIES) whole ∙ div-mul-add a TABLE_ENTRIES k inside,
        ap (λ n. n % TABLE_ENTRIES) whole ∙ (let e : (a * TABLE_ENTRIES + k) % TABLE_ENTRIES ≡ k = omega (arith, inside) in e),
      ),
    )

-- the first page of a page's span, and where the span ends
abbrev start_of : ℕ → ℕ → ℕ
start_of l p = span l * (p / span l)

in_span : (l p : ℕ) → (start_of l p ≤ p) × (p < start_of l p + span l)
in_span l p = let pos : 0 < span l = span_pos l in (mul-div-le p (span l), omega (arith, pos))

-- pages of one span have one start
one_start : (l p q : ℕ) → p / span l ≡ q / span l → start_of l p ≡ start_of l q
one_start l p q same = ap (λ n. span l * n) same

start_whole : (l p : ℕ) → start_of l p % span l ≡ 0
start_whole l p = mul-mod_right (span l) (p / span l)

one_span : (l p q : ℕ) → start_of l p ≤ q → q < start_of l p + span l → p / span l ≡ q / span l
one_span l p q low high =
    let s : ℕ = start_of l p in
    div_within s p (span l) (span_pos l) (start_whole l p) (in_span l p).0 (in_span l p).1
    ∙ sym (div_within s q (span l) (span_pos l) (start_whole l p) low high)

-- a page's span has none of the pages, or one of them
pub meets : (l from to p : ℕ) → from < to
    → MeetsNone l from to p ⊎ ((q : ℕ) × ((from ≤ q) × (q < to) × (p / span l ≡ q / span l)))
meets l from to p some =
    let s : ℕ = start_of l p in
    ⊎_elim
    (λ (first : from < s). ⊎_elim
    (λ (reaches : s < to). inr (s, (omega (arith, first), reaches, one_span l p s (omega arith) (omega (arith, span_pos l)))))
    (λ (short : to ≤ s). inl (λ q low high same. omega (arith, short, high, (in_span l q).0, one_start l p q same)))
    (cases_lt s to))
    (λ (behind : s ≤ from). ⊎_elim
    (λ (inside : from < s + span l). inr (from, (omega arith, some, one_span l p from behind inside)))
    (λ (past : s + span l ≤ from). inl (λ q low high same. omega (arith, past, low, (in_span l q).1, one_start l p q same)))
    (cases_lt from (s + span l)))
    (cases_lt from s)

-- ---- tables that a way passes

-- the table above it
pub passes : (m : Memory) (l t p w c : ℕ) → table_from m l t p w ≡ Some c → suc w ≤ l → (d : ℕ) × (table_from m l t p (suc w) ≡ Some d)
passes m zero t p w c h up = absurd (omega (arith, up))
passes m (suc l) t p w c h up =
    elim (step m l t p w c h) [
      | inl here ↦ absurd (omega (arith, here.0, up))
      | inr below ↦ ⊎_elim
          (λ (top : suc w ≡ suc l). (t, table_top m l t p (suc w) top))
          (λ (lower : suc w ≢ suc l).
          let on = passes m l below.0 p w c below.2 (omega (arith, lower, up)) in
          (on.0, table_under m l t p (suc w) (Table below.0) lower below.1 ∙ on.1))
          (same_or_not (suc w) (suc l))
    ]

-- the table in which a leaf stands
pub leaf_passes : (m : Memory) (l t p : ℕ) (x : LeafEntry) → leaf_from m l t p ≡ Some x
    → (d : ℕ) × (table_from m l t p (suc x.size) ≡ Some d)
leaf_passes m zero t p x h = absurd (none-some x (sym (leaf-zero m t p) ∙ h))
leaf_passes m (suc l) t p x h = by_entry (m (suc l) t (index_in l p)) refl (λ c h'. leaf_passes m l c p x h')
  where
    here : (y : LeafEntry) → y.size ≡ l → y ≡ x → (d : ℕ) × (table_from m (suc l) t p (suc x.size) ≡ Some d)
    here y size same = (t, table_top m l t p (suc x.size) (ap suc (sym (ap (λ (z : LeafEntry). z.size) same) ∙ size)))

    by_entry : (e : SsEntry) → m (suc l) t (index_in l p) ≡ e
        → ((c : ℕ) → leaf_from m l c p ≡ Some x → (d : ℕ) × (table_from m l c p (suc x.size) ≡ Some d))
        → (d : ℕ) × (table_from m (suc l) t p (suc x.size) ≡ Some d)
    by_entry Absent is go = absurd (none-some x (sym (leaf_under m l t p Absent is) ∙ h))
    by_entry (Table c) is go =
        let on = go c (sym (leaf_under m l t p (Table c) is) ∙ h) in
        ⊎_elim
        (λ (top : suc x.size ≡ suc l). (t, table_top m l t p (suc x.size) top))
        (λ (lower : suc x.size ≢ suc l). (on.0, table_under m l t p (suc x.size) (Table c) lower is ∙ on.1))
        (same_or_not (suc x.size) (suc l))
    by_entry (Leaf s) is go = here (record { size = l; frame = s.frame; rights = s.rights }) refl
        (same_Some _ x (sym (leaf_under m l t p (Leaf s) is) ∙ h))
    by_entry (LargeLeaf s) is go = here (record { size = l; frame = s.frame; rights = s.rights }) refl
        (same_Some _ x (sym (leaf_under m l t p (LargeLeaf s) is) ∙ h))

-- ---- a frame that a tree uses is a table on some way

-- one of the first values isn't 0
some_below : (g : ℕ → ℕ) (n : ℕ) → 0 < sum_below g n → (i : ℕ) × ((i < n) × (0 < g i))
some_below g zero some = absurd (omega (arith, some, sum_below-zero g))
some_below g (suc n) some =
    ⊎_elim (λ (here : 0 < g n). (n, (omega arith, here)))
    (λ (none : g n ≤ 0). let k = some_below g n (omega (arith, some, none, sum_below-suc g n)) in (k.0, (omega (arith, k.1.0), k.1.1)))
    (cases_lt 0 (g n))

-- an entry that uses a frame names a table that uses it
names : (e : SsEntry) (below : ℕ → ℕ) → 0 < entry_uses e below → (c : ℕ) × ((e ≡ Table c) × (0 < below c))
names Absent below some = absurd (omega (arith, some))
names (Table c) below some = (c, (refl, some))
names (Leaf s) below some = absurd (omega (arith, some))
names (LargeLeaf s) below some = absurd (omega (arith, some))

-- on the way of a page of the same span as a given one
pub way_of_use : (m : Memory) (level t f near : ℕ) → 0 < uses m level t f
    → (p l : ℕ) × ((p / span level ≡ near / span level) × (table_from m level t p (suc l) ≡ Some f))
unfolding uses
way_of_use m zero t f near some = absurd (omega (arith, some))
way_of_use m (suc l) t f near some =
    ⊎_elim
    (λ (own : 0 < one_if_same t f).
    (near, l, (refl, table_top m l t near (suc l) refl ∙ ap (λ x. Some x) (one_if_same_is t f own))))
    (λ (other : one_if_same t f ≤ 0).
    let at = some_below (used_by_entry m l t f) TABLE_ENTRIES (omega (arith, some, other, uses-suc m l t f)) in
    let named = names (m (suc l) t at.0) (λ c. uses m l c f) at.1.1 in
    let q = page_at l near at.0 at.1.0 in
    let on = way_of_use m l named.0 f q.0 named.1.1 in
    let index : index_in l on.0 ≡ at.0 = same_index l on.0 q.0 on.2.0 ∙ q.1.1 in
    let below : m (suc l) t (index_in l on.0) ≡ Table named.0 = ap (λ i. m (suc l) t i) index ∙ named.1.0 in (
      on.0,
      on.1,
      (
        wide_span l on.0 q.0 on.2.0 ∙ q.1.0,
        table_under m l t on.0 (suc on.1) (Table named.0)
            (λ same. absurd (omega (arith, deeper m l named.0 on.0 (suc on.1) f on.2.1, same))) below
            ∙ on.2.1,
      ),
    ))
    (cases_lt 0 (one_if_same t f))
