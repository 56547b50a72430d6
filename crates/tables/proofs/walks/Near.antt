-- Pages of one span are on one way.
use Rattle.std.proofs.Common.{◌≡◌, ℕ, zero, suc, ◌+◌, ◌-◌, ◌*◌, ◌/◌, ◌%◌, ◌<◌, ◌≤◌, ⊎_elim, Bool, true, false, cond, nat_eq, Some, refl}
use Rattle.std.proofs.Common.{sym, ap, subst, ◌∙◌, arith, eq-or-lt_of_le, mul_comm}
use Rattle.std.proofs.Math.Nat.{div-div-eq-div-mul, add-mul-div_left, div-eq_of_lt}
use Rattle.std.proofs.lemmas.Bool.Decides.{nat_tests}
use Rattle.std.proofs.lemmas.Option.{none-some, same_Some}
use Rattle.tables.specs.declared.entries.TheConstants.{TABLE_ENTRIES}
use Rattle.tables.proofs.walks.Onward.{deeper}
use Rattle.vtdbits.specs.declared.entry.SsEntry.{SsEntry}
use Rattle.vtdbits.specs.declared.entry.SsEntry.TheVariants.{Absent, Table, Leaf, LargeLeaf}
use Rattle.tables.specs.Tree.{Memory, LeafEntry, span, index_in, leaf_of, table_of, leaf_from, table_from}

pub span_pos : (l : ℕ) → 0 < span l
unfolding span
span_pos zero = omega arith
span_pos (suc l) = let k : 0 < span l = span_pos l in omega arith

-- a table of a higher level covers no fewer pages
pub span_grows : (j l : ℕ) → j ≤ l → span j ≤ span l
unfolding span
span_grows j zero le = subst (λ i. span i ≤ 1) (let z : 0 ≡ j = omega arith in z) (omega arith)
span_grows j (suc l) le =
    ⊎_elim (λ (same : j ≡ suc l). subst (λ i. span j ≤ span i) same (omega arith))
    (λ (lt : j < suc l). let k : span j ≤ span l = span_grows j l (omega arith) in omega arith)
    (eq-or-lt_of_le le)

div_part : (x z n : ℕ) → 0 < n → x < n → (x + n * z) / n ≡ z
div_part x z n pos lt = add-mul-div_left x z pos ∙ (let k : x / n ≡ 0 = div-eq_of_lt lt in omega arith)

-- two pages in the span that begins at `first`
pub div_within : (first p n : ℕ) → 0 < n → first % n ≡ 0 → first ≤ p → p < first + n → p / n ≡ first / n
div_within first p n pos e a b =
    let whole : n * (first / n) ≡ first = omega arith in
    let is : (p - first) + n * (first / n) ≡ p = omega arith in
    ap (λ x. x / n) (sym is) ∙ div_part (p - first) (first / n) n pos (omega arith)

-- one span of a level is in one span of each higher level
pub wider : (l p q : ℕ) → p / span l ≡ q / span l → p / span (suc l) ≡ q / span (suc l)
unfolding span
wider l p q e =
    ap (λ n. p / n) (mul_comm TABLE_ENTRIES (span l)) ∙ sym (div-div-eq-div-mul p (span l) TABLE_ENTRIES) ∙ ap (λ x. x / TABLE_ENTRIES) e
    ∙ div-div-eq-div-mul q (span l) TABLE_ENTRIES ∙ ap (λ n. q / n) (mul_comm (span l) TABLE_ENTRIES)

pub near_at : (j l p q : ℕ) → j ≤ l → p / span j ≡ q / span j → p / span l ≡ q / span l
near_at j zero p q le e = let z : j ≡ 0 = omega arith in subst (λ i. p / span i ≡ q / span i) z e
near_at j (suc l) p q le e =
    ⊎_elim (λ (same : j ≡ suc l). subst (λ i. p / span i ≡ q / span i) same e)
    (λ (lt : j < suc l). wider l p q (near_at j l p q (omega arith) e)) (eq-or-lt_of_le le)

size_of : (m : Memory) (l p : ℕ) (x : LeafEntry) (e : SsEntry) → ((t : ℕ) → leaf_from m l t p ≡ Some x → x.size < l)
    → leaf_of e l (λ c. leaf_from m l c p) ≡ Some x → x.size ≤ l
size_of m l p x Absent go h = absurd (none-some x h)
size_of m l p x (Table t) go h = let k : x.size < l = go t h in omega arith
size_of m l p x (Leaf s) go h = let k : l ≡ x.size = ap (λ (y : LeafEntry). y.size) (same_Some _ x h) in omega arith
size_of m l p x (LargeLeaf s) go h = let k : l ≡ x.size = ap (λ (y : LeafEntry). y.size) (same_Some _ x h) in omega arith

pub smaller : (m : Memory) (l t p : ℕ) (x : LeafEntry) → leaf_from m l t p ≡ Some x → x.size < l
unfolding leaf_from
smaller m zero t p x h = absurd (none-some x h)
smaller m (suc l) t p x h =
    let k : x.size ≤ l = size_of m l p x (m (suc l) t (index_in l p)) (λ t' h'. smaller m l t' p x h') h in omega arith

near_by : (m : Memory) (l p q : ℕ) (x : LeafEntry) (e : SsEntry) → ((t : ℕ) → leaf_from m l t p ≡ Some x → leaf_from m l t q ≡ Some x)
    → leaf_of e l (λ c. leaf_from m l c p) ≡ Some x → leaf_of e l (λ c. leaf_from m l c q) ≡ Some x
near_by m l p q x Absent go h = h
near_by m l p q x (Table t) go h = go t h
near_by m l p q x (Leaf s) go h = h
near_by m l p q x (LargeLeaf s) go h = h

-- the pages of a leaf's span meet that leaf
pub near_leaf : (m : Memory) (l t p q : ℕ) (x : LeafEntry) → p / span x.size ≡ q / span x.size → leaf_from m l t p ≡ Some x
    → leaf_from m l t q ≡ Some x
unfolding leaf_from
near_leaf m zero t p q x e h = h
near_leaf m (suc l) t p q x e h =
    let small : x.size < suc l = smaller m (suc l) t p x h in
    let same : p / span l ≡ q / span l = near_at x.size l p q (omega arith) e in
    rw (← same) (near_by m l p q x (m (suc l) t (index_in l p)) (λ t' h'. near_leaf m l t' p q x e h') h)

near_table_by : (m : Memory) (l p q w c : ℕ) (e : SsEntry) → ((t : ℕ) → table_from m l t p w ≡ Some c → table_from m l t q w ≡ Some c)
    → table_of e (λ t. table_from m l t p w) ≡ Some c → table_of e (λ t. table_from m l t q w) ≡ Some c
near_table_by m l p q w c Absent go h = h
near_table_by m l p q w c (Table t) go h = go t h
near_table_by m l p q w c (Leaf s) go h = h
near_table_by m l p q w c (LargeLeaf s) go h = h

near_table_at : (m : Memory) (l t p q w c : ℕ) (b : Bool)
    → (table_of (m (suc l) t (index_in l p)) (λ c. table_from m l c p w) ≡ Some c
    → table_of (m (suc l) t (index_in l q)) (λ c. table_from m l c q w) ≡ Some c)
    → cond b (Some t) (table_of (m (suc l) t (index_in l p)) (λ c. table_from m l c p w)) ≡ Some c
    → cond b (Some t) (table_of (m (suc l) t (index_in l q)) (λ c. table_from m l c q w)) ≡ Some c
near_table_at m l t p q w c true go h = h
near_table_at m l t p q w c false go h = go h

near_here : (m : Memory) (l t p q w c : ℕ) (b : Bool) → nat_eq w (suc l) ≡ b → p / span w ≡ q / span w → table_from m (suc l) t p w ≡ Some c
    → ((t' : ℕ) → table_from m l t' p w ≡ Some c → table_from m l t' q w ≡ Some c) → table_from m (suc l) t q w ≡ Some c
unfolding table_from
near_here m l t p q w c true e s h go = rw e (rw e at h)
near_here m l t p q w c false e s h go =
    let deep : w ≤ suc l = deeper m (suc l) t p w c h in
    let low : w ≤ l = grind (arith, nat_tests) in
    let same : p / span l ≡ q / span l = near_at w l p q low s in
    rw e (rw (← same) (near_table_by m l p q w c (m (suc l) t (index_in l p)) go (rw e at h)))

-- the pages of a table's span have it on their way
pub near_table : (m : Memory) (l t p q w c : ℕ) → p / span w ≡ q / span w → table_from m l t p w ≡ Some c → table_from m l t q w ≡ Some c
near_table m zero t p q w c s h = absurd (none-some c (unfold table_from in h))
near_table m (suc l) t p q w c s h = near_here m l t p q w c (nat_eq w (suc l)) refl s h (λ t' h'. near_table m l t' p q w c s h')
