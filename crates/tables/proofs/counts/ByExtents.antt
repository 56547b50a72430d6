-- How many tables are lacking, extent by extent.
use Rattle.std.proofs.Common.{◌≡◌, ◌≢◌, ℕ, zero, suc, ◌+◌, ◌-◌, ◌*◌, ◌/◌, ◌%◌, ◌<◌, ◌≤◌, ⊎_elim, Bool, false, cond, eqb, ◌&&◌, is_some}
use Rattle.std.proofs.Common.{IsSome, Option, Some, None, refl, sym, ap, subst, ◌∙◌, arith}
use Rattle.std.proofs.Math.Nat.{div-mul-le_self, mul-le-mul_right, lt-div-mul-add}
use Rattle.std.proofs.lemmas.Nat.{div-mul-add}
use Rattle.std.proofs.lemmas.Bool.Decides.{nat_tests}
use Rattle.std.proofs.lemmas.Option.{none-some}
use Rattle.dmatypes.specs.declared.page.TheConstants.{SPAN_PAGES}
use Rattle.dmatypes.specs.World.{Target}
use Rattle.tables.specs.Tree.{Memory, span, sum_below, table_from}
use Rattle.tables.specs.Pool.{Pool, memory}
use Rattle.tables.specs.Changes.{MapsPages}
use Rattle.tables.specs.Lacks.{lacks_table, tables_lacking, tables_lacking_at, sum_spans}
use Rattle.tables.proofs.sums.Firsts.{sum_below_same, sum_below-none}
use Rattle.tables.proofs.pools.FreeList.{sum_below_plus}
use Rattle.tables.proofs.counts.OnePage.{lacking_same}
use Rattle.tables.proofs.walks.Near.{near_table, near_at, span_pos}
use Rattle.tables.proofs.walks.Steps.{div_span_one, same_or_not, span-one}
use Rattle.tables.proofs.sums.OverSpans.{step_spans, ended_spans, least_spans, one_more_mul}

near_some : (m : Memory) (l t p q w : ℕ) → p / span w ≡ q / span w → (o : Option ℕ) → table_from m l t p w ≡ o → table_from m l t q w ≡ o
near_some m l t p q w e None h = by_other (table_from m l t q w) refl
  where
    by_other : (o : Option ℕ) → table_from m l t q w ≡ o → o ≡ None
    by_other None k = refl
    by_other (Some c) k = absurd (none-some c (sym h ∙ near_table m l t q p w c (sym e) k))
near_some m l t p q w e (Some c) h = near_table m l t p q w c e h

pub near_same : (m : Memory) (l t p q w : ℕ) → p / span w ≡ q / span w → table_from m l t q w ≡ table_from m l t p w
near_same m l t p q w e = near_some m l t p q w e (table_from m l t p w) refl

-- the first page of a numbered span
pub span_first : (k w : ℕ) → k * span w / span w ≡ k
span_first k w = ap (λ (x : ℕ). x / span w) (let e : k * span w ≡ k * span w + 0 = omega arith in e) ∙ div-mul-add k (span w) 0 (span_pos w)

-- whether a large leaf begins counts at level 1 alone
lacking_flag : (m : Memory) (level t : ℕ) (a b : Bool) (w p : ℕ) → (w ≡ 1 → a ≡ b)
    → lacks_table m level t a w p ≡ lacks_table m level t b w p
unfolding lacks_table
lacking_flag m level t a b w p same =
    ⊎_elim
    (λ (e : w ≡ 1). ap (λ x. cond (is_some (table_from m level t p w)) 0 (cond (eqb w 1 && x) 0 1)) (same e))
    (λ (ne : w ≢ 1).
    let no : eqb w 1 ≡ false = grind (arith, nat_tests) in
    ap (λ x. cond (is_some (table_from m level t p w)) 0 (cond (x && a) 0 1)) no
    ∙ ap (λ x. cond (is_some (table_from m level t p w)) 0 (cond (x && b) 0 1)) (sym no))
    (same_or_not w 1)

some_is : (m : Memory) (level t w p : ℕ) (large : Bool) → IsSome (table_from m level t p w) → lacks_table m level t large w p ≡ 0
unfolding lacks_table
some_is m level t w p large h = ap (λ b. cond b 0 (cond (eqb w 1 && large) 0 1)) h

sum_below_le_each : (g h : ℕ → ℕ) (n : ℕ) → ((i : ℕ) → i < n → g i ≤ h i) → sum_below g n ≤ sum_below h n
unfolding sum_below
sum_below_le_each g h zero le = omega arith
sum_below_le_each g h (suc n) le = omega (arith, sum_below_le_each g h n (λ i l. le i (omega arith)), le n (omega arith))

pub lacks-is : (m : Memory) (level t : ℕ) (large : ℕ → Bool) (from to : ℕ)
    → tables_lacking m level t large from to
    ≡ sum_below (λ v. sum_spans (λ p. lacks_table m level t (large p) (v + 1) p) (v + 1) from to) (level - 1)
unfolding tables_lacking
lacks-is m level t large from to = refl

lacks_at-is : (m : Memory) (level t : ℕ) (large : Bool) (p : ℕ)
    → tables_lacking_at m level t large p ≡ sum_below (λ v. lacks_table m level t large (v + 1) p) (level - 1)
unfolding tables_lacking_at
lacks_at-is m level t large p = refl

-- what the span of a page lacks
own_span : (m : Memory) (level t : ℕ) (large : ℕ → Bool) (b : Bool) (w from : ℕ) → 1 ≤ w → large (from / SPAN_PAGES * SPAN_PAGES) ≡ b
    → lacks_table m level t (large (from / span w * span w)) w (from / span w * span w) ≡ lacks_table m level t b w from
own_span m level t large b w from some flag =
    lacking_flag m level t (large (from / span w * span w)) b w (from / span w * span w)
    (λ e. ap (λ v. large (from / span v * span v)) e ∙ ap (λ n. large (from / n * n)) span-one ∙ flag)
    ∙ lacking_same m m level level t t b w from (from / span w * span w)
    (near_same m level t from (from / span w * span w) w (sym (span_first (from / span w) w)))

-- the tables of one page's way are among them
pub lacks_least : (m : Memory) (level t : ℕ) (large : ℕ → Bool) (b : Bool) (from to : ℕ) → from < to
    → large (from / SPAN_PAGES * SPAN_PAGES) ≡ b → tables_lacking_at m level t b from ≤ tables_lacking m level t large from to
lacks_least m level t large b from to some flag =
    let each =
    sum_below_le_each (λ v. lacks_table m level t b (v + 1) from)
    (λ v. sum_spans (λ p. lacks_table m level t (large p) (v + 1) p) (v + 1) from to)
    (level - 1) (λ v v_in.
    omega (
      arith,
      least_spans (λ p. lacks_table m level t (large p) (v + 1) p) (v + 1) from to (span_pos (v + 1)) some,
      own_span m level t large b (v + 1) from (omega arith) flag,
    )) in
    omega (arith, lacks-is m level t large from to, lacks_at-is m level t b from, each)

-- ---- one extent

-- an extent was mapped, with the tables that it lacked
pub record Placed (old new : Pool) (level t from next : ℕ) (says : ℕ → Option Target) (b : Bool) : Type 0 where
  pub maps : MapsPages old new level t from next says
  pub made : (w : ℕ) → 1 ≤ w → w < level → (w ≡ 1 → b ≡ false) → IsSome (table_from (memory new.words) level t from w)
  pub some : from < next
  pub one : from / SPAN_PAGES ≡ (next - 1) / SPAN_PAGES
  pub short : 0 < next % SPAN_PAGES → b ≡ false

pub extent_near : (w from next q : ℕ) → 1 ≤ w → from / SPAN_PAGES ≡ (next - 1) / SPAN_PAGES → from ≤ q → q < next
    → q / span w ≡ from / span w
extent_near w from next q some one low high =
    near_at 1 w q from some (div_span_one q ∙ (let e : q / SPAN_PAGES ≡ from / SPAN_PAGES = omega arith in e) ∙ sym (div_span_one from))

none_left : (old new : Pool) (level t from next : ℕ) (says : ℕ → Option Target) (large : ℕ → Bool) (b : Bool) (w : ℕ) → 1 ≤ w → w < level
    → Placed old new level t from next says b → next / span w ≡ from / span w
    → lacks_table (memory new.words) level t (large (from / span w * span w)) w (from / span w * span w) ≡ 0
none_left old new level t from next says large b w some low x stay =
    let short : w ≡ 1 → b ≡ false = λ e.
    let same : next / SPAN_PAGES ≡ from / SPAN_PAGES =
    sym (ap (λ n. next / n) span-one) ∙ subst (λ v. next / span v ≡ from / span v) e stay ∙ ap (λ n. from / n) span-one in
    x.short (omega (arith, x.one, x.some)) in
    some_is (memory new.words) level t w (from / span w * span w) (large (from / span w * span w))
    (subst (λ (o : Option ℕ). IsSome o)
    (sym (near_same (memory new.words) level t from (from / span w * span w) w (sym (span_first (from / span w) w))))
    (x.made w some low short))

-- the spans behind it are as they were
same_behind : (old new : Pool) (level t from next to : ℕ) (says : ℕ → Option Target) (large : ℕ → Bool) (b : Bool) (w k : ℕ) → 1 ≤ w
    → Placed old new level t from next says b → ((p : ℕ) → from ≤ p → p < to → p / span level ≡ from / span level) → from < to
    → from / span w < k → k ≤ (to - 1) / span w
    → lacks_table (memory new.words) level t (large (k * span w)) w (k * span w)
    ≡ lacks_table (memory old.words) level t (large (k * span w)) w (k * span w)
same_behind old new level t from next to says large b w k some x wide inside low high =
    let n : ℕ = span w in
    let pos : 0 < span w = span_pos w in
    let below : k * span w ≤ (to - 1) / span w * span w = mul_mono k ((to - 1) / span w) (span w) high in
    let end : k * span w < to = omega (arith, div-mul-le_self (to - 1) (span w)) in
    let above : (from / span w + 1) * span w ≤ k * span w = mul_mono (from / span w + 1) k (span w) (omega arith) in
    let start : from ≤ k * span w = omega (arith, lt_next from (span w) pos, one_more_mul (from / span w) (span w)) in
    lacking_same (memory old.words) (memory new.words) level level t t (large (k * span w)) w (k * span w) (k * span w)
    (x.maps.clear (k * span w) w (wide (k * span w) start end)
    (λ q q_low q_high e.
    let at : k ≡ from / span w = sym (span_first k w) ∙ e ∙ extent_near w from next q some x.one q_low q_high in omega arith))
  where
    mul_mono : (a b n : ℕ) → a ≤ b → a * n ≤ b * n
    mul_mono a b n le = mul-le-mul_right n le

    lt_next : (a n : ℕ) → 0 < n → a < a / n * n + n
    lt_next a n pos = lt-div-mul-add pos

pub lacks_step : (old new : Pool) (level t from next to : ℕ) (says : ℕ → Option Target) (large : ℕ → Bool) (b : Bool)
    → Placed old new level t from next says b → next ≤ to → ((p : ℕ) → from ≤ p → p < to → p / span level ≡ from / span level)
    → large (from / SPAN_PAGES * SPAN_PAGES) ≡ b
    → tables_lacking (memory old.words) level t large from to
    ≡ tables_lacking_at (memory old.words) level t b from + tables_lacking (memory new.words) level t large next to
lacks_step old new level t from next to says large b x le wide flag =
    let m : Memory = memory old.words in
    let n : Memory = memory new.words in
    let g : ℕ → ℕ → ℕ = λ v p. lacks_table m level t (large p) (v + 1) p in
    let h : ℕ → ℕ → ℕ = λ v p. lacks_table n level t (large p) (v + 1) p in
    let each : (v : ℕ) → v < level - 1
    → sum_spans (g v) (v + 1) from to ≡ lacks_table m level t b (v + 1) from + sum_spans (h v) (v + 1) next to =
    λ v v_in.
    let step =
    step_spans (g v) (h v) (v + 1) from next to (span_pos (v + 1)) x.some le
    (sym (extent_near (v + 1) from next (next - 1) (omega arith) x.one (omega (arith, x.some)) (omega (arith, x.some))))
    (λ k low high.
    same_behind old new level t from next to says large b (v + 1) k (omega arith) x wide (omega (arith, x.some)) low high)
    (λ stay. none_left old new level t from next says large b (v + 1) (omega arith) (omega arith) x stay) in
    omega (arith, step, own_span m level t large b (v + 1) from (omega arith) flag) in
    lacks-is m level t large from to
    ∙ sum_below_same (λ v. lacks_table m level t b (v + 1) from + sum_spans (h v) (v + 1) next to) (λ v. sum_spans (g v) (v + 1) from to)
    (level - 1) each
    ∙ sum_below_plus (λ v. lacks_table m level t b (v + 1) from) (λ v. sum_spans (h v) (v + 1) next to) (level - 1)
    ∙ ap (λ k. k + sum_below (λ v. sum_spans (h v) (v + 1) next to) (level - 1)) (sym (lacks_at-is m level t b from))
    ∙ ap (λ k. tables_lacking_at m level t b from + k) (sym (lacks-is n level t large next to))

pub lacks_ended : (old new : Pool) (level t from next : ℕ) (says : ℕ → Option Target) (large : ℕ → Bool) (b : Bool)
    → Placed old new level t from next says b → tables_lacking (memory new.words) level t large next next ≡ 0
lacks_ended old new level t from next says large b x =
    lacks-is (memory new.words) level t large next next
    ∙ sum_below-none (λ v. sum_spans (λ p. lacks_table (memory new.words) level t (large p) (v + 1) p) (v + 1) next next) (level - 1)
    (λ v v_in. ended_spans (λ p. lacks_table (memory new.words) level t (large p) (v + 1) p) (v + 1) from next (span_pos (v + 1)) x.some
    (sym (extent_near (v + 1) from next (next - 1) (omega arith) x.one (omega (arith, x.some)) (omega (arith, x.some))))
    (λ stay. none_left old new level t from next says large b (v + 1) (omega arith) (omega arith) x stay))
