-- Sums of sums, and sums over the spans that meet pages among more spans.
use Rattle.std.proofs.Common.{◌≡◌, ℕ, zero, suc, ◌+◌, ◌-◌, ◌*◌, ◌/◌, ◌<◌, ◌≤◌, true, false, cond, refl, sym, ap, ◌∙◌, arith}
use Rattle.std.proofs.Math.Nat.{div-mul-le_self, lt-div-mul-add, mul-le-mul_right, add-mul, mul_assoc}
use Rattle.std.proofs.lemmas.Bool.Decides.{nat_tests}
use Rattle.dmatypes.specs.declared.page.TheConstants.{SPAN_PAGES}
use Rattle.tables.specs.declared.entries.TheConstants.{TABLE_ENTRIES}
use Rattle.tables.specs.Tree.{span, sum_below}
use Rattle.tables.specs.Lacks.{sum_spans}
use Rattle.tables.specs.ByEntries.{is_met}
use Rattle.tables.proofs.sums.Firsts.{sum_below_same, sum_below-suc, sum_below-zero, sum_below-none}
use Rattle.tables.proofs.pools.FreeList.{sum_below_plus}
use Rattle.tables.proofs.walks.Near.{span_pos}
use Rattle.tables.proofs.walks.Steps.{span-suc, span-zero}
use Rattle.tables.proofs.sums.OverSpans.{one_more_mul, div_mono}

-- a sum in two parts
pub sum_below_append : (g : ℕ → ℕ) (a n : ℕ) → sum_below g (a + n) ≡ sum_below g a + sum_below (λ k. g (a + k)) n
sum_below_append g a zero = omega (arith, ap (sum_below g) (let e : a + 0 ≡ a = omega arith in e), sum_below-zero (λ k. g (a + k)))
sum_below_append g a (suc n) =
    let e : a + suc n ≡ suc (a + n) = omega arith in
    omega (arith, ap (sum_below g) e, sum_below-suc g (a + n), sum_below-suc (λ k. g (a + k)) n, sum_below_append g a n)

-- a sum by blocks of one length
pub sum_below_blocks : (g : ℕ → ℕ) (n a : ℕ) → sum_below g (a * n) ≡ sum_below (λ i. sum_below (λ k. g (i * n + k)) n) a
sum_below_blocks g n zero =
    ap (sum_below g) (let e : 0 * n ≡ 0 = omega arith in e) ∙ sum_below-zero g
    ∙ sym (sum_below-zero (λ i. sum_below (λ k. g (i * n + k)) n))
sum_below_blocks g n (suc a) =
    let e : suc a * n ≡ a * n + n = ap (λ x. x * n) (let s : suc a ≡ a + 1 = omega arith in s) ∙ one_more_mul a n in
    omega (
      arith,
      ap (sum_below g) e,
      sum_below_append g (a * n) n,
      sum_below_blocks g n a,
      sum_below-suc
          (λ i. sum_below (λ k. g (i * n + k)) n) a,
    )

-- two sums in the other order
pub sum_below_swap : (f : ℕ → ℕ → ℕ) (a b : ℕ) → sum_below (λ v. sum_below (λ i. f v i) a) b ≡ sum_below (λ i. sum_below (λ v. f v i) b) a
sum_below_swap f a zero =
    sum_below-zero (λ v. sum_below (λ i. f v i) a)
    ∙ sym (sum_below-none (λ i. sum_below (λ v. f v i) 0) a (λ i i_in. sum_below-zero (λ v. f v i)))
sum_below_swap f a (suc b) =
    let last = sum_below-suc (λ v. sum_below (λ i. f v i) a) b in
    let sums : sum_below (λ i. sum_below (λ v. f v i) b + f b i) a
    ≡ sum_below (λ i. sum_below (λ v. f v i) b) a + sum_below (λ i. f b i) a =
    sum_below_plus (λ i. sum_below (λ v. f v i) b) (λ i. f b i) a in
    let same : sum_below (λ i. sum_below (λ v. f v i) (suc b)) a ≡ sum_below (λ i. sum_below (λ v. f v i) b + f b i) a =
    sum_below_same (λ i. sum_below (λ v. f v i) b + f b i) (λ i. sum_below (λ v. f v i) (suc b)) a (λ i i_in. sum_below-suc (λ v. f v i) b)
    in
    omega (arith, last, sums, same, sum_below_swap f a b)

-- ---- spans that meet pages

-- the value at a span's first page, where the span meets the pages
pub met : (ℕ → ℕ) → ℕ → ℕ → ℕ → ℕ → ℕ
met g w from to p = cond (is_met w from to p) (g p) 0

pub met_there : (g : ℕ → ℕ) (w from to p : ℕ) → is_met w from to p ≡ true → met g w from to p ≡ g p
unfolding met
met_there g w from to p e = ap (λ b. cond b (g p) 0) e

pub met_not : (g : ℕ → ℕ) (w from to p : ℕ) → is_met w from to p ≡ false → met g w from to p ≡ 0
unfolding met
met_not g w from to p e = ap (λ b. cond b (g p) 0) e

pub met_same : (g h : ℕ → ℕ) (w from to p q : ℕ) → p ≡ q → h q ≡ g q → met h w from to p ≡ met g w from to q
unfolding met
met_same g h w from to p q e same = ap (λ x. cond (is_met w from to x) (h x) 0) e ∙ ap (λ n. cond (is_met w from to q) n 0) same

pub is_met-yes : (w from to p : ℕ) → from < p + span w → p < to → is_met w from to p ≡ true
is_met-yes w from to p a b = grind (arith, nat_tests)

pub is_met-before : (w from to p : ℕ) → p + span w ≤ from → is_met w from to p ≡ false
is_met-before w from to p a = grind (arith, nat_tests)

pub is_met-behind : (w from to p : ℕ) → to ≤ p → is_met w from to p ≡ false
is_met-behind w from to p a = grind (arith, nat_tests)

-- so many spans from a first page on
pub met_spans : (ℕ → ℕ) → ℕ → ℕ → ℕ → ℕ → ℕ → ℕ
met_spans g w from to first n = sum_below (λ k. met g w from to (first + k * span w)) n

pub met_spans-is : (g : ℕ → ℕ) (w from to first n : ℕ)
    → met_spans g w from to first n ≡ sum_below (λ k. met g w from to (first + k * span w)) n
unfolding met_spans
met_spans-is g w from to first n = refl

mul_mono : (a b n : ℕ) → a ≤ b → a * n ≤ b * n
mul_mono a b n le = mul-le-mul_right n le

-- a span that is numbered among those that the pages meet, before or behind them
numbered_met : (w from to k : ℕ) → from < to → from / span w ≤ k → k ≤ (to - 1) / span w → is_met w from to (k * span w) ≡ true
numbered_met w from to k some low high =
    let above : from < from / span w * span w + span w = lt-div-mul-add (span_pos w) in
    let start : from / span w * span w ≤ k * span w = mul_mono (from / span w) k (span w) low in
    let below : k * span w ≤ (to - 1) / span w * span w = mul_mono k ((to - 1) / span w) (span w) high in
    is_met-yes w from to (k * span w) (omega arith) (omega (arith, div-mul-le_self (to - 1) (span w)))

numbered_before : (w from to k : ℕ) → k < from / span w → is_met w from to (k * span w) ≡ false
numbered_before w from to k low =
    let next : (k + 1) * span w ≤ from / span w * span w = mul_mono (k + 1) (from / span w) (span w) (omega arith) in
    is_met-before w from to (k * span w) (omega (arith, one_more_mul k (span w), div-mul-le_self from (span w)))

numbered_behind : (w from to k : ℕ) → (to - 1) / span w + 1 ≤ k → is_met w from to (k * span w) ≡ false
numbered_behind w from to k high =
    let above : to - 1 < (to - 1) / span w * span w + span w = lt-div-mul-add (span_pos w) in
    let next : ((to - 1) / span w + 1) * span w ≤ k * span w = mul_mono ((to - 1) / span w + 1) k (span w) high in
    is_met-behind w from to (k * span w) (omega (arith, one_more_mul ((to - 1) / span w) (span w)))

-- the spans that meet the pages are all those of them among more spans
pub among_spans : (g : ℕ → ℕ) (w from to b n : ℕ) → from < to → b ≤ from / span w → (to - 1) / span w < b + n
    → met_spans g w from to (b * span w) n ≡ sum_spans g w from to
unfolding sum_spans
among_spans g w from to b n some low high =
    let a : ℕ = from / span w in
    let z : ℕ = (to - 1) / span w + 1 in
    let h : ℕ → ℕ = λ k. met g w from to (b * span w + k * span w) in
    let at : (k : ℕ) → h k ≡ met g w from to ((b + k) * span w) = λ k. ap (met g w from to) (sym (add-mul b k (span w))) in
    let le : from / span w ≤ (to - 1) / span w = div_mono from (to - 1) (span w) (span_pos w) (omega arith) in
    let front : sum_below h (a - b) ≡ 0 =
    sum_below-none h (a - b) (λ k k_in. at k ∙ met_not g w from to ((b + k) * span w) (numbered_before w from to (b + k) (omega arith))) in
    let middle : sum_below (λ k. h (a - b + k)) (z - a) ≡ sum_below (λ k. g ((a + k) * span w)) (z - a) =
    sum_below_same (λ k. g ((a + k) * span w)) (λ k. h (a - b + k)) (z - a)
    (λ k k_in. at (a - b + k) ∙ ap (λ x. met g w from to (x * span w)) (let e : b + (a - b + k) ≡ a + k = omega arith in e)
    ∙ met_there g w from to ((a + k) * span w) (numbered_met w from to (a + k) some (omega arith) (omega arith))) in
    let back : sum_below (λ k. h (z - b + k)) (b + n - z) ≡ 0 = sum_below-none (λ k. h (z - b + k)) (b + n - z)
    (λ k k_in.
    at (z - b + k) ∙ met_not g w from to ((b + (z - b + k)) * span w) (numbered_behind w from to (b + (z - b + k)) (omega arith))) in
    let parts : sum_below h n ≡ sum_below h (z - b) + sum_below (λ k. h (z - b + k)) (b + n - z) =
    ap (sum_below h) (let e : n ≡ (z - b) + (b + n - z) = omega arith in e) ∙ sum_below_append h (z - b) (b + n - z) in
    let front_parts : sum_below h (z - b) ≡ sum_below h (a - b) + sum_below (λ k. h (a - b + k)) (z - a) =
    ap (sum_below h) (let e : z - b ≡ (a - b) + (z - a) = omega arith in e) ∙ sum_below_append h (a - b) (z - a) in
    met_spans-is g w from to (b * span w) n ∙ omega (arith, front, middle, back, parts, front_parts)

-- ---- spans in spans

-- a span of a level has so many of the level so much lower
pub span_plus : (w d : ℕ) → span (w + d) ≡ span d * span w
span_plus w zero =
    ap span (let e : w + 0 ≡ w = omega arith in e) ∙ (let one : 1 * span w ≡ span w = omega arith in sym one)
    ∙ ap (λ x. x * span w) (sym span-zero)
span_plus w (suc d) =
    ap span (let e : w + suc d ≡ suc (w + d) = omega arith in e) ∙ span-suc (w + d) ∙ ap (λ x. SPAN_PAGES * x) (span_plus w d)
    ∙ sym (mul_assoc SPAN_PAGES (span d) (span w)) ∙ ap (λ x. x * span w) (sym (span-suc d))

pub span_in : (w l : ℕ) → w ≤ l → span (l - w) * span w ≡ span l
span_in w l le = sym (span_plus w (l - w)) ∙ ap span (let e : w + (l - w) ≡ l = omega arith in e)

-- what lies in a span of a level that doesn't meet the pages doesn't meet them
pub unmet_spans : (g : ℕ → ℕ) (w l from to first : ℕ) → w ≤ l → is_met l from to first ≡ false
    → met_spans g w from to first (span (l - w)) ≡ 0
unmet_spans g w l from to first le apart =
    met_spans-is g w from to first (span (l - w))
    ∙ sum_below-none (λ k. met g w from to (first + k * span w)) (span (l - w))
    (λ k k_in. met_not g w from to (first + k * span w)
    (let next : (k + 1) * span w ≤ span (l - w) * span w = mul_mono (k + 1) (span (l - w)) (span w) (omega arith) in
    let inside : k * span w + span w ≤ span l = omega (arith, one_more_mul k (span w), span_in w l le) in
    grind (arith, nat_tests)))

-- the spans in the 512 spans of the level below
pub spans_below : (g : ℕ → ℕ) (w l from to first : ℕ) → w ≤ l
    → met_spans g w from to first (span (suc l - w)) ≡ sum_below (λ i. met_spans g w from to (first + i * span l) (span (l - w)))
    TABLE_ENTRIES
spans_below g w l from to first le =
    let h : ℕ → ℕ = λ k. met g w from to (first + k * span w) in
    let wide : span (suc l - w) ≡ TABLE_ENTRIES * span (l - w) =
    ap span (let e : suc l - w ≡ suc (l - w) = omega arith in e) ∙ span-suc (l - w) in
    met_spans-is g w from to first (span (suc l - w))
    ∙ ap (sum_below h) wide
    ∙ sum_below_blocks h (span (l - w)) TABLE_ENTRIES
    ∙ sum_below_same (λ i. met_spans g w from to (first + i * span l) (span (l - w)))
    (λ i. sum_below (λ k. h (i * span (l - w) + k)) (span (l - w))) TABLE_ENTRIES
    (λ i i_in.
    sum_below_same (λ k. met g w from to (first + i * span l + k * span w)) (λ k. h (i * span (l - w) + k)) (span (l - w))
    (λ k k_in. ap (met g w from to) (place i k)) ∙ sym (met_spans-is g w from to (first + i * span l) (span (l - w))))
  where
    place : (i k : ℕ) → first + (i * span (l - w) + k) * span w ≡ first + i * span l + k * span w
    place i k =
        let whole : i * span (l - w) * span w ≡ i * span l = mul_assoc i (span (l - w)) (span w) ∙ ap (λ x. i * x) (span_in w l le) in
        omega (arith, add-mul (i * span (l - w)) k (span w))

pub met_spans_same : (g h : ℕ → ℕ) (w from to first n : ℕ) → ((k : ℕ) → k < n → h (first + k * span w) ≡ g (first + k * span w))
    → met_spans h w from to first n ≡ met_spans g w from to first n
unfolding met_spans
met_spans_same g h w from to first n same =
    sum_below_same (λ k. met g w from to (first + k * span w)) (λ k. met h w from to (first + k * span w)) n
    (λ k k_in. met_same g h w from to (first + k * span w) (first + k * span w) refl (same k k_in))

-- one span alone
pub met_one : (g : ℕ → ℕ) (w from to first n : ℕ) → n ≡ 1 → is_met w from to first ≡ true → met_spans g w from to first n ≡ g first
met_one g w from to first n one meets =
    let here : first + 0 * span w ≡ first = omega arith in
    let all : sum_below (λ k. met g w from to (first + k * span w)) n ≡ sum_below (λ k. met g w from to (first + k * span w)) 1 =
    ap (sum_below (λ k. met g w from to (first + k * span w))) one in
    let value : met g w from to (first + 0 * span w) ≡ g first = ap (met g w from to) here ∙ met_there g w from to first meets in
    omega (
      arith,
      met_spans-is g w from to first n,
      all,
      sum_below-suc (λ k. met g w from to (first + k * span w)) 0,
      sum_below-zero (λ k. met g w from to (first + k * span w)),
      value,
    )
