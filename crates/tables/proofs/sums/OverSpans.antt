-- Sums over the spans that meet pages.
use Rattle.std.proofs.Common.{◌≡◌, ◌≢◌, ℕ, zero, suc, ◌+◌, ◌-◌, ◌*◌, ◌/◌, ◌%◌, ◌<◌, ◌≤◌, ◌⊎◌, inl, inr, ⊎_elim, Bool, true, false, cond}
use Rattle.std.proofs.Common.{eqb, ◌&&◌, refl, sym, ap, ◌∙◌, arith}
use Rattle.std.proofs.Math.Nat.{div-mul-le_self, mod-lt, add-mul}
use Rattle.std.proofs.lemmas.Nat.{le-div, div-mul-add, div-add-mod'}
use Rattle.std.proofs.lemmas.Bool.{cases_lt}
use Rattle.std.proofs.Common.{nat_le}
use Rattle.std.proofs.lemmas.Bool.Decides.{nat_tests}
use Rattle.dmatypes.specs.declared.page.TheConstants.{SPAN_PAGES}
use Rattle.tables.specs.Tree.{Memory, span, sum_below, leaf_from, is_large_leaf}
use Rattle.std.proofs.Common.{List}
use Rattle.dmatypes.specs.declared.call.Segment.{Segment}
use Rattle.tables.specs.Pool.{Pool, memory}
use Rattle.tables.specs.Segments.{is_large_at}
use Rattle.tables.specs.Lacks.{sum_spans, lacks_table, tables_lacking, splits_leaf, leaves_splitting}
use Rattle.tables.proofs.walks.Steps.{span-one, same_or_not}
use Rattle.tables.proofs.sums.Firsts.{sum_below_same, sum_below-suc, sum_below-zero, sum_below_part, sum_below_le_more}

-- the first value apart
pub sum_below_first : (g : ℕ → ℕ) (n : ℕ) → sum_below g (suc n) ≡ g 0 + sum_below (λ k. g (suc k)) n
sum_below_first g zero = omega (arith, sum_below-suc g 0, sum_below-zero g, sum_below-zero (λ k. g (suc k)))
sum_below_first g (suc n) = omega (arith, sum_below-suc g (suc n), sum_below_first g n, sum_below-suc (λ k. g (suc k)) n)

sum_spans-is : (g : ℕ → ℕ) (w from to : ℕ)
    → sum_spans g w from to ≡ sum_below (λ k. g ((from / span w + k) * span w)) ((to - 1) / span w + 1 - from / span w)
unfolding sum_spans
sum_spans-is g w from to = refl

-- the spans from a numbered one on
from_span : (ℕ → ℕ) → ℕ → ℕ → ℕ → ℕ
from_span g w a b = sum_below (λ k. g ((a + k) * span w)) (b - a)

spans_at : (g : ℕ → ℕ) (w from to a b : ℕ) → from / span w ≡ a → (to - 1) / span w + 1 ≡ b → sum_spans g w from to ≡ from_span g w a b
unfolding from_span
spans_at g w from to a b ea eb =
    sum_spans-is g w from to ∙ ap (λ (x : ℕ). sum_below (λ k. g ((x + k) * span w)) ((to - 1) / span w + 1 - x)) ea
    ∙ ap (λ (y : ℕ). sum_below (λ k. g ((a + k) * span w)) (y - a)) eb

first_span : (g : ℕ → ℕ) (w a b : ℕ) → a < b → from_span g w a b ≡ g (a * span w) + from_span g w (a + 1) b
unfolding from_span
first_span g w a b lt =
    let n : ℕ = b - (a + 1) in
    let long : b - a ≡ suc (b - (a + 1)) = omega arith in
    let h : ℕ → ℕ = λ k. g ((a + k) * span w) in
    let shift : sum_below (λ k. h (suc k)) n ≡ sum_below (λ k. g ((a + 1 + k) * span w)) n =
    sum_below_same (λ k. g ((a + 1 + k) * span w)) (λ k. h (suc k)) n
    (λ k k_in. ap (λ (x : ℕ). g (x * span w)) (let e : a + suc k ≡ a + 1 + k = omega arith in e)) in
    let zeroth : h 0 ≡ g (a * span w) = ap (λ (x : ℕ). g (x * span w)) (let e : a + 0 ≡ a = omega arith in e) in
    let all : sum_below h (b - a) ≡ sum_below h (suc n) = ap (sum_below h) long in
    omega (arith, sum_below_first h n)

same_spans : (g h : ℕ → ℕ) (w a b : ℕ) → ((k : ℕ) → a ≤ k → k < b → h (k * span w) ≡ g (k * span w)) → from_span h w a b ≡ from_span g w a b
unfolding from_span
same_spans g h w a b same =
    sum_below_same (λ k. g ((a + k) * span w)) (λ k. h ((a + k) * span w)) (b - a) (λ k k_in. same (a + k) (omega arith) (omega arith))

no_spans : (g : ℕ → ℕ) (w a b : ℕ) → b ≤ a → from_span g w a b ≡ 0
unfolding from_span
no_spans g w a b le = ap (sum_below (λ k. g ((a + k) * span w))) (let e : b - a ≡ 0 = omega arith in e)
    ∙ sum_below-zero (λ k. g ((a + k) * span w))

pub div_mono : (a b n : ℕ) → 0 < n → a ≤ b → a / n ≤ b / n
div_mono a b n pos le = le-div (a / n) b n pos (omega (arith, div-mul-le_self a n))

-- the last of the numbered spans
pub last_span : (from to n number : ℕ) → 0 < n → from < to → (to - 1) / n + 1 ≤ number
    → (from / n ≤ (to - 1) / n + 1 → number ≤ (to - 1) / n + 1) → number ≡ (to - 1) / n + 1
last_span from to n number pos some past end =
    let le : from / n ≤ (to - 1) / n = div_mono from (to - 1) n pos (omega arith) in
    let low : number ≤ (to - 1) / n + 1 = end (omega arith) in
    omega arith

pub one_more_mul : (q n : ℕ) → (q + 1) * n ≡ q * n + n
one_more_mul q n = omega (arith, add-mul q 1 n)

-- where an extent in one span ends, or the next begins
pub next_span : (from next n : ℕ) → 0 < n → from < next → from / n ≡ (next - 1) / n → (next / n ≡ from / n) ⊎ (next / n ≡ from / n + 1)
next_span from next n pos some one =
    let q : ℕ = (next - 1) / n in
    let r : ℕ = (next - 1) % n in
    let whole : (next - 1) / n * n + (next - 1) % n ≡ next - 1 = div-add-mod' (next - 1) n in
    let less : (next - 1) % n < n = mod-lt (next - 1) pos in
    ⊎_elim
    (λ (inside : (next - 1) % n + 1 < n).
    inl
    (ap (λ (x : ℕ). x / n) (let e : next ≡ (next - 1) / n * n + ((next - 1) % n + 1) = omega arith in e)
    ∙ div-mul-add ((next - 1) / n) n ((next - 1) % n + 1) inside ∙ sym one))
    (λ (end : n ≤ (next - 1) % n + 1).
    inr
    (ap (λ (x : ℕ). x / n) (let e : next ≡ ((next - 1) / n + 1) * n + 0 = omega (arith, one_more_mul ((next - 1) / n) n) in e)
    ∙ div-mul-add ((next - 1) / n + 1) n 0 pos ∙ ap (λ (x : ℕ). x + 1) (sym one)))
    (cases_lt ((next - 1) % n + 1) n)

-- one extent of pages less: the sum falls by what its span had, if the other spans stay and its own has nothing more
pub step_spans : (g h : ℕ → ℕ) (w from next to : ℕ) → 0 < span w → from < next → next ≤ to → from / span w ≡ (next - 1) / span w
    → ((k : ℕ) → from / span w < k → k ≤ (to - 1) / span w → h (k * span w) ≡ g (k * span w))
    → (next / span w ≡ from / span w → h (from / span w * span w) ≡ 0)
    → sum_spans g w from to ≡ g (from / span w * span w) + sum_spans h w next to
step_spans g h w from next to pos some le one same none =
    let n : ℕ = span w in
    let a : ℕ = from / span w in
    let b : ℕ = (to - 1) / span w + 1 in
    let lt : from / span w < (to - 1) / span w + 1 =
    (let k : from / span w ≤ (to - 1) / span w =
    le-div (from / span w) (to - 1) (span w) pos (omega (arith, div-mul-le_self from (span w))) in
    omega arith) in
    let rest : from_span h w (a + 1) b ≡ from_span g w (a + 1) b =
    same_spans g h w (a + 1) b (λ k low high. same k (omega arith) (omega arith)) in
    let whole : sum_spans g w from to ≡ g (a * span w) + from_span g w (a + 1) b =
    spans_at g w from to a b refl refl ∙ first_span g w a b lt in
    ⊎_elim
    (λ (stay : next / span w ≡ from / span w).
    let after : sum_spans h w next to ≡ h (a * span w) + from_span h w (a + 1) b =
    spans_at h w next to a b stay refl ∙ first_span h w a b lt in
    omega (arith, none stay))
    (λ (go : next / span w ≡ from / span w + 1).
    let after : sum_spans h w next to ≡ from_span h w (a + 1) b = spans_at h w next to (a + 1) b go refl in
    omega arith)
    (next_span from next n pos some one)

-- nothing is left behind the last extent
pub ended_spans : (h : ℕ → ℕ) (w from next : ℕ) → 0 < span w → from < next → from / span w ≡ (next - 1) / span w
    → (next / span w ≡ from / span w → h (from / span w * span w) ≡ 0) → sum_spans h w next next ≡ 0
ended_spans h w from next pos some one none =
    let a : ℕ = from / span w in
    let b : ℕ = (next - 1) / span w + 1 in
    ⊎_elim
    (λ (stay : next / span w ≡ from / span w).
    let whole : sum_spans h w next next ≡ h (a * span w) + from_span h w (a + 1) b =
    spans_at h w next next a b stay refl ∙ first_span h w a b (omega arith) in
    let rest : from_span h w (a + 1) b ≡ 0 = no_spans h w (a + 1) b (omega arith) in
    omega (arith, none stay))
    (λ (go : next / span w ≡ from / span w + 1). spans_at h w next next (a + 1) b go refl ∙ no_spans h w (a + 1) b (omega arith))
    (next_span from next (span w) pos some one)

-- the first span's part is no more than the whole
pub least_spans : (g : ℕ → ℕ) (w from to : ℕ) → 0 < span w → from < to → g (from / span w * span w) ≤ sum_spans g w from to
least_spans g w from to pos some =
    let a : ℕ = from / span w in
    let b : ℕ = (to - 1) / span w + 1 in
    let le : from / span w ≤ (to - 1) / span w = div_mono from (to - 1) (span w) pos (omega arith) in
    let whole : sum_spans g w from to ≡ g (a * span w) + from_span g w (a + 1) b =
    spans_at g w from to a b refl refl ∙ first_span g w a b (omega arith) in
    omega arith

-- ---- a loop over the spans

-- the sum up to a numbered span
pub so_far : (ℕ → ℕ) → ℕ → ℕ → ℕ → ℕ
so_far g width from number = sum_below (λ k. g ((from / width + k) * width)) (number - from / width)

pub so_far-start : (g : ℕ → ℕ) (width from : ℕ) → so_far g width from (from / width) ≡ 0
unfolding so_far
so_far-start g width from =
    ap (sum_below (λ k. g ((from / width + k) * width))) (let e : from / width - from / width ≡ 0 = omega arith in e)
    ∙ sum_below-zero (λ k. g ((from / width + k) * width))

pub so_far-more : (g : ℕ → ℕ) (width from number : ℕ) → from / width ≤ number
    → so_far g width from (number + 1) ≡ so_far g width from number + g (number * width)
unfolding so_far
so_far-more g width from number le =
    ap (sum_below (λ k. g ((from / width + k) * width)))
    (let e : number + 1 - from / width ≡ suc (number - from / width) = omega arith in e)
    ∙ sum_below-suc (λ k. g ((from / width + k) * width)) (number - from / width)
    ∙ ap (λ (x : ℕ). sum_below (λ k. g ((from / width + k) * width)) (number - from / width) + g (x * width))
    (let e : from / width + (number - from / width) ≡ number = omega arith in e)

pub so_far-end : (g : ℕ → ℕ) (w width from to number : ℕ) → width ≡ span w → number ≡ (to - 1) / width + 1
    → so_far g width from number ≡ sum_spans g w from to
unfolding so_far
so_far-end g w width from to number ew en =
    ap (λ (n : ℕ). sum_below (λ k. g ((from / width + k) * width)) (n - from / width)) en
    ∙ ap (λ (v : ℕ). sum_below (λ k. g ((from / v + k) * v)) ((to - 1) / v + 1 - from / v)) ew
    ∙ sym (sum_spans-is g w from to)

-- one more by a test
pub so_far-test : (g : ℕ → ℕ) (width from number count more : ℕ) (b : Bool) → from / width ≤ number → count ≡ so_far g width from number
    → cond b 1 0 ≡ g (number * width) → more ≡ count + cond b 1 0 → more ≡ so_far g width from (number + 1)
so_far-test g width from number count more b le is test e = omega (arith, so_far-more g width from number le, test)

-- what is lacking, and what is split, at a page
unfoldable pub lacking_at : Pool → ℕ → ℕ → List Segment → ℕ → ℕ → ℕ → ℕ
lacking_at pool level root segments first w p = lacks_table (memory pool.words) level root (is_large_at segments first p) w p

unfoldable pub splitting_at : Pool → ℕ → ℕ → ℕ → ℕ → ℕ → ℕ
splitting_at pool level root from to p = splits_leaf (memory pool.words) level root from to p

pub few_more : (count more number first : ℕ) (b : Bool) → first ≤ number → more ≡ count + cond b 1 0 → count ≤ number - first
    → more ≤ number + 1 - first
few_more count more number first true le e few = omega arith
few_more count more number first false le e few = omega arith

-- what is lacking in all the spans of a level
unfoldable pub level_lacking : Pool → ℕ → ℕ → List Segment → ℕ → ℕ → ℕ → ℕ
level_lacking pool level root segments first end v = sum_spans (lacking_at pool level root segments first (v + 1)) (v + 1) first end

pub level_at : (pool : Pool) (level root : ℕ) (segments : List Segment) (first end v w n : ℕ) → v + 1 ≡ w
    → n ≡ sum_spans (λ p. lacks_table (memory pool.words) level root (is_large_at segments first p) w p) w first end
    → n ≡ level_lacking pool level root segments first end v
unfolding level_lacking lacking_at
level_at pool level root segments first end v w n e is =
    is ∙ ap (λ (x : ℕ). sum_spans (λ p. lacks_table (memory pool.words) level root (is_large_at segments first p) x p) x first end) (sym e)

pub splitting_covered : (m : Memory) (level t from to p : ℕ) → from ≤ p → p + SPAN_PAGES ≤ to → splits_leaf m level t from to p ≡ 0
unfolding splits_leaf
splitting_covered m level t from to p low high =
    let yes : (nat_le from p && nat_le (p + SPAN_PAGES) to) ≡ true = grind (arith, nat_tests) in
    ap (λ b. cond b 0 (cond (is_large_leaf (leaf_from m level t p)) 1 0)) yes

pub splitting_else : (m : Memory) (level t from to p : ℕ) → ((p < from) ⊎ (to < p + SPAN_PAGES))
    → splits_leaf m level t from to p ≡ cond (is_large_leaf (leaf_from m level t p)) 1 0
unfolding splits_leaf
splitting_else m level t from to p out = ap (λ b. cond b 0 (cond (is_large_leaf (leaf_from m level t p)) 1 0)) (no out)
  where
    no : ((p < from) ⊎ (to < p + SPAN_PAGES)) → (nat_le from p && nat_le (p + SPAN_PAGES) to) ≡ false
    no (inl h) = grind (arith, nat_tests)
    no (inr h) = grind (arith, nat_tests)

-- ---- the leaves that are split up to a page

-- as extents end at edges of spans, those of the spans that have begun
pub split_so_far : Pool → ℕ → ℕ → ℕ → ℕ → ℕ → ℕ
split_so_far pool level root from to place =
    cond (eqb place from) 0 (so_far (splitting_at pool level root from to) SPAN_PAGES from ((place - 1) / SPAN_PAGES + 1))

pub split_so_far-start : (pool : Pool) (level root from to : ℕ) → split_so_far pool level root from to from ≡ 0
unfolding split_so_far
split_so_far-start pool level root from to =
    let yes : eqb from from ≡ true = grind (arith, nat_tests) in
    ap (λ b. cond b 0 (so_far (splitting_at pool level root from to) SPAN_PAGES from ((from - 1) / SPAN_PAGES + 1))) yes

split_later : (pool : Pool) (level root from to place : ℕ) → from < place
    → split_so_far pool level root from to place
    ≡ so_far (splitting_at pool level root from to) SPAN_PAGES from ((place - 1) / SPAN_PAGES + 1)
unfolding split_so_far
split_later pool level root from to place lt =
    let no : eqb place from ≡ false = grind (arith, nat_tests) in
    ap (λ b. cond b 0 (so_far (splitting_at pool level root from to) SPAN_PAGES from ((place - 1) / SPAN_PAGES + 1))) no

pub split_so_far-step : (pool : Pool) (level root from to place next : ℕ) → from ≤ place → place < next
    → place / SPAN_PAGES ≡ (next - 1) / SPAN_PAGES → ((place % SPAN_PAGES ≡ 0) ⊎ (place ≡ from))
    → split_so_far pool level root from to next
    ≡ split_so_far pool level root from to place + splits_leaf (memory pool.words) level root from to (place / SPAN_PAGES * SPAN_PAGES)
unfolding splitting_at
split_so_far-step pool level root from to place next low some one edge =
    let g : ℕ → ℕ = splitting_at pool level root from to in
    let after : split_so_far pool level root from to next ≡ so_far g SPAN_PAGES from (place / SPAN_PAGES + 1) =
    split_later pool level root from to next (omega arith) ∙ ap (λ (k : ℕ). so_far g SPAN_PAGES from (k + 1)) (sym one) in
    let more : so_far g SPAN_PAGES from (place / SPAN_PAGES + 1)
    ≡ so_far g SPAN_PAGES from (place / SPAN_PAGES) + g (place / SPAN_PAGES * SPAN_PAGES) =
    so_far-more g SPAN_PAGES from (place / SPAN_PAGES) (div_mono from place SPAN_PAGES (omega arith) low) in
    let before : split_so_far pool level root from to place ≡ so_far g SPAN_PAGES from (place / SPAN_PAGES) =
    ⊎_elim
    (λ (here : place ≡ from).
    ap (split_so_far pool level root from to) here ∙ split_so_far-start pool level root from to ∙ sym (so_far-start g SPAN_PAGES from)
    ∙ ap (λ (k : ℕ). so_far g SPAN_PAGES from (k / SPAN_PAGES)) (sym here))
    (λ (ne : place ≢ from).
    let even : place % SPAN_PAGES ≡ 0 = only_even place from edge ne in
    split_later pool level root from to place (omega arith)
    ∙ ap (so_far g SPAN_PAGES from) (let e : (place - 1) / SPAN_PAGES + 1 ≡ place / SPAN_PAGES = omega arith in e))
    (same_or_not place from) in
    omega arith
  where
    only_even : (place from : ℕ) → ((place % SPAN_PAGES ≡ 0) ⊎ (place ≡ from)) → place ≢ from → place % SPAN_PAGES ≡ 0
    only_even place from (inl h) ne = h
    only_even place from (inr h) ne = absurd (ne h)

pub split_so_far-end : (pool : Pool) (level root from to : ℕ) → from < to
    → split_so_far pool level root from to to ≡ leaves_splitting (memory pool.words) level root from to
unfolding leaves_splitting splitting_at
split_so_far-end pool level root from to some =
    split_later pool level root from to to some
    ∙ so_far-end (splitting_at pool level root from to) 1 SPAN_PAGES from to ((to - 1) / SPAN_PAGES + 1) (sym span-one) refl

pub split_so_far-most : (pool : Pool) (level root from to next : ℕ) → from < next → next ≤ to
    → split_so_far pool level root from to next ≤ leaves_splitting (memory pool.words) level root from to
unfolding so_far
split_so_far-most pool level root from to next some le =
    let g : ℕ → ℕ = λ k. splitting_at pool level root from to ((from / SPAN_PAGES + k) * SPAN_PAGES) in
    let more : sum_below g ((next - 1) / SPAN_PAGES + 1 - from / SPAN_PAGES) ≤ sum_below g ((to - 1) / SPAN_PAGES + 1 - from / SPAN_PAGES) =
    sum_below_le_more g ((next - 1) / SPAN_PAGES + 1 - from / SPAN_PAGES) ((to - 1) / SPAN_PAGES + 1 - from / SPAN_PAGES)
    (omega (arith, div_mono (next - 1) (to - 1) SPAN_PAGES (omega arith) (omega arith))) in
    omega (
      arith,
      split_later pool level root from to next some,
      split_later pool level root from to to (omega arith),
      split_so_far-end pool level root from to (omega arith),
      more,
    )

-- where no leaf is split, none of a page's span is
pub none_split : (m : Memory) (level t from to p : ℕ) → from ≤ p → p < to → leaves_splitting m level t from to ≡ 0
    → splits_leaf m level t from to (p / SPAN_PAGES * SPAN_PAGES) ≡ 0
unfolding leaves_splitting
none_split m level t from to p low high none =
    let g : ℕ → ℕ = splits_leaf m level t from to in
    let k : ℕ = p / SPAN_PAGES - from / SPAN_PAGES in
    let first : from / SPAN_PAGES ≤ p / SPAN_PAGES = div_mono from p SPAN_PAGES (omega arith) low in
    let last : p / SPAN_PAGES ≤ (to - 1) / SPAN_PAGES = div_mono p (to - 1) SPAN_PAGES (omega arith) (omega arith) in
    let sum : sum_below (λ j. g ((from / SPAN_PAGES + j) * SPAN_PAGES)) ((to - 1) / SPAN_PAGES + 1 - from / SPAN_PAGES) ≡ 0 =
    ap (λ (n : ℕ). sum_below (λ j. g ((from / n + j) * n)) ((to - 1) / n + 1 - from / n)) (sym span-one) ∙ sym (sum_spans-is g 1 from to)
    ∙ none in
    let part =
    sum_below_part (λ j. g ((from / SPAN_PAGES + j) * SPAN_PAGES)) ((to - 1) / SPAN_PAGES + 1 - from / SPAN_PAGES)
    (p / SPAN_PAGES - from / SPAN_PAGES) (omega arith) in
    let here : g ((from / SPAN_PAGES + (p / SPAN_PAGES - from / SPAN_PAGES)) * SPAN_PAGES) ≡ g (p / SPAN_PAGES * SPAN_PAGES) =
    ap (λ (j : ℕ). g (j * SPAN_PAGES)) (omega arith) in
    omega arith

-- values of at most 1 sum to no more than their number
pub sum_below_few : (g : ℕ → ℕ) (n : ℕ) → ((i : ℕ) → g i ≤ 1) → sum_below g n ≤ n
sum_below_few g zero few = omega (arith, sum_below-zero g)
sum_below_few g (suc n) few = omega (arith, sum_below-suc g n, sum_below_few g n few, few n)

pub sum_few : (g : ℕ → ℕ) (w from to : ℕ) → ((p : ℕ) → g p ≤ 1) → sum_spans g w from to ≤ (to - 1) / span w + 1 - from / span w
unfolding sum_spans
sum_few g w from to few =
    sum_below_few (λ k. g ((from / span w + k) * span w)) ((to - 1) / span w + 1 - from / span w) (λ i. few ((from / span w + i) * span w))

cond_few : (a b : Bool) → cond a 0 (cond b 0 1) ≤ 1
cond_few true b = omega arith
cond_few false true = omega arith
cond_few false false = omega arith

cond_one : (a b : Bool) → cond a 0 (cond b 1 0) ≤ 1
cond_one true b = omega arith
cond_one false true = omega arith
cond_one false false = omega arith

pub lacking_few : (m : Memory) (level root : ℕ) (large : Bool) (w p : ℕ) → lacks_table m level root large w p ≤ 1
unfolding lacks_table
lacking_few m level root large w p = cond_few _ _

splitting_few : (m : Memory) (level root from to p : ℕ) → splits_leaf m level root from to p ≤ 1
unfolding splits_leaf
splitting_few m level root from to p = cond_one _ _

pub leaves_splitting_few : (m : Memory) (level root from to : ℕ)
    → leaves_splitting m level root from to ≤ (to - 1) / SPAN_PAGES + 1 - from / SPAN_PAGES
unfolding leaves_splitting
leaves_splitting_few m level root from to =
    let few = sum_few (splits_leaf m level root from to) 1 from to (splitting_few m level root from to) in
    let same : (to - 1) / span 1 + 1 - from / span 1 ≡ (to - 1) / SPAN_PAGES + 1 - from / SPAN_PAGES =
    ap (λ (n : ℕ). (to - 1) / n + 1 - from / n) span-one in
    omega arith

-- the tables of one level that a map lacks
unfoldable pub level_lacks : Memory → ℕ → ℕ → (ℕ → Bool) → ℕ → ℕ → ℕ → ℕ
level_lacks m level root large first end v = sum_spans (λ p. lacks_table m level root (large p) (v + 1) p) (v + 1) first end

pub level_few : (m : Memory) (level root : ℕ) (large : ℕ → Bool) (first end v width : ℕ) → width ≡ span (v + 1)
    → level_lacks m level root large first end v ≤ (end - 1) / width + 1 - first / width
unfolding level_lacks
level_few m level root large first end v width e =
    let few =
    sum_few (λ p. lacks_table m level root (large p) (v + 1) p) (v + 1) first end (λ p. lacking_few m level root (large p) (v + 1) p) in
    let same : (end - 1) / span (v + 1) + 1 - first / span (v + 1) ≡ (end - 1) / width + 1 - first / width =
    ap (λ (n : ℕ). (end - 1) / n + 1 - first / n) (sym e) in
    omega arith

pub lacks_levels : (m : Memory) (level root : ℕ) (large : ℕ → Bool) (first end n : ℕ) → n ≡ level - 1
    → tables_lacking m level root large first end ≡ sum_below (level_lacks m level root large first end) n
unfolding tables_lacking level_lacks
lacks_levels m level root large first end n e = ap (sum_below (level_lacks m level root large first end)) (sym e)
