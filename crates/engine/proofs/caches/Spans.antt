-- The pages of the span that a page is in.
use Rattle.std.proofs.Common.{◌≡◌, ℕ, zero, suc, ◌+◌, ◌-◌, ◌*◌, ◌%◌, ◌/◌, ◌<◌, ◌≤◌, sym, ap, subst, ◌∙◌, arith, mod-lt}
use Rattle.std.proofs.Math.Nat.{mul-mod_right}
use Rattle.tables.specs.Tree.{span}
use Rattle.tables.proofs.walks.Near.{div_within}
use Rattle.tables.proofs.walks.Steps.{span-one, span-zero}
use Rattle.dmatypes.specs.declared.page.TheConstants.{SPAN_PAGES}
use Rattle.dmatypes.specs.Page.{pages_end}
use Rattle.dmatypes.specs.declared.width.Width.{Width}
use Rattle.dmatypes.specs.declared.width.Width.TheVariants.{W39, W48}

-- the first page of the span is a multiple of its size
pub base_even : (p n : ℕ) → 0 < n → (p - p % n) % n ≡ 0
base_even p n pos = let is : p - p % n ≡ n * (p / n) = omega arith in ap (λ x. x % n) is ∙ mul-mod_right n (p / n)

pub base_low : (p n : ℕ) → p - p % n ≤ p
base_low p n = omega arith

pub base_high : (p n : ℕ) → 0 < n → p < p - p % n + n
base_high p n pos = let k : p % n < n = mod-lt p pos in omega arith

-- how far into the span a page of it is
pub rest_is : (b q n : ℕ) → 0 < n → b % n ≡ 0 → b ≤ q → q < b + n → q % n ≡ q - b
rest_is b q n pos even low high =
    let e : q / n ≡ b / n = div_within b q n pos even low high in
    let whole : n * (b / n) ≡ b = omega arith in
    let same : n * (q / n) ≡ n * (b / n) = ap (λ x. n * x) e in
    omega arith

-- the page is in one span with each page of its span
pub one_span : (p q n : ℕ) → 0 < n → p - p % n ≤ q → q < p - p % n + n → p / n ≡ q / n
one_span p q n pos low high =
    div_within (p - p % n) p n pos (base_even p n pos) (base_low p n) (base_high p n pos)
    ∙ sym (div_within (p - p % n) q n pos (base_even p n pos) low high)

-- the span of a page of the space is in the space
pub below_end : (width : Width) (p j q : ℕ) → p < pages_end width → j < 2 → q < p - p % span j + span j → q < pages_end width
below_end W39 p zero q low small high = let one : q < p - p % 1 + 1 = subst (λ n. q < p - p % n + n) span-zero high in omega arith
below_end W39 p (suc zero) q low small high =
    let many : q < p - p % SPAN_PAGES + SPAN_PAGES = subst (λ n. q < p - p % n + n) span-one high in omega arith
below_end W39 p (suc (suc j)) q low small high = absurd (omega arith)
below_end W48 p zero q low small high = let one : q < p - p % 1 + 1 = subst (λ n. q < p - p % n + n) span-zero high in omega arith
below_end W48 p (suc zero) q low small high =
    let many : q < p - p % SPAN_PAGES + SPAN_PAGES = subst (λ n. q < p - p % n + n) span-one high in omega arith
below_end W48 p (suc (suc j)) q low small high = absurd (omega arith)
