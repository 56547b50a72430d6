-- Sums of the first values of a function.
use Rattle.std.proofs.Common.{◌≡◌, ℕ, zero, suc, ◌+◌, ◌<◌, ◌≤◌, ◌≢◌, ◌⊎◌, refl, ap, sym, ◌∙◌, inl, inr, ⊎_elim, arith}
use Rattle.std.proofs.lemmas.Bool.{cases_lt}
use Rattle.tables.specs.Tree.{sum_below}

-- a number below the next one is that one or below it
split : (i n : ℕ) → i < suc n → (i ≡ n) ⊎ (i < n)
split i n l = elim (cases_lt i n) [ inl h ↦ inr h | inr h ↦ inl (omega arith) ]

pub last_or_below : {P : Type 0} (i n : ℕ) → (i ≡ n → P) → (i < n → P) → i < suc n → P
last_or_below i n p q l = ⊎_elim p q (split i n l)

pub sum_below-suc : (g : ℕ → ℕ) (n : ℕ) → sum_below g (suc n) ≡ sum_below g n + g n
unfolding sum_below
sum_below-suc g n = refl

pub sum_below-zero : (g : ℕ → ℕ) → sum_below g 0 ≡ 0
unfolding sum_below
sum_below-zero g = refl

-- functions that agree have one sum
pub sum_below_same : (g h : ℕ → ℕ) (n : ℕ) → ((i : ℕ) → i < n → h i ≡ g i) → sum_below h n ≡ sum_below g n
unfolding sum_below
sum_below_same g h zero e = refl
sum_below_same g h (suc n) e = omega (arith, sum_below_same g h n (λ i l. e i (omega arith)), e n (omega arith))

-- no value is above the sum
pub sum_below_part : (g : ℕ → ℕ) (n i : ℕ) → i < n → g i ≤ sum_below g n
unfolding sum_below
sum_below_part g zero i l = omega arith
sum_below_part g (suc n) i l =
    last_or_below i n (λ e. let same : g i ≡ g n = ap g e in omega arith) (λ below. omega (arith, sum_below_part g n i below)) l

-- a sum where one value changed
pub sum_below_change : (g h : ℕ → ℕ) (n i : ℕ) → i < n → ((j : ℕ) → j < n → j ≢ i → h j ≡ g j) → sum_below h n + g i ≡ sum_below g n + h i
unfolding sum_below
sum_below_change g h zero i l e = omega arith
sum_below_change g h (suc n) i l e =
    last_or_below i n
    (λ s. let same : g i ≡ g n = ap g s in let same2 : h i ≡ h n = ap h s in
    omega (arith, sum_below_same g h n (λ j k. e j (omega arith) (λ q. omega arith))))
    (λ below. let last : h n ≡ g n = e n (omega arith) (λ q. omega arith) in
    omega (arith, sum_below_change g h n i below (λ j k. e j (omega arith))))
    l

-- two values at two places
pub sum_below_two : (g : ℕ → ℕ) (n i j : ℕ) → i < n → j < n → j ≢ i → g i + g j ≤ sum_below g n
unfolding sum_below
sum_below_two g zero i j l k ne = omega arith
sum_below_two g (suc n) i j l k ne =
    last_or_below i n
    (λ s. let same : g i ≡ g n = ap g s in
    let inside : j < n = omega arith in omega (arith, sum_below_part g n j inside))
    (λ below. last_or_below j n
    (λ s. let same : g j ≡ g n = ap g s in omega (arith, sum_below_part g n i below))
    (λ below_too. omega (arith, sum_below_two g n i j below below_too ne)) k)
    l

pub sum_below-zeros : (n : ℕ) → sum_below (λ _. 0) n ≡ 0
unfolding sum_below
sum_below-zeros zero = refl
sum_below-zeros (suc n) = omega (arith, sum_below-zeros n)

-- what stands past the values that count is 0
pub sum_below_tail : (g : ℕ → ℕ) (i n : ℕ) → i ≤ n → ((j : ℕ) → i ≤ j → g j ≡ 0) → sum_below g n ≡ sum_below g i
unfolding sum_below
sum_below_tail g i zero l h = let e : 0 ≡ i = omega arith in ap (sum_below g) e
sum_below_tail g i (suc n) l h =
    let le : i < suc (suc n) = omega arith in
    last_or_below i (suc n) (λ e. ap (sum_below g) (sym e))
    (λ below. let le' : i ≤ n = omega arith in omega (arith, sum_below_tail g i n le' h, h n le')) le

pub sum_below_le_more : (g : ℕ → ℕ) (i n : ℕ) → i ≤ n → sum_below g i ≤ sum_below g n
unfolding sum_below
sum_below_le_more g i zero l = let e : i ≡ 0 = omega arith in let same : sum_below g i ≡ sum_below g 0 = ap (sum_below g) e in omega arith
sum_below_le_more g i (suc n) l =
    let le : i < suc (suc n) = omega arith in
    last_or_below i (suc n) (λ e. let same : sum_below g i ≡ sum_below g (suc n) = ap (sum_below g) e in omega arith)
    (λ below. let le' : i ≤ n = omega arith in omega (arith, sum_below_le_more g i n le')) le

pub sum_below-none : (g : ℕ → ℕ) (n : ℕ) → ((j : ℕ) → j < n → g j ≡ 0) → sum_below g n ≡ 0
sum_below-none g n h = sum_below_same (λ _. 0) g n h ∙ sum_below-zeros n
