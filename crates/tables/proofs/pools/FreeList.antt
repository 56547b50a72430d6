-- The pool's list of free frames, and one word written.
use Rattle.std.proofs.Common.{◌≡◌, ℕ, zero, suc, ◌+◌, ◌-◌, ◌*◌, ◌<◌, ◌≤◌, ◌≢◌, ◌⊎◌, List, [], ◌∷◌, ◌++◌, length, get_or, set, take, refl}
use Rattle.std.proofs.Common.{ap, sym, ◌∙◌, subst, inl, inr, ⊎_elim, arith, get_or-set_same, get_or-set_other, length-set, replicate}
use Rattle.std.proofs.lemmas.List.Sums.{sum_by_more, sum_by_push, sum_by-cons}
use Rattle.std.proofs.lemmas.List.{take_more_set, get_or-replicate}
use Rattle.std.proofs.lemmas.Bool.{cases_lt}
use Rattle.std.proofs.lemmas.Bool.Decides.{eqb_tells}
use Rattle.tables.specs.declared.entries.TheConstants.{TABLE_ENTRIES}
use Rattle.tables.specs.Tree.{sum_below, one_if_same}
use Rattle.tables.specs.Pool.{Moment, Pool, word, occurs, IsZeroed, IsPool, IsWrite}
use Rattle.tables.proofs.sums.Firsts.{sum_below_same, sum_below_change, sum_below-zeros}
use Rattle.tables.proofs.sums.OneFrame.{one_if_same-self, one_if_same-other, one_if_same_le}

pub same_or_not : (a b : ℕ) → (a ≡ b) ⊎ (a ≢ b)
same_or_not a b = elim (eqb_tells a b) [ inl h ↦ inl h.1 | inr h ↦ inr h.1 ]

occurs-cons : (x : ℕ) (xs : List ℕ) (f : ℕ) → occurs f (x ∷ xs) ≡ one_if_same x f + occurs f xs
occurs-cons x xs f = sum_by-cons (λ y. one_if_same y f) x xs

-- one more of the front
pub occurs_more : (xs : List ℕ) (n f : ℕ) → n < length xs
    → occurs f (take (n + 1) xs) ≡ occurs f (take n xs) + one_if_same (get_or xs n 0) f
occurs_more xs n f h = sum_by_more (λ x. one_if_same x f) xs n 0 h

pub occurs_front : (xs : List ℕ) (n f : ℕ) → 0 < n → n ≤ length xs
    → occurs f (take (n - 1) xs) + one_if_same (get_or xs (n - 1) 0) f ≡ occurs f (take n xs)
occurs_front xs n f pos h =
    let e : n - 1 + 1 ≡ n = omega arith in
    sym (occurs_more xs (n - 1) f (omega arith)) ∙ ap (λ k. occurs f (take k xs)) e

pub last_free : (xs : List ℕ) (n : ℕ) → 0 < n → n ≤ length xs → 0 < occurs (get_or xs (n - 1) 0) (take n xs)
last_free xs n pos h = omega (arith, occurs_front xs n (get_or xs (n - 1) 0) pos h, one_if_same-self (get_or xs (n - 1) 0))

-- one more free frame, at the end of the front
pub occurs_given : (xs : List ℕ) (n v f : ℕ) → n < length xs → occurs f (take (n + 1) (set xs n v)) ≡ occurs f (take n xs) + one_if_same v f
occurs_given xs n v f h = ap (occurs f) (take_more_set xs n v h) ∙ sum_by_push (λ y. one_if_same y f) (take n xs) v

-- a sum of two functions
pub sum_below_plus : (g h : ℕ → ℕ) (n : ℕ) → sum_below (λ i. g i + h i) n ≡ sum_below g n + sum_below h n
unfolding sum_below
sum_below_plus g h zero = refl
sum_below_plus g h (suc n) = omega (arith, sum_below_plus g h n)

sum_below_one : (x n : ℕ) → x < n → sum_below (one_if_same x) n ≡ 1
sum_below_one x n l =
    omega (
      arith,
      sum_below_change (λ _. 0) (one_if_same x) n x l (λ j k ne. one_if_same-other x j (λ e. ne (sym e))),
      sum_below-zeros n,
      one_if_same-self x,
    )

-- how long a list is, by how often it has each number
length_total : (xs : List ℕ) (n : ℕ) → ((f : ℕ) → n ≤ f → occurs f xs ≡ 0) → sum_below (λ f. occurs f xs) n ≡ length xs
length_total [] n h = sum_below-zeros n
length_total (x ∷ xs) n h =
    let inside : x < n = ⊎_elim (λ l. l) (λ g. absurd (omega (arith, h x g, one_if_same-self x, occurs-cons x xs x))) (cases_lt x n) in
    omega (
      arith,
      sum_below_plus (one_if_same x) (λ f. occurs f xs) n,
      sum_below_one x n inside,
      sum_below_same (λ f. one_if_same x f + occurs f xs) (λ f. occurs f (x ∷ xs)) n (λ f _. occurs-cons x xs f),
      length_total xs n (λ f g. omega (arith, h f g, occurs-cons x xs f)),
    )

sum_below_le : (g : ℕ → ℕ) (n : ℕ) → ((i : ℕ) → g i ≤ 1) → sum_below g n ≤ n
unfolding sum_below
sum_below_le g zero h = omega arith
sum_below_le g (suc n) h = omega (arith, sum_below_le g n h, h n)

-- a list of different numbers below a bound is no longer than it
pub longest : (xs : List ℕ) (n : ℕ) → ((f : ℕ) → occurs f xs ≤ 1) → ((f : ℕ) → n ≤ f → occurs f xs ≡ 0) → length xs ≤ n
longest xs n once within = omega (arith, sum_below_le (λ f. occurs f xs) n once, length_total xs n within)

at_most : (xs : List ℕ) (g f : ℕ) → occurs f xs ≤ 1 → occurs g xs ≡ 0 → occurs f xs + one_if_same g f ≤ 1
at_most xs g f once none =
    ⊎_elim (λ e. let same : occurs g xs ≡ occurs f xs = ap (λ x. occurs x xs) e in omega (arith, one_if_same_le g f))
    (λ ne. omega (arith, one_if_same-other g f ne)) (same_or_not g f)

-- a list of different numbers below a bound, without one of them, is shorter than the bound
pub shorter : (xs : List ℕ) (n g : ℕ) → ((f : ℕ) → occurs f xs ≤ 1) → ((f : ℕ) → n ≤ f → occurs f xs ≡ 0) → g < n → occurs g xs ≡ 0
    → length xs < n
shorter xs n g once within g_in none =
    omega (
      arith,
      sum_below_le (λ f. occurs f xs + one_if_same g f) n (λ f. at_most xs g f (once f) none),
      sum_below_plus (λ f. occurs f xs) (one_if_same g) n,
      sum_below_one g n g_in,
      length_total xs n within,
    )

-- two places of the words are one only at one table and index
pub one_place : (t i f k : ℕ) → i < TABLE_ENTRIES → k < TABLE_ENTRIES → f * TABLE_ENTRIES + k ≡ t * TABLE_ENTRIES + i → (f ≡ t) × (k ≡ i)
one_place t i f k a b e = (omega arith, omega arith)

pub wrote : (words : List ℕ) (frames t i w : ℕ) → length words ≡ frames * TABLE_ENTRIES → t < frames → i < TABLE_ENTRIES
    → IsWrite words (set words (t * TABLE_ENTRIES + i) w) t i w
unfolding word
wrote words frames t i w fit t_in i_in =
    let inside : t * TABLE_ENTRIES + i < length words = omega arith in (
      get_or-set_same words (t * TABLE_ENTRIES + i) w 0 inside,
      λ f k k_in other.
          get_or-set_other words (t * TABLE_ENTRIES + i) (f * TABLE_ENTRIES + k) w 0
          (λ e. let one : (f ≡ t) × (k ≡ i) = one_place t i f k i_in k_in e in other one.0 one.1),
    )

pub write_keeps : (pool : Pool) (t i w : ℕ) (trail : List Moment) → IsPool pool → t < pool.frames → i < TABLE_ENTRIES
    → occurs t pool.free ≡ 0 → IsPool (record pool { words = set pool.words (t * TABLE_ENTRIES + i) w; trail = trail })
write_keeps pool t i w trail ok t_in i_in taken = record {
  fit = length-set pool.words (t * TABLE_ENTRIES + i) w ∙ ok.fit;
  few = ok.few;
  once = ok.once;
  within = ok.within;
  zeroed = λ f free k k_in.
      (wrote pool.words pool.frames t i w ok.fit t_in i_in).1 f k k_in
      (λ e _. let same : occurs f pool.free ≡ occurs t pool.free = ap (λ x. occurs x pool.free) e in absurd (omega arith))
      ∙ ok.zeroed f free k k_in;
}

-- a pool whose free frames are fewer
pub fewer_keeps : (pool : Pool) (free : List ℕ) → IsPool pool → ((f : ℕ) → occurs f free ≤ occurs f pool.free)
    → IsPool (record pool { free = free })
fewer_keeps pool free ok le = record {
  fit = ok.fit;
  few = ok.few;
  once = λ f. omega (arith, le f, ok.once f);
  within = λ f past. omega (arith, le f, ok.within f past);
  zeroed = λ f has. ok.zeroed f (omega (arith, le f));
}

-- a pool with one more free frame
pub more_keeps : (pool : Pool) (frame : ℕ) (free : List ℕ) (trail : List Moment) → IsPool pool → frame < pool.frames
    → occurs frame pool.free ≡ 0 → IsZeroed pool.words frame
    → ((f : ℕ) → occurs f free ≡ occurs f pool.free + one_if_same frame f) → IsPool (record pool { free = free; trail = trail })
more_keeps pool frame free trail ok inside none zero_words is = record {
  fit = ok.fit;
  few = ok.few;
  once = λ f. omega (arith, is f, at_most pool.free frame f (ok.once f) none);
  within = λ f past. omega (arith, is f, ok.within f past, one_if_same-other frame f (λ e. omega arith));
  zeroed =
      λ f has.
      ⊎_elim (λ e. subst (λ x. IsZeroed pool.words x) e zero_words) (λ ne. ok.zeroed f (omega (arith, is f, one_if_same-other frame f ne)))
      (same_or_not frame f);
}

pub counted_up : (xs : List ℕ) (n : ℕ) → ((f : ℕ) → f < n → occurs f xs ≡ 1) → ((f : ℕ) → n ≤ f → occurs f xs ≡ 0) → (f : ℕ) → f < n + 1
    → occurs f (xs ++ n ∷ []) ≡ 1
counted_up xs n below past f l =
    let step : occurs f (xs ++ n ∷ []) ≡ occurs f xs + one_if_same n f = sum_by_push (λ y. one_if_same y f) xs n in
    ⊎_elim
    (λ e. subst (λ x. occurs x (xs ++ n ∷ []) ≡ 1) e
    (omega (arith, sum_by_push (λ y. one_if_same y n) xs n, past n (omega arith), one_if_same-self n)))
    (λ ne. omega (arith, step, below f (omega arith), one_if_same-other n f ne)) (same_or_not n f)

pub counted_past : (xs : List ℕ) (n : ℕ) → ((f : ℕ) → n ≤ f → occurs f xs ≡ 0) → (f : ℕ) → n + 1 ≤ f → occurs f (xs ++ n ∷ []) ≡ 0
counted_past xs n past f l =
    omega (arith, sum_by_push (λ y. one_if_same y f) xs n, past f (omega arith), one_if_same-other n f (λ e. omega arith))

pub counted_once : (xs : List ℕ) (n : ℕ) → ((f : ℕ) → f < n → occurs f xs ≡ 1) → ((f : ℕ) → n ≤ f → occurs f xs ≡ 0) → (f : ℕ)
    → occurs f xs ≤ 1
counted_once xs n below past f = ⊎_elim (λ l. omega (arith, below f l)) (λ g. omega (arith, past f g)) (cases_lt f n)

pub zero_words : (words : List ℕ) (frames : ℕ) → words ≡ replicate (frames * TABLE_ENTRIES) 0 → (f k : ℕ) → f < frames → k < TABLE_ENTRIES
    → word words f k ≡ 0
unfolding word
zero_words words frames e f k f_in k_in =
    let inside : f * TABLE_ENTRIES + k < frames * TABLE_ENTRIES = omega arith in
    ap (λ w. get_or w (f * TABLE_ENTRIES + k) 0) e ∙ get_or-replicate (frames * TABLE_ENTRIES) (f * TABLE_ENTRIES + k) 0 0 inside
