-- Several frames that become free at once.
use Rattle.std.proofs.Common.{◌≡◌, ℕ, zero, suc, ◌+◌, ◌-◌, ◌<◌, ◌≤◌, List, ◌++◌, length, take, drop, length-take, length-drop}
use Rattle.std.proofs.Common.{length-append, refl, ap, sym, ◌∙◌, subst, arith}
use Rattle.std.proofs.lemmas.List.{take-append-le, take-take}
use Rattle.std.proofs.lemmas.List.Sums.{sum_by-append}
use Rattle.std.proofs.Math.Seq.{take-append-add, take-append_seam}
use Rattle.tables.specs.Tree.{one_if_same}
use Rattle.tables.specs.Pool.{Moment, Pool, occurs, IsZeroed, IsPool}
use Rattle.tables.proofs.pools.FreeList.{longest}

pub occurs-append : (f : ℕ) (xs ys : List ℕ) → occurs f (xs ++ ys) ≡ occurs f xs + occurs f ys
occurs-append f xs ys = sum_by-append (λ y. one_if_same y f) xs ys

-- the front of a list whose middle was replaced
pub front_given : (n limit : ℕ) (xs given rest more : List ℕ) → n ≤ length xs → n + length given ≤ limit
    → take (n + length given) (take limit (take n xs ++ (given ++ rest) ++ more)) ≡ take n xs ++ given
front_given n limit xs given rest more short fits =
    let long : length (take n xs) ≡ n = omega (arith, length-take n xs) in
    let all : List ℕ = take n xs ++ (given ++ rest) ++ more in
    let outer : take (n + length given) (take limit all) ≡ take (n + length given) all = take-take (n + length given) limit all fits in
    let inner : take (n + length given) all ≡ take (n + length given) (take n xs ++ (given ++ rest)) =
    take-append-le (n + length given) (take n xs ++ (given ++ rest)) more
    (omega (arith, length-append (take n xs) (given ++ rest), length-append given rest)) in
    let parts : take (length (take n xs) + length given) (take n xs ++ (given ++ rest)) ≡ take n xs ++ take (length given) (given ++ rest) =
    take-append-add (take n xs) (given ++ rest) (length given) in
    outer ∙ inner ∙ ap (λ k. take (k + length given) (take n xs ++ (given ++ rest))) (sym long) ∙ parts
    ∙ ap (λ ys. take n xs ++ ys) (take-append_seam given rest)

pub length_given : (limit : ℕ) (xs front : List ℕ) → limit ≡ length xs → length front ≤ length xs
    → length (take limit (front ++ drop (length front) xs)) ≡ length xs
length_given limit xs front e le =
    length-take limit (front ++ drop (length front) xs)
    ∙ omega (arith, length-append front (drop (length front) xs), length-drop (length front) xs)

-- a pool with more free frames
pub given_keeps : (pool : Pool) (given free : List ℕ) → IsPool pool → ((f : ℕ) → occurs f pool.free + occurs f given ≤ 1)
    → ((f : ℕ) → 0 < occurs f given → f < pool.frames) → ((f : ℕ) → 0 < occurs f given → IsZeroed pool.words f)
    → free ≡ pool.free ++ given → IsPool (record pool { free = free })
given_keeps pool given free ok once within zeroed e =
    let split : (f : ℕ) → occurs f free ≡ occurs f pool.free + occurs f given = λ f. ap (occurs f) e ∙ occurs-append f pool.free given in
    record {
      fit = ok.fit;
      few = ok.few;
      once = λ f. omega (arith, split f, once f);
      within = λ f past. omega (arith, split f, ok.within f past, none_past f past);
      zeroed = λ f some. either f (occurs f pool.free) refl (omega (arith, split f));
    }
  where
    none_past : (f : ℕ) → pool.frames ≤ f → occurs f given ≡ 0
    none_past f past = by_count (occurs f given) (λ some. within f some)
      where
        by_count : (n : ℕ) → (0 < n → f < pool.frames) → n ≡ 0
        by_count zero h = refl
        by_count (suc n) h = absurd (let k : f < pool.frames = h (omega arith) in omega arith)

    either : (f n : ℕ) → occurs f pool.free ≡ n → 0 < n + occurs f given → IsZeroed pool.words f
    either f zero e some = zeroed f (omega arith)
    either f (suc n) e some = ok.zeroed f (omega arith)

-- the frames of a pool hold both
pub given_fits : (pool : Pool) (given : List ℕ) → IsPool pool → ((f : ℕ) → occurs f pool.free + occurs f given ≤ 1)
    → ((f : ℕ) → 0 < occurs f given → f < pool.frames) → length pool.free + length given ≤ pool.frames
given_fits pool given ok once within =
    let all : length (pool.free ++ given) ≤ pool.frames =
    longest (pool.free ++ given) pool.frames (λ f. omega (arith, occurs-append f pool.free given, once f))
    (λ f past. omega (arith, occurs-append f pool.free given, ok.within f past, none_past f past)) in
    omega (arith, length-append pool.free given)
  where
    none_past : (f : ℕ) → pool.frames ≤ f → occurs f given ≡ 0
    none_past f past = by_count (occurs f given) (λ some. within f some)
      where
        by_count : (n : ℕ) → (0 < n → f < pool.frames) → n ≡ 0
        by_count zero h = refl
        by_count (suc n) h = absurd (let k : f < pool.frames = h (omega arith) in omega arith)

-- the slots of a pool with frames written behind the n free ones
abbrev pub slots_given : ℕ → ℕ → ℕ → List ℕ → List ℕ → List ℕ → List ℕ
slots_given limit n k xs ys new =
    take limit (take n ys ++ (new ++ drop (n + k - n) (drop n ys)) ++ drop (length (take n ys ++ (new ++ drop (n + k - n) (drop n ys)))) xs)

-- what a pool is then
abbrev pub IsGiven : List ℕ → List Moment → ℕ → ℕ → ℕ → List ℕ → List ℕ → List ℕ → List ℕ → Type 0
IsGiven words trail limit n k xs ys new given =
    IsPool (record {
      words = words;
      free = take (n + k) (slots_given limit n k xs ys new);
      frames = length (slots_given limit n k xs ys new);
      trail = trail;
    })
    × (n + k ≤ length (slots_given limit n k xs ys new))
    × (take (n + k) (slots_given limit n k xs ys new) ≡ take n xs ++ given)

given_same : (words : List ℕ) (trail : List Moment) (limit n : ℕ) (xs given : List ℕ) → limit ≡ length xs → n ≤ length xs
    → IsPool (record { words = words; free = take n xs; frames = length xs; trail = trail })
    → ((f : ℕ) → occurs f (take n xs) + occurs f given ≤ 1) → ((f : ℕ) → 0 < occurs f given → f < length xs)
    → ((f : ℕ) → 0 < occurs f given → IsZeroed words f) → IsGiven words trail limit n (length given) xs xs given given
given_same words trail limit n xs given e short ok once within zeroed =
    let pool : Pool = record { words = words; free = take n xs; frames = length xs; trail = trail } in
    let k : ℕ = length given in
    let front : List ℕ = take n xs ++ (given ++ drop (n + k - n) (drop n xs)) in
    let fits : length (take n xs) + k ≤ length xs = given_fits pool given ok once within in
    let long : length (take n xs) ≡ n = omega (arith, length-take n xs) in
    let front_long : length front ≤ length xs =
    omega (
      arith,
      length-append (take n xs) (given ++ drop (n + k - n) (drop n xs)),
      length-append given (drop (n + k - n) (drop n xs)),
      length-drop (n + k - n) (drop n xs),
      length-drop n xs,
    ) in
    let same : length (slots_given limit n k xs xs given) ≡ length xs = length_given limit xs front e front_long in
    let free : take (n + k) (slots_given limit n k xs xs given) ≡ take n xs ++ given =
    front_given n limit xs given (drop (n + k - n) (drop n xs)) (drop (length front) xs) short (omega arith) in (
      subst (λ (s : ℕ).
          IsPool (record { words = words; free = take (n + k) (slots_given limit n k xs xs given); frames = s; trail = trail })) (sym same)
          (given_keeps pool given (take (n + k) (slots_given limit n k xs xs given)) ok once within zeroed free),
      omega arith,
      free,
    )

pub given_state : (words : List ℕ) (trail : List Moment) (limit n : ℕ) (xs ys new given : List ℕ) → ys ≡ xs → new ≡ given
    → limit ≡ length xs → n ≤ length xs
    → IsPool (record { words = words; free = take n xs; frames = length xs; trail = trail })
    → ((f : ℕ) → occurs f (take n xs) + occurs f given ≤ 1) → ((f : ℕ) → 0 < occurs f given → f < length xs)
    → ((f : ℕ) → 0 < occurs f given → IsZeroed words f) → IsGiven words trail limit n (length given) xs ys new given
given_state words trail limit n xs ys new given ey en e short ok once within zeroed =
    subst (λ (zs : List ℕ). IsGiven words trail limit n (length given) xs zs new given) (sym ey)
    (subst (λ (zs : List ℕ). IsGiven words trail limit n (length given) xs xs zs given) (sym en)
    (given_same words trail limit n xs given e short ok once within zeroed))
