-- Runs that are apart: which of them holds a page, and what becomes of them.
use Rattle.std.proofs.Common.{◌≡◌, ◌≢◌, ◌⊎◌, inl, inr, ℕ, zero, suc, ◌+◌, ◌^◌, ◌<◌, ◌≤◌, true, false, cond, Option, Some, None, refl}
use Rattle.std.proofs.Common.{sym, ap, subst, ◌∙◌, arith}
use Rattle.std.specs.Prelude.{nat_lt}
use Rattle.std.specs.Option.{option_or}
use Rattle.std.proofs.lemmas.Bool.{cases_lt, le-ltb, lt-ltb, ltb-true}
use Rattle.std.proofs.lemmas.Option.{same_Some}
use Rattle.dmatypes.specs.declared.page.TheConstants.{FRAMES_END}
use Rattle.dmatypes.specs.Page.{Range}
use Rattle.dmatypes.specs.World.{Target, is_within}
use Rattle.dmatypes.proofs.numbers.Ranges.{within_is, within_not, within_or_not}
use Rattle.dmatypes.proofs.histories.Maps.{same_or_not}
use Rattle.checker.specs.declared.run.Run.{Run}
use Rattle.checker.specs.Runs.{AreApart, Holds, by_run, by_runs, target_of}

abbrev pub Runs : Type 0
Runs = ℕ → Option Run

-- ---- one run

by_run_none : (k : ℕ) (o : Option Run) (p : ℕ) → ((r : Run) → o ≡ Some r → p < k + r.pages → ⊥) → by_run k o p ≡ None
by_run_none k None p h = refl
by_run_none k (Some r) p h =
    elim (cases_lt p (k + r.pages)) [
      | inl below ↦ absurd (h r refl below)
      | inr past ↦ rw (le-ltb p (k + r.pages) past) refl
    ]

by_run_some : (k : ℕ) (r : Run) (p : ℕ) → p < k + r.pages → by_run k (Some r) p ≡ Some (target_of k r p)
by_run_some k r p below = rw (lt-ltb p (k + r.pages) below) refl

record ComesFrom (k : ℕ) (o : Option Run) (p : ℕ) (t : Target) : Type 0 where
  run : Run
  there : o ≡ Some run
  below : p < k + run.pages
  target : t ≡ target_of k run p

comes_from : (k : ℕ) (o : Option Run) (p : ℕ) (t : Target) → by_run k o p ≡ Some t → ComesFrom k o p t
comes_from k None p t e = absurd cc
comes_from k (Some r) p t e =
    elim (nat_lt p (k + r.pages))
    as (λ b. nat_lt p (k + r.pages) ≡ b → cond b (Some (target_of k r p)) None ≡ Some t → ComesFrom k (Some r) p t) [
      | true ↦ λ is h. record {
        run = r;
        there = refl;
        below = ltb-true p (k + r.pages) is;
        target = sym (same_Some (target_of k r p) t h);
      }
      | false ↦ λ is h. absurd cc
    ] refl e

-- ---- the last of the runs

none_holds : (runs : Runs) (n p : ℕ) → ((k : ℕ) (r : Run) → k ≤ n → runs k ≡ Some r → p < k + r.pages → ⊥) → by_runs runs n p ≡ None
unfolding by_runs
none_holds runs zero p h = by_run_none 0 (runs 0) p (λ r is below. h 0 r (omega arith) is below)
none_holds runs (suc n) p h =
    rw (by_run_none (suc n) (runs (suc n)) p (λ r is below. h (suc n) r (omega arith) is below))
    (none_holds runs n p (λ k r le is below. h k r (omega (arith, le)) is below))

last_holds : (runs : Runs) (n p k : ℕ) (r : Run) → k ≤ n → runs k ≡ Some r → p < k + r.pages
    → ((j : ℕ) (s : Run) → k < j → j ≤ n → runs j ≡ Some s → p < j + s.pages → ⊥) → by_runs runs n p ≡ Some (target_of k r p)
unfolding by_runs
last_holds runs zero p zero r le is below last = ap (λ (o : Option Run). by_run 0 o p) is ∙ by_run_some 0 r p below
last_holds runs zero p (suc k) r le is below last = absurd (omega (arith, le))
last_holds runs (suc n) p k r le is below last =
    elim (cases_lt k (suc n)) [
      | inl before ↦
          rw (by_run_none (suc n) (runs (suc n)) p (λ s there low. last (suc n) s before (omega arith) there low))
          (last_holds runs n p k r (omega (arith, before)) is below
          (λ j s more less there low. last j s more (omega (arith, less)) there low))
      | inr from ↦
          let same : k ≡ suc n = omega (arith, le, from) in
          let here : runs (suc n) ≡ Some r = ap runs (sym same) ∙ is in
          let low : p < suc n + r.pages = omega (arith, same, below) in
          let found : by_run (suc n) (runs (suc n)) p ≡ Some (target_of k r p) =
          ap (λ (o : Option Run). by_run (suc n) o p) here ∙ by_run_some (suc n) r p low
          ∙ ap (λ (m : ℕ). Some (target_of m r p)) (sym same) in
          rw found refl
    ]

-- the run that holds a page, and what it maps it to
pub record HeldBy (runs : Runs) (n p : ℕ) (t : Target) : Type 0 where
  pub first : ℕ
  pub run : Run
  pub before : first ≤ n
  pub there : runs first ≡ Some run
  pub below : p < first + run.pages
  pub target : t ≡ target_of first run p

holder : (runs : Runs) (n p : ℕ) (t : Target) → by_runs runs n p ≡ Some t → HeldBy runs n p t
unfolding by_runs
holder runs zero p t e =
    let c = comes_from 0 (runs 0) p t e in
    record { first = 0; run = c.run; before = omega arith; there = c.there; below = c.below; target = c.target }
holder runs (suc n) p t e =
    elim (by_run (suc n) (runs (suc n)) p)
    as (λ o. by_run (suc n) (runs (suc n)) p ≡ o → option_or o (by_runs runs n p) ≡ Some t → HeldBy runs (suc n) p t) [
      | Some x ↦ λ is h.
          let c = comes_from (suc n) (runs (suc n)) p t (is ∙ h) in
          record { first = suc n; run = c.run; before = omega arith; there = c.there; below = c.below; target = c.target }
      | None ↦ λ is h.
          let c = holder runs n p t h in
          record { first = c.first; run = c.run; before = omega (arith, c.before); there = c.there; below = c.below; target = c.target }
    ] refl e

-- ---- runs that are apart

pub held : (runs : Runs) → AreApart runs → (k p : ℕ) (r : Run) → runs k ≡ Some r → Holds k r p → by_runs runs p p ≡ Some (target_of k r p)
held runs a k p r is h =
    last_holds runs p p k r h.0 is h.1 (λ j s more less there low. omega (arith, a.apart k j r s is there more, less, h.1))

pub not_held : (runs : Runs) (p : ℕ) → ((k : ℕ) (r : Run) → runs k ≡ Some r → Holds k r p → ⊥) → by_runs runs p p ≡ None
not_held runs p h = none_holds runs p p (λ k r le is below. h k r is (le, below))

pub held_by : (runs : Runs) (p : ℕ) (t : Target) → by_runs runs p p ≡ Some t → HeldBy runs p p t
held_by runs p t e = holder runs p p t e

-- a page that is mapped to nothing is held by no run
pub none_held : (runs : Runs) → AreApart runs → (k p : ℕ) (r : Run) → by_runs runs p p ≡ None → runs k ≡ Some r → Holds k r p → ⊥
none_held runs a k p r none is h = let some : by_runs runs p p ≡ Some (target_of k r p) = held runs a k p r is h in absurd cc

-- by the last run that begins at a page or before
pub past_last : (runs : Runs) → AreApart runs → (k p : ℕ) (r : Run) → runs k ≡ Some r → k ≤ p → k + r.pages ≤ p
    → ((j : ℕ) → k < j → j ≤ p → runs j ≡ None) → by_runs runs p p ≡ None
past_last runs a k p r is before past last = not_held runs p (λ j s there h.
    elim (cases_lt k j) [
      | inl behind ↦ let none : runs j ≡ None = last j behind h.0 in absurd cc
      | inr at ↦ elim (cases_lt j k) [
        | inl front ↦ absurd (omega (arith, a.apart j k s r there is front, h.1, past))
        | inr not_before ↦
            let same : j ≡ k = omega (arith, at, not_before) in
            let one : s ≡ r = same_Some s r (sym there ∙ ap runs same ∙ is) in
            let long : j + s.pages ≡ k + r.pages = rw (same, one) refl in
            absurd (omega (arith, long, h.1, past))
      ]
    ])

-- some of the runs are apart as all are
pub some_apart : (runs fewer : Runs) → AreApart runs → ((k : ℕ) (r : Run) → fewer k ≡ Some r → runs k ≡ Some r) → AreApart fewer
some_apart runs fewer a sub = record {
  some = λ k r is. a.some k r (sub k r is);
  ends = λ k r is. a.ends k r (sub k r is);
  frames = λ k r is. a.frames k r (sub k r is);
  apart = λ k j r s is there less. a.apart k j r s (sub k r is) (sub j s there) less;
}

-- the same runs map pages to the same
pub same_runs : (f g : Runs) (p : ℕ) → AreApart f → AreApart g
    → ((k : ℕ) (r : Run) → Holds k r p → f k ≡ Some r → g k ≡ Some r) → ((k : ℕ) (r : Run) → Holds k r p → g k ≡ Some r → f k ≡ Some r)
    → by_runs g p p ≡ by_runs f p p
same_runs f g p a b to back =
    elim (by_runs f p p) as (λ o. by_runs f p p ≡ o → by_runs g p p ≡ o) [
      | Some t ↦ λ is.
          let h = held_by f p t is in
          let holds : Holds h.first h.run p = (h.before, h.below) in
          held g b h.first p h.run (to h.first h.run holds h.there) holds ∙ ap Some (sym h.target)
      | None ↦ λ is. not_held g p (λ k r there h. none_held f a k p r is (back k r h there) h)
    ] refl

-- ---- a run more, where no page of it was held

-- g is f with this run at a page
pub record HasMore (f g : Runs) (first : ℕ) (r : Run) : Type 0 where
  pub here : g first ≡ Some r
  pub others : (k : ℕ) → k ≢ first → g k ≡ f k
  pub some : 1 ≤ r.pages
  pub ends : first + r.pages < 2 ^ 64
  pub frames : r.frame + r.pages ≤ FRAMES_END
  pub free : (p : ℕ) → Holds first r p → by_runs f p p ≡ None

of_more : (f g : Runs) (first k : ℕ) (r s : Run) → HasMore f g first r → g k ≡ Some s
    → ((k ≡ first) × (s ≡ r)) ⊎ ((k ≢ first) × (f k ≡ Some s))
of_more f g first k r s more is =
    elim (same_or_not k first) [
      | inl same ↦ inl (same, same_Some s r (sym is ∙ ap g same ∙ more.here))
      | inr other ↦ inr (other, sym (more.others k other) ∙ is)
    ]

-- the page was no run's first
was_free : (f g : Runs) (first k : ℕ) (r s : Run) → AreApart f → HasMore f g first r → f k ≡ Some s → Holds first r k → ⊥
was_free f g first k r s a more is h = none_held f a k k s (more.free k h) is (omega arith, omega (arith, a.some k s is))

pub of_one : (P : Run → Type 0) (s r : Run) → s ≡ r → P r → P s
of_one P s r same h = subst P (sym same) h

pub more_apart : (f g : Runs) (first : ℕ) (r : Run) → AreApart f → HasMore f g first r → AreApart g
more_apart f g first r a more = record {
  some = λ k s is. elim (of_more f g first k r s more is) [
    | inl one ↦ of_one (λ (x : Run). 1 ≤ x.pages) s r one.1 more.some
    | inr old ↦ a.some k s old.1
  ];
  ends = λ k s is. elim (of_more f g first k r s more is) [
    | inl one ↦ of_one (λ (x : Run). k + x.pages < 2 ^ 64) s r one.1 (omega (arith, one.0, more.ends))
    | inr old ↦ a.ends k s old.1
  ];
  frames = λ k s is. elim (of_more f g first k r s more is) [
    | inl one ↦ of_one (λ (x : Run). x.frame + x.pages ≤ FRAMES_END) s r one.1 more.frames
    | inr old ↦ a.frames k s old.1
  ];
  apart = λ k j s t is there less. elim (of_more f g first k r s more is) [
    | inl one ↦ elim (of_more f g first j r t more there) [
      | inl two ↦ absurd (omega (arith, one.0, two.0, less))
      | inr old ↦ of_one (λ (x : Run). k + x.pages ≤ j) s r one.1 (elim (cases_lt j (first + r.pages)) [
        | inl inside ↦ absurd (was_free f g first j r t a more old.1 (omega (arith, one.0, less), inside))
        | inr past ↦ omega (arith, one.0, past)
      ])
    ]
    | inr old ↦ elim (of_more f g first j r t more there) [
      | inl two ↦ elim (cases_lt first (k + s.pages)) [
        | inl crosses ↦
            let none : by_runs f first first ≡ None = more.free first (omega arith, omega (arith, more.some)) in
            absurd (none_held f a k first s none old.1 (omega (arith, two.0, less), crosses))
        | inr stops ↦ omega (arith, two.0, stops)
      ]
      | inr also ↦ a.apart k j s t old.1 also.1 less
    ]
  ];
}

-- at the pages of the new run, and elsewhere
pub more_there : (f g : Runs) (first : ℕ) (r : Run) (p : ℕ) → AreApart f → HasMore f g first r → Holds first r p
    → by_runs g p p ≡ Some (target_of first r p)
more_there f g first r p a more h = held g (more_apart f g first r a more) first p r more.here h

pub more_elsewhere : (f g : Runs) (first : ℕ) (r : Run) (p : ℕ) → AreApart f → HasMore f g first r → (Holds first r p → ⊥)
    → by_runs g p p ≡ by_runs f p p
more_elsewhere f g first r p a more out =
    same_runs f g p a (more_apart f g first r a more)
    (λ k s h is. more.others k (λ (same : k ≡ first).
    was_free f g first k r s a more is (omega (arith, same), omega (arith, same, more.some))) ∙ is)
    (λ k s h is. elim (of_more f g first k r s more is) [
      | inl one ↦
          let below : p < first + r.pages = of_one (λ (x : Run). p < first + x.pages) r s (sym one.1) (omega (arith, one.0, h.1)) in
          absurd (out (omega (arith, one.0, h.0), below))
      | inr old ↦ old.1
    ])

pub more_pages : (f g : Runs) (first : ℕ) (r : Run) (p : ℕ) → AreApart f → HasMore f g first r
    → by_runs g p p
    ≡ option_or (cond (is_within (record { first = first; pages = r.pages }) p) (Some (target_of first r p)) None) (by_runs f p p)
more_pages f g first r p a more =
    let s : Range = record { first = first; pages = r.pages } in
    elim (within_or_not s p) [
      | inl inside ↦ rw (within_is s p inside) (more_there f g first r p a more inside)
      | inr out ↦ rw (within_not s p out) (more_elsewhere f g first r p a more (λ h. elim out [
        | inl before ↦ omega (arith, before, h.0)
        | inr past ↦ omega (arith, past, h.1)
      ]))
    ]
