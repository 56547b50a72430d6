use Rattle.std.proofs.Common.{◌≡◌, ◌-◌, ◌<◌, ◌≤◌, ℕ, List, length, get_or, None, Some, true, false, subst, sym, arith}
use Rattle.std.specs.Prelude.{nat_le}
use Rattle.std.specs.List.Sorted.{IsPartitionPoint, IsPartitionedBy}
use Rattle.std.proofs.lemmas.Bool.{leb-false, leb-true}
use Rattle.checker.specs.declared.run.Run.{Run}
use Rattle.checker.specs.Rising.{IsSoundRun, at_runs, is_rising}
use Rattle.checker.specs.Runs.{by_run}
use Rattle.checker.proofs.worlds.Rising.{last_begun, none_begun, parted, rises, sound_at}
use Rattle.checker.proofs.taken.Taken.last_run.Goals as goal

abbrev Parts : List (ℕ × Run) → ℕ → ℕ → Type 0
Parts es page n = IsPartitionedBy (λ e. nat_le e.0 page) es
    → IsPartitionPoint (λ e. nat_le e.0 page ≡ true) (λ e. nat_le e.0 page ≡ false) es n

none_of : (es : List (ℕ × Run)) (page n : ℕ) → is_rising 0 es ≡ true → Parts es page n → n ≡ 0 → at_runs es page ≡ None
none_of es page n h parts zero_is =
    let point = parts (parted page es (rises 0 es h)) in
    none_begun page (0, record { pages = 0; frame = 0; rights = 0 }) es (λ j less.
    leb-false (get_or es j _).0 page (point.1 j _ (omega (arith, zero_is)) less))

last_of : (es : List (ℕ × Run)) (page n : ℕ) (d : ℕ × Run) → is_rising 0 es ≡ true → Parts es page n → (n ≡ 0 → ⊥) → n ≤ length es
    → ((get_or es (n - 1) d).0 ≤ page) × IsSoundRun (get_or es (n - 1) d).1
    × (at_runs es page ≡ by_run (get_or es (n - 1) d).0 (Some (get_or es (n - 1) d).1) page)
last_of es page n d h parts some few =
    let rising = rises 0 es h in
    let point = parts (parted page es rising) in
    let below : n - 1 < length es = omega (arith, some, few) in
    let begun : (get_or es (n - 1) d).0 ≤ page =
    leb-true (get_or es (n - 1) d).0 page (point.0 (n - 1) d (omega arith) (omega (arith, some))) in (
      begun,
      sound_at 0 (n - 1) d es rising below,
      last_begun 0 page (n - 1) d es rising below begun
          (λ j more less. leb-false (get_or es j d).0 page (point.1 j d (omega (arith, more)) less)),
    )

pub returns-then-begun-eq0 : goal.returns-then-begun-eq0
returns-then-begun-eq0 c =
    none_of c.args.self.now.runs.items c.args.page c.begun_at-begun.result c.args.self.now.rising
    (subst (λ es. Parts es c.args.page c.begun_at-begun.result) c.as_slice.ensures.value c.begun_at-begun.ensures.begun) c.if-begun-eq0.true

pub returns : goal.returns
returns c =
    let es = c.args.self.now.runs.items in
    let begun = c.begun_at-begun.result in
    subst (λ (e : ℕ × Run). (e.0 ≤ c.args.page) × IsSoundRun e.1 × (at_runs es c.args.page ≡ by_run e.0 (Some e.1) c.args.page))
    (sym c.index.ensures)
    (last_of es c.args.page begun c.index.result.now c.args.self.now.rising
    (subst (λ xs. Parts xs c.args.page begun) c.as_slice.ensures.value c.begun_at-begun.ensures.begun) c.if-begun-eq0.false
    (subst (λ (xs : List (ℕ × Run)). begun ≤ length xs) c.as_slice.ensures.value c.begun_at-begun.ensures.few))
