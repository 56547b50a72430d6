-- Where a map made tables, extent by extent.
use Rattle.std.proofs.Common.{◌≡◌, ℕ, ◌*◌, ◌/◌, ◌%◌, ◌<◌, ◌≤◌, ⊎_elim, Bool, true, false, IsSome, Option, Some, None, refl, sym, ap, subst}
use Rattle.std.proofs.Common.{◌∙◌, arith}
use Rattle.std.proofs.lemmas.Bool.{cases_lt}
use Rattle.dmatypes.specs.declared.page.TheConstants.{SPAN_PAGES}
use Rattle.dmatypes.specs.World.{Target}
use Rattle.tables.specs.Tree.{Memory, span, table_from}
use Rattle.tables.specs.Pool.{Pool, memory}
use Rattle.tables.specs.Changes.{MapsPages, MakesTables}
use Rattle.tables.proofs.counts.ByExtents.{Placed, near_same, extent_near}
use Rattle.tables.proofs.walks.Steps.{div_span_one}

true_false : true ≡ false → ⊥
true_false e = cc

pub no_makes : (pool : Pool) (level t first : ℕ) (large : ℕ → Bool) → MakesTables pool pool level t first first large
no_makes pool level t first large = record {
  made = λ p w low high some lower ok. absurd (omega arith);
  spared = λ p low high deep big. absurd (omega arith);
}

some_stays : (m n : Memory) (level t p w : ℕ) → ((c : ℕ) → table_from m level t p w ≡ Some c → table_from n level t p w ≡ Some c)
    → (o : Option ℕ) → table_from m level t p w ≡ o → IsSome o → IsSome (table_from n level t p w)
some_stays m n level t p w stays None e h = cc
some_stays m n level t p w stays (Some c) e h = subst (λ (o : Option ℕ). IsSome o) (sym (stays c e)) refl

-- one extent more
pub makes_then : (old cur new : Pool) (level t first from to : ℕ) (says says' : ℕ → Option Target) (large : ℕ → Bool) (b : Bool)
    → first ≤ from → ((p : ℕ) → first ≤ p → p < to → p / span level ≡ first / span level) → MakesTables old cur level t first from large
    → MapsPages old cur level t first from says → Placed cur new level t from to says' b → large (from / SPAN_PAGES * SPAN_PAGES) ≡ b
    → (0 < from % SPAN_PAGES → b ≡ false)
    → (1 < level → b ≡ true → table_from (memory new.words) level t from 1 ≡ table_from (memory cur.words) level t from 1)
    → MakesTables old new level t first to large
makes_then old cur new level t first from to says says' large b le wide makes maps x flag start spared = record {
  made = λ p w low high some lower ok.
      ⊎_elim
      (λ (before : p < from).
      some_stays (memory cur.words) (memory new.words) level t p w (λ c e. x.maps.tables p w c e)
      (table_from (memory cur.words) level t p w) refl (makes.made p w low before some lower ok))
      (λ (after : from ≤ p).
      subst (λ (o : Option ℕ). IsSome o)
      (sym (near_same (memory new.words) level t from p w (sym (extent_near w from to p some x.one after high))))
      (x.made w some lower (λ e. sym flag ∙ here p after high ∙ ok e))) (cases_lt p from);
  spared = λ p low high deep big.
      ⊎_elim
      (λ (before : p < from).
      x.maps.clear p 1 (wide p low high ∙ sym (wide from le x.some)) (λ q q_low q_high e. met p q before q_low q_high big e)
      ∙ makes.spared p low before deep big)
      (λ (after : from ≤ p).
      let is : b ≡ true = sym flag ∙ here p after high ∙ big in
      let near : from / span 1 ≡ p / span 1 = sym (extent_near 1 from to p (omega arith) x.one after high) in
      near_same (memory new.words) level t from p 1 near
      ∙ spared deep is
      ∙ maps.clear from 1 (wide from le x.some) (λ q q_low q_high e. early q q_high is e)
      ∙ sym (near_same (memory old.words) level t from p 1 near))
      (cases_lt p from);
}
  where
    here : (p : ℕ) → from ≤ p → p < to → large (from / SPAN_PAGES * SPAN_PAGES) ≡ large (p / SPAN_PAGES * SPAN_PAGES)
    here p low high = ap (λ n. large (n * SPAN_PAGES)) (let e : from / SPAN_PAGES ≡ p / SPAN_PAGES = omega (arith, x.one) in e)

    early : (q : ℕ) → q < from → b ≡ true → from / span 1 ≡ q / span 1 → ⊥
    early q lt is e =
        let same : from / SPAN_PAGES ≡ q / SPAN_PAGES = sym (div_span_one from) ∙ e ∙ div_span_one q in
        true_false (sym is ∙ start (omega arith))

    met : (p q : ℕ) → p < from → from ≤ q → q < to → large (p / SPAN_PAGES * SPAN_PAGES) ≡ true → p / span 1 ≡ q / span 1 → ⊥
    met p q before low high big e =
        let same : p / SPAN_PAGES ≡ q / SPAN_PAGES = sym (div_span_one p) ∙ e ∙ div_span_one q in
        let one : from / SPAN_PAGES ≡ q / SPAN_PAGES = omega (arith, x.one) in
        let place : from / SPAN_PAGES ≡ p / SPAN_PAGES = omega arith in
        true_false (sym big ∙ ap (λ n. large (n * SPAN_PAGES)) (sym place) ∙ flag ∙ start (omega arith))
