-- The keys of an ordered map that are numbers, by what `cmp` answers.
use Rattle.std.proofs.Common.{◌≡◌, ◌≢◌, inl, inr, ℕ, ◌<◌, ◌≤◌, false, refl, sym, ◌∙◌, arith}
use Rattle.std.specs.Prelude.{Option, Some, None}
use Rattle.std.specs.Ordering.{is_gt, nat_cmp}
use Rattle.std.specs.declared.cmp.Ordering.TheVariants.{Equal, Greater, Less}
use Rattle.std.specs.BTreeMap.{is_at}
use Rattle.checker.specs.declared.run.Run.{Run}
use Rattle.std.proofs.lemmas.Bool.{cases_lt, eq-eqb, le-ltb, lt-ltb, ne_eqb}

pub not_greater : (a b : ℕ) → a ≤ b → is_gt (nat_cmp a b) ≡ false
not_greater a b le =
    elim (cases_lt a b) [
      | inl less ↦ rw (lt-ltb a b less) refl
      | inr at ↦ let same : a ≡ b = omega (arith, le, at) in rw (le-ltb a b at, eq-eqb a b same) refl
    ]

pub less_is : (a b : ℕ) → a < b → nat_cmp a b ≡ Less
less_is a b less = rw (lt-ltb a b less) refl

pub is_less : (a b : ℕ) → nat_cmp a b ≡ Less → a < b
is_less a b is =
    elim (cases_lt a b) [
      | inl less ↦ less
      | inr at ↦ elim (cases_lt b a) [
        | inl more ↦
            let clash : Greater ≡ Less = sym (rw (le-ltb a b at, ne_eqb a b (λ (e : a ≡ b). omega (arith, e, more))) refl) ∙ is in absurd cc
        | inr from ↦ let clash : Equal ≡ Less = sym (rw (le-ltb a b at, eq-eqb a b (omega (arith, at, from))) refl) ∙ is in absurd cc
      ]
    ]

pub is_other : (a b : ℕ) → b ≢ a → is_at (nat_cmp a) b ≡ false
is_other a b other =
    elim (cases_lt a b) [
      | inl less ↦ rw (lt-ltb a b less) refl
      | inr at ↦ rw (le-ltb a b at, ne_eqb a b (λ (e : a ≡ b). other (omega (arith, e)))) refl
    ]

pub no_run : (o : Option Run) → ((r : Run) → o ≡ Some r → ⊥) → o ≡ None
no_run None h = refl
no_run (Some r) h = absurd (h r refl)
