-- How many runs of a list begin between two pages: fewer, when one of them has left.
use Rattle.std.proofs.Common.{◌≡◌, ◌⊎◌, inl, inr, ℕ, suc, ◌+◌, ◌<◌, ◌≤◌, List, [], ◌∷◌, length, Bool, Some, true, false, cond, refl, sym, ap, ◌∙◌, arith}
use Rattle.std.specs.Prelude.{not, ◌&&◌}
use Rattle.std.specs.BTreeMap.{is_at}
use Rattle.std.specs.BTreeMap.Range.{entries_between, range_contains}
use Rattle.std.specs.Map.{lookup, remove_entry}
use Rattle.std.specs.Ordering.{is_le, nat_cmp}
use Rattle.std.specs.declared.ops.Bound.TheVariants.{Excluded, Included}
use Rattle.std.proofs.lemmas.Bool.{cases_lt, eq-eqb, le-ltb, lt-ltb, ne_eqb}
use Rattle.dmatypes.proofs.histories.Maps.{same_or_not}
use Rattle.checker.specs.declared.run.Run.{Run}
use Rattle.checker.specs.Runs.{begun_between}
use Rattle.checker.proofs.worlds.Keys.{is_other}

abbrev Entries : Type 0
Entries = List (ℕ × Run)

-- ---- whether a page is between two others

abbrev is_between : ℕ → ℕ → ℕ → Bool
is_between from end page = range_contains nat_cmp (Included from) (Excluded end) page

at_or_below : (a b : ℕ) → a ≤ b → is_le (nat_cmp a b) ≡ true
at_or_below a b le =
    elim (cases_lt a b) [
      | inl less ↦ rw (lt-ltb a b less) refl
      | inr at ↦ rw (le-ltb a b at, eq-eqb a b (omega (arith, le, at))) refl
    ]

above : (a b : ℕ) → b < a → is_le (nat_cmp a b) ≡ false
above a b more = rw (le-ltb a b (omega (arith, more)), ne_eqb a b (λ (e : a ≡ b). omega (arith, e, more))) refl

between : (from end page : ℕ) → from ≤ page → page < end → is_between from end page ≡ true
between from end page low high = rw (at_or_below from page low, above end page high) refl

before : (from end page : ℕ) → page < from → is_between from end page ≡ false
before from end page less = rw (above from page less) refl

behind : (from end page : ℕ) → end ≤ page → is_between from end page ≡ false
behind from end page more =
    elim (is_le (nat_cmp from page)) as (λ b. (b && not (is_le (nat_cmp end page))) ≡ false) [
      | true ↦ rw (at_or_below end page more) refl
      | false ↦ refl
    ]

between_or_not : (from end page : ℕ) → ((from ≤ page) × (page < end)) ⊎ (is_between from end page ≡ false)
between_or_not from end page =
    elim (cases_lt page from) [
      | inl less ↦ inr (before from end page less)
      | inr low ↦ elim (cases_lt page end) [
        | inl high ↦ inl (low, high)
        | inr more ↦ inr (behind from end page more)
      ]
    ]

-- ---- the first run of a list

counted : (from end : ℕ) (e : ℕ × Run) (es : Entries) → from ≤ e.0 → e.0 < end
    → begun_between from end (e ∷ es) ≡ suc (begun_between from end es)
counted from end e es low high =
    let rest = entries_between nat_cmp (Included from) (Excluded end) es in
    ap (λ (b : Bool). length (cond b (e ∷ rest) rest)) (between from end e.0 low high)

passed : (from end : ℕ) (e : ℕ × Run) (es : Entries) → is_between from end e.0 ≡ false
    → begun_between from end (e ∷ es) ≡ begun_between from end es
passed from end e es out =
    let rest = entries_between nat_cmp (Included from) (Excluded end) es in
    ap (λ (b : Bool). length (cond b (e ∷ rest) rest)) out

-- the first run counts no less where another does
counted_or_not : (from end : ℕ) (e : ℕ × Run) (es : Entries) → begun_between from end es ≤ begun_between from end (e ∷ es)
counted_or_not from end e es =
    elim (between_or_not from end e.0) [
      | inl in_it ↦ omega (arith, counted from end e es in_it.0 in_it.1)
      | inr out ↦ omega (arith, passed from end e es out)
    ]

-- ---- a later page

no_more_between : (from next end : ℕ) (es : Entries) → from ≤ next → begun_between next end es ≤ begun_between from end es
no_more_between from next end [] order = omega arith
no_more_between from next end (e ∷ es) order =
    let rest = no_more_between from next end es order in
    elim (between_or_not next end e.0) [
      | inl in_it ↦
          omega (arith, counted next end e es in_it.0 in_it.1, counted from end e es (omega (arith, order, in_it.0)) in_it.1, rest)
      | inr out ↦ omega (arith, passed next end e es out, counted_or_not from end e es, rest)
    ]

-- ---- a run less

at_itself : (page : ℕ) → is_at (nat_cmp page) page ≡ true
at_itself page = rw (le-ltb page page (omega arith), eq-eqb page page refl) refl

pub fewer_between : (from page next end : ℕ) (r : Run) (es : Entries) → lookup (is_at (nat_cmp page)) es ≡ Some r → from ≤ page
    → page < next → page < end
    → begun_between next end (remove_entry (is_at (nat_cmp page)) es) + 1 ≤ begun_between from end es
fewer_between from page next end r [] there low order high = absurd cc
fewer_between from page next end r (e ∷ es) there low order high =
    let test = is_at (nat_cmp page) in
    let less = remove_entry test es in
    elim (same_or_not e.0 page) [
      | inl same ↦
          let gone : remove_entry test (e ∷ es) ≡ es = ap (λ (b : Bool). cond b es (e ∷ less)) (ap test same ∙ at_itself page) in
          omega (
            arith,
            ap (begun_between next end) gone,
            counted from end e es (omega (arith, same, low)) (omega (arith, same, high)),
            no_more_between from next end es (omega (arith, low, order)),
          )
      | inr other ↦
          let is = is_other page e.0 other in
          let stays : remove_entry test (e ∷ es) ≡ e ∷ less = ap (λ (b : Bool). cond b es (e ∷ less)) is in
          let found : lookup test es ≡ Some r = sym (ap (λ (b : Bool). cond b (Some e.1) (lookup test es)) is) ∙ there in
          let rest = fewer_between from page next end r es found low order high in
          elim (between_or_not next end e.0) [
            | inl in_it ↦
                omega (
                  arith,
                  ap (begun_between next end) stays,
                  counted next end e less in_it.0 in_it.1,
                  counted from end e es (omega (arith, low, order, in_it.0)) in_it.1,
                  rest,
                )
            | inr out ↦
                omega (arith, ap (begun_between next end) stays, passed next end e less out, counted_or_not from end e es, rest)
          ]
    ]
