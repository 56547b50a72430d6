-- Retired records parted by a flush: those that were there before it was begun, which come free, and those that are left.
use Rattle.std.proofs.Common.{◌≡◌, ℕ, ◌+◌, ◌<◌, ◌≤◌, ◌⊎◌, inl, inr, Bool, true, false, cond, not, List, [], ◌∷◌, filter, length, map}
use Rattle.std.proofs.Common.{nat_lt, refl, sym, ap, subst, ◌∙◌}
use Rattle.std.proofs.lemmas.List.{length-map}
use Rattle.std.proofs.lemmas.List.Filters.{sum_by-filter_both}
use Rattle.dmatypes.specs.Page.{IsWithin}
use Rattle.dmatypes.specs.World.{Retired, IsIn, is_before}
use Rattle.dmatypes.proofs.lists.Filtered.{in_filter, to_filter}
use Rattle.dmatypes.proofs.numbers.Ranges.{within_or_not}
use Rattle.tables.specs.Pool.{occurs}
use Rattle.engine.specs.declared.record.Record.{Record}
use Rattle.engine.specs.Domains.{held_in}
use Rattle.engine.specs.Ending.{was_before}
use Rattle.engine.specs.Quarantine.{AllApart, AreApart, Marked, marked_here, marked_there}
use Rattle.engine.proofs.unmaps.Pages.{not_within}

-- ---- either part

-- each is in one of them
pub in_part : {X : Type 0} (test : X → Bool) (x : X) (xs : List X) → IsIn x xs
    → IsIn x (filter test xs) ⊎ IsIn x (filter (λ y. not (test y)) xs)
in_part test x xs inside = by_test (test x) refl
  where
    by_test : (b : Bool) → test x ≡ b → IsIn x (filter test xs) ⊎ IsIn x (filter (λ y. not (test y)) xs)
    by_test true is = inl (to_filter test x xs inside is)
    by_test false is = inr (to_filter (λ y. not (test y)) x xs inside (ap not is))

never_both : (b : Bool) → b ≡ true → not b ≡ true → ⊥
never_both true passes fails = cc
never_both false passes fails = cc

-- what both hold is what all do
pub held_parts : (test : Record → Bool) (ks : List Record) (f : ℕ)
    → held_in (filter test ks) f + held_in (filter (λ k. not (test k)) ks) f ≡ held_in ks f
held_parts test ks f = sum_by-filter_both test (λ k. not (test k)) (λ k. refl) (λ (k : Record). occurs f k.cut.frames) ks

-- ---- the state's records and the world's

-- tests that agree on ranges and marks leave the same ones
module _ (here : Record → Bool) (there : Retired → Bool)
    (agree : (k : Record) (r : Retired) → marked_here k ≡ marked_there r → here k ≡ there r) where
  marks_filter : (ks : List Record) (rs : List Retired) → map marked_here ks ≡ map marked_there rs
      → map marked_here (filter here ks) ≡ map marked_there (filter there rs)
  marks_filter [] [] same = refl
  marks_filter [] (r ∷ rs) same = absurd cc
  marks_filter (k ∷ ks) [] same = absurd cc
  marks_filter (k ∷ ks) (r ∷ rs) same =
      let head : marked_here k ≡ marked_there r = cc in
      let tail : map marked_here ks ≡ map marked_there rs = cc in
      by_test (here k) (there r) (agree k r head) head (marks_filter ks rs tail)
    where
      by_test : (a b : Bool) → a ≡ b → marked_here k ≡ marked_there r
          → map marked_here (filter here ks) ≡ map marked_there (filter there rs)
          → map marked_here (cond a (k ∷ filter here ks) (filter here ks))
          ≡ map marked_there (cond b (r ∷ filter there rs) (filter there rs))
      by_test true true both head rest =
          ap (λ (x : Marked). x ∷ map marked_here (filter here ks)) head ∙ ap (λ xs. marked_there r ∷ xs) rest
      by_test true false both head rest = absurd cc
      by_test false true both head rest = absurd cc
      by_test false false both head rest = rest

module _ (number : ℕ) (ks : List Record) (rs : List Retired) (same : map marked_here ks ≡ map marked_there rs) where
  pub marks_gone : map marked_here (filter (was_before number) ks) ≡ map marked_there (filter (is_before number) rs)
  marks_gone =
      marks_filter (was_before number) (is_before number) (λ k r marks. ap (λ (x : Marked). nat_lt x.mark number) marks) ks rs same

  pub marks_left : map marked_here (filter (λ k. not (was_before number k)) ks)
      ≡ map marked_there (filter (λ r. not (is_before number r)) rs)
  marks_left =
      marks_filter (λ k. not (was_before number k)) (λ r. not (is_before number r))
      (λ k r marks. ap (λ (x : Marked). not (nat_lt x.mark number)) marks) ks rs same

  pub count_gone : length (filter (was_before number) ks) ≡ length (filter (is_before number) rs)
  count_gone =
      sym (length-map (filter (was_before number) ks) marked_here) ∙ ap length marks_gone
      ∙ length-map (filter (is_before number) rs) marked_there

-- ---- pages

-- the page is of one of the records
abbrev pub HasPage : List Retired → ℕ → Type 0
HasPage rs p = (r : Retired) × IsIn r rs × IsWithin r.range p

pub has_or_not : (rs : List Retired) (p : ℕ) → HasPage rs p ⊎ (HasPage rs p → ⊥)
has_or_not [] p = inr (λ some. absurd some.1)
has_or_not (r ∷ rs) p = elim (within_or_not r.range p) [
  | inl inside ↦ inl (r, inl refl, inside)
  | inr past ↦ elim (has_or_not rs p) [
    | inl some ↦ inl (some.0, inr some.1, some.2)
    | inr none ↦ inr (λ some. by_place past none some.0 some.1 some.2)
  ]
] where
  by_place : ((p < r.range.first) ⊎ (r.range.first + r.range.pages ≤ p)) → (HasPage rs p → ⊥) → (x : Retired) → IsIn x (r ∷ rs)
      → IsWithin x.range p → ⊥
  by_place past none x (inl same) inside = not_within r.range p past (subst (λ (y : Retired). IsWithin y.range p) same inside)
  by_place past none x (inr rest) inside = none (x, rest, inside)

apart_two : (rs : List Retired) (a b : Retired) → AllApart rs → IsIn a rs → IsIn b rs → (a ≡ b → ⊥) → AreApart a.range b.range
unfolding AllApart
apart_two [] a b all left right differ = absurd left
apart_two (x ∷ rs) a b all (inl same) (inl also) differ = absurd (differ (same ∙ sym also))
apart_two (x ∷ rs) a b all (inl same) (inr rest) differ = subst (λ (y : Retired). AreApart y.range b.range) (sym same) (all.0 b rest)
apart_two (x ∷ rs) a b all (inr rest) (inl also) differ =
    λ p in_a in_b. all.0 a rest p (subst (λ (y : Retired). IsWithin y.range p) also in_b) in_a
apart_two (x ∷ rs) a b all (inr rest) (inr more) differ = apart_two rs a b all.1 rest more differ

-- one that goes and one that is left have no page in common
pub parts_apart : (test : Retired → Bool) (rs : List Retired) (a b : Retired) → AllApart rs → IsIn a (filter test rs)
    → IsIn b (filter (λ r. not (test r)) rs) → AreApart a.range b.range
parts_apart test rs a b all gone left =
    let one = in_filter test a rs gone in
    let other = in_filter (λ r. not (test r)) b rs left in
    apart_two rs a b all one.0 other.0 (λ same. never_both (test a) one.1 (ap (λ r. not (test r)) same ∙ other.1))

pub apart_filter : (test : Retired → Bool) (rs : List Retired) → AllApart rs → AllApart (filter test rs)
unfolding AllApart
apart_filter test [] all = tt
apart_filter test (r ∷ rs) all = by_test (test r) (apart_filter test rs all.1)
  where
    by_test : (b : Bool) → AllApart (filter test rs) → AllApart (cond b (r ∷ filter test rs) (filter test rs))
    by_test true rest = (λ q inside. all.0 q (in_filter test q rs inside).0, rest)
    by_test false rest = rest
