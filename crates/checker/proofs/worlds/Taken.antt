-- Runs that leave one after the other, and what pages are mapped to then.
use Rattle.std.proofs.Common.{◌≡◌, ◌≢◌, inl, inr, ℕ, ◌-◌, ◌<◌, ◌≤◌, [], ◌∷◌, Option, Some, None, refl, sym, ap, ◌∙◌, arith}
use Rattle.std.specs.Option.{option_or}
use Rattle.std.proofs.lemmas.Bool.{cases_lt}
use Rattle.dmatypes.specs.World.{Target, placed, restricted, without}
use Rattle.dmatypes.proofs.numbers.Ranges.{within_is, within_not, within_or_not}
use Rattle.dmatypes.proofs.histories.Maps.{same_or_not}
use Rattle.checker.specs.declared.run.Run.{Run}
use Rattle.checker.specs.Pages.{range}
use Rattle.checker.specs.Runs.{AreApart, Holds, IsCutAt, HasFirst, RunLeaves, by_runs}
use Rattle.checker.proofs.worlds.Cuts.{beside}
use Rattle.checker.proofs.worlds.Runs.{HasMore, Runs, held, more_elsewhere, not_held, same_runs, some_apart}

-- ---- one run leaves

-- g is f without the run at a page
pub record HasLess (f g : Runs) (first : ℕ) (r : Run) : Type 0 where
  pub there : f first ≡ Some r
  pub gone : g first ≡ None
  pub others : (k : ℕ) → k ≢ first → g k ≡ f k

-- what is left was there, and at another page
left_is : (f g : Runs) (first k : ℕ) (r s : Run) → HasLess f g first r → g k ≡ Some s → (k ≢ first) × (f k ≡ Some s)
left_is f g first k r s less is =
    elim (same_or_not k first) [
      | inl same ↦ let clash : None ≡ Some s = sym less.gone ∙ ap g (sym same) ∙ is in absurd cc
      | inr other ↦ (other, sym (less.others k other) ∙ is)
    ]

less_free : (f g : Runs) (first p : ℕ) (r : Run) → AreApart f → HasLess f g first r → Holds first r p → by_runs g p p ≡ None
less_free f g first p r a less h = not_held g p (λ k s is at.
    let was = left_is f g first k r s less is in
    elim (beside f first k r s a less.there was.0 was.1) [
      | inl before ↦ absurd (omega (arith, before, at.1, h.0))
      | inr behind ↦ absurd (omega (arith, behind, at.0, h.1))
    ])

-- f is g with the run more
pub more_again : (f g : Runs) (first : ℕ) (r : Run) → AreApart f → HasLess f g first r → HasMore g f first r
more_again f g first r a less = record {
  here = less.there;
  others = λ k other. sym (less.others k other);
  some = a.some first r less.there;
  ends = a.ends first r less.there;
  frames = a.frames first r less.there;
  free = λ p h. less_free f g first p r a less h;
}

pub less_pages : (f g : Runs) (first p : ℕ) (r : Run) → AreApart f → AreApart g → HasLess f g first r
    → by_runs g p p ≡ without (range first r.pages) (λ q. by_runs f q q) p
less_pages f g first p r a b less =
    let s = range first r.pages in
    elim (within_or_not s p) [
      | inl inside ↦ rw (within_is s p inside) (less_free f g first p r a less inside)
      | inr out ↦ rw (within_not s p out) (sym (more_elsewhere g f first r p b (more_again f g first r a less) (λ h. elim out [
        | inl before ↦ omega (arith, before, h.0)
        | inr past ↦ omega (arith, past, h.1)
      ])))
    ]

-- ---- what pages are mapped to

-- no run crosses the one page, and none begins from it on before the other
pub gap_none : (runs : Runs) (page until q : ℕ) → IsCutAt runs page → ((k : ℕ) → page ≤ k → k < until → runs k ≡ None) → page ≤ q → q < until
    → by_runs runs q q ≡ None
gap_none runs page until q cut none from below = not_held runs q (λ k r is h.
    elim (cases_lt k page) [
      | inl before ↦ absurd (omega (arith, cut k r is before, h.1, from))
      | inr after ↦ let clash : runs k ≡ None = none k after (omega (arith, h.0, below)) in absurd cc
    ])

abbrev pub Targets : Type 0
Targets = ℕ → Option Target

-- the pages from a first one up to another left, and were taken
abbrev pub AreLeft : Targets → Targets → ℕ → ℕ → Type 0
AreLeft old now first page = (p : ℕ) → now p ≡ without (range first (page - first)) old p

abbrev pub AreTaken : Targets → Targets → ℕ → ℕ → Type 0
AreTaken old taken first page = (p : ℕ) → taken p ≡ restricted (range first (page - first)) old p

-- the pages of one run were taken, and no others
pub one_taken : (f : Runs) (first p : ℕ) (r : Run) → AreApart f → f first ≡ Some r
    → option_or (placed (record { frame = r.frame; pages = r.pages } ∷ []) first r.rights p) None
    ≡ restricted (range first r.pages) (λ q. by_runs f q q) p
one_taken f first p r a there =
    let s = range first r.pages in
    elim (within_or_not s p) [
      | inl inside ↦ rw (within_is s p inside, held f a first p r there inside) refl
      | inr out ↦ rw (within_not s p out) refl
    ]

-- ---- the first run

pub has_first : (f : Runs) (page end start : ℕ) (r : Run) → AreApart f → f start ≡ Some r → page ≤ start → start < end
    → ((q : ℕ) → page ≤ q → q < start → by_runs f q q ≡ None) → HasFirst (λ p. by_runs f p p) page end start r
has_first f page end start r a there from below gap = record {
  from = from;
  below = below;
  some = a.some start r there;
  ends = a.ends start r there;
  frames = a.frames start r there;
  gap = gap;
  here = λ q low high. held f a start q r there (low, high);
}

-- the run at the first page, which is no gap
pub at_first : (f g : Runs) (page end : ℕ) (r : Run) → AreApart f → f page ≡ Some r → page < end
    → ((p : ℕ) → by_runs g p p ≡ without (range page r.pages) (λ q. by_runs f q q) p)
    → RunLeaves (λ p. by_runs f p p) (λ p. by_runs g p p) page end (Some (page, r))
at_first f g page end r a there below left = (has_first f page end page r a there (omega arith) below (λ q from less. absurd (omega (arith, from, less))), left)

-- no run was at the page that one was to leave from
pub none_less : (f g : Runs) (first : ℕ) → AreApart f → AreApart g → f first ≡ None → g first ≡ None
    → ((k : ℕ) → k ≢ first → g k ≡ f k) → (p : ℕ) → by_runs g p p ≡ by_runs f p p
none_less f g first a b none also others = λ p. same_runs f g p a b
    (λ k r h is. elim (same_or_not k first) [
      | inl same ↦ let clash : None ≡ Some r = sym none ∙ ap f (sym same) ∙ is in absurd cc
      | inr other ↦ others k other ∙ is
    ])
    (λ k r h is. elim (same_or_not k first) [
      | inl same ↦ let clash : None ≡ Some r = sym also ∙ ap g (sym same) ∙ is in absurd cc
      | inr other ↦ sym (others k other) ∙ is
    ])

-- whether or not one was
pub fewer_apart : (f g : Runs) (first : ℕ) → AreApart f → g first ≡ None → ((k : ℕ) → k ≢ first → g k ≡ f k) → AreApart g
fewer_apart f g first a none others = some_apart f g a (λ k r is. elim (same_or_not k first) [
  | inl same ↦ let clash : None ≡ Some r = sym none ∙ ap g (sym same) ∙ is in absurd cc
  | inr other ↦ sym (others k other) ∙ is
])
