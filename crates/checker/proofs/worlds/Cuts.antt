-- Runs that are cut in two.
use Rattle.std.proofs.Common.{◌≡◌, ◌≢◌, ◌⊎◌, inl, inr, ℕ, ◌+◌, ◌-◌, ◌^◌, ◌<◌, ◌≤◌, Some, None, refl, sym, ap, subst, ◌∙◌, arith}
use Rattle.std.specs.Prelude.{Result, Ok, Err, OnOk}
use Rattle.std.proofs.lemmas.Bool.{cases_lt}
use Rattle.std.proofs.lemmas.Option.{same_Some}
use Rattle.dmatypes.specs.declared.page.TheConstants.{FRAMES_END}
use Rattle.dmatypes.proofs.histories.Maps.{same_or_not}
use Rattle.checker.specs.declared.run.Run.{Run}
use Rattle.checker.specs.Runs.{AreApart, Holds, IsCutAt, by_runs, target_of}
use Rattle.checker.proofs.worlds.Runs.{Runs, held, held_by, none_held, not_held, of_one}

-- ---- a run in two

abbrev pub front_of : ℕ → ℕ → Run → Run
front_of first page r = record { pages = page - first; frame = r.frame; rights = r.rights }

abbrev pub rest_of : ℕ → ℕ → Run → Run
rest_of first page r = record { pages = r.pages - (page - first); frame = r.frame + (page - first); rights = r.rights }

-- g is f with the run in two at a page
pub record AreCut (f g : Runs) (first page : ℕ) (r : Run) : Type 0 where
  pub there : f first ≡ Some r
  pub less : first < page
  pub below : page < first + r.pages
  pub front : g first ≡ Some (front_of first page r)
  pub rest : g page ≡ Some (rest_of first page r)
  pub others : (k : ℕ) → k ≢ first → k ≢ page → g k ≡ f k

-- a run of g is the front, the rest, or another
data Part (f : Runs) (first page : ℕ) (r : Run) (k : ℕ) (s : Run) : Type 0 where
  IsFront : k ≡ first → s ≡ front_of first page r → Part f first page r k s
  IsRest : k ≡ page → s ≡ rest_of first page r → Part f first page r k s
  IsOther : k ≢ first → f k ≡ Some s → Part f first page r k s

part : (f g : Runs) (first page k : ℕ) (r s : Run) → AreCut f g first page r → g k ≡ Some s → Part f first page r k s
part f g first page k r s cut is =
    elim (same_or_not k first) [
      | inl same ↦ IsFront same (same_Some s (front_of first page r) (sym is ∙ ap g same ∙ cut.front))
      | inr other ↦ elim (same_or_not k page) [
        | inl same ↦ IsRest same (same_Some s (rest_of first page r) (sym is ∙ ap g same ∙ cut.rest))
        | inr also ↦ IsOther other (sym (cut.others k other also) ∙ is)
      ]
    ]

-- where a part ends
front_end : (f g : Runs) (first page k : ℕ) (r s : Run) → AreCut f g first page r → k ≡ first → s ≡ front_of first page r
    → k + s.pages ≡ page
front_end f g first page k r s cut same is =
    of_one (λ (x : Run). k + x.pages ≡ page) s (front_of first page r) is (omega (arith, same, cut.less))

rest_end : (f g : Runs) (first page k : ℕ) (r s : Run) → AreCut f g first page r → k ≡ page → s ≡ rest_of first page r
    → k + s.pages ≡ first + r.pages
rest_end f g first page k r s cut same is =
    of_one (λ (x : Run). k + x.pages ≡ first + r.pages) s (rest_of first page r) is (omega (arith, same, cut.less, cut.below))

-- another run lies before the run or behind it
pub beside : (f : Runs) (first k : ℕ) (r s : Run) → AreApart f → f first ≡ Some r → k ≢ first → f k ≡ Some s
    → (k + s.pages ≤ first) ⊎ (first + r.pages ≤ k)
beside f first k r s a there other is =
    elim (cases_lt k first) [
      | inl before ↦ inl (a.apart k first s r is there before)
      | inr from ↦ elim (cases_lt first k) [
        | inl behind ↦ inr (a.apart first k r s there is behind)
        | inr at ↦ absurd (other (omega (arith, from, at)))
      ]
    ]

-- no run crosses the page where another ends
pub end_is_cut : (f : Runs) (first : ℕ) (r : Run) → AreApart f → f first ≡ Some r → IsCutAt f (first + r.pages)
end_is_cut f first r a there = λ k s is less.
    elim (same_or_not k first) [
      | inl same ↦
          of_one (λ (x : Run). k + x.pages ≤ first + r.pages) s r (same_Some s r (sym is ∙ ap f same ∙ there)) (omega (arith, same))
      | inr other ↦ elim (beside f first k r s a there other is) [
        | inl before ↦ omega (arith, before)
        | inr behind ↦ absurd (omega (arith, behind, less))
      ]
    ]

-- nor the page where one begins
pub begin_is_cut : (f : Runs) (first : ℕ) (r : Run) → AreApart f → f first ≡ Some r → IsCutAt f first
begin_is_cut f first r a there = λ k s is less. a.apart k first s r is there less

-- a page that no run crosses is crossed by none of fewer runs
pub fewer_cut : (f g : Runs) (first q : ℕ) → g first ≡ None → ((k : ℕ) → k ≢ first → g k ≡ f k) → IsCutAt f q → IsCutAt g q
fewer_cut f g first q none others cut = λ k s is less.
    elim (same_or_not k first) [
      | inl same ↦ let clash : None ≡ Some s = sym none ∙ ap g (sym same) ∙ is in absurd cc
      | inr other ↦ cut k s (sym (others k other) ∙ is) less
    ]

-- nor by the pieces of one
part_cut : (f g : Runs) (first page q k : ℕ) (r s : Run) → AreCut f g first page r → IsCutAt f q → Part f first page r k s → k < q
    → k + s.pages ≤ q
part_cut f g first page q k r s cut was (IsFront e same) less =
    omega (arith, was first r cut.there (omega (arith, e, less)), cut.below, front_end f g first page k r s cut e same)
part_cut f g first page q k r s cut was (IsRest e same) less =
    omega (arith, was first r cut.there (omega (arith, e, less, cut.less)), rest_end f g first page k r s cut e same)
part_cut f g first page q k r s cut was (IsOther other is) less = was k s is less

pub parts_cut : (f g : Runs) (first page q : ℕ) (r : Run) → AreCut f g first page r → IsCutAt f q → IsCutAt g q
parts_cut f g first page q r cut was = λ k s is less. part_cut f g first page q k r s cut was (part f g first page k r s cut is) less

ends_before : (f g : Runs) (first page k j : ℕ) (r s t : Run) → AreApart f → AreCut f g first page r → Part f first page r k s
    → Part f first page r j t → k < j → k + s.pages ≤ j
ends_before f g first page k j r s t a cut (IsFront e same) (IsFront d also) less = absurd (omega (arith, e, d, less))
ends_before f g first page k j r s t a cut (IsFront e same) (IsRest d also) less =
    omega (arith, d, front_end f g first page k r s cut e same)
ends_before f g first page k j r s t a cut (IsFront e same) (IsOther other is) less =
    elim (beside f first j r t a cut.there other is) [
      | inl before ↦ absurd (omega (arith, e, less, before))
      | inr behind ↦ omega (arith, behind, cut.below, front_end f g first page k r s cut e same)
    ]
ends_before f g first page k j r s t a cut (IsRest e same) (IsFront d also) less = absurd (omega (arith, e, d, less, cut.less))
ends_before f g first page k j r s t a cut (IsRest e same) (IsRest d also) less = absurd (omega (arith, e, d, less))
ends_before f g first page k j r s t a cut (IsRest e same) (IsOther other is) less =
    elim (beside f first j r t a cut.there other is) [
      | inl before ↦ absurd (omega (arith, e, less, before, cut.less))
      | inr behind ↦ omega (arith, behind, rest_end f g first page k r s cut e same)
    ]
ends_before f g first page k j r s t a cut (IsOther other is) (IsFront d also) less =
    elim (beside f first k r s a cut.there other is) [
      | inl before ↦ omega (arith, before, d)
      | inr behind ↦ absurd (omega (arith, behind, d, less))
    ]
ends_before f g first page k j r s t a cut (IsOther other is) (IsRest d also) less =
    elim (beside f first k r s a cut.there other is) [
      | inl before ↦ omega (arith, before, d, cut.less)
      | inr behind ↦ absurd (omega (arith, behind, d, less, cut.below))
    ]
ends_before f g first page k j r s t a cut (IsOther other is) (IsOther another there) less = a.apart k j s t is there less

some_of : (f g : Runs) (first page k : ℕ) (r s : Run) → AreApart f → AreCut f g first page r → Part f first page r k s → 1 ≤ s.pages
some_of f g first page k r s a cut (IsFront e same) = omega (arith, e, cut.less, front_end f g first page k r s cut e same)
some_of f g first page k r s a cut (IsRest e same) = omega (arith, e, cut.below, rest_end f g first page k r s cut e same)
some_of f g first page k r s a cut (IsOther other is) = a.some k s is

end_of : (f g : Runs) (first page k : ℕ) (r s : Run) → AreApart f → AreCut f g first page r → Part f first page r k s
    → k + s.pages < 2 ^ 64
end_of f g first page k r s a cut (IsFront e same) =
    omega (arith, cut.below, a.ends first r cut.there, front_end f g first page k r s cut e same)
end_of f g first page k r s a cut (IsRest e same) = omega (arith, a.ends first r cut.there, rest_end f g first page k r s cut e same)
end_of f g first page k r s a cut (IsOther other is) = a.ends k s is

frames_of : (f g : Runs) (first page k : ℕ) (r s : Run) → AreApart f → AreCut f g first page r → Part f first page r k s
    → s.frame + s.pages ≤ FRAMES_END
frames_of f g first page k r s a cut (IsFront e same) =
    of_one (λ (x : Run). x.frame + x.pages ≤ FRAMES_END) s (front_of first page r) same
    (omega (arith, a.frames first r cut.there, cut.less, cut.below))
frames_of f g first page k r s a cut (IsRest e same) =
    of_one (λ (x : Run). x.frame + x.pages ≤ FRAMES_END) s (rest_of first page r) same
    (omega (arith, a.frames first r cut.there, cut.less, cut.below))
frames_of f g first page k r s a cut (IsOther other is) = a.frames k s is

pub cut_apart : (f g : Runs) (first page : ℕ) (r : Run) → AreApart f → AreCut f g first page r → AreApart g
cut_apart f g first page r a cut = record {
  some = λ k s is. some_of f g first page k r s a cut (part f g first page k r s cut is);
  ends = λ k s is. end_of f g first page k r s a cut (part f g first page k r s cut is);
  frames = λ k s is. frames_of f g first page k r s a cut (part f g first page k r s cut is);
  apart = λ k j s t is there less.
      ends_before f g first page k j r s t a cut (part f g first page k r s cut is) (part f g first page j r t cut there) less;
}

-- a page of the run is held by the front or the rest
in_two : (f g : Runs) (first page p : ℕ) (r : Run) → AreApart g → AreCut f g first page r → Holds first r p
    → by_runs g p p ≡ Some (target_of first r p)
in_two f g first page p r b cut h =
    elim (cases_lt p page) [
      | inl front ↦ held g b first p (front_of first page r) cut.front (h.0, omega (arith, front, cut.less))
      | inr rest ↦
          let frame : r.frame + (page - first) + (p - page) ≡ r.frame + (p - first) = omega (arith, rest, cut.less) in
          held g b page p (rest_of first page r) cut.rest (rest, omega (arith, h.1, cut.less, cut.below))
          ∙ ap (λ (n : ℕ). Some (record { frame = n; rights = r.rights })) frame
    ]

-- what holds a page in f holds it in g
holds_piece : (f g : Runs) (first page p k : ℕ) (r s : Run) → AreApart f → AreApart g → AreCut f g first page r → f k ≡ Some s → Holds k s p
    → by_runs g p p ≡ Some (target_of k s p)
holds_piece f g first page p k r s a b cut is h =
    elim (same_or_not k first) [
      | inl same ↦
          let one : s ≡ r = same_Some s r (sym is ∙ ap f same ∙ cut.there) in
          let below : p < first + r.pages =
          of_one (λ (x : Run). p < first + x.pages) r s (sym one) (omega (arith, same, h.1)) in
          subst (λ (m : ℕ). by_runs g p p ≡ Some (target_of m s p)) (sym same)
          (subst (λ (x : Run). by_runs g p p ≡ Some (target_of first x p)) (sym one)
          (in_two f g first page p r b cut (omega (arith, same, h.0), below)))
      | inr other ↦
          let not_page : k ≢ page = λ (e : k ≡ page). elim (beside f first k r s a cut.there other is) [
            | inl before ↦ omega (arith, e, before, cut.less)
            | inr behind ↦ omega (arith, e, behind, cut.below)
          ] in
          held g b k p s (cut.others k other not_page ∙ is) h
    ]

-- what holds a page in g had one that held it in f
held_before : (f g : Runs) (first page p k : ℕ) (r s : Run) → AreApart f → AreCut f g first page r → by_runs f p p ≡ None
    → Part f first page r k s → Holds k s p → ⊥
held_before f g first page p k r s a cut none (IsFront e same) h =
    none_held f a first p r none cut.there
    (omega (arith, e, h.0), omega (arith, h.1, cut.below, front_end f g first page k r s cut e same))
held_before f g first page p k r s a cut none (IsRest e same) h =
    none_held f a first p r none cut.there
    (omega (arith, e, h.0, cut.less), omega (arith, h.1, rest_end f g first page k r s cut e same))
held_before f g first page p k r s a cut none (IsOther other is) h = none_held f a k p s none is h

pub cut_same : (f g : Runs) (first page p : ℕ) (r : Run) → AreApart f → AreCut f g first page r → by_runs g p p ≡ by_runs f p p
cut_same f g first page p r a cut =
    let b = cut_apart f g first page r a cut in
    elim (by_runs f p p) as (λ o. by_runs f p p ≡ o → by_runs g p p ≡ o) [
      | Some t ↦ λ is.
          let h = held_by f p t is in
          holds_piece f g first page p h.first r h.run a b cut h.there (h.before, h.below) ∙ ap Some (sym h.target)
      | None ↦ λ is. not_held g p (λ k s there h.
          held_before f g first page p k r s a cut is (part f g first page k r s cut there) h)
    ] refl

here_by : (f g : Runs) (first page k : ℕ) (r s : Run) → AreApart f → AreCut f g first page r → Part f first page r k s → k < page
    → k + s.pages ≤ page
here_by f g first page k r s a cut (IsFront e same) less = omega (arith, front_end f g first page k r s cut e same)
here_by f g first page k r s a cut (IsRest e same) less = absurd (omega (arith, e, less))
here_by f g first page k r s a cut (IsOther other is) less =
    elim (beside f first k r s a cut.there other is) [
      | inl before ↦ omega (arith, before, cut.less)
      | inr behind ↦ absurd (omega (arith, behind, less, cut.below))
    ]

pub cut_here : (f g : Runs) (first page : ℕ) (r : Run) → AreApart f → AreCut f g first page r → IsCutAt g page
cut_here f g first page r a cut = λ k s is less. here_by f g first page k r s a cut (part f g first page k r s cut is) less

-- ---- where there was memory

pub then_so : {X E A B : Type 0} (o : Result X E) → OnOk o A → (A → B) → OnOk o B
then_so (Ok x) a f = f a
then_so (Err e) a f = tt
