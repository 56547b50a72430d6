-- Where the pages of segments lie.
use Rattle.std.proofs.Common.{◌≡◌, ℕ, zero, suc, ◌+◌, ◌-◌, ◌*◌, ◌/◌, ◌%◌, ◌<◌, ◌≤◌, ◌⊎◌, inl, inr, ⊎_elim, Bool, true, false, cond, ◌&&◌}
use Rattle.std.proofs.Common.{eqb, Option, Some, None, List, [], ◌∷◌, length, drop, get_or, refl, sym, ap, subst, ◌∙◌, arith, add-one}
use Rattle.std.proofs.Common.{drop-cons}
use Rattle.std.proofs.lemmas.Bool.{cases_lt}
use Rattle.std.proofs.lemmas.Bool.Decides.{nat_tests}
use Rattle.std.proofs.lemmas.Option.{none-some, same_Some}
use Rattle.std.proofs.lemmas.List.Sums.{sum_by-cons}
use Rattle.dmatypes.specs.declared.page.TheConstants.{FRAMES_END, SPAN_PAGES}
use Rattle.tables.specs.declared.entries.TheConstants.{TABLE_ENTRIES}
use Rattle.dmatypes.specs.Conditions.{total_pages}
use Rattle.dmatypes.specs.declared.call.Segment.{Segment}
use Rattle.dmatypes.specs.World.{placed, is_within}
use Rattle.dmatypes.proofs.numbers.Ranges.{within_is, within_not, within_or_not}
use Rattle.vtdbits.specs.Translation.{target}
use Rattle.tables.specs.Segments.{rest_at, fills_large, is_large_at, ArePassed, AreSegments}
use Rattle.tables.specs.declared.segments.Passed.{Passed}

-- what is left of one segment from a page on
abbrev pub rest_of : Segment → ℕ → ℕ → Segment
rest_of s first p = record { frame = s.frame + (p - first); pages = first + s.pages - p }

rest-cons : (s : Segment) (ss : List Segment) (first p : ℕ)
    → rest_at (s ∷ ss) first p
    ≡ cond (is_within (record { first = first; pages = s.pages }) p) (Some (rest_of s first p)) (rest_at ss (first + s.pages) p)
unfolding rest_at
rest-cons s ss first p = refl

pub rest_in : (s : Segment) (ss : List Segment) (first p : ℕ) → first ≤ p → p < first + s.pages
    → rest_at (s ∷ ss) first p ≡ Some (rest_of s first p)
rest_in s ss first p low high =
    rest-cons s ss first p
    ∙ ap (λ b. cond b (Some (rest_of s first p)) (rest_at ss (first + s.pages) p))
    (within_is (record { first = first; pages = s.pages }) p (low, high))

pub rest_out : (s : Segment) (ss : List Segment) (first p : ℕ) → ((p < first) ⊎ (first + s.pages ≤ p))
    → rest_at (s ∷ ss) first p ≡ rest_at ss (first + s.pages) p
rest_out s ss first p out =
    rest-cons s ss first p
    ∙ ap (λ b. cond b (Some (rest_of s first p)) (rest_at ss (first + s.pages) p))
    (within_not (record { first = first; pages = s.pages }) p out)

pub rest-nil : (first p : ℕ) → rest_at [] first p ≡ None
unfolding rest_at
rest-nil first p = refl

pub total-cons : (s : Segment) (ss : List Segment) → total_pages (s ∷ ss) ≡ s.pages + total_pages ss
total-cons s ss = sum_by-cons (λ (x : Segment). x.pages) s ss

-- before the first page there is none
pub rest_below : (ss : List Segment) (first p : ℕ) → p < first → rest_at ss first p ≡ None
rest_below [] first p lt = rest-nil first p
rest_below (s ∷ ss) first p lt = rest_out s ss first p (inl lt) ∙ rest_below ss (first + s.pages) p (omega arith)

-- where there is none behind it the segments have ended
pub rest_ended : (ss : List Segment) (first p : ℕ) → first ≤ p → rest_at ss first p ≡ None → first + total_pages ss ≤ p
rest_ended [] first p le e = omega arith
rest_ended (s ∷ ss) first p le e =
    ⊎_elim
    (λ (lt : p < first + s.pages). absurd (none-some (rest_of s first p) (sym e ∙ rest_in s ss first p le lt)))
    (λ past. omega (arith, rest_ended ss (first + s.pages) p past (sym (rest_out s ss first p (inr past)) ∙ e), total-cons s ss))
    (cases_lt p (first + s.pages))

-- the bounds of what is left
pub record HasRest (ss : List Segment) (first p : ℕ) (r : Segment) : Type 0 where
  pub some : 1 ≤ r.pages
  pub after : first ≤ p
  pub within : p + r.pages ≤ first + total_pages ss
  pub frames : r.frame + r.pages ≤ FRAMES_END

pub rest_bounds : (ss : List Segment) (first p : ℕ) (r : Segment) → AreSegments ss → rest_at ss first p ≡ Some r → HasRest ss first p r
rest_bounds [] first p r good e = absurd (none-some r (sym (rest-nil first p) ∙ e))
rest_bounds (s ∷ ss) first p r good e =
    elim (within_or_not (record { first = first; pages = s.pages }) p) [
      | inl (low, high) ↦
          let same : rest_of s first p ≡ r = same_Some (rest_of s first p) r (sym (rest_in s ss first p low high) ∙ e) in
          subst (λ x. HasRest (s ∷ ss) first p x) same (record {
            some = omega arith;
            after = low;
            within = omega (arith, total-cons s ss);
            frames = omega (arith, good.1);
          })
      | inr out ↦
          let k : HasRest ss (first + s.pages) p r = rest_bounds ss (first + s.pages) p r good.2 (sym (rest_out s ss first p out) ∙ e) in
          record {
            some = k.some;
            after = omega (arith, k.after);
            within = omega (arith, k.within, total-cons s ss);
            frames = k.frames;
          }
    ]

behind : (ss : List Segment) (first p : ℕ) (r : Segment) → rest_at ss first p ≡ Some r → first ≤ p
behind ss first p r e = ⊎_elim (λ lt. absurd (none-some r (sym (rest_below ss first p lt) ∙ e))) (λ le. le) (cases_lt p first)

-- what is left further on in the same segment
pub rest_onward : (ss : List Segment) (first p q : ℕ) (r : Segment) → rest_at ss first p ≡ Some r → p ≤ q → q < p + r.pages
    → rest_at ss first q ≡ Some (record { frame = r.frame + (q - p); pages = p + r.pages - q })
rest_onward [] first p q r e low high = absurd (none-some r (sym (rest-nil first p) ∙ e))
rest_onward (s ∷ ss) first p q r e low high =
    elim (within_or_not (record { first = first; pages = s.pages }) p) [
      | inl (from, to) ↦
          let same : rest_of s first p ≡ r = same_Some (rest_of s first p) r (sym (rest_in s ss first p from to) ∙ e) in
          let frame : s.frame + (p - first) ≡ r.frame = ap (λ (x : Segment). x.frame) same in
          let pages : first + s.pages - p ≡ r.pages = ap (λ (x : Segment). x.pages) same in
          rest_in s ss first q (omega arith) (omega arith)
          ∙ ap (λ f. Some (record { frame = f; pages = first + s.pages - q }))
          (let k : s.frame + (q - first) ≡ r.frame + (q - p) = omega arith in k)
          ∙ ap (λ n. Some (record { frame = r.frame + (q - p); pages = n }))
          (let k : first + s.pages - q ≡ p + r.pages - q = omega arith in k)
      | inr out ↦
          let e' : rest_at ss (first + s.pages) p ≡ Some r = sym (rest_out s ss first p out) ∙ e in
          let le : first + s.pages ≤ p = behind ss (first + s.pages) p r e' in
          rest_out s ss first q (inr (omega arith)) ∙ rest_onward ss (first + s.pages) p q r e' low high
    ]

-- and it tells where a page lies
pub placed_at : (ss : List Segment) (first p rights : ℕ) (r : Segment) → rest_at ss first p ≡ Some r
    → placed ss first rights p ≡ Some (target r.frame rights)
placed_at [] first p rights r e = absurd (none-some r (sym (rest-nil first p) ∙ e))
placed_at (s ∷ ss) first p rights r e =
    elim (within_or_not (record { first = first; pages = s.pages }) p) [
      | inl (from, to) ↦
          let same : rest_of s first p ≡ r = same_Some (rest_of s first p) r (sym (rest_in s ss first p from to) ∙ e) in
          let frame : s.frame + (p - first) ≡ r.frame = ap (λ (x : Segment). x.frame) same in
          ap (λ b. cond b (Some (target (s.frame + (p - first)) rights)) (placed ss (first + s.pages) rights p))
          (within_is (record { first = first; pages = s.pages }) p (from, to))
          ∙ ap (λ f. Some (target f rights)) frame
      | inr out ↦
          ap (λ b. cond b (Some (target (s.frame + (p - first)) rights)) (placed ss (first + s.pages) rights p))
          (within_not (record { first = first; pages = s.pages }) p out)
          ∙ placed_at ss (first + s.pages) p rights r (sym (rest_out s ss first p out) ∙ e)
    ]

-- ---- one segment of a list

pub drop_at : (ss : List Segment) (i : ℕ) (d : Segment) → i < length ss → drop i ss ≡ get_or ss i d ∷ drop (i + 1) ss
drop_at ss i d lt = rw (add-one, drop-cons ss i d)

pub drop_ended : (ss : List Segment) (i : ℕ) → length ss ≤ i → drop i ss ≡ []
drop_ended ss zero le = by_list ss le
  where
    by_list : (ss : List Segment) → length ss ≤ 0 → drop 0 ss ≡ []
    by_list [] le = refl
    by_list (s ∷ ss) le = absurd (omega arith)
drop_ended [] (suc i) le = refl
drop_ended (s ∷ ss) (suc i) le = drop_ended ss i (omega arith)

-- ---- whether a large leaf begins

large_flag : (p : ℕ) (o : Option Segment) (b : Bool) → fills_large o ≡ b
    → (eqb (p % SPAN_PAGES) 0 && fills_large o) ≡ (eqb (p % SPAN_PAGES) 0 && b)
large_flag p o b e = ap (λ x. eqb (p % SPAN_PAGES) 0 && x) e

and_false : (b : Bool) → (b && false) ≡ false
and_false true = refl
and_false false = refl

pub not_large : (ss : List Segment) (first p : ℕ) → rest_at ss first p ≡ None → is_large_at ss first p ≡ false
not_large ss first p e = ap (λ o. eqb (p % SPAN_PAGES) 0 && fills_large o) e ∙ and_false (eqb (p % SPAN_PAGES) 0)

pub small_rest : (ss : List Segment) (first p : ℕ) (r : Segment) → rest_at ss first p ≡ Some r → r.pages < TABLE_ENTRIES
    → is_large_at ss first p ≡ false
small_rest ss first p r e lt =
    let no : fills_large (Some r) ≡ false = grind (arith, nat_tests) in
    ap (λ o. eqb (p % SPAN_PAGES) 0 && fills_large o) e ∙ ap (λ x. eqb (p % SPAN_PAGES) 0 && x) no ∙ and_false (eqb (p % SPAN_PAGES) 0)

-- no large leaf begins in the span of a page where a segment ends in it
pub inner_small : (ss : List Segment) (first p to : ℕ) (r : Segment) → rest_at ss first p ≡ Some r → to ≡ p + r.pages → 0 < to % SPAN_PAGES
    → p < to → p / SPAN_PAGES ≡ (to - 1) / SPAN_PAGES → is_large_at ss first (SPAN_PAGES * (to / SPAN_PAGES)) ≡ false
inner_small ss first p to r e is inside some one = by_rest (rest_at ss first (SPAN_PAGES * (to / SPAN_PAGES))) refl
  where
    by_rest : (o : Option Segment) → rest_at ss first (SPAN_PAGES * (to / SPAN_PAGES)) ≡ o
        → is_large_at ss first (SPAN_PAGES * (to / SPAN_PAGES)) ≡ false
    by_rest None h = not_large ss first (SPAN_PAGES * (to / SPAN_PAGES)) h
    by_rest (Some s) h =
        ⊎_elim (λ (lt : s.pages < TABLE_ENTRIES). small_rest ss first (SPAN_PAGES * (to / SPAN_PAGES)) s h lt)
        (λ (le : SPAN_PAGES ≤ s.pages).
        let k : ℕ = SPAN_PAGES * (to / SPAN_PAGES) in
        let low : SPAN_PAGES * (to / SPAN_PAGES) ≤ p = omega arith in
        let high : p < TABLE_ENTRIES * (to / SPAN_PAGES) + s.pages = omega arith in
        let same : record { frame = s.frame + (p - SPAN_PAGES * (to / SPAN_PAGES)); pages = SPAN_PAGES * (to / SPAN_PAGES) + s.pages - p }
        ≡ r =
        same_Some _ r (sym (rest_onward ss first (SPAN_PAGES * (to / SPAN_PAGES)) p s h low high) ∙ e) in
        let pages : SPAN_PAGES * (to / SPAN_PAGES) + s.pages - p ≡ r.pages = ap (λ (x : Segment). x.pages) same in
        absurd (omega arith))
        (cases_lt s.pages SPAN_PAGES)

-- ---- segments that were passed

pub none_passed : (ss : List Segment) (first : ℕ) → AreSegments ss → ArePassed ss first first (record { count = 0; start = first })
none_passed ss first are = record {
  few = omega arith;
  before = omega arith;
  rest = λ p low. refl;
  left = are;
  end = refl;
}

-- what lies before a page lies before each one behind it
pub still_passed : (ss : List Segment) (first page to : ℕ) (passed : Passed) → page ≤ to → ArePassed ss first page passed
    → ArePassed ss first to passed
still_passed ss first page to passed low h = record {
  few = h.few;
  before = omega (arith, h.before);
  rest = λ p high. h.rest p (omega arith);
  left = h.left;
  end = h.end;
}

-- the next segment, where it ends before the page
pub one_passed : (ss : List Segment) (first page : ℕ) (passed : Passed) (d : Segment) → passed.count < length ss
    → passed.start + (get_or ss passed.count d).pages ≤ page → ArePassed ss first page passed
    → ArePassed ss first page (record { count = passed.count + 1; start = passed.start + (get_or ss passed.count d).pages })
one_passed ss first page passed d some past h =
    let s = get_or ss passed.count d in
    let rest = drop (passed.count + 1) ss in
    let cut : drop passed.count ss ≡ s ∷ rest = drop_at ss passed.count d some in
    record {
      few = omega arith;
      before = past;
      rest = λ p low. h.rest p low ∙ ap (λ xs. rest_at xs passed.start p) cut ∙ rest_out s rest passed.start p (inr (omega arith));
      left = (subst (λ xs. AreSegments xs) cut h.left).2;
      end = omega (arith, h.end, ap (λ xs. total_pages xs) cut, total-cons s rest);
    }

-- the page lies in it, where it doesn't
pub rest_there : (ss : List Segment) (first page : ℕ) (passed : Passed) (d : Segment) → passed.count < length ss
    → page < passed.start + (get_or ss passed.count d).pages → ArePassed ss first page passed
    → Some (rest_of (get_or ss passed.count d) passed.start page) ≡ rest_at ss first page
rest_there ss first page passed d some within h =
    sym (h.rest page (omega arith) ∙ ap (λ xs. rest_at xs passed.start page) (drop_at ss passed.count d some)
    ∙ rest_in (get_or ss passed.count d) (drop (passed.count + 1) ss) passed.start page h.before within)

-- all were passed
pub all_passed : (ss : List Segment) (first page : ℕ) (passed : Passed) → length ss ≤ passed.count → ArePassed ss first page passed
    → None ≡ rest_at ss first page
all_passed ss first page passed all h =
    sym (h.rest page (omega arith) ∙ ap (λ xs. rest_at xs passed.start page) (drop_ended ss passed.count all)
    ∙ rest-nil passed.start page)
