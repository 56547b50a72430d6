-- What marks tell of leaves.
use Rattle.std.proofs.Common.{◌≡◌, ◌≢◌, ◌↔◌, ℕ, ◌+◌, ◌-◌, ◌*◌, ◌/◌, ◌%◌, ◌^◌, ◌<◌, ◌≤◌, ◌⊎◌, ◌&&◌, ◌==◌, inl, inr, Bool, true, false, not}
use Rattle.std.proofs.Common.{List, [], ◌∷◌}
use Rattle.std.proofs.Common.{None, find, filter, refl, sym, ap, subst, ◌∙◌, arith, IsTrue, if◌then◌else◌, eq-eqb, nat_le, length, set}
use Rattle.std.proofs.Common.{bit_or, w64}
use Rattle.std.proofs.Common.{slice_index, get_or-set_same, get_or-set_other}
use Rattle.std.specs.Int.{bit_at}
use Rattle.std.proofs.lemmas.Nat.Bits.{bit_at_set_same, bit_at_set_other}
use Rattle.dmatypes.specs.Block.{Block}
use Rattle.unit.specs.Filters.{lie_in}
use Rattle.std.proofs.lemmas.Bool.{cases_eq, eqb-true, false≢true}
use Rattle.std.proofs.lemmas.Bool.Decides.{nat_tests}
use Rattle.dmatypes.specs.World.{IsIn}
use Rattle.dmatypes.specs.declared.page.TheConstants.{SPAN_PAGES}
use Rattle.unit.specs.Caches.{CachedLeaf, IsLeaf}
use Rattle.unit.specs.Marks.{AreMarked, HasMark, IsMarked, MayHold, mark_of}
use Rattle.unit.specs.Walking.{hold}
use Rattle.unit.proofs.caches.Found.{both}
use Rattle.unit.proofs.caches.Known.{both_true}

-- fewer leaves are marked
pub fewer_marked : (marks : List ℕ) (xs ys : List CachedLeaf) → AreMarked marks xs → ((l : CachedLeaf) → IsIn l ys → IsIn l xs)
    → AreMarked marks ys
fewer_marked marks xs ys marked less l there = marked l (less l there)

-- a leaf that is marked stays so by more marks
pub more_marks : (old new : List ℕ) (l : CachedLeaf) → ((i : ℕ) → HasMark old i → HasMark new i) → IsMarked old l → IsMarked new l
more_marks old new l more marked = record { some = marked.some; marked = λ p holds. by_place p (marked.marked p holds) }
  where
    by_place : (p : ℕ) → MayHold old l.domain p → MayHold new l.domain p
    by_place p (inl page) = inl (more (mark_of l.domain p) page)
    by_place p (inr span) = inr (more (mark_of l.domain (p / SPAN_PAGES)) span)

-- where neither place is marked no leaf stands for the page
pub none_holds : (marks : List ℕ) (xs : List CachedLeaf) (domain page : ℕ) → AreMarked marks xs → (MayHold marks domain page → ⊥)
    → (l : CachedLeaf) → IsIn l xs → ((l.domain == domain) && hold l.first l.pages page) ≡ false
none_holds marks xs domain page marked out l there = by_test ((l.domain == domain) && hold l.first l.pages page) refl
  where
    by_test : (b : Bool) → ((l.domain == domain) && hold l.first l.pages page) ≡ b → b ≡ false
    by_test false is = refl
    by_test true is =
        let tests = both _ _ is in
        absurd (out (subst (λ (d : ℕ). MayHold marks d page) (eqb-true l.domain domain tests.0) ((marked l there).marked page tests.1)))

-- what holds of none of a list isn't found
pub found_none : {A : Type 0} (p : A → Bool) (xs : List A) → ((x : A) → IsIn x xs → p x ≡ false) → find p xs ≡ None
found_none p [] none = refl
found_none p (x ∷ xs) none = rw (none x (inl refl)) (found_none p xs (λ y there. none y (inr there)))

-- nor dropped
pub kept_in : {A : Type 0} (test : A → Bool) (xs : List A) → ((x : A) → IsIn x xs → test x ≡ false) → filter (λ x. not (test x)) xs ≡ xs
kept_in test [] none = refl
kept_in {A} test (x ∷ xs) none =
    ap (λ b. if not b then x ∷ filter (λ y. not (test y)) xs else filter (λ y. not (test y)) xs) (none x (inl refl))
    ∙ ap (λ ys. x ∷ ys) (kept_in test xs (λ y there. none y (inr there)))

-- a leaf stands for its first page
pub holds_first : (marks : List ℕ) (l : CachedLeaf) → IsMarked marks l → IsTrue (hold l.first l.pages l.first)
holds_first marks l marked = let some = marked.some in grind (arith, nat_tests)

-- a leaf for whose first page none stands isn't there
pub outside : (marks : List ℕ) (xs : List CachedLeaf) (l : CachedLeaf) (domain first : ℕ) → AreMarked marks xs → l.domain ≡ domain
    → l.first ≡ first → ((k : CachedLeaf) → IsIn k xs → ((k.domain == domain) && hold k.first k.pages first) ≡ false) → IsIn l xs → ⊥
outside marks xs l domain first marked of at none there =
    let holds = subst (λ (p : ℕ). IsTrue (hold l.first l.pages p)) at (holds_first marks l (marked l there)) in
    absurd (false≢true (sym (none l there) ∙ both_true _ _ (eq-eqb l.domain domain of) holds))

-- more leaves, of which one is new, are marked by more marks
pub more_marked : (old new : List ℕ) (x : CachedLeaf) (xs ys : List CachedLeaf) → AreMarked old xs
    → ((i : ℕ) → HasMark old i → HasMark new i) → IsMarked new x → ((l : CachedLeaf) → IsIn l ys → IsIn l xs ⊎ (l ≡ x))
    → AreMarked new ys
more_marked old new x xs ys marked more here gained l there = by_place (gained l there)
  where
    by_place : IsIn l xs ⊎ (l ≡ x) → IsMarked new l
    by_place (inl before) = more_marks old new l more (marked l before)
    by_place (inr is) = subst (IsMarked new) (sym is) here

pub neither : (marks : List ℕ) (domain page a b : ℕ) → a ≡ mark_of domain page → b ≡ mark_of domain (page / SPAN_PAGES)
    → (HasMark marks a → ⊥) → (HasMark marks b → ⊥) → MayHold marks domain page → ⊥
neither marks domain page a b at_page at_span no_page no_span (inl mark) = no_page (subst (HasMark marks) (sym at_page) mark)
neither marks domain page a b at_page at_span no_page no_span (inr mark) = no_span (subst (HasMark marks) (sym at_span) mark)

-- a test that fails tells of no mark
pub no_mark : (P : Type 0) (test : Bool) → test ≡ false → (IsTrue test ↔ P) → P → ⊥
no_mark P test fails tells mark = absurd (false≢true (sym fails ∙ tells.1 mark))

-- a leaf lies in a block of one page only where it stands for that page
pub outside_page : (l : CachedLeaf) (domain : ℕ) (block : Block) → 0 < l.pages → block.order ≡ 0
    → ((l.domain == domain) && hold l.first l.pages block.first) ≡ false
    → ((l.domain == domain) && lie_in block l.first l.pages) ≡ false
outside_page l domain block some one none = by_test ((l.domain == domain) && lie_in block l.first l.pages) refl
  where
    by_test : (b : Bool) → ((l.domain == domain) && lie_in block l.first l.pages) ≡ b → b ≡ false
    by_test false is = refl
    by_test true is =
        let tests = both (l.domain == domain) (lie_in block l.first l.pages) is in
        let lies = both (nat_le block.first l.first) (nat_le (l.first + l.pages) (block.first + 2 ^ block.order)) tests.1 in
        let low : nat_le block.first l.first ≡ true = lies.0 in
        let high : nat_le (l.first + l.pages) (block.first + 1) ≡ true =
        subst (λ (o : ℕ). nat_le (l.first + l.pages) (block.first + 2 ^ o) ≡ true) one lies.1 in
        let holds : hold l.first l.pages block.first ≡ true = grind (arith, nat_tests) in
        absurd (false≢true (sym none ∙ both_true _ _ tests.0 holds))

-- ---- marks are set

-- the words with one more mark
abbrev with_mark : List ℕ → ℕ → List ℕ
with_mark marks place = set marks (place / 64) (bit_or (slice_index marks (place / 64)) (1 * 2 ^ (place % 64) % 2 ^ 64))

pub mark_set : (marks : List ℕ) (place : ℕ) → place / 64 < length marks → HasMark (with_mark marks place) place
mark_set marks place inside =
    ap (λ word. bit_at word (place % 64))
    (get_or-set_same marks (place / 64) (bit_or (slice_index marks (place / 64)) (1 * 2 ^ (place % 64) % 2 ^ 64)) 0 inside)
    ∙ bit_at_set_same w64 (slice_index marks (place / 64)) (place % 64) (omega arith)

pub marks_stay : (marks : List ℕ) (place i : ℕ) → place / 64 < length marks → HasMark marks i → HasMark (with_mark marks place) i
marks_stay marks place i inside mark =
    let word = bit_or (slice_index marks (place / 64)) (1 * 2 ^ (place % 64) % 2 ^ 64) in
    elim (cases_eq (i / 64) (place / 64)) [
      | inl same ↦ elim (cases_eq (i % 64) (place % 64)) [
        | inl bit ↦ subst (HasMark (with_mark marks place)) (omega (arith, same, bit)) (mark_set marks place inside)
        | inr other ↦
            ap (λ k. bit_at (slice_index (with_mark marks place) k) (i % 64)) same
            ∙ ap (λ w. bit_at w (i % 64)) (get_or-set_same marks (place / 64) word 0 inside)
            ∙ bit_at_set_other w64 (slice_index marks (place / 64)) (place % 64) (omega arith) (i % 64) other
            ∙ ap (λ k. bit_at (slice_index marks k) (i % 64)) (sym same) ∙ mark
      ]
      | inr other ↦ ap (λ w. bit_at w (i % 64)) (get_or-set_other marks (place / 64) (i / 64) word 0 other) ∙ mark
    ]

-- a leaf of more than a page is of a span
pub of_a_span : (l : CachedLeaf) → IsLeaf l → l.pages ≢ 1 → l.pages ≡ SPAN_PAGES
of_a_span l leaf more = elim leaf.pages [ inl one ↦ absurd (more one) | inr span ↦ span.0 ]

-- a leaf of no more pages than a span has lies in the spans where it begins and ends
pub spans_marked : (marks : List ℕ) (l : CachedLeaf) → 0 < l.pages → l.pages ≤ SPAN_PAGES
    → HasMark marks (mark_of l.domain (l.first / SPAN_PAGES))
    → HasMark marks (mark_of l.domain ((l.first + (l.pages - 1)) / SPAN_PAGES)) → IsMarked marks l
spans_marked marks l some few at_first at_last = record { some = some; marked = λ p holds. by_span p (within p holds) }
  where
    within : (p : ℕ) → IsTrue (hold l.first l.pages p) → (l.first ≤ p) × (p < l.first + l.pages)
    within p holds = (grind (arith, nat_tests), grind (arith, nat_tests))

    by_span : (p : ℕ) → (l.first ≤ p) × (p < l.first + l.pages) → MayHold marks l.domain p
    by_span p in_it = elim (cases_eq (p / SPAN_PAGES) (l.first / SPAN_PAGES)) [
      | inl same ↦ inr (subst (λ n. HasMark marks (mark_of l.domain n)) (sym same) at_first)
      | inr other ↦
          inr (subst (λ n. HasMark marks (mark_of l.domain n)) (omega (arith, other, in_it.0, in_it.1, few)) at_last)
    ]
