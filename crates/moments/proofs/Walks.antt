-- The laws, from what a walk meets.
use Rattle.std.proofs.Common.{◌≡◌, ◌⊎◌, inl, inr, ⊎_elim, ℕ, ◌==◌, ◌+◌, ◌/◌, ◌<◌, ◌≤◌, Bool, true, false, cond, nat_lt, Some}
use Rattle.std.proofs.Common.{None, IsSome, refl, subst, ap, sym, ◌∙◌, arith}
use Rattle.std.proofs.Math.Nat.{div-eq_of_lt}
use Rattle.std.proofs.lemmas.Bool.{cases_lt}
use Rattle.std.proofs.lemmas.Bool.Decides.{nat_tests}
use Rattle.dmatypes.specs.Page.{IsWithin, Range, levels, pages_end}
use Rattle.dmatypes.specs.declared.width.Width.{Width}
use Rattle.dmatypes.specs.declared.width.Width.TheVariants.{W39, W48}
use Rattle.tables.specs.Tree.{Memory, leaf_from, root_states, span, stated, states}
use Rattle.tables.specs.Pool.{Pool, memory}
use Rattle.moments.specs.Laws.{DestroysAreOldOrAbsent, MapsAreOldOrNew, OneOrderMatters, OthersAreSteady, UnmapsAreOldOrNew}
use Rattle.moments.specs.Moments.{IsBelowEnd, Reached, meanwhile}
use Rattle.moments.proofs.Between.{between, whole}
use Rattle.moments.proofs.Maps.{map_leaf}
use Rattle.moments.proofs.Matters.{goes_missing, was_there}
use Rattle.moments.proofs.Others.{destroyed, steady}
use Rattle.moments.proofs.Passed.{map_passed, unmap_passed}
use Rattle.moments.proofs.Unmaps.{unmap_leaf}

span_width : (w : Width) → span (levels w) ≡ pages_end w
unfolding span
span_width W39 = refl
span_width W48 = refl

-- the pages of a width are in one span of its root
pub one_span : (w : Width) (p : ℕ) → p < pages_end w → p / span (levels w) ≡ 0
one_span w p small = div-eq_of_lt (let e : span (levels w) ≡ pages_end w = span_width w in omega arith)

pub near : (w : Width) (range : Range) (page : ℕ) → IsBelowEnd range w → page < pages_end w
    → page / span (levels w) ≡ range.first / span (levels w)
near w range page below small = one_span w page small ∙ sym (one_span w range.first (omega (arith, below.0, below.1)))

-- what a root states is by its width alone
pub by_width : (w : Width) (a b c : Memory) (root page : ℕ)
    → (page < pages_end w → (leaf_from a (levels w) root page ≡ leaf_from b (levels w) root page)
    ⊎ (leaf_from a (levels w) root page ≡ leaf_from c (levels w) root page))
    → (root_states a w root page ≡ root_states b w root page) ⊎ (root_states a w root page ≡ root_states c w root page)
by_width w a b c root page h = by_test (nat_lt page (pages_end w)) refl
  where
    by_test : (t : Bool) → nat_lt page (pages_end w) ≡ t
        → (cond t (states a (levels w) root page) None ≡ cond t (states b (levels w) root page) None)
        ⊎ (cond t (states a (levels w) root page) None ≡ cond t (states c (levels w) root page) None)
    by_test true e = elim (h (grind (arith, nat_tests))) [ inl x ↦ inl (ap (stated page) x) | inr x ↦ inr (ap (stated page) x) ]
    by_test false e = inl refl

abbrev OldOrNewLeaf : Pool → Pool → Reached → Width → ℕ → ℕ → Type 0
OldOrNewLeaf old new reached width root page =
    (leaf_from (meanwhile old.words new.words reached) (levels width) root page ≡ leaf_from (memory old.words) (levels width) root page)
    ⊎ (leaf_from (meanwhile old.words new.words reached) (levels width) root page ≡ leaf_from (memory new.words) (levels width) root page)

pub maps_old_or_new : MapsAreOldOrNew
maps_old_or_new old new width root range says reached page map =
    record {
      found = by_width width (meanwhile old.words new.words reached) (memory old.words) (memory new.words) root page leaf;
      leaf = leaf;
      tables = λ l t small h. inr (map_passed old new (meanwhile old.words new.words reached) (levels width) root range.first
          (range.first + range.pages) page says map.zeroed (between old new reached) map.maps l t h);
    }
  where
    leaf : page < pages_end width
        → OldOrNewLeaf old new reached width root page
    leaf small =
        map_leaf old new (meanwhile old.words new.words reached) (levels width) root range.first (range.first + range.pages) says map.zeroed
        map.maps (λ p low high. map.absent p (low, high)) (between old new reached) page (near width range page map.below small)

pub unmaps_old_or_new : UnmapsAreOldOrNew
unmaps_old_or_new old new width root range cut reached page unmap first =
    record {
      found = by_width width (meanwhile old.words new.words reached) (memory old.words) (memory new.words) root page leaf;
      leaf = leaf;
      tables = λ l t small h. unmap_passed old new (meanwhile old.words new.words reached) (levels width) root range.first
          (range.first + range.pages) page cut unmap.zeroed (between old new reached) unmap.unmaps
          (near width range page unmap.below small) l t h;
    }
  where
    leaf : page < pages_end width
        → OldOrNewLeaf old new reached width root page
    leaf small =
        unmap_leaf old new (meanwhile old.words new.words reached) (levels width) root range.first (range.first + range.pages) cut
        unmap.zeroed unmap.unmaps (between old new reached) (whole old new reached first) page (near width range page unmap.below small)

pub destroys_old_or_absent : DestroysAreOldOrAbsent
destroys_old_or_absent old new width root reached page ended = by_test (nat_lt page (pages_end width)) refl
  where
    by_test : (t : Bool) → nat_lt page (pages_end width) ≡ t
        → (cond t (states (meanwhile old.words new.words reached) (levels width) root page) None
        ≡ cond t (states (memory old.words) (levels width) root page) None)
        ⊎ (cond t (states (meanwhile old.words new.words reached) (levels width) root page) None ≡ None)
    by_test true e =
        elim (destroyed old new width root reached page ended)
        [ inl x ↦ inl (ap (stated page) x) | inr x ↦ inr (ap (stated page) x) ]
    by_test false e = inl refl

pub others_steady : OthersAreSteady
others_steady old new width other root root' cut reached page moves apart =
    ap (λ o. cond (nat_lt page (pages_end other)) (stated page o) None)
    (steady old new (levels width) root (levels other) root' cut reached page moves apart)

-- what a root states of a page of its width
within_width : (w : Width) (a : Memory) (root page : ℕ) → page < pages_end w → root_states a w root page ≡ states a (levels w) root page
within_width w a root page small =
    let yes : nat_lt page (pages_end w) ≡ true = grind (arith, nat_tests) in ap (λ t. cond t (states a (levels w) root page) None) yes

outside : (range : Range) (page : ℕ) → (IsWithin range page → ⊥) → (page < range.first) ⊎ (range.first + range.pages ≤ page)
outside range page not =
    ⊎_elim (λ low. inl low)
    (λ high. ⊎_elim (λ inside. absurd (not (high, inside))) (λ past. inr past) (cases_lt page (range.first + range.pages)))
    (cases_lt page range.first)

pub order_matters : OneOrderMatters
order_matters old new width root range cut table below page leaf unmap small at was is not = (
  (λ l t k. l == 2),
  within_width width (meanwhile old.words new.words (λ l t k. l == 2)) root page small
      ∙ ap (stated page) (goes_missing old new (levels width) root range.first (range.first + range.pages) cut page table below leaf
      unmap.zeroed unmap.unmaps same at was is),
  subst (λ o. IsSome o) (sym before) refl,
  subst (λ o. IsSome o) (sym (within_width width (memory new.words) root page small
      ∙ unmap.unmaps.elsewhere page same (outside range page not) ∙ sym (within_width width (memory old.words) root page small)
      ∙ before)) refl,
)
  where
    same : page / span (levels width) ≡ range.first / span (levels width)
    same = near width range page unmap.below small

    before : root_states (memory old.words) width root page
        ≡ stated page (Some (record { size = 1; frame = leaf.frame; rights = leaf.rights }))
    before =
        within_width width (memory old.words) root page small
        ∙ ap (stated page) (was_there (memory old.words) (levels width) root page table leaf at was)
