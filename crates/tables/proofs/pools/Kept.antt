-- What stays in a tree and in others, over a whole call.
use Rattle.std.proofs.Common.{◌≡◌, ℕ, zero, suc, ◌+◌, ◌/◌, ◌%◌, ◌<◌, ◌≤◌, ◌⊎◌, inl, inr, ⊎_elim, Option, Some, None, List, refl, sym, ◌∙◌}
use Rattle.std.proofs.Common.{arith}
use Rattle.std.proofs.Math.Nat.{div-eq_of_lt}
use Rattle.std.proofs.lemmas.Bool.{cases_lt}
use Rattle.std.proofs.lemmas.Option.{none-some}
use Rattle.std.specs.Prelude.{OnOk, OnErr, Result, Ok, Err}
use Rattle.dmatypes.specs.Page.{levels, pages_end}
use Rattle.dmatypes.specs.declared.width.Width.{Width}
use Rattle.dmatypes.specs.declared.width.Width.TheVariants.{W39, W48}
use Rattle.tables.specs.declared.entries.TheConstants.{TABLE_ENTRIES}
use Rattle.dmatypes.specs.World.{Target}
use Rattle.tables.specs.Tree.{Memory, LeafEntry, span, leaf_from, stated, states, uses, IsLeafAt, IsTableAt}
use Rattle.tables.specs.Pool.{Pool, word, memory, occurs, IsTree}
use Rattle.tables.specs.Changes.{TakesAndGivesFrames, MapsPages, IsApart, TreeStays}
use Rattle.tables.proofs.walks.Agreeing.{AgreeAt, to_agree, leaf_agrees, table_agrees, uses_agree}
use Rattle.tables.proofs.walks.Words.{same_entry}
use Rattle.tables.proofs.walks.Near.{div_within, near_at, span_pos}
use Rattle.tables.proofs.spelled.Stays.{words_stay}

pub span-levels : (width : Width) → span (levels width) ≡ pages_end width
unfolding span
span-levels W39 = refl
span-levels W48 = refl

-- each width has two levels at least
pub some_levels : (width : Width) → 2 ≤ levels width
some_levels W39 = omega arith
some_levels W48 = omega arith

-- the pages of a tree are in its root's one span
pub same_root : (level p q : ℕ) → p < span level → q < span level → p / span level ≡ q / span level
same_root level p q a b = div-eq_of_lt a ∙ sym (div-eq_of_lt b)

-- and so are the pages of a leaf entry
pub leaf_inside : (level j first p : ℕ) → 1 ≤ level → j < 2 → first % span j ≡ 0 → first ≤ p → p < first + span j
    → p / span level ≡ first / span level
leaf_inside level j first p some lt aligned low high =
    near_at j level p first (omega arith) (div_within first p (span j) (span_pos j) aligned low high)

pub stated_none : (p : ℕ) (x : Option LeafEntry) → stated p x ≡ None → x ≡ None
stated_none p None h = refl
stated_none p (Some x) h = cc

-- a map leaves every leaf entry
pub map_leaves : (old new : Pool) (level root from to : ℕ) (says : ℕ → Option Target) → 1 ≤ level → from < span level
    → ((p : ℕ) → from ≤ p → p < to → states (memory old.words) level root p ≡ None) → MapsPages old new level root from to says
    → (first pages frame rights : ℕ) → IsLeafAt (memory old.words) level root first pages frame rights
    → IsLeafAt (memory new.words) level root first pages frame rights
map_leaves old new level root from to says some within absent maps first pages frame rights (j, leaf) = (
  j,
  (
    leaf.0,
    leaf.1,
    leaf.2,
    leaf.3,
    λ p low high.
        let inside : p / span level ≡ from / span level =
        leaf_inside level j first p some leaf.0 leaf.2 low (omega (arith, high, leaf.1)) ∙ same_root level first from leaf.3 within in
        let here = leaf.4 p low high in
        kept p inside here,
  ),
)
  where
    kept : (p : ℕ) → p / span level ≡ from / span level
        → leaf_from (memory old.words) level root p ≡ Some (record { size = j; frame = frame; rights = rights })
        → leaf_from (memory new.words) level root p ≡ Some (record { size = j; frame = frame; rights = rights })
    kept p inside here =
        ⊎_elim
        (λ (before : p < from). maps.elsewhere p inside (inl before) ∙ here)
        (λ (after : from ≤ p). ⊎_elim
        (λ (among : p < to).
        absurd (none-some _ (sym (stated_none p (leaf_from (memory old.words) level root p) (absent p after among)) ∙ here)))
        (λ (behind : to ≤ p). maps.elsewhere p inside (inr behind) ∙ here)
        (cases_lt p to))
        (cases_lt p from)

pub map_tables : (old new : Pool) (height root from to : ℕ) (says : ℕ → Option Target) → MapsPages old new height root from to says
    → (first level table : ℕ) → IsTableAt (memory old.words) height root first level table
    → IsTableAt (memory new.words) height root first level table
map_tables old new height root from to says maps first level table at =
    (at.0, at.1, at.2, at.3, λ p low high. maps.tables p level table (at.4 p low high))

none_or_some : (n : ℕ) → (n ≡ 0) ⊎ (0 < n)
none_or_some zero = inl refl
none_or_some (suc n) = inr (omega arith)

-- a tree apart from the one that changed stays
pub apart_stays : (old new : Pool) (l t l' t' : ℕ) (cut : List ℕ) → IsTree old l t → TakesAndGivesFrames old new l t cut → IsTree old l' t'
    → IsApart old l t l' t' → TreeStays old new l' t'
apart_stays old new l t l' t' cut first moves tree apart =
    let m : Memory = memory old.words in
    let n : Memory = memory new.words in
    let agree : AgreeAt (memory old.words) (memory new.words) l' t' =
    to_agree m n l' t' (λ f some v k k_in. same_entry old.words new.words v f k (moves.others f k k_in (apart f some))) in
    let same : (f : ℕ) → uses (memory new.words) l' t' f ≡ uses (memory old.words) l' t' f = λ f. uses_agree m n l' t' f agree in
    record {
      tree = record {
        once =
            λ f.
            ⊎_elim (λ none. omega (arith, none, same f, moves.account f, first.once f))
            (λ some. omega (arith, same f, moves.account f, apart f some, tree.once f))
            (none_or_some (uses (memory old.words) l' t' f));
        within =
            λ f past.
            omega (
              arith,
              same f,
              moves.account f,
              first.within f (omega (arith, moves.frames)),
              tree.within f (omega (arith, moves.frames)),
            );
      };
      same_frames = same;
      same_leaves = λ p. leaf_agrees m n l' t' p agree;
      same_tables = λ p w. table_agrees m n l' t' p w agree;
      spelled = words_stay old.words new.words l' t' (λ f some k k_in. moves.others f k k_in (apart f some));
    }

-- a call that answered one of two
pub either_way : {A E : Type 0} {P Q R : Type 0} (r : Result A E) → OnOk r P → OnErr r Q → (P → R) → (Q → R) → R
either_way (Ok a) ok err f g = f ok
either_way (Err e) ok err f g = g err

-- what a call that did it says, in other words
pub on_done : {A E : Type 0} {P Q : Type 0} (r : Result A E) → OnOk r P → (P → Q) → OnOk r Q
on_done (Ok a) ok f = f ok
on_done (Err e) ok f = ok

-- a tree apart from one that was given back stays
pub given_stays : (old new : Pool) (l t l' t' : ℕ) → IsTree old l t
    → ((f : ℕ) → occurs f new.free ≡ occurs f old.free + uses (memory old.words) l t f)
    → ((f k : ℕ) → k < TABLE_ENTRIES → uses (memory old.words) l t f ≡ 0 → word new.words f k ≡ word old.words f k)
    → new.frames ≡ old.frames → IsTree old l' t' → IsApart old l t l' t' → TreeStays old new l' t'
given_stays old new l t l' t' first free others frames tree apart =
    let m : Memory = memory old.words in
    let n : Memory = memory new.words in
    let agree : AgreeAt (memory old.words) (memory new.words) l' t' =
    to_agree m n l' t' (λ f some v k k_in. same_entry old.words new.words v f k (others f k k_in (omega (arith, apart f some)))) in
    let same : (f : ℕ) → uses (memory new.words) l' t' f ≡ uses (memory old.words) l' t' f = λ f. uses_agree m n l' t' f agree in
    record {
      tree = record {
        once =
            λ f.
            ⊎_elim (λ none. omega (arith, none, same f, free f, first.once f))
            (λ some. omega (arith, same f, free f, apart f some, tree.once f)) (none_or_some (uses (memory old.words) l' t' f));
        within = λ f past. omega (arith, same f, free f, first.within f (omega (arith, frames)), tree.within f (omega (arith, frames)));
      };
      same_frames = same;
      same_leaves = λ p. leaf_agrees m n l' t' p agree;
      same_tables = λ p w. table_agrees m n l' t' p w agree;
      spelled = words_stay old.words new.words l' t' (λ f some k k_in. others f k k_in (omega (arith, apart f some)));
    }
