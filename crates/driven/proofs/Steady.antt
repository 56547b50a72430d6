-- Where as many table frames are free after a call as before it, no table came into the tree.
use Rattle.std.proofs.Common.{◌≡◌, inl, inr, ⊎_elim, ℕ, zero, suc, ◌+◌, ◌/◌, ◌<◌, ◌≤◌, List, [], ◌∷◌, Option, Some, None, length}
use Rattle.std.proofs.Common.{refl, sym, ap, subst, ◌∙◌, arith}
use Rattle.std.proofs.lemmas.Bool.{cases_lt}
use Rattle.std.proofs.lemmas.List.Sums.{sum_by-cons}
use Rattle.dmatypes.specs.Page.{Range, levels}
use Rattle.dmatypes.specs.declared.call.Mode.{Mode}
use Rattle.dmatypes.specs.declared.call.Mode.TheVariants.{Lazy, Strict}
use Rattle.tables.specs.Changes.{IsCovered, TakesAndGivesFrames, UnmapsPages}
use Rattle.tables.specs.Pool.{IsTree, Pool, memory, occurs}
use Rattle.tables.specs.Tree.{one_if_same, span, sum_below, table_from}
use Rattle.tables.proofs.pools.FreeList.{sum_below_plus}
use Rattle.tables.proofs.sums.Firsts.{last_or_below, sum_below-zeros, sum_below_change, sum_below_same}
use Rattle.tables.proofs.sums.OneFrame.{one_if_same-other, one_if_same-self}
use Rattle.engine.specs.declared.record.Record.{Record}
use Rattle.engine.specs.Domains.{Domain, Operands, domain_at}
use Rattle.engine.specs.Ending.{ByMode, MakesRoom, PutsOff, RetiresAndUnmaps, UnmapsStrictly}
use Rattle.engine.specs.Placing.{Placement, Places}
use Rattle.engine.specs.State.{State, operands_in}
use Rattle.engine.proofs.domains.OneChanged.{domain_low}
use Rattle.engine.proofs.frames.Owners.{tree_of}
use Rattle.quiet.proofs.WhatIsMet.{used_on}
use Rattle.quiet.specs.Quiet.{IsSound}

-- ---- lists of frames

sum_of_one : (x n : ℕ) → x < n → sum_below (one_if_same x) n ≡ 1
sum_of_one x n low =
    omega (
      arith,
      sum_below_change (λ _. 0) (one_if_same x) n x low (λ j k ne. one_if_same-other x j (λ e. ne (sym e))),
      sum_below-zeros n,
      one_if_same-self x,
    )

-- how long a list is, by how often it has each number
length_of : (xs : List ℕ) (n : ℕ) → ((f : ℕ) → n ≤ f → occurs f xs ≡ 0) → sum_below (λ f. occurs f xs) n ≡ length xs
length_of [] n past = sum_below-zeros n
length_of (x ∷ xs) n past =
    let more : (f : ℕ) → occurs f (x ∷ xs) ≡ one_if_same x f + occurs f xs = λ f. sum_by-cons (λ y. one_if_same y f) x xs in
    let inside : x < n =
    ⊎_elim (λ (low : x < n). low) (λ (up : n ≤ x). absurd (omega (arith, past x up, one_if_same-self x, more x))) (cases_lt x n) in
    omega (
      arith,
      sum_below_plus (one_if_same x) (λ f. occurs f xs) n,
      sum_of_one x n inside,
      sum_below_same (λ f. one_if_same x f + occurs f xs) (λ f. occurs f (x ∷ xs)) n (λ f _. more f),
      length_of xs n (λ f up. omega (arith, past f up, more f)),
    )

sum_no_more : (g h : ℕ → ℕ) (n : ℕ) → ((i : ℕ) → h i ≤ g i) → sum_below h n ≤ sum_below g n
unfolding sum_below
sum_no_more g h zero less = omega arith
sum_no_more g h (suc n) less = omega (arith, sum_no_more g h n less, less n)

-- where no value of one function is above the other's and one is below, so is the sum
sum_less : (g h : ℕ → ℕ) (n i : ℕ) → ((j : ℕ) → h j ≤ g j) → i < n → h i < g i → sum_below h n < sum_below g n
unfolding sum_below
sum_less g h zero i less low here = absurd (omega (arith, low))
sum_less g h (suc n) i less low here =
    last_or_below i n
    (λ last. omega (arith, sum_no_more g h n less, subst (λ k. h k < g k) last here))
    (λ below. omega (arith, sum_less g h n i less below here, less n)) low

-- a list as long as another that has no number more often has each as often
pub as_often : (xs ys : List ℕ) (n : ℕ) → ((f : ℕ) → n ≤ f → occurs f xs ≡ 0) → ((f : ℕ) → occurs f ys ≤ occurs f xs)
    → length ys ≡ length xs → (f : ℕ) → occurs f ys ≡ occurs f xs
as_often xs ys n past fewer same f =
    ⊎_elim
    (λ (less : occurs f ys < occurs f xs).
    let low : f < n = ⊎_elim (λ (l : f < n). l) (λ (up : n ≤ f). absurd (omega (arith, past f up, less))) (cases_lt f n) in
    absurd (omega (
      arith,
      sum_less (λ g. occurs g xs) (λ g. occurs g ys) n f fewer low less,
      length_of xs n past,
      length_of ys n (λ g up. omega (arith, fewer g, past g up)),
      same,
    )))
    (λ (no : occurs f xs ≤ occurs f ys). omega (arith, no, fewer f)) (cases_lt (occurs f ys) (occurs f xs))

-- ---- one tree

-- a table of it after was no free frame before, where each frame is free as often
module _ (old new : Pool) (level root : ℕ) (cut : List ℕ) (moves : TakesAndGivesFrames old new level root cut)
    (tree : IsTree old level root) (same : (f : ℕ) → occurs f new.free ≡ occurs f old.free) where
  was_taken : (p w c : ℕ) → table_from (memory new.words) level root p w ≡ Some c → 0 < occurs c old.free → ⊥
  was_taken p w c at free =
      omega (arith, used_on (memory new.words) level root p w c at, moves.account c, same c, tree.once c, free)

-- a table that stays, and one that was there
same_either : (a b : Option ℕ) → ((c : ℕ) → b ≡ Some c → a ≡ Some c) → ((c : ℕ) → a ≡ Some c → b ≡ Some c) → a ≡ b
same_either None None to from = refl
same_either None (Some c) to from = to c refl
same_either (Some c) b to from = sym (from c refl)

module _ (m t : State) (sound : IsSound m) (e : ℕ) (h : Domain) (here : domain_at m.domains e ≡ Some h)
    (count : length t.pool.free ≡ length m.pool.free) where
  abbrev WasAt : ℕ → Option ℕ
  WasAt p = table_from (memory m.pool.words) (levels h.width) h.root p 1

  abbrev IsAt : ℕ → Option ℕ
  IsAt p = table_from (memory t.pool.words) (levels h.width) h.root p 1

  tree : IsTree m.pool (levels h.width) h.root
  tree = tree_of m.pool (domain_at m.domains) e h sound.of_world.1.frames (domain_low m.domains e h sound.places here) here

  free_as_often : ((f : ℕ) → occurs f t.pool.free ≤ occurs f m.pool.free) → (f : ℕ) → occurs f t.pool.free ≡ occurs f m.pool.free
  free_as_often fewer f =
      as_often m.pool.free t.pool.free m.pool.frames (λ g past. omega (arith, tree.within g past)) fewer count f

  -- ---- a map

  pub placed_stays : (new : Domain) (at : Placement) → Places m.pool h at t.pool new → (p : ℕ) → IsAt p ≡ WasAt p
  placed_stays new at places p =
      let same = free_as_often places.moves.fewer in
      same_either (IsAt p) (WasAt p) (λ c was. places.maps.tables p 1 c was)
      (λ c is. elim (places.maps.taken p 1 c is) [
        | inl was ↦ was
        | inr free ↦ absurd (was_taken m.pool t.pool (levels h.width) h.root [] places.moves tree same p 1 c is free)
      ])

  -- ---- an unmap that covers no span

  module _ (range : Range) (narrow : (p : ℕ) → IsCovered range.first (range.first + range.pages) p → ⊥) where
    abbrev Near : ℕ → Type 0
    Near p = p / span (levels h.width) ≡ range.first / span (levels h.width)

    retired_stays : (new : Pool) (b : Domain) (r : Record) → r.range ≡ range → RetiresAndUnmaps m.pool h r new b
        → new.words ≡ t.pool.words → ((f : ℕ) → occurs f r.cut.frames ≡ 0 → occurs f t.pool.free ≡ occurs f new.free)
        → (p : ℕ) → Near p → IsAt p ≡ WasAt p
    retired_stays new b r pages retires is free p near =
        ap (λ ws. table_from (memory ws) (levels h.width) h.root p 1) (sym is)
        ∙ same_either (table_from (memory new.words) (levels h.width) h.root p 1) (WasAt p)
        (λ c was. elim (unmaps.tables p 1 c near was) [ inl stays ↦ stays | inr gone ↦ absurd (narrow p gone.1) ])
        (λ c at. elim (unmaps.taken p 1 c near at) [
          | inl was ↦ was
          | inr fresh ↦ absurd (was_taken m.pool new (levels h.width) h.root r.cut.frames retires.moves tree same p 1 c at fresh.1)
        ])
      where
        unmaps : UnmapsPages m.pool new (levels h.width) h.root range.first (range.first + range.pages) r.cut.frames
        unmaps =
            subst (λ y. UnmapsPages m.pool new (levels h.width) h.root y.first (y.first + y.pages) r.cut.frames) pages retires.unmaps

        none_cut : (f : ℕ) → occurs f r.cut.frames ≡ 0
        none_cut f =
            ⊎_elim
            (λ (some : 0 < occurs f r.cut.frames).
            let (q, (low, high, covered, was)) = unmaps.cut_only f some in absurd (narrow q covered))
            (λ (none : occurs f r.cut.frames ≤ 0). omega (arith, none)) (cases_lt 0 (occurs f r.cut.frames))

        same : (f : ℕ) → occurs f new.free ≡ occurs f m.pool.free
        same f =
            omega (
              arith,
              free f (none_cut f),
              free_as_often (λ g. omega (arith, free g (none_cut g), retires.moves.fewer g)) f,
            )

    -- and that released nothing
    pub ended_stays : (released : ℕ) (new : Domain) (mode : Mode) → released ≡ 0
        → ByMode mode ((released ≡ 0) × UnmapsStrictly (operands_in m h) e range (operands_in t new))
        (PutsOff (operands_in m h) e range released (operands_in t new))
        → (p : ℕ) → Near p → IsAt p ≡ WasAt p
    ended_stays released new Strict none does p near =
        let u = does.1 in
        retired_stays u.pool_between u.between u.retired u.of_range u.retires (sym u.releases.words)
        (λ f kept. omega (arith, u.releases.free f, kept)) p near
    ended_stays released new Lazy none does p near = by_room does.roomy does.room does.retires
      where
        by_room : (roomy : Operands) → MakesRoom (operands_in m h) e released roomy
            → RetiresAndUnmaps roomy.pool roomy.domain does.retired t.pool does.between → IsAt p ≡ WasAt p
        by_room roomy (inl has) retires =
            retired_stays t.pool does.between does.retired does.of_range
            (subst (λ (y : Operands). RetiresAndUnmaps y.pool y.domain does.retired t.pool does.between) has.same retires) refl
            (λ f kept. refl) p near
        by_room roomy (inr empties) retires = absurd (omega (arith, empties.all, none))
