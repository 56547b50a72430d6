-- Maps one level up, and one after the other.
use Rattle.std.proofs.Common.{◌≡◌, ℕ, suc, ◌/◌, ◌<◌, ◌≤◌, ◌⊎◌, inl, inr, ⊎_elim, Option, Some, List, [], ◌++◌, refl, sym, ap, ◌∙◌, arith}
use Rattle.std.proofs.lemmas.Bool.{cases_lt}
use Rattle.tables.specs.declared.entries.TheConstants.{TABLE_ENTRIES}
use Rattle.dmatypes.specs.World.{Target}
use Rattle.vtdbits.specs.declared.entry.SsEntry.TheVariants.{Table}
use Rattle.tables.specs.Under.{ChangesUnder}
use Rattle.tables.specs.Tree.{Memory, span, index_in, leaf_from, table_from, stated, states}
use Rattle.tables.specs.Pool.{Pool, memory, occurs, IsTree}
use Rattle.tables.specs.Changes.{TakesAndGivesFrames, MapsPages, IsOutside}
use Rattle.tables.proofs.pools.GivenBack.{occurs-append}
use Rattle.tables.proofs.unmaps.UnderEntry.{below_under, other_leaf, other_table}
use Rattle.tables.proofs.walks.Steps.{leaf_under, table_under, table_top, same_or_not, same_span, same_index}

-- the frames of two changes in a row
pub moves_then : (a b c : Pool) (level t : ℕ) (cut more : List ℕ) → TakesAndGivesFrames a b level t cut
    → TakesAndGivesFrames b c level t more → TakesAndGivesFrames a c level t (cut ++ more)
moves_then a b c level t cut more x y = record {
  account = λ f. omega (arith, x.account f, y.account f, occurs-append f cut more);
  fewer = λ f. omega (arith, x.fewer f, y.fewer f);
  others = λ f k k_in none. y.others f k k_in (omega (arith, x.account f, none)) ∙ x.others f k k_in none;
  frames = y.frames ∙ x.frames;
}

pub no_moves : (a : Pool) (level t : ℕ) → TakesAndGivesFrames a a level t []
no_moves a level t = record {
  account = λ f. omega arith;
  fewer = λ f. omega arith;
  others = λ f k k_in none. refl;
  frames = refl;
}

-- the tables on a page's way from a table, by the table under its entry
pub table_either : (m n : Memory) (l t c p w x : ℕ) (P : Type 0) → m (suc l) t (index_in l p) ≡ Table c
    → n (suc l) t (index_in l p) ≡ Table c → table_from m (suc l) t p w ≡ Some x → (table_from n (suc l) t p w ≡ Some x → P)
    → (table_from m l c p w ≡ Some x → (table_from n l c p w ≡ table_from n (suc l) t p w) → P) → P
table_either m n l t c p w x P e f h same below =
    ⊎_elim (λ top. same (table_top n l t p w top ∙ sym (table_top m l t p w top) ∙ h))
    (λ lower. below (sym (table_under m l t p w (Table c) lower e) ∙ h) (sym (table_under n l t p w (Table c) lower f)))
    (same_or_not w (suc l))

-- a map under an entry is one of the table
pub maps_up : (old new : Pool) (l t i c from to : ℕ) (says : ℕ → Option Target) → IsTree old (suc l) t → i < TABLE_ENTRIES
    → i ≡ index_in l from → memory old.words (suc l) t i ≡ Table c → ((p : ℕ) → from ≤ p → p < to → p / span l ≡ from / span l)
    → TakesAndGivesFrames old new l c [] → MapsPages old new l c from to says → MapsPages old new (suc l) t from to says
maps_up old new l t i c from to says tree a is names one moves maps =
    let m : Memory = memory old.words in
    let n : Memory = memory new.words in
    let both = below_under old new l t i c [] tree a names moves in
    let u : ChangesUnder old new l t i [] = both.0 in
    let here_old : (p : ℕ) → index_in l p ≡ i → m (suc l) t (index_in l p) ≡ Table c = λ p e. ap (λ j. m (suc l) t j) e ∙ names in
    let here_new : (p : ℕ) → index_in l p ≡ i → n (suc l) t (index_in l p) ≡ Table c = λ p e. ap (λ j. n (suc l) t j) e ∙ both.1 in
    let near : (p : ℕ) → p / span (suc l) ≡ from / span (suc l) → index_in l p ≡ i → p / span l ≡ from / span l =
    λ p wide e. same_span l p from wide (e ∙ is) in
    record {
      mapped = λ p low high.
          let e : index_in l p ≡ i = same_index l p from (one p low high) ∙ sym is in
          ap (stated p) (leaf_under n l t p (Table c) (here_new p e)) ∙ maps.mapped p low high;
      elsewhere = λ p wide out.
          ⊎_elim
          (λ e.
          leaf_under n l t p (Table c) (here_new p e) ∙ maps.elsewhere p (near p wide e) out
          ∙ sym (leaf_under m l t p (Table c) (here_old p e))) (λ ne. other_leaf old new l t i p [] tree a u ne)
          (same_or_not (index_in l p) i);
      tables = λ p w x h.
          ⊎_elim
          (λ e.
          table_either m n l t c p w x (table_from n (suc l) t p w ≡ Some x) (here_old p e) (here_new p e) h (λ k. k)
          (λ k up. sym up ∙ maps.tables p w x k)) (λ ne. other_table old new l t i p w [] tree a u ne ∙ h)
          (same_or_not (index_in l p) i);
      taken = λ p w x h.
          ⊎_elim
          (λ e.
          table_either n m l t c p w x ((table_from m (suc l) t p w ≡ Some x) ⊎ (0 < occurs x old.free)) (here_new p e) (here_old p e) h
          (λ k. inl k) (λ k up. ⊎_elim (λ there. inl (sym up ∙ there)) (λ free. inr free) (maps.taken p w x k)))
          (λ ne. inl (sym (other_table old new l t i p w [] tree a u ne) ∙ h)) (same_or_not (index_in l p) i);
      clear = λ p w wide far.
          ⊎_elim
          (λ e. ⊎_elim (λ top. table_top n l t p w top ∙ sym (table_top m l t p w top))
          (λ lower.
          table_under n l t p w (Table c) lower (here_new p e) ∙ maps.clear p w (near p wide e) far
          ∙ sym (table_under m l t p w (Table c) lower (here_old p e)))
          (same_or_not w (suc l)))
          (λ ne. other_table old new l t i p w [] tree a u ne)
          (same_or_not (index_in l p) i);
    }

-- a map after a change that left what is stated
pub maps_over : (a b c : Pool) (level t from to : ℕ) (says : ℕ → Option Target)
    → ((p : ℕ) → leaf_from (memory b.words) level t p ≡ leaf_from (memory a.words) level t p) → TakesAndGivesFrames a b level t []
    → MapsPages a b level t from to (states (memory a.words) level t) → MapsPages b c level t from to says
    → MapsPages a c level t from to says
maps_over a b c level t from to says leaves moves x y = record {
  mapped = y.mapped;
  elsewhere = λ p wide out. y.elsewhere p wide out ∙ leaves p;
  tables = λ p w z h. y.tables p w z (x.tables p w z h);
  taken = λ p w z h. ⊎_elim (λ k. x.taken p w z k) (λ free. inr (omega (arith, free, moves.fewer z))) (y.taken p w z h);
  clear = λ p w wide far. y.clear p w wide far ∙ x.clear p w wide far;
}

pub no_maps : (a : Pool) (level t from : ℕ) (says : ℕ → Option Target) → MapsPages a a level t from from says
no_maps a level t from says = record {
  mapped = λ p low high. absurd (omega (arith, low, high));
  elsewhere = λ p wide out. refl;
  tables = λ p w z h. h;
  taken = λ p w z h. inl h;
  clear = λ p w wide far. refl;
}

before : (from mid to p : ℕ) → from ≤ mid → mid < to → IsOutside from to p → IsOutside from mid p × IsOutside mid to p
before from mid to p lo hi (inl h) = (inl h, inl (omega arith))
before from mid to p lo hi (inr h) = (inr (omega arith), inr h)

-- two maps one after the other, of pages one after the other
pub maps_then : (a b c : Pool) (level t from mid to : ℕ) (says : ℕ → Option Target) → from ≤ mid → mid < to
    → ((p : ℕ) → from ≤ p → p < to → p / span level ≡ from / span level)
    → TakesAndGivesFrames a b level t [] → MapsPages a b level t from mid says → MapsPages b c level t mid to says
    → MapsPages a c level t from to says
maps_then a b c level t from mid to says lo hi one moves x y =
    let shift : from / span level ≡ mid / span level = sym (one mid lo hi) in
    record {
      mapped = λ p low high.
          ⊎_elim
          (λ early. ap (stated p) (y.elsewhere p (one p low high ∙ shift) (inl early)) ∙ x.mapped p low early)
          (λ late. y.mapped p late high)
          (cases_lt p mid);
      elsewhere = λ p wide out.
          let both = before from mid to p lo hi out in
          y.elsewhere p (wide ∙ shift) both.1 ∙ x.elsewhere p wide both.0;
      tables = λ p w z h. y.tables p w z (x.tables p w z h);
      taken = λ p w z h. ⊎_elim (λ k. x.taken p w z k) (λ free. inr (omega (arith, free, moves.fewer z))) (y.taken p w z h);
      clear = λ p w wide far.
          y.clear p w (wide ∙ shift) (λ q low high. far q (omega arith) high) ∙ x.clear p w wide (λ q low high. far q low (omega arith));
    }

-- what is said of the pages counts alone
pub maps_said : (a b : Pool) (level t from to : ℕ) (says tells : ℕ → Option Target) → ((p : ℕ) → from ≤ p → p < to → says p ≡ tells p)
    → MapsPages a b level t from to says → MapsPages a b level t from to tells
maps_said a b level t from to says tells same x = record {
  mapped = λ p low high. x.mapped p low high ∙ same p low high;
  elsewhere = x.elsewhere;
  tables = x.tables;
  taken = x.taken;
  clear = x.clear;
}
