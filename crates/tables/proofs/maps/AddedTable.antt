-- A new table under an absent entry, and a leaf in its place.
use Rattle.std.proofs.Common.{◌≡◌, ◌≢◌, ℕ, suc, ◌+◌, ◌/◌, ◌<◌, ◌⊎◌, inl, inr, ⊎_elim, Some, [], sym, ap, subst, ◌∙◌, arith}
use Rattle.std.proofs.lemmas.Bool.{cases_lt}
use Rattle.std.proofs.lemmas.Option.{none-some, same_Some}
use Rattle.tables.specs.declared.entries.TheConstants.{TABLE_ENTRIES}
use Rattle.vtdbits.specs.Entry.{look}
use Rattle.vtdbits.specs.declared.entry.SsEntry.TheVariants.{Absent, Table}
use Rattle.tables.specs.Under.{ChangesUnder, used_by_entry}
use Rattle.tables.specs.Tree.{Memory, span, index_in, leaf_from, table_from, stated, states, uses, one_if_same, entry_uses}
use Rattle.tables.specs.Pool.{Pool, word, memory, occurs, IsTree, IsZeroed, IsWrite}
use Rattle.tables.specs.Changes.{TakesAndGivesFrames, KeepsSpellings, MapsPages}
use Rattle.tables.proofs.sums.OneFrame.{one_if_same-self}
use Rattle.tables.proofs.unmaps.UnderEntry.{under_moves, other_leaf, other_table, root_apart}
use Rattle.tables.proofs.walks.Steps.{leaf_under, table_under, table_top, too_high, same_or_not, same_span, uses-bare}
use Rattle.tables.proofs.walks.Onward.{IsBare, leaf_zeroed, table_zeroed}
use Rattle.tables.proofs.walks.Words.{zeroed_bare, memory_at}
use Rattle.tables.proofs.spelled.Stays.{zeroed_spelled}
use Rattle.tables.proofs.spelled.UnderEntry.{table_spelled}

no_word : (t i f k : ℕ) → (f ≡ t → k ≡ i → ⊥) → f ≢ t ⊎ (k ≢ i)
no_word t i f k h = ⊎_elim (λ same. inr (λ e. h same e)) (λ ne. inl ne) (same_or_not f t)

-- a table of nothing, in a frame that was free
pub under_added : (old new : Pool) (l t i c : ℕ) → IsTree old (suc (suc l)) t → i < TABLE_ENTRIES
    → memory old.words (suc (suc l)) t i ≡ Absent → memory new.words (suc (suc l)) t i ≡ Table c
    → ((f : ℕ) → occurs f new.free + one_if_same c f ≡ occurs f old.free) → IsBare (memory new.words) c
    → ((f k : ℕ) → k < TABLE_ENTRIES → (f ≡ t → k ≡ i → ⊥) → word new.words f k ≡ word old.words f k) → new.frames ≡ old.frames
    → ChangesUnder old new (suc l) t i []
under_added old new l t i c tree a absent names free bare rest frames =
    let m : Memory = memory old.words in
    let n : Memory = memory new.words in
    record {
      account = λ f.
          let before : used_by_entry m (suc l) t f i ≡ 0 = ap (λ e. entry_uses e (λ c. uses m (suc l) c f)) absent in
          let after : used_by_entry n (suc l) t f i ≡ one_if_same c f =
          ap (λ e. entry_uses e (λ c. uses n (suc l) c f)) names ∙ uses-bare n l c f bare in
          omega (arith, free f);
      fewer = λ f. omega (arith, free f);
      others = λ f k k_in ne none. rest f k k_in (λ e _. ne e);
      row = λ k k_in ne. rest t k k_in (λ _ e. ne e);
      frames = frames;
    }

-- the facts of an added table: nothing that is stated changes
pub record IsAdded (old new : Pool) (l t i c : ℕ) : Type 0 where
  pub under : ChangesUnder old new l t i []
  pub absent : memory old.words (suc l) t i ≡ Absent
  pub names : memory new.words (suc l) t i ≡ Table c
  pub bare : IsBare (memory new.words) c
  pub free : 0 < occurs c old.free

pub added_leaf : (old new : Pool) (l t i c p : ℕ) → IsTree old (suc l) t → i < TABLE_ENTRIES → IsAdded old new l t i c
    → leaf_from (memory new.words) (suc l) t p ≡ leaf_from (memory old.words) (suc l) t p
added_leaf old new l t i c p tree a g =
    let m : Memory = memory old.words in
    let n : Memory = memory new.words in
    ⊎_elim
    (λ e.
    leaf_under n l t p (Table c) (ap (λ j. n (suc l) t j) e ∙ g.names) ∙ leaf_zeroed n l c p g.bare
    ∙ sym (leaf_under m l t p Absent (ap (λ j. m (suc l) t j) e ∙ g.absent))) (λ ne. other_leaf old new l t i p [] tree a g.under ne)
    (same_or_not (index_in l p) i)

-- the only new table on a way is the new one
new_table : (n : Memory) (l c p w x : ℕ) → IsBare n c → table_from n (suc l) c p w ≡ Some x → (w ≡ suc l) × (x ≡ c)
new_table n l c p w x bare h =
    ⊎_elim (λ e. (e, sym (same_Some c x (sym (table_top n l c p w e) ∙ h))))
    (λ ne. ⊎_elim
    (λ low. absurd (none-some x (sym (table_zeroed n (suc l) c p w bare low) ∙ h)))
    (λ high. absurd (none-some x (sym (too_high n (suc l) c p w (omega arith)) ∙ h)))
    (cases_lt w (suc l)))
    (same_or_not w (suc l))

pub added_maps : (old new : Pool) (l t i c from to : ℕ) → IsTree old (suc (suc l)) t → i < TABLE_ENTRIES → from < to
    → index_in (suc l) from ≡ i → IsAdded old new (suc l) t i c
    → MapsPages old new (suc (suc l)) t from to (states (memory old.words) (suc (suc l)) t)
added_maps old new l t i c from to tree a some is g =
    let m : Memory = memory old.words in
    let n : Memory = memory new.words in
    let here_old : (p : ℕ) → index_in (suc l) p ≡ i → m (suc (suc l)) t (index_in (suc l) p) ≡ Absent =
    λ p e. ap (λ j. m (suc (suc l)) t j) e ∙ g.absent in
    let here_new : (p : ℕ) → index_in (suc l) p ≡ i → n (suc (suc l)) t (index_in (suc l) p) ≡ Table c =
    λ p e. ap (λ j. n (suc (suc l)) t j) e ∙ g.names in
    record {
      mapped = λ p low high. ap (stated p) (added_leaf old new (suc l) t i c p tree a g);
      elsewhere = λ p wide out. added_leaf old new (suc l) t i c p tree a g;
      tables = λ p w x h.
          ⊎_elim
          (λ e. ⊎_elim
          (λ top. table_top n (suc l) t p w top ∙ sym (table_top m (suc l) t p w top) ∙ h)
          (λ lower. absurd (none-some x (sym (table_under m (suc l) t p w Absent lower (here_old p e)) ∙ h)))
          (same_or_not w (suc (suc l))))
          (λ ne. other_table old new (suc l) t i p w [] tree a g.under ne ∙ h)
          (same_or_not (index_in (suc l) p) i);
      taken = λ p w x h.
          ⊎_elim
          (λ e. ⊎_elim
          (λ top. inl (table_top m (suc l) t p w top ∙ sym (table_top n (suc l) t p w top) ∙ h))
          (λ lower.
          let fresh = new_table n l c p w x g.bare (sym (table_under n (suc l) t p w (Table c) lower (here_new p e)) ∙ h) in
          inr (subst (λ y. 0 < occurs y old.free) (sym fresh.1) g.free))
          (same_or_not w (suc (suc l))))
          (λ ne. inl (sym (other_table old new (suc l) t i p w [] tree a g.under ne) ∙ h))
          (same_or_not (index_in (suc l) p) i);
      clear = λ p w wide far.
          ⊎_elim
          (λ e. ⊎_elim
          (λ top. table_top n (suc l) t p w top ∙ sym (table_top m (suc l) t p w top))
          (λ lower.
          let near : p / span (suc l) ≡ from / span (suc l) = same_span (suc l) p from wide (e ∙ sym is) in
          table_under n (suc l) t p w (Table c) lower (here_new p e)
          ∙ ⊎_elim
          (λ at. absurd (far from (omega arith) some (subst (λ v. p / span v ≡ from / span v) (sym at) near)))
          (λ ne. ⊎_elim
          (λ low. table_zeroed n (suc l) c p w g.bare low)
          (λ high. too_high n (suc l) c p w (omega arith))
          (cases_lt w (suc l)))
          (same_or_not w (suc l))
          ∙ sym (table_under m (suc l) t p w Absent lower (here_old p e)))
          (same_or_not w (suc (suc l))))
          (λ ne. other_table old new (suc l) t i p w [] tree a g.under ne)
          (same_or_not (index_in (suc l) p) i);
    }

-- what the making of a table is
pub record AddsTable (old new : Pool) (level l t i c : ℕ) : Type 0 where
  pub moves : TakesAndGivesFrames old new level t []
  pub maps : (from to : ℕ) → from < to → index_in l from ≡ i → MapsPages old new level t from to (states (memory old.words) level t)
  pub leaves : (p : ℕ) → leaf_from (memory new.words) level t p ≡ leaf_from (memory old.words) level t p
  pub names : memory new.words level t i ≡ Table c
  pub zeroed : IsZeroed new.words c
  pub spelled : KeepsSpellings old new level t

adds_two : (old mid new : Pool) (l t i c value : ℕ) → IsTree old (suc (suc l)) t → i < TABLE_ENTRIES
    → memory old.words (suc (suc l)) t i ≡ Absent → look (suc (suc l)) value ≡ Table c
    → ((f : ℕ) → occurs f mid.free + one_if_same c f ≡ occurs f old.free) → IsZeroed mid.words c → mid.words ≡ old.words
    → mid.frames ≡ old.frames
    → IsWrite mid.words new.words t i value → new.free ≡ mid.free → new.frames ≡ mid.frames → AddsTable old new (suc (suc l)) (suc l) t i c
adds_two old mid new l t i c value tree a absent reads free zeroed same_words same_frames wrote same_free frames =
    let n : Memory = memory new.words in
    let c_free : 0 < occurs c old.free = omega (arith, free c, one_if_same-self c) in
    let apart : c ≡ t → ⊥ =
    λ e.
    let same : occurs c old.free ≡ occurs t old.free =
    ap (λ x. occurs x old.free) e in
    omega (arith, root_apart old (suc l) t i tree a) in
    let names : n (suc (suc l)) t i ≡ Table c = memory_at new.words (suc (suc l)) t i ∙ ap (look (suc (suc l))) wrote.0 ∙ reads in
    let zeroed_now : IsZeroed new.words c = λ k k_in. wrote.1 c k k_in (λ e _. apart e) ∙ zeroed k k_in in
    let free_now : (f : ℕ) → occurs f new.free + one_if_same c f ≡ occurs f old.free =
    λ f. omega (arith, free f, ap (λ xs. occurs f xs) same_free) in
    let rest : (f k : ℕ) → k < TABLE_ENTRIES → (f ≡ t → k ≡ i → ⊥) → word new.words f k ≡ word old.words f k =
    λ f k k_in ne. wrote.1 f k k_in ne ∙ ap (λ ws. word ws f k) same_words in
    let bare : IsBare n c = zeroed_bare new.words c zeroed_now in
    let u : ChangesUnder old new (suc l) t i [] =
    under_added old new l t i c tree a absent names free_now bare rest (frames ∙ same_frames) in
    let g : IsAdded old new (suc l) t i c = record { under = u; absent = absent; names = names; bare = bare; free = c_free } in
    record {
      moves = under_moves old new (suc l) t i [] tree a u;
      maps = λ from to some is. added_maps old new l t i c from to tree a some is g;
      leaves = λ p. added_leaf old new (suc l) t i c p tree a g;
      names = names;
      zeroed = zeroed_now;
      spelled = table_spelled old new (suc l) t i c [] tree a u names (λ _. zeroed_spelled new.words (suc l) c zeroed_now);
    }

pub adds_table : (old mid new : Pool) (level l t i c value : ℕ) → level ≡ suc (suc l) → IsTree old level t → i < TABLE_ENTRIES
    → memory old.words level t i ≡ Absent → look level value ≡ Table c → ((f : ℕ) → occurs f mid.free + one_if_same c f ≡ occurs f old.free)
    → IsZeroed mid.words c → mid.words ≡ old.words → mid.frames ≡ old.frames → IsWrite mid.words new.words t i value → new.free ≡ mid.free
    → new.frames ≡ mid.frames → AddsTable old new level (suc l) t i c
adds_table old mid new level l t i c value up =
    subst (λ n. IsTree old n t → i < TABLE_ENTRIES → memory old.words n t i ≡ Absent
    → look n value ≡ Table c → ((f : ℕ) → occurs f mid.free + one_if_same c f ≡ occurs f old.free) → IsZeroed mid.words c
    → mid.words ≡ old.words
    → mid.frames ≡ old.frames
    → IsWrite mid.words new.words t i value → new.free ≡ mid.free → new.frames ≡ mid.frames → AddsTable old new n (suc l) t i c) (sym up)
    (adds_two old mid new l t i c value)
