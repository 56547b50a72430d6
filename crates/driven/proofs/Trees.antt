-- What is told of a call that changes tables brings all that it changed.
use Rattle.driven.proofs.Brought.{for_memory, frames_for_memory}
use Rattle.std.proofs.Common.{◌≡◌, ◌≢◌, inl, inr, ⊎_elim, ℕ, suc, ◌+◌, ◌-◌, ◌/◌, ◌<◌, ◌≤◌, List, [], ◌∷◌, ◌++◌, Option, Some, refl, sym, ap}
use Rattle.std.proofs.Common.{subst, ◌∙◌, arith, Bool, false, length}
use Rattle.std.proofs.lemmas.Bool.{cases_lt}
use Rattle.std.proofs.lemmas.List.{append-nil}
use Rattle.std.proofs.lemmas.List.Sums.{sum_by-cons}
use Rattle.std.proofs.lemmas.Option.{same_Some}
use Rattle.arrayvec.specs.ArrayVec.{ArrayVec}
use Rattle.dmatypes.specs.Conditions.{IsBadMap, IsBadUnmap, Stands, total_pages}
use Rattle.dmatypes.specs.Page.{IsPageRange, levels, pages_end, range_at}
use Rattle.dmatypes.specs.Step.{IsStep}
use Rattle.dmatypes.specs.World as world
use Rattle.dmatypes.specs.declared.call.Call.TheVariants as calls
use Rattle.dmatypes.specs.declared.call.Mode.{Mode}
use Rattle.dmatypes.specs.declared.call.Mode.TheVariants.{Lazy, Strict}
use Rattle.dmatypes.specs.declared.call.Segment.{Segment}
use Rattle.dmatypes.specs.declared.page.TheConstants.{MOST_PAGES, PAGE_BYTES}
use Rattle.dmatypes.specs.declared.reply.Reply.TheVariants.{Done, Mapped, Unmapped}
use Rattle.dmatypes.specs.declared.width.TheConstants.{PAGES_END}
use Rattle.dmatypes.specs.declared.width.Width.{Width}
use Rattle.dmatypes.specs.declared.width.Width.TheVariants.{W39, W48}
use Rattle.tables.specs.declared.entries.TheConstants.{TABLE_ENTRIES}
use Rattle.tables.specs.Pool.{memory, word}
use Rattle.tables.specs.Tree.{index_in, table_from, uses}
use Rattle.engine.specs.declared.iommu.Iommu.{Iommu}
use Rattle.engine.specs.Domains.{Domain, Operands, domain_at}
use Rattle.engine.specs.Ending.{ByMode, Closes, MakesRoom, PutsOff, UnmapsStrictly}
use Rattle.engine.specs.Placing.{Placement, Places}
use Rattle.engine.specs.State.{Becomes, State, operands_in}
use Rattle.engine.specs.Steps.{Does}
use Rattle.engine.proofs.domains.OneChanged.{both_there, domain_low}
use Rattle.engine.proofs.frames.Owners.{tree_of}
use Rattle.quiet.proofs.Calls.{not_bad_list, not_bad_map, some_pages, unmap_pages}
use Rattle.quiet.proofs.Changes.{below_end}
use Rattle.quiet.proofs.Onward.{onward}
use Rattle.quiet.specs.Quiet.{IsSound}
use Rattle.driven.specs.declared.effect.Effect.{Effect}
use Rattle.driven.specs.Effects.{BringsAll, FillsTables, IsBrought, by_mode, in_mode, in_order}
use Rattle.driven.specs.Telling.{AreTablesOf, BringsFrames, BringsMapped, BringsUnmapped, StayInPart, TablesStay}
use Rattle.driven.specs.Walks.{IsOnWalks}
use Rattle.driven.proofs.BringsAll.{exchanged, stays_or_came}
use Rattle.driven.proofs.Calls.{calls_change}
use Rattle.driven.proofs.Cuts.{cuts}
use Rattle.driven.proofs.Fills.{closed_fill, cut_fill, placed_fill}
use Rattle.driven.proofs.Frames.{mapped_within, unmapped_within}
use Rattle.driven.proofs.Rows.{rows}
use Rattle.driven.proofs.Stays.{cut_stays, cut_upper, placed_words}
use Rattle.driven.proofs.Told.{whole_row}

-- ---- a map

module _ (m t : State) (d frame pages order rights address : ℕ) (sound : IsSound m)
    (does : Does m (calls.Map d frame pages order rights) (Mapped address) t) where
  map_fill : Becomes m (calls.Map d frame pages order rights) (Mapped address) t → (es : List Effect) → FillsTables m t es
  unfolding Becomes
  map_fill (h, new, here, places, sent, is) es =
      placed_fill m t sound d h new here _
      (some_pages (record { frame = frame; pages = pages } ∷ []) order rights
      (not_bad_map sound.of_world.0 d frame pages order rights address (does.steps sound.of_world.0 sound.of_world.1).0)) places es

  map_words : Becomes m (calls.Map d frame pages order rights) (Mapped address) t → (grew : Bool)
      → (grew ≡ false → length t.pool.free ≡ length m.pool.free) → (es : List Effect)
      → BringsMapped t.pool (domain_at t.domains d) (address / PAGE_BYTES) (address / PAGE_BYTES + pages) grew es → (f k : ℕ)
      → k < TABLE_ENTRIES → word m.pool.words f k ≢ word t.pool.words f k → IsBrought es f k
  unfolding Becomes
  map_words (h, new, here, places, sent, is) grew same es brings f k inside differs =
      let (g, (there, on)) = calls_change m t (calls.Map d frame pages order rights) (Mapped address) f k sound does inside differs in
      let o = onward m t d h sound here (calls.Map d frame pages order rights) (Mapped address) does does.becomes (λ is done. cc) in
      placed_words m t d h o.0 here o.1 o.2.root o.2.width sound new _
      (some_pages (record { frame = frame; pages = pages } ∷ []) order rights
      (not_bad_map sound.of_world.0 d frame pages order rights address (does.steps sound.of_world.0 sound.of_world.1).0)) places grew same
      (address / PAGE_BYTES + pages) es brings f k differs
      (subst (λ (y : Domain). IsOnWalks t.pool.words (levels y.width) y.root (address / PAGE_BYTES) (address / PAGE_BYTES + pages) f k)
      (same_Some g h (sym there ∙ here)) on)

  map_inside : Becomes m (calls.Map d frame pages order rights) (Mapped address) t → (grew : Bool) (es : List Effect)
      → BringsMapped t.pool (domain_at t.domains d) (address / PAGE_BYTES) (address / PAGE_BYTES + pages) grew es → (f k : ℕ)
      → k < TABLE_ENTRIES → IsBrought es f k → f < t.pool.frames
  unfolding Becomes
  map_inside (h, new, here, places, sent, is) grew es brings f k inside told =
      mapped_within m t sound d h here (calls.Map d frame pages order rights) (Mapped address) does (λ is done. cc)
      (address / PAGE_BYTES) (address / PAGE_BYTES + pages) grew es brings f k inside told

  pub map_brings : (grew : Bool) → (grew ≡ false → length t.pool.free ≡ length m.pool.free) → (es : List Effect)
      → BringsMapped t.pool (domain_at t.domains d) (address / PAGE_BYTES) (address / PAGE_BYTES + pages) grew es
      → BringsAll m t es
  map_brings grew same es brings = record {
    for_memory = for_memory t es brings.for_memory;
    ends = brings.ends;
    inside = map_inside does.becomes grew es brings;
    words = map_words does.becomes grew same es brings;
    contexts = whole_row m t (rows m t (calls.Map d frame pages order rights) (Mapped address) does.becomes) es;
    fills = map_fill does.becomes es;
  }

module _ (m t : State) (d order rights address : ℕ) (segments : ArrayVec Segment) (sound : IsSound m)
    (does : Does m (calls.MapList d order rights segments) (Mapped address) t) where
  list_fill : Becomes m (calls.MapList d order rights segments) (Mapped address) t → (es : List Effect) → FillsTables m t es
  unfolding Becomes
  list_fill (h, new, here, places, sent, is) es =
      placed_fill m t sound d h new here _
      (some_pages segments.items order rights
      (not_bad_list sound.of_world.0 d order rights address segments (does.steps sound.of_world.0 sound.of_world.1).0)) places es

  list_words : Becomes m (calls.MapList d order rights segments) (Mapped address) t → (grew : Bool)
      → (grew ≡ false → length t.pool.free ≡ length m.pool.free) → (es : List Effect)
      → BringsMapped t.pool (domain_at t.domains d) (address / PAGE_BYTES) (address / PAGE_BYTES + total_pages segments.items) grew es
      → (f k : ℕ) → k < TABLE_ENTRIES → word m.pool.words f k ≢ word t.pool.words f k → IsBrought es f k
  unfolding Becomes
  list_words (h, new, here, places, sent, is) grew same es brings f k inside differs =
      let (g, (there, on)) = calls_change m t (calls.MapList d order rights segments) (Mapped address) f k sound does inside differs in
      let o = onward m t d h sound here (calls.MapList d order rights segments) (Mapped address) does does.becomes (λ is done. cc) in
      placed_words m t d h o.0 here o.1 o.2.root o.2.width sound new _
      (some_pages segments.items order rights
      (not_bad_list sound.of_world.0 d order rights address segments (does.steps sound.of_world.0 sound.of_world.1).0)) places grew same
      (address / PAGE_BYTES + total_pages segments.items) es brings f k differs
      (subst (λ (y : Domain). IsOnWalks t.pool.words (levels y.width) y.root (address / PAGE_BYTES)
      (address / PAGE_BYTES + total_pages segments.items) f k) (same_Some g h (sym there ∙ here)) on)

  list_inside : Becomes m (calls.MapList d order rights segments) (Mapped address) t → (grew : Bool) (es : List Effect)
      → BringsMapped t.pool (domain_at t.domains d) (address / PAGE_BYTES) (address / PAGE_BYTES + total_pages segments.items) grew es
      → (f k : ℕ) → k < TABLE_ENTRIES → IsBrought es f k → f < t.pool.frames
  unfolding Becomes
  list_inside (h, new, here, places, sent, is) grew es brings f k inside told =
      mapped_within m t sound d h here (calls.MapList d order rights segments) (Mapped address) does (λ is done. cc)
      (address / PAGE_BYTES) (address / PAGE_BYTES + total_pages segments.items) grew es brings f k inside told

  pub list_brings : (grew : Bool) → (grew ≡ false → length t.pool.free ≡ length m.pool.free) → (es : List Effect)
      → BringsMapped t.pool (domain_at t.domains d) (address / PAGE_BYTES) (address / PAGE_BYTES + total_pages segments.items) grew es
      → BringsAll m t es
  list_brings grew same es brings = record {
    for_memory = for_memory t es brings.for_memory;
    ends = brings.ends;
    inside = list_inside does.becomes grew es brings;
    words = list_words does.becomes grew same es brings;
    contexts = whole_row m t (rows m t (calls.MapList d order rights segments) (Mapped address) does.becomes) es;
    fills = list_fill does.becomes es;
  }

-- ---- an unmap

module _ (m t : State) (d address pages released : ℕ) (sound : IsSound m)
    (does : Does m (calls.Unmap d address pages) (Unmapped released) t) where
  unmap_fill : Becomes m (calls.Unmap d address pages) (Unmapped released) t → (last : ℕ) → address / PAGE_BYTES + pages ≡ last + 1
      → (before : List (Option ℕ)) → AreTablesOf m.pool (domain_at m.domains d) (address / PAGE_BYTES) last before → (es : List Effect)
      → BringsUnmapped t.pool (domain_at t.domains d) (address / PAGE_BYTES) last before es → FillsTables m t es
  unfolding Becomes
  unmap_fill (h, new, here, ends, is) last end before were es brings =
      let o = onward m t d h sound here (calls.Unmap d address pages) (Unmapped released) does does.becomes (λ is done. cc) in
      cut_fill m t d h o.0 here o.1 o.2.root o.2.width (range_at address pages)
      (cuts m t sound d h here (range_at address pages) (unmap_pages m t d address pages released h sound here does) released new h.mode
      ends)
      last end before were es brings

  stay_by : Becomes m (calls.Unmap d address pages) (Unmapped released) t → (last : ℕ) → address / PAGE_BYTES + pages ≡ last + 1
      → (before : List (Option ℕ)) → AreTablesOf m.pool (domain_at m.domains d) (address / PAGE_BYTES) last before
      → StayInPart t.pool (domain_at t.domains d) (address / PAGE_BYTES) last before
  unfolding Becomes
  stay_by (h, new, here, ends, is) last end before were =
      let o = onward m t d h sound here (calls.Unmap d address pages) (Unmapped released) does does.becomes (λ is done. cc) in
      cut_stays m t d h o.0 here o.1 o.2.root o.2.width (range_at address pages)
      (cuts m t sound d h here (range_at address pages) (unmap_pages m t d address pages released h sound here does) released new h.mode
      ends)
      last end before were

  -- the lowest tables whose spans the pages don't cover stay
  pub stay_in_part : (last : ℕ) → address / PAGE_BYTES + pages ≡ last + 1 → (before : List (Option ℕ))
      → AreTablesOf m.pool (domain_at m.domains d) (address / PAGE_BYTES) last before
      → StayInPart t.pool (domain_at t.domains d) (address / PAGE_BYTES) last before
  stay_in_part last end before were = stay_by does.becomes last end before were

  -- where the lowest tables stay no word above them was changed
  unmap_kept : Becomes m (calls.Unmap d address pages) (Unmapped released) t → (last : ℕ) → address / PAGE_BYTES + pages ≡ last + 1
      → (before : List (Option ℕ)) → AreTablesOf m.pool (domain_at m.domains d) (address / PAGE_BYTES) last before
      → TablesStay t.pool (domain_at t.domains d) (address / PAGE_BYTES) last before → (g : Domain) → domain_at m.domains d ≡ Some g
      → (p l f : ℕ) → address / PAGE_BYTES ≤ p → p ≤ last
      → table_from (memory t.pool.words) (levels g.width) g.root p (suc (suc l)) ≡ Some f
      → word m.pool.words f (index_in (suc l) p) ≡ word t.pool.words f (index_in (suc l) p)
  unfolding Becomes
  unmap_kept (h, new, here, ends, is) last end before were stay g there p l f low high at =
      let o = onward m t d h sound here (calls.Unmap d address pages) (Unmapped released) does does.becomes (λ is done. cc) in
      cut_upper m t d h o.0 here o.1 o.2.root o.2.width (range_at address pages)
      (cuts m t sound d h here (range_at address pages) (unmap_pages m t d address pages released h sound here does) released new h.mode
      ends)
      last end before were stay p l f low high
      (subst (λ (y : Domain). table_from (memory t.pool.words) (levels y.width) y.root p (suc (suc l)) ≡ Some f)
      (same_Some g h (sym there ∙ here)) at)

  unmap_inside : Becomes m (calls.Unmap d address pages) (Unmapped released) t → (last : ℕ) (before : List (Option ℕ))
      → AreTablesOf m.pool (domain_at m.domains d) (address / PAGE_BYTES) last before → (es : List Effect)
      → BringsUnmapped t.pool (domain_at t.domains d) (address / PAGE_BYTES) last before es → (f k : ℕ) → k < TABLE_ENTRIES
      → IsBrought es f k → f < t.pool.frames
  unfolding Becomes
  unmap_inside (h, new, here, ends, is) last before were es brings f k inside told =
      unmapped_within m t sound d h here (calls.Unmap d address pages) (Unmapped released) does (λ is done. cc) (address / PAGE_BYTES) last
      before were es brings f k inside told

  pub unmap_brings : (last : ℕ) → address / PAGE_BYTES + pages ≡ last + 1 → (before : List (Option ℕ))
      → AreTablesOf m.pool (domain_at m.domains d) (address / PAGE_BYTES) last before → (es : List Effect)
      → BringsUnmapped t.pool (domain_at t.domains d) (address / PAGE_BYTES) last before es → BringsAll m t es
  unmap_brings last end before were es brings = record {
    for_memory = for_memory t es brings.for_memory;
    ends = brings.ends;
    inside = unmap_inside does.becomes last before were es brings;
    words = λ f k inside differs.
        elim (calls_change m t (calls.Unmap d address pages) (Unmapped released) f k sound does inside differs) [
          | inl on ↦
              let o = onward m t d on.0 sound on.1.0 (calls.Unmap d address pages) (Unmapped released) does does.becomes (λ is done. cc) in
              stays_or_came t d on.0 o.0 o.1 o.2.root o.2.width m (address / PAGE_BYTES) last before on.1.0 were es brings
              (address / PAGE_BYTES + pages) end f k inside
              (λ stay p l low high at index. differs (subst (λ i. word m.pool.words f i ≡ word t.pool.words f i) index
              (unmap_kept does.becomes last end before were stay on.0 on.1.0 p l f low high at))) on.1.1
          | inr out ↦
              let o = onward m t d out.0 sound out.1.0 (calls.Unmap d address pages) (Unmapped released) does does.becomes (λ is done.
              cc) in
              exchanged t d out.0 o.0 o.1 o.2.root o.2.width m (address / PAGE_BYTES) last before out.1.0 were es brings
              (address / PAGE_BYTES + pages) end f k inside out.1.1
        ];
    contexts = whole_row m t (rows m t (calls.Unmap d address pages) (Unmapped released) does.becomes) es;
    fills = unmap_fill does.becomes last end before were es brings;
  }

-- ---- a drop

module _ (m t : State) (d : ℕ) (sound : IsSound m) (does : Does m (calls.Drop d) Done t) where
  closed : (h : Domain) → domain_at m.domains d ≡ Some h → Closes (operands_in m h) d t.pool t.iommu → (f k : ℕ) → k < TABLE_ENTRIES
      → word m.pool.words f k ≢ word t.pool.words f k → f < m.pool.frames
  closed h here closes f k inside differs =
      ⊎_elim (λ (low : f < m.pool.frames). low)
      (λ (past : m.pool.frames ≤ f).
      let tree = tree_of m.pool (domain_at m.domains) d h sound.of_world.1.frames (domain_low m.domains d h sound.places here) here in
      let none : uses (memory m.pool.words) (levels h.width) h.root f ≡ 0 = omega (arith, tree.within f past) in
      let gone : uses (memory closes.flushed.pool.words) (levels closes.flushed.domain.width) closes.flushed.domain.root f ≡ 0 =
      ap (λ ws. uses (memory ws) (levels closes.flushed.domain.width) closes.flushed.domain.root f) closes.flushes.releases.words
      ∙ ap (λ (y : Domain). uses (memory m.pool.words) (levels y.width) y.root f) closes.flushes.same ∙ none in
      absurd (differs (sym (closes.destroys.words f k inside gone ∙ ap (λ ws. word ws f k) closes.flushes.releases.words))))
      (cases_lt f m.pool.frames)

  same_frames : (h : Domain) → Closes (operands_in m h) d t.pool t.iommu → t.pool.frames ≡ m.pool.frames
  same_frames h closes = closes.destroys.frames ∙ closes.flushes.releases.frames

  drop_by : Becomes m (calls.Drop d) Done t → (es : List Effect) → BringsFrames t.pool.frames es → (f k : ℕ) → k < TABLE_ENTRIES
      → word m.pool.words f k ≢ word t.pool.words f k → IsBrought es f k
  unfolding Becomes
  drop_by (h, here, closes, is) es brings f k inside differs =
      brings.brings f k (omega (arith, closed h here closes f k inside differs, same_frames h closes)) inside

  drop_fill : Becomes m (calls.Drop d) Done t → (es : List Effect) → FillsTables m t es
  unfolding Becomes
  drop_fill (h, here, closes, is) es = closed_fill m t d h closes es

  pub drop_brings : (es : List Effect) → BringsFrames t.pool.frames es → BringsAll m t es
  drop_brings es brings = record {
    for_memory = frames_for_memory t es brings.for_memory;
    ends = brings.ends;
    inside = brings.only;
    words = drop_by does.becomes es brings;
    contexts = whole_row m t (rows m t (calls.Drop d) Done does.becomes) es;
    fills = drop_fill does.becomes es;
  }

-- ---- how many pages a map has

narrow : (w : Width) → pages_end w ≤ PAGES_END
narrow W39 = omega arith
narrow W48 = omega arith

abbrev Pages : ℕ → ℕ → Type 0
Pages address pages = (1 ≤ pages) × (pages ≤ MOST_PAGES) × (address / PAGE_BYTES + pages ≤ PAGES_END)

good_pages : (ss : List Segment) (order rights address pages : ℕ) → pages ≡ total_pages ss → (IsBadMap ss order rights → ⊥)
    → (1 ≤ pages → address / PAGE_BYTES + pages ≤ PAGES_END) → Pages address pages
good_pages ss order rights address pages is good end =
    let some : 1 ≤ pages = omega (arith, some_pages ss order rights good, is) in (
      some,
      ⊎_elim (λ (more : MOST_PAGES < pages). absurd (good (inr (inr (inl (omega (arith, more, is)))))))
          (λ (few : pages ≤ MOST_PAGES). few) (cases_lt MOST_PAGES pages),
      end some,
    )

module _ (m t : State) (d : ℕ) (sound : IsSound m) (h new : Domain) (here : domain_at m.domains d ≡ Some h) (at : Placement)
    (places : Places m.pool h at t.pool new) where
  placed_end : (pages : ℕ) → pages ≡ total_pages at.segments → 1 ≤ pages → at.first + pages ≤ PAGES_END
  placed_end pages is some =
      let v = both_there m.pool.words (domain_at m.domains d) (sound.of_world.0.domains d) h (sound.of_world.1.domains d) here in
      let last = places.takes.free (at.first + total_pages at.segments - 1) (omega (arith, some, is), omega (arith, some, is)) in
      let end = below_end h.space v.0 (at.first + total_pages at.segments - 1) _ v.2.pieces last in
      omega (arith, end, narrow v.0.width, is, some)

module _ (m t : State) (d frame pages order rights address : ℕ) (sound : IsSound m)
    (does : Does m (calls.Map d frame pages order rights) (Mapped address) t) where
  abbrev one : List Segment
  one = record { frame = frame; pages = pages } ∷ []

  total : pages ≡ total_pages one
  total = omega (arith, sum_by-cons (λ (x : Segment). x.pages) (record { frame = frame; pages = pages }) [])

  end_by : 1 ≤ pages → Becomes m (calls.Map d frame pages order rights) (Mapped address) t → address / PAGE_BYTES + pages ≤ PAGES_END
  unfolding Becomes
  end_by some (h, new, here, places, sent, is) = placed_end m t d sound h new here _ places pages total some

  pub map_pages : Pages address pages
  map_pages =
      good_pages one order rights address pages total
      (not_bad_map sound.of_world.0 d frame pages order rights address (does.steps sound.of_world.0 sound.of_world.1).0)
      (λ some. end_by some does.becomes)

module _ (m t : State) (d order rights address : ℕ) (segments : ArrayVec Segment) (sound : IsSound m)
    (does : Does m (calls.MapList d order rights segments) (Mapped address) t) where
  list_end_by : 1 ≤ total_pages segments.items → Becomes m (calls.MapList d order rights segments) (Mapped address) t
      → address / PAGE_BYTES + total_pages segments.items ≤ PAGES_END
  unfolding Becomes
  list_end_by some (h, new, here, places, sent, is) =
      placed_end m t d sound h new here _ places (total_pages segments.items) refl some

  pub list_pages : Pages address (total_pages segments.items)
  list_pages =
      good_pages segments.items order rights address (total_pages segments.items) refl
      (not_bad_list sound.of_world.0 d order rights address segments (does.steps sound.of_world.0 sound.of_world.1).0)
      (λ some. list_end_by some does.becomes)

-- ---- an unmap's range, and its order

not_bad : (w : world.World) (d address pages released : ℕ) (v : world.Domain) → w.domains d ≡ Some v
    → IsStep w (calls.Unmap d address pages) (Unmapped released) → IsBadUnmap v.width address pages → ⊥
unfolding IsStep Stands
not_bad w d address pages released v here step bad = step.0.1.0 (rw here bad)

module _ (m t : State) (d address pages released : ℕ) (sound : IsSound m)
    (does : Does m (calls.Unmap d address pages) (Unmapped released) t) where
  range_by : Becomes m (calls.Unmap d address pages) (Unmapped released) t → (IsPageRange (range_at address pages) → ⊥) → ⊥
  unfolding Becomes
  range_by (h, new, here, ends, is) bad =
      let v = both_there m.pool.words (domain_at m.domains d) (sound.of_world.0.domains d) h (sound.of_world.1.domains d) here in
      not_bad sound.of_world.0 d address pages released v.0 v.1 (does.steps sound.of_world.0 sound.of_world.1).0
      (inr (λ both. bad both.0))

  -- the range of an unmap that was done is one
  pub is_range : (IsPageRange (range_at address pages) → ⊥) → ⊥
  is_range bad = range_by does.becomes bad

  lazy_by : Becomes m (calls.Unmap d address pages) (Unmapped released) t → 0 < released → (b s : List Effect)
      → in_order m (calls.Unmap d address pages) b s ≡ s ++ b
  unfolding Becomes
  lazy_by (h, new, here, ends, is) some b s = ap (λ o. in_mode o b s) here ∙ by h.mode ends
    where
      by : (mode : Mode) → ByMode mode ((released ≡ 0) × UnmapsStrictly (operands_in m h) d (range_at address pages) (operands_in t new))
          (PutsOff (operands_in m h) d (range_at address pages) released (operands_in t new)) → by_mode mode b s ≡ s ++ b
      by Strict does' = absurd (omega (arith, does'.0, some))
      by Lazy does' = refl

  -- one that released records flushed first, in a lazy domain
  pub flushed_first : 0 < released → (b s : List Effect) → in_order m (calls.Unmap d address pages) b s ≡ s ++ b
  flushed_first some b s = lazy_by does.becomes some b s

  quick_by : Becomes m (calls.Unmap d address pages) (Unmapped released) t → released ≡ 0 → (b s : List Effect)
      → (t.iommu.sent ≡ m.iommu.sent → s ≡ []) → in_order m (calls.Unmap d address pages) b s ≡ b ++ s
  unfolding Becomes
  quick_by (h, new, here, ends, is) none b s silent = ap (λ o. in_mode o b s) here ∙ by h.mode ends
    where
      still : (made : Operands) → MakesRoom (operands_in m h) d released made → t.iommu ≡ made.iommu → t.iommu.sent ≡ m.iommu.sent
      still made (inl has) is' = ap (λ (x : Iommu). x.sent) (is' ∙ ap (λ (p : Operands). p.iommu) has.same)
      still made (inr empties) is' = absurd (omega (arith, empties.all, none))

      by : (mode : Mode) → ByMode mode ((released ≡ 0) × UnmapsStrictly (operands_in m h) d (range_at address pages) (operands_in t new))
          (PutsOff (operands_in m h) d (range_at address pages) released (operands_in t new)) → by_mode mode b s ≡ b ++ s
      by Strict does' = refl
      by Lazy does' =
          let empty : s ≡ [] = silent (still does'.roomy does'.room does'.quiet) in
          ap (λ xs. xs ++ b) empty ∙ sym (append-nil b) ∙ ap (λ xs. b ++ xs) (sym empty)

  -- one that released none sends last, if it sends
  pub sends_last : released ≡ 0 → (b s : List Effect) → (t.iommu.sent ≡ m.iommu.sent → s ≡ [])
      → in_order m (calls.Unmap d address pages) b s ≡ b ++ s
  sends_last none b s silent = quick_by does.becomes none b s silent
