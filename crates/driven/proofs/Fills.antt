-- That a table which takes the place of a leaf of 2 MiB is brought before the word that names it.
use Rattle.std.proofs.Common.{◌≡◌, inl, inr, ⊎_elim, ℕ, ◌+◌, ◌-◌, ◌/◌, ◌<◌, ◌≤◌, List, Option, Some, None, sym, ap}
use Rattle.std.proofs.Common.{◌∙◌, arith, slice_get}
use Rattle.std.proofs.lemmas.Bool.{cases_lt}
use Rattle.std.proofs.lemmas.Option.{none-some, same_Some}
use Rattle.dmatypes.specs.Conditions.{total_pages}
use Rattle.dmatypes.specs.Page.{Range, levels, pages_end}
use Rattle.dmatypes.specs.declared.call.Call.{Call}
use Rattle.dmatypes.specs.declared.page.TheConstants.{SPAN_PAGES}
use Rattle.dmatypes.specs.declared.reply.Reply.{Reply}
use Rattle.vtdbits.proofs.Entries.{look-zero}
use Rattle.vtdbits.specs.Entry.{look}
use Rattle.vtdbits.specs.declared.entry.SsEntry.TheVariants.{Absent, LargeLeaf, Table}
use Rattle.tables.specs.declared.entries.TheConstants.{TABLE_ENTRIES}
use Rattle.tables.specs.Pool.{memory, occurs, word}
use Rattle.tables.specs.Tree.{table_from, uses}
use Rattle.tables.proofs.walks.Words.{memory_at}
use Rattle.moments.proofs.Walks.{one_span}
use Rattle.engine.specs.Domains.{Domain, domain_at}
use Rattle.engine.specs.Ending.{Closes}
use Rattle.engine.specs.Placing.{Placement, Places}
use Rattle.engine.specs.State.{State, operands_in}
use Rattle.engine.specs.Steps.{Does}
use Rattle.engine.specs.Walkable.{table_at}
use Rattle.engine.proofs.domains.OneChanged.{both_there}
use Rattle.quiet.specs.Quiet.{IsSound}
use Rattle.driven.specs.declared.effect.Effect.{Effect}
use Rattle.driven.specs.Effects.{FillsTables, IsBrought}
use Rattle.driven.specs.Laws.{MayChange}
use Rattle.driven.specs.Telling.{AreTablesOf, BringsUnmapped}
use Rattle.driven.proofs.BringsAll.{there, was}
use Rattle.driven.proofs.Calls.{calls_change, map_sound}
use Rattle.driven.proofs.Cuts.{Cuts}
use Rattle.driven.proofs.Splits.{came, gave_way, map_none, not_lowest, on_way, was_none}

-- where no word is changed none gives way
pub same_fill : (m t : State) → t.pool.words ≡ m.pool.words → (es : List Effect) → FillsTables m t es
same_fill m t same es f k c x inside large named =
    absurd (gave_way m.pool.words t.pool.words f k c x large named (ap (λ ws. word ws f k) (sym same)))

-- nor where none may be
pub none_fill : (m t : State) (call : Call) (reply : Reply) → IsSound m → Does m call reply t
    → ((f k : ℕ) → MayChange m call reply t f k → ⊥) → (es : List Effect) → FillsTables m t es
none_fill m t call reply sound does none es f k c x inside large named =
    absurd (none f k (calls_change m t call reply f k sound does inside (gave_way m.pool.words t.pool.words f k c x large named)))

-- ---- a map

pub placed_fill : (m t : State) → IsSound m → (d : ℕ) (h new : Domain) → domain_at m.domains d ≡ Some h → (at : Placement)
    → 1 ≤ total_pages at.segments → Places m.pool h at t.pool new → (es : List Effect) → FillsTables m t es
placed_fill m t sound d h new here at some places es f k c x inside large named =
    let v = both_there m.pool.words (domain_at m.domains d) (sound.of_world.0.domains d) h (sound.of_world.1.domains d) here in
    absurd (map_none m.pool t.pool (levels h.width) h.root at.first (at.first + total_pages at.segments) _
    (map_sound m t sound d h here at new some places) places.maps
    (λ p low high.
    let free = (v.2.pieces.free p).0 (places.takes.free p (low, high)) in
    v.2.tree p (omega (arith, ap pages_end v.2.ids.width, free.0.1)) ∙ free.1.not_live) f k c x inside large named)

-- ---- an unmap

module _ (m t : State) (d : ℕ) (h h' : Domain) (here : domain_at m.domains d ≡ Some h) (then : domain_at t.domains d ≡ Some h')
    (root : h'.root ≡ h.root) (width : h'.width ≡ h.width) (range : Range) (c : Cuts m t h range) (last : ℕ)
    (end : range.first + range.pages ≡ last + 1) (before : List (Option ℕ))
    (were : AreTablesOf m.pool (domain_at m.domains d) range.first last before) (es : List Effect)
    (brings : BringsUnmapped t.pool (domain_at t.domains d) range.first last before es) where
  pub cut_fill : FillsTables m t es
  cut_fill f k b x inside large named =
      let large' : memory c.old.words 2 f k ≡ LargeLeaf x = ap (λ ws. memory ws 2 f k) c.was ∙ large in
      let named' : memory c.new.words 2 f k ≡ Table b = ap (λ ws. memory ws 2 f k) c.is ∙ named in
      let (q, (low, high, stood, stands, index)) =
      on_way c.old c.new (levels h.width) h.root range.first (range.first + range.pages) c.cut c.sound c.unmaps f k x inside large' b
      named' in
      let came_there : table_from (memory c.new.words) (levels h.width) h.root q 1 ≡ Some b =
      came c.old c.new (levels h.width) h.root range.first (range.first + range.pages) c.cut c.sound c.unmaps f k x inside large' b named'
      q stands index in
      let none_there : table_from (memory c.old.words) (levels h.width) h.root q 1 ≡ None =
      was_none c.old c.new (levels h.width) h.root range.first (range.first + range.pages) c.cut c.sound c.unmaps f k x inside large' b
      named' q stood index in
      (brings.lowest, brings.rest, (brings.parted, filled q low high none_there came_there, unnamed large'))
    where
      Old_table : ℕ → Option ℕ
      Old_table p = table_from (memory m.pool.words) (levels h.width) h.root p 1

      before_at : (q : ℕ) → range.first ≤ q → q < range.first + range.pages
          → slice_get before (q / SPAN_PAGES - range.first / SPAN_PAGES)
          ≡ Some (table_from (memory m.pool.words) (levels h.width) h.root q 1)
      before_at q low high = was t d h h' then root width m range.first last before here were q low (omega (arith, high, end))

      then_at : (q : ℕ) → table_from (memory c.new.words) (levels h.width) h.root q 1 ≡ table_at t.pool (domain_at t.domains d) q 1
      then_at q = ap (λ ws. table_from (memory ws) (levels h.width) h.root q 1) c.is ∙ sym (there t d h h' then root width q 1)

      filled : (q : ℕ) → range.first ≤ q → q < range.first + range.pages
          → table_from (memory c.old.words) (levels h.width) h.root q 1 ≡ None
          → table_from (memory c.new.words) (levels h.width) h.root q 1 ≡ Some b → (i : ℕ) → i < TABLE_ENTRIES → IsBrought brings.lowest b i
      filled q low high none at i less =
          let old : Old_table q ≡ None = ap (λ ws. table_from (memory ws) (levels h.width) h.root q 1) (sym c.was) ∙ none in
          let new : table_at t.pool (domain_at t.domains d) q 1 ≡ Some b = sym (then_at q) ∙ at in
          (brings.brings_lowest.spans q None low (omega (arith, high, end)) (before_at q low high ∙ ap (λ o. Some o) old)).1 b i
          (λ e. none-some b (e ∙ new)) (inr new) less

      unnamed : memory c.old.words 2 f k ≡ LargeLeaf x → IsBrought brings.lowest f k → ⊥
      unnamed large' told =
          let (p, (low, high, either)) = brings.brings_lowest.only f k inside told in
          let small : p < pages_end h.width = omega (arith, high, end, c.below) in
          not_lowest c.old c.new (levels h.width) h.root range.first (range.first + range.pages) c.cut c.sound c.unmaps f k x inside
          large' p
          (one_span h.width p small ∙ sym (one_span h.width range.first (omega (arith, low, small))))
          (elim either [
            | inl w ↦ inl (
                ap (λ ws. table_from (memory ws) (levels h.width) h.root p 1) c.was
                ∙ same_Some (Old_table p) (Some f) (sym (before_at p low (omega (arith, high, end))) ∙ w)
                )
            | inr n ↦ inr (then_at p ∙ n)
          ])

-- ---- a drop

pub closed_fill : (m t : State) (d : ℕ) (h : Domain) → Closes (operands_in m h) d t.pool t.iommu → (es : List Effect) → FillsTables m t es
closed_fill m t d h closes es f k b x inside large named =
    absurd (⊎_elim (λ (used : 0 < uses (memory m.pool.words) (levels h.width) h.root f). zeroed used)
    (λ (not : uses (memory m.pool.words) (levels h.width) h.root f ≤ 0).
    gave_way m.pool.words t.pool.words f k b x large named
    (sym (closes.destroys.words f k inside (same_uses ∙ (let none : uses (memory m.pool.words) (levels h.width) h.root f ≡ 0 =
    omega (arith, not) in none)) ∙ ap (λ ws. word ws f k) closes.flushes.releases.words)))
    (cases_lt 0 (uses (memory m.pool.words) (levels h.width) h.root f)))
  where
    same_uses : uses (memory closes.flushed.pool.words) (levels closes.flushed.domain.width) closes.flushed.domain.root f
        ≡ uses (memory m.pool.words) (levels h.width) h.root f
    same_uses =
        ap (λ ws. uses (memory ws) (levels closes.flushed.domain.width) closes.flushed.domain.root f) closes.flushes.releases.words
        ∙ ap (λ (y : Domain). uses (memory m.pool.words) (levels y.width) y.root f) closes.flushes.same

    zeroed : 0 < uses (memory m.pool.words) (levels h.width) h.root f → ⊥
    zeroed used =
        let free : 0 < occurs f t.pool.free = omega (arith, used, same_uses, closes.destroys.free f) in
        let clash : Absent ≡ Table b =
        sym (look-zero 2) ∙ ap (look 2) (sym (closes.destroys.is_pool.zeroed f free k inside)) ∙ sym (memory_at t.pool.words 2 f k)
        ∙ named in
        cc
