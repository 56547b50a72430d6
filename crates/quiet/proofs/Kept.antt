-- What records hold is in no tree.
use Rattle.std.proofs.Common.{◌≡◌, ⊎_elim, ℕ, ◌+◌, ◌<◌, ◌≤◌, Some, None, sym, ap, ◌∙◌, arith}
use Rattle.std.proofs.lemmas.Bool.{cases_lt}
use Rattle.std.proofs.lemmas.Option.{none-some}
use Rattle.dmatypes.specs.Page.{levels, pages_end}
use Rattle.dmatypes.specs.World.{IsIn, World}
use Rattle.dmatypes.specs.declared.limits.TheConstants.{MOST_DOMAINS}
use Rattle.piece_tree.specs.declared.piece.PageState.TheVariants as pages
use Rattle.tables.proofs.walks.Near.{span_pos}
use Rattle.tables.specs.Pool.{memory, occurs}
use Rattle.tables.specs.Tree.{leaf_from, stated, table_from, uses}
use Rattle.unit.specs.Caches.{CachedLeaf, CachedNonLeaf}
use Rattle.engine.proofs.domains.OneChanged.{both_there}
use Rattle.engine.proofs.frames.Held.{held_by}
use Rattle.engine.proofs.frames.Owners.{held_out}
use Rattle.engine.proofs.requests.Read.{hold_high, hold_low, of_record, retired_none}
use Rattle.engine.specs.declared.record.Record.{Record}
use Rattle.engine.specs.Domains.{Domain, domain_at}
use Rattle.engine.specs.Quarantine.{Quarantine}
use Rattle.engine.specs.State.{State}
use Rattle.quiet.specs.Quiet.{HoldsPageOf, IsEntry, IsInPlace}
use Rattle.quiet.proofs.Changes.{below_end}
use Rattle.quiet.proofs.WhatIsMet.{used_on}

module _ (m : State) (w : World) (q : Quarantine m w) (d : ℕ) (h : Domain) (there : domain_at m.domains d ≡ Some h) (r : Record)
    (inside : IsIn r h.records) where
  -- a page of a record is one of the width, and the tree states nothing of it
  pub unstated : (p : ℕ) → r.range.first ≤ p → p < r.range.first + r.range.pages
      → (p < pages_end h.width) × (stated p (leaf_from (memory m.pool.words) (levels h.width) h.root p) ≡ None)
  unstated p low high =
      let v = both_there m.pool.words (domain_at m.domains d) (w.domains d) h (q.domains d) there in
      let record' = of_record h v.0 r p v.2.ids inside low high in
      let small : p < pages_end h.width =
      omega (arith, ap pages_end v.2.ids.width, below_end h.space v.0 p pages.Retired v.2.pieces ((v.2.pieces.retired p).1 record')) in
      (small, v.2.tree p small ∙ retired_none h.space v.0 p v.2.pieces record')

  pub entry_apart : (leaf : CachedLeaf) → IsEntry m.pool.words h leaf → HoldsPageOf leaf r.range → ⊥
  entry_apart leaf at (p, holds, within) =
      none-some _ (sym (unstated p within.0 within.1).1
      ∙ ap (stated p) (at.1.4 p (hold_low leaf.first leaf.pages p holds) (hold_high leaf.first leaf.pages p holds)))

  pub place_apart : d < MOST_DOMAINS + 1 → (table : CachedNonLeaf) → IsInPlace m.pool.words h table
      → occurs table.frame r.cut.frames ≡ 0
  place_apart low table at = ⊎_elim
      (λ (held : 0 < occurs table.frame r.cut.frames).
      let way : table_from (memory m.pool.words) (levels h.width) h.root table.first table.level ≡ Some table.frame =
      at.1.4 table.first (omega arith) (omega (arith, span_pos table.level)) in
      let used : 0 < uses (memory m.pool.words) (levels h.width) h.root table.frame =
      used_on (memory m.pool.words) (levels h.width) h.root table.first table.level table.frame way in
      let out : uses (memory m.pool.words) (levels h.width) h.root table.frame + occurs table.frame m.pool.free ≡ 0 =
      held_out m.pool (domain_at m.domains) d d h h q.frames low low there there table.frame
      (held_by h.records r table.frame inside held) in
      absurd (omega (arith, used, out)))
      (λ (none : occurs table.frame r.cut.frames ≤ 0). omega (arith, none)) (cases_lt 0 (occurs table.frame r.cut.frames))
