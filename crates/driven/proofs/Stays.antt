-- That no word above the lowest tables is changed where these stay.
use Rattle.std.proofs.Common.{◌≡◌, ◌≢◌, inl, inr, ℕ, zero, suc, ◌+◌, ◌-◌, ◌/◌, ◌<◌, ◌≤◌, List, Option, Some, sym, ap, subst}
use Rattle.std.proofs.Common.{◌∙◌, Bool, false, length, arith}
use Rattle.std.specs.Prelude.{slice_get}
use Rattle.std.proofs.lemmas.Option.{same_Some}
use Rattle.dmatypes.specs.Conditions.{total_pages}
use Rattle.dmatypes.specs.Page.{Range, levels, pages_end}
use Rattle.dmatypes.specs.declared.page.TheConstants.{SPAN_PAGES}
use Rattle.tables.specs.Changes.{IsCovered}
use Rattle.tables.specs.Pool.{memory, word}
use Rattle.tables.specs.Tree.{index_in, span, table_from}
use Rattle.tables.proofs.walks.Steps.{index-zero}
use Rattle.moments.proofs.Walks.{one_span}
use Rattle.engine.specs.Domains.{Domain, domain_at}
use Rattle.engine.specs.Placing.{Placement, Places}
use Rattle.engine.specs.State.{State}
use Rattle.engine.specs.Walkable.{table_at}
use Rattle.quiet.specs.Quiet.{IsSound}
use Rattle.driven.specs.declared.effect.Effect.{Effect}
use Rattle.driven.specs.Effects.{IsBrought}
use Rattle.driven.specs.Telling.{AreTablesOf, BringsMapped, StayInPart, TablesStay}
use Rattle.driven.specs.Walks.{IsOnWalks}
use Rattle.driven.proofs.BringsAll.{on_ways, there, was}
use Rattle.driven.proofs.Calls.{map_sound}
use Rattle.driven.proofs.Changed.{map_upper, unmap_upper}
use Rattle.driven.proofs.Cuts.{Cuts}
use Rattle.driven.proofs.Spans.{same_table}
use Rattle.driven.proofs.Steady.{placed_stays}

module _ (m t : State) (d : ℕ) (h h' : Domain) (here : domain_at m.domains d ≡ Some h) (then : domain_at t.domains d ≡ Some h')
    (root : h'.root ≡ h.root) (width : h'.width ≡ h.width) where
  -- ---- a map

  module _ (sound : IsSound m) (new : Domain) (at : Placement) (some : 1 ≤ total_pages at.segments) (places : Places m.pool h at t.pool new)
      (grew : Bool) (same_count : grew ≡ false → length t.pool.free ≡ length m.pool.free) where
    -- the table that a page of the first one's span had, where no table was made
    had : (p c : ℕ) → grew ≡ false → table_at t.pool (domain_at t.domains d) at.first 1 ≡ Some c → p / SPAN_PAGES ≡ at.first / SPAN_PAGES
        → table_from (memory m.pool.words) (levels h.width) h.root p 1 ≡ Some c
    had p c stays found same =
        sym (placed_stays m t sound d h here (same_count stays) new at places p) ∙ sym (there t d h h' then root width p 1)
        ∙ same_table t.pool (domain_at t.domains d) p at.first same ∙ found

    -- the words of the pages in it are all that was changed on their ways
    pub placed_words : (to : ℕ) (es : List Effect) → BringsMapped t.pool (domain_at t.domains d) at.first to grew es → (f k : ℕ)
        → word m.pool.words f k ≢ word t.pool.words f k → IsOnWalks t.pool.words (levels h.width) h.root at.first to f k → IsBrought es f k
    placed_words to es brings f k differs on =
        elim brings.brings [
          | inl all ↦ on_ways t d h h' then root width at.first to es all f k on
          | inr one ↦ in_table one.0 one.1.0 one.1.1 one.1.2
              (λ p low high. subst (λ i. IsBrought es one.0 i) (sym (index-zero p)) (one.1.3 p low high)) on
        ]
      where
        in_table : (c : ℕ) → grew ≡ false → table_at t.pool (domain_at t.domains d) at.first 1 ≡ Some c
            → ((p : ℕ) → at.first ≤ p → p < to → p / SPAN_PAGES ≡ at.first / SPAN_PAGES)
            → ((p : ℕ) → at.first ≤ p → p < to → IsBrought es c (index_in 0 p))
            → IsOnWalks t.pool.words (levels h.width) h.root at.first to f k → IsBrought es f k
        in_table c stays found same told (p, (low, high, (zero, is, index))) =
            let own : c ≡ f = same_Some c f (sym (places.maps.tables p 1 c (had p c stays found (same p low high))) ∙ is) in
            subst (λ g. IsBrought es g k) own (subst (λ i. IsBrought es c i) index (told p low high))
        in_table c stays found same told (p, (low, high, (suc l, is, index))) =
            absurd (differs (subst (λ i. word m.pool.words f i ≡ word t.pool.words f i) index
            (map_upper m.pool t.pool (levels h.width) h.root at.first (at.first + total_pages at.segments) _
            (map_sound m t sound d h here at new some places) places.maps p l f c (had p c stays found (same p low high)) is)))

  -- ---- an unmap

  module _ (range : Range) (c : Cuts m t h range) (last : ℕ) (end : range.first + range.pages ≡ last + 1) (before : List (Option ℕ))
      (were : AreTablesOf m.pool (domain_at m.domains d) range.first last before) where
    near_first : (p : ℕ) → range.first ≤ p → p ≤ last → p / span (levels h.width) ≡ range.first / span (levels h.width)
    near_first p low high =
        let small : p < pages_end h.width = omega (arith, high, end, c.below) in
        one_span h.width p small ∙ sym (one_span h.width range.first (omega (arith, low, small)))

    -- the table that a page had, as it was looked up
    stood : (p b : ℕ) → range.first ≤ p → p ≤ last → slice_get before (p / SPAN_PAGES - range.first / SPAN_PAGES) ≡ Some (Some b)
        → table_from (memory c.old.words) (levels h.width) h.root p 1 ≡ Some b
    stood p b low high old =
        ap (λ ws. table_from (memory ws) (levels h.width) h.root p 1) c.was
        ∙ same_Some (table_from (memory m.pool.words) (levels h.width) h.root p 1) (Some b)
        (sym (was t d h h' then root width m range.first last before here were p low high) ∙ old)

    -- it stays where the pages don't cover its span
    pub cut_stays : StayInPart t.pool (domain_at t.domains d) range.first last before
    cut_stays p f low high partly old =
        there t d h h' then root width p 1 ∙ ap (λ ws. table_from (memory ws) (levels h.width) h.root p 1) (sym c.is)
        ∙ elim (c.unmaps.tables p 1 f (near_first p low high) (stood p f low high old)) [
          | inl is ↦ is
          | inr gone ↦ absurd (partly (subst (λ n. IsCovered range.first n p) end gone.1))
        ]

    pub cut_upper : TablesStay t.pool (domain_at t.domains d) range.first last before → (p l f : ℕ) → range.first ≤ p → p ≤ last
        → table_from (memory t.pool.words) (levels h.width) h.root p (suc (suc l)) ≡ Some f
        → word m.pool.words f (index_in (suc l) p) ≡ word t.pool.words f (index_in (suc l) p)
    cut_upper stay p l f low high at =
        let (b, (old, new)) = stay p low high in
        ap (λ ws. word ws f (index_in (suc l) p)) (sym c.was)
        ∙ unmap_upper c.old c.new (levels h.width) h.root range.first (range.first + range.pages) c.cut c.sound c.unmaps p l f b
        (near_first p low high) (stood p b low high old)
        (ap (λ ws. table_from (memory ws) (levels h.width) h.root p 1) c.is ∙ sym (there t d h h' then root width p 1) ∙ new)
        (ap (λ ws. table_from (memory ws) (levels h.width) h.root p (suc (suc l))) c.is ∙ at)
        ∙ ap (λ ws. word ws f (index_in (suc l) p)) c.is
