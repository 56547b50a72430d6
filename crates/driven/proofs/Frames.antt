-- That a table on a page's way is a frame of the pool, before a call and after it.
use Rattle.std.proofs.Common.{◌≡◌, inl, inr, ℕ, ◌+◌, ◌-◌, ◌*◌, ◌/◌, ◌<◌, List, Option, None, Some, refl, sym, ap}
use Rattle.std.proofs.Common.{◌∙◌, arith, Bool}
use Rattle.std.proofs.lemmas.Bool.{cases_lt}
use Rattle.std.proofs.lemmas.Option.{none-some, same_Some}
use Rattle.dmatypes.specs.Page.{levels}
use Rattle.dmatypes.specs.declared.call.Call.{Call}
use Rattle.dmatypes.specs.declared.call.Call.TheVariants as calls
use Rattle.dmatypes.specs.declared.page.TheConstants.{SPAN_PAGES}
use Rattle.dmatypes.specs.declared.reply.Reply.{Reply}
use Rattle.dmatypes.specs.declared.reply.Reply.TheVariants.{Done}
use Rattle.tables.specs.declared.entries.TheConstants.{TABLE_ENTRIES}
use Rattle.tables.specs.Pool.{memory}
use Rattle.engine.specs.Domains.{Domain, domain_at}
use Rattle.engine.specs.State.{State}
use Rattle.engine.specs.Steps.{Does}
use Rattle.engine.specs.Walkable.{table_at}
use Rattle.engine.proofs.domains.OneChanged.{domain_low}
use Rattle.engine.proofs.frames.Owners.{tree_of}
use Rattle.engine.proofs.states.Refused.{frames_kept}
use Rattle.quiet.proofs.Onward.{onward}
use Rattle.quiet.proofs.WhatIsMet.{used_on}
use Rattle.quiet.specs.Quiet.{IsSound}
use Rattle.driven.specs.declared.effect.Effect.{Effect}
use Rattle.driven.specs.Effects.{IsBrought}
use Rattle.driven.specs.Telling.{AreTablesOf, BringsMapped, BringsUnmapped, IsLowest, IsTableOnWaysFrom}

-- a table on a page's way is used by its domain's tree, which is one of the pool
pub table_within : (s : State) → IsSound s → (d p w f : ℕ) → table_at s.pool (domain_at s.domains d) p w ≡ Some f → f < s.pool.frames
table_within s sound d p w f at = by_domain (domain_at s.domains d) refl
  where
    by_domain : (o : Option Domain) → domain_at s.domains d ≡ o → f < s.pool.frames
    by_domain None there = absurd (none-some f (sym (ap (λ o. table_at s.pool o p w) there) ∙ at))
    by_domain (Some h) there =
        let tree = tree_of s.pool (domain_at s.domains) d h sound.of_world.1.frames (domain_low s.domains d h sound.places there) there in
        elim (cases_lt f s.pool.frames) [
          | inl low ↦ low
          | inr past ↦ absurd (omega (
            arith,
            tree.within f past,
            used_on (memory s.pool.words) (levels h.width) h.root p w f (sym (ap (λ o. table_at s.pool o p w) there) ∙ at),
          ))
        ]

module _ (m t : State) (sound : IsSound m) (d : ℕ) (h : Domain) (here : domain_at m.domains d ≡ Some h) (call : Call) (reply : Reply)
    (does : Does m call reply t) (stays : call ≡ calls.Drop d → reply ≡ Done → ⊥) where
  -- the state after a call that leaves the domain there is sound too
  after : IsSound t
  after =
      let o = onward m t d h sound here call reply does does.becomes stays in
      record { of_world = (_, (does.steps sound.of_world.0 sound.of_world.1).1); places = o.3 ∙ sound.places }

  -- a table on the way of one of so many pages
  on_ways : (lowest from to f : ℕ) → IsTableOnWaysFrom t.pool (domain_at t.domains d) lowest from to f → f < t.pool.frames
  on_ways lowest from to f (level, (more, few, (p, (low, high, at)))) = table_within t after d p level f at

  -- ---- a map

  pub mapped_within : (from to : ℕ) (grew : Bool) (es : List Effect) → BringsMapped t.pool (domain_at t.domains d) from to grew es
      → (f k : ℕ) → k < TABLE_ENTRIES → IsBrought es f k → f < t.pool.frames
  mapped_within from to grew es brings f k inside told = on_ways 1 from to f (brings.only f k inside told)

  -- ---- an unmap

  module _ (first last : ℕ) (before : List (Option ℕ)) (were : AreTablesOf m.pool (domain_at m.domains d) first last before) where
    -- a table of level 1 is there now, or was there before: then it was a frame of the pool that had as many
    lowest_within : (p f : ℕ) → IsLowest t.pool (domain_at t.domains d) first last before p f → f < t.pool.frames
    lowest_within p f (low, high, inr is) = table_within t after d p 1 f is
    lowest_within p f (low, high, inl had) =
        let k : ℕ = p / SPAN_PAGES - first / SPAN_PAGES in
        let at : table_at m.pool (domain_at m.domains d) ((first / SPAN_PAGES + k) * SPAN_PAGES) 1 ≡ Some f =
        same_Some (table_at m.pool (domain_at m.domains d) ((first / SPAN_PAGES + k) * SPAN_PAGES) 1) (Some f)
        (sym (were.each k (omega (arith, were.count, low, high))) ∙ had) in
        omega (
          arith,
          table_within m sound d ((first / SPAN_PAGES + k) * SPAN_PAGES) 1 f at,
          frames_kept m t call reply sound.of_world does,
        )

    pub unmapped_within : (es : List Effect) → BringsUnmapped t.pool (domain_at t.domains d) first last before es → (f k : ℕ)
        → k < TABLE_ENTRIES → IsBrought es f k → f < t.pool.frames
    unmapped_within es brings f k inside told =
        elim (brings.only f k inside told) [
          | inl lowest ↦ lowest_within lowest.0 f lowest.1
          | inr above ↦ on_ways 2 first (last + 1) f above
        ]
