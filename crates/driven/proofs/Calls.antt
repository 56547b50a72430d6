-- Which words each call changes.
use Rattle.std.proofs.Common.{◌≡◌, ◌≢◌, ◌⊎◌, inl, inr, ℕ, ◌+◌, ◌/◌, ◌<◌, ◌≤◌, [], ◌∷◌, Some, sym, ap, subst, ◌∙◌, arith}
use Rattle.std.proofs.lemmas.List.Sums.{sum_by-cons}
use Rattle.dmatypes.specs.Conditions.{total_pages}
use Rattle.dmatypes.specs.Page.{Range, levels, range_at}
use Rattle.dmatypes.specs.declared.call.Call.{Call}
use Rattle.dmatypes.specs.declared.call.Call.TheVariants as calls
use Rattle.dmatypes.specs.declared.call.Segment.{Segment}
use Rattle.dmatypes.specs.declared.page.TheConstants.{PAGE_BYTES}
use Rattle.dmatypes.specs.declared.reply.Reply.{Reply}
use Rattle.dmatypes.specs.declared.reply.Reply.TheVariants.{Done, Flushed, Made, Mapped, Reaped, Refused, Stepped, Unmapped}
use Rattle.tables.specs.declared.entries.TheConstants.{TABLE_ENTRIES}
use Rattle.tables.specs.Pool.{Pool, word}
use Rattle.engine.specs.Domains.{Domain, domain_at}
use Rattle.engine.specs.Placing.{Placement, Places}
use Rattle.engine.specs.State.{Becomes, State}
use Rattle.engine.specs.Steps.{Does}
use Rattle.engine.proofs.domains.OneChanged.{both_there}
use Rattle.quiet.proofs.Calls.{not_bad_list, not_bad_map, some_pages, unmap_pages}
use Rattle.quiet.specs.Quiet.{IsSound}
use Rattle.driven.specs.Laws.{CallsChangeTheseWords, IsOfExchanged, IsOnWalksOf, MayChange}
use Rattle.driven.specs.Walks.{IsExchanged, IsOnWalks}
use Rattle.driven.proofs.Changed.{Sound, map_changes, unmap_changes}
use Rattle.driven.proofs.Cuts.{Cuts, cuts}

-- the tree of a domain that a map was made in
pub map_sound : (m t : State) → IsSound m → (e : ℕ) (h : Domain) → domain_at m.domains e ≡ Some h → (at : Placement) (new : Domain)
    → 1 ≤ total_pages at.segments → Places m.pool h at t.pool new
    → Sound m.pool t.pool (levels h.width) h.root at.first (at.first + total_pages at.segments) []
map_sound m t sound e h here at new some places =
    let v = both_there m.pool.words (domain_at m.domains e) (sound.of_world.0.domains e) h (sound.of_world.1.domains e) here in
    record {
      zeroed = sound.of_world.1.frames.zeroed;
      zeroed' = places.is_pool.zeroed;
      before = v.2.spelled;
      after = places.spelled v.2.spelled;
      moves = places.moves;
      some = omega (arith, some);
    }

module _ (m t : State) (f k : ℕ) (sound : IsSound m) (inside : k < TABLE_ENTRIES)
    (differs : word m.pool.words f k ≢ word t.pool.words f k) where
  -- a call that changes no word
  quiet_words : {P : Type 0} → t.pool.words ≡ m.pool.words → P
  quiet_words same = absurd (differs (ap (λ ws. word ws f k) (sym same)))

  quiet : {P : Type 0} → t.pool ≡ m.pool → P
  quiet same = quiet_words (ap (λ (p : Pool). p.words) same)

  module _ (e : ℕ) (h : Domain) (here : domain_at m.domains e ≡ Some h) where
    mapped : (at : Placement) (new : Domain) → 1 ≤ total_pages at.segments → Places m.pool h at t.pool new
        → IsOnWalksOf m t e at.first (total_pages at.segments) f k
    mapped at new some places = (
      h,
      (
        here,
        map_changes m.pool t.pool (levels h.width) h.root at.first (at.first + total_pages at.segments) _
            (map_sound m t sound e h here at new some places) places.maps f k inside differs,
      ),
    )

    abbrev Unmapped_there : Range → Type 0
    Unmapped_there range = IsOnWalksOf m t e range.first range.pages f k ⊎ IsOfExchanged m t e range.first range.pages f

    unmapped : (range : Range) → Cuts m t h range → Unmapped_there range
    unmapped range c =
        elim (unmap_changes c.old c.new (levels h.width) h.root range.first (range.first + range.pages) c.cut c.sound c.unmaps f k inside
        (λ same. differs (ap (λ ws. word ws f k) (sym c.was) ∙ same ∙ ap (λ ws. word ws f k) c.is))) [
          | inl on ↦ inl (
            h,
            (here, subst (λ ws. IsOnWalks ws (levels h.width) h.root range.first (range.first + range.pages) f k) c.is on),
          )
          | inr out ↦ inr (
            h,
            (
              here,
              subst (λ ws. IsExchanged m.pool.words ws (levels h.width) h.root range.first (range.first + range.pages) f) c.is
                  (subst (λ ws. IsExchanged ws c.new.words (levels h.width) h.root range.first (range.first + range.pages) f) c.was out),
            ),
          )
        ]

  changed : (call : Call) (reply : Reply) → Does m call reply t → Becomes m call reply t → MayChange m call reply t f k
  unfolding Becomes
  changed (calls.Domain mode width) (Made e) does (root, takes, is) = quiet_words takes.words
  changed (calls.Domain mode width) _ does is = quiet (ap (λ (x : State). x.pool) is)
  changed (calls.Attach device e) Done does (h, here, is) = quiet (ap (λ (x : State). x.pool) is)
  changed (calls.Attach device e) _ does is = quiet (ap (λ (x : State). x.pool) is)
  changed (calls.Drop e) Done does _ = tt
  changed (calls.Drop e) _ does is = quiet (ap (λ (x : State). x.pool) is)
  changed (calls.Detach device) Done does (e, root, width, at, sends, is) = quiet (ap (λ (x : State). x.pool) is)
  changed (calls.Detach device) _ does is = quiet (ap (λ (x : State). x.pool) is)
  changed (calls.Map e frame pages order rights) (Mapped address) does (h, new, here, places, sends, is) =
      let some : 1 ≤ total_pages (record { frame = frame; pages = pages } ∷ []) =
      some_pages (record { frame = frame; pages = pages } ∷ []) order rights
      (not_bad_map sound.of_world.0 e frame pages order rights address (does.steps sound.of_world.0 sound.of_world.1).0) in
      let one : total_pages (record { frame = frame; pages = pages } ∷ []) ≡ pages =
      omega (arith, sum_by-cons (λ (x : Segment). x.pages) (record { frame = frame; pages = pages }) []) in
      subst (λ n. IsOnWalksOf m t e (address / PAGE_BYTES) n f k) one (mapped e h here _ new some places)
  changed (calls.Map e frame pages order rights) _ does is = quiet (ap (λ (x : State). x.pool) is)
  changed (calls.MapList e order rights segments) (Mapped address) does (h, new, here, places, sends, is) =
      mapped e h here _ new
      (some_pages segments.items order rights
      (not_bad_list sound.of_world.0 e order rights address segments (does.steps sound.of_world.0 sound.of_world.1).0)) places
  changed (calls.MapList e order rights segments) _ does is = quiet (ap (λ (x : State). x.pool) is)
  changed (calls.Flush e) (Flushed released) does (h, new, here, flushes, is) = quiet_words flushes.releases.words
  changed (calls.Flush e) _ does is = quiet (ap (λ (x : State). x.pool) is)
  changed (calls.Unmap e address pages) (Unmapped released) does (h, new, here, ends, is) =
      unmapped e h here (range_at address pages)
      (cuts m t sound e h here (range_at address pages) (unmap_pages m t e address pages released h sound here does) released new h.mode
      ends)
  changed (calls.Unmap e address pages) _ does is = quiet (ap (λ (x : State). x.pool) is)
  changed (calls.Dma device address access whim) (Refused refusal) does is = quiet (ap (λ (x : State). x.pool) is)
  changed (calls.Dma device address access whim) _ does (answer, reached, answers, filled, is) = quiet (ap (λ (x : State). x.pool) is)
  changed (calls.Begin e) (Reply.Ticket named number) does (h, here, new, id, begins_is, is) = quiet (ap (λ (x : State). x.pool) is)
  changed (calls.Begin e) _ does is = quiet (ap (λ (x : State). x.pool) is)
  changed calls.Unit (Stepped progress) does is = quiet (ap (λ (x : State). x.pool) is)
  changed calls.Unit _ does is = quiet (ap (λ (x : State). x.pool) is)
  changed (calls.Reap e number) (Reaped released) does (h, new, here, reaps, is) = quiet_words reaps.releases.words
  changed (calls.Reap e number) _ does is = quiet (ap (λ (x : State). x.pool) is)
  changed (calls.Evict kind place) Done does is = quiet (ap (λ (x : State). x.pool) is)
  changed (calls.Evict kind place) _ does is = quiet (ap (λ (x : State). x.pool) is)

pub calls_change : CallsChangeTheseWords
calls_change m t call reply frame index sound does inside differs =
    changed m t frame index sound inside differs call reply does does.becomes
