-- What a unit finds that walks host memory while a call's words are brought there: each page as before the call or as after it, by its host
-- frame.
use Rattle.std.specs.Prelude.{◌≡◌, ◌⊎◌, ℕ, ◌+◌, ◌<◌, List, Some}
use Rattle.dmatypes.specs.Page.{levels, pages_end}
use Rattle.dmatypes.specs.declared.call.Call.{Call}
use Rattle.dmatypes.specs.declared.reply.Reply.{Reply}
use Rattle.dmatypes.specs.declared.width.Width.{Width}
use Rattle.tables.specs.Pool.{memory}
use Rattle.tables.specs.Tree.{Memory, leaf_from, root_states, table_from}
use Rattle.moments.specs.Moments.{Reached, word_read}
use Rattle.engine.specs.Domains.{Domain, domain_at}
use Rattle.engine.specs.State.{State}
use Rattle.engine.specs.Steps.{Does}
use Rattle.quiet.specs.Quiet.{IsSound}
use Rattle.driven.specs.declared.effect.Effect.{Effect}
use Rattle.driven.specs.Effects.{AreEffects}
use Rattle.driven.specs.Laws.{IsReadInOrder}
use Rattle.vtdm_c.specs.Base.{IsBase}
use Rattle.vtdm_c.specs.Hosts.{AreHosted, leaf_of, seen, table_of, target_of}

-- a walk for a page through what it sees in host memory, from the host frame of a root
pub record FindsOldOrNew (base : ℕ) (old new : List ℕ) (host : Memory) (width : Width) (root page : ℕ) : Type 0 where
  -- it finds the page as before the call or as after it
  pub found : (root_states host width (base + root) page ≡ target_of base (root_states (memory old) width root page))
      ⊎ (root_states host width (base + root) page ≡ target_of base (root_states (memory new) width root page))
  -- the leaf that it meets, which may be cached, is met before the call or after it
  pub leaf : page < pages_end width
      → (leaf_from host (levels width) (base + root) page ≡ leaf_of base (leaf_from (memory old) (levels width) root page))
      ⊎ (leaf_from host (levels width) (base + root) page ≡ leaf_of base (leaf_from (memory new) (levels width) root page))
  -- each table that it passes, which may be cached, is passed before the call or after it
  pub tables : (level frame : ℕ) → page < pages_end width
      → table_from host (levels width) (base + root) page level ≡ Some frame
      → (table_of base (table_from (memory old) (levels width) root page level) ≡ Some frame)
      ⊎ (table_of base (table_from (memory new) (levels width) root page level) ≡ Some frame)

-- Whatever of a call's effects has reached host memory when a unit reads it, each level at its own moment, the unit finds so each page of a
-- domain that is there before and after the call. That asks only that barriers are kept, and that host memory has the words that were
-- brought there with host frames, each in the host frame of its table frame.
abbrev pub UnitsFindHostFrames : Type 0
UnitsFindHostFrames =
    (m t : State) (call : Call) (reply : Reply) (effects : List Effect) (domain : ℕ) (h h' : Domain) (reached : Reached) (base : ℕ)
    (hosted : ℕ → ℕ → ℕ → ℕ) (page : ℕ)
    → IsSound m
    → Does m call reply t
    → AreEffects m call reply t effects
    → domain_at m.domains domain ≡ Some h
    → domain_at t.domains domain ≡ Some h'
    → IsReadInOrder effects reached
    → IsBase m.pool.frames base
    → AreHosted m.pool.frames base (word_read m.pool.words t.pool.words reached) hosted
    → FindsOldOrNew base m.pool.words t.pool.words (seen hosted) h.width h.root page
