-- A table that waits in a record is zeroed, whatever call is made.
use Rattle.std.proofs.Common.{◌≡◌, ℕ, ◌<◌, Bool, true, false, cond, Some, ap, ◌∙◌}
use Rattle.dmatypes.specs.declared.call.Call.{Call}
use Rattle.dmatypes.specs.declared.call.Call.TheVariants as calls
use Rattle.dmatypes.specs.declared.reply.Reply.{Reply}
use Rattle.dmatypes.specs.declared.reply.Reply.TheVariants.{Unmapped}
use Rattle.vtdbits.specs.Entry.{look}
use Rattle.vtdbits.proofs.Entries.{look-zero}
use Rattle.tables.proofs.walks.Onward.{IsBare, leaf_zeroed, table_zeroed}
use Rattle.tables.specs.declared.entries.TheConstants.{TABLE_ENTRIES}
use Rattle.tables.specs.Pool.{IsZeroed}
use Rattle.tables.specs.Tree.{Memory}
use Rattle.moments.specs.Moments.{Reached, in_place, meanwhile, word_read, words_at}
use Rattle.moments.proofs.Between.{meanwhile_at}
use Rattle.moments.proofs.InPlace.{in_place_at}
use Rattle.engine.proofs.frames.Held.{held_by}
use Rattle.engine.specs.Domains.{Domain, domain_at, held_in}
use Rattle.engine.specs.State.{State}
use Rattle.engine.specs.Steps.{Does}
use Rattle.quiet.specs.Laws.{RetiredTablesInPlaceStateNothing, RetiredTablesStateNothing}
use Rattle.quiet.specs.Quiet.{IsMapOrUnmap, IsRetired, IsSound, StatesNothing}
use Rattle.quiet.proofs.Every.{written}
use Rattle.quiet.proofs.InPlace.{Noted, noted}
use Rattle.quiet.proofs.Written.{IsOut, Written, held_frame_out, kept_word}

states_nothing : (now : Memory) (table : ℕ) → IsBare now table → StatesNothing now table
states_nothing now table bare = record {
  entries = bare;
  leaves = λ level page. leaf_zeroed now level table page bare;
  tables = λ level page below less. table_zeroed now level table page below bare less;
}

either : (b : Bool) (x y : ℕ) → x ≡ 0 → y ≡ 0 → cond b x y ≡ 0
either true x y new old = new
either false x y new old = old

module _ (m t : State) (call : Call) (reply : Reply) (d f : ℕ) (h : Domain) (whole : IsSound m) (does : Does m call reply t)
    (there : domain_at m.domains d ≡ Some h) (waits : IsRetired h f)
    (keeps : (address pages released : ℕ) → call ≡ calls.Unmap d address pages → reply ≡ Unmapped released → released ≡ 0) where
  abbrev call_writes : Written m t call reply
  call_writes = written m t whole call reply does does.becomes

  held : 0 < held_in h.records f
  held = held_by h.records waits.0 f waits.1 waits.2

  before : IsZeroed m.pool.words f
  before = whole.of_world.1.frames.held d f h there held

  out : IsOut m t call reply call_writes f
  out = held_frame_out m t call reply d h whole there call_writes f keeps held

  zero_read : (reached : Reached) (level index : ℕ) → index < TABLE_ENTRIES
      → word_read m.pool.words t.pool.words reached level f index ≡ 0
  zero_read reached level index inside =
      either (reached level f index) _ _ (kept_word m t call reply call_writes f index out inside ∙ before index inside)
      (before index inside)

  zero_at : (given : IsMapOrUnmap reply) (j : ℕ)
      → IsZeroed (words_at m.pool.words (noted m t call reply whole call_writes given).moments j) f
  zero_at given j index inside = (noted m t call reply whole call_writes given).kept j f index out inside ∙ before index inside

pub retired_state_nothing : RetiredTablesStateNothing
retired_state_nothing m t call reply domain frame h reached whole does there waits keeps = (
  states_nothing (meanwhile m.pool.words t.pool.words reached) frame
      (λ level index inside. meanwhile_at m.pool.words t.pool.words reached level frame index
      ∙ ap (look level) (all_zero level index inside) ∙ look-zero level),
  all_zero,
)
  where
    all_zero : (level index : ℕ) → index < TABLE_ENTRIES → word_read m.pool.words t.pool.words reached level frame index ≡ 0
    all_zero = zero_read m t call reply domain frame h whole does there waits keeps reached

pub retired_in_place : RetiredTablesInPlaceStateNothing
retired_in_place m t call reply domain frame h whole does given there waits keeps = (
  n.moments,
  n.trail,
  zeroed,
  λ moment. states_nothing (in_place m.pool.words n.moments moment) frame
      (λ level index inside. in_place_at m.pool.words n.moments moment level frame index
      ∙ ap (look level) (zeroed (moment level) index inside) ∙ look-zero level),
)
  where
    n : Noted m t call reply (written m t whole call reply does does.becomes)
    n = noted m t call reply whole (written m t whole call reply does does.becomes) given

    zeroed : (j : ℕ) → IsZeroed (words_at m.pool.words n.moments j) frame
    zeroed = zero_at m t call reply domain frame h whole does there waits keeps given
