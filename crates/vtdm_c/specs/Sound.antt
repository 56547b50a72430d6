-- What a manager of C's keeps from its creation on: all that the laws ask of a state and of a base. So they speak of each manager that C
-- has, after whatever calls.
use Rattle.std.specs.Prelude.{◌≡◌, Bool, true, ℕ, List, Option, None, Some}
use Rattle.dmatypes.specs.declared.call.Call.{Call}
use Rattle.dmatypes.specs.declared.reply.Event.{Event}
use Rattle.dmatypes.specs.declared.reply.Reply.{Reply}
use Rattle.moments.specs.Moments.{Reached, word_read}
use Rattle.engine.specs.Domains.{Domain, domain_at}
use Rattle.engine.specs.Steps.{Goes}
use Rattle.quiet.specs.Quiet.{IsSound}
use Rattle.driven.specs.declared.effect.Effect.{Effect}
use Rattle.driven.specs.Driven.{IsTold}
use Rattle.driven.specs.Laws.{IsReadInOrder}
use Rattle.vtdm_c.specs.Base.{IsBase}
use Rattle.vtdm_c.specs.Called.{Creates, IsSame, Makes, state_of}
use Rattle.vtdm_c.specs.Hosts.{AreHosted, seen}
use Rattle.vtdm_c.specs.Units.{FindsOldOrNew}
use Rattle.vtdm_c.specs.declared.answer.TheConstants.Answer.{OK}
use Rattle.vtdm_c.specs.declared.life.DrivenUnit.{DrivenUnit}
use Rattle.vtdm_c.specs.declared.session.Session.{Session}

-- its state is sound, and its table frames can begin where they do
pub record IsSoundSession (s : Session) : Type 0 where
  pub state : IsSound (state_of s)
  pub base : IsBase (state_of s).pool.frames s.base.first

-- one that C makes is so
abbrev pub CreationsAreSound : Type 0
CreationsAreSound =
    (frames : ℕ) (caching : Bool) (unit : Option DrivenUnit) (s : Session)
    → Creates None frames caching unit OK (Some s)
    → IsSoundSession s

-- and is so after any calls, which leave it its base. An answered call is one, a detach with its flush two, and each step of the unit one
abbrev pub CallsKeepSessionsSound : Type 0
CallsKeepSessionsSound =
    (s t : Session) (events : List Event)
    → IsSoundSession s
    → Goes (state_of s) events (state_of t)
    → IsSame s t
    → IsSoundSession t

-- So while C brings what a call of such a manager asks, a unit finds each page as before the call or as after it. What is asked beside the
-- call's own promises is C's to keep: barriers, and the words in host memory.
abbrev pub SessionsAreFoundOldOrNew : Type 0
SessionsAreFoundOldOrNew =
    (s t : Session) (call : Call) (reply : Reply) (effects : List Effect) (domain : ℕ) (h h' : Domain) (reached : Reached)
    (hosted : ℕ → ℕ → ℕ → ℕ) (page : ℕ)
    → IsSoundSession s
    → Makes s call reply t
    → s.driven.tells ≡ true
    → IsTold t.driven effects
    → domain_at (state_of s).domains domain ≡ Some h
    → domain_at (state_of t).domains domain ≡ Some h'
    → IsReadInOrder effects reached
    → AreHosted (state_of s).pool.frames s.base.first (word_read (state_of s).pool.words (state_of t).pool.words reached) hosted
    → FindsOldOrNew s.base.first (state_of s).pool.words (state_of t).pool.words (seen hosted) h.width h.root page
