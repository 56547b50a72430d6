-- What a call by a share makes of a book and of the share, whatever is called, and what it answers.
use Rattle.std.specs.Prelude.{◌≡◌, ◌+◌, ◌≤◌, ◌↔◌, ◌++◌, ◌∷◌, [], ℕ, Bool, IfOk, IsErr, OnErr, OnOk, Result, length}
use mathlib.Core.List.{IsPrefix}
use Rattle.dmatypes.specs.declared.call.Call.{Call}
use Rattle.dmatypes.specs.declared.reply.Reply.{Reply}
use Rattle.dmatypes.specs.History.{after, event}
use Rattle.engine.specs.Steps.{Does}
use Rattle.manager.specs.Kept.{Book, IsKept, Share, end_of}
use Rattle.manager.specs.Words.{IsLastAfter}

-- the call is entered with its reply and its number, and counted by the share, which has then seen the whole history; it fails exactly
-- where there is no room for it, and changes nothing then but what the share has seen
pub record IsCalled {E : Type 0} (frames room : ℕ) (mode : Bool) (most shares : ℕ) (a : Book) (s : Share) (call : Call)
    (result : Result (ℕ × Reply) E) (a' : Book) (s' : Share) : Type 0 where
  pub full : IsErr result ↔ length a.history ≡ end_of room most a
  pub all_kept : most ≡ room → IsErr result ↔ length a.history ≡ room
  pub unchanged : OnErr result ((a' ≡ a) × (s'.calls ≡ s.calls))
  pub seen : IsPrefix s.seen a'.history × (s'.seen ≡ a'.history)
  pub history : IfOk result (λ r. a'.history ≡ a.history ++ event call r.1 ∷ [])
  pub number : IfOk result (λ r. r.0 ≡ length a'.history)
  pub handed : a'.handed ≡ a.handed
  pub counted : OnOk result (s'.calls ≡ s.calls + 1)
  pub does : IfOk result (λ r. Does a.state call r.1 a'.state)
  pub last : IfOk result (λ r. IsLastAfter (after frames a.history) call r.1 a.last a'.last)
  pub alone : shares ≡ 1 → length a'.history ≡ s'.calls
  pub bound : s'.calls ≤ length a'.history
  pub kept : IsKept frames room mode most a'
