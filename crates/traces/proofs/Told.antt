-- What is told of a call that is no device's request.
use Rattle.std.proofs.Common.{◌≡◌, ℕ, List, Option, Result, Ok, Err, refl}
use Rattle.std.specs.Prelude.{IfOk}
use Rattle.dmatypes.specs.declared.call.Access.{Access}
use Rattle.dmatypes.specs.declared.call.Call.{Call}
use Rattle.dmatypes.specs.declared.call.Call.TheVariants as calls
use Rattle.dmatypes.specs.declared.call.Whim.{Whim}
use Rattle.dmatypes.specs.declared.reply.Reply.{Reply}
use Rattle.dmatypes.specs.World.{World}
use Rattle.checker.specs.Allowed.{IsExpected}
use Rattle.traces.specs.Findings.{AreTold, listed}

other_told : (w : World) (call : Call) (o : Option Reply) (replies : List Reply)
    → ((device address : ℕ) (access : Access) (whim : Whim) → call ≡ calls.Dma device address access whim → ⊥)
    → IsExpected w call o → replies ≡ listed o → AreTold w call replies
other_told w (calls.Dma device address access whim) o replies other h is = absurd (other device address access whim refl)
other_told w (calls.Domain m v) o replies other h is = (o, h, is)
other_told w (calls.Drop d) o replies other h is = (o, h, is)
other_told w (calls.Attach v d) o replies other h is = (o, h, is)
other_told w (calls.Detach v) o replies other h is = (o, h, is)
other_told w (calls.Map d f n g r) o replies other h is = (o, h, is)
other_told w (calls.MapList d g r ss) o replies other h is = (o, h, is)
other_told w (calls.Unmap d a n) o replies other h is = (o, h, is)
other_told w (calls.Flush d) o replies other h is = (o, h, is)
other_told w (calls.Begin d) o replies other h is = (o, h, is)
other_told w calls.Unit o replies other h is = (o, h, is)
other_told w (calls.Reap d t) o replies other h is = (o, h, is)
other_told w (calls.Evict k p) o replies other h is = (o, h, is)

pub expected_told : {V E : Type 0} (items : V → List Reply) (answered : Result V E) (w : World) (call : Call) (o : Option Reply)
    → ((device address : ℕ) (access : Access) (whim : Whim) → call ≡ calls.Dma device address access whim → ⊥)
    → IsExpected w call o → IfOk answered (λ v. items v ≡ listed o) → IfOk answered (λ v. AreTold w call (items v))
expected_told items (Ok v) w call o other h is = other_told w call o (items v) other h is
expected_told items (Err e) w call o other h is = tt
