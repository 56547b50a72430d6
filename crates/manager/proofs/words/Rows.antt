-- Which rows are to be cleared, where some are empty.
use Rattle.std.proofs.Common.{◌≡◌, ℕ, inl, inr, List, arith}
use Rattle.std.specs.Int.{bit_at}
use Rattle.std.specs.Int.Bits.{bit_and}
use Rattle.std.proofs.lemmas.Nat.Bits.{bit_at_and, bit_at-lt, bit_at-zero}
use Rattle.dmatypes.specs.declared.call.Call.{Call}
use Rattle.dmatypes.specs.declared.reply.Reply.{Reply}
use Rattle.dmatypes.specs.World.{World}
use Rattle.dmatypes.proofs.histories.Maps.{same_or_not}
use Rattle.ports.specs.Seen.{AreEmptyBut}
use Rattle.manager.specs.Words.{TellRows}
use Rattle.manager.proofs.words.Cleared.{TellCleared}

bit_zero : (device : ℕ) → bit_at 0 device ≡ 1 → ⊥
bit_zero device one = absurd (omega (arith, one, bit_at-zero device))

-- none, where all are empty
pub all_empty : (w : World) (call : Call) (reply : Reply) (last : List ℕ) → AreEmptyBut 0 last → TellRows last w call reply 0
all_empty w call reply last empty device low = (
  λ one. absurd (bit_zero device one),
  λ is. inr (λ slot small. empty device slot low small (bit_zero device)),
)

-- those that may hold a word
pub some_filled : (w : World) (call : Call) (reply : Reply) (last : List ℕ) (bits filled : ℕ) → TellCleared w call reply bits
    → AreEmptyBut filled last → TellRows last w call reply (bit_and bits filled)
some_filled w call reply last bits filled tells empty device low =
    let both = bit_at_and bits filled device in (
      λ one. (tells device low).0 (omega (arith, both, one, bit_at-lt bits device, bit_at-lt filled device)),
      λ is. let one = (tells device low).1 is in
          elim (same_or_not (bit_at filled device) 1) [
            | inl there ↦ inl (omega (arith, both, one, there))
            | inr none ↦ inr (λ slot small. empty device slot low small none)
          ],
    )
