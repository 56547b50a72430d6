-- What a call asks, as C is told it.
use Rattle.std.specs.Prelude.{◌≡◌, ◌%◌, ◌==◌, ◌<◌, ◌≤◌, if◌then◌else◌, ℕ, List, length, map, slice_get}
use Rattle.driven.specs.declared.effect.Effect as driven
use Rattle.driven.specs.declared.effect.Half.{Half}
use Rattle.driven.specs.declared.effect.Half.TheVariants.{High, Low}
use Rattle.driven.specs.declared.effect.Effect.TheVariants.{Await, Barrier, Context, Send, Words}
use Rattle.vtdm_c.specs.declared.effect.TheConstants.{WAIT}
use Rattle.vtdm_c.specs.declared.effect.Effect.{Effect}
use Rattle.vtdm_c.specs.declared.effect.TheConstants.Effect as kinds

-- where a wait's status goes is the caller's to say; each other descriptor keeps its words
abbrev pub high_told : ℕ → ℕ → ℕ → ℕ
high_told low high status = if low % 16 == WAIT then status else high

-- the words of a context entry, by their number
abbrev pub number_of_half : Half → ℕ
number_of_half Low = 0
number_of_half High = 1

-- each member that the kind doesn't use is 0
abbrev pub effect_told : ℕ → driven.Effect → Effect
effect_told status (Words frame first count) =
    record { kind = kinds.WORDS; number = frame; first = first; count = count; low = 0; high = 0 }
effect_told status Barrier = record { kind = kinds.BARRIER; number = 0; first = 0; count = 0; low = 0; high = 0 }
effect_told status (Context device first) = record {
  kind = kinds.CONTEXT;
  number = device;
  first = number_of_half first;
  count = 0;
  low = 0;
  high = 0;
}
effect_told status (Send low high) = record {
  kind = kinds.SEND;
  number = 0;
  first = 0;
  count = 0;
  low = low;
  high = high_told low high status;
}
effect_told status (Await number) = record { kind = kinds.AWAIT; number = number; first = 0; count = 0; low = 0; high = 0 }

-- the first places have these in their order, and each place after them what it had
pub record AreTold (status : ℕ) (effects : List driven.Effect) (old new : List Effect) : Type 0 where
  pub places : length new ≡ length old
  pub told : (k : ℕ) → k < length effects → slice_get new k ≡ slice_get (map (effect_told status) effects) k
  pub kept : (k : ℕ) → length effects ≤ k → slice_get new k ≡ slice_get old k
