use Rattle.std.proofs.Common.{◌≡◌, ℕ, ◌+◌, ◌<◌, length, get_or}
use Rattle.dmatypes.specs.Rights.{bits_of}
use Rattle.vtdbits.specs.Entry.{Spells, look}
use Rattle.vtdbits.specs.Translation.{target}
use Rattle.vtdbits.specs.declared.entry.SsEntry.TheVariants.{Leaf}
use Rattle.tables.proofs.frames.spell_leaves.Given as goal

-- the words so far are spelled, and the word at hand is the next leaf's, where there is one
abbrev pub invariant-loop-place : goal.invariant-loop-place
invariant-loop-place l =
    ((j : ℕ) → j < l.place-index → look 1 (get_or l.words j 0) ≡ Leaf (target (l.first + j) (bits_of l.fn.rights)))
    × (l.place-index < length l.words → Spells 1 l.word (Leaf (target (l.first + l.place-index) (bits_of l.fn.rights))))
