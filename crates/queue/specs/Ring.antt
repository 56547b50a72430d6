-- What the callers of a ring see.
use Rattle.std.specs.Prelude.{ℕ, ◌-◌, List, [], ◌∷◌, ◌++◌, length, take, reverse}
use Rattle.vtdbits.specs.declared.descriptor.Descriptor.{Descriptor}

-- the descriptors that wait, oldest first. The status is what the last wait that was done wrote. What was taken out of the ring comes
-- the last one first, as far as its page still holds it
pub record Ring : Type 0 where
  pub waiting : List Descriptor
  pub status : ℕ
  pub taken : List Descriptor

-- the descriptors that were submitted last, the last one first: those that wait, and then what was taken, as far as the page still
-- holds it
abbrev pub submitted_in : Ring → List Descriptor
submitted_in q = reverse q.waiting ++ q.taken

abbrev pub ring_of : List Descriptor → ℕ → List Descriptor → Ring
ring_of waiting status taken = record { waiting = waiting; status = status; taken = taken }

-- the ring with one descriptor more, behind those that wait: where the page is full of what was taken, its oldest one
-- is overwritten
abbrev pub with_last : Descriptor → Ring → Ring
with_last d q = ring_of (q.waiting ++ d ∷ []) q.status (take (255 - length q.waiting) q.taken)
