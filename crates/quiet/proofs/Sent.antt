-- The descriptor that a call sent is the one that the unit took before its last wait.
use Rattle.std.proofs.Common.{◌≡◌, ℕ, ◌+◌, ◌-◌, List, [], ◌∷◌, ◌++◌, Option, Some, None, length, take, sym, ap, ◌∙◌}
use Rattle.std.proofs.lemmas.List.{reverse-append}
use Rattle.std.proofs.lemmas.Option.{same_Some}
use Rattle.queue.specs.Ring.{Ring}
use Rattle.queue.specs.declared.ring.TheConstants.Ring.{CAPACITY}
use Rattle.vtdbits.specs.declared.descriptor.Descriptor.{Descriptor}
use Rattle.vtdbits.specs.declared.descriptor.Descriptor.TheVariants.{Wait}
use Rattle.engine.specs.declared.iommu.Iommu.{Iommu}
use Rattle.engine.specs.declared.iommu.Shown.{Shown}
use Rattle.engine.specs.Ending.{Invalidates, status_of, taken_after}

second : List Descriptor → Option Descriptor
second [] = None
second (x ∷ []) = None
second (x ∷ y ∷ rest) = Some y

second_taken : (waiting taken : List Descriptor) (d : Descriptor) (n : ℕ)
    → second (taken_after (waiting ++ d ∷ Wait n ∷ []) taken) ≡ Some d
unfolding second
second_taken waiting taken d n =
    ap (λ ds. second (ds ++ take (CAPACITY + 1 - length (waiting ++ d ∷ Wait n ∷ [])) taken)) (reverse-append waiting (d ∷ Wait n ∷ []))

pub sent_last : (old new : Iommu) (d x : Descriptor) (seen : Option Shown) (status : ℕ) (earlier : List Descriptor)
    → Invalidates old d seen new → new.ring.taken ≡ Wait status ∷ x ∷ earlier → x ≡ d
unfolding second
sent_last old new d x seen status earlier sends is =
    same_Some x d
    (ap second (sym is ∙ ap (λ (r : Ring). r.taken) sends.done)
    ∙ second_taken old.ring.waiting old.ring.taken d (status_of new.sent))
