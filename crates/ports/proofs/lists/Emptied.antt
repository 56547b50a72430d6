-- The stores that empty a row, one by one.
use Rattle.std.proofs.Common.{◌≡◌, ℕ, ◌+◌, List, [], ◌∷◌, ◌++◌, suc, sym, ap, ◌∙◌, arith, append_assoc}
use Rattle.std.proofs.lemmas.List.{append-nil}
use Rattle.ports.specs.Seen.{emptied_slots}
use Rattle.ports.specs.Steps.{place_of}
use Rattle.ports.specs.declared.known.OwnStep.{OwnStep}
use Rattle.ports.specs.declared.known.OwnStep.TheVariants.{Stored}

pub none_emptied : (did : List OwnStep) (device : ℕ) → did ≡ did ++ emptied_slots device 0
unfolding emptied_slots
none_emptied did device = sym (append-nil did)

pub one_emptied : (did before now : List OwnStep) (device slot : ℕ) → before ≡ did ++ emptied_slots device slot
    → now ≡ before ++ Stored (place_of device slot) 0 ∷ [] → now ≡ did ++ emptied_slots device (slot + 1)
unfolding emptied_slots
one_emptied did before now device slot was is =
    let next : slot + 1 ≡ suc slot = omega arith in
    rw next (is ∙ ap (λ (l : List OwnStep). l ++ Stored (place_of device slot) 0 ∷ []) was
    ∙ append_assoc did (emptied_slots device slot) (Stored (place_of device slot) 0 ∷ []))
