-- One hit more.
use Rattle.std.proofs.Common.{◌≡◌, ℕ, suc, ◌+◌, List, [], ◌∷◌, ◌++◌, arith, ap, subst, ◌∙◌}
use Rattle.dmatypes.specs.Page.{page_of}
use Rattle.ports.specs.Steps.{counter, place_of, slot_of}
use Rattle.ports.specs.declared.known.OwnStep.{OwnStep}
use Rattle.ports.specs.declared.known.OwnStep.TheVariants.{Loaded}
use Rattle.storm.specs.Storms.{AreHits, address_read}

-- what a port did, once it made a hit at this address
abbrev pub with_hit : List OwnStep → ℕ → ℕ → ℕ → ℕ → List OwnStep
with_hit before count device address word =
    before ++ Loaded counter count ∷ Loaded (place_of device (slot_of (page_of address))) word ∷ []

pub one_hit_more : (device own hits count address word : ℕ) (before after : List OwnStep) → AreHits device hits before
    → own ≡ device → address ≡ address_read (hits + 1) → after ≡ with_hit before count own address word
    → AreHits device (hits + 1) after
one_hit_more device own hits count address word before after are same read more =
    let next : suc hits ≡ hits + 1 = omega arith in
    let did =
    more ∙ ap (λ d. with_hit before count d address word) same ∙ ap (λ a. with_hit before count device a word) read in
    subst (λ n. AreHits device n after) next (before, count, word, are, did)
