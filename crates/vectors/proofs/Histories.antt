-- The history of the tests of hits is legal, and the domain backs what is filled.
use Rattle.std.proofs.Common.{◌≡◌, ℕ, ◌+◌, ◌-◌, ◌<◌, ◌≤◌, ◌⊎◌, inl, inr, [], ◌∷◌, ◌++◌, length, Some, IsSome}
use Rattle.std.proofs.Common.{refl, ap, arith, true}
use Rattle.dmatypes.specs.declared.call.Call.TheVariants as calls
use Rattle.dmatypes.specs.declared.call.Mode.TheVariants.{Strict}
use Rattle.dmatypes.specs.declared.width.Width.TheVariants.{W39}
use Rattle.dmatypes.specs.declared.reply.Reply.TheVariants.{Made, Done, Mapped}
use Rattle.dmatypes.specs.World.{World, AreFreePages, empty, empty_domain, is_within}
use Rattle.dmatypes.proofs.numbers.Ranges.{within_is}
use Rattle.dmatypes.specs.Allows.{Allows}
use Rattle.dmatypes.specs.Conditions.{IsBadMap, Stands}
use Rattle.dmatypes.specs.Step.{Answers, IsStep, next}
use Rattle.dmatypes.specs.History.{IsLegal, after, event}
use Rattle.vtdbits.specs.Port.{port_word}
use Rattle.vtdbits.specs.Translation.{target}
use Rattle.ports.specs.Lawful.{IsBacked}
use Rattle.vectors.specs.Histories.{mapped_history, request, whole_history}
use Rattle.dmatypes.specs.declared.limits.TheConstants.{MOST_DOMAINS}

made : World
made = next (empty 64) (calls.Domain Strict W39) (Made 1)

attached : World
attached = next made (calls.Attach 3 1) Done

filled : World
filled = next attached (calls.Map 1 0x100 17 0 1) (Mapped 0x1000)

domain_step : IsStep (empty 64) (calls.Domain Strict W39) (Made 1)
unfolding IsStep Stands Answers
domain_step = ((no_room, tt), (1, (omega arith, omega arith, refl), refl))
  where
    no_room : ((d : ℕ) → 1 ≤ d → d ≤ MOST_DOMAINS → IsSome ((empty 64).domains d)) → ⊥
    no_room all = let one = all 1 (omega arith) (omega arith) in absurd cc

attach_step : IsStep made (calls.Attach 3 1) Done
unfolding made IsStep Stands Answers next
attach_step = ((λ big. omega (arith, big), (λ none. absurd cc, (λ some. absurd cc, tt))), refl)

free_pages : AreFreePages (empty_domain Strict W39) (record { first = 1; pages = 17 })
free_pages p inside = (
  ((omega (arith, inside.0), omega (arith, inside.1), inl (omega (arith, inside.1))), omega (arith, inside.1)),
  record { not_live = refl; not_retired = λ r i. absurd i },
)

good_map : IsBadMap (record { frame = 0x100; pages = 17 } ∷ []) 0 1 → ⊥
good_map (inl none) = absurd cc
good_map (inr (inl (inl zero_pages))) = omega (arith, zero_pages)
good_map (inr (inl (inr none))) = none
good_map (inr (inr (inl many))) = omega (arith, many)
good_map (inr (inr (inr (inl (inl high))))) = omega (arith, high)
good_map (inr (inr (inr (inl (inr none))))) = none
good_map (inr (inr (inr (inr (inl order))))) = omega (arith, order)
good_map (inr (inr (inr (inr (inr no_rights))))) = no_rights (omega arith, omega arith)

map_step : IsStep attached (calls.Map 1 0x100 17 0 1) (Mapped 0x1000)
unfolding made attached IsStep Stands Answers next
map_step = ((λ none. absurd cc, (good_map, (not_owned, (λ no_range. no_range 1 refl free_pages, tt)))), (1, refl, free_pages, refl))
  where
    not_owned : (0x100 < 64) ⊎ ⊥ → ⊥
    not_owned (inl low) = omega (arith, low)
    not_owned (inr none) = none

-- ---- the two requests, which change nothing

first_step : IsStep filled (request 0x1000 0x100000).call (request 0x1000 0x100000).reply
unfolding made attached filled IsStep Stands Answers Allows next
first_step = (
  (λ big. omega (arith, big), (λ window. omega (arith, window.0), tt)),
  inr (λ beyond. omega (arith, beyond), inl (target 0x100 1, (refl, refl), refl)),
)

second_step : IsStep filled (request 0x11000 0x110000).call (request 0x11000 0x110000).reply
unfolding made attached filled IsStep Stands Answers Allows next
second_step = (
  (λ big. omega (arith, big), (λ window. omega (arith, window.0), tt)),
  inr (λ beyond. omega (arith, beyond), inl (target 0x110 1, (refl, refl), refl)),
)

-- ---- each front of the history is legal

pub legal_one : IsLegal 64 (event (calls.Domain Strict W39) (Made 1) ∷ [])
legal_one = (domain_step, tt)

pub legal_two : IsLegal 64 (event (calls.Domain Strict W39) (Made 1) ∷ event (calls.Attach 3 1) Done ∷ [])
unfolding made
legal_two = (domain_step, (attach_step, tt))

pub legal_three : IsLegal 64
    (event (calls.Domain Strict W39) (Made 1) ∷ event (calls.Attach 3 1) Done ∷ event (calls.Map 1 0x100 17 0 1) (Mapped 0x1000) ∷ [])
unfolding made attached
legal_three = (domain_step, (attach_step, (map_step, tt)))

pub mapped_is :
    event (calls.Domain Strict W39) (Made 1) ∷ event (calls.Attach 3 1) Done ∷ event (calls.Map 1 0x100 17 0 1) (Mapped 0x1000) ∷ []
    ≡ mapped_history
unfolding mapped_history
mapped_is = refl

pub few_mapped : length mapped_history < 5
unfolding mapped_history
few_mapped = omega arith

pub few_first : length (mapped_history ++ request 0x1000 0x100000 ∷ []) < 5
unfolding mapped_history
few_first = omega arith

pub legal_first : IsLegal 64 (mapped_history ++ request 0x1000 0x100000 ∷ [])
unfolding made attached filled mapped_history
legal_first = (domain_step, (attach_step, (map_step, (first_step, tt))))

pub legal_second : IsLegal 64 ((mapped_history ++ request 0x1000 0x100000 ∷ []) ++ request 0x11000 0x110000 ∷ [])
unfolding made attached filled mapped_history next
legal_second = (domain_step, (attach_step, (map_step, (first_step, (second_step, tt)))))

pub whole_is : (mapped_history ++ request 0x1000 0x100000 ∷ []) ++ request 0x11000 0x110000 ∷ [] ≡ whole_history
unfolding mapped_history whole_history
whole_is = refl

-- ---- the words that are filled

-- each of the 17 pages is backed
pub backed_page : (place : ℕ) → place < 17 → IsBacked (after 64 whole_history) 3 (port_word (1 + place) (target (0x100 + place) 1))
unfolding whole_history mapped_history next
backed_page place less =
    let within : is_within (record { first = 1; pages = 17 }) (1 + place) ≡ true =
    within_is (record { first = 1; pages = 17 }) (1 + place) (omega arith, omega (arith, less)) in
    let frame : 0x100 + (1 + place - 1) ≡ 0x100 + place = omega arith in
    (target (0x100 + place) 1, inl (rw within (ap (λ (f : ℕ). Some (target f 1)) frame)), refl, λ access permits. permits)
