-- What one more step of a run is among the callers' own.
use Rattle.std.proofs.Common.{◌≡◌, ◌≢◌, ℕ, List, [], ◌∷◌, ◌++◌, refl, sym, ap, ◌∙◌, eq-eqb, ne_eqb}
use Rattle.std.proofs.lemmas.List.{append-nil}
use Rattle.std.proofs.lemmas.Grind.{flat_map-append}
use Rattle.ports.specs.Steps.{PortStep, loads_word, empties_word, loads_counter, counter, desk_store, desk_stores, own_step, own_steps}
use Rattle.ports.specs.Steps.{place_of}
use Rattle.ports.specs.declared.known.OwnStep.{OwnStep}
use Rattle.ports.specs.declared.known.OwnStep.TheVariants.{Loaded, Stored}

-- the step is this one of the caller p, and nobody else's
pub record IsOwn (p : ℕ) (s : PortStep) (x : OwnStep) : Type 0 where
  pub mine : own_step p s ≡ x ∷ []
  pub others : (q : ℕ) → q ≢ p → own_step q s ≡ []
  pub not_desk : desk_store s ≡ []

pub loaded_word : (p slot word : ℕ) → IsOwn p (loads_word p slot word) (Loaded (place_of p slot) word)
loaded_word p slot word =
    record { mine = rw (eq-eqb p p refl) refl; others = λ q ne. rw (ne_eqb p q (λ e. ne (sym e))) refl; not_desk = refl }

pub emptied_word : (p slot : ℕ) → IsOwn p (empties_word p slot) (Stored (place_of p slot) 0)
emptied_word p slot =
    record { mine = rw (eq-eqb p p refl) refl; others = λ q ne. rw (ne_eqb p q (λ e. ne (sym e))) refl; not_desk = refl }

pub loaded_counter : (p answer : ℕ) → IsOwn p (loads_counter p answer) (Loaded counter answer)
loaded_counter p answer =
    record { mine = rw (eq-eqb p p refl) refl; others = λ q ne. rw (ne_eqb p q (λ e. ne (sym e))) refl; not_desk = refl }

pub own_more : (p : ℕ) (steps : List PortStep) (s : PortStep) (x : OwnStep) (did : List OwnStep) → IsOwn p s x → own_steps p steps ≡ did
    → own_steps p (steps ++ s ∷ []) ≡ did ++ x ∷ []
own_more p steps s x did own was =
    flat_map-append (own_step p) steps (s ∷ []) ∙ ap (λ (l : List OwnStep). own_steps p steps ++ (l ++ [])) own.mine
    ∙ ap (λ (l : List OwnStep). l ++ x ∷ []) was

pub own_same : (q : ℕ) (steps : List PortStep) (s : PortStep) → own_step q s ≡ [] → own_steps q (steps ++ s ∷ []) ≡ own_steps q steps
own_same q steps s none =
    flat_map-append (own_step q) steps (s ∷ []) ∙ ap (λ (l : List OwnStep). own_steps q steps ++ (l ++ [])) none
    ∙ append-nil (own_steps q steps)

pub stores_more : (steps : List PortStep) (s : PortStep) (x : OwnStep) (did : List OwnStep) → desk_store s ≡ x ∷ []
    → did ≡ desk_stores steps → did ++ x ∷ [] ≡ desk_stores (steps ++ s ∷ [])
stores_more steps s x did is was =
    ap (λ (l : List OwnStep). l ++ x ∷ []) was ∙ sym (flat_map-append desk_store steps (s ∷ [])
    ∙ ap (λ (l : List OwnStep). desk_stores steps ++ (l ++ [])) is)

pub stores_same : (steps : List PortStep) (s : PortStep) → desk_store s ≡ [] → desk_stores steps ≡ desk_stores (steps ++ s ∷ [])
stores_same steps s none =
    sym (flat_map-append desk_store steps (s ∷ []) ∙ ap (λ (l : List OwnStep). desk_stores steps ++ (l ++ [])) none
    ∙ append-nil (desk_stores steps))
