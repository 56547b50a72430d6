-- What each step of a history keeps holds at its end; and the parts of legal histories.
use Rattle.std.proofs.Common.{◌≡◌, List, [], ◌∷◌, ◌++◌, append_assoc, refl, sym, subst}
use Rattle.std.proofs.lemmas.List.{append-nil}
use Rattle.dmatypes.specs.declared.reply.Event.{Event}
use Rattle.dmatypes.specs.World.{World}
use Rattle.dmatypes.specs.Step.{IsStep, next}
use Rattle.dmatypes.specs.History.{after_from, IsLegalFrom}

-- what holds of the events so far and the world after them, and what each step keeps
pub carried : (P : List Event → World → Type 0)
    → ((es : List Event) (w : World) (e : Event) → P es w → IsStep w e.call e.reply → P (es ++ e ∷ []) (next w e.call e.reply))
    → (so_far : List Event) (w : World) (es : List Event) → P so_far w → IsLegalFrom w es → P (so_far ++ es) (after_from w es)
carried P keeps so_far w [] h legal = subst (λ (xs : List Event). P xs w) (sym (append-nil so_far)) h
carried P keeps so_far w (e ∷ es) h legal =
    subst (λ (xs : List Event). P xs (after_from (next w e.call e.reply) es)) (append_assoc so_far (e ∷ []) es)
    (carried P keeps (so_far ++ e ∷ []) (next w e.call e.reply) es (keeps so_far w e h legal.0) legal.1)

pub legal_front : (w : World) (xs ys : List Event) → IsLegalFrom w (xs ++ ys) → IsLegalFrom w xs
legal_front w [] ys legal = tt
legal_front w (x ∷ xs) ys legal = (legal.0, legal_front (next w x.call x.reply) xs ys legal.1)

pub legal_rest : (w : World) (xs ys : List Event) → IsLegalFrom w (xs ++ ys) → IsLegalFrom (after_from w xs) ys
legal_rest w [] ys legal = legal
legal_rest w (x ∷ xs) ys legal = legal_rest (next w x.call x.reply) xs ys legal.1

pub after_from-append : (w : World) (xs ys : List Event) → after_from w (xs ++ ys) ≡ after_from (after_from w xs) ys
after_from-append w [] ys = refl
after_from-append w (x ∷ xs) ys = after_from-append (next w x.call x.reply) xs ys

-- from an event in the middle on
pub legal_from : (w : World) (xs : List Event) (e : Event) (ys zs : List Event) → IsLegalFrom w ((xs ++ e ∷ ys) ++ zs)
    → IsStep (after_from w xs) e.call e.reply × IsLegalFrom (next (after_from w xs) e.call e.reply) (ys ++ zs)
legal_from w xs e ys zs legal =
    let rest = legal_rest w xs ((e ∷ ys) ++ zs) (subst (IsLegalFrom w) (append_assoc xs (e ∷ ys) zs) legal) in
    (rest.0, rest.1)
