-- What occurs in the course of events, with events more after them.
use Rattle.std.proofs.Common.{◌⊎◌, inl, inr, List, [], ◌∷◌, ◌++◌}
use Rattle.dmatypes.specs.declared.reply.Event.{Event}
use Rattle.laws.specs.Events.{Lasts, Occurs, OccurInTurn}

pub occurs_left : (P : Event → Type 0) (xs ys : List Event) → Occurs P xs → Occurs P (xs ++ ys)
occurs_left P [] ys h = absurd h
occurs_left P (x ∷ xs) ys (inl here) = inl here
occurs_left P (x ∷ xs) ys (inr later) = inr (occurs_left P xs ys later)

pub occurs_right : (P : Event → Type 0) (xs ys : List Event) → Occurs P ys → Occurs P (xs ++ ys)
occurs_right P [] ys h = h
occurs_right P (x ∷ xs) ys h = inr (occurs_right P xs ys h)

pub occurs_last : (P : Event → Type 0) (xs : List Event) (e : Event) → P e → Occurs P (xs ++ e ∷ [])
occurs_last P xs e h = occurs_right P xs (e ∷ []) (inl h)

pub occurs_either : (P : Event → Type 0) (xs : List Event) (e : Event) → Occurs P (xs ++ e ∷ []) → Occurs P xs ⊎ P e
occurs_either P [] e (inl here) = inr here
occurs_either P [] e (inr none) = absurd none
occurs_either P (x ∷ xs) e (inl here) = inl (inl here)
occurs_either P (x ∷ xs) e (inr later) = elim (occurs_either P xs e later) [ inl old ↦ inl (inr old) | inr last ↦ inr last ]

pub occurs_as : (P Q : Event → Type 0) → ((e : Event) → P e → Q e) → (xs : List Event) → Occurs P xs → Occurs Q xs
occurs_as P Q f [] h = absurd h
occurs_as P Q f (x ∷ xs) (inl here) = inl (f x here)
occurs_as P Q f (x ∷ xs) (inr later) = inr (occurs_as P Q f xs later)

-- ---- done and not undone

pub lasts_now : (P Q : Event → Type 0) (xs : List Event) (e : Event) → P e → Lasts P Q (xs ++ e ∷ [])
lasts_now P Q [] e h = inl (h, λ none. none)
lasts_now P Q (x ∷ xs) e h = inr (lasts_now P Q xs e h)

pub lasts_still : (P Q : Event → Type 0) (xs : List Event) (e : Event) → (Q e → ⊥) → Lasts P Q xs → Lasts P Q (xs ++ e ∷ [])
lasts_still P Q [] e keeps h = absurd h
lasts_still P Q (x ∷ xs) e keeps (inl here) =
    inl (here.0, λ undone. elim (occurs_either Q xs e undone) [ inl old ↦ here.1 old | inr last ↦ keeps last ])
lasts_still P Q (x ∷ xs) e keeps (inr later) = inr (lasts_still P Q xs e keeps later)

pub lasts_either : (P Q : Event → Type 0) (xs : List Event) (e : Event) → Lasts P Q (xs ++ e ∷ [])
    → P e ⊎ (Lasts P Q xs × (Q e → ⊥))
lasts_either P Q [] e (inl here) = inl here.0
lasts_either P Q [] e (inr none) = absurd none
lasts_either P Q (x ∷ xs) e (inl here) =
    inr (inl (here.0, λ old. here.1 (occurs_left Q xs (e ∷ []) old)), λ last. here.1 (occurs_last Q xs e last))
lasts_either P Q (x ∷ xs) e (inr later) =
    elim (lasts_either P Q xs e later) [ inl now ↦ inl now | inr still ↦ inr (inr still.0, still.1) ]

pub lasts_as : (P R Q : Event → Type 0) → ((e : Event) → P e → R e) → (xs : List Event) → Lasts P Q xs → Lasts R Q xs
lasts_as P R Q f [] h = absurd h
lasts_as P R Q f (x ∷ xs) (inl here) = inl (f x here.0, here.1)
lasts_as P R Q f (x ∷ xs) (inr later) = inr (lasts_as P R Q f xs later)

-- what undoes less lets it last
pub lasts_less : (P Q R : Event → Type 0) → ((e : Event) → R e → Q e) → (xs : List Event) → Lasts P Q xs → Lasts P R xs
lasts_less P Q R f [] h = absurd h
lasts_less P Q R f (x ∷ xs) (inl here) = inl (here.0, λ undone. here.1 (occurs_as R Q f xs undone))
lasts_less P Q R f (x ∷ xs) (inr later) = inr (lasts_less P Q R f xs later)

pub lasts_occurs : (P Q : Event → Type 0) (xs : List Event) → Lasts P Q xs → Occurs P xs
lasts_occurs P Q [] h = absurd h
lasts_occurs P Q (x ∷ xs) (inl here) = inl here.0
lasts_occurs P Q (x ∷ xs) (inr later) = inr (lasts_occurs P Q xs later)

-- ---- one after the other

pub turn_now : (P Q : Event → Type 0) (xs : List Event) (e : Event) → Occurs P xs → Q e → OccurInTurn P Q (xs ++ e ∷ [])
turn_now P Q [] e h now = absurd h
turn_now P Q (x ∷ xs) e (inl here) now = inl (here, occurs_last Q xs e now)
turn_now P Q (x ∷ xs) e (inr later) now = inr (turn_now P Q xs e later now)

pub turn_still : (P Q : Event → Type 0) (xs ys : List Event) → OccurInTurn P Q xs → OccurInTurn P Q (xs ++ ys)
turn_still P Q [] ys h = absurd h
turn_still P Q (x ∷ xs) ys (inl here) = inl (here.0, occurs_left Q xs ys here.1)
turn_still P Q (x ∷ xs) ys (inr later) = inr (turn_still P Q xs ys later)

pub turn_either : (P Q : Event → Type 0) (xs : List Event) (e : Event) → OccurInTurn P Q (xs ++ e ∷ [])
    → OccurInTurn P Q xs ⊎ (Occurs P xs × Q e)
turn_either P Q [] e (inl here) = absurd here.1
turn_either P Q [] e (inr none) = absurd none
turn_either P Q (x ∷ xs) e (inl here) =
    elim (occurs_either Q xs e here.1) [ inl old ↦ inl (inl (here.0, old)) | inr last ↦ inr (inl here.0, last) ]
turn_either P Q (x ∷ xs) e (inr later) =
    elim (turn_either P Q xs e later) [ inl old ↦ inl (inr old) | inr now ↦ inr (inr now.0, now.1) ]
