-- What all elements of a list have, where one is taken from its front or put behind it; and how long the list then is.
use Rattle.std.proofs.Common.{◌≡◌, ◌+◌, List, [], ◌∷◌, ◌++◌, All, ap, length, length-append, sym, subst, ◌∙◌}
use Rattle.std.proofs.lemmas.List.Elements.{All-head, All-push, All-tail}

pub All-first : {A : Type 0} (P : A → Type 0) (all rest : List A) (x : A) → all ≡ x ∷ rest → All P all → P x
All-first P all rest x is has = All-head P x rest (subst (λ l. All P l) is has)

pub All-next : {A : Type 0} (P : A → Type 0) (all rest : List A) (x : A) → all ≡ x ∷ rest → All P all → All P rest
All-next P all rest x is has = All-tail P x rest (subst (λ l. All P l) is has)

pub All-pushed : {A : Type 0} (P : A → Type 0) (before all : List A) (x : A) → all ≡ before ++ x ∷ [] → P x → All P before → All P all
All-pushed P before all x is last has = subst (λ l. All P l) (sym is) (All-push P before x has last)

pub length_after : {A : Type 0} (all before more : List A) → all ≡ before ++ more → length all ≡ length before + length more
length_after all before more is = ap length is ∙ length-append before more
