-- What holds of the last of a list and of all before it holds of each.
use Rattle.std.proofs.Common.{◌≡◌, List, [], ◌∷◌, ◌++◌, All, sym, subst}
use Rattle.std.proofs.lemmas.List.Elements.{All-push}

pub All-last : {X : Type 0} (P : X → Type 0) (all rest : List X) (x : X) → all ≡ rest ++ x ∷ [] → P x → All P rest → All P all
All-last P all rest x is last before = subst (λ l. All P l) (sym is) (All-push P rest x before last)
