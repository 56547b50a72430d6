-- What stays whole where nothing is dropped.
use Rattle.std.proofs.Common.{◌≡◌, Bool, true, false, not, ◌||◌, if◌then◌else◌, List, [], ◌∷◌, filter, refl, ap, ◌∙◌, sym}
use Rattle.std.specs.List.{list_any}
use Rattle.std.proofs.lemmas.Bool.{false≢true}

-- what a test drops of a list in which it finds nothing
pub kept_whole : {X : Type 0} (test : X → Bool) (xs : List X) → list_any test xs ≡ false → filter (λ x. not (test x)) xs ≡ xs
kept_whole test [] none = refl
kept_whole {X} test (x ∷ xs) none = by_first (test x) refl (λ of_rest. kept_whole test xs of_rest)
  where
    rest : List X
    rest = filter (λ y. not (test y)) xs

    by_first : (b : Bool) → test x ≡ b → (list_any test xs ≡ false → rest ≡ xs) → filter (λ y. not (test y)) (x ∷ xs) ≡ x ∷ xs
    by_first true e _ = absurd (false≢true (sym none ∙ ap (λ b. b || list_any test xs) e))
    by_first false e of_rest =
        ap (λ b. if not b then x ∷ rest else rest) e
        ∙ ap (λ ys. x ∷ ys) (of_rest (ap (λ b. b || list_any test xs) (sym e) ∙ none))
