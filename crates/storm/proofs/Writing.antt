-- Each element of a list is written in turn, and so comes to be in a relation to what it was.
use Rattle.std.proofs.Common.{◌≡◌, ◌≢◌, ◌+◌, ◌<◌, ◌≤◌, ℕ, List, ◌++◌, arith, below_more}
use Rattle.std.proofs.Common.{get_or, get_or-set_other, get_or-set_same, length, set, subst, sym, take, drop, ◌∙◌}
use Rattle.std.proofs.lemmas.List.{append-nil, get_or_default}
use Rattle.std.proofs.Math.ListN.{drop_of_length-le}
use Rattle.std.proofs.Math.Seq.{take-length}

module _ {A : Type 0} (R : A → A → Type 0) (old new : List A) (i : ℕ) (x y : A) where
  -- those below the index were written
  abbrev pub AreWritten : List A → ℕ → Type 0
  AreWritten list end = (k : ℕ) → k < end → (d : A) → R (get_or old k d) (get_or list k d)

  -- and the others are as they were
  abbrev pub AreLeft : List A → ℕ → Type 0
  AreLeft list first = (k : ℕ) → first ≤ k → (d : A) → get_or list k d ≡ get_or old k d

  pub written_next : i < length new → x ≡ get_or new i x → R x y → AreWritten new i → AreLeft new i → AreWritten (set new i y) (i + 1)
  written_next within here has done rest =
      below_more _ _
      (λ k h d. let other : k ≢ i = omega arith in
      subst (λ z. R (get_or old k d) z) (sym (get_or-set_other new i k y d other)) (done k h d))
      (λ d. subst (λ z. R z (get_or (set new i y) i d)) (here ∙ get_or_default new i x d within ∙ rest i (omega arith) d)
      (subst (λ z. R x z) (sym (get_or-set_same new i y d within)) has))

  pub left_next : AreLeft new i → AreLeft (set new i y) (i + 1)
  left_next rest k above d = let other : k ≢ i = omega arith in get_or-set_other new i k y d other ∙ rest k (omega (arith, above)) d

-- the whole of a list that stands in the place of the first elements of another
pub whole_of : {A : Type 0} (list old : List A) (len : ℕ) → length list ≡ len → length old ≤ len
    → take len (list ++ drop (length list) old) ≡ list
whole_of list old len is few =
    subst (λ n. take n (list ++ drop (length list) old) ≡ list) is
    (subst (λ l. take (length list) (list ++ l) ≡ list) (sym (drop_of_length-le old (omega (arith, is, few))))
    (subst (λ l. take (length list) l ≡ list) (sym (append-nil list)) (take-length list)))
