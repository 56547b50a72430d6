-- Effects that are done one after the other.
use Rattle.std.proofs.Common.{inl, inr, ℕ, zero, suc, ◌≤◌, List, [], ◌∷◌, ◌++◌, length, take, subst, sym, arith}
use Rattle.driven.specs.declared.effect.Effect.{Effect}
use Rattle.driven.specs.declared.effect.Effect.TheVariants.{Barrier}
use Rattle.driven.specs.Effects.{Brings, IsBrought}
use Rattle.driven.specs.Laws.{EachStageIsOldOrNew, EffectsDoneAreReadInOrder}
use Rattle.driven.proofs.Moments.{effects_old_or_new}

-- what some of the effects bring, and those up to a barrier don't, is brought behind the barrier
behind : (first rest : List Effect) (n f k : ℕ) → (IsBrought first f k → ⊥)
    → IsBrought (take (suc n) (first ++ Barrier ∷ rest)) f k → suc (length first) ≤ n
behind [] rest zero f k none (e, (inl same, brings)) = absurd (subst (λ x. Brings x f k) same brings)
behind [] rest zero f k none (e, (inr never, brings)) = absurd never
behind [] rest (suc n) f k none told = omega arith
behind (x ∷ xs) rest zero f k none (e, (inl same, brings)) = absurd (none (e, (inl same, brings)))
behind (x ∷ xs) rest zero f k none (e, (inr never, brings)) = absurd never
behind (x ∷ xs) rest (suc n) f k none (e, (inl same, brings)) = absurd (none (e, (inl same, brings)))
behind (x ∷ xs) rest (suc n) f k none (e, (inr tail, brings)) =
    let past : suc (length xs) ≤ n = behind xs rest n f k (λ told. none (told.0, (inr told.1.0, told.1.1))) (e, (tail, brings)) in
    omega (arith, past)

-- where these were done, all is brought that they bring
all_brought : (first rest : List Effect) (n f k : ℕ) → length first ≤ n → IsBrought first f k → IsBrought (take n (first ++ rest)) f k
all_brought [] rest n f k few (e, (never, brings)) = absurd never
all_brought (x ∷ xs) rest zero f k few told = absurd (omega (arith, few))
all_brought (x ∷ xs) rest (suc n) f k few (e, (inl same, brings)) = (e, (inl same, brings))
all_brought (x ∷ xs) rest (suc n) f k few (e, (inr tail, brings)) =
    let less : length xs ≤ n = omega (arith, few) in
    let told = all_brought xs rest n f k less (e, (tail, brings)) in
    (told.0, (inr told.1.0, told.1.1))

pub read_in_order : EffectsDoneAreReadInOrder
read_in_order effects done reached down is first rest level table index below k parted none after read told =
    let past : suc (length first) ≤ done (suc level) =
    behind first rest (done (suc level)) table index none
    (subst (λ es. IsBrought (take (suc (done (suc level))) es) table index) parted (is.only (suc level) table index read)) in
    is.brought level below k
    (subst (λ es. IsBrought (take (done level) es) below k) (sym parted)
    (all_brought first (Barrier ∷ rest) (done level) below k (omega (arith, past, down level)) told))

pub each_stage : EachStageIsOldOrNew
each_stage m t call reply effects domain h h' done reached page sound does are here then down is =
    effects_old_or_new m t call reply effects domain h h' reached page sound does are here then
    (read_in_order effects done reached down is)
