-- Words that are written one after the other.
use Rattle.std.proofs.Common.{◌≡◌, inl, inr, ⊎_elim, ℕ, zero, suc, ◌≤◌, Bool, true, false, List, [], ◌∷◌, take, refl, arith}
use Rattle.std.specs.Prelude.{◌==◌, ◌&&◌, ◌||◌}
use Rattle.moments.specs.Laws.{OneOrderSuffices}
use Rattle.moments.specs.Moments.{Place, is_written}

one_more : (b x y : Bool) → (x ≡ true → y ≡ true) → (b || x) ≡ true → (b || y) ≡ true
one_more true x y go h = refl
one_more false x y go h = go h

-- what was written by one moment is so at each later one
later : (ws : List Place) (m n f k : ℕ) → m ≤ n → is_written (take m ws) f k ≡ true → is_written (take n ws) f k ≡ true
later [] zero zero f k le h = h
later [] zero (suc n) f k le h = h
later [] (suc m) zero f k le h = absurd (omega arith)
later [] (suc m) (suc n) f k le h = h
later (w ∷ ws) zero n f k le h = absurd (let clash : false ≡ true = h in cc)
later (w ∷ ws) (suc m) zero f k le h = absurd (omega arith)
later (w ∷ ws) (suc m) (suc n) f k le h =
    one_more ((f == w.frame) && (k == w.index)) (is_written (take m ws) f k) (is_written (take n ws) f k)
    (λ before. later ws m n f k (omega arith) before) h

pub in_turn : OneOrderSuffices
in_turn old new order moment fills goes table index below k leaf inside small was is reached =
    ⊎_elim (λ written. inl (later order (moment 2) (moment 1) below k (goes 1) written)) (λ same. inr same)
    (fills (moment 2) table index below k leaf inside small was is reached)
