-- Frames that records hold.
use Rattle.std.proofs.Common.{◌≡◌, ℕ, ◌+◌, ◌<◌, inl, inr, List, [], ◌∷◌, ap, refl, arith}
use Rattle.std.proofs.lemmas.List.Sums.{sum_by-cons}
use Rattle.dmatypes.specs.World.{IsIn}
use Rattle.tables.specs.Pool.{occurs, IsZeroed}
use Rattle.engine.specs.declared.record.Record.{Record}
use Rattle.engine.specs.Domains.{held_in}
use Rattle.engine.specs.Quarantine.{IsHeld}

held-cons : (r : Record) (rs : List Record) (f : ℕ) → held_in (r ∷ rs) f ≡ occurs f r.cut.frames + held_in rs f
held-cons r rs f = sum_by-cons (λ (y : Record). occurs f y.cut.frames) r rs

pub held-nil : (f : ℕ) → held_in [] f ≡ 0
held-nil f = refl

-- what a record holds, the records hold
pub held_by : (rs : List Record) (r : Record) (f : ℕ) → IsIn r rs → 0 < occurs f r.cut.frames → 0 < held_in rs f
held_by [] r f i some = absurd i
held_by (x ∷ rs) r f (inl same) some =
    let e : occurs f r.cut.frames ≡ occurs f x.cut.frames =
    ap (λ (y : Record). occurs f y.cut.frames) same in
    omega (arith, held-cons x rs f, e, some)
held_by (x ∷ rs) r f (inr rest) some = omega (arith, held-cons x rs f, held_by rs r f rest some)

-- a held frame is held while it stays zeroed
pub held_stays : (words words' : List ℕ) (rs : List Record) → ((f : ℕ) → 0 < held_in rs f → IsZeroed words' f) → (first pages f : ℕ)
    → IsHeld words rs first pages f → IsHeld words' rs first pages f
held_stays words words' rs zeroed first pages f h = (h.0, h.1, h.2, zeroed f (held_by rs h.0 f h.1 h.2), h.4, h.5)
