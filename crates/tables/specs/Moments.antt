-- How the logic stores the moments of a pool.
use Rattle.std.specs.Prelude.{ℕ, List, refl}
use Rattle.std.specs.Coded.{Coded, code_by, coded×, coded_list, coded_ℕ}
use Rattle.tables.specs.Pool.{Moment}

abbrev pub moments_code : Coded (List Moment)
moments_code =
    coded_list (code_by (List ℕ × List ℕ) (coded× (coded_list coded_ℕ) (coded_list coded_ℕ)) (λ m. (m.words, m.free))
    (λ p. record { words = p.0; free = p.1 }) (λ _. refl))
