-- A number that is too large stays so, whatever digits follow.
use Rattle.std.proofs.Common.{◌≡◌, ℕ, zero, suc, ◌+◌, ◌*◌, ◌≤◌, Bool, true, false, cond, List, [], ◌∷◌, Option, None, refl, le_refl}
use Rattle.std.proofs.Common.{le_trans, arith}
use Rattle.std.specs.List.{list_all}
use Rattle.std.specs.Char.{digit_value}
use Rattle.std.specs.Str.Parse.{digits_value_after}
use Rattle.dmatypes.specs.Grammar.{below_2_64}
use Rattle.dmatypes.specs.Reading.{is_digit_of, numeral_after}

one_more : (radix n d : ℕ) → 1 ≤ radix → n ≤ n * radix + d
one_more zero n d some = elim some [ ]
one_more (suc r) n d some = omega arith

grows : (radix n : ℕ) (ds : List ℕ) → 1 ≤ radix → n ≤ digits_value_after radix n ds
grows radix n [] some = le_refl n
grows radix n (c ∷ ds) some = le_trans (one_more radix n (digit_value c) some) (grows radix (n * radix + digit_value c) ds some)

none_from : (a b : ℕ) → a ≤ b → below_2_64 a ≡ None → below_2_64 b ≡ None
none_from a b le e = grind arith

none_either : (b : Bool) (r : Option ℕ) → r ≡ None → cond b r None ≡ None
none_either true r e = e
none_either false r e = refl

pub too_large : (radix n c : ℕ) (ds : List ℕ) → 1 ≤ radix → below_2_64 (n * radix + digit_value c) ≡ None → numeral_after radix n (c ∷ ds) ≡ None
too_large radix n c ds some e =
    none_either (list_all (is_digit_of radix) (c ∷ ds)) (below_2_64 (digits_value_after radix (n * radix + digit_value c) ds))
    (none_from (n * radix + digit_value c) (digits_value_after radix (n * radix + digit_value c) ds)
    (grows radix (n * radix + digit_value c) ds some) e)
