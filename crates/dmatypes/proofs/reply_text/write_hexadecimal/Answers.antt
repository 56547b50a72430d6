use Rattle.std.proofs.Common.{rules, ◌≡◌, ◌≤◌, ◌<◌, ◌+◌, ◌-◌, ◌++◌, ◌/◌, ◌∷◌, [], length, List, ℕ, drop, set, false, arith, ap, sym, ◌∙◌}
use Rattle.std.specs.Fmt.{digits, digit_glyph}
use Rattle.std.proofs.lemmas.List.{append-nil, drop_all, length-drop, length-set}
use Rattle.dmatypes.proofs.texts.Hexadecimal.{digits_alone, digits_step, length_digits, length_step, one_before, some_digit}
use Rattle.dmatypes.proofs.reply_text.write_hexadecimal.Goals as goal

nothing_written : (n : ℕ) (buffer : List ℕ) → length buffer ≡ 16 → digits 16 false n ++ drop 16 buffer ≡ digits 16 false n
nothing_written n buffer long =
    ap (λ (r : List ℕ). digits 16 false n ++ r) (drop_all 16 buffer (omega arith)) ∙ append-nil (digits 16 false n)

pub loop-left-init : goal.loop-left-init
loop-left-init c = (length_digits c.args.n (omega arith), omega arith, search rules, nothing_written c.args.n c.args.buffer.now (search rules))

pub overflow_sub-at : goal.overflow_sub-at
overflow_sub-at c = omega (arith, some_digit c.loop-left.left (omega arith))

pub loop-left-preserved : goal.loop-left-preserved
loop-left-preserved c =
    let l = c.loop-left in
    let some = some_digit l.left (omega arith) in
    let shorter = length_step l.left c.loop-left-test.true (omega arith) in (
      omega (arith, shorter, l.invariant.0),
      omega arith,
      length-set l.buffer (l.at - 1) c.hexadecimal_digit.result ∙ l.invariant.2,
      one_before l.buffer l.at c.hexadecimal_digit.result (digits 16 false (l.left / 16)) (digits 16 false c.args.n) (omega arith)
          (omega arith)
          (rw c.hexadecimal_digit.ensures (rw (digits_step l.left c.loop-left-test.true (omega arith)) at l.invariant.3)),
    )

pub overflow_sub-at-2 : goal.overflow_sub-at-2
overflow_sub-at-2 c = omega (arith, some_digit c.loop-left.left (omega arith))

written : (at n left d : ℕ) (buffer : List ℕ) → left < 16 → 1 ≤ at → at ≤ 16 → length buffer ≡ 16 → d ≡ digit_glyph false left
    → digits 16 false left ++ drop at buffer ≡ digits 16 false n
    → (drop (at - 1) (set buffer (at - 1) d) ≡ digits 16 false n) × (at - 1 + length (digits 16 false n) ≡ 16)
written at n left d buffer small some few long glyph is =
    let alone : d ∷ [] ≡ digits 16 false left = ap (λ (k : ℕ). k ∷ []) glyph ∙ sym (digits_alone left small) in
    let all : drop (at - 1) (set buffer (at - 1) d) ≡ digits 16 false n =
    one_before buffer at d [] (digits 16 false n) some (omega arith) (ap (λ (r : List ℕ). r ++ drop at buffer) alone ∙ is) in
    (all, omega (arith, ap length all, length-drop (at - 1) (set buffer (at - 1) d), length-set buffer (at - 1) d))

pub returns-clause-start : goal.returns-clause-start
returns-clause-start c =
    let l = c.loop-left in
    (written l.at c.args.n l.left c.hexadecimal_digit-2.result l.buffer (omega arith) (omega (arith, some_digit l.left (omega arith)))
    (omega arith) l.invariant.2 c.hexadecimal_digit-2.ensures l.invariant.3).1

pub returns-clause-written : goal.returns-clause-written
returns-clause-written c =
    let l = c.loop-left in
    (written l.at c.args.n l.left c.hexadecimal_digit-2.result l.buffer (omega arith) (omega (arith, some_digit l.left (omega arith)))
    (omega arith) l.invariant.2 c.hexadecimal_digit-2.ensures l.invariant.3).0
