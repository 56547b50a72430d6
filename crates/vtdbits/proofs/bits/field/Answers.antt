use Rattle.std.proofs.Common.{◌/◌, ◌^◌, ◌-◌, bit_and, ap, ◌∙◌}
use Rattle.std.proofs.lemmas.Nat.{and_mask, one_shl}
use Rattle.vtdbits.proofs.bits.field.Goals as goal

pub returns : goal.returns
returns c =
    ap (λ m. bit_and (c.args.word / 2 ^ c.args.from) (m - 1)) (one_shl c.args.count 64 c.requires.count)
    ∙ and_mask (c.args.word / 2 ^ c.args.from) c.args.count
