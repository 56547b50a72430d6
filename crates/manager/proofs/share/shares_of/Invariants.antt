use Rattle.std.proofs.Common.{◌≡◌, ◌+◌, [], All, vec_len}
use Rattle.manager.specs.Kept.{new_share}
use Rattle.manager.proofs.share.shares_of.Given as goal

abbrev pub invariant-loop-pass : goal.invariant-loop-pass
invariant-loop-pass g l =
    (l.rest.parts ≡ vec_len l.passes)
    × (l.rest.amount ≡ 0)
    × (vec_len l.shares + vec_len l.passes ≡ vec_len l.fn.passes)
    × All (λ pass. (pass.rows ≡ g.B.Owner.rows) × (pass.seen ≡ [])) l.passes.items
    × All (λ share. share ≡ new_share) l.shares.items

abbrev pub decreases-loop-pass : goal.decreases-loop-pass
decreases-loop-pass g l = vec_len l.passes
