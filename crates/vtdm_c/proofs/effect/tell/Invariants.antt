use Rattle.std.proofs.Common.{◌≡◌, ◌<◌, ◌≤◌, ℕ, map, slice_get}
use Rattle.vtdm_c.specs.Effects.{effect_told}
use Rattle.vtdm_c.proofs.effect.tell.Given as goal

abbrev pub invariant-loop-at : goal.invariant-loop-at
invariant-loop-at l = record {
  told : (k : ℕ) → k < l.at → slice_get l.to k ≡ slice_get (map (effect_told l.status) l.effects) k;
  kept : (k : ℕ) → l.at ≤ k → slice_get l.to k ≡ slice_get l.fn.to k;
}
