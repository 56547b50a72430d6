use Rattle.std.proofs.Common.{◌≡◌, ◌<◌, ℕ, length, slice_index}
use Rattle.vtdm_c.specs.Base.{word_of}
use Rattle.vtdm_c.proofs.base.Base.copy_words.Given as goal

abbrev pub invariant-loop-at : goal.invariant-loop-at
invariant-loop-at l = record {
  room : length l.to ≡ length l.fn.to;
  copied : (k : ℕ) → k < l.at → slice_index l.to k ≡ word_of l.self.first (slice_index l.words k);
}
