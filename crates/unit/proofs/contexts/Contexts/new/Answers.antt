-- Each pair is 0, and spells the absent entry.
use Rattle.std.proofs.Common.{refl, ap}
use Rattle.std.specs.Option.{is_some}
use Rattle.std.proofs.lemmas.List.{get_or-replicate}
use Rattle.vtdbits.specs.Context.{context_of}
use Rattle.vtdbits.specs.declared.words.Words.{Words}
use Rattle.dmatypes.specs.declared.limits.TheConstants.{DEVICES}
use Rattle.unit.proofs.contexts.Contexts.new.Goals as goal

zero_words : Words
zero_words = record { low = 0; high = 0 }

pub invariant_of-result : goal.invariant_of-result
unfolding context_of zero_words
invariant_of-result c = record {
  devices = refl;
  spelled = λ k d below. ap (λ (w : Words). is_some (context_of w)) (get_or-replicate DEVICES k zero_words d below);
}

pub returns : goal.returns
unfolding context_of
returns c = refl
