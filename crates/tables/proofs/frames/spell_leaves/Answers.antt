use Rattle.std.proofs.Common.{◌≡◌, ◌+◌, ◌<◌, ◌∙◌, ap, subst, ⊎_elim, arith, get_or-set_same, get_or-set_other, slice_index_or, slice_set, length, length-set}
use Rattle.std.proofs.lemmas.Bool.{cases_lt}
use Rattle.dmatypes.specs.Rights.{bits_of}
use Rattle.vtdbits.specs.Entry.{Spells, look}
use Rattle.vtdbits.specs.Translation.{target}
use Rattle.vtdbits.specs.declared.entry.SsEntry.TheVariants.{Leaf}
use Rattle.vtdbits.proofs.Entries.{look-spelled}
use Rattle.tables.proofs.frames.spell_leaves.Goals as goal

pub loop-place-preserved : goal.loop-place-preserved
loop-place-preserved c =
    let i = c.loop-place.invariant in
    let k = c.loop-place.place-index in
    let words = c.loop-place.words in
    let word = c.loop-place.word in
    let inside : k < length words = omega (arith, c.loop-place-test.true, c.loop-place.auto.words) in
    let next : c.args.first + k + 1 ≡ c.args.first + (k + 1) = omega arith in
    let here = i.1 inside in (
      λ j below.
          ⊎_elim
          (λ before. ap (look 1) (get_or-set_other words k j word 0 (omega (arith, before))) ∙ i.0 j before)
          (λ from.
          subst (λ n. look 1 (slice_index_or (slice_set words k word) n 0) ≡ Leaf (target (c.args.first + n) (bits_of c.args.rights)))
          (omega (arith, below, from))
          (ap (look 1) (get_or-set_same words k word 0 inside) ∙ look-spelled 1 word (Leaf (target (c.args.first + k) (bits_of c.args.rights))) here))
          (cases_lt j k),
      λ more.
          subst (λ n. Spells 1 c.leaf_after-word.result (Leaf (target n (bits_of c.args.rights))))
          next
          (c.leaf_after-word.ensures (target (c.args.first + k) (bits_of c.args.rights)) here
          (omega (arith, c.requires.frames, more, length-set words k word, c.loop-place.auto.words))),
    )
