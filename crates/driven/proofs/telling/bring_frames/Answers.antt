use Rattle.std.proofs.Common.{◌≡◌, ◌*◌, [], ◌∷◌, ◌++◌, ◌∙◌, ap, arith, refl, subst}
use Rattle.std.proofs.lemmas.List.{append_assoc}
use Rattle.std.specs.Prelude.{IfSome}
use Rattle.tables.specs.declared.entries.TheConstants.{TABLE_ENTRIES}
use Rattle.driven.specs.declared.effect.Effect.TheVariants.{Barrier, Words}
use Rattle.driven.specs.Telling.{BringsFrames}
use Rattle.driven.proofs.Brought.{frames}
use Rattle.driven.proofs.telling.bring_frames.Goals as goal

pub returns : goal.returns
returns c = (
  Words c.unwrap.result 0 (TABLE_ENTRIES * c.table_frames.result) ∷ Barrier ∷ [],
  c.push-2.ensures.items ∙ ap (λ es. es ++ Barrier ∷ []) c.push.ensures.items
      ∙ append_assoc c.args.effects.now.items (Words c.unwrap.result 0 (TABLE_ENTRIES * c.table_frames.result) ∷ []) (Barrier ∷ []),
  omega arith,
  subst (λ n. BringsFrames n (Words c.unwrap.result 0 (TABLE_ENTRIES * c.table_frames.result) ∷ Barrier ∷ [])) c.table_frames.ensures.count
      (frames c.table_frames.result c.unwrap.result (Words c.unwrap.result 0 (TABLE_ENTRIES * c.table_frames.result))
      (subst (λ o. IfSome o (λ n. n ≡ 0)) c.unwrap.ensures c.new.ensures.value) refl),
)
