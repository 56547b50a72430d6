use Rattle.std.proofs.Common.{◌≡◌, ◌+◌, [], ◌∷◌, ◌++◌, ◌∙◌, ap, arith, length, List}
use Rattle.std.proofs.lemmas.List.{append_assoc, length-append}
use Rattle.engine.specs.Domains.{domain_at}
use Rattle.driven.specs.declared.effect.Effect.{Effect}
use Rattle.driven.specs.declared.effect.Effect.TheVariants.{Barrier}
use Rattle.driven.proofs.Brought.{upper}
use Rattle.driven.proofs.Levels.{two_tables}
use Rattle.driven.proofs.telling.bring_upper.Goals as goal

-- how many are told with those of a level
told : (before after more : List Effect) → after ≡ before ++ more → length after ≡ length before + length more
told before after more is = ap length is ∙ length-append before more

pub bring_level-requires-clause-room : goal.bring_level-requires-clause-room
bring_level-requires-clause-room c =
    omega (arith, c.requires.room, c.push.ensures.len, two_tables 2 c.args.first c.args.last (omega arith) (omega arith) c.requires.pages.1)

pub bring_level-requires-2-clause-room : goal.bring_level-requires-2-clause-room
bring_level-requires-2-clause-room c =
    let (x, items, few, brings) = c.bring_level.ensures in
    omega (
      arith,
      c.requires.room,
      c.push.ensures.len,
      told c.push.new.self.items c.bring_level.new.effects.items x items,
      few,
      two_tables 2 c.args.first c.args.last (omega arith) (omega arith) c.requires.pages.1,
      two_tables 3 c.args.first c.args.last (omega arith) (omega arith) c.requires.pages.1,
    )

pub bring_level-requires-3-clause-room : goal.bring_level-requires-3-clause-room
bring_level-requires-3-clause-room c =
    let (x, items, few, brings) = c.bring_level.ensures in
    let (y, items', few', brings') = c.bring_level-2.ensures in
    omega (
      arith,
      c.requires.room,
      c.push.ensures.len,
      told c.push.new.self.items c.bring_level.new.effects.items x items,
      told c.bring_level.new.effects.items c.bring_level-2.new.effects.items y items',
      few,
      few',
      two_tables 2 c.args.first c.args.last (omega arith) (omega arith) c.requires.pages.1,
      two_tables 3 c.args.first c.args.last (omega arith) (omega arith) c.requires.pages.1,
      two_tables 4 c.args.first c.args.last (omega arith) (omega arith) c.requires.pages.1,
    )

pub push-requires-2 : goal.push-requires-2
push-requires-2 c =
    let (x, items, few, brings) = c.bring_level.ensures in
    let (y, items', few', brings') = c.bring_level-2.ensures in
    let (z, items'', few'', brings'') = c.bring_level-3.ensures in (
      omega arith,
      omega (
        arith,
        c.requires.room,
        c.push.ensures.len,
        told c.push.new.self.items c.bring_level.new.effects.items x items,
        told c.bring_level.new.effects.items c.bring_level-2.new.effects.items y items',
        told c.bring_level-2.new.effects.items c.bring_level-3.new.effects.items z items'',
        few,
        few',
        few'',
        two_tables 2 c.args.first c.args.last (omega arith) (omega arith) c.requires.pages.1,
        two_tables 3 c.args.first c.args.last (omega arith) (omega arith) c.requires.pages.1,
        two_tables 4 c.args.first c.args.last (omega arith) (omega arith) c.requires.pages.1,
      ),
    )

pub returns : goal.returns
returns c =
    let (x, items, few, brings) = c.bring_level.ensures in
    let (y, items', few', brings') = c.bring_level-2.ensures in
    let (z, items'', few'', brings'') = c.bring_level-3.ensures in
    let old : List Effect = c.args.effects.now.items in
    let b : List Effect = Barrier ∷ [] in (
      ((b ++ x) ++ y) ++ z ++ b,
      c.push-2.ensures.items
          ∙ ap (λ es. es ++ b)
          (items'' ∙ ap (λ es. es ++ z) (items' ∙ ap (λ es. es ++ y) (items ∙ ap (λ es. es ++ x) c.push.ensures.items
          ∙ append_assoc old b x) ∙ append_assoc old (b ++ x) y) ∙ append_assoc old ((b ++ x) ++ y) z)
          ∙ append_assoc old (((b ++ x) ++ y) ++ z) b,
      omega (
        arith,
        few,
        few',
        few'',
        length-append (((b ++ x) ++ y) ++ z) b,
        length-append ((b ++ x) ++ y) z,
        length-append (b ++ x) y,
        length-append b x,
        two_tables 2 c.args.first c.args.last (omega arith) (omega arith) c.requires.pages.1,
        two_tables 3 c.args.first c.args.last (omega arith) (omega arith) c.requires.pages.1,
        two_tables 4 c.args.first c.args.last (omega arith) (omega arith) c.requires.pages.1,
      ),
      upper c.args.state.now.pool (domain_at c.args.state.now.domains c.args.domain) c.args.first c.args.last x y z brings brings' brings'',
    )
