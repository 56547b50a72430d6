use Rattle.std.proofs.Common.{◌≡◌, ◌-◌, suc, [], ◌∷◌, ◌++◌, sym, ap, subst, ◌∙◌, arith}
use Rattle.tables.specs.Tree.{index_in}
use Rattle.tables.specs.Pool.{IsWrite, moment_of, occurs}
use Rattle.tables.proofs.maps.AddedTable.{AddsTable, adds_table}
use Rattle.tables.proofs.spelled.Stays.{absent_blank}
use Rattle.tables.proofs.trails.Fills.{fills_word}
use Rattle.tables.proofs.walks.Levels.{root_in_level, root_taken_level}
use Rattle.tables.proofs.mapping.add_table.Goals as goal
use Rattle.tables.proofs.mapping.add_table.Goals.{After-write}

pub write-requires-clause-frame : goal.write-requires-clause-frame
write-requires-clause-frame c =
    omega (
      arith,
      root_in_level c.args.pool.now (c.args.level - 1) c.args.table c.args.level (omega arith) c.requires.tree,
      c.take-below.ensures.frames,
    )

pub write-requires-clause-taken : goal.write-requires-clause-taken
write-requires-clause-taken c =
    omega (
      arith,
      root_taken_level c.args.pool.now (c.args.level - 1) c.args.table c.args.level (omega arith) c.requires.tree,
      c.take-below.ensures.free c.args.table,
    )

added : (c : After-write)
    → AddsTable c.args.pool.now c.write.new.self c.args.level (suc (c.args.level - 2)) c.args.table c.args.index c.take-below.result
added c =
    adds_table c.args.pool.now c.take-below.new.self c.write.new.self c.args.level (c.args.level - 2) c.args.table c.args.index
    c.take-below.result c.encode.result (omega arith) c.requires.tree c.requires.index c.requires.absent
    (c.encode.ensures.looked c.args.level (c.requires.low, c.requires.high)) c.take-below.ensures.free c.take-below.ensures.zeroed
    c.take-below.ensures.words c.take-below.ensures.frames c.write.ensures.wrote c.write.ensures.free c.write.ensures.frames

pub returns-clause-moves : goal.returns-clause-moves
returns-clause-moves c = (added (goal.at.returns-clause-moves c).After-write).moves

pub returns-clause-leaves : goal.returns-clause-leaves
returns-clause-leaves c = (added (goal.at.returns-clause-leaves c).After-write).leaves

pub returns-clause-names : goal.returns-clause-names
returns-clause-names c = (added (goal.at.returns-clause-names c).After-write).names

pub returns-clause-zeroed : goal.returns-clause-zeroed
returns-clause-zeroed c = (added (goal.at.returns-clause-zeroed c).After-write).zeroed

pub returns-clause-maps : goal.returns-clause-maps
returns-clause-maps c from to some is =
    let below : suc (c.args.level - 2) ≡ c.args.level - 1 = omega arith in
    (added (goal.at.returns-clause-maps c).After-write).maps from to some (subst (λ l. index_in l from ≡ c.args.index) (sym below) is)

pub returns-clause-spelled : goal.returns-clause-spelled
returns-clause-spelled c = (added (goal.at.returns-clause-spelled c).After-write).spelled

pub returns-clause-order : goal.returns-clause-order
returns-clause-order c s =
    fills_word c.args.pool.now c.write.new.self c.args.table c.args.index c.encode.result
    (c.write.ensures.trail ∙ ap (λ ms. ms ++ moment_of c.write.new.self ∷ []) c.take-below.ensures.trail)
    (λ f. omega (arith, ap (occurs f) c.write.ensures.free, c.take-below.ensures.free f))
    (subst (λ ws. IsWrite ws c.write.new.self.words c.args.table c.args.index c.encode.result) c.take-below.ensures.words
    c.write.ensures.wrote)
    (absent_blank c.args.pool.now.words c.args.level (c.args.level - 1) c.args.table c.args.index (omega arith) s c.requires.index
    c.requires.absent)
