use Rattle.std.proofs.Common.{◌≡◌, ℕ, ◌+◌, ◌-◌, ◌/◌, ◌≤◌, ◌++◌, [], ◌∷◌, ◌∙◌, ap, arith, length, subst, sym}
use Rattle.std.proofs.lemmas.List.{append_assoc, append-nil, length-append}
use Rattle.std.proofs.lemmas.List.Elements.{All-push}
use Rattle.tables.proofs.sums.OverSpans.{div_mono}
use Rattle.tables.specs.declared.entries.TheConstants.{TABLE_ENTRIES}
use Rattle.engine.specs.Domains.{domain_at}
use Rattle.driven.specs.Effects.{IsForTables}
use Rattle.driven.proofs.Brought.{none_for_tables}
use Rattle.driven.proofs.Levels.{only_none, only_part, told_none, told_nothing, told_part}
use Rattle.driven.proofs.telling.bring_level.Goals as goal
use Rattle.driven.proofs.telling.bring_level.Goals.{in-Some, in_default}

pub loop-table-init : goal.loop-table-init
loop-table-init c = (
  [],
  (
    sym (append-nil c.args.effects.now.items),
    omega arith,
    none_for_tables,
    told_none c.args.state.now.pool (domain_at c.args.state.now.domains c.args.domain) c.args.level c.args.first c.args.last
        c.span_of-width.result c.requires.level.0 c.span_of-width.ensures.exact,
    only_none c.args.state.now.pool (domain_at c.args.state.now.domains c.args.domain) c.args.level c.args.first c.args.last
        c.span_of-width.result c.requires.level.0 c.span_of-width.ensures.exact,
  ),
)

-- the table of the turn lies where both bounds say
bounds : (c : goal.Joined-table_at) → c.args.first / c.span_of-width.result / TABLE_ENTRIES ≤ c.loop-table.table
    → (c.max-from.result ≤ c.min-to.result) × (c.max-from.result / TABLE_ENTRIES ≡ c.loop-table.table)
    × ((e : ℕ) → c.args.first / c.span_of-width.result ≤ e → e / TABLE_ENTRIES ≡ c.loop-table.table → c.max-from.result ≤ e)
    × ((e : ℕ) → e ≤ c.args.last / c.span_of-width.result → e / TABLE_ENTRIES ≡ c.loop-table.table → e ≤ c.min-to.result)
bounds c begun =
    let few : c.args.first / c.span_of-width.result ≤ c.args.last / c.span_of-width.result =
    div_mono c.args.first c.args.last c.span_of-width.result c.span_of-width.ensures.some c.requires.pages in (
      omega (arith, c.max-from.ensures, c.min-to.ensures, c.loop-table-test.true, begun, few),
      omega (arith, c.max-from.ensures, begun),
      λ e more in_table. omega (arith, c.max-from.ensures, more, in_table),
      λ e less in_table. omega (arith, c.min-to.ensures, less, in_table),
    )

pub loop-table-preserved : goal.loop-table-preserved
loop-table-preserved c =
    let (more, (items, few, for_memory, told, only)) = c.loop-table.invariant in
    let b = bounds c (omega (arith, few)) in
    elim c.match-table_at.branch [
      | in-Some w ↦ (
        more ++ w.part.result ∷ [],
        (
          ap (λ v. v.items) w.effects-is ∙ w.push.ensures.items ∙ ap (λ xs. xs ++ w.part.result ∷ []) items
              ∙ append_assoc c.args.effects.now.items more (w.part.result ∷ []),
          omega (arith, few, length-append more (w.part.result ∷ [])),
          All-push IsForTables more w.part.result for_memory w.part.ensures.0,
          told_part c.args.state.now.pool (domain_at c.args.state.now.domains c.args.domain) c.args.level c.args.first c.args.last
              c.span_of-width.result c.requires.level.0 c.span_of-width.ensures.exact more c.loop-table.table c.max-from.result
              c.min-to.result told b.0 b.1 b.2 b.3 w.in-Some.frame w.part.result (sym c.table_at.ensures ∙ w.in-Some.is) w.part.ensures,
          only_part c.args.state.now.pool (domain_at c.args.state.now.domains c.args.domain) c.args.level c.args.first c.args.last
              c.span_of-width.result c.requires.level.0 c.span_of-width.ensures.exact more c.max-from.result c.min-to.result
              w.in-Some.frame w.part.result only c.requires.pages (omega (arith, c.max-from.ensures))
              (omega (arith, b.0, c.min-to.ensures)) (sym c.table_at.ensures ∙ w.in-Some.is) w.part.ensures,
        ),
      )
      | in_default w ↦ (
        more,
        (
          ap (λ v. v.items) w.effects-is ∙ items,
          omega (arith, few),
          for_memory,
          told_nothing c.args.state.now.pool (domain_at c.args.state.now.domains c.args.domain) c.args.level c.args.first c.args.last
              c.span_of-width.result c.requires.level.0 c.span_of-width.ensures.exact more c.loop-table.table c.max-from.result
              c.min-to.result told b.0 b.1 b.2 b.3 (sym c.table_at.ensures ∙ w.in_default.is),
          only,
        ),
      )
    ]

pub returns : goal.returns
returns c =
    let (more, (items, few, for_memory, told, only)) = c.loop-table.invariant in
    let within : c.args.first / c.span_of-width.result ≤ c.args.last / c.span_of-width.result =
    div_mono c.args.first c.args.last c.span_of-width.result c.span_of-width.ensures.some c.requires.pages in
    let tables : c.args.first / c.span_of-width.result / TABLE_ENTRIES ≤ c.args.last / c.span_of-width.result / TABLE_ENTRIES =
    div_mono (c.args.first / c.span_of-width.result) (c.args.last / c.span_of-width.result) TABLE_ENTRIES (omega arith) within in (
      more,
      items,
      subst (λ n. length more ≤ n)
          (ap (λ w. c.args.last / w / TABLE_ENTRIES + 1 - c.args.first / w / TABLE_ENTRIES) c.span_of-width.ensures.exact)
          (omega (arith, few, tables, c.loop-table.auto.table-end (omega (arith, tables)))),
      record {
        for_memory = for_memory;
        only = only;
        brings = λ p f low high at.
            let last : p / c.span_of-width.result ≤ c.args.last / c.span_of-width.result =
            div_mono p c.args.last c.span_of-width.result c.span_of-width.ensures.some high in
            told p f low high
            (omega (
              arith,
              c.loop-table-test.false,
              div_mono (p / c.span_of-width.result) (c.args.last / c.span_of-width.result) TABLE_ENTRIES (omega arith) last,
            )) at;
      },
    )
