use Rattle.std.proofs.Common.{◌≡◌, ◌%◌, ◌+◌, ◌-◌, ap, ◌∙◌, arith}
use Rattle.dmatypes.specs.declared.page.TheConstants.{SPAN_PAGES}
use Rattle.vtdbits.specs.Entry.{look}
use Rattle.vtdbits.specs.declared.entry.SsEntry.TheVariants.{Absent}
use Rattle.vtdbits.proofs.Entries.{look-zero}
use Rattle.tables.specs.Pool.{word}
use Rattle.tables.proofs.maps.Runs.{run_of}
use Rattle.tables.proofs.trails.Steps.{clears_word, clears_words}
use Rattle.tables.proofs.unmapping.clear_run.Goals as goal

pub returns-then-to-from-eq1-clause-run : goal.returns-then-to-from-eq1-clause-run
returns-then-to-from-eq1-clause-run c =
    run_of c.args.pool.now.words c.write.new.self.words c.args.table c.args.from c.args.to (λ p. Absent)
    c.requires.some c.requires.one_span
    (λ k k_in.
    let first : c.args.from % SPAN_PAGES + k ≡ c.args.from % SPAN_PAGES = omega arith in
    ap (λ i. look 1 (word c.write.new.self.words c.args.table i)) first ∙ ap (look 1) c.write.ensures.wrote.0 ∙ look-zero 1)
    (λ f k k_in other. c.write.ensures.wrote.1 f k k_in (λ e at. other e (omega arith) (omega arith)))

pub returns-else-to-from-eq1-clause-run : goal.returns-else-to-from-eq1-clause-run
returns-else-to-from-eq1-clause-run c =
    run_of c.args.pool.now.words c.clear.new.self.words c.args.table c.args.from c.args.to (λ p. Absent)
    c.requires.some c.requires.one_span (λ k k_in. ap (look 1) (c.clear.ensures.cleared k k_in) ∙ look-zero 1) c.clear.ensures.rest

pub returns-else-to-from-eq1-clause-zeroed : goal.returns-else-to-from-eq1-clause-zeroed
returns-else-to-from-eq1-clause-zeroed c p low high =
    let place : p % SPAN_PAGES ≡ c.args.from % SPAN_PAGES + (p - c.args.from) = omega (arith, c.requires.one_span) in
    ap (λ k. word c.clear.new.self.words c.args.table k) place ∙ c.clear.ensures.cleared (p - c.args.from) (omega arith)

pub returns-then-to-from-eq1-clause-order : goal.returns-then-to-from-eq1-clause-order
returns-then-to-from-eq1-clause-order c =
    clears_word c.args.pool.now c.write.new.self c.args.table _ c.write.ensures.trail c.write.ensures.free c.write.ensures.wrote

pub returns-else-to-from-eq1-clause-order : goal.returns-else-to-from-eq1-clause-order
returns-else-to-from-eq1-clause-order c =
    clears_words c.args.pool.now c.clear.new.self c.args.table _ _ c.clear.ensures.trail c.clear.ensures.free
    c.clear.ensures.rest c.clear.ensures.cleared
