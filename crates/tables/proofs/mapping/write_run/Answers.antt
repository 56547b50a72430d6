use Rattle.std.proofs.Common.{◌≡◌, ◌+◌, ◌-◌, ap, ◌∙◌, arith}
use Rattle.dmatypes.specs.Rights.{bits_of}
use Rattle.vtdbits.specs.Translation.{target}
use Rattle.vtdbits.specs.declared.entry.SsEntry.TheVariants.{Leaf}
use Rattle.tables.specs.Extents.{leaf_at}
use Rattle.tables.proofs.maps.Runs.{run_of}
use Rattle.tables.proofs.mapping.write_run.Goals as goal

pub returns-clause-run : goal.returns-clause-run
returns-clause-run c =
    run_of c.args.pool.now.words c.write_leaves.new.self.words c.args.table c.args.extent.from c.args.extent.to (leaf_at c.args.extent)
    c.args.extent.some c.args.extent.one_span (λ k k_in.
    let page : c.args.extent.frame + k ≡ c.args.extent.frame + (c.args.extent.from + k - c.args.extent.from) = omega arith in
    c.write_leaves.ensures.leaves k k_in ∙ ap (λ n. Leaf (target n (bits_of c.args.extent.rights))) page) c.write_leaves.ensures.rest
