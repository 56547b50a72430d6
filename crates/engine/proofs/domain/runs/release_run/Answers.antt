use Rattle.engine.proofs.flushes.Together.{released_run, run_of}
use Rattle.engine.proofs.domain.runs.release_run.Goals as goal

pub release-requires : goal.release-requires
release-requires c =
    run_of c.args.pool.now c.args.space.now c.args.records.now c.args.range c.requires.can c.requires.some c.requires.range

pub returns : goal.returns
returns c =
    released_run c.args.pool.now c.give_back_all.new.pool c.args.space.now c.release.new.self c.args.records.now c.args.range
    c.requires.can c.requires.some c.requires.range c.release.ensures.space.1 c.release.ensures.freed
    c.release.ensures.retirable
    (record {
      free = c.give_back_all.ensures.free;
      more = c.give_back_all.ensures.more;
      words = c.give_back_all.ensures.words;
      trail = c.give_back_all.ensures.trail;
      frames = c.give_back_all.ensures.frames;
    })
