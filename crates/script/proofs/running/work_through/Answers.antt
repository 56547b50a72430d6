use Rattle.script.proofs.running.work_through.Goals as goal

pub returns-clause-written : goal.returns-clause-written
returns-clause-written g c =
    rw (c.requires.named.frames_are, c.requires.named.most_is, c.requires.named.mode_is) c.work_on.ensures.written
