use Rattle.engine.proofs.domain.free.Goals as goal

pub give_back-requires-clause-once : goal.give_back-requires-clause-once
give_back-requires-clause-once c = rw (c.frames.ensures.all) c.requires.can.once

pub give_back-requires-clause-within : goal.give_back-requires-clause-within
give_back-requires-clause-within c = rw (c.frames.ensures.all) c.requires.can.within

pub returns : goal.returns
returns c = record {
  frees = c.free_live.ensures.freed;
  is_space = c.free_live.ensures.space.1;
  free = rw (← c.frames.ensures.all) c.give_back.ensures.free;
  words = c.give_back.ensures.words;
  trail = c.give_back.ensures.trail;
  frames = c.give_back.ensures.frames;
  is_pool = c.give_back.ensures.pool;
}
