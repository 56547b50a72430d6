use Rattle.piece_tree.specs.declared.piece.PageState.TheVariants.{Retired}
use Rattle.iova.specs.Pieces.{piece_of}
use Rattle.iova.proofs.Freed.{one_run}
use Rattle.engine.proofs.domain.release_by.Goals as goal

pub release-requires : goal.release-requires
release-requires c = one_run (piece_of c.args.retired.now.range Retired) c.args.space.now.pieces c.requires.can.piece

pub give_back-requires-clause-once : goal.give_back-requires-clause-once
give_back-requires-clause-once c = rw (c.frames.ensures.all) c.requires.can.once

pub give_back-requires-clause-within : goal.give_back-requires-clause-within
give_back-requires-clause-within c = rw (c.frames.ensures.all) c.requires.can.within

pub returns-clause-released : goal.returns-clause-released
returns-clause-released c = record {
  frees = c.release.ensures.one c.requires.can.piece;
  is_space = c.release.ensures.space.1;
  free = rw (← c.frames.ensures.all) c.give_back.ensures.free;
  words = c.give_back.ensures.words;
  trail = c.give_back.ensures.trail;
  frames = c.give_back.ensures.frames;
  is_pool = c.give_back.ensures.pool;
}
