use Rattle.memory.proofs.tell_all.Given as goal

-- what the seed has
abbrev pub ghosts-tell_manager-B-Ledger : goal.ghosts-tell_manager-B-Ledger
ghosts-tell_manager-B-Ledger g a = record { name = a.seed.name; parts = a.seed.shares }

abbrev pub ghosts-tell_manager-B-Owner : goal.ghosts-tell_manager-B-Owner
ghosts-tell_manager-B-Owner g a = record {
  shares = a.seed.shares;
  room = a.seed.room;
  frames = a.seed.frames;
  mode = a.seed.caching;
  rows = a.seed.rows;
  most = a.seed.most;
  handing = a.seed.handing;
}
