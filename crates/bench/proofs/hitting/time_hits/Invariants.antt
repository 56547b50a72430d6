use Rattle.bench.proofs.hitting.time_hits.Given as goal

-- what the seed has
abbrev pub ghosts-time_owned-B-Ledger : goal.ghosts-time_owned-B-Ledger
ghosts-time_owned-B-Ledger g a = record { name = a.seed.name; parts = a.seed.shares }

abbrev pub ghosts-time_owned-B-Owner : goal.ghosts-time_owned-B-Owner
ghosts-time_owned-B-Owner g a = record {
  shares = a.seed.shares;
  room = a.seed.room;
  frames = a.seed.frames;
  mode = a.seed.caching;
  rows = a.seed.rows;
  most = a.seed.most;
  handing = a.seed.handing;
}
