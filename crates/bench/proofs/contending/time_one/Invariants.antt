use Rattle.bench.proofs.contending.time_one.Given as goal

-- what the seed has
abbrev pub ghosts-time_alone-B-Ledger : goal.ghosts-time_alone-B-Ledger
ghosts-time_alone-B-Ledger g a = record { name = a.seed.name; parts = a.seed.shares }

abbrev pub ghosts-time_alone-B-Owner : goal.ghosts-time_alone-B-Owner
ghosts-time_alone-B-Owner g a = record {
  shares = a.seed.shares;
  room = a.seed.room;
  frames = a.seed.frames;
  mode = a.seed.caching;
  rows = a.seed.rows;
  most = a.seed.most;
  handing = a.seed.handing;
}
