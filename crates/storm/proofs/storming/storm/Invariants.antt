use Rattle.storm.proofs.storming.storm.Given as goal

-- what the seed has
abbrev pub ghosts-storm_on-B-Ledger : goal.ghosts-storm_on-B-Ledger
ghosts-storm_on-B-Ledger g a = record { name = a.seed.name; parts = a.seed.shares }

abbrev pub ghosts-storm_on-B-Owner : goal.ghosts-storm_on-B-Owner
ghosts-storm_on-B-Owner g a = record {
  shares = a.seed.shares;
  room = a.seed.room;
  frames = a.seed.frames;
  mode = a.seed.caching;
  rows = a.seed.rows;
  most = a.seed.most;
  handing = a.seed.handing;
}
