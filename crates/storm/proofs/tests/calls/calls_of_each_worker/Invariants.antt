use Rattle.storm.proofs.tests.calls.calls_of_each_worker.Given as goal

-- what the seed has
abbrev pub ghosts-made_by_each-B-Ledger : goal.ghosts-made_by_each-B-Ledger
ghosts-made_by_each-B-Ledger g a = record { name = a.seed.name; parts = a.seed.shares }

abbrev pub ghosts-made_by_each-B-Owner : goal.ghosts-made_by_each-B-Owner
ghosts-made_by_each-B-Owner g a = record {
  shares = a.seed.shares;
  room = a.seed.room;
  frames = a.seed.frames;
  mode = a.seed.caching;
  rows = a.seed.rows;
  most = a.seed.most;
  handing = a.seed.handing;
}
