use Rattle.uses.proofs.main.Given as goal

-- what the seed has
abbrev pub ghosts-two_drivers-B-Ledger : goal.ghosts-two_drivers-B-Ledger
ghosts-two_drivers-B-Ledger g a = record { name = a.seed.name; parts = a.seed.shares }

abbrev pub ghosts-two_drivers-B-Owner : goal.ghosts-two_drivers-B-Owner
ghosts-two_drivers-B-Owner g a = record {
  shares = a.seed.shares;
  room = a.seed.room;
  frames = a.seed.frames;
  mode = a.seed.caching;
  rows = a.seed.rows;
  most = a.seed.most;
  handing = a.seed.handing;
}
