use Rattle.sharing.proofs.managers.pieces_run_out.Given as goal

-- what the seed has
abbrev pub ghosts-crowded-B-Ledger : goal.ghosts-crowded-B-Ledger
ghosts-crowded-B-Ledger g a = record { name = a.seed.name; parts = a.seed.shares }

abbrev pub ghosts-crowded-B-Owner : goal.ghosts-crowded-B-Owner
ghosts-crowded-B-Owner g a = record {
  shares = a.seed.shares;
  room = a.seed.room;
  frames = a.seed.frames;
  mode = a.seed.caching;
  rows = a.seed.rows;
  most = a.seed.most;
  handing = a.seed.handing;
}
