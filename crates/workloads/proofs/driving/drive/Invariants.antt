use Rattle.workloads.proofs.driving.drive.Given as goal

-- what the seed has
abbrev pub ghosts-drive_owned-B-Ledger : goal.ghosts-drive_owned-B-Ledger
ghosts-drive_owned-B-Ledger g a = record { name = a.seed.name; parts = a.seed.shares }

abbrev pub ghosts-drive_owned-B-Owner : goal.ghosts-drive_owned-B-Owner
ghosts-drive_owned-B-Owner g a = record {
  shares = a.seed.shares;
  room = a.seed.room;
  frames = a.seed.frames;
  mode = a.seed.caching;
  rows = a.seed.rows;
  most = a.seed.most;
  handing = a.seed.handing;
}
