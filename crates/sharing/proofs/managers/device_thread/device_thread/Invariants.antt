use Rattle.sharing.proofs.managers.device_thread.device_thread.Given as goal

-- what the seed has
abbrev pub ghosts-device_beside_driver-B-Ledger : goal.ghosts-device_beside_driver-B-Ledger
ghosts-device_beside_driver-B-Ledger g a = record { name = a.seed.name; parts = a.seed.shares }

abbrev pub ghosts-device_beside_driver-B-Owner : goal.ghosts-device_beside_driver-B-Owner
ghosts-device_beside_driver-B-Owner g a = record {
  shares = a.seed.shares;
  room = a.seed.room;
  frames = a.seed.frames;
  mode = a.seed.caching;
  rows = a.seed.rows;
  most = a.seed.most;
  handing = a.seed.handing;
}
