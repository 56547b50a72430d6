use Rattle.sharing.proofs.managers.quiet_thread.memory_is_used_again_when_the_device_is_quiet.Given as goal

-- what the seed has
abbrev pub ghosts-device_and_driver-B-Ledger : goal.ghosts-device_and_driver-B-Ledger
ghosts-device_and_driver-B-Ledger g a = record { name = a.seed.name; parts = a.seed.shares }

abbrev pub ghosts-device_and_driver-B-Owner : goal.ghosts-device_and_driver-B-Owner
ghosts-device_and_driver-B-Owner g a = record {
  shares = a.seed.shares;
  room = a.seed.room;
  frames = a.seed.frames;
  mode = a.seed.caching;
  rows = a.seed.rows;
  most = a.seed.most;
  handing = a.seed.handing;
}
