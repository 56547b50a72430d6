use Rattle.sharing.proofs.managers.unit_thread.a_thread_of_the_unit.Given as goal

-- what the seed has
abbrev pub ghosts-stepped_by_a_thread-B-Ledger : goal.ghosts-stepped_by_a_thread-B-Ledger
ghosts-stepped_by_a_thread-B-Ledger g a = record { name = a.seed.name; parts = a.seed.shares }

abbrev pub ghosts-stepped_by_a_thread-B-Owner : goal.ghosts-stepped_by_a_thread-B-Owner
ghosts-stepped_by_a_thread-B-Owner g a = record {
  shares = a.seed.shares;
  room = a.seed.room;
  frames = a.seed.frames;
  mode = a.seed.caching;
  rows = a.seed.rows;
  most = a.seed.most;
  handing = a.seed.handing;
}
