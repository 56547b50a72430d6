use Rattle.sharing.proofs.managers.two_threads_share_a_manager.Given as goal

-- what the seed has
abbrev pub ghosts-shared_by_two-B-Ledger : goal.ghosts-shared_by_two-B-Ledger
ghosts-shared_by_two-B-Ledger g a = record { name = a.seed.name; parts = a.seed.shares }

abbrev pub ghosts-shared_by_two-B-Owner : goal.ghosts-shared_by_two-B-Owner
ghosts-shared_by_two-B-Owner g a = record {
  shares = a.seed.shares;
  room = a.seed.room;
  frames = a.seed.frames;
  mode = a.seed.caching;
  rows = a.seed.rows;
  most = a.seed.most;
  handing = a.seed.handing;
}
