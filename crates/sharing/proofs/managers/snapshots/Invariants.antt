use Rattle.sharing.proofs.managers.snapshots.Given as goal

-- what the seed has
abbrev pub ghosts-told_at_moments-B-Ledger : goal.ghosts-told_at_moments-B-Ledger
ghosts-told_at_moments-B-Ledger g a = record { name = a.seed.name; parts = a.seed.shares }

abbrev pub ghosts-told_at_moments-B-Owner : goal.ghosts-told_at_moments-B-Owner
ghosts-told_at_moments-B-Owner g a = record {
  shares = a.seed.shares;
  room = a.seed.room;
  frames = a.seed.frames;
  mode = a.seed.caching;
  rows = a.seed.rows;
  most = a.seed.most;
  handing = a.seed.handing;
}
