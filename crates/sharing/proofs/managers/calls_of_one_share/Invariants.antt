use Rattle.sharing.proofs.managers.calls_of_one_share.Given as goal

-- what the seed has
abbrev pub ghosts-called_by_one-B-Ledger : goal.ghosts-called_by_one-B-Ledger
ghosts-called_by_one-B-Ledger g a = record { name = a.seed.name; parts = a.seed.shares }

abbrev pub ghosts-called_by_one-B-Owner : goal.ghosts-called_by_one-B-Owner
ghosts-called_by_one-B-Owner g a = record {
  shares = a.seed.shares;
  room = a.seed.room;
  frames = a.seed.frames;
  mode = a.seed.caching;
  rows = a.seed.rows;
  most = a.seed.most;
  handing = a.seed.handing;
}
