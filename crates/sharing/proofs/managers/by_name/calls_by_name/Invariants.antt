use Rattle.sharing.proofs.managers.by_name.calls_by_name.Given as goal

-- what the seed has
abbrev pub ghosts-named-B-Ledger : goal.ghosts-named-B-Ledger
ghosts-named-B-Ledger g a = record { name = a.seed.name; parts = a.seed.shares }

abbrev pub ghosts-named-B-Owner : goal.ghosts-named-B-Owner
ghosts-named-B-Owner g a = record {
  shares = a.seed.shares;
  room = a.seed.room;
  frames = a.seed.frames;
  mode = a.seed.caching;
  rows = a.seed.rows;
  most = a.seed.most;
  handing = a.seed.handing;
}
