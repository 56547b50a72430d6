use Rattle.sharing.proofs.managers.shown.shares_of_a_manager.Given as goal

-- what the seed has
abbrev pub ghosts-shown-B-Ledger : goal.ghosts-shown-B-Ledger
ghosts-shown-B-Ledger g a = record { name = a.seed.name; parts = a.seed.shares }

abbrev pub ghosts-shown-B-Owner : goal.ghosts-shown-B-Owner
ghosts-shown-B-Owner g a = record {
  shares = a.seed.shares;
  room = a.seed.room;
  frames = a.seed.frames;
  mode = a.seed.caching;
  rows = a.seed.rows;
  most = a.seed.most;
  handing = a.seed.handing;
}
