use Rattle.sharing.proofs.managers.emptied.calls_at_a_full_history.Given as goal

-- what the seed has
abbrev pub ghosts-filled_up-B-Ledger : goal.ghosts-filled_up-B-Ledger
ghosts-filled_up-B-Ledger g a = record { name = a.seed.name; parts = a.seed.shares }

abbrev pub ghosts-filled_up-B-Owner : goal.ghosts-filled_up-B-Owner
ghosts-filled_up-B-Owner g a = record {
  shares = a.seed.shares;
  room = a.seed.room;
  frames = a.seed.frames;
  mode = a.seed.caching;
  rows = a.seed.rows;
  most = a.seed.most;
  handing = a.seed.handing;
}
