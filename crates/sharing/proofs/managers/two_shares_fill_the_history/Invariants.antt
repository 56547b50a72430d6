use Rattle.sharing.proofs.managers.two_shares_fill_the_history.Given as goal

-- what the seed has
abbrev pub ghosts-filled_by_two-B-Ledger : goal.ghosts-filled_by_two-B-Ledger
ghosts-filled_by_two-B-Ledger g a = record { name = a.seed.name; parts = a.seed.shares }

abbrev pub ghosts-filled_by_two-B-Owner : goal.ghosts-filled_by_two-B-Owner
ghosts-filled_by_two-B-Owner g a = record {
  shares = a.seed.shares;
  room = a.seed.room;
  frames = a.seed.frames;
  mode = a.seed.caching;
  rows = a.seed.rows;
  most = a.seed.most;
  handing = a.seed.handing;
}
