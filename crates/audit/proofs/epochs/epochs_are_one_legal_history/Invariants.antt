use Rattle.audit.proofs.epochs.epochs_are_one_legal_history.Given as goal

-- what the seed has
abbrev pub ghosts-handed_on-B-Ledger : goal.ghosts-handed_on-B-Ledger
ghosts-handed_on-B-Ledger g a = record { name = a.seed.name; parts = a.seed.shares }

abbrev pub ghosts-handed_on-B-Owner : goal.ghosts-handed_on-B-Owner
ghosts-handed_on-B-Owner g a = record {
  shares = a.seed.shares;
  room = a.seed.room;
  frames = a.seed.frames;
  mode = a.seed.caching;
  rows = a.seed.rows;
  most = a.seed.most;
  handing = a.seed.handing;
}
