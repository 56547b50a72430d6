use Rattle.audit.proofs.hits.hits_stand_in_the_history.Given as goal

-- what the seed has
abbrev pub ghosts-audited-B-Ledger : goal.ghosts-audited-B-Ledger
ghosts-audited-B-Ledger g a = record { name = a.seed.name; parts = a.seed.shares }

abbrev pub ghosts-audited-B-Owner : goal.ghosts-audited-B-Owner
ghosts-audited-B-Owner g a = record {
  shares = a.seed.shares;
  room = a.seed.room;
  frames = a.seed.frames;
  mode = a.seed.caching;
  rows = a.seed.rows;
  most = a.seed.most;
  handing = a.seed.handing;
}
