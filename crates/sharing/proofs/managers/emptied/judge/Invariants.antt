use Rattle.sharing.proofs.managers.emptied.judge.Given as goal

-- what the seed has
abbrev pub ghosts-judged-B-Ledger : goal.ghosts-judged-B-Ledger
ghosts-judged-B-Ledger g a = record { name = a.seed.name; parts = a.seed.shares }

abbrev pub ghosts-judged-B-Owner : goal.ghosts-judged-B-Owner
ghosts-judged-B-Owner g a = record {
  shares = a.seed.shares;
  room = a.seed.room;
  frames = a.seed.frames;
  mode = a.seed.caching;
  rows = a.seed.rows;
  most = a.seed.most;
  handing = a.seed.handing;
}
