use Rattle.script.proofs.running.work.Given as goal

-- what the seed has
abbrev pub ghosts-work_through-B-Ledger : goal.ghosts-work_through-B-Ledger
ghosts-work_through-B-Ledger g a = record { name = a.seed.name; parts = a.seed.shares }

abbrev pub ghosts-work_through-B-Owner : goal.ghosts-work_through-B-Owner
ghosts-work_through-B-Owner g a = record {
  shares = a.seed.shares;
  room = a.seed.room;
  frames = a.seed.frames;
  mode = a.seed.caching;
  rows = a.seed.rows;
  most = a.seed.most;
  handing = a.seed.handing;
}
