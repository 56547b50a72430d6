use Rattle.sharing.proofs.managers.hits.hit_under_lock.Given as goal

-- what the seed has
abbrev pub ghosts-hit_beside_the_holder-B-Ledger : goal.ghosts-hit_beside_the_holder-B-Ledger
ghosts-hit_beside_the_holder-B-Ledger g a = record { name = a.seed.name; parts = a.seed.shares }

abbrev pub ghosts-hit_beside_the_holder-B-Owner : goal.ghosts-hit_beside_the_holder-B-Owner
ghosts-hit_beside_the_holder-B-Owner g a = record {
  shares = a.seed.shares;
  room = a.seed.room;
  frames = a.seed.frames;
  mode = a.seed.caching;
  rows = a.seed.rows;
  most = a.seed.most;
  handing = a.seed.handing;
}
