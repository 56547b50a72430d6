use Rattle.sharing.proofs.managers.hits.words_of_a_row.Given as goal

-- what the seed has
abbrev pub ghosts-hit_by_words-B-Ledger : goal.ghosts-hit_by_words-B-Ledger
ghosts-hit_by_words-B-Ledger g a = record { name = a.seed.name; parts = a.seed.shares }

abbrev pub ghosts-hit_by_words-B-Owner : goal.ghosts-hit_by_words-B-Owner
ghosts-hit_by_words-B-Owner g a = record {
  shares = a.seed.shares;
  room = a.seed.room;
  frames = a.seed.frames;
  mode = a.seed.caching;
  rows = a.seed.rows;
  most = a.seed.most;
  handing = a.seed.handing;
}
