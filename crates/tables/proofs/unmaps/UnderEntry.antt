-- What a change under one entry of a table leaves as it was, and what it makes of the account.
use Rattle.std.proofs.Common.{◌≡◌, ◌≢◌, ℕ, suc, ◌+◌, ◌<◌, ◌≤◌, ⊎_elim, List, refl, sym, ap, ◌∙◌, arith}
use Rattle.std.proofs.lemmas.Bool.{cases_lt}
use Rattle.tables.specs.declared.entries.TheConstants.{TABLE_ENTRIES}
use Rattle.vtdbits.specs.declared.entry.SsEntry.TheVariants.{Table}
use Rattle.tables.specs.Under.{ChangesUnder, used_by_entry}
use Rattle.tables.specs.Tree.{Memory, index_in, leaf_of, leaf_from, table_from, entry_uses, uses}
use Rattle.tables.specs.Pool.{Pool, word, memory, occurs, IsTree}
use Rattle.tables.specs.Changes.{TakesAndGivesFrames}
use Rattle.tables.proofs.sums.Firsts.{sum_below_change}
use Rattle.tables.proofs.sums.OneFrame.{one_if_same-self}
use Rattle.tables.proofs.walks.Words.{same_entry}
use Rattle.tables.proofs.walks.Agreeing.{to_agree, leaf_agrees, table_agrees, uses_agree, leaf_by, table_by, uses_by}
use Rattle.tables.proofs.walks.Steps.{leaf-suc, table_under, table_top, uses-suc, own_use, child_use, two_uses, same_or_not}
use Rattle.tables.proofs.walks.Onward.{index_lt}

-- a tree's root is not free, and in the pool
pub root_taken : (pool : Pool) (l t : ℕ) → IsTree pool (suc l) t → occurs t pool.free ≡ 0
root_taken pool l t tree = omega (arith, tree.once t, uses-suc (memory pool.words) l t t, one_if_same-self t)

pub root_in : (pool : Pool) (l t : ℕ) → IsTree pool (suc l) t → t < pool.frames
root_in pool l t tree =
    ⊎_elim (λ h. h) (λ past. absurd (omega (arith, tree.within t past, uses-suc (memory pool.words) l t t, one_if_same-self t)))
    (cases_lt t pool.frames)

-- the tree under an entry
pub below_in : (pool : Pool) (l t i c : ℕ) → IsTree pool (suc l) t → i < TABLE_ENTRIES → memory pool.words (suc l) t i ≡ Table c
    → IsTree pool l c
below_in pool l t i c tree inside e =
    let m : Memory = memory pool.words in
    let part : (f : ℕ) → uses m l c f ≤ uses m (suc l) t f = λ f.
    let is : used_by_entry m l t f i ≡ uses m l c f = ap (λ x. entry_uses x (λ c. uses m l c f)) e in
    omega (arith, child_use m l t f i inside) in
    record {
      once = λ f. omega (arith, part f, tree.once f);
      within = λ f past. omega (arith, part f, tree.within f past);
    }

-- a table is not among its own tables
pub root_apart : (pool : Pool) (l t i : ℕ) → IsTree pool (suc l) t → i < TABLE_ENTRIES
    → used_by_entry (memory pool.words) l t t i + occurs t pool.free ≡ 0
root_apart pool l t i tree inside = omega (arith, tree.once t, own_use (memory pool.words) l t i inside)

-- the frames of another entry
pub apart_words : (old new : Pool) (l t i j f : ℕ) (cut : List ℕ) → IsTree old (suc l) t → i < TABLE_ENTRIES → j < TABLE_ENTRIES → j ≢ i
    → ChangesUnder old new l t i cut → 0 < used_by_entry (memory old.words) l t f j → (k : ℕ) → k < TABLE_ENTRIES
    → word new.words f k ≡ word old.words f k
apart_words old new l t i j f cut tree a b ne u some k k_in =
    let two = two_uses (memory old.words) l t f i j a b ne in
    let none : used_by_entry (memory old.words) l t f i + occurs f old.free ≡ 0 = omega (arith, two, tree.once f) in
    u.others f k k_in (λ e. let own = root_apart old l t j tree b in
    let moved : used_by_entry (memory old.words) l t f j ≡ used_by_entry (memory old.words) l t t j =
    ap (λ x. used_by_entry (memory old.words) l t x j) e in
    absurd (omega (arith, own, moved, some)))
    none

apart : (old new : Pool) (l t i j f : ℕ) (cut : List ℕ) → IsTree old (suc l) t → i < TABLE_ENTRIES → j < TABLE_ENTRIES → j ≢ i
    → ChangesUnder old new l t i cut → 0 < used_by_entry (memory old.words) l t f j → (l' k : ℕ) → k < TABLE_ENTRIES
    → memory new.words l' f k ≡ memory old.words l' f k
apart old new l t i j f cut tree a b ne u some l' k k_in =
    same_entry old.words new.words l' f k (apart_words old new l t i j f cut tree a b ne u some k k_in)

row_entry : (old new : Pool) (l t i j : ℕ) (cut : List ℕ) → j < TABLE_ENTRIES → j ≢ i → ChangesUnder old new l t i cut
    → memory new.words (suc l) t j ≡ memory old.words (suc l) t j
row_entry old new l t i j cut b ne u = same_entry old.words new.words (suc l) t j (u.row j b ne)

pub some_child : (m : Memory) (l t f j c : ℕ) → m (suc l) t j ≡ Table c → 0 < uses m l c f → 0 < used_by_entry m l t f j
some_child m l t f j c e some =
    let is : used_by_entry m l t f j ≡ uses m l c f = ap (λ x. entry_uses x (λ c. uses m l c f)) e in omega arith

-- the walks through other entries stay
pub other_leaf : (old new : Pool) (l t i p : ℕ) (cut : List ℕ) → IsTree old (suc l) t → i < TABLE_ENTRIES → ChangesUnder old new l t i cut
    → index_in l p ≢ i → leaf_from (memory new.words) (suc l) t p ≡ leaf_from (memory old.words) (suc l) t p
other_leaf old new l t i p cut tree a u ne =
    let m : Memory = memory old.words in
    let n : Memory = memory new.words in
    let j : ℕ = index_in l p in
    let b : index_in l p < TABLE_ENTRIES = index_lt l p in
    leaf-suc n l t p ∙ ap (λ e. leaf_of e l (λ c. leaf_from n l c p)) (row_entry old new l t i j cut b ne u)
    ∙ leaf_by m n l p (m (suc l) t j) (λ c e.
    leaf_agrees m n l c p (to_agree m n l c (λ f some. apart old new l t i j f cut tree a b ne u (some_child m l t f j c e some))))
    ∙ sym (leaf-suc m l t p)

pub other_table : (old new : Pool) (l t i p w : ℕ) (cut : List ℕ) → IsTree old (suc l) t → i < TABLE_ENTRIES
    → ChangesUnder old new l t i cut → index_in l p ≢ i
    → table_from (memory new.words) (suc l) t p w ≡ table_from (memory old.words) (suc l) t p w
other_table old new l t i p w cut tree a u ne =
    let m : Memory = memory old.words in
    let n : Memory = memory new.words in
    let j : ℕ = index_in l p in
    let b : index_in l p < TABLE_ENTRIES = index_lt l p in
    ⊎_elim (λ top. table_top n l t p w top ∙ sym (table_top m l t p w top))
    (λ lower. table_under n l t p w (m (suc l) t j) lower (row_entry old new l t i j cut b ne u)
    ∙ table_by m n l p w (m (suc l) t j) (λ c e.
    table_agrees m n l c p w (to_agree m n l c (λ f some. apart old new l t i j f cut tree a b ne u (some_child m l t f j c e some))))
    ∙ sym (table_under m l t p w (m (suc l) t j) lower refl))
    (same_or_not w (suc l))

other_child : (old new : Pool) (l t i j f : ℕ) (cut : List ℕ) → IsTree old (suc l) t → i < TABLE_ENTRIES → j < TABLE_ENTRIES → j ≢ i
    → ChangesUnder old new l t i cut → used_by_entry (memory new.words) l t f j ≡ used_by_entry (memory old.words) l t f j
other_child old new l t i j f cut tree a b ne u =
    let m : Memory = memory old.words in
    let n : Memory = memory new.words in
    ap (λ e. entry_uses e (λ c. uses n l c f)) (row_entry old new l t i j cut b ne u)
    ∙ uses_by m n l f (m (suc l) t j) (λ c e.
    uses_agree m n l c f (to_agree m n l c (λ g some. apart old new l t i j g cut tree a b ne u (some_child m l t g j c e some))))

-- and the account of the whole is that of the entry
pub under_moves : (old new : Pool) (l t i : ℕ) (cut : List ℕ) → IsTree old (suc l) t → i < TABLE_ENTRIES → ChangesUnder old new l t i cut
    → TakesAndGivesFrames old new (suc l) t cut
under_moves old new l t i cut tree a u =
    let m : Memory = memory old.words in
    let n : Memory = memory new.words in
    record {
      account = λ f.
          let changed =
          sum_below_change (used_by_entry m l t f) (used_by_entry n l t f) TABLE_ENTRIES i a
          (λ j b ne. other_child old new l t i j f cut tree a b ne u) in
          omega (arith, changed, u.account f, uses-suc m l t f, uses-suc n l t f);
      fewer = u.fewer;
      others = λ f k k_in none.
          u.others f k k_in
          (λ e.
          let own : uses m (suc l) t f ≡ uses m (suc l) t t =
          ap (λ x. uses m (suc l) t x) e in
          absurd (omega (arith, none, own, own_use m l t i a))) (omega (arith, none, child_use m l t f i a));
      frames = u.frames;
    }

-- a tree is one after it
pub moved_tree : (old new : Pool) (l t : ℕ) (cut : List ℕ) → IsTree old l t → TakesAndGivesFrames old new l t cut → IsTree new l t
moved_tree old new l t cut tree moves = record {
  once = λ f. omega (arith, moves.account f, tree.once f);
  within = λ f past. omega (arith, moves.account f, tree.within f (omega (arith, moves.frames)));
}

-- what lies under one entry moved
pub below_under : (old new : Pool) (l t i c : ℕ) (cut : List ℕ) → IsTree old (suc l) t → i < TABLE_ENTRIES
    → memory old.words (suc l) t i ≡ Table c → TakesAndGivesFrames old new l c cut
    → ChangesUnder old new l t i cut × (memory new.words (suc l) t i ≡ Table c)
below_under old new l t i c cut tree a is moves =
    let m : Memory = memory old.words in
    let n : Memory = memory new.words in
    let used : (f : ℕ) → used_by_entry m l t f i ≡ uses m l c f = λ f. ap (λ x. entry_uses x (λ c. uses m l c f)) is in
    let own : uses m l c t + occurs t old.free ≡ 0 = omega (arith, root_apart old l t i tree a, used t) in
    let names : n (suc l) t i ≡ Table c = same_entry old.words new.words (suc l) t i (moves.others t i a own) ∙ is in
    let used_now : (f : ℕ) → used_by_entry n l t f i ≡ uses n l c f = λ f. ap (λ x. entry_uses x (λ c. uses n l c f)) names in (
      record {
        account = λ f. omega (arith, moves.account f, used f, used_now f);
        fewer = moves.fewer;
        others = λ f k k_in ne none. moves.others f k k_in (omega (arith, none, used f));
        row = λ k k_in ne. moves.others t k k_in own;
        frames = moves.frames;
      },
      names,
    )
