-- What an unmap and a flush need before they release: records of a quarantined state can go one after the other.
use Rattle.std.proofs.Common.{◌≡◌, ◌≢◌, ℕ, ◌+◌, ◌-◌, ◌<◌, ◌≤◌, inl, inr, ⊎_elim, List, [], ◌∷◌, ◌++◌, length, map, Option, Some, refl, sym}
use Rattle.dmatypes.specs.declared.width.Width.{Width}
use Rattle.std.proofs.Common.{ap, subst, ◌∙◌, arith}
use Rattle.std.proofs.lemmas.Bool.{cases_lt}
use Rattle.std.proofs.lemmas.List.Sums.{sum_by-cons}
use Rattle.dmatypes.specs.Page.{Range, IsWithin}
use Rattle.dmatypes.specs.World.{Retired, IsIn, flushed}
use Rattle.dmatypes.specs.World as world
use Rattle.piece_tree.specs.declared.piece.PageState.TheVariants.{Live}
use Rattle.piece_tree.specs.declared.piece.PageState.TheVariants as pages
use Rattle.piece_tree.specs.declared.piece.Piece.{Piece}
use Rattle.iova.specs.Pieces.{IsOrdered, piece_of}
use Rattle.iova.specs.Space.{Space, IsSpace, MayRetire}
use Rattle.tables.specs.Lacks.{leaves_splitting}
use Rattle.tables.specs.Pool.{Pool, memory, occurs, IsTree, IsZeroed}
use Rattle.tables.specs.Tree.{stated, sum_below, uses}
use Rattle.tables.proofs.sums.Firsts.{sum_below_part}
use Rattle.engine.specs.declared.record.Record.{Record}
use Rattle.engine.specs.Ending.{FreesEnded, RetiresAndUnmaps, UnmapsAlone, Releases, ReleasesAll, leaves_split}
use Rattle.engine.specs.Ready.{AllDiffer, AreReleasable, CanCut, CanUnmap, IsUnstated, IsFreeable, IsReleasable}
use Rattle.engine.specs.Domains.{Domain, held_in, domain_at}
use Rattle.engine.specs.State.{State}
use Rattle.engine.specs.Quarantine.{AllApart, AreApart, IsOfSomeWorld, Marked, Mirrors, PartsFrames, marked_here, marked_there, owned}
use Rattle.engine.proofs.frames.Owners.{tree_of}
use Rattle.engine.proofs.domains.OneChanged.{both_there, domain_low}
use Rattle.engine.proofs.flushes.OneByOne.{matching, mirrors_flushed, releases_first, releases_none}
use Rattle.engine.proofs.lists.Membership.{in_last, in_left}
use Rattle.engine.proofs.unmaps.DomainAfter.{domain_after, held-last}
use Rattle.engine.proofs.unmaps.Pages.{is_page}
use Rattle.dmatypes.specs.declared.limits.TheConstants.{MOST_DOMAINS}
use Rattle.dmatypes.specs.Page.{levels, pages_end}

-- ---- pieces

-- a piece has a page
pub piece_some : (from : ℕ) (q : Piece) (ps : List Piece) → IsOrdered from ps → IsIn q ps → (from ≤ q.first) × (q.first ≤ q.last)
piece_some from q [] ordered inside = absurd inside
piece_some from q (p ∷ ps) ordered (inl same) =
    subst (λ (x : Piece). (from ≤ x.first) × (x.first ≤ x.last)) (sym same) (ordered.0, ordered.1)
piece_some from q (p ∷ ps) ordered (inr rest) =
    let k = piece_some (p.last + 1) q ps ordered.3 rest in (omega (arith, k.0, ordered.0, ordered.1), k.1)

-- ranges that are apart are of different pieces
pub pieces_differ : (a b : Range) → 1 ≤ a.first → a.first ≤ a.first + a.pages - 1 → b.first ≤ b.first + b.pages - 1 → AreApart a b
    → piece_of a pages.Retired ≢ piece_of b pages.Retired
pieces_differ a b positive some_a some_b apart same =
    let first : a.first ≡ b.first = ap (λ (x : Piece). x.first) same in
    apart a.first (omega arith, omega (arith, positive, some_a)) (omega (arith, first), omega (arith, first, positive, some_b))

-- ---- the state's records and the world's

first_of : Marked → List Marked → Marked
first_of d [] = d
first_of d (x ∷ xs) = x

rest_of : List Marked → List Marked
rest_of [] = []
rest_of (x ∷ xs) = xs

module _ (space : Space) (is : IsSpace space) where
  all_differ : (ks : List Record) (rs : List Retired) → map marked_here ks ≡ map marked_there rs → AllApart rs
      → ((k : Record) → IsIn k ks → IsIn (piece_of k.range pages.Retired) space.pieces) → AllDiffer ks
  unfolding AllDiffer AllApart first_of rest_of
  all_differ [] rs same apart there = tt
  all_differ (k ∷ ks) [] same apart there = absurd cc
  all_differ (k ∷ ks) (r ∷ rs) same apart there =
      let head : marked_here k ≡ marked_there r = ap (first_of (marked_here k)) same in
      let range : k.range ≡ r.range = ap (λ (x : Marked). x.range) head in
      let tail : map marked_here ks ≡ map marked_there rs = ap rest_of same in (
        λ q inside.
            let other = matching ks rs tail q inside in
            let mine = piece_some 1 (piece_of k.range pages.Retired) space.pieces is.ordered (there k (inl refl)) in
            let its = piece_some 1 (piece_of q.range pages.Retired) space.pieces is.ordered (there q (inr inside)) in
            pieces_differ k.range q.range mine.0 mine.1 its.1
            (λ p here in_other.
            apart.0 other.0 other.1 p (subst (λ (x : Range). IsWithin x p) range here)
            (subst (λ (x : Range). IsWithin x p) other.2 in_other)),
        all_differ ks rs tail apart.1 (λ q inside. there q (inr inside)),
      )

-- ---- frames

module _ (pool : Pool) (domains : ℕ → Option Domain) (d : ℕ) (h : Domain) (parts : PartsFrames pool domains) (low : d < MOST_DOMAINS + 1)
    (there : domains d ≡ Some h) where
  part : (f : ℕ) → uses (memory pool.words) (levels h.width) h.root f + held_in h.records f ≤ sum_below
      (λ e. owned (memory pool.words) (domains e) f)
      (MOST_DOMAINS + 1)
  part f =
      let one = sum_below_part (λ e. owned (memory pool.words) (domains e) f) (MOST_DOMAINS + 1) d low in
      let is : owned (memory pool.words) (domains d) f ≡ uses (memory pool.words) (levels h.width) h.root f + held_in h.records f =
      ap (λ (o : Option Domain). owned (memory pool.words) o f) there in
      omega (arith, one, is)

  -- a frame is in the domain's tree, in its records or free once at most
  pub own_once : (f : ℕ) → uses (memory pool.words) (levels h.width) h.root f + held_in h.records f + occurs f pool.free ≤ 1
  own_once f =
      ⊎_elim (λ (less : f < pool.frames). omega (arith, parts.once f less, part f))
      (λ (past : pool.frames ≤ f). omega (arith, parts.past f past, part f)) (cases_lt f pool.frames)

  pub own_within : (f : ℕ) → pool.frames ≤ f → uses (memory pool.words) (levels h.width)
      h.root f + held_in h.records f + occurs f pool.free ≡ 0
  own_within f past = omega (arith, parts.past f past, part f)

-- ---- records that can go

pub records_releasable : (m : State) (d : ℕ) (h : Domain) → IsOfSomeWorld m → length m.domains ≡ MOST_DOMAINS
    → domain_at m.domains d ≡ Some h
    → AreReleasable m.pool h.space h.records
records_releasable m d h (w, q) many there =
    let v = both_there m.pool.words (domain_at m.domains d) (w.domains d) h (q.domains d) there in
    let low : d < MOST_DOMAINS + 1 = domain_low m.domains d h many there in
    let found : (k : Record) → IsIn k h.records → IsIn (piece_of k.range pages.Retired) h.space.pieces =
    (λ k inside.
    let r =
    matching h.records v.0.retired v.2.ids.records k inside in
    subst (λ (x : Range). IsIn (piece_of x pages.Retired) h.space.pieces) (sym r.2) (v.2.pieces.ranges r.0 r.1)) in
    record {
      is_space = v.2.pieces.is_space;
      pieces = found;
      differ = all_differ h.space v.2.pieces.is_space h.records v.0.retired v.2.ids.records v.2.pieces.apart found;
      once = λ f. omega (arith, own_once m.pool (domain_at m.domains) d h q.frames low there f);
      within =
          λ f some.
          ⊎_elim (λ (less : f < m.pool.frames). less) (λ (past : m.pool.frames ≤ f).
          absurd (omega (arith, some, own_within m.pool (domain_at m.domains) d h q.frames low there f past)))
          (cases_lt f m.pool.frames);
      zeroed =
          λ f some.
          ⊎_elim (λ (held : 0 < held_in h.records f). q.frames.held d f h there held)
          (λ (none : held_in h.records f ≤ 0). q.frames.zeroed f (omega (arith, some, none))) (cases_lt 0 (held_in h.records f));
    }

-- one of them
one_releasable : (pool : Pool) (space : Space) (all : List Record) (r : Record) → AreReleasable pool space all → IsIn r all
    → ((f : ℕ) → occurs f r.cut.frames ≤ held_in all f) → IsReleasable pool space r
one_releasable pool space all r are inside held = record {
  piece = are.pieces r inside;
  once = λ f. omega (arith, are.once f, held f);
  within = λ f some. are.within f (omega (arith, some, held f));
  zeroed = λ f some. are.zeroed f (omega (arith, some, held f));
}

-- and the others, once it went
others_releasable : (pool pool1 : Pool) (space space1 : Space) (all rest : List Record) (r : Record) → AreReleasable pool space all
    → Releases pool space r pool1 space1 → ((x : Record) → IsIn x rest → IsIn x all)
    → ((x : Record) → IsIn x rest → piece_of x.range pages.Retired ≢ piece_of r.range pages.Retired) → AllDiffer rest
    → ((f : ℕ) → held_in all f ≡ held_in rest f + occurs f r.cut.frames) → AreReleasable pool1 space1 rest
others_releasable pool pool1 space space1 all rest r are went inside other differ held = record {
  is_space = went.is_space;
  pieces = λ x i. (went.frees.in_use (piece_of x.range pages.Retired) (λ e. cc)).1 (are.pieces x (inside x i), other x i);
  differ = differ;
  once = λ f. omega (arith, are.once f, held f, went.free f);
  within = λ f some. let less = are.within f (omega (arith, some, held f)) in omega (arith, less, went.frames);
  zeroed = λ f some. subst (λ ws. IsZeroed ws f) (sym went.words) (are.zeroed f (omega (arith, some, held f, went.free f)));
}

-- the first one
held-first : (r : Record) (rs : List Record) (f : ℕ) → held_in (r ∷ rs) f ≡ held_in rs f + occurs f r.cut.frames
held-first r rs f = sum_by-cons (λ (y : Record). occurs f y.cut.frames) r rs ∙ omega arith

pub first_releasable : (pool : Pool) (space : Space) (r : Record) (rest : List Record) → AreReleasable pool space (r ∷ rest)
    → IsReleasable pool space r
first_releasable pool space r rest are = one_releasable pool space (r ∷ rest) r are (inl refl) (λ f. omega (arith, held-first r rest f))

differ_first : (r : Record) (rest : List Record) → AllDiffer (r ∷ rest)
    → ((q : Record) → IsIn q rest → piece_of r.range pages.Retired ≢ piece_of q.range pages.Retired) × AllDiffer rest
unfolding AllDiffer
differ_first r rest all = all

pub first_released : (pool pool1 : Pool) (space space1 : Space) (r : Record) (rest : List Record) → AreReleasable pool space (r ∷ rest)
    → Releases pool space r pool1 space1 → AreReleasable pool1 space1 rest
first_released pool pool1 space space1 r rest are went =
    let differ = differ_first r rest are.differ in
    others_releasable pool pool1 space space1 (r ∷ rest) rest r are went (λ x i. inr i) (λ x i same. differ.0 x i (sym same)) differ.1
    (λ f. held-first r rest f)

-- the others, where it stays
pub rest_releasable : (pool : Pool) (space : Space) (r : Record) (rest : List Record) → AreReleasable pool space (r ∷ rest)
    → AreReleasable pool space rest
rest_releasable pool space r rest are = record {
  is_space = are.is_space;
  pieces = λ x i. are.pieces x (inr i);
  differ = (differ_first r rest are.differ).1;
  once = λ f. omega (arith, are.once f, held-first r rest f);
  within = λ f some. are.within f (omega (arith, some, held-first r rest f));
  zeroed = λ f some. are.zeroed f (omega (arith, some, held-first r rest f));
}

-- the last one
differ_last : (rest : List Record) (r : Record) → AllDiffer (rest ++ r ∷ [])
    → ((x : Record) → IsIn x rest → piece_of x.range pages.Retired ≢ piece_of r.range pages.Retired) × AllDiffer rest
unfolding AllDiffer
differ_last [] r all = (λ x none. absurd none, tt)
differ_last (y ∷ ys) r all =
    let later = differ_last ys r all.1 in
    (λ x inside. by_place x inside (λ i. later.0 x i), (λ q i. all.0 q (in_left q ys (r ∷ []) i), later.1))
  where
    by_place : (x : Record) → IsIn x (y ∷ ys) → (IsIn x ys → piece_of x.range pages.Retired ≢ piece_of r.range pages.Retired)
        → piece_of x.range pages.Retired ≢ piece_of r.range pages.Retired
    by_place x (inl same) later =
        subst (λ (z : Record). piece_of z.range pages.Retired ≢ piece_of r.range pages.Retired) (sym same) (all.0 r (in_last r ys))
    by_place x (inr rest) later = later rest

pub last_releasable : (pool : Pool) (space : Space) (rest : List Record) (r : Record) → AreReleasable pool space (rest ++ r ∷ [])
    → IsReleasable pool space r
last_releasable pool space rest r are =
    one_releasable pool space (rest ++ r ∷ []) r are (in_last r rest) (λ f. omega (arith, held-last rest r f))

pub last_released : (pool pool1 : Pool) (space space1 : Space) (rest : List Record) (r : Record) → AreReleasable pool space (rest ++ r ∷ [])
    → Releases pool space r pool1 space1 → AreReleasable pool1 space1 rest
last_released pool pool1 space space1 rest r are went =
    let differ = differ_last rest r are.differ in
    others_releasable pool pool1 space space1 (rest ++ r ∷ []) rest r are went (λ x i. in_left x rest (r ∷ []) i) differ.0 differ.1
    (λ f. held-last rest r f)

-- ---- what was cut just now

pub cut_freeable : (pool pool1 : Pool) (h : Domain) (r : Record) → IsTree pool (levels h.width) h.root → UnmapsAlone pool h r pool1
    → MayRetire h.space.pieces r.range → IsFreeable pool1 h.space r
cut_freeable pool pool1 h r tree cuts may = record {
  live = may;
  once = λ f. omega (arith, tree.once f, cuts.moves.account f);
  within = λ f some. ⊎_elim (λ (less : f < pool1.frames). less)
      (λ (past : pool1.frames ≤ f).
      absurd (omega (arith, some, tree.within f (omega (arith, past, cuts.moves.frames)), cuts.moves.account f)))
      (cases_lt f pool1.frames);
  zeroed = cuts.unmaps.zeroed;
}

-- and the tree states none of its pages
pub cut_cleared : (pool pool1 : Pool) (h : Domain) (r : Record) → UnmapsAlone pool h r pool1 → IsUnstated pool1 h.width h.root r.range
cut_cleared pool pool1 h r cuts p inside = ap (stated p) (cuts.unmaps.gone p inside.0 inside.1)

-- what a strict unmap does is what retiring and releasing does
pub ended_at_once : (pool pool1 pool2 : Pool) (h : Domain) (space : Space) (r : Record) (range : Range)
    → r.range ≡ range → MayRetire h.space.pieces range → UnmapsAlone pool h r pool1 → FreesEnded pool1 h.space r pool2 space
    → (between : Domain) × RetiresAndUnmaps pool h r pool1 between × Releases pool1 between.space r pool2 space
    × (record h { space = space } ≡ record between { space = space })
ended_at_once pool pool1 pool2 h space r range same may cuts freed = (
  record h { space = freed.frees.between },
  record {
    may = subst (λ k. MayRetire h.space.pieces k) (sym same) may;
    mark = cuts.mark;
    retires = freed.frees.retires;
    is_space = freed.frees.is_space;
    count = cuts.count;
    moves = cuts.moves;
    spelled = cuts.spelled;
    unmaps = cuts.unmaps;
    order = cuts.order;
    split = cuts.split;
    is_pool = cuts.is_pool;
    same = refl;
  },
  record {
    frees = freed.frees.frees;
    is_space = freed.is_space;
    free = freed.free;
    words = freed.words;
    trail = freed.trail;
    frames = freed.frames;
    is_pool = freed.is_pool;
  },
  refl,
)

-- ---- pages that can be unmapped

can_cut_by : (pool : Pool) (h : Domain) (v : world.Domain) → IsTree pool (levels h.width) h.root → Mirrors pool.words h v → CanCut pool h
can_cut_by pool h v tree mirrors = record {
  tree = tree;
  there =
      λ p live.
      let page = is_page h.space v p Live mirrors.pieces live in
      rw (mirrors.tree p (subst (λ n. p < pages_end n) (sym mirrors.ids.width) page.1)) ((mirrors.pieces.live p).0 live);
}

-- of each domain of a state of some world
pub can_cut : (m : State) (d : ℕ) (h : Domain) → IsOfSomeWorld m → length m.domains ≡ MOST_DOMAINS → domain_at m.domains d ≡ Some h
    → CanCut m.pool h
can_cut m d h (w, q) many there =
    let v = both_there m.pool.words (domain_at m.domains d) (w.domains d) h (q.domains d) there in
    can_cut_by m.pool h v.0 (tree_of m.pool (domain_at m.domains) d h q.frames (domain_low m.domains d h many there) there) v.2

-- and once all its records went
pub can_cut_emptied : (m : State) (d : ℕ) (h : Domain) (pool1 : Pool) (space1 : Space) → IsOfSomeWorld m → length m.domains ≡ MOST_DOMAINS
    → domain_at m.domains d ≡ Some h → ReleasesAll m.pool h.space h.records pool1 space1
    → CanCut pool1 (record h { space = space1; records = [] })
can_cut_emptied m d h pool1 space1 (w, q) many there all =
    let v = both_there m.pool.words (domain_at m.domains d) (w.domains d) h (q.domains d) there in
    let low : d < MOST_DOMAINS + 1 = domain_low m.domains d h many there in
    let used : (f : ℕ) → uses (memory pool1.words) (levels h.width) h.root f ≡ uses (memory m.pool.words) (levels h.width) h.root f =
    (λ f. ap (λ ws. uses (memory ws) (levels h.width) h.root f) all.words) in
    can_cut_by pool1 (domain_after h space1 []) (flushed v.0) (record {
      once = λ f. omega (arith, used f, all.free f, own_once m.pool (domain_at m.domains) d h q.frames low there f);
      within =
          λ f past.
          omega (
            arith,
            used f,
            all.free f,
            own_within m.pool (domain_at m.domains) d h q.frames low there f (omega (arith, past, all.frames)),
          );
    }) (mirrors_flushed m.pool pool1 space1 h v.0 v.2 all)

-- so of each domain of such a state a range can be unmapped
pub can_unmap : (m : State) (d : ℕ) (h : Domain) → IsOfSomeWorld m → length m.domains ≡ MOST_DOMAINS → domain_at m.domains d ≡ Some h
    → CanUnmap m.pool h
can_unmap m d h of_world many there = record {
  cut = can_cut m d h of_world many there;
  releasable = records_releasable m d h of_world many there;
  emptied = λ pool' space' all. can_cut_emptied m d h pool' space' of_world many there all;
}

-- where the frames that a split takes were free before that, they are still
pub split_room : (pool pool1 : Pool) (space space1 : Space) (records : List Record) (width : Width) (root : ℕ) (range : Range)
    → ReleasesAll pool space records pool1 space1 → leaves_split pool width root range ≤ length pool.free
    → leaves_split pool1 width root range ≤ length pool1.free
split_room pool pool1 space space1 records width root range all room =
    let same : leaves_split pool1 width root range ≡ leaves_split pool width root range =
    ap (λ ws. leaves_splitting (memory ws) (levels width) root range.first (range.first + range.pages)) all.words in
    omega (arith, same, room, all.more)

-- ---- the records one after the other, from the last one on

-- some were released, and the rest can be
pub record IsReleasing (pool : Pool) (space : Space) (all : List Record) (pool1 : Pool) (space1 : Space) (rest : List Record) : Type 0 where
  pub done : List Record
  pub parts : rest ++ done ≡ all
  pub released : ReleasesAll pool space done pool1 space1
  pub ready : AreReleasable pool1 space1 rest

pub releasing_start : (pool : Pool) (space : Space) (all : List Record) → AreReleasable pool space all
    → IsReleasing pool space all pool space all
releasing_start pool space all are = record {
  done = [];
  parts = nothing_more all;
  released = releases_none pool space all are;
  ready = are;
}
  where
    nothing_more : (xs : List Record) → xs ++ [] ≡ xs
    nothing_more [] = refl
    nothing_more (x ∷ xs) = ap (λ ys. x ∷ ys) (nothing_more xs)

module _ (pool pool1 : Pool) (space space1 : Space) (all rest : List Record) (r : Record)
    (so_far : IsReleasing pool space all pool1 space1 (rest ++ r ∷ [])) where
  pub releasing_one : IsReleasable pool1 space1 r
  releasing_one = last_releasable pool1 space1 rest r so_far.ready

  -- it is one of all
  pub releasing_in : IsIn r all
  releasing_in = subst (λ (rs : List Record). IsIn r rs) so_far.parts (in_left r (rest ++ r ∷ []) so_far.done (in_last r rest))

  pub releasing_step : (pool2 : Pool) (space2 : Space) → Releases pool1 space1 r pool2 space2
      → ((other : Range) → MayRetire space1.pieces other → MayRetire space2.pieces other) → length pool1.free ≤ length pool2.free
      → IsReleasing pool space all pool2 space2 rest
  releasing_step pool2 space2 went retirable more = record {
    done = r ∷ so_far.done;
    parts = regroup rest so_far.done ∙ so_far.parts;
    released = releases_first pool pool1 pool2 space space1 space2 so_far.done r so_far.released went retirable more;
    ready = last_released pool1 pool2 space1 space2 rest r so_far.ready went;
  } where
    regroup : (xs ys : List Record) → xs ++ r ∷ ys ≡ (xs ++ r ∷ []) ++ ys
    regroup [] ys = refl
    regroup (x ∷ xs) ys = ap (λ zs. x ∷ zs) (regroup xs ys)

pub releasing_end : (pool pool1 : Pool) (space space1 : Space) (all : List Record) → IsReleasing pool space all pool1 space1 []
    → ReleasesAll pool space all pool1 space1
releasing_end pool pool1 space space1 all so_far =
    subst (λ (rs : List Record). ReleasesAll pool space rs pool1 space1) so_far.parts so_far.released
