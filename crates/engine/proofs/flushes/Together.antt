-- Retired records that lie side by side, released at once.
use Rattle.std.proofs.Common.{◌≡◌, ◌≢◌, ℕ, ◌+◌, ◌-◌, ◌<◌, ◌≤◌, ◌⊎◌, inl, inr, List}
use Rattle.std.proofs.Common.{[], ◌∷◌, ◌++◌, drop, length, slice_index_or, take, Some, refl, sym}
use Rattle.std.proofs.Common.{ap, subst, ◌∙◌, arith}
use Rattle.std.proofs.lemmas.List.{append_assoc, drop_more, length-drop, take_more}
use Rattle.std.proofs.lemmas.List.Sums.{sum_by-append, sum_by_more_le, sum_by_push}
use Rattle.std.proofs.Math.Seq.{take-length}
use Rattle.dmatypes.specs.Page.{Range, IsWithin}
use Rattle.dmatypes.specs.World.{IsIn}
use Rattle.dmatypes.proofs.numbers.Ranges.{within_or_not}
use Rattle.iova.specs.Changes.{FreesRun}
use Rattle.piece_tree.specs.declared.piece.PageState.TheVariants.{Free, Retired}
use Rattle.piece_tree.specs.declared.piece.Piece.{Piece}
use Rattle.piece_tree.specs.Pieces.{Holds}
use Rattle.iova.specs.Pieces.{IsRun, piece_of, state_at}
use Rattle.iova.specs.Space.{Space, IsSpace, MayRetire}
use Rattle.iova.proofs.Among.{in_one}
use Rattle.tables.specs.Pool.{Pool, IsZeroed, occurs}
use Rattle.engine.specs.declared.record.Record.{Record}
use Rattle.engine.specs.Domains.{held_in}
use Rattle.engine.specs.Ending.{ReleasesAll}
use Rattle.engine.specs.Ready.{AllDiffer, AreJoined, AreReleasable, IsRangeOf, ReleasesLast}
use Rattle.engine.proofs.flushes.MayRelease.{IsReleasing, piece_some}
use Rattle.engine.proofs.lists.Membership.{in_left, in_right}
use Rattle.engine.proofs.unmaps.Pages.{not_within}

-- ---- ranges

pub range_one : (r : Record) → IsRangeOf r.range (r ∷ [])
range_one r = record {
  some = λ p w. (r, inl refl, w);
  whole = λ x i. elim i [
    | inl same ↦ subst (λ (y : Record). (r.range.first ≤ y.range.first) × (y.range.first + y.range.pages ≤ r.range.first + r.range.pages))
        (sym same) (omega arith, omega arith)
    | inr none ↦ absurd none
  ];
}

in_joined : (a b j : Range) (p : ℕ) → AreJoined a b j → IsWithin j p → IsWithin a p ⊎ IsWithin b p
in_joined a b j p s w = elim (within_or_not a p) [
  | inl inside ↦ inl inside
  | inr out ↦ elim s.1 [
    | inl first ↦ elim out [
      | inl before ↦ absurd (omega (arith, first.0, w.0, before))
      | inr behind ↦ inr (omega (arith, first.1, behind), omega (arith, s.0, first.0, first.1, w.1))
    ]
    | inr second ↦ elim out [
      | inl before ↦ inr (omega (arith, second.0, w.0), omega (arith, second.1, before))
      | inr behind ↦ absurd (omega (arith, s.0, second.0, second.1, w.1, behind))
    ]
  ]
]

pub range_more : (r : Record) (rest : List Record) (range longer : Range) → AreJoined r.range range longer → IsRangeOf range rest
    → IsRangeOf longer (r ∷ rest)
range_more r rest range longer s of = record {
  some = λ p w. elim (in_joined r.range range longer p s w) [
    | inl inside ↦ (r, inl refl, inside)
    | inr other ↦ let k = of.some p other in (k.0, inr k.1, k.2)
  ];
  whole = λ x i. elim i [
    | inl same ↦
        subst (λ (y : Record). (longer.first ≤ y.range.first) × (y.range.first + y.range.pages ≤ longer.first + longer.pages)) (sym same)
        (elim s.1 [
          | inl first ↦ (omega (arith, first.0), omega (arith, s.0, first.0))
          | inr second ↦ (omega (arith, second.0, second.1), omega (arith, s.0, second.0, second.1))
        ])
    | inr other ↦
        let k = of.whole x other in
        elim s.1 [
          | inl first ↦ (omega (arith, first.0, first.1, k.0), omega (arith, s.0, first.0, first.1, k.1))
          | inr second ↦ (omega (arith, second.0, k.0), omega (arith, s.0, second.0, k.1))
        ]
  ];
}

-- the range of some of the records with the one before them
pub range_before : (all : List Record) (i : ℕ) (r : Record) (range longer : Range) → 0 < i → i < length all
    → AreJoined (slice_index_or all (i - 1) r).range range longer → IsRangeOf range (drop i all)
    → IsRangeOf longer (drop (i - 1) all)
range_before all i r range longer some less s of =
    let e : drop (i - 1) all ≡ slice_index_or all (i - 1) r ∷ drop i all =
    drop_more all (i - 1) r (omega (arith, some, less))
    ∙ ap (λ n. slice_index_or all (i - 1) r ∷ drop n all) (omega (arith, some)) in
    subst (λ rs. IsRangeOf longer rs) (sym e) (range_more (slice_index_or all (i - 1) r) (drop i all) range longer s of)

-- it has a page
range_some : (pool : Pool) (space : Space) (records : List Record) (range : Range) → AreReleasable pool space records
    → 0 < length records → IsRangeOf range records → 1 ≤ range.pages
range_some pool space [] range are some of = absurd (omega (arith, some))
range_some pool space (r ∷ rs) range are some of =
    let w = piece_some 1 (piece_of r.range Retired) space.pieces are.is_space.ordered (are.pieces r (inl refl)) in
    let k = of.whole r (inl refl) in omega (arith, w.0, w.1, k.0, k.1)

-- the pieces of the records are a run
pub run_of : (pool : Pool) (space : Space) (records : List Record) (range : Range) → AreReleasable pool space records
    → 0 < length records → IsRangeOf range records → IsRun (piece_of range Retired) space.pieces
run_of pool space records range are there of page h =
    let some = range_some pool space records range are there of in
    let k = of.some page (h.0, omega (arith, h.0, h.1, some)) in
    let w = of.whole k.0 k.1 in
    (piece_of k.0.range Retired, are.pieces k.0 k.1, (k.2.0, omega (arith, k.2.1)), refl, w.0, omega (arith, w.1))

-- ---- frames

-- the frames of the first records were given back
pub record GivesBack (pool : Pool) (records : List Record) (pool1 : Pool) : Type 0 where
  pub free : (f : ℕ) → occurs f pool1.free ≡ occurs f pool.free + held_in records f
  pub more : length pool.free ≤ length pool1.free
  pub words : pool1.words ≡ pool.words
  pub trail : pool1.trail ≡ pool.trail
  pub frames : pool1.frames ≡ pool.frames

pub held_append : (xs ys : List Record) (f : ℕ) → held_in (xs ++ ys) f ≡ held_in xs f + held_in ys f
held_append xs ys f = sum_by-append (λ (y : Record). occurs f y.cut.frames) xs ys

held_part : (all : List Record) (i : ℕ) (r : Record) (f : ℕ) → i < length all → r ≡ slice_index_or all i r
    → held_in (take i all) f + occurs f r.cut.frames ≤ held_in all f
held_part all i r f less is =
    let part = sum_by_more_le (λ (y : Record). occurs f y.cut.frames) all i r less in
    let e : occurs f r.cut.frames ≡ occurs f (slice_index_or all i r).cut.frames = ap (λ (y : Record). occurs f y.cut.frames) is in
    omega (arith, part, e)

held_more : (all : List Record) (i : ℕ) (r : Record) (f : ℕ) → i < length all → r ≡ slice_index_or all i r
    → held_in (take (i + 1) all) f ≡ held_in (take i all) f + occurs f r.cut.frames
held_more all i r f less is =
    ap (λ rs. held_in rs f) (take_more all i r less ∙ ap (λ x. take i all ++ x ∷ []) (sym is))
    ∙ sum_by_push (λ (y : Record). occurs f y.cut.frames) (take i all) r

pub gives_none : (pool : Pool) → GivesBack pool [] pool
gives_none pool = record { free = λ f. omega arith; more = omega arith; words = refl; trail = refl; frames = refl }

module _ (pool pool1 : Pool) (all : List Record) (i : ℕ) (r : Record) (so_far : GivesBack pool (take i all) pool1)
    (less : i < length all) (is : r ≡ slice_index_or all i r) where
  pub gives_once : ((f : ℕ) → occurs f pool.free + held_in all f ≤ 1) → (f : ℕ) → occurs f pool1.free + occurs f r.cut.frames ≤ 1
  gives_once once f = omega (arith, once f, so_far.free f, held_part all i r f less is)

  pub gives_held : (f : ℕ) → 0 < occurs f r.cut.frames → 0 < held_in all f
  gives_held f some = omega (arith, some, held_part all i r f less is)

  pub gives_more : (pool2 : Pool) → ((f : ℕ) → occurs f pool2.free ≡ occurs f pool1.free + occurs f r.cut.frames)
      → length pool1.free ≤ length pool2.free → pool2.words ≡ pool1.words → pool2.trail ≡ pool1.trail → pool2.frames ≡ pool1.frames
      → GivesBack pool (take (i + 1) all) pool2
  gives_more pool2 free more words trail frames = record {
    free = λ f. omega (arith, free f, so_far.free f, held_more all i r f less is);
    more = omega (arith, more, so_far.more);
    words = words ∙ so_far.words;
    trail = trail ∙ so_far.trail;
    frames = frames ∙ so_far.frames;
  }

-- ---- pages and frames

pub released_run : (pool pool1 : Pool) (space space1 : Space) (records : List Record) (range : Range) → AreReleasable pool space records
    → 0 < length records → IsRangeOf range records → IsSpace space1 → FreesRun space space1 range Retired
    → ((other : Range) → MayRetire space.pieces other → MayRetire space1.pieces other) → GivesBack pool records pool1
    → ReleasesAll pool space records pool1 space1
released_run pool pool1 space space1 records range are there of is frees retirable gives = record {
  is_space = is;
  last = ap (λ (a : Space). a.last) frees.is;
  inside = λ r i p w. let k = of.whole r i in frees.states.inside p (omega (arith, k.0, w.0), omega (arith, k.1, w.1));
  outside = λ p none. frees.states.outside p (λ w. let k = of.some p w in none k.0 k.1 k.2);
  in_use = λ q used. (
    (λ i. let was = (frees.in_use q used).0 i in (was.0, λ r r_in. differs q r r_in was.1)),
    (λ both. (frees.in_use q used).1 (both.0, apart q both.0 both.1)),
  );
  fewer = frees.fewer;
  retirable = retirable;
  free = gives.free;
  more = gives.more;
  words = gives.words;
  trail = gives.trail;
  frames = gives.frames;
  zeroed = λ f more. subst (λ ws. IsZeroed ws f) (sym gives.words) (are.zeroed f (omega (arith, more, gives.free f)));
}
  where
    of_record : (r : Record) → IsIn r records → (1 ≤ r.range.first) × (r.range.first ≤ r.range.first + r.range.pages - 1)
    of_record r i = piece_some 1 (piece_of r.range Retired) space.pieces are.is_space.ordered (are.pieces r i)

    -- a piece that shares no page with the run is none of its records'
    differs : (q : Piece) (r : Record) → IsIn r records
        → ((page : ℕ) → Holds (piece_of range Retired) page → Holds q page → ⊥) → q ≢ piece_of r.range Retired
    differs q r i none same =
        let w = of_record r i in
        let k = of.whole r i in
        none r.range.first (k.0, omega (arith, k.1, w.0, w.1))
        (subst (λ (x : Piece). (x.first ≤ r.range.first) × (r.range.first ≤ x.last)) (sym same) (omega arith, w.1))

    -- and one that is none of theirs shares none
    apart : (q : Piece) → IsIn q space.pieces → ((r : Record) → IsIn r records → q ≢ piece_of r.range Retired)
        → (page : ℕ) → Holds (piece_of range Retired) page → Holds q page → ⊥
    apart q i none page h holds =
        let some = range_some pool space records range are there of in
        let k = of.some page (h.0, omega (arith, h.0, h.1, some)) in
        none k.0 k.1 (in_one 1 q (piece_of k.0.range Retired) space.pieces page are.is_space.ordered i (are.pieces k.0 k.1) holds
        (k.2.0, omega (arith, k.2.1)))

-- ---- the last ones, and then others

-- all from a place on
pub from_place : (xs : List Record) (i : ℕ) → take (length xs - i) (drop i xs) ≡ drop i xs
from_place xs i = ap (λ n. take n (drop i xs)) (sym (length-drop i xs)) ∙ take-length (drop i xs)

differ_parts : (rest last : List Record) → AllDiffer (rest ++ last)
    → ((x y : Record) → IsIn x rest → IsIn y last → piece_of x.range Retired ≢ piece_of y.range Retired) × AllDiffer rest
unfolding AllDiffer
differ_parts [] last all = (λ x y none. absurd none, tt)
differ_parts (z ∷ zs) last all =
    let later = differ_parts zs last all.1 in (
      λ x y i j. elim i [
        | inl same ↦ subst (λ (w : Record). piece_of w.range Retired ≢ piece_of y.range Retired) (sym same)
            (all.0 y (in_right y zs last j))
        | inr other ↦ later.0 x y other j
      ],
      (λ q i. all.0 q (in_left q zs last i), later.1),
    )

differ_behind : (rest last : List Record) → AllDiffer (rest ++ last) → AllDiffer last
unfolding AllDiffer
differ_behind [] last all = all
differ_behind (z ∷ zs) last all = differ_behind zs last all.1

-- the last ones can be released where all can
pub last_releasable : (pool : Pool) (space : Space) (rest last : List Record) → AreReleasable pool space (rest ++ last)
    → AreReleasable pool space last
last_releasable pool space rest last are = record {
  is_space = are.is_space;
  pieces = λ x i. are.pieces x (in_right x rest last i);
  differ = differ_behind rest last are.differ;
  once = λ f. omega (arith, are.once f, held_append rest last f);
  within = λ f some. are.within f (omega (arith, some, held_append rest last f));
  zeroed = λ f some. are.zeroed f (omega (arith, some, held_append rest last f));
}

-- and the others then
pub rest_releasable : (pool pool1 : Pool) (space space1 : Space) (rest last : List Record) → AreReleasable pool space (rest ++ last)
    → ReleasesAll pool space last pool1 space1 → AreReleasable pool1 space1 rest
rest_releasable pool pool1 space space1 rest last are went =
    let differ = differ_parts rest last are.differ in
    record {
      is_space = went.is_space;
      pieces = λ x i. (went.in_use (piece_of x.range Retired) (λ e. cc)).1
          (are.pieces x (in_left x rest last i), λ y j. differ.0 x y i j);
      differ = differ.1;
      once = λ f. omega (arith, are.once f, held_append rest last f, went.free f);
      within = λ f some. let less = are.within f (omega (arith, some, held_append rest last f)) in omega (arith, less, went.frames);
      zeroed = λ f some. subst (λ ws. IsZeroed ws f) (sym went.words)
          (are.zeroed f (omega (arith, some, held_append rest last f, went.free f)));
    }

-- what is released in two steps
pub releases_both : (pool pool1 pool2 : Pool) (space space1 space2 : Space) (first last : List Record)
    → ReleasesAll pool space last pool1 space1 → ReleasesAll pool1 space1 first pool2 space2
    → ReleasesAll pool space (first ++ last) pool2 space2
releases_both pool pool1 pool2 space space1 space2 first last one two = record {
  is_space = two.is_space;
  last = two.last ∙ one.last;
  inside = λ r i p w. elim (in_parts r first last i) [
    | inl now ↦ two.inside r now p w
    | inr before ↦ stays p (one.inside r before p w)
  ];
  outside = λ p none. two.outside p (λ r i w. none r (in_left r first last i) w)
      ∙ one.outside p (λ r i w. none r (in_right r first last i) w);
  in_use = λ q used. (
    λ i.
        let now = (two.in_use q used).0 i in
        let was = (one.in_use q used).0 now.0 in
        (was.0, λ r r_in. elim (in_parts r first last r_in) [ inl x ↦ now.1 r x | inr x ↦ was.1 r x ]),
    λ both. (two.in_use q used).1 (
      (one.in_use q used).1 (both.0, λ r i. both.1 r (in_right r first last i)),
      λ r i. both.1 r (in_left r first last i),
    ),
  );
  fewer = omega (arith, two.fewer, one.fewer);
  retirable = λ other may. two.retirable other (one.retirable other may);
  free = λ f. omega (arith, two.free f, one.free f, held_append first last f);
  more = omega (arith, two.more, one.more);
  words = two.words ∙ one.words;
  trail = two.trail ∙ one.trail;
  frames = two.frames ∙ one.frames;
  zeroed = two.zeroed;
}
  where
    in_parts : (r : Record) (xs ys : List Record) → IsIn r (xs ++ ys) → IsIn r xs ⊎ IsIn r ys
    in_parts r [] ys i = inr i
    in_parts r (x ∷ xs) ys (inl same) = inl (inl same)
    in_parts r (x ∷ xs) ys (inr rest) = elim (in_parts r xs ys rest) [ inl a ↦ inl (inr a) | inr b ↦ inr b ]

    held_or_not : (p : ℕ) (rs : List Record) → ((r : Record) × IsIn r rs × IsWithin r.range p)
        ⊎ ((r : Record) → IsIn r rs → IsWithin r.range p → ⊥)
    held_or_not p [] = inr (λ r none w. absurd none)
    held_or_not p (r ∷ rs) = elim (within_or_not r.range p) [
      | inl inside ↦ inl (r, inl refl, inside)
      | inr out ↦ elim (held_or_not p rs) [
        | inl k ↦ inl (k.0, inr k.1, k.2)
        | inr none ↦ inr (λ x i. elim i [
          | inl same ↦ subst (λ (y : Record). IsWithin y.range p → ⊥) (sym same) (not_within r.range p out)
          | inr other ↦ none x other
        ])
      ]
    ]

    -- a page that is free stays so, whether a record that is released then has it or not
    stays : (p : ℕ) → state_at space1.pieces p ≡ Some Free → state_at space2.pieces p ≡ Some Free
    stays p free = elim (held_or_not p first) [
      | inl held ↦ two.inside held.0 held.1 p held.2
      | inr none ↦ two.outside p none ∙ free
    ]

-- the last ones more
pub releasing_last : (pool pool1 pool2 : Pool) (space space1 space2 : Space) (all now rest : List Record)
    → IsReleasing pool space all pool1 space1 now → ReleasesLast pool1 space1 now pool2 space2 rest
    → IsReleasing pool space all pool2 space2 rest
releasing_last pool pool1 pool2 space space1 space2 all now rest so_far went = record {
  done = went.last ++ so_far.done;
  parts = sym (append_assoc rest went.last so_far.done) ∙ ap (λ rs. rs ++ so_far.done) went.parts ∙ so_far.parts;
  released = releases_both pool pool1 pool2 space space1 space2 went.last so_far.done so_far.released went.releases;
  ready = rest_releasable pool1 pool2 space1 space2 rest went.last
      (subst (λ rs. AreReleasable pool1 space1 rs) (sym went.parts) so_far.ready) went.releases;
}

-- each of those that are left is one of all
pub releasing_among : (pool pool1 : Pool) (space space1 : Space) (all rest : List Record) → IsReleasing pool space all pool1 space1 rest
    → (r : Record) → IsIn r rest → IsIn r all
releasing_among pool pool1 space space1 all rest so_far r i =
    subst (λ rs. IsIn r rs) so_far.parts (in_left r rest so_far.done i)
