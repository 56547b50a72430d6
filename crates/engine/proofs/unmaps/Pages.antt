-- Pages of a domain that are unmapped, for good or put off, and retired ones that come free.
use Rattle.std.proofs.Common.{◌≡◌, ℕ, ◌+◌, ◌-◌, ◌<◌, ◌≤◌, ◌⊎◌, inl, inr, List, [], ◌∷◌, ◌++◌, Option, Some, None, IsSome, refl, sym, ap}
use Rattle.std.proofs.Common.{subst, ◌∙◌, arith}
use Rattle.dmatypes.specs.Page.{Range, IsPageOf, IsPageRange, IsWithin}
use Rattle.dmatypes.specs.World.{Target, Retired, IsIn, flushed, put_off, record_of, restricted, unmapped, without}
use Rattle.dmatypes.specs.World as world
use Rattle.dmatypes.proofs.numbers.Ranges.{HasEnds, to_ends, within_is, within_not, within_or_not}
use Rattle.piece_tree.specs.declared.piece.PageState.{PageState}
use Rattle.piece_tree.specs.declared.piece.PageState.TheVariants.{Free, Live}
use Rattle.piece_tree.specs.declared.piece.PageState.TheVariants as pages
use Rattle.piece_tree.specs.declared.piece.Piece.{Piece}
use Rattle.iova.specs.Changes.{Frees, Retires}
use Rattle.iova.specs.Pieces.{AllIn, piece_of, state_at}
use Rattle.iova.specs.Space.{Space, IsSpace}
use Rattle.engine.specs.Quarantine.{AllApart, AreApart, IsInRecord, PartsPages}
use Rattle.engine.proofs.lists.Membership.{in_either, in_last, in_left}

-- ---- one page

pub without_inside : (range : Range) (live : ℕ → Option Target) (p : ℕ) → IsWithin range p → without range live p ≡ None
without_inside range live p inside = rw (within_is range p inside) refl

pub without_outside : (range : Range) (live : ℕ → Option Target) (p : ℕ) → ((p < range.first) ⊎ (range.first + range.pages ≤ p))
    → without range live p ≡ live p
without_outside range live p past = rw (within_not range p past) refl

pub restricted_inside : (range : Range) (live : ℕ → Option Target) (p : ℕ) → IsWithin range p → restricted range live p ≡ live p
restricted_inside range live p inside = rw (within_is range p inside) refl

pub not_within : (r : Range) (p : ℕ) → ((p < r.first) ⊎ (r.first + r.pages ≤ p)) → IsWithin r p → ⊥
not_within r p (inl before) inside = omega (arith, before, inside.0)
not_within r p (inr behind) inside = omega (arith, behind, inside.1)

-- a page has one state
pub free_not_live : (o : Option PageState) → o ≡ Some Free → o ≡ Some Live → ⊥
free_not_live o free live = let no : Some Free ≡ Some Live = sym free ∙ live in cc

pub free_not_retired : (o : Option PageState) → o ≡ Some Free → o ≡ Some pages.Retired → ⊥
free_not_retired o free retired = let no : Some Free ≡ Some pages.Retired = sym free ∙ retired in cc

pub live_not_retired : (o : Option PageState) → o ≡ Some Live → o ≡ Some pages.Retired → ⊥
live_not_retired o live retired = let no : Some Live ≡ Some pages.Retired = sym live ∙ retired in cc

-- a page with a state is a page
pub is_page : (space : Space) (v : world.Domain) (p : ℕ) (s : PageState) → PartsPages space v → state_at space.pieces p ≡ Some s
    → IsPageOf v.width p
is_page space v p s parts at =
    let page = parts.is_space.others p (rw at refl) in
    let some = parts.is_space.some in
    (page.0, omega (arith, page.1, parts.whole, some))

-- ---- records that are apart

none_apart : AllApart []
unfolding AllApart
none_apart = tt

-- one more that is apart from each
apart_last : (rs : List Retired) (r : Retired) → ((q : Retired) → IsIn q rs → AreApart q.range r.range) → AllApart rs
    → AllApart (rs ++ r ∷ [])
unfolding AllApart
apart_last [] r new old = (λ q none. absurd none, tt)
apart_last (x ∷ rs) r new old = (
  λ q i. elim (in_either q r rs i) [
    | inl before ↦ old.0 q before
    | inr last ↦ subst (λ (y : Retired). AreApart x.range y.range) (sym last) (new x (inl refl))
  ],
  apart_last rs r (λ q i. new q (inr i)) old.1,
)

-- ---- live pages

module _ (space : Space) (v : world.Domain) (range : Range) (parts : PartsPages space v) (live : AllIn Live range space.pieces) where
  -- no record has a live page
  record_apart : (r : Retired) → IsIn r v.retired → AreApart r.range range
  record_apart r inside p in_record in_range =
      live_not_retired (state_at space.pieces p) (live p in_range) ((parts.retired p).1 (r, inside, in_record))

  -- so its piece is another one
  piece_other : HasEnds range → (r : Retired) → IsIn r v.retired → piece_of r.range pages.Retired ≡ piece_of range pages.Retired → ⊥
  piece_other ends r inside same =
      let first : r.range.first ≡ range.first = ap (λ (x : Piece). x.first) same in
      let last : r.range.first + r.range.pages - 1 ≡ range.first + range.pages - 1 = ap (λ (x : Piece). x.last) same in
      record_apart r inside range.first (omega (arith, first), omega (arith, first, last, ends.some, ends.first))
      (omega arith, omega (arith, ends.some))

  -- ---- a strict unmap

  pub pieces_unmapped : (space1 space2 : Space) → IsPageRange range → Retires space space1 range → Frees space1 space2 range pages.Retired
      → IsSpace space2 → PartsPages space2 (unmapped range v)
  pieces_unmapped space1 space2 fits retires frees is = record {
    is_space = is;
    whole = ap (λ (a : Space). a.last) frees.is ∙ ap (λ (a : Space). a.last) retires.is ∙ parts.whole;
    free = λ p. elim (within_or_not range p) [
      | inl inside ↦ (
        λ e. (
          is_page space v p Live parts (live p inside),
          record { not_live = without_inside range v.live p inside; not_retired = λ r i in_record. record_apart r i p in_record inside },
        ),
        λ both. frees.states.inside p inside,
      )
      | inr past ↦ (
        λ e.
            let old =
            (parts.free p).0 (sym (stays p past) ∙ e) in
            (old.0, record { not_live = without_outside range v.live p past ∙ old.1.not_live; not_retired = old.1.not_retired }),
        λ both.
            stays p past
            ∙ (parts.free p).1
            (both.0, record { not_live = sym (without_outside range v.live p past) ∙ both.1.not_live; not_retired = both.1.not_retired }),
      )
    ];
    live = λ p. elim (within_or_not range p) [
      | inl inside ↦ (
        λ e. absurd (free_not_live (state_at space2.pieces p) (frees.states.inside p inside) e),
        λ some. absurd (none_is (without_inside range v.live p inside) some),
      )
      | inr past ↦ (
        λ e. rw (without_outside range v.live p past) ((parts.live p).0 (sym (stays p past) ∙ e)),
        λ some. stays p past ∙ (parts.live p).1 (rw (without_outside range v.live p past) at some),
      )
    ];
    retired = λ p. elim (within_or_not range p) [
      | inl inside ↦ (
        λ e. absurd (free_not_retired (state_at space2.pieces p) (frees.states.inside p inside) e),
        λ some. absurd (record_apart some.0 some.1 p some.2 inside),
      )
      | inr past ↦ (
        λ e. (parts.retired p).0 (sym (stays p past) ∙ e),
        λ some. stays p past ∙ (parts.retired p).1 some,
      )
    ];
    ranges =
        λ r i.
        (frees.in_use (piece_of r.range pages.Retired) (λ e. cc)).1
        ((retires.retired (piece_of r.range pages.Retired) refl).1 (inr (parts.ranges r i)), piece_other (to_ends range fits) r i);
    apart = parts.apart;
    targets_known = parts.targets_known;
  } where
    stays : (p : ℕ) → ((p < range.first) ⊎ (range.first + range.pages ≤ p)) → state_at space2.pieces p ≡ state_at space.pieces p
    stays p past = frees.states.outside p (not_within range p past) ∙ retires.states.outside p (not_within range p past)

    none_is : {o : Option Target} → o ≡ None → IsSome o → ⊥
    none_is e some = let no = rw e at some in cc

  -- ---- a lazy unmap

  last_is : (r : Retired) → r ≡ record_of range v → r.range ≡ range
  last_is r same = ap (λ (x : Retired). x.range) same

  pub pieces_put_off : (space1 : Space) → Retires space space1 range → IsSpace space1 → PartsPages space1 (put_off range v)
  pieces_put_off space1 retires is = record {
    is_space = is;
    whole = ap (λ (a : Space). a.last) retires.is ∙ parts.whole;
    free = λ p. elim (within_or_not range p) [
      | inl inside ↦ (
        λ e. absurd (free_not_retired (state_at space1.pieces p) e (retires.states.inside p inside)),
        λ both. absurd (both.1.not_retired (record_of range v) (in_last (record_of range v) v.retired) inside),
      )
      | inr past ↦ (
        λ e. let old = (parts.free p).0 (sym (retires.states.outside p (not_within range p past)) ∙ e) in (
          old.0,
          record {
            not_live = without_outside range v.live p past ∙ old.1.not_live;
            not_retired = λ r i in_record. elim (in_either r (record_of range v) v.retired i) [
              | inl before ↦ old.1.not_retired r before in_record
              | inr last ↦ not_within range p past (subst (λ (x : Range). IsWithin x p) (last_is r last) in_record)
            ];
          },
        ),
        λ both. retires.states.outside p (not_within range p past) ∙ (parts.free p).1 (
          both.0,
          record {
            not_live = sym (without_outside range v.live p past) ∙ both.1.not_live;
            not_retired = λ r i in_record. both.1.not_retired r (in_left r v.retired (record_of range v ∷ []) i) in_record;
          },
        ),
      )
    ];
    live = λ p. elim (within_or_not range p) [
      | inl inside ↦ (
        λ e. absurd (live_not_retired (state_at space1.pieces p) e (retires.states.inside p inside)),
        λ some. absurd (none_is (without_inside range v.live p inside) some),
      )
      | inr past ↦ (
        λ e. rw (without_outside range v.live p past) ((parts.live p).0 (sym (retires.states.outside p (not_within range p past)) ∙ e)),
        λ some. retires.states.outside p (not_within range p past) ∙ (parts.live p).1 (rw (without_outside range v.live p past) at some),
      )
    ];
    retired = λ p. elim (within_or_not range p) [
      | inl inside ↦ (λ e. (record_of range v, in_last (record_of range v) v.retired, inside), λ some. retires.states.inside p inside)
      | inr past ↦ (
        λ e.
            let old =
            (parts.retired p).0 (sym (retires.states.outside p (not_within range p past)) ∙ e) in
            (old.0, in_left old.0 v.retired (record_of range v ∷ []) old.1, old.2),
        λ some.
            retires.states.outside p (not_within range p past)
            ∙ (parts.retired p).1 (elim (in_either some.0 (record_of range v) v.retired some.1) [
              | inl before ↦ (some.0, before, some.2)
              | inr last ↦ absurd (not_within range p past (subst (λ (x : Range). IsWithin x p) (last_is some.0 last) some.2))
            ]),
      )
    ];
    ranges = λ r i. elim (in_either r (record_of range v) v.retired i) [
      | inl before ↦ (retires.retired (piece_of r.range pages.Retired) refl).1 (inr (parts.ranges r before))
      | inr last ↦ subst (λ (x : Range). IsIn (piece_of x pages.Retired) space1.pieces) (sym (last_is r last)) retires.piece
    ];
    apart = apart_last v.retired (record_of range v) (λ r i. record_apart r i) parts.apart;
    targets_known = λ r p i inside. elim (in_either r (record_of range v) v.retired i) [
      | inl before ↦ parts.targets_known r p before inside
      | inr last ↦ known_last r p last (subst (λ (x : Range). IsWithin x p) (last_is r last) inside)
    ];
  } where
    none_is : {o : Option Target} → o ≡ None → IsSome o → ⊥
    none_is e some = let no = rw e at some in cc

    known_last : (r : Retired) (p : ℕ) → r ≡ record_of range v → IsWithin range p → IsSome (r.targets p)
    known_last r p last inside =
        let is : r.targets p ≡ v.live p = ap (λ (x : Retired). x.targets p) last ∙ restricted_inside range v.live p inside in
        rw is ((parts.live p).0 (live p inside))

-- ---- a flush

-- the page is retired or not
by_state : (o : Option PageState) → (o ≡ Some pages.Retired) ⊎ (o ≡ Some pages.Retired → ⊥)
by_state None = inr (λ e. cc)
by_state (Some Free) = inr (λ e. cc)
by_state (Some Live) = inr (λ e. cc)
by_state (Some pages.Retired) = inl refl

pub not_some : (o : Option Target) → (IsSome o → ⊥) → o ≡ None
not_some None never = refl
not_some (Some x) never = absurd (never refl)

-- retired pages become free, and no other page changes
pub pieces_flushed : (space space' : Space) (v : world.Domain) → PartsPages space v → IsSpace space' → space'.last ≡ space.last
    → ((p : ℕ) → IsInRecord v p → state_at space'.pieces p ≡ Some Free)
    → ((p : ℕ) → (IsInRecord v p → ⊥) → state_at space'.pieces p ≡ state_at space.pieces p) → PartsPages space' (flushed v)
pieces_flushed space space' v parts is last inside outside = record {
  is_space = is;
  whole = last ∙ parts.whole;
  free = λ p. elim (by_state (state_at space.pieces p)) [
    | inl gone ↦ (
      λ e. (
        is_page space v p pages.Retired parts gone,
        record {
          not_live = not_some (v.live p) (λ some. live_not_retired (state_at space.pieces p) ((parts.live p).1 some) gone);
          not_retired = λ r none in_record. none;
        },
      ),
      λ both. inside p ((parts.retired p).0 gone),
    )
    | inr stays ↦ (
      λ e.
          let old =
          (parts.free p).0 (sym (same p stays) ∙ e) in
          (old.0, record { not_live = old.1.not_live; not_retired = λ r none in_record. none }),
      λ both.
          same p stays
          ∙ (parts.free p).1
          (both.0, record { not_live = both.1.not_live; not_retired = λ r i in_record. stays ((parts.retired p).1 (r, i, in_record)) }),
    )
  ];
  live = λ p. elim (by_state (state_at space.pieces p)) [
    | inl gone ↦ (
      λ e. absurd (free_not_live (state_at space'.pieces p) (inside p ((parts.retired p).0 gone)) e),
      λ some. absurd (live_not_retired (state_at space.pieces p) ((parts.live p).1 some) gone),
    )
    | inr stays ↦ (λ e. (parts.live p).0 (sym (same p stays) ∙ e), λ some. same p stays ∙ (parts.live p).1 some)
  ];
  retired = λ p. elim (by_state (state_at space.pieces p)) [
    | inl gone ↦ (λ e. absurd (free_not_retired (state_at space'.pieces p) (inside p ((parts.retired p).0 gone)) e), λ some. absurd some.1)
    | inr stays ↦ (λ e. absurd (stays (sym (same p stays) ∙ e)), λ some. absurd some.1)
  ];
  ranges = λ r none. absurd none;
  apart = none_apart;
  targets_known = λ r p none in_record. absurd none;
} where
  same : (p : ℕ) → (state_at space.pieces p ≡ Some pages.Retired → ⊥) → state_at space'.pieces p ≡ state_at space.pieces p
  same p stays = outside p (λ some. stays ((parts.retired p).1 some))
