-- The pieces of a domain's address space, and its pages.
use Rattle.std.proofs.Common.{◌≡◌, ℕ, ◌+◌, ◌-◌, ◌%◌, ◌<◌, ◌≤◌, ◌⊎◌, inl, inr, List, [], Option, Some, refl, sym, ap, ◌∙◌, arith}
use Rattle.std.proofs.lemmas.Option.{none-some}
use Rattle.dmatypes.specs.declared.call.Mode.{Mode}
use Rattle.dmatypes.specs.Page.{Range, IsWithin}
use Rattle.std.specs.Option.{option_or}
use Rattle.dmatypes.specs.Conditions.{total_pages}
use Rattle.dmatypes.specs.World.{Target, AreFreePages, empty_domain, mapped, placed}
use Rattle.dmatypes.specs.World as world
use Rattle.dmatypes.specs.declared.call.Segment.{Segment}
use Rattle.dmatypes.proofs.numbers.Ranges.{within_or_not}
use Rattle.piece_tree.specs.declared.piece.PageState.{PageState}
use Rattle.piece_tree.specs.declared.piece.PageState.TheVariants.{Free, Live, Retired}
use Rattle.iova.specs.Changes.{Takes}
use Rattle.iova.specs.Pieces.{piece_of, state_at}
use Rattle.iova.specs.Space.{Space, AllFree, IsFit, IsSpace}
use Rattle.engine.specs.Quarantine.{AllApart, PartsPages}
use Rattle.engine.proofs.maps.Segments.{placed_inside, placed_outside}
use Rattle.dmatypes.specs.Page.{pages_end}
use Rattle.dmatypes.specs.declared.width.Width.{Width}
use Rattle.dmatypes.specs.declared.width.Width.TheVariants.{W39, W48}

-- ---- free pages

-- the starts of the space are those where each page is free
pub free_pages : (space : Space) (v : world.Domain) (pages unit s : ℕ) → PartsPages space v → IsFit space.pieces pages unit s
    → AreFreePages v (record { first = s; pages = pages })
free_pages space v pages unit s parts fit p inside = (parts.free p).0 (fit.free p inside)

pub fit_of : (space : Space) (v : world.Domain) (pages unit s : ℕ) → PartsPages space v → s % unit ≡ 0
    → AreFreePages v (record { first = s; pages = pages }) → IsFit space.pieces pages unit s
fit_of space v pages unit s parts aligned free = record { aligned = aligned; free = λ p inside. (parts.free p).1 (free p inside) }

-- a page of no free piece is not free, and so on: a page has one state
two_states : (space : Space) (p : ℕ) (a b : PageState) → state_at space.pieces p ≡ Some a → state_at space.pieces p ≡ Some b
    → Some a ≡ Some b
two_states space p a b x y = sym x ∙ y

-- ---- a new space

none_apart : AllApart []
unfolding AllApart
none_apart = tt

some_pages : (width : Width) → 0 < pages_end width
some_pages W39 = omega arith
some_pages W48 = omega arith

pub pieces_new : (space : Space) (mode : Mode) (width : Width) → IsSpace space → AllFree space → space.last ≡ pages_end width - 1
    → PartsPages space (empty_domain mode width)
pieces_new space mode width is all whole = record {
  is_space = is;
  whole = whole;
  free =
      λ p. (
        λ e.
            let page = is.others p (rw e refl) in
            ((page.0, omega (arith, whole, page.1, some_pages width)), record { not_live = refl; not_retired = λ r i inside. i }),
        λ both. all p (both.0.0, omega (arith, whole, both.0.1)),
      );
  live = λ p. (λ e. let no : Some Live ≡ Some Free = only p Live e in absurd cc, λ none. absurd cc);
  retired = λ p. (λ e. let no : Some Retired ≡ Some Free = only p Retired e in absurd cc, λ some. absurd some.1);
  ranges = λ r i. absurd i;
  apart = none_apart;
  targets_known = λ r p i inside. absurd i;
} where
  only : (p : ℕ) (s : PageState) → state_at space.pieces p ≡ Some s → Some s ≡ Some Free
  only p s e = two_states space p s Free e (all p (is.others p (rw e refl)))

-- ---- pages that were taken

-- what a map makes of a page of its range, and of any other
pub mapped_inside : (v : world.Domain) (segments : List Segment) (first rights p : ℕ)
    → IsWithin (record { first = first; pages = total_pages segments }) p
    → (mapped segments first rights v).live p ≡ placed segments first rights p
mapped_inside v segments first rights p inside =
    let at = placed_inside segments first rights p inside in ap (λ (o : Option Target). option_or o (v.live p)) at.1 ∙ sym at.1

pub mapped_outside : (v : world.Domain) (segments : List Segment) (first rights p : ℕ) → ((p < first) ⊎ (first + total_pages segments ≤ p))
    → (mapped segments first rights v).live p ≡ v.live p
mapped_outside v segments first rights p past =
    ap (λ (o : Option Target). option_or o (v.live p)) (placed_outside segments first rights p past)

-- a page of the range is live then
live_inside : (v : world.Domain) (segments : List Segment) (first rights p : ℕ)
    → IsWithin (record { first = first; pages = total_pages segments }) p
    → (t : Target) × ((mapped segments first rights v).live p ≡ Some t)
live_inside v segments first rights p inside =
    let at = placed_inside segments first rights p inside in (at.0, mapped_inside v segments first rights p inside ∙ at.1)

not_within : (r : Range) (p : ℕ) → ((p < r.first) ⊎ (r.first + r.pages ≤ p)) → IsWithin r p → ⊥
not_within r p (inl h) inside = omega (arith, h, inside.0)
not_within r p (inr h) inside = omega (arith, h, inside.1)

pub pieces_mapped : (space new : Space) (v : world.Domain) (segments : List Segment) (first rights : ℕ) → PartsPages space v
    → Takes space new (record { first = first; pages = total_pages segments }) → IsSpace new
    → PartsPages new (mapped segments first rights v)
pieces_mapped space new v segments first rights parts takes is = record {
  is_space = is;
  whole = ap (λ (a : Space). a.last) takes.is ∙ parts.whole;
  free = λ p. elim (within_or_not range p) [
    | inl inside ↦ (
      λ e. let no : Some Free ≡ Some Live = two_states new p Free Live e (takes.states.inside p inside) in absurd cc,
      λ both. let now = live_inside v segments first rights p inside in absurd (none-some now.0 (sym both.1.not_live ∙ now.1)),
    )
    | inr past ↦ (
      λ e.
          let old =
          (parts.free p).0 (sym (takes.states.outside p (not_within range p past)) ∙ e) in
          (old.0, record { not_live = mapped_outside v segments first rights p past ∙ old.1.not_live; not_retired = old.1.not_retired }),
      λ both. takes.states.outside p (not_within range p past)
          ∙ (parts.free p).1 (
            both.0,
            record { not_live = sym (mapped_outside v segments first rights p past) ∙ both.1.not_live; not_retired = both.1.not_retired },
          ),
    )
  ];
  live = λ p. elim (within_or_not range p) [
    | inl inside ↦ (λ e. rw (live_inside v segments first rights p inside).1 refl, λ some. takes.states.inside p inside)
    | inr past ↦ (
      λ e.
          rw (mapped_outside v segments first rights p past)
          ((parts.live p).0 (sym (takes.states.outside p (not_within range p past)) ∙ e)),
      λ some.
          takes.states.outside p (not_within range p past)
          ∙ (parts.live p).1 (rw (mapped_outside v segments first rights p past) at some),
    )
  ];
  retired = λ p. elim (within_or_not range p) [
    | inl inside ↦ (
      λ e. let no : Some Retired ≡ Some Live = two_states new p Retired Live e (takes.states.inside p inside) in absurd cc,
      λ some.
          let no : Some Retired ≡ Some Free = two_states space p Retired Free ((parts.retired p).1 some) (takes.free p inside) in absurd cc,
    )
    | inr past ↦ (
      λ e. (parts.retired p).0 (sym (takes.states.outside p (not_within range p past)) ∙ e),
      λ some. takes.states.outside p (not_within range p past) ∙ (parts.retired p).1 some,
    )
  ];
  ranges = λ r i. (takes.in_use (piece_of r.range Retired) (λ e. cc)).1 (inr (parts.ranges r i));
  apart = parts.apart;
  targets_known = parts.targets_known;
} where
  range : Range
  range = record { first = first; pages = total_pages segments }
