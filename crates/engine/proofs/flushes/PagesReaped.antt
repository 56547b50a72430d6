-- Pages of a domain, once some of its retired records come free and the others are left.
use Rattle.std.proofs.Common.{◌≡◌, ℕ, inl, inr, Bool, not, List, filter, IsSome, Some, sym, ◌∙◌}
use Rattle.dmatypes.specs.World.{Retired, IsIn}
use Rattle.dmatypes.specs.World as world
use Rattle.dmatypes.proofs.lists.Filtered.{in_filter}
use Rattle.piece_tree.specs.declared.piece.PageState.TheVariants.{Free}
use Rattle.piece_tree.specs.declared.piece.PageState.TheVariants as pages
use Rattle.iova.specs.Pieces.{piece_of, state_at}
use Rattle.iova.specs.Space.{Space, IsSpace}
use Rattle.engine.specs.Quarantine.{PartsPages}
use Rattle.engine.proofs.flushes.Parted.{HasPage, apart_filter, has_or_not, in_part, parts_apart}
use Rattle.engine.proofs.unmaps.Pages.{free_not_live, free_not_retired, is_page, live_not_retired, not_some}

module _ (space space' : Space) (v : world.Domain) (test : Retired → Bool) (parts : PartsPages space v) (is : IsSpace space')
    (last : space'.last ≡ space.last)
    (inside : (p : ℕ) → HasPage (filter test v.retired) p → state_at space'.pieces p ≡ Some Free)
    (outside : (p : ℕ) → (HasPage (filter test v.retired) p → ⊥) → state_at space'.pieces p ≡ state_at space.pieces p)
    (ranges : (r : Retired) → IsIn r (filter (λ x. not (test x)) v.retired) → IsIn (piece_of r.range pages.Retired) space'.pieces) where
  abbrev gone : List Retired
  gone = filter test v.retired

  abbrev left : List Retired
  left = filter (λ x. not (test x)) v.retired

  -- one that goes was retired
  was_retired : (p : ℕ) → HasPage gone p → state_at space.pieces p ≡ Some pages.Retired
  was_retired p some = (parts.retired p).1 (some.0, (in_filter test some.0 v.retired some.1).0, some.2)

  not_live : (p : ℕ) → HasPage gone p → IsSome (v.live p) → ⊥
  not_live p some live = live_not_retired (state_at space.pieces p) ((parts.live p).1 live) (was_retired p some)

  not_left : (p : ℕ) → HasPage gone p → HasPage left p → ⊥
  not_left p some other = parts_apart test v.retired some.0 other.0 parts.apart some.1 other.1 p some.2 other.2

  -- one that doesn't is left
  is_left : (p : ℕ) → (HasPage gone p → ⊥) → HasPage v.retired p → HasPage left p
  is_left p none some = elim (in_part test some.0 v.retired some.1) [
    | inl goes ↦ absurd (none (some.0, goes, some.2))
    | inr stays ↦ (some.0, stays, some.2)
  ]

  of_left : (p : ℕ) → HasPage left p → HasPage v.retired p
  of_left p some = (some.0, (in_filter (λ x. not (test x)) some.0 v.retired some.1).0, some.2)

  -- the pages of those that go are free then, and no other page changes
  pub pieces_reaped : PartsPages space' (record v { retired = filter (λ x. not (test x)) v.retired })
  pieces_reaped = record {
    is_space = is;
    whole = last ∙ parts.whole;
    free = λ p. elim (has_or_not gone p) [
      | inl some ↦ (
        λ e. (
          is_page space v p pages.Retired parts (was_retired p some),
          record {
            not_live = not_some (v.live p) (not_live p some);
            not_retired = λ r i in_record. not_left p some (r, i, in_record);
          },
        ),
        λ both. inside p some,
      )
      | inr none ↦ (
        λ e. let old = (parts.free p).0 (sym (outside p none) ∙ e) in (
          old.0,
          record {
            not_live = old.1.not_live;
            not_retired = λ r i in_record. let was = of_left p (r, i, in_record) in old.1.not_retired was.0 was.1 was.2;
          },
        ),
        λ both. outside p none ∙ (parts.free p).1 (
          both.0,
          record {
            not_live = both.1.not_live;
            not_retired = λ r i in_record. let now = is_left p none (r, i, in_record) in both.1.not_retired now.0 now.1 now.2;
          },
        ),
      )
    ];
    live = λ p. elim (has_or_not gone p) [
      | inl some ↦ (
        λ e. absurd (free_not_live (state_at space'.pieces p) (inside p some) e),
        λ live. absurd (not_live p some live),
      )
      | inr none ↦ (λ e. (parts.live p).0 (sym (outside p none) ∙ e), λ live. outside p none ∙ (parts.live p).1 live)
    ];
    retired = λ p. elim (has_or_not gone p) [
      | inl some ↦ (
        λ e. absurd (free_not_retired (state_at space'.pieces p) (inside p some) e),
        λ other. absurd (not_left p some other),
      )
      | inr none ↦ (
        λ e. is_left p none ((parts.retired p).0 (sym (outside p none) ∙ e)),
        λ other. outside p none ∙ (parts.retired p).1 (of_left p other),
      )
    ];
    ranges = ranges;
    apart = apart_filter (λ x. not (test x)) v.retired parts.apart;
    targets_known = λ r p i in_record. parts.targets_known r p (in_filter (λ x. not (test x)) r v.retired i).0 in_record;
  }
