-- What a map and an unmap that were done say of their pages.
use Rattle.std.proofs.Common.{◌≡◌, inl, inr, ⊎_elim, ℕ, ◌+◌, ◌-◌, ◌<◌, ◌≤◌, List, [], ◌∷◌, Some, refl, ap, ◌∙◌, arith}
use Rattle.std.proofs.lemmas.Bool.{cases_lt}
use Rattle.std.proofs.lemmas.List.Sums.{sum_by-cons}
use Rattle.dmatypes.specs.Conditions.{IsBadMap, IsBadUnmap, Stands, total_pages}
use Rattle.dmatypes.specs.Page.{pages_end}
use Rattle.dmatypes.specs.Step.{IsStep}
use Rattle.dmatypes.specs.World as world
use Rattle.dmatypes.specs.World.{placed}
use Rattle.dmatypes.specs.declared.call.Call.TheVariants as calls
use Rattle.dmatypes.specs.declared.call.Segment.{Segment}
use Rattle.dmatypes.specs.declared.reply.Reply.TheVariants.{Mapped, Unmapped}
use Rattle.moments.specs.Moments.{IsMap}
use Rattle.engine.specs.Domains.{Domain, domain_at}
use Rattle.engine.specs.Placing.{Placement, Places, range_of}
use Rattle.engine.specs.State.{State}
use Rattle.engine.specs.Steps.{Does}
use Rattle.engine.proofs.domains.OneChanged.{both_there}
use Rattle.quiet.proofs.Changes.{below_end}
use Rattle.quiet.specs.Quiet.{IsSound}

-- ---- how many pages

-- segments that may be mapped have a page
pub some_pages : (ss : List Segment) (order rights : ℕ) → (IsBadMap ss order rights → ⊥) → 1 ≤ total_pages ss
some_pages [] order rights good = absurd (good (inl refl))
some_pages (s ∷ ss) order rights good =
    ⊎_elim (λ (some : 0 < s.pages). omega (arith, some, sum_by-cons (λ (x : Segment). x.pages) s ss))
    (λ (none : s.pages ≤ 0). absurd (good (inr (inl (inl (omega (arith, none))))))) (cases_lt 0 s.pages)

-- so has a range that may be unmapped
some_range : (width : _) (address pages : ℕ) → (IsBadUnmap width address pages → ⊥) → 1 ≤ pages
some_range width address pages good =
    ⊎_elim (λ (some : 0 < pages). some)
    (λ (none : pages ≤ 0). absurd (good (inr (λ both. absurd (omega (arith, both.0.some, none)))))) (cases_lt 0 pages)

-- ---- a map

-- its pages were absent in the tree, and the tree maps them
pub own_map : (m t : State) (e : ℕ) (k new : Domain) (at : Placement) → IsSound m → domain_at m.domains e ≡ Some k
    → 1 ≤ total_pages at.segments → Places m.pool k at t.pool new
    → IsMap m.pool t.pool k.width k.root (range_of at) (placed at.segments at.first at.rights)
own_map m t e k new at whole here some places =
    let v = both_there m.pool.words (domain_at m.domains e) (whole.of_world.0.domains e) k (whole.of_world.1.domains e) here in
    let last = places.takes.free (at.first + total_pages at.segments - 1) (omega (arith, some), omega (arith, some)) in
    let end = below_end k.space v.0 (at.first + total_pages at.segments - 1) _ v.2.pieces last in
    record {
      zeroed = whole.of_world.1.frames.zeroed;
      below = (some, omega (arith, ap pages_end v.2.ids.width, end, some));
      absent = λ p inside.
          let free = (v.2.pieces.free p).0 (places.takes.free p inside) in
          v.2.tree p (omega (arith, ap pages_end v.2.ids.width, free.0.1)) ∙ free.1.not_live;
      maps = places.maps;
    }

-- ---- a call that was done

-- what a step that was answered isn't refused for
pub not_bad_map : (w : world.World) (d frame pages order rights address : ℕ)
    → IsStep w (calls.Map d frame pages order rights) (Mapped address)
    → IsBadMap (record { frame = frame; pages = pages } ∷ []) order rights → ⊥
unfolding IsStep Stands
not_bad_map w d frame pages order rights address step = step.0.1.0

pub not_bad_list : (w : world.World) (d order rights address : ℕ) (segments : _)
    → IsStep w (calls.MapList d order rights segments) (Mapped address) → IsBadMap segments.items order rights → ⊥
unfolding IsStep Stands
not_bad_list w d order rights address segments step = step.0.1.0

not_bad_unmap : (w : world.World) (d address pages released : ℕ) (v : world.Domain) → w.domains d ≡ Some v
    → IsStep w (calls.Unmap d address pages) (Unmapped released) → IsBadUnmap v.width address pages → ⊥
unfolding IsStep Stands
not_bad_unmap w d address pages released v here step bad = step.0.1.0 (rw here bad)

pub unmap_pages : (m t : State) (d address pages released : ℕ) (h : Domain) → IsSound m → domain_at m.domains d ≡ Some h
    → Does m (calls.Unmap d address pages) (Unmapped released) t → 1 ≤ pages
unmap_pages m t d address pages released h whole here does =
    let v = both_there m.pool.words (domain_at m.domains d) (whole.of_world.0.domains d) h (whole.of_world.1.domains d) here in
    some_range v.0.width address pages
    (not_bad_unmap whole.of_world.0 d address pages released v.0 v.1 (does.steps whole.of_world.0 whole.of_world.1).0)
