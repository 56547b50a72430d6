-- An unmap, from when its words begin to change: in the tree as it was, maybe with more free frames, where records were flushed first.
use Rattle.std.proofs.Common.{◌≡◌, inl, inr, ⊎_elim, ℕ, ◌+◌, ◌-◌, ◌<◌, ◌≤◌, Some, refl, sym, ap, subst, arith}
use Rattle.std.proofs.lemmas.Bool.{cases_lt}
use Rattle.dmatypes.specs.Page.{Range, levels, pages_end}
use Rattle.dmatypes.specs.World as world
use Rattle.dmatypes.specs.declared.call.Mode.{Mode}
use Rattle.dmatypes.specs.declared.call.Mode.TheVariants.{Lazy, Strict}
use Rattle.dmatypes.specs.declared.limits.TheConstants.{MOST_DOMAINS}
use Rattle.iova.specs.Space.{IsSpace}
use Rattle.piece_tree.specs.declared.piece.PageState.TheVariants.{Live}
use Rattle.tables.specs.Changes.{UnmapsPages}
use Rattle.tables.specs.Pool.{IsTree, Pool, memory, occurs}
use Rattle.tables.specs.Tree.{sum_below, uses}
use Rattle.tables.proofs.sums.Firsts.{sum_below_part}
use Rattle.moments.specs.Moments.{AreFreeZeroed, IsUnmap}
use Rattle.engine.specs.declared.record.Record.{Record}
use Rattle.engine.specs.Domains.{Domain, Operands, domain_at, held_in}
use Rattle.engine.specs.Ending.{ByMode, Empties, HasRoom, PutsOff, RetiresAndUnmaps, UnmapsStrictly}
use Rattle.engine.specs.Quarantine.{Mirrors, owned}
use Rattle.engine.specs.State.{State, operands_in}
use Rattle.engine.proofs.domains.OneChanged.{both_there, domain_low}
use Rattle.quiet.proofs.Changes.{space_end}
use Rattle.quiet.specs.Quiet.{IsSound}

-- the pool and the domain before its words change, these after that, and the record of what was cut
pub record Unmapping (m t : State) (k : Domain) (range : Range) (released : ℕ) : Type 0 where
  pub before : Pool
  pub after : Pool
  pub domain : Domain
  pub between : Domain
  pub retired : Record
  pub was : before.words ≡ m.pool.words
  pub is : after.words ≡ t.pool.words
  pub begins : before.trail ≡ m.pool.trail
  pub ends : t.pool.trail ≡ after.trail
  pub frames : before.frames ≡ m.pool.frames
  pub width : domain.width ≡ k.width
  pub root : domain.root ≡ k.root
  -- records have given frames back, if any were released
  pub few : (f : ℕ) → occurs f before.free ≤ occurs f m.pool.free + held_in k.records f
  pub none : released ≡ 0 → (f : ℕ) → occurs f before.free ≤ occurs f m.pool.free
  pub zeroed : AreFreeZeroed before
  pub of_range : retired.range ≡ range
  pub last : domain.space.last ≡ k.space.last
  pub is_space : IsSpace domain.space
  pub retires : RetiresAndUnmaps before domain retired after between

module _ (m t : State) (e : ℕ) (k : Domain) (whole : IsSound m) (here : domain_at m.domains e ≡ Some k) (range : Range) where
  -- the domain of the world
  abbrev mirrored : (v : world.Domain) × (whole.of_world.0.domains e ≡ Some v) × Mirrors m.pool.words k v
  mirrored = both_there m.pool.words (domain_at m.domains e) (whole.of_world.0.domains e) k (whole.of_world.1.domains e) here

  abbrev pub written_strictly : (released : ℕ) (new : Domain) → UnmapsStrictly (operands_in m k) e range (operands_in t new)
      → Unmapping m t k range released
  written_strictly released new u = record {
    before = m.pool;
    after = u.pool_between;
    domain = k;
    between = u.between;
    retired = u.retired;
    was = refl;
    is = sym u.releases.words;
    begins = refl;
    ends = u.releases.trail;
    frames = refl;
    width = refl;
    root = refl;
    few = λ f. omega arith;
    none = λ same f. omega arith;
    zeroed = whole.of_world.1.frames.zeroed;
    of_range = u.of_range;
    last = refl;
    is_space = mirrored.2.pieces.is_space;
    retires = u.retires;
  }

  abbrev pub written_at_once : (released : ℕ) (new : Domain) (p : PutsOff (operands_in m k) e range released (operands_in t new))
      → HasRoom (operands_in m k) released p.roomy → Unmapping m t k range released
  written_at_once released new p has = record {
    before = m.pool;
    after = t.pool;
    domain = k;
    between = p.between;
    retired = p.retired;
    was = refl;
    is = refl;
    begins = refl;
    ends = refl;
    frames = refl;
    width = refl;
    root = refl;
    few = λ f. omega arith;
    none = λ same f. omega arith;
    zeroed = whole.of_world.1.frames.zeroed;
    of_range = p.of_range;
    last = refl;
    is_space = mirrored.2.pieces.is_space;
    retires = subst (λ (y : Operands). RetiresAndUnmaps y.pool y.domain p.retired t.pool p.between) has.same p.retires;
  }

  abbrev pub written_after_flush : (released : ℕ) (new : Domain) (p : PutsOff (operands_in m k) e range released (operands_in t new))
      → Empties (operands_in m k) e released p.roomy → Unmapping m t k range released
  written_after_flush released new p empties =
      let r = empties.flushes.releases in
      record {
        before = p.roomy.pool;
        after = t.pool;
        domain = p.roomy.domain;
        between = p.between;
        retired = p.retired;
        was = r.words;
        is = refl;
        begins = r.trail;
        ends = refl;
        frames = r.frames;
        width = ap (λ (y : Domain). y.width) empties.flushes.same;
        root = ap (λ (y : Domain). y.root) empties.flushes.same;
        few = λ f. omega (arith, r.free f);
        none = λ same f. absurd (omega (arith, same, empties.all));
        zeroed = r.zeroed;
        of_range = p.of_range;
        last = r.last;
        is_space = r.is_space;
        retires = p.retires;
      }

  -- as the mode of the domain ends it
  pub unmapping : (released : ℕ) (new : Domain) (mode : Mode)
      → ByMode mode ((released ≡ 0) × UnmapsStrictly (operands_in m k) e range (operands_in t new))
      (PutsOff (operands_in m k) e range released (operands_in t new)) → Unmapping m t k range released
  unmapping released new Strict does = written_strictly released new does.1
  unmapping released new Lazy does =
      elim does.room [
        | inl has ↦ written_at_once released new does has
        | inr empties ↦ written_after_flush released new does empties
      ]

  module _ (released : ℕ) (u : Unmapping m t k range released) where
    -- the tree is sound then: no frame that a record gave back is one of its tables
    pub own_tree : IsTree u.before (levels k.width) k.root
    own_tree = record {
      once = λ f. ⊎_elim
          (λ (less : f < m.pool.frames). omega (arith, whole.of_world.1.frames.once f less, part f, own f, same f, u.few f))
          (λ (past : m.pool.frames ≤ f). omega (arith, whole.of_world.1.frames.past f past, part f, own f, same f, u.few f))
          (cases_lt f m.pool.frames);
      within = λ f past.
          omega (arith, whole.of_world.1.frames.past f (omega (arith, past, u.frames)), part f, own f, same f, u.few f);
    } where
      part : (f : ℕ) → owned (memory m.pool.words) (domain_at m.domains e) f
          ≤ sum_below (λ x. owned (memory m.pool.words) (domain_at m.domains x) f) (MOST_DOMAINS + 1)
      part f = sum_below_part (λ x. owned (memory m.pool.words) (domain_at m.domains x) f) (MOST_DOMAINS + 1) e
          (domain_low m.domains e k whole.places here)

      own : (f : ℕ) → owned (memory m.pool.words) (domain_at m.domains e) f
          ≡ uses (memory m.pool.words) (levels k.width) k.root f + held_in k.records f
      own f = ap (λ o. owned (memory m.pool.words) o f) here

      same : (f : ℕ) → uses (memory u.before.words) (levels k.width) k.root f ≡ uses (memory m.pool.words) (levels k.width) k.root f
      same f = ap (λ ws. uses (memory ws) (levels k.width) k.root f) u.was

    -- its pages are those of the width
    own_range : (q : ℕ) → u.retired.range.first ≤ q → q < u.retired.range.first + u.retired.range.pages → q < pages_end k.width
    own_range q from to =
        let v = mirrored in
        omega (
          arith,
          ap pages_end v.2.ids.width,
          u.last,
          v.2.pieces.whole,
          v.2.pieces.is_space.some,
          space_end u.domain.space q Live u.is_space (u.retires.may.live q (from, to)),
        )

    pub own_unmap : 1 ≤ range.pages → IsUnmap u.before u.after k.width k.root u.retired.range u.retired.cut.frames
    own_unmap some =
        let more : 1 ≤ u.retired.range.pages = subst (λ (y : Range). 1 ≤ y.pages) (sym u.of_range) some in
        record {
          zeroed = u.zeroed;
          below = (
            more,
            omega (arith, more, own_range (u.retired.range.first + u.retired.range.pages - 1) (omega (arith, more)) (omega (arith, more))),
          );
          unmaps =
              subst (λ n. UnmapsPages u.before u.after (levels n) k.root u.retired.range.first
              (u.retired.range.first + u.retired.range.pages) u.retired.cut.frames) u.width
              (subst (λ n. UnmapsPages u.before u.after (levels u.domain.width) n u.retired.range.first
              (u.retired.range.first + u.retired.range.pages) u.retired.cut.frames) u.root u.retires.unmaps);
        }
