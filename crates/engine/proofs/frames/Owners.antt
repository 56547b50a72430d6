-- Who has which table frame, and what becomes of it where one domain changes.
use Rattle.std.proofs.Common.{◌≡◌, ◌≢◌, ℕ, ◌+◌, ◌<◌, ◌≤◌, inl, inr, ⊎_elim, List, Option, Some, sym, ap, ◌∙◌, arith}
use Rattle.std.proofs.lemmas.Bool.{cases_lt}
use Rattle.std.proofs.lemmas.Option.{same_Some}
use Rattle.dmatypes.specs.World.{put}
use Rattle.tables.specs.Changes.{IsApart, TakesAndGivesFrames}
use Rattle.tables.specs.Pool.{Pool, memory, occurs, IsTree, IsZeroed}
use Rattle.tables.specs.Tree.{sum_below, uses}
use Rattle.tables.proofs.sums.Firsts.{sum_below_change, sum_below_part, sum_below_two}
use Rattle.engine.specs.Domains.{Domain, held_in}
use Rattle.engine.specs.Quarantine.{PartsFrames, owned}
use Rattle.dmatypes.proofs.histories.Maps.{put_same, put_other, same_or_not}
use Rattle.dmatypes.specs.declared.limits.TheConstants.{MOST_DOMAINS}
use Rattle.dmatypes.specs.Page.{levels}

at_most_one : (pool : Pool) (domains : ℕ → Option Domain) → PartsFrames pool domains → (f : ℕ)
    → sum_below (λ d. owned (memory pool.words) (domains d) f) (MOST_DOMAINS + 1) + occurs f pool.free ≤ 1
at_most_one pool domains parts f =
    ⊎_elim (λ (low : f < pool.frames). omega (arith, parts.once f low)) (λ (past : pool.frames ≤ f). omega (arith, parts.past f past))
    (cases_lt f pool.frames)

owned_by : (pool : Pool) (domains : ℕ → Option Domain) (d : ℕ) (h : Domain) (f : ℕ) → domains d ≡ Some h
    → owned (memory pool.words) (domains d) f ≡ uses (memory pool.words) (levels h.width) h.root f + held_in h.records f
owned_by pool domains d h f there = ap (λ (o : Option Domain). owned (memory pool.words) o f) there

-- a domain's root is one of a tree of the pool
pub tree_of : (pool : Pool) (domains : ℕ → Option Domain) (d : ℕ) (h : Domain) → PartsFrames pool domains → d < MOST_DOMAINS + 1
    → domains d ≡ Some h
    → IsTree pool (levels h.width) h.root
tree_of pool domains d h parts low there = record {
  once = λ f. omega (arith, at_most_one pool domains parts f, part f, owned_by pool domains d h f there);
  within = λ f past. omega (arith, parts.past f past, part f, owned_by pool domains d h f there);
} where
  part : (f : ℕ) → owned (memory pool.words) (domains d) f ≤ sum_below (λ e. owned (memory pool.words) (domains e) f) (MOST_DOMAINS + 1)
  part f = sum_below_part (λ e. owned (memory pool.words) (domains e) f) (MOST_DOMAINS + 1) d low

-- the trees of two domains are apart
pub apart_of : (pool : Pool) (domains : ℕ → Option Domain) (d e : ℕ) (h k : Domain) → PartsFrames pool domains → d < MOST_DOMAINS + 1
    → e < MOST_DOMAINS + 1 → e ≢ d
    → domains d ≡ Some h → domains e ≡ Some k → IsApart pool (levels h.width) h.root (levels k.width) k.root
apart_of pool domains d e h k parts low less ne there here f some =
    let two = sum_below_two (λ x. owned (memory pool.words) (domains x) f) (MOST_DOMAINS + 1) d e low less ne in
    omega (arith, two, at_most_one pool domains parts f, owned_by pool domains d h f there, owned_by pool domains e k f here)

-- what a record holds is of no tree, and not free
pub held_out : (pool : Pool) (domains : ℕ → Option Domain) (d e : ℕ) (h k : Domain) → PartsFrames pool domains → d < MOST_DOMAINS + 1
    → e < MOST_DOMAINS + 1
    → domains d ≡ Some h → domains e ≡ Some k → (f : ℕ) → 0 < held_in k.records f
    → uses (memory pool.words) (levels h.width) h.root f + occurs f pool.free ≡ 0
held_out pool domains d e h k parts low less there here f some = elim (same_or_not e d) [
  | inl same ↦
      let one : uses (memory pool.words) (levels k.width) k.root f ≡ uses (memory pool.words) (levels h.width) h.root f =
      ap (λ (x : Domain). uses (memory pool.words) (levels x.width) x.root f) (same_Some k h (sym here ∙ ap domains same ∙ there)) in
      let part = sum_below_part (λ x. owned (memory pool.words) (domains x) f) (MOST_DOMAINS + 1) e less in
      omega (arith, one, part, at_most_one pool domains parts f, owned_by pool domains e k f here)
  | inr ne ↦
      let two = sum_below_two (λ x. owned (memory pool.words) (domains x) f) (MOST_DOMAINS + 1) d e low less ne in
      omega (arith, two, at_most_one pool domains parts f, owned_by pool domains d h f there, owned_by pool domains e k f here)
]

-- held frames stay zeroed where only frames of one tree and free ones change
pub held_zeroed : (old new : Pool) (domains : ℕ → Option Domain) (d e : ℕ) (h k : Domain) (cut : List ℕ) → PartsFrames old domains
    → d < MOST_DOMAINS + 1
    → e < MOST_DOMAINS + 1 → domains d ≡ Some h → domains e ≡ Some k → TakesAndGivesFrames old new (levels h.width) h.root cut → (f : ℕ)
    → 0 < held_in k.records f
    → IsZeroed new.words f
held_zeroed old new domains d e h k cut parts low less there here moves f some i small =
    moves.others f i small (held_out old domains d e h k parts low less there here f some) ∙ parts.held e f k here some i small

-- one domain changed, with free frames
pub frames_move : (old new : Pool) (domains homes' : ℕ → Option Domain) (d : ℕ) (o : Option Domain) → PartsFrames old domains
    → d < MOST_DOMAINS + 1
    → ((e : ℕ) → homes' e ≡ put d o domains e) → new.frames ≡ old.frames
    → ((f : ℕ) → owned (memory new.words) o f + occurs f new.free ≡ owned (memory old.words) (domains d) f + occurs f old.free)
    → ((e f : ℕ) → e ≢ d → owned (memory new.words) (domains e) f ≡ owned (memory old.words) (domains e) f)
    → ((f : ℕ) → 0 < occurs f new.free → IsZeroed new.words f)
    → ((e f : ℕ) (h : Domain) → homes' e ≡ Some h → 0 < held_in h.records f → IsZeroed new.words f) → PartsFrames new homes'
frames_move old new domains homes' d o parts low is frames moves others zeroed held = record {
  once = λ f less. omega (arith, change f, here f, moves f, parts.once f (omega (arith, less, frames)));
  past = λ f past. omega (arith, change f, here f, moves f, parts.past f (omega (arith, past, frames)));
  zeroed = zeroed;
  held = held;
} where
  here : (f : ℕ) → owned (memory new.words) (homes' d) f ≡ owned (memory new.words) o f
  here f = ap (λ (x : Option Domain). owned (memory new.words) x f) (is d ∙ put_same d o domains)

  change : (f : ℕ) → sum_below (λ e. owned (memory new.words) (homes' e) f) (MOST_DOMAINS + 1) + owned (memory old.words) (domains d) f
      ≡ sum_below (λ e. owned (memory old.words) (domains e) f) (MOST_DOMAINS + 1) + owned (memory new.words) (homes' d) f
  change f =
      sum_below_change (λ e. owned (memory old.words) (domains e) f) (λ e. owned (memory new.words) (homes' e) f) (MOST_DOMAINS + 1) d low
      (λ e less ne. ap (λ (x : Option Domain). owned (memory new.words) x f) (is e ∙ put_other d o domains e ne) ∙ others e f ne)
