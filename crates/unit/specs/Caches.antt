-- What the unit remembers. These are leaves that walks met, tables that they passed, contexts, and with Caching Mode pages that they found
-- absent, which are called faults. There are at most 64 leaves, 32 tables, 16 contexts and 64 faults (own).
use Rattle.std.specs.Prelude.{◌≡◌, ℕ, ◌*◌, ◌%◌, ◌<◌, ◌≤◌, ◌⊎◌, Bool, List, [], length, remove}
use Rattle.dmatypes.specs.Rights.{AreRights}
use Rattle.dmatypes.specs.declared.call.Cache.{Cache}
use Rattle.dmatypes.specs.declared.limits.TheConstants.{MOST_CACHED_CONTEXTS, MOST_CACHED_FAULTS, MOST_CACHED_LEAVES}
use Rattle.dmatypes.specs.declared.limits.TheConstants.{MOST_CACHED_NON_LEAVES}
use Rattle.dmatypes.specs.declared.page.TheConstants.{SPAN_PAGES}
use Rattle.dmatypes.specs.declared.width.Width.{Width}
use Rattle.dmatypes.specs.declared.width.TheConstants.{PAGES_END}
use Rattle.dmatypes.specs.declared.call.Cache.TheVariants as kinds

-- a leaf that a walk met: the domain, the pages from a first one on that it stands for, and what they are mapped to. That is the frames
-- from one on, one after the other, and the rights
pub record CachedLeaf : Type 0 where
  pub domain : ℕ
  pub first : ℕ
  pub pages : ℕ
  pub frame : ℕ
  pub rights : ℕ

abbrev pub leaf : ℕ → ℕ → ℕ → ℕ → ℕ → CachedLeaf
leaf domain first pages frame rights =
    record { domain = domain; first = first; pages = pages; frame = frame; rights = rights }

-- a table below a root that a walk passed: the domain, the pages from a first one on that it covers (its
-- span), its level and its frame
pub record CachedNonLeaf : Type 0 where
  pub domain : ℕ
  pub first : ℕ
  pub pages : ℕ
  pub level : ℕ
  pub frame : ℕ

abbrev pub non_leaf : ℕ → ℕ → ℕ → ℕ → ℕ → CachedNonLeaf
non_leaf domain first pages level frame =
    record { domain = domain; first = first; pages = pages; level = level; frame = frame }

-- a device's context: the domain that it is attached to, the frame of that domain's root, and the width of its addresses
pub record CachedContext : Type 0 where
  pub device : ℕ
  pub domain : ℕ
  pub root : ℕ
  pub width : Width

abbrev pub context : ℕ → ℕ → ℕ → Width → CachedContext
context device domain root width = record { device = device; domain = domain; root = root; width = width }

-- a page of a domain that a walk found absent (Caching Mode)
pub record CachedFault : Type 0 where
  pub domain : ℕ
  pub page : ℕ

abbrev pub fault : ℕ → ℕ → CachedFault
fault domain page = record { domain = domain; page = page }

-- what is remembered, in the order in which it came
pub record Caches : Type 0 where
  pub leaves : List CachedLeaf
  pub non_leaves : List CachedNonLeaf
  pub contexts : List CachedContext
  pub faults : List CachedFault

abbrev pub caches : List CachedLeaf → List CachedNonLeaf → List CachedContext → List CachedFault → Caches
caches leaves non_leaves contexts faults =
    record { leaves = leaves; non_leaves = non_leaves; contexts = contexts; faults = faults }

-- no more leaves, tables, contexts and absent pages are remembered
pub record AreFew (c : Caches) : Type 0 where
  pub leaves : length c.leaves ≤ MOST_CACHED_LEAVES
  pub non_leaves : length c.non_leaves ≤ MOST_CACHED_NON_LEAVES
  pub contexts : length c.contexts ≤ MOST_CACHED_CONTEXTS
  pub faults : length c.faults ≤ MOST_CACHED_FAULTS

-- the places of the caches
pub record HavePlaces (leaves non_leaves contexts faults : ℕ) : Type 0 where
  pub for_leaves : leaves ≡ MOST_CACHED_LEAVES
  pub for_non_leaves : non_leaves ≡ MOST_CACHED_NON_LEAVES
  pub for_contexts : contexts ≡ MOST_CACHED_CONTEXTS
  pub for_faults : faults ≡ MOST_CACHED_FAULTS

abbrev pub nothing : Caches
nothing = caches [] [] [] []

-- the caches without the entry at a place of one of them
abbrev pub without : Cache → ℕ → Caches → Caches
without kinds.Leaf place c = record c { leaves = remove c.leaves place }
without kinds.NonLeaf place c = record c { non_leaves = remove c.non_leaves place }
without kinds.Context place c = record c { contexts = remove c.contexts place }
without kinds.Fault place c = record c { faults = remove c.faults place }

-- The unit: it has another name than in code, since `Unit` is the type with one value here. What it remembers, how many steps it made,
-- how many descriptors it did in them, one in each that found one, and whether it may remember that a page is absent (Caching Mode)
pub record UnitState : Type 0 where
  pub caches : Caches
  pub steps : ℕ
  pub done : ℕ
  pub caching : Bool

abbrev pub unit_state : Caches → ℕ → ℕ → Bool → UnitState
unit_state caches steps done caching = record { caches = caches; steps = steps; done = done; caching = caching }

-- ---- what a leaf and a table can be

-- one page, or those of a span onto as many frames from an aligned one on
pub record IsLeaf (l : CachedLeaf) : Type 0 where
  pub first : l.first < PAGES_END
  pub pages : (l.pages ≡ 1) ⊎ ((l.pages ≡ SPAN_PAGES) × (l.frame % SPAN_PAGES ≡ 0))
  pub rights : AreRights l.rights

-- a page number of the widest domain's addresses
pub record IsFault (f : CachedFault) : Type 0 where
  pub near : f.page < PAGES_END

-- a table of level 1 to 3
pub record IsNonLeaf (t : CachedNonLeaf) : Type 0 where
  pub first : t.first < PAGES_END
  pub pages : t.pages ≤ SPAN_PAGES * SPAN_PAGES * SPAN_PAGES
  pub low : 1 ≤ t.level
  pub high : t.level ≤ 3
