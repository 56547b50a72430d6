-- Marks of what is remembered (own). A page of a domain has a place among 2,048, and so has its span. A page that a remembered leaf
-- stands for has one of its two places marked. Marks may stand where no leaf does.
use Rattle.std.specs.Prelude.{◌≡◌, ℕ, ◌+◌, ◌*◌, ◌/◌, ◌%◌, ◌<◌, ◌⊎◌, IsTrue, List, slice_index}
use Rattle.std.specs.Int.{bit_at}
use Rattle.dmatypes.specs.declared.page.TheConstants.{SPAN_PAGES}
use Rattle.dmatypes.specs.World.{IsIn}
use Rattle.unit.specs.Caches.{CachedLeaf}
use Rattle.unit.specs.Walking.{hold}

-- the place of a mark of a domain and a number: that of a page, or that of a span, in spans
abbrev pub mark_of : ℕ → ℕ → ℕ
mark_of domain number = (number + 293 * domain) % 2048

-- a place is marked, a bit for each in words of 64
abbrev pub HasMark : List ℕ → ℕ → Type 0
HasMark marks place = bit_at (slice_index marks (place / 64)) (place % 64) ≡ 1

-- a page of a domain may have leaves: its place is marked, or that of its span
abbrev pub MayHold : List ℕ → ℕ → ℕ → Type 0
MayHold marks domain page = HasMark marks (mark_of domain page) ⊎ HasMark marks (mark_of domain (page / SPAN_PAGES))

-- each page of a leaf may have leaves
pub record IsMarked (marks : List ℕ) (l : CachedLeaf) : Type 0 where
  pub some : 0 < l.pages
  pub marked : (p : ℕ) → IsTrue (hold l.first l.pages p) → MayHold marks l.domain p

-- and so for each leaf of a list
abbrev pub AreMarked : List ℕ → List CachedLeaf → Type 0
AreMarked marks leaves = (l : CachedLeaf) → IsIn l leaves → IsMarked marks l
