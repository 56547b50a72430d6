-- What a request may be answered, and what may be remembered of it. With a look cached entries may serve, and without one none does. Only
-- what was used is remembered, and only with a fill: the context, the leaf that the walk met, and the tables that it passed, each for all
-- the pages that it stands for. With Caching Mode so is a page that the walk found absent.
use Rattle.std.specs.Prelude.{◌≡◌, ◌≢◌, ℕ, ◌≤◌, ◌⊎◌, ◌&&◌, Bool, IsTrue, List, Option, Some, None, Result, Ok, Err, slice_get}
use Rattle.dmatypes.specs.Allows.{fault_of, host_of}
use Rattle.dmatypes.specs.Page.{IsBeyond, levels, page_of}
use Rattle.dmatypes.specs.Rights.{Permits, bits_of}
use Rattle.dmatypes.specs.World.{IsIn, Target}
use Rattle.dmatypes.specs.declared.call.Access.{Access}
use Rattle.dmatypes.specs.declared.refusal.Fault.{Fault}
use Rattle.dmatypes.specs.declared.refusal.Fault.TheVariants as faults
use Rattle.vtdbits.specs.Translation.{target}
use Rattle.vtdbits.specs.declared.context.ContextEntry.{ContextEntry}
use Rattle.vtdbits.specs.declared.context.ContextEntry.TheVariants.{Absent, Present}
use Rattle.tables.specs.Tree.{Memory, leaf_from, states}
use Rattle.unit.specs.Caches.{CachedLeaf, CachedNonLeaf, CachedContext, CachedFault, Caches, fault}
use Rattle.unit.specs.Lists.{Gains}
use Rattle.unit.specs.Walking.{hold, met, stated_by, IsPassed}
use Rattle.unit.specs.declared.hit.Hit.{Hit}

-- ---- the context

-- the row's context of a device, or with a look a cached one
abbrev pub IsContextOf : List ContextEntry → List CachedContext → Bool → ℕ → CachedContext → Type 0
IsContextOf row cached look device x =
    (x.device ≡ device)
    × ((slice_get row device ≡ Some (Present x.root x.width x.domain)) ⊎ (IsTrue look × IsIn x cached))

-- there is neither
abbrev pub HasNoContext : List ContextEntry → List CachedContext → Bool → ℕ → Type 0
HasNoContext row cached look device =
    (slice_get row device ≡ Some Absent)
    × (IsTrue look → (x : CachedContext) → IsIn x cached → x.device ≢ device)

-- ---- the translation

-- where a walk for a page of a domain begins: at the root, or with a look at a cached table whose span holds
-- the page
abbrev pub IsStart : List CachedNonLeaf → Bool → CachedContext → ℕ → ℕ → ℕ → Type 0
IsStart cached look x page level table =
    ((level ≡ levels x.width) × (table ≡ x.root))
    ⊎ (IsTrue look × ((i : CachedNonLeaf) × IsIn i cached × (i.domain ≡ x.domain) × IsTrue (hold i.first i.pages page)
    × (level ≡ i.level) × (table ≡ i.frame)))

-- no cached table of the domain whose span holds the page is of a lower level
abbrev pub IsLowest : List CachedNonLeaf → ℕ → ℕ → ℕ → Type 0
IsLowest cached domain page level =
    (i : CachedNonLeaf) → IsIn i cached → i.domain ≡ domain → IsTrue (hold i.first i.pages page) → 1 ≤ i.level → level ≤ i.level

-- a cached leaf of the domain states this of the page
abbrev pub IsStatedByCached : List CachedLeaf → Bool → CachedContext → ℕ → Option Target → Type 0
IsStatedByCached cached look x page t =
    IsTrue look × ((l : CachedLeaf) × IsIn l cached × (l.domain ≡ x.domain) × IsTrue (hold l.first l.pages page)
    × (t ≡ Some (stated_by page l)))

-- a leaf of the domain is remembered that states this of the page
abbrev pub IsRememberedIn : List CachedLeaf → ℕ → ℕ → Target → Type 0
IsRememberedIn leaves domain page t =
    (l : CachedLeaf) × IsIn l leaves × (l.domain ≡ domain) × IsTrue (hold l.first l.pages page) × (t ≡ stated_by page l)

-- the page is remembered as absent in the domain: there is no translation
abbrev pub IsAbsentByCached : List CachedFault → Bool → CachedContext → ℕ → Option Target → Type 0
IsAbsentByCached cached look x page t = IsTrue look × IsIn (fault x.domain page) cached × (t ≡ None)

-- of pages, translations and tables, what is remembered of them: the lists that a translation is read off and may fill
pub record Entries : Type 0 where
  pub leaves : List CachedLeaf
  pub tables : List CachedNonLeaf
  pub faults : List CachedFault

abbrev pub entries : List CachedLeaf → List CachedNonLeaf → List CachedFault → Entries
entries leaves tables faults = record { leaves = leaves; tables = tables; faults = faults }

abbrev pub entries_of : Caches → Entries
entries_of c = entries c.leaves c.non_leaves c.faults

-- a walk that begins there gives the translation of a page; the leaf that it met and the tables that it passed may be
-- remembered, and in Caching Mode that it found the page absent
pub record IsWalked (m : Memory) (x : CachedContext) (look fill caching : Bool) (page : ℕ) (old new : Entries) (t : Option Target)
    (level table : ℕ) : Type 0 where
  pub start : IsStart old.tables look x page level table
  pub meaning : t ≡ states m level table page
  pub leaves_gain : Gains fill (λ l. met x.domain page (leaf_from m level table page) ≡ Some l) old.leaves new.leaves
  pub tables_gain : Gains fill (IsPassed m level table x.domain page) old.tables new.tables
  pub faults_gain : Gains (fill && caching) (λ f. (t ≡ None) × (f ≡ fault x.domain page)) old.faults new.faults

-- the translation of a page is read off a cached leaf, or it is remembered that there is none, which adds nothing; or it is
-- read off a walk
abbrev pub IsRead : Memory → CachedContext → Bool → Bool → Bool → ℕ → Entries → Entries → Option Target → Type 0
IsRead m x look fill caching page old new t =
    ((IsStatedByCached old.leaves look x page t ⊎ IsAbsentByCached old.faults look x page t) × (new ≡ old))
    ⊎ ((level : ℕ) × (table : ℕ) × IsWalked m x look fill caching page old new t level table)

-- a context of the device is remembered, and a leaf of its domain that states the answer to a request at the address
abbrev pub IsRemembered : Caches → ℕ → ℕ → Hit → Type 0
IsRemembered c device address hit =
    (x : CachedContext) × IsIn x c.contexts × (x.device ≡ device)
    × IsRememberedIn c.leaves x.domain (page_of address) (target hit.frame (bits_of hit.rights))

-- ---- the answer

-- the host address where there is a translation with the right, else the fault
abbrev pub Tells : Option Target → ℕ → Access → Result Hit Fault → Type 0
Tells t address access (Ok hit) =
    (y : Target) × (t ≡ Some y) × Permits y.rights access
    × (hit.host ≡ host_of y address) × (y ≡ target hit.frame (bits_of hit.rights))
Tells t address access (Err fault) =
    (fault ≡ fault_of access) × ((y : Target) → t ≡ Some y → Permits y.rights access → ⊥)

-- with a context: beyond the width there is only the one fault
abbrev pub AnswersWith : Memory → CachedContext → Bool → Bool → Bool → ℕ → Access → Caches → Caches → Result Hit Fault → Type 0
AnswersWith m x look fill caching address access old new result =
    (IsBeyond x.width address × (result ≡ Err faults.BeyondWidth) × (entries_of new ≡ entries_of old))
    ⊎ ((IsBeyond x.width address → ⊥)
    × ((t : Option Target) × IsRead m x look fill caching (page_of address) (entries_of old) (entries_of new) t
    × Tells t address access result))

-- without one there is only the one fault, and nothing is remembered
abbrev pub AnswersRequest : Memory → List ContextEntry → Bool → Bool → Bool → ℕ → ℕ → Access → Caches → Caches → Result Hit Fault → Type 0
AnswersRequest m row look fill caching device address access old new result =
    (HasNoContext row old.contexts look device × (result ≡ Err faults.NotAttached) × (new ≡ old))
    ⊎ ((x : CachedContext) × IsContextOf row old.contexts look device x × Gains fill (λ y. y ≡ x) old.contexts new.contexts
    × AnswersWith m x look fill caching address access old new result)
