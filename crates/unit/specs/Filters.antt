-- What a descriptor makes the unit forget (IOTLB and context-cache invalidation). A global descriptor is of all domains, and a
-- domain-selective one of its own. The tests of pages and blocks, `lie_in` and `meet`, are proved to say that the block holds each of the
-- pages (`Holds`) or one of them (`Meets`).
use Rattle.std.specs.Prelude.{ℕ, ◌+◌, ◌^◌, ◌==◌, ◌&&◌, nat_le, nat_lt, Bool, true, false, not, List, [], ◌∷◌, filter}
use Rattle.dmatypes.specs.Page.{Range, IsWithin}
use Rattle.dmatypes.specs.Block.{Block, IsInBlock}
use Rattle.vtdbits.specs.declared.descriptor.Descriptor.{Descriptor}
use Rattle.vtdbits.specs.declared.descriptor.Descriptor.TheVariants.{ContextGlobal, ContextDomain, ContextDevice, IotlbGlobal, IotlbDomain}
use Rattle.vtdbits.specs.declared.descriptor.Descriptor.TheVariants.{IotlbPages, Wait}
use Rattle.queue.specs.Ring.{Ring, ring_of}
use Rattle.unit.specs.Caches.{CachedLeaf, CachedNonLeaf, CachedContext, CachedFault, Caches, caches}

-- a number of pages from a first one on lie wholly in the block
abbrev pub lie_in : Block → ℕ → ℕ → Bool
lie_in block first pages = nat_le block.first first && nat_le (first + pages) (block.first + 2 ^ block.order)

-- some of them lie in the block
abbrev pub meet : Block → ℕ → ℕ → Bool
meet block first pages = nat_lt first (block.first + 2 ^ block.order) && nat_lt block.first (first + pages)

-- a page number of the range lies in the block
abbrev pub Meets : Block → Range → Type 0
Meets block range = (p : ℕ) × IsWithin range p × IsInBlock block p

-- ---- what goes

-- leaves go by a page-selective descriptor where they lie wholly in its block
abbrev pub drops_leaf : Descriptor → CachedLeaf → Bool
drops_leaf IotlbGlobal l = true
drops_leaf (IotlbDomain domain) l = l.domain == domain
drops_leaf (IotlbPages domain block hint) l = (l.domain == domain) && lie_in block l.first l.pages
drops_leaf ContextGlobal l = false
drops_leaf (ContextDomain domain) l = false
drops_leaf (ContextDevice domain device) l = false
drops_leaf (Wait status) l = false

-- tables where their span meets it, and only with the invalidation hint clear
abbrev pub drops_non_leaf : Descriptor → CachedNonLeaf → Bool
drops_non_leaf IotlbGlobal t = true
drops_non_leaf (IotlbDomain domain) t = t.domain == domain
drops_non_leaf (IotlbPages domain block hint) t =
    (t.domain == domain) && not hint && meet block t.first t.pages
drops_non_leaf ContextGlobal t = false
drops_non_leaf (ContextDomain domain) t = false
drops_non_leaf (ContextDevice domain device) t = false
drops_non_leaf (Wait status) t = false

-- contexts by context-cache descriptors alone
abbrev pub drops_context : Descriptor → CachedContext → Bool
drops_context ContextGlobal c = true
drops_context (ContextDomain domain) c = c.domain == domain
drops_context (ContextDevice domain device) c = c.device == device
drops_context IotlbGlobal c = false
drops_context (IotlbDomain domain) c = false
drops_context (IotlbPages domain block hint) c = false
drops_context (Wait status) c = false

-- absent pages where the block holds them, with either hint
abbrev pub drops_fault : Descriptor → CachedFault → Bool
drops_fault IotlbGlobal f = true
drops_fault (IotlbDomain domain) f = f.domain == domain
drops_fault (IotlbPages domain block hint) f = (f.domain == domain) && lie_in block f.page 1
drops_fault ContextGlobal f = false
drops_fault (ContextDomain domain) f = false
drops_fault (ContextDevice domain device) f = false
drops_fault (Wait status) f = false

-- ---- what is left

-- of the caches, by one descriptor
abbrev pub left_by : Descriptor → Caches → Caches
left_by d c = caches
    (filter (λ l. not (drops_leaf d l)) c.leaves)
    (filter (λ t. not (drops_non_leaf d t)) c.non_leaves)
    (filter (λ x. not (drops_context d x)) c.contexts)
    (filter (λ f. not (drops_fault d f)) c.faults)

-- of the caches, by the first of the descriptors that wait
abbrev pub left_by_first : List Descriptor → Caches → Caches
left_by_first [] c = c
left_by_first (d ∷ ds) c = left_by d c

-- the status after a descriptor: a wait's data, once it is reached
abbrev pub status_after : Descriptor → ℕ → ℕ
status_after (Wait status) old = status
status_after ContextGlobal old = old
status_after (ContextDomain domain) old = old
status_after (ContextDevice domain device) old = old
status_after IotlbGlobal old = old
status_after (IotlbDomain domain) old = old
status_after (IotlbPages domain block hint) old = old

-- the number of descriptors done, after the first of those that wait
abbrev pub done_after : List Descriptor → ℕ → ℕ
done_after [] done = done
done_after (d ∷ ds) done = done + 1

-- the ring after its first descriptor was taken and done
abbrev pub after_first : List Descriptor → ℕ → List Descriptor → Ring
after_first [] status taken = ring_of [] status taken
after_first (d ∷ ds) status taken = ring_of ds (status_after d status) (d ∷ taken)
