-- What the sending of a map leaves of the IOMMU, in Caching Mode and without it.
use Rattle.std.proofs.Common.{◌≡◌, ℕ, ◌++◌, ◌∷◌, [], Bool, true, false, ap, sym, subst}
use Rattle.dmatypes.specs.Page.{Range}
use Rattle.vtdbits.specs.declared.descriptor.Descriptor.TheVariants.{Wait}
use Rattle.engine.specs.declared.iommu.Iommu.{Iommu}
use Rattle.engine.specs.Ending.{SendsForMap, left_by_all, status_of}
use Rattle.engine.proofs.caches.Purged.{IsFewer, fewer_by_all}

module _ (x x' : Iommu) (d root : ℕ) (range : Range) where
  pub map_fewer : (caching : Bool) → SendsForMap caching x d root range x' → IsFewer x.unit.caches x'.unit.caches
  unfolding left_by_all
  map_fewer false same = subst (λ (y : Iommu). IsFewer x.unit.caches y.unit.caches) (sym same) (fewer_by_all [] x.unit.caches)
  map_fewer true (t, is, sends) =
      subst (IsFewer x.unit.caches) (sym sends.caches)
      (fewer_by_all (x.ring.waiting ++ t ∷ Wait (status_of x'.sent) ∷ []) x.unit.caches)

  pub map_mode : (caching : Bool) → SendsForMap caching x d root range x' → x'.unit.caching ≡ x.unit.caching
  map_mode false same = ap (λ (y : Iommu). y.unit.caching) same
  map_mode true (t, is, sends) = sends.caching

  pub map_row : (caching : Bool) → SendsForMap caching x d root range x' → x'.contexts ≡ x.contexts
  map_row false same = ap (λ (y : Iommu). y.contexts) same
  map_row true (t, is, sends) = sends.contexts
