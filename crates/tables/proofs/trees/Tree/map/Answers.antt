use Rattle.std.proofs.Common.{◌≡◌, ℕ, ◌+◌, ◌-◌, ◌∷◌, [], Some, IfSome, subst, ap, ◌∙◌, arith}
use Rattle.dmatypes.specs.Page.{levels}
use Rattle.dmatypes.specs.declared.call.Segment.{Segment}
use Rattle.dmatypes.specs.Rights.{bits_of}
use Rattle.dmatypes.specs.World.{placed}
use Rattle.vtdbits.specs.Translation.{target}
use Rattle.tables.specs.Changes.{MapsPages}
use Rattle.tables.proofs.pools.Kept.{on_done}
use Rattle.tables.proofs.maps.Mapped.{maps_said}
use Rattle.tables.proofs.maps.Placed.{rest_of, rest_in, placed_at}
use Rattle.tables.proofs.trees.Tree.map.Goals as goal

pub map_sized_list-requires-clause-range : goal.map_sized_list-requires-clause-range
map_sized_list-requires-clause-range c =
    let start : c.unwrap-start.result ≡ c.first.result =
    subst (λ o. IfSome o (λ p. p ≡ c.first.result)) c.unwrap-start.ensures c.new.ensures.value in
    let range = c.first.ensures.range in record {
      some = omega (arith, range.some, c.pages.ensures.value);
      few = omega (arith, range.few, c.pages.ensures.value);
      members = λ p within. range.members p (
        omega (arith, within.0, start, c.first.ensures.value),
        omega (arith, within.1, start, c.first.ensures.value, c.pages.ensures.value),
      );
    }

pub map_sized_list-requires-clause-fits : goal.map_sized_list-requires-clause-fits
map_sized_list-requires-clause-fits c =
    let start : c.unwrap-start.result ≡ c.first.result =
    subst (λ o. IfSome o (λ p. p ≡ c.first.result)) c.unwrap-start.ensures c.new.ensures.value in
    λ p within. c.requires.fits p (
      omega (arith, within.0, start, c.first.ensures.value),
      omega (arith, within.1, start, c.first.ensures.value, c.pages.ensures.value),
    )

pub returns-clause-maps : goal.returns-clause-maps
returns-clause-maps c =
    let segment : Segment = record { frame = c.number.result; pages = c.pages.result } in
    let from : c.unwrap-start.result ≡ c.first.result =
    subst (λ o. IfSome o (λ p. p ≡ c.first.result)) c.unwrap-start.ensures c.new.ensures.value in
    let start : c.unwrap-start.result ≡ c.args.range.first = from ∙ c.first.ensures.value in
    let end : c.unwrap-start.result + (0 + c.pages.result) ≡ c.args.range.first + c.args.range.pages =
    omega (arith, start, c.pages.ensures.value) in
    let says = λ (p : ℕ). Some (target (c.args.frame + (p - c.args.range.first)) (bits_of c.args.rights)) in
    on_done c.map_sized_list.result c.map_sized_list.ensures.maps (λ maps.
    subst (λ a. MapsPages c.args.pool.now c.map_sized_list.new.pool (levels c.args.self.now.width) c.args.self.now.root a
    (c.args.range.first + c.args.range.pages) says)
    start
    (subst (λ b. MapsPages c.args.pool.now c.map_sized_list.new.pool (levels c.args.self.now.width)
    c.args.self.now.root c.unwrap-start.result b says) end
    (maps_said c.args.pool.now c.map_sized_list.new.pool (levels c.args.self.now.width) c.args.self.now.root c.unwrap-start.result
    (c.unwrap-start.result + (0 + c.pages.result)) (placed (segment ∷ []) c.unwrap-start.result (bits_of c.args.rights)) says
    (λ p low high.
    let same : c.number.result + (p - c.unwrap-start.result) ≡ c.args.frame + (p - c.args.range.first) =
    omega (arith, start, c.number.ensures.value) in
    placed_at (segment ∷ []) c.unwrap-start.result p (bits_of c.args.rights) (rest_of segment c.unwrap-start.result p)
    (rest_in segment [] c.unwrap-start.result p low (omega arith))
    ∙ ap (λ f. Some (target f (bits_of c.args.rights))) same) maps)))
