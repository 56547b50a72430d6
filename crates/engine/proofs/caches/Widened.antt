-- An aligned block of less than 512 page numbers lies in one of 512.
use Rattle.std.proofs.Common.{◌≡◌, ℕ, zero, suc, ◌+◌, ◌*◌, ◌/◌, ◌%◌, ◌^◌, ◌<◌, ◌≤◌, true, refl, arith}
use Rattle.dmatypes.specs.Block.{IsSmallestBlock, block}
use Rattle.dmatypes.specs.Page.{Range}
use Rattle.engine.specs.Ending.{IsBlockOf}
use Rattle.dmatypes.specs.declared.page.TheConstants.{SPAN_ORDER, SPAN_PAGES}

fits : (f o : ℕ) → o < SPAN_ORDER → f % 2 ^ o ≡ 0 → f + 2 ^ o ≤ f / SPAN_PAGES * SPAN_PAGES + SPAN_PAGES
fits f zero small even = omega arith
fits f (suc zero) small even = omega arith
fits f (suc (suc zero)) small even = omega arith
fits f (suc (suc (suc zero))) small even = omega arith
fits f (suc (suc (suc (suc zero)))) small even = omega arith
fits f (suc (suc (suc (suc (suc zero))))) small even = omega arith
fits f (suc (suc (suc (suc (suc (suc zero)))))) small even = omega arith
fits f (suc (suc (suc (suc (suc (suc (suc zero))))))) small even = omega arith
fits f (suc (suc (suc (suc (suc (suc (suc (suc zero)))))))) small even = omega arith
fits f (suc (suc (suc (suc (suc (suc (suc (suc (suc o))))))))) small even = absurd (omega arith)

-- the block of 512 page numbers that a smaller one lies in is the smallest of at least 512
pub widened : (range : Range) (f o g : ℕ) → IsSmallestBlock (block f o) range → o < SPAN_ORDER → g ≡ f / SPAN_PAGES * SPAN_PAGES
    → IsBlockOf range true (block g SPAN_ORDER)
widened range f o g is small at = record {
  aligned = omega (arith, at);
  holds = λ p inside.
      let k = is.holds p inside in
      let wide = fits f o small is.aligned in
      (omega (arith, at, k.0), omega (arith, at, k.1, wide));
  wide = λ split. omega arith;
  smallest = λ c aligned holds wide. wide refl;
}
