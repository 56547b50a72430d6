use Rattle.std.proofs.Common.{◌≡◌, ℕ, Bool, true, false, not, cond, eqb, ◌&&◌, is_some, refl, sym, ap, ◌∙◌, arith}
use Rattle.std.proofs.lemmas.Bool.Decides.{nat_tests}
use Rattle.tables.specs.Pool.{memory}
use Rattle.tables.specs.Segments.{is_large_at}
use Rattle.tables.proofs.counts.OnePage.{lacking_there, lacking_else}
use Rattle.tables.proofs.mapping.lacks_table.Goals as goal

flip : (b : Bool) → ◌≡◌ {A = ℕ} (cond (not b) 1 0) (cond (true && b) 0 1)
flip true = refl
flip false = refl

not_eqb : (a b : ℕ) → (a ≡ b → ⊥) → eqb a b ≡ false
not_eqb a b ne = grind (arith, nat_tests)

is_eqb : (a b : ℕ) → a ≡ b → eqb a b ≡ true
is_eqb a b e = grind (arith, nat_tests)

pub returns-then-is_some : goal.returns-then-is_some
returns-then-is_some c =
    sym (lacking_there (memory c.args.pool.now.words) c.args.level c.args.root (is_large_at c.args.segments.now c.args.first c.args.page)
    c.args.wanted c.args.page (ap is_some (sym c.table_at.ensures) ∙ sym c.is_some.ensures ∙ c.if-is_some.true))

pub returns-then-wanted-ne1 : goal.returns-then-wanted-ne1
returns-then-wanted-ne1 c =
    let no : eqb c.args.wanted 1 ≡ false = not_eqb c.args.wanted 1 c.if-wanted-ne1.true in
    ap (λ b. cond (not b) 1 0) no ∙ ap (λ b. cond (b && is_large_at c.args.segments.now c.args.first c.args.page) 0 1) (sym no)
    ∙ sym (lacking_else (memory c.args.pool.now.words) c.args.level c.args.root (is_large_at c.args.segments.now c.args.first c.args.page)
    c.args.wanted c.args.page (ap is_some (sym c.table_at.ensures) ∙ sym c.is_some.ensures ∙ c.if-is_some.false))

pub returns-else-wanted-ne1 : goal.returns-else-wanted-ne1
returns-else-wanted-ne1 c =
    let yes : eqb c.args.wanted 1 ≡ true = is_eqb c.args.wanted 1 c.if-wanted-ne1.false in
    ap (λ b. cond (not b) 1 0) c.is_large_at.ensures ∙ flip (is_large_at c.args.segments.now c.args.first c.args.page)
    ∙ ap (λ b. cond (b && is_large_at c.args.segments.now c.args.first c.args.page) 0 1) (sym yes)
    ∙ sym (lacking_else (memory c.args.pool.now.words) c.args.level c.args.root (is_large_at c.args.segments.now c.args.first c.args.page)
    c.args.wanted c.args.page (ap is_some (sym c.table_at.ensures) ∙ sym c.is_some.ensures ∙ c.if-is_some.false))
