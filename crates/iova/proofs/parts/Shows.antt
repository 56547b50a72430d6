-- A tree with the pieces that a space shows: what came free is put into it.
use Rattle.iova.proofs.Names.{◌≡◌, ℕ, ◌∙◌, List, ap, subst, Piece, Space, IsSpace, stored}

pub record Shows (last : ℕ) (tree : List Piece) (now : Space) : Type 0 where
  pub is : stored last tree ≡ now
  pub space : IsSpace (stored last tree)
  pub now_space : IsSpace now

pub shows : {last : ℕ} {tree pieces : List Piece} {now : Space} → tree ≡ pieces → stored last pieces ≡ now → IsSpace (stored last tree)
    → Shows last tree now
shows {last} e view sp =
    let is = ap (λ ps. stored last ps) e ∙ view in record { is = is; space = sp; now_space = subst (λ v. IsSpace v) is sp }
