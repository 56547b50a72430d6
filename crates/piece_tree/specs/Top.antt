-- What is handed on of a tree.
use Rattle.std.specs.Prelude.{ℕ, zero, suc, ◌≡◌, Option, Some, None, refl}
use Rattle.std.proofs.Common.{sym}

-- the key of its root, how many nodes lie on the longest way down, and the greatest length of a free piece
pub record Top : Type 0 where
  pub root : Option ℕ
  pub height : ℕ
  pub longest : ℕ

-- the key, unless the height says that there is no root
abbrev pub root_under : (height key : ℕ) → Option ℕ
root_under zero key = None
root_under (suc height) key = Some key

-- the key of a root, and 0 where there is none
abbrev pub key_or_0 : Option ℕ → ℕ
key_or_0 None = 0
key_or_0 (Some key) = key

-- so a tree gives its key back
pub key-back : (height key : ℕ) → (height ≡ 0 → key ≡ 0) → key_or_0 (root_under height key) ≡ key
key-back zero key none = sym (none refl)
key-back (suc height) key none = refl
