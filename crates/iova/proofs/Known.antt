-- Pages that are known, or none.
use Rattle.iova.proofs.Names.{◌≡◌, List, Option, Some, None, Bool, true, refl, ap, sym, subst, is_some, not, Ends, Piece, AreLive, shown}

pub none_of : (o : Option Ends) {b : Bool} → is_some o ≡ not b → b ≡ true → o ≡ None
none_of None e f = refl
none_of (Some x) e f = absurd (cc)

-- ---- where none came free

pub shown_none : {freed : Option Ends} {tree : List Piece} → freed ≡ None → shown freed tree ≡ tree
shown_none {tree = tree} e = ap (λ f. shown f tree) e

pub live_none : {freed : Option Ends} → freed ≡ None → (tree : List Piece) → AreLive freed tree
live_none e tree = subst (λ f. AreLive f tree) (sym e) tt
