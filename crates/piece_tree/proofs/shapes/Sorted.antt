-- Pieces in order, in lists that are put together.
use Rattle.piece_tree.proofs.Names.{◌≡◌, ℕ, true, false, ◌+◌, ◌<◌, ◌≤◌, List, [], ◌∷◌, ◌++◌, sym, ◌∙◌, arith, append_assoc, append-nil}
use Rattle.piece_tree.proofs.Names.{AllByRecursion, Piece, AreSorted, IsPiece, items, Above, Whole, Beside, among, front, back}

pub all_append : (P : Piece → Type 0) (xs ys : List Piece) → AllByRecursion P xs → AllByRecursion P ys → AllByRecursion P (xs ++ ys)
all_append P [] ys a b = b
all_append P (x ∷ xs) ys a b = (a.0, all_append P xs ys a.1 b)

pub all_left : (P : Piece → Type 0) (xs ys : List Piece) → AllByRecursion P (xs ++ ys) → AllByRecursion P xs
all_left P [] ys a = tt
all_left P (x ∷ xs) ys a = (a.0, all_left P xs ys a.1)

pub all_right : (P : Piece → Type 0) (xs ys : List Piece) → AllByRecursion P (xs ++ ys) → AllByRecursion P ys
all_right P [] ys a = a
all_right P (x ∷ xs) ys a = all_right P xs ys a.1

pub all_map : (P Q : Piece → Type 0) → ((p : Piece) → P p → Q p) → (ps : List Piece) → AllByRecursion P ps → AllByRecursion Q ps
all_map P Q f [] a = tt
all_map P Q f (p ∷ ps) a = (f p a.0, all_map P Q f ps a.1)

pub sorted_from : (low from : ℕ) (ps : List Piece) → low ≤ from → AreSorted from ps → AreSorted low ps
sorted_from low from [] h s = tt
sorted_from low from (p ∷ ps) h s = (omega (arith, s.0), s.1, s.2)

pub sorted_front : (from : ℕ) (xs ys : List Piece) → AreSorted from (xs ++ ys) → AreSorted from xs
sorted_front from [] ys s = tt
sorted_front from (x ∷ xs) ys s = (s.0, s.1, sorted_front (x.last + 1) xs ys s.2)

pub sorted_back : (from : ℕ) (xs ys : List Piece) → AreSorted from (xs ++ ys) → AreSorted from ys
sorted_back from [] ys s = s
sorted_back from (x ∷ xs) ys s = sorted_from from (x.last + 1) ys (omega (arith, s.0, s.1)) (sorted_back (x.last + 1) xs ys s.2)

pub sorted_at : (from : ℕ) (xs : List Piece) (p : Piece) (ys : List Piece) → AreSorted from (xs ++ p ∷ ys)
    → (from ≤ p.first) × IsPiece p × AreSorted (p.last + 1) ys
sorted_at from [] p ys s = s
sorted_at from (x ∷ xs) p ys s =
    let a = sorted_at (x.last + 1) xs p ys s.2 in
    (omega (arith, s.0, s.1, a.0), a.1, a.2)

-- what comes before a piece ends below it, and what comes behind begins above it
pub ends_below : (from page : ℕ) (xs : List Piece) (p : Piece) (ys : List Piece) → AreSorted from (xs ++ p ∷ ys) → p.first ≤ page
    → AllByRecursion (λ q. q.last < page) xs
ends_below from page [] p ys s h = tt
ends_below from page (x ∷ xs) p ys s h =
    (let a = sorted_at (x.last + 1) xs p ys s.2 in omega (arith, a.0), ends_below (x.last + 1) page xs p ys s.2 h)

pub begins_above : (from page : ℕ) (ps : List Piece) → AreSorted from ps → page < from → AllByRecursion (λ q. page < q.first) ps
begins_above from page [] s h = tt
begins_above from page (p ∷ ps) s h = (omega (arith, s.0), begins_above (p.last + 1) page ps s.2 (omega (arith, s.0, s.1)))

-- ---- at a place

pub plug-parts : (up : Above) (ps : List Piece) → among up ps ≡ front up ++ ps ++ back up
plug-parts Whole ps = sym (append-nil ps)
plug-parts (Beside true key p o up) ps = plug-parts up (ps ++ p ∷ items o) ∙ simp append_assoc
plug-parts (Beside false key p o up) ps = plug-parts up (items o ++ p ∷ ps) ∙ simp append_assoc

pub sorted_there : (up : Above) (ps : List Piece) (from : ℕ) → AreSorted from (among up ps) → (low : ℕ) × AreSorted low ps
sorted_there Whole ps from s = (from, s)
sorted_there (Beside true key p o up) ps from s =
    let a = sorted_there up (ps ++ p ∷ items o) from s in
    (a.0, sorted_front a.0 ps (p ∷ items o) a.1)
sorted_there (Beside false key p o up) ps from s =
    let a = sorted_there up (items o ++ p ∷ ps) from s in
    (p.last + 1, (sorted_at a.0 (items o) p ps a.1).2)
