-- Turns: the root of a tree that is higher by two is raised, or the root of its inner tree.
use Rattle.piece_tree.proofs.Names.{◌≡◌, ℕ, ◌+◌, ◌<◌, ◌≤◌, max, Bool, true, false, ◌∷◌, Some, IsSome, ap, sym, ◌∙◌, arith}
use Rattle.piece_tree.proofs.Names.{append_assoc, Piece, Opened, Top, IsPiece, Look, Shape, items, height_of, one, uses, AreNear, fork}
use Rattle.piece_tree.proofs.Names.{IsBelow, Opens, AreParts, Links, Joins, IsTree}
use Rattle.piece_tree.proofs.shapes.Forks.{no_key, one-same, is_there, fork-height, fork-uses, StandsBy, stands_by}
use Rattle.piece_tree.proofs.shapes.Forks.{opened-by, opened-uses, opened-height, beside_linked}

-- ---- the order of the pieces

pub once_items : (b : Bool) (key top : ℕ) (p q : Piece) (nn nf f : Shape)
    → items (fork b top q nn (fork b key p nf f)) ≡ items (fork b key p (fork b top q nn nf) f)
once_items true key top p q nn nf f = sym (append_assoc (items nn) (q ∷ items nf) (p ∷ items f))
once_items false key top p q nn nf f = append_assoc (items f) (p ∷ items nf) (q ∷ items nn)

twice_items : (b : Bool) (key top middle : ℕ) (p q r : Piece) (nn mn mf f : Shape)
    → items (fork b middle r (fork b top q nn mn) (fork b key p mf f))
    ≡ items (fork b key p (fork b top q nn (fork b middle r mn mf)) f)
twice_items true key top middle p q r nn mn mf f = simp append_assoc
twice_items false key top middle p q r nn mn mf f = simp append_assoc

-- ---- what is shown

pub shown_heights : {look : Look} {near far : Top} {key : ℕ} {n f : Shape} → AreParts look near key far n f
    → (near.height ≡ height_of n) × (far.height ≡ height_of f)
shown_heights a = (ap (λ (v : Top). v.height) a.near_is, ap (λ (v : Top). v.height) a.far_is)

pub opened_heights : {b : Bool} {key : ℕ} {opened : Opened} {t : Shape} (o : Opens b key opened t)
    → (opened.near.height ≡ height_of o.near) × (opened.far.height ≡ height_of o.far)
opened_heights o = (ap (λ (v : Top). v.height) o.near_is, ap (λ (v : Top). v.height) o.far_is)

pub near_below : {look : Look} {near far : Top} {key top : ℕ} {n f : Shape} → AreParts look near key far n f → near.root ≡ Some top
    → IsBelow look (Some top) n
near_below a e = (sym e ∙ ap (λ (v : Top). v.root) a.near_is, a.near_stands)

pub tree_below : {look : Look} {top : Top} {key : ℕ} {t : Shape} → IsTree look top t → top.root ≡ Some key → IsBelow look (Some key) t
tree_below i e = (sym e ∙ ap (λ (v : Top). v.root) i.is, i.stands)

-- ---- one turn

module _ {old : Look} {b : Bool} {high low : Top} {key top : ℕ} {outer : Opened} {n f : Shape}
    (a : AreParts old high key low n f) (tall : height_of n ≡ height_of f + 2) (o : Opens b top outer n) where
  by : StandsBy old b top outer.piece o.near o.far
  by = opened-by old a.near_stands o

  uses-n : (k : ℕ) → uses n k ≡ one top k + uses o.near k + uses o.far k
  uses-n k = opened-uses old a.near_stands o k

  high-n : height_of f + 1 ≡ max (height_of o.near) (height_of o.far)
  high-n = omega (arith, opened-height old a.near_stands o)

  pub top_there : IsSome (old top)
  top_there = is_there by.here

  pub turn-inner : {middle : ℕ} → outer.far.root ≡ Some middle → IsBelow old (Some middle) o.far
  turn-inner e = (sym e ∙ ap (λ (v : Top). v.root) o.far_is, by.other)

  module _ (less : height_of o.far ≤ height_of o.near) where
    pub once-first : AreParts old outer.far key low o.far f × AreNear o.far f
    once-first = (
      record {
        near_is = o.far_is;
        far_is = a.far_is;
        near_stands = by.other;
        far_stands = a.far_stands;
        here = a.here;
        once = λ k. omega (arith, a.once k, uses-n k);
        low = (omega (arith, a.low, high-n), omega (arith, a.low));
      },
      (omega (arith, high-n, by.near), omega (arith, high-n, by.near)),
    )

    module _ {mid : Look} {below : Top} {p : Piece} (u : Links old mid b below key p o.far f) where
      pub once-second : AreParts mid outer.near top below o.near (fork b key p o.far f) × AreNear o.near (fork b key p o.far f)
      once-second = (
        record {
          near_is = o.near_is;
          far_is = u.is;
          near_stands = beside_linked o.near u (let h = one-same key in omega (arith, a.once key, uses-n key)) by.one;
          far_stands = u.stands;
          here = rw (u.others top (no_key key top (omega (arith, a.once top, uses-n top, one-same top)))) top_there;
          once = λ k. omega (arith, a.once k, uses-n k, fork-uses);
          low = (omega (arith, a.low, high-n), omega (arith, a.low, high-n, fork-height));
        },
        (omega (arith, high-n, by.near, fork-height), omega (arith, high-n, by.near, fork-height)),
      )

      pub once-done : {new : Look} {all : Top} → Links mid new b all top outer.piece o.near (fork b key p o.far f)
          → Joins old new b all key p n f
      once-done v =
          record {
            shape = fork b top outer.piece o.near (fork b key p o.far f);
            is = v.is;
            stands = v.stands;
            all = once_items b key top p outer.piece o.near o.far f ∙ ap (λ t. items (fork b key p t f)) (sym o.is);
            keys = λ k. omega (arith, uses-n k, fork-uses);
            others = λ k z.
                v.others k (no_key top k (omega (arith, uses-n k))) ∙ u.others k (no_key key k (omega arith));
            tall = (omega (arith, high-n, by.near, fork-height), omega (arith, high-n, by.near, fork-height));
            short = omega (arith, high-n, by.near, fork-height);
            plain = λ w. absurd (omega (arith, w.0));
          }

  -- ---- two turns

  module _ (less : height_of o.near < height_of o.far) {middle : ℕ} {inner : Opened} (i : Opens b middle inner o.far) where
    inside : StandsBy old b middle inner.piece i.near i.far
    inside = stands_by old b middle inner.piece i.near i.far (rw i.is at by.other)

    pub turn-middle_piece : IsPiece inner.piece
    turn-middle_piece = inside.piece

    uses-m : (k : ℕ) → uses o.far k ≡ one middle k + uses i.near k + uses i.far k
    uses-m k = ap (λ t. uses t k) i.is ∙ fork-uses b middle inner.piece i.near i.far k

    high-m : height_of f ≡ max (height_of i.near) (height_of i.far)
    high-m = omega (arith, ap height_of i.is, high-n, by.near, fork-height)

    high-o : height_of o.near ≡ height_of f
    high-o = omega (arith, high-n, by.near)

    pub twice-first : AreParts old outer.near top inner.near o.near i.near × AreNear o.near i.near
    twice-first = (
      record {
        near_is = o.near_is;
        far_is = i.near_is;
        near_stands = by.one;
        far_stands = inside.one;
        here = top_there;
        once = λ k. omega (arith, a.once k, uses-n k, uses-m k);
        low = (omega (arith, a.low, high-o), omega (arith, a.low, high-m));
      },
      grind (arith, high-o, high-m, inside.near),
    )

    module _ {mid : Look} {first : Top} (u : Links old mid b first top outer.piece o.near i.near) where
      pub twice-second : AreParts mid inner.far key low i.far f × AreNear i.far f
      twice-second =
          let own = one-same top in (
            record {
              near_is = i.far_is;
              far_is = a.far_is;
              near_stands = beside_linked i.far u (omega (arith, a.once top, uses-n top, uses-m top)) inside.other;
              far_stands = beside_linked f u (omega (arith, a.once top, uses-n top)) a.far_stands;
              here = rw (u.others key (no_key top key (omega (arith, a.once key, uses-n key, one-same key)))) a.here;
              once = λ k. omega (arith, a.once k, uses-n k, uses-m k);
              low = (omega (arith, a.low, high-m), omega (arith, a.low));
            },
            (omega (arith, high-m, inside.near), omega (arith, high-m, inside.near)),
          )

      module _ {next : Look} {last : Top} {p : Piece} (v : Links mid next b last key p i.far f) where
        pub twice-third : AreParts next first middle last (fork b top outer.piece o.near i.near) (fork b key p i.far f)
            × AreNear (fork b top outer.piece o.near i.near) (fork b key p i.far f)
        twice-third =
            let own = one-same key in
            let mine = one-same middle in (
              record {
                near_is = u.is;
                far_is = v.is;
                near_stands = beside_linked (fork b top outer.piece o.near i.near) v
                    (omega (arith, a.once key, uses-n key, uses-m key, fork-uses)) u.stands;
                far_stands = v.stands;
                here = rw (
                  v.others middle (no_key key middle (omega (arith, a.once middle, uses-n middle, uses-m middle))),
                  u.others middle (no_key top middle (omega (arith, a.once middle, uses-n middle, uses-m middle))),
                ) (is_there inside.here);
                once = λ k. omega (arith, a.once k, uses-n k, uses-m k, fork-uses);
                low = (omega (arith, a.low, high-o, high-m, fork-height), omega (arith, a.low, high-m, fork-height));
              },
              (omega (arith, high-o, high-m, inside.near, fork-height), omega (arith, high-o, high-m, inside.near, fork-height)),
            )

        pub twice-done : {new : Look} {all : Top}
            → Links next new b all middle inner.piece (fork b top outer.piece o.near i.near) (fork b key p i.far f)
            → Joins old new b all key p n f
        twice-done w =
            record {
              shape = fork b middle inner.piece (fork b top outer.piece o.near i.near) (fork b key p i.far f);
              is = w.is;
              stands = w.stands;
              all = twice_items b key top middle p outer.piece inner.piece o.near i.near i.far f
                  ∙ ap (λ t. items (fork b key p (fork b top outer.piece o.near t) f)) (sym i.is)
                  ∙ ap (λ t. items (fork b key p t f)) (sym o.is);
              keys = λ k. omega (arith, uses-n k, uses-m k, fork-uses);
              others = λ k z.
                  w.others k (no_key middle k (omega (arith, uses-n k, uses-m k))) ∙ v.others k (no_key key k (omega arith))
                  ∙ u.others k (no_key top k (omega (arith, uses-n k)));
              tall = (
                omega (arith, high-o, high-m, inside.near, high-n, fork-height),
                omega (arith, high-o, high-m, inside.near, fork-height),
              );
              short = omega (arith, high-o, high-m, inside.near, high-n, fork-height);
              plain = λ y. absurd (omega (arith, y.0));
            }
