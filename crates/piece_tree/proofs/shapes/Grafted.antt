-- A tree hung where the end of a higher one is nearly as low: what lies below the higher one's root becomes one with it, and then the root
-- and that.
use Rattle.piece_tree.proofs.Names.{◌≡◌, ℕ, ◌+◌, ◌≤◌, max, Bool, true, false, ◌∷◌, ◌++◌, IsSome, ap, sym, ◌∙◌, inl, inr, subst, arith}
use Rattle.piece_tree.proofs.Names.{Piece, Opened, Top, Look, Shape, items, height_of, one, uses, fork, Opens, AreParts, Joins}
use Rattle.piece_tree.proofs.shapes.Forks.{one-same, same_stands, fork-height}
use Rattle.piece_tree.proofs.shapes.Forks.{StandsBy, opened-by, opened-there, opened-uses, opened-height}
use Rattle.piece_tree.proofs.shapes.Tall.{order}
use Rattle.piece_tree.proofs.shapes.Turned.{once_items}

-- the pieces are the same, where those of the tree on the other side are
far_items : (b : Bool) (key : ℕ) (p : Piece) (n s t : Shape) → items s ≡ items t → items (fork b key p n s) ≡ items (fork b key p n t)
far_items true key p n s t e = ap (λ ps. items n ++ p ∷ ps) e
far_items false key p n s t e = ap (λ ps. ps ++ p ∷ items n) e

module _ {old : Look} {b : Bool} {near far : Top} {key top : ℕ} {outer : Opened} {n f : Shape}
    (a : AreParts old near key far n f) (tall : height_of f + 2 ≤ height_of n) (o : Opens b top outer n) where
  by : StandsBy old b top outer.piece o.near o.far
  by = opened-by old a.near_stands o

  uses-n : (k : ℕ) → uses n k ≡ one top k + uses o.near k + uses o.far k
  uses-n k = opened-uses old a.near_stands o k

  high-n : height_of n ≡ 1 + max (height_of o.near) (height_of o.far)
  high-n = opened-height old a.near_stands o

  pub graft-below : AreParts old outer.far key far o.far f × (height_of f ≤ height_of o.far + 1)
  graft-below = (
    record {
      near_is = o.far_is;
      far_is = a.far_is;
      near_stands = by.other;
      far_stands = a.far_stands;
      here = a.here;
      once = λ k. omega (arith, a.once k, uses-n k);
      low = (omega (arith, a.low, high-n), a.low.1);
    },
    omega (arith, high-n, by.near),
  )

  module _ {mid : Look} {below : Top} {p : Piece} (j : Joins old mid b below key p o.far f) where
    pub graft-between : AreParts mid outer.near top below o.near j.shape × (height_of o.near ≤ height_of j.shape + 2)
        × (height_of j.shape ≤ height_of o.near + 2)
    graft-between = (
      record {
        near_is = o.near_is;
        far_is = j.is;
        near_stands = same_stands old mid o.near by.one (λ k g. j.others k (omega (arith, a.once k, uses-n k)));
        far_stands = j.stands;
        here = subst (λ x. IsSome x) (sym (j.others top (omega (arith, a.once top, uses-n top, one-same top))))
            (opened-there old a.near_stands o);
        once = λ k. omega (arith, a.once k, uses-n k, j.keys k);
        low = (omega (arith, a.low, high-n), omega (arith, a.low, tall, high-n, by.near, j.short));
      },
      omega (arith, by.near, j.tall),
      omega (arith, tall, high-n, by.near, j.short),
    )

    module _ {new : Look} {all : Top} (v : Joins mid new b all top outer.piece o.near j.shape) where
      graft-tall : height_of n ≤ height_of v.shape
      graft-tall = elim (order (height_of j.shape) (height_of o.near + 1)) [
        | inl x ↦
            let e = ap height_of (v.plain (omega (arith, by.near, j.tall), x)) ∙ fork-height b top outer.piece o.near j.shape in
            omega (arith, high-n, j.tall)
        | inr x ↦ omega (arith, high-n, by.near, v.tall)
      ]

      graft-short : height_of v.shape ≤ 1 + height_of n
      graft-short = omega (arith, tall, high-n, by.near, j.short, v.short)

      pub graft-done : Joins old new b all key p n f
      graft-done = record {
        shape = v.shape;
        is = v.is;
        stands = v.stands;
        all = v.all ∙ far_items b top outer.piece o.near j.shape (fork b key p o.far f) j.all
            ∙ once_items b key top p outer.piece o.near o.far f ∙ ap (λ t. items (fork b key p t f)) (sym o.is);
        keys = λ k. omega (arith, v.keys k, j.keys k, uses-n k);
        others = λ k z. v.others k (omega (arith, j.keys k, uses-n k)) ∙ j.others k (omega (arith, uses-n k));
        tall = (graft-tall, omega (arith, graft-tall, tall));
        short = omega (arith, graft-short, tall);
        plain = λ w. absurd (omega (arith, w.0, tall));
      }
