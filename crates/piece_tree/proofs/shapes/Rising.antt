-- The last step of a way that goes on before its key.
use Rattle.piece_tree.proofs.Names.{◌≡◌, ℕ, ◌-◌, ◌<◌, ◌≤◌, Bool, true, false, List, [], ◌∷◌, ◌++◌, refl, ap, sym, ◌∙◌, subst, arith}
use Rattle.piece_tree.proofs.Names.{append_assoc, append-nil, Step, Shape, items, Above, Whole, Beside, plug, front, back, step_at}
use Rattle.piece_tree.proofs.Names.{AreSteps, GoesBehind, IsStepAbove, within}
use Rattle.piece_tree.proofs.shapes.Mended.{Last, last_step}

-- ---- a way on from the end of another one

pub within-front : (inner up : Above) → front (within inner up) ≡ front up ++ front inner
within-front Whole up = sym (append-nil (front up))
within-front (Beside true key p o inner) up = within-front inner up
within-front (Beside false key p o inner) up = ap (λ l. l ++ (items o ++ p ∷ [])) (within-front inner up) ∙ simp append_assoc

pub within-back : (inner up : Above) → back (within inner up) ≡ back inner ++ back up
within-back Whole up = refl
within-back (Beside true key p o inner) up = ap (λ l. p ∷ items o ++ l) (within-back inner up) ∙ simp append_assoc
within-back (Beside false key p o inner) up = within-back inner up

pub within-plug : (inner up : Above) (t : Shape) → plug (within inner up) t ≡ plug up (plug inner t)
within-plug Whole up t = refl
within-plug (Beside b key p o inner) up t = within-plug inner up _

within-twice : (inner mid up : Above) → within (within inner mid) up ≡ within inner (within mid up)
within-twice Whole mid up = refl
within-twice (Beside b key p o inner) mid up = ap (λ w. Beside b key p o w) (within-twice inner mid up)

within-on : (inner up : Above) → GoesBehind inner → GoesBehind up → GoesBehind (within inner up)
within-on Whole up g h = h
within-on (Beside true key p o inner) up g h = g
within-on (Beside false key p o inner) up g h = within-on inner up g h

-- nothing lies behind it
pub on-back : (path : Above) → GoesBehind path → back path ≡ []
on-back Whole g = refl
on-back (Beside true key p o up) g = absurd g
on-back (Beside false key p o up) g = on-back up g

-- ---- up to the last step that goes on before its key

-- so far: all steps below go on behind theirs
pub record Rising (way : List Step) (depth : ℕ) (path : Above) : Type 0 where
  pub inner : Above
  pub up : Above
  pub is : path ≡ within inner up
  pub on : GoesBehind inner
  pub rest : AreSteps way depth up

abbrev pub IsRising : List Step → ℕ → ℕ → Type 0
IsRising way steps depth = (depth ≤ steps) × ((path : Above) → AreSteps way steps path → Rising way depth path)

pub rising_start : (way : List Step) (steps : ℕ) → IsRising way steps steps
rising_start way steps = (omega arith, (λ path s. record { inner = Whole; up = path; is = refl; on = tt; rest = s }))

module _ (way : List Step) (depth : ℕ) (path : Above) (g : Rising way depth path) where
  pub rising_end : depth ≡ 0 → GoesBehind path
  rising_end e = subst (λ u. GoesBehind u) (sym g.is) (within-on g.inner g.up g.on (none g.up g.rest))
    where
      none : (up : Above) → AreSteps way depth up → GoesBehind up
      none Whole s = tt
      none (Beside y key p o up) s = absurd (omega (arith, s.1))

  module _ (pos : 0 < depth) where
    abbrev la : Last way depth g.up
    la = last_step way depth g.up g.rest pos

    abbrev s : Step
    s = step_at way (depth - 1)

    at : (b : Bool) → s.before ≡ b → path ≡ within g.inner (Beside b s.key la.piece la.other la.more)
    at b e = g.is ∙ ap (within g.inner) la.is ∙ ap (λ x. within g.inner (Beside x s.key la.piece la.other la.more)) e

    pub rising-here : s.before ≡ true → IsStepAbove way (depth - 1) path
    rising-here e = record {
      inner = g.inner;
      key = s.key;
      piece = la.piece;
      other = la.other;
      up = la.more;
      is = at true e;
      on = g.on;
      step = ap (λ x. record { key = s.key; before = x }) e;
      steps = la.steps;
    }

    pub rising-on : s.before ≡ false → Rising way (depth - 1) path
    rising-on e =
        let last = Beside false s.key la.piece la.other Whole in
        record {
          inner = within g.inner last;
          up = la.more;
          is = at false e ∙ sym (within-twice g.inner last la.more);
          on = within-on g.inner last g.on tt;
          rest = la.steps;
        }
