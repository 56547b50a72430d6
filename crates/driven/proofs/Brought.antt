-- What lists of effects bring.
use Rattle.engine.specs.State.{State}
use Rattle.driven.specs.declared.effect.Effect.TheVariants.{Await, Context, Send}
use Rattle.driven.specs.Effects.{IsForFrames, IsForMemory}
use Rattle.std.proofs.Common.{◌≡◌, ◌≢◌, ◌⊎◌, inl, inr, ⊎_elim, ℕ, ◌+◌, ◌-◌, ◌*◌, ◌/◌, ◌%◌}
use Rattle.std.proofs.Common.{◌<◌, ◌≤◌, List, [], ◌∷◌, ◌++◌, Option, Some, None, refl, sym}
use Rattle.std.proofs.Common.{ap, subst, ◌∙◌, arith, Bool, true, false}
use Rattle.std.specs.Prelude.{not}
use Rattle.std.specs.Option.{option_eq}
use Rattle.std.specs.List.{All}
use Rattle.std.proofs.lemmas.Bool.{cases_lt}
use Rattle.std.proofs.lemmas.List.{append_assoc}
use Rattle.std.proofs.lemmas.List.Elements.{All-append, All-cons, All-nil, All-push}
use Rattle.std.proofs.lemmas.Option.{none-some, same_Some}
use Rattle.dmatypes.specs.World.{IsIn}
use Rattle.tables.specs.declared.entries.TheConstants.{TABLE_ENTRIES}
use Rattle.tables.specs.Pool.{Pool}
use Rattle.tables.specs.Tree.{index_in}
use Rattle.engine.specs.Domains.{Domain}
use Rattle.engine.specs.Walkable.{table_at}
use Rattle.engine.proofs.lists.Membership.{in_left, in_right}
use Rattle.driven.specs.declared.effect.Effect.{Effect}
use Rattle.driven.specs.declared.effect.Effect.TheVariants.{Barrier, Words}
use Rattle.driven.specs.Effects.{Brings, EndInBarrier, IsBrought, IsForTables}
use Rattle.driven.specs.Telling.{BringsFrames, BringsLevel, BringsLowest, BringsMapped, BringsPart, BringsTable, BringsUnmapped}
use Rattle.driven.specs.Telling.{BringsUpper, BringsWalks, BringsWhole, IsTableOnWaysFrom, TablesStay}

pub brought_left : (xs ys : List Effect) (f k : ℕ) → IsBrought xs f k → IsBrought (xs ++ ys) f k
brought_left xs ys f k (e, (inside, brings)) = (e, (in_left e xs ys inside, brings))

pub brought_right : (xs ys : List Effect) (f k : ℕ) → IsBrought ys f k → IsBrought (xs ++ ys) f k
brought_right xs ys f k (e, (inside, brings)) = (e, (in_right e xs ys inside, brings))

-- what a joined list brings, one part or the other does
pub brought_either : (xs ys : List Effect) (f k : ℕ) → IsBrought (xs ++ ys) f k → IsBrought xs f k ⊎ IsBrought ys f k
brought_either xs ys f k (e, (inside, brings)) =
    elim (in_part e xs ys inside) [
      | inl left ↦ inl (e, (left, brings))
      | inr right ↦ inr (e, (right, brings))
    ]
  where
    in_part : (x : Effect) (us vs : List Effect) → IsIn x (us ++ vs) → IsIn x us ⊎ IsIn x vs
    in_part x [] vs h = inr h
    in_part x (u ∷ us) vs (inl same) = inl (inl same)
    in_part x (u ∷ us) vs (inr rest) = elim (in_part x us vs rest) [ inl l ↦ inl (inr l) | inr r ↦ inr r ]

pub brought_by : (e : Effect) (f k : ℕ) → IsBrought (e ∷ []) f k → Brings e f k
brought_by e f k (x, (inl same, brings)) = subst (λ y. Brings y f k) same brings
brought_by e f k (x, (inr none, brings)) = absurd none

pub none_brought : (f k : ℕ) → IsBrought [] f k → ⊥
none_brought f k (e, (inside, brings)) = inside

pub brought_one : (e : Effect) (f k : ℕ) → Brings e f k → IsBrought (e ∷ []) f k
brought_one e f k brings = (e, (inl refl, brings))

pub none_for_tables : All IsForTables []
none_for_tables k d less = absurd (omega (arith, less))

pub one_for_tables : (e : Effect) → IsForTables e → All IsForTables (e ∷ [])
one_for_tables e h = All-push IsForTables [] e none_for_tables h

of_tables : (e : Effect) → IsForTables e → IsForFrames e
of_tables (Words frame first count) h = tt
of_tables Barrier h = tt
of_tables (Context device first) h = absurd h
of_tables (Send low high) h = absurd h
of_tables (Await number) h = absurd h

of_frames : (t : State) (e : Effect) → IsForFrames e → IsForMemory t e
of_frames t (Words frame first count) h = tt
of_frames t Barrier h = tt
of_frames t (Context device first) h = absurd h
of_frames t (Send low high) h = absurd h
of_frames t (Await number) h = absurd h

-- what is for table frames is for memory
pub frames_for_memory : (t : State) (es : List Effect) → All IsForFrames es → All (λ e. IsForMemory t e) es
frames_for_memory t es all k d less = of_frames t _ (all k d less)

-- what is for tables is for memory
pub for_memory : (t : State) (es : List Effect) → All IsForTables es → All (λ e. IsForMemory t e) es
for_memory t es all k d less = of_frames t _ (of_tables _ (all k d less))

-- all words of a table
pub whole_table : (table : Option ℕ) (frame : ℕ) (e : Effect) → table ≡ Some frame → BringsPart frame 0 (TABLE_ENTRIES - 1) e
    → BringsWhole table (e ∷ [])
whole_table table frame e is part = record {
  for_memory = one_for_tables e part.0;
  brings = λ f k at inside.
      let own : frame ≡ f = same_Some frame f (sym is ∙ at) in
      let same : k % TABLE_ENTRIES ≡ k = omega (arith, inside) in
      brought_one e f k
      (subst (λ n. Brings e n k) own (subst (λ n. Brings e frame n) same (part.1 k (omega arith) (omega (arith, inside)))));
  only = λ f k inside there. is ∙ ap (λ n. Some n) (part.2 f k inside (brought_by e f k there));
}

-- no table
pub no_table : (table : Option ℕ) → table ≡ None → BringsWhole table []
no_table table none = record {
  for_memory = none_for_tables;
  brings = λ f k at inside. absurd (none-some f (sym none ∙ at));
  only = λ f k inside there. absurd (none_brought f k there);
}

-- of a table that stays the words of the pages, and of none nothing
pub stays : (was now : Option ℕ) (from to frame : ℕ) (e : Effect) → was ≡ now → now ≡ Some frame → BringsPart frame from to e
    → BringsTable was now from to (e ∷ [])
stays was now from to frame e same is part = record {
  for_memory = one_for_tables e part.0;
  stays = λ f n w there low high.
      subst (λ g. IsBrought (e ∷ []) g (n % TABLE_ENTRIES)) (same_Some frame f (sym is ∙ there))
      (brought_one e frame (n % TABLE_ENTRIES) (part.1 n low high));
  changes = λ f k ne h inside. absurd (ne same);
  only = λ f k inside there. inr (is ∙ ap (λ n. Some n) (part.2 f k inside (brought_by e f k there)));
}

pub nothing_there : (was now : Option ℕ) (from to : ℕ) → was ≡ now → now ≡ None → BringsTable was now from to []
nothing_there was now from to same none = record {
  for_memory = none_for_tables;
  stays = λ f n w there low high. absurd (none-some f (sym none ∙ there));
  changes = λ f k ne h inside. absurd (ne same);
  only = λ f k inside there. absurd (none_brought f k there);
}

-- of a table that went and of the one that came
pub exchanged : (was now : Option ℕ) (from to : ℕ) (xs ys : List Effect) → was ≢ now → BringsWhole was xs → BringsWhole now ys
    → BringsTable was now from to (xs ++ ys)
exchanged was now from to xs ys other before after = record {
  for_memory = All-append IsForTables xs ys before.for_memory after.for_memory;
  stays = λ f e w n low high. absurd (other (w ∙ sym n));
  changes = λ f k ne h inside.
      elim h [
        | inl w ↦ brought_left xs ys f k (before.brings f k w inside)
        | inr n ↦ brought_right xs ys f k (after.brings f k n inside)
      ];
  only = λ f k inside there.
      elim (brought_either xs ys f k there) [
        | inl x ↦ inl (before.only f k inside x)
        | inr y ↦ inr (after.only f k inside y)
      ];
}

-- the levels above the lowest, between two barriers
module _ (pool : Pool) (h : Option Domain) (first last : ℕ) (x y z : List Effect) where
  abbrev pub Between : List Effect
  Between = (((Barrier ∷ []) ++ x) ++ y) ++ z

  -- what is told there is of a table of one of the three levels
  between_only : BringsLevel pool h 2 first last x → BringsLevel pool h 3 first last y → BringsLevel pool h 4 first last z → (f k : ℕ)
      → k < TABLE_ENTRIES → IsBrought (Between ++ Barrier ∷ []) f k → IsTableOnWaysFrom pool h 2 first (last + 1) f
  between_only two three four f k inside there =
      elim (brought_either Between (Barrier ∷ []) f k there) [
        | inl most ↦ elim (brought_either (((Barrier ∷ []) ++ x) ++ y) z f k most) [
          | inl lower ↦ elim (brought_either ((Barrier ∷ []) ++ x) y f k lower) [
            | inl lowest ↦ elim (brought_either (Barrier ∷ []) x f k lowest) [
              | inl none ↦ absurd (brought_by Barrier f k none)
              | inr at ↦ (2, (omega arith, omega arith, two.only f k inside at))
            ]
            | inr at ↦ (3, (omega arith, omega arith, three.only f k inside at))
          ]
          | inr at ↦ (4, (omega arith, omega arith, four.only f k inside at))
        ]
        | inr none ↦ absurd (brought_by Barrier f k none)
      ]

  pub upper : BringsLevel pool h 2 first last x → BringsLevel pool h 3 first last y → BringsLevel pool h 4 first last z
      → BringsUpper pool h first last (Between ++ Barrier ∷ [])
  upper two three four = record {
    rest = ((x ++ y) ++ z) ++ Barrier ∷ [];
    begins = refl;
    ends = inr (Between, refl);
    for_memory =
        All-append IsForTables Between (Barrier ∷ [])
        (All-append IsForTables (((Barrier ∷ []) ++ x) ++ y) z
        (All-append IsForTables ((Barrier ∷ []) ++ x) y
        (All-append IsForTables (Barrier ∷ []) x (one_for_tables Barrier tt) two.for_memory) three.for_memory) four.for_memory)
        (one_for_tables Barrier tt);
    only = between_only two three four;
    brings = λ level p f low high a b at.
        brought_left Between (Barrier ∷ []) f (index_in (level - 1) p)
        (⊎_elim
        (λ (below : level < 3).
        let e : 2 ≡ level = omega (arith, low, below) in
        brought_left (((Barrier ∷ []) ++ x) ++ y) z f (index_in (level - 1) p)
        (brought_left ((Barrier ∷ []) ++ x) y f (index_in (level - 1) p)
        (brought_right (Barrier ∷ []) x f (index_in (level - 1) p)
        ((subst (λ n. BringsLevel pool h n first last x) e two).brings p f a b at))))
        (λ (more : 3 ≤ level). ⊎_elim
        (λ (below : level < 4).
        let e : 3 ≡ level = omega (arith, more, below) in
        brought_left (((Barrier ∷ []) ++ x) ++ y) z f (index_in (level - 1) p)
        (brought_right ((Barrier ∷ []) ++ x) y f (index_in (level - 1) p)
        ((subst (λ n. BringsLevel pool h n first last y) e three).brings p f a b at)))
        (λ (top : 4 ≤ level).
        let e : 4 ≡ level = omega (arith, high, top) in
        brought_right (((Barrier ∷ []) ++ x) ++ y) z f (index_in (level - 1) p)
        ((subst (λ n. BringsLevel pool h n first last z) e four).brings p f a b at))
        (cases_lt level 4))
        (cases_lt level 3));
  }

-- what a test tells apart is different
pub differ : (E : ℕ → ℕ → Bool) → ((n : ℕ) → E n n ≡ true) → (a b : Option ℕ) → true ≡ not (option_eq E a b) → a ≢ b
differ E same None None h e = absurd (let clash : true ≡ false = h in cc)
differ E same None (Some y) h e = none-some y e
differ E same (Some x) None h e = none-some x (sym e)
differ E same (Some x) (Some y) h e =
    let one : E x y ≡ true = ap (λ n. E x n) (sym (same_Some x y e)) ∙ same x in
    absurd (let clash : true ≡ false = h ∙ ap not one in cc)

-- where the second part has an effect and its last is a barrier, so is that of both
last_barrier : (x y : List Effect) {rest : List Effect} → y ≡ Barrier ∷ rest → EndInBarrier y → EndInBarrier (x ++ y)
last_barrier x y some (inl none) = absurd (let clash : Barrier ∷ _ ≡ [] = sym some ∙ none in cc)
last_barrier x y some (inr (earlier, is)) = inr (x ++ earlier, ap (λ es. x ++ es) is ∙ sym (append_assoc x earlier (Barrier ∷ [])))

-- the lowest tables, and then those above them
pub ways : (pool : Pool) (h : Option Domain) (from last to : ℕ) (x y : List Effect) → to ≡ last + 1 → BringsLevel pool h 1 from last x
    → BringsUpper pool h from last y → BringsWalks pool h from to (x ++ y)
ways pool h from last to x y end lowest above = record {
  ends = last_barrier x y above.begins above.ends;
  for_memory = All-append IsForTables x y lowest.for_memory above.for_memory;
  only = λ f k inside there.
      subst (λ n. IsTableOnWaysFrom pool h 1 from n f) (sym end)
      (elim (brought_either x y f k there) [
        | inl low ↦ (1, (omega arith, omega arith, lowest.only f k inside low))
        | inr up ↦
            let (level, (more, few, at)) = above.only f k inside up in (level, (omega (arith, more), few, at))
      ]);
  brings = λ level p f low high a b at.
      let inside : p ≤ last = omega (arith, b, end) in
      ⊎_elim
      (λ (below : level < 2).
      let e : 1 ≡ level = omega (arith, low, below) in
      brought_left x y f (index_in (level - 1) p) ((subst (λ n. BringsLevel pool h n from last x) e lowest).brings p f a inside at))
      (λ (more : 2 ≤ level). brought_right x y f (index_in (level - 1) p) (above.brings level p f more high a inside at))
      (cases_lt level 2);
}

-- the pages of one table that was there, and a barrier
pub mapped_in : (pool : Pool) (h : Option Domain) (from last to frame : ℕ) (grew : Bool) (e : Effect) → to ≡ last + 1 → grew ≡ false
    → table_at pool h from 1 ≡ Some frame → from ≤ last → from / TABLE_ENTRIES ≡ last / TABLE_ENTRIES → BringsPart frame from last e
    → BringsMapped pool h from to grew (e ∷ Barrier ∷ [])
mapped_in pool h from last to frame grew e end stays is some near part = record {
  ends = inr (e ∷ [], refl);
  for_memory = All-append IsForTables (e ∷ []) (Barrier ∷ []) (one_for_tables e part.0) (one_for_tables Barrier tt);
  only = λ f k inside there.
      elim (brought_either (e ∷ []) (Barrier ∷ []) f k there) [
        | inl one ↦
            let own : frame ≡ f = part.2 f k inside (brought_by e f k one) in
            (1, (omega arith, omega arith, (from, (omega arith, omega (arith, some, end), is ∙ ap (λ n. Some n) own))))
        | inr none ↦ absurd (brought_by Barrier f k none)
      ];
  brings = inr (
    frame,
    (
      stays,
      is,
      (λ p a b. omega (arith, a, b, end, near)),
      (λ p a b. brought_left (e ∷ []) (Barrier ∷ []) frame (p % TABLE_ENTRIES)
          (brought_one e frame (p % TABLE_ENTRIES) (part.1 p a (omega (arith, b, end))))),
    ),
  );
}

pub mapped_ways : (pool : Pool) (h : Option Domain) (from to : ℕ) (grew : Bool) (es : List Effect) → BringsWalks pool h from to es
    → BringsMapped pool h from to grew es
mapped_ways pool h from to grew es brings = record {
  ends = brings.ends;
  for_memory = brings.for_memory;
  only = brings.only;
  brings = inl brings;
}

-- where all tables of level 1 stay, no more than theirs and a barrier
pub unmapped_in : (pool : Pool) (h : Option Domain) (first last : ℕ) (before : List (Option ℕ)) (x : List Effect)
    → BringsLowest pool h first last before x → TablesStay pool h first last before
    → BringsUnmapped pool h first last before (x ++ Barrier ∷ [])
unmapped_in pool h first last before x lowest stay = record {
  lowest = x;
  rest = [];
  parted = refl;
  ends = inr (x, refl);
  brings_lowest = lowest;
  for_memory = All-append IsForTables x (Barrier ∷ []) lowest.for_memory (one_for_tables Barrier tt);
  only = λ f k inside there.
      elim (brought_either x (Barrier ∷ []) f k there) [
        | inl low ↦ inl (lowest.only f k inside low)
        | inr none ↦ absurd (brought_by Barrier f k none)
      ];
  upper = inl stay;
  spans = λ p was a b at.
      let t = lowest.spans p was a b at in (
        (λ f w n. brought_left x (Barrier ∷ []) f (p % TABLE_ENTRIES) (t.0 f w n)),
        (λ f k ne w inside. brought_left x (Barrier ∷ []) f k (t.1 f k ne w inside)),
      );
}

pub unmapped : (pool : Pool) (h : Option Domain) (first last : ℕ) (before : List (Option ℕ)) (x y : List Effect)
    → BringsLowest pool h first last before x → BringsUpper pool h first last y → BringsUnmapped pool h first last before (x ++ y)
unmapped pool h first last before x y lowest above = record {
  lowest = x;
  rest = above.rest;
  parted = ap (λ es. x ++ es) above.begins;
  ends = last_barrier x y above.begins above.ends;
  brings_lowest = lowest;
  for_memory = All-append IsForTables x y lowest.for_memory above.for_memory;
  only = λ f k inside there.
      elim (brought_either x y f k there) [
        | inl low ↦ inl (lowest.only f k inside low)
        | inr up ↦ inr (above.only f k inside up)
      ];
  upper = inr (λ level p f low high a b at. brought_right x y f (index_in (level - 1) p) (above.brings level p f low high a b at));
  spans = λ p was a b at.
      let t = lowest.spans p was a b at in (
        (λ f w n. brought_left x y f (p % TABLE_ENTRIES) (t.0 f w n)),
        (λ f k ne w inside. brought_left x y f k (t.1 f k ne w inside)),
      );
}

pub frames : (count frame : ℕ) (e : Effect) → frame ≡ 0 → e ≡ Words frame 0 (TABLE_ENTRIES * count)
    → BringsFrames count (e ∷ Barrier ∷ [])
frames count frame e none is = record {
  ends = inr (e ∷ [], refl);
  for_memory =
      All-cons IsForFrames e (Barrier ∷ []) (subst IsForFrames (sym is) tt) (All-cons IsForFrames Barrier [] tt (All-nil IsForFrames));
  only = λ f k inside there.
      elim (brought_either (e ∷ []) (Barrier ∷ []) f k there) [
        | inl one ↦
            let told : Brings (Words frame 0 (TABLE_ENTRIES * count)) f k = subst (λ x. Brings x f k) is (brought_by e f k one) in
            omega (arith, none, told.1)
        | inr clash ↦ absurd (brought_by Barrier f k clash)
      ];
  brings = λ f k low inside.
      brought_left (e ∷ []) (Barrier ∷ []) f k (brought_one e f k (subst (λ x. Brings x f k) (sym is) (
        omega (arith, none),
        omega (
          arith,
          none,
          low,
          inside,
        ),
      )));
}
