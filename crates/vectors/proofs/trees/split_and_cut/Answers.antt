use Rattle.std.proofs.Common.{◌≡◌, ℕ, ◌+◌, ◌<◌, ◌≤◌, ◌⊎◌, inl, inr, ⊎_elim, IsSome, Option, Some, None, List, refl, sym, ap, subst}
use Rattle.std.proofs.Common.{◌∙◌, arith}
use Rattle.std.proofs.lemmas.Bool.{cases_lt}
use Rattle.std.specs.Prelude.{Result, Ok, OnOk}
use Rattle.dmatypes.specs.declared.width.Width.{Width}
use Rattle.dmatypes.specs.declared.width.Width.TheVariants.{W39, W48}
use Rattle.dmatypes.specs.Page.{Range, levels, pages_end}
use Rattle.dmatypes.specs.World.{Target}
use Rattle.tables.specs.declared.trees.Tree.{Tree}
use Rattle.tables.specs.Tree.{states, stated, uses}
use Rattle.tables.specs.Pool.{Pool, memory, occurs, IsTree}
use Rattle.tables.specs.Changes.{MapsPages, UnmapsPages, TakesAndGivesFrames}
use Rattle.tables.proofs.pools.Kept.{span-levels, same_root}
use Rattle.vectors.proofs.trees.split_and_cut.Goals as goal

on_ok : {A E P : Type 0} (r : Result A E) (a : A) → r ≡ Ok a → OnOk r P → P
on_ok {A} {E} {P} r a e h = let Q : Result A E → Type 0 = λ x. OnOk x P in subst Q e h

-- the same of a range and a root that are known
unmaps_at : (old new : Pool) (tree known : Tree) (range : Range) (first pages : ℕ) (cut : List ℕ) → tree ≡ known
    → range ≡ record { first = first; pages = pages } → UnmapsPages old new (levels tree.width) tree.root range.first
    (range.first + range.pages) cut
    → UnmapsPages old new (levels known.width) known.root first (first + pages) cut
unmaps_at old new tree known range first pages cut et er un =
    subst (λ (t : Tree). UnmapsPages old new (levels t.width) t.root first (first + pages) cut) et
    (subst (λ (r : Range). UnmapsPages old new (levels tree.width) tree.root r.first (r.first + r.pages) cut) er un)

maps_at : (old new : Pool) (tree known : Tree) (range : Range) (first pages : ℕ) (says : ℕ → Option Target) → tree ≡ known
    → range ≡ record { first = first; pages = pages } → MapsPages old new (levels tree.width) tree.root range.first
    (range.first + range.pages) says
    → MapsPages old new (levels known.width) known.root first (first + pages) says
maps_at old new tree known range first pages says et er maps =
    subst (λ (t : Tree). MapsPages old new (levels t.width) t.root first (first + pages) says) et
    (subst (λ (r : Range). MapsPages old new (levels tree.width) tree.root r.first (r.first + r.pages) says) er maps)

-- which pages a tree has, and which it doesn't have
HasAll : Pool → Tree → ℕ → ℕ → Type 0
HasAll pool tree from to = (p : ℕ) → from ≤ p → p < to → IsSome (states (memory pool.words) (levels tree.width) tree.root p)

HasNone : Pool → Tree → ℕ → ℕ → Type 0
HasNone pool tree from to = (p : ℕ) → from ≤ p → p < to → states (memory pool.words) (levels tree.width) tree.root p ≡ None

some_of : (o : Option Target) (t : Target) → o ≡ Some t → IsSome o
some_of None t e = cc
some_of (Some x) t e = refl

mapped_all : (old new : Pool) (tree : Tree) (from to : ℕ) (says : ℕ → Target)
    → MapsPages old new (levels tree.width) tree.root from to (λ p. Some (says p)) → HasAll new tree from to
unfolding HasAll
mapped_all old new tree from to says maps p low high =
    some_of (states (memory new.words) (levels tree.width) tree.root p) (says p) (maps.mapped p low high)

-- the first pages are pages of each width
some_pages : (width : Width) → 0x1000 ≤ pages_end width
some_pages W39 = omega arith
some_pages W48 = omega arith

kept_all : (old new : Pool) (tree : Tree) (from to a b : ℕ) (cut : List ℕ) → from < 0x1000 → b ≤ 0x1000
    → (b ≤ from) ⊎ (to ≤ a) → UnmapsPages old new (levels tree.width) tree.root from to cut → HasAll old tree a b → HasAll new tree a b
unfolding HasAll
kept_all old new tree from to a b cut within end apart un all p low high =
    let span = span-levels tree.width in
    let some = some_pages tree.width in
    subst (λ (o : Option Target). IsSome o) (sym
    (un.elsewhere p (same_root (levels tree.width) p from (omega (arith, span, some)) (omega (arith, span, some)))
    (⊎_elim (λ h. inl (omega arith)) (λ h. inr (omega arith)) apart)))
    (all p low high)

kept_none : (old new : Pool) (tree : Tree) (from to a b : ℕ) (cut : List ℕ) → from < 0x1000 → b ≤ 0x1000
    → (b ≤ from) ⊎ (to ≤ a) → UnmapsPages old new (levels tree.width) tree.root from to cut → HasNone old tree a b → HasNone new tree a b
unfolding HasNone
kept_none old new tree from to a b cut within end apart un none p low high =
    let span = span-levels tree.width in
    let some = some_pages tree.width in
    un.elsewhere p (same_root (levels tree.width) p from (omega (arith, span, some)) (omega (arith, span, some)))
    (⊎_elim (λ h. inl (omega arith)) (λ h. inr (omega arith)) apart) ∙ none p low high

gone_none : (old new : Pool) (tree : Tree) (from to : ℕ) (cut : List ℕ) → UnmapsPages old new (levels tree.width) tree.root from to cut
    → HasNone new tree from to
unfolding HasNone
gone_none old new tree from to cut un p low high = ap (stated p) (un.gone p low high)

part_all : (pool : Pool) (tree : Tree) (from to a b : ℕ) → from ≤ a → b ≤ to → HasAll pool tree from to → HasAll pool tree a b
unfolding HasAll
part_all pool tree from to a b low high all p x y = all p (omega arith) (omega arith)

join_none : (pool : Pool) (tree : Tree) (from mid to : ℕ) → HasNone pool tree from mid → HasNone pool tree mid to
    → HasNone pool tree from to
unfolding HasNone
join_none pool tree from mid to one two p low high = ⊎_elim (λ h. one p low h) (λ h. two p h high) (cases_lt p mid)

-- a tree is one after its cut tables were given back
given_tree : (old mid new : Pool) (tree now : Tree) (cut given : List ℕ) → now ≡ tree → given ≡ cut
    → IsTree old (levels tree.width) tree.root
    → TakesAndGivesFrames old mid (levels tree.width) tree.root cut → new.words ≡ mid.words
    → ((f : ℕ) → occurs f new.free ≡ occurs f mid.free + occurs f given) → new.frames ≡ mid.frames → IsTree new (levels now.width) now.root
given_tree old mid new tree now cut given et eg first moves words free frames =
    subst (λ (t : Tree). IsTree new (levels t.width) t.root) (sym et) (record {
      once =
          λ f. omega (
            arith,
            first.once f,
            moves.account f,
            free f,
            ap (occurs f) eg,
            ap (λ ws. uses (memory ws) (levels tree.width) tree.root f) words,
          );
      within =
          λ f past.
          omega (
            arith,
            first.within f (omega (arith, moves.frames, frames)),
            moves.account f,
            free f,
            ap (occurs f) eg,
            ap (λ ws. uses (memory ws) (levels tree.width) tree.root f) words,
          );
    })

-- as a call asks it
asks_all : (pool : Pool) (tree known : Tree) (range : Range) (first pages : ℕ) → tree ≡ known
    → range ≡ record { first = first; pages = pages } → HasAll pool known first (first + pages) → (p : ℕ)
    → (range.first ≤ p) × (p < range.first + range.pages) → IsSome (states (memory pool.words) (levels tree.width) tree.root p)
unfolding HasAll
asks_all pool tree known range first pages et er all p within =
    let a : range.first ≡ first = ap (λ (r : Range). r.first) er in
    let b : range.pages ≡ pages = ap (λ (r : Range). r.pages) er in
    subst (λ (t : Tree). IsSome (states (memory pool.words) (levels t.width) t.root p)) (sym et)
    (all p (omega (arith, within.0)) (omega (arith, within.1)))

asks_none : (pool : Pool) (tree known : Tree) (range : Range) (first pages : ℕ) → tree ≡ known
    → range ≡ record { first = first; pages = pages } → HasNone pool known first (first + pages) → (p : ℕ)
    → (range.first ≤ p) × (p < range.first + range.pages) → states (memory pool.words) (levels tree.width) tree.root p ≡ None
unfolding HasNone
asks_none pool tree known range first pages et er none p within =
    let a : range.first ≡ first = ap (λ (r : Range). r.first) er in
    let b : range.pages ≡ pages = ap (λ (r : Range). r.pages) er in
    subst (λ (t : Tree). states (memory pool.words) (levels t.width) t.root p ≡ None) (sym et)
    (none p (omega (arith, within.0)) (omega (arith, within.1)))

pub unmap-second_cut-requires-clause-there : goal.unmap-second_cut-requires-clause-there
unmap-second_cut-requires-clause-there g c =
    let t = c.in_ok-tree.tree in
    let root1 : c.map.new.self ≡ c.in_ok-tree.tree = c.map.ensures.root in
    let maps =
    maps_at c.new-2.new.pool c.map.new.pool t t c.pages.result 512 512 _ refl c.pages.ensures
    (on_ok c.map.result c.expect.result c.expect.ensures c.map.ensures.maps) in
    let all1 = mapped_all c.new-2.new.pool c.map.new.pool t 512 1024 _ maps in
    let first =
    unmaps_at c.map.new.pool c.unmap-first_cut.new.pool c.map.new.self t c.pages-3.result 513 1 c.unmap-first_cut.result.frames root1
    c.pages-3.ensures c.unmap-first_cut.ensures.unmaps in
    let root2 : c.unmap-first_cut.new.self ≡ c.in_ok-tree.tree = c.unmap-first_cut.ensures.root ∙ root1 in
    asks_all c.unmap-first_cut.new.pool c.unmap-first_cut.new.self t c.pages-5.result 514 510 root2 c.pages-5.ensures
    (kept_all c.map.new.pool c.unmap-first_cut.new.pool t 513 514 514 1024 c.unmap-first_cut.result.frames (omega arith) (omega arith)
    (inr (omega arith)) first (part_all c.map.new.pool t 512 1024 514 1024 (omega arith) (omega arith) all1))

pub unmap-third_cut-requires-clause-there : goal.unmap-third_cut-requires-clause-there
unmap-third_cut-requires-clause-there g c =
    let t = c.in_ok-tree.tree in
    let root1 : c.map.new.self ≡ c.in_ok-tree.tree = c.map.ensures.root in
    let maps =
    maps_at c.new-2.new.pool c.map.new.pool t t c.pages.result 512 512 _ refl c.pages.ensures
    (on_ok c.map.result c.expect.result c.expect.ensures c.map.ensures.maps) in
    let all1 = mapped_all c.new-2.new.pool c.map.new.pool t 512 1024 _ maps in
    let first =
    unmaps_at c.map.new.pool c.unmap-first_cut.new.pool c.map.new.self t c.pages-3.result 513 1 c.unmap-first_cut.result.frames root1
    c.pages-3.ensures c.unmap-first_cut.ensures.unmaps in
    let root2 : c.unmap-first_cut.new.self ≡ c.in_ok-tree.tree = c.unmap-first_cut.ensures.root ∙ root1 in
    let second =
    unmaps_at c.unmap-first_cut.new.pool c.unmap-second_cut.new.pool c.unmap-first_cut.new.self t c.pages-5.result 514 510
    c.unmap-second_cut.result.frames root2 c.pages-5.ensures c.unmap-second_cut.ensures.unmaps in
    let root3 : c.unmap-second_cut.new.self ≡ c.in_ok-tree.tree = c.unmap-second_cut.ensures.root ∙ root2 in
    asks_all c.unmap-second_cut.new.pool c.unmap-second_cut.new.self t c.pages-7.result 512 1 root3 c.pages-7.ensures
    (kept_all c.unmap-first_cut.new.pool c.unmap-second_cut.new.pool t 514 1024 512 513 c.unmap-second_cut.result.frames (omega arith)
    (omega arith) (inl (omega arith)) second (kept_all c.map.new.pool c.unmap-first_cut.new.pool t 513 514 512 513
    c.unmap-first_cut.result.frames (omega arith) (omega arith) (inl (omega arith)) first
    (part_all c.map.new.pool t 512 1024 512 513 (omega arith) (omega arith) all1)))

pub map-requires-2-clause-absent : goal.map-requires-2-clause-absent
map-requires-2-clause-absent g c =
    let t = c.in_ok-tree.tree in
    let root1 : c.map.new.self ≡ c.in_ok-tree.tree = c.map.ensures.root in
    let maps =
    maps_at c.new-2.new.pool c.map.new.pool t t c.pages.result 512 512 _ refl c.pages.ensures
    (on_ok c.map.result c.expect.result c.expect.ensures c.map.ensures.maps) in
    let all1 = mapped_all c.new-2.new.pool c.map.new.pool t 512 1024 _ maps in
    let first =
    unmaps_at c.map.new.pool c.unmap-first_cut.new.pool c.map.new.self t c.pages-3.result 513 1 c.unmap-first_cut.result.frames root1
    c.pages-3.ensures c.unmap-first_cut.ensures.unmaps in
    let root2 : c.unmap-first_cut.new.self ≡ c.in_ok-tree.tree = c.unmap-first_cut.ensures.root ∙ root1 in
    let second =
    unmaps_at c.unmap-first_cut.new.pool c.unmap-second_cut.new.pool c.unmap-first_cut.new.self t c.pages-5.result 514 510
    c.unmap-second_cut.result.frames root2 c.pages-5.ensures c.unmap-second_cut.ensures.unmaps in
    let root3 : c.unmap-second_cut.new.self ≡ c.in_ok-tree.tree = c.unmap-second_cut.ensures.root ∙ root2 in
    let third =
    unmaps_at c.unmap-second_cut.new.pool c.unmap-third_cut.new.pool c.unmap-second_cut.new.self t c.pages-7.result 512 1
    c.unmap-third_cut.result.frames root3 c.pages-7.ensures c.unmap-third_cut.ensures.unmaps in
    let root4 : c.unmap-third_cut.new.self ≡ c.in_ok-tree.tree = c.unmap-third_cut.ensures.root ∙ root3 in
    let low = gone_none c.unmap-second_cut.new.pool c.unmap-third_cut.new.pool t 512 513 c.unmap-third_cut.result.frames third in
    let one =
    kept_none c.unmap-second_cut.new.pool c.unmap-third_cut.new.pool t 512 513 513 514 c.unmap-third_cut.result.frames
    (omega arith) (omega arith) (inr (omega arith)) third (kept_none c.unmap-first_cut.new.pool c.unmap-second_cut.new.pool t 514
    1024 513 514 c.unmap-second_cut.result.frames (omega arith) (omega arith) (inl (omega arith)) second
    (gone_none c.map.new.pool c.unmap-first_cut.new.pool t 513 514 c.unmap-first_cut.result.frames first)) in
    let high =
    kept_none c.unmap-second_cut.new.pool c.unmap-third_cut.new.pool t 512 513 514 1024 c.unmap-third_cut.result.frames
    (omega arith) (omega arith) (inr (omega arith)) third
    (gone_none c.unmap-first_cut.new.pool c.unmap-second_cut.new.pool t 514 1024 c.unmap-second_cut.result.frames second) in
    asks_none c.unmap-third_cut.new.pool c.unmap-third_cut.new.self t c.pages-8.result 512 512 root4 c.pages-8.ensures
    (join_none c.unmap-third_cut.new.pool t 512 513 1024 low (join_none c.unmap-third_cut.new.pool t 513 514 1024 one high))

pub unmap-last_cut-requires-clause-there : goal.unmap-last_cut-requires-clause-there
unmap-last_cut-requires-clause-there g c =
    let t = c.unmap-third_cut.new.self in
    let maps =
    maps_at c.unmap-third_cut.new.pool c.map-2.new.pool t t c.pages-8.result 512 512 _ refl c.pages-8.ensures
    (on_ok c.map-2.result c.expect-2.result c.expect-2.ensures c.map-2.ensures.maps) in
    asks_all c.map-2.new.pool c.map-2.new.self t c.pages-10.result 512 512 c.map-2.ensures.root c.pages-10.ensures
    (mapped_all c.unmap-third_cut.new.pool c.map-2.new.pool t 512 1024 _ maps)

-- the tree before the last unmap
tree_before : (pool : Pool) (tree known : Tree) → tree ≡ known → IsTree pool (levels known.width) known.root
    → IsTree pool (levels tree.width) tree.root
tree_before pool tree known e h = subst (λ (t : Tree). IsTree pool (levels t.width) t.root) (sym e) h

pub give_back-requires-clause-once : goal.give_back-requires-clause-once
give_back-requires-clause-once g c f =
    let tree = tree_before c.map-2.new.pool c.map-2.new.self c.unmap-third_cut.new.self c.map-2.ensures.root c.map-2.ensures.tree in
    omega (arith, tree.once f, c.unmap-last_cut.ensures.moves.account f, ap (occurs f) c.frames-5.ensures.all)

pub give_back-requires-clause-within : goal.give_back-requires-clause-within
give_back-requires-clause-within g c f has =
    let tree = tree_before c.map-2.new.pool c.map-2.new.self c.unmap-third_cut.new.self c.map-2.ensures.root c.map-2.ensures.tree in
    ⊎_elim (λ inside. inside)
    (λ (past : c.unmap-last_cut.new.pool.frames ≤ f).
    absurd (omega (
      arith,
      has,
      ap (occurs f) c.frames-5.ensures.all,
      c.unmap-last_cut.ensures.moves.account f,
      tree.within f (omega (arith, c.unmap-last_cut.ensures.moves.frames)),
    ))) (cases_lt f c.unmap-last_cut.new.pool.frames)

pub destroy-requires : goal.destroy-requires
destroy-requires g c =
    let tree = tree_before c.map-2.new.pool c.map-2.new.self c.unmap-third_cut.new.self c.map-2.ensures.root c.map-2.ensures.tree in
    given_tree c.map-2.new.pool c.unmap-last_cut.new.pool c.give_back.new.self c.map-2.new.self c.unmap-last_cut.new.self
    c.unmap-last_cut.result.frames c.frames-5.result.now c.unmap-last_cut.ensures.root c.frames-5.ensures.all tree
    c.unmap-last_cut.ensures.moves c.give_back.ensures.words c.give_back.ensures.free c.give_back.ensures.frames
