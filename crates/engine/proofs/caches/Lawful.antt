-- Cached entries stay lawful while what they state stays.
use Rattle.std.proofs.Common.{◌≡◌, ℕ, inl, inr, List, Some, ◌∙◌}
use Rattle.dmatypes.specs.declared.width.Width.{Width}
use Rattle.dmatypes.specs.World.{World, IsIn}
use Rattle.dmatypes.specs.World as world
use Rattle.tables.specs.Pool.{memory}
use Rattle.tables.specs.Tree.{IsLeafAt, IsTableAt, leaf_from, table_from}
use Rattle.unit.specs.Caches.{Caches, CachedLeaf, CachedNonLeaf}
use Rattle.engine.specs.Domains.{Domain, domain_at}
use Rattle.engine.specs.State.{State}
use Rattle.engine.specs.Quarantine.{AreLawfulCaches, IsHeld, IsLawfulLeaf, IsLawfulTable}
use Rattle.dmatypes.specs.Page.{levels}

-- ---- one tree

-- the leaf entries and the tables of a tree that has the same ones
pub leaf_at_stays : (words words' : List ℕ) (width : Width) (root : ℕ)
    → ((p : ℕ) → leaf_from (memory words') (levels width) root p ≡ leaf_from (memory words) (levels width) root p)
    → (first pages frame rights : ℕ) → IsLeafAt (memory words) (levels width) root first pages frame rights
    → IsLeafAt (memory words') (levels width) root first pages frame rights
leaf_at_stays words words' width root same first pages frame rights at =
    (at.0, (at.1.0, at.1.1, at.1.2, at.1.3, λ p low high. same p ∙ at.1.4 p low high))

pub table_at_stays : (words words' : List ℕ) (width : Width) (root : ℕ)
    → ((p w : ℕ) → table_from (memory words') (levels width) root p w ≡ table_from (memory words) (levels width) root p w)
    → (first level frame : ℕ)
    → IsTableAt (memory words) (levels width) root first level frame → IsTableAt (memory words') (levels width) root first level frame
table_at_stays words words' width root same first level frame at = (at.0, at.1, at.2, at.3, λ p low high. same p level ∙ at.4 p low high)

-- ---- one domain

-- what a domain keeps for its cached entries: what its leaves state, their entries, its tables and what it holds
pub record KeepsLawful (words words' : List ℕ) (h h' : Domain) (v v' : world.Domain) : Type 0 where
  pub leaf : (l : CachedLeaf) → IsLawfulLeaf words l h v → IsLawfulLeaf words' l h' v'
  pub table : (i : CachedNonLeaf) → IsLawfulTable words i h v → IsLawfulTable words' i h' v'

-- a domain that stays, while the memory of its tree and what it holds do
pub keeps_same : (words words' : List ℕ) (h : Domain) (v : world.Domain)
    → ((p : ℕ) → leaf_from (memory words') (levels h.width) h.root p ≡ leaf_from (memory words) (levels h.width) h.root p)
    → ((p w : ℕ) → table_from (memory words') (levels h.width) h.root p w ≡ table_from (memory words) (levels h.width) h.root p w)
    → ((first pages f : ℕ) → IsHeld words h.records first pages f → IsHeld words' h.records first pages f)
    → KeepsLawful words words' h h v v
keeps_same words words' h v leaves tables held = record {
  leaf = λ l lawful. record {
    stated = lawful.stated;
    entry = λ strict. leaf_at_stays words words' h.width h.root leaves l.first l.pages l.frame l.rights (lawful.entry strict);
  };
  table = λ i lawful. record {
    span = lawful.span;
    named = elim lawful.named [
      | inl at ↦ inl (table_at_stays words words' h.width h.root tables i.first i.level i.frame at)
      | inr has ↦ inr (held i.first i.pages i.frame has)
    ];
  };
}

-- ---- all domains

-- what is cached stays lawful where each domain of the state keeps that
pub stay_lawful : (m t : State) (w w' : World) (c : Caches) → AreLawfulCaches m w c
    → ((d : ℕ) (h : Domain) (v : world.Domain) → domain_at m.domains d ≡ Some h → w.domains d ≡ Some v
    → (h' : Domain) × (v' : world.Domain) × (domain_at t.domains d ≡ Some h') × (w'.domains d ≡ Some v')
    × KeepsLawful m.pool.words t.pool.words h h' v v') → AreLawfulCaches t w' c
stay_lawful m t w w' c lawful keeps = record {
  leaves = λ l inside.
      let at = lawful.leaves l inside in
      let k = keeps l.domain at.0 at.1 at.2 at.3 in
      (k.0, k.1, k.2, k.3, k.4.leaf l at.4);
  tables = λ i inside.
      let at = lawful.tables i inside in
      let k = keeps i.domain at.0 at.1 at.2 at.3 in
      (k.0, k.1, k.2, k.3, k.4.table i at.4);
}

-- fewer entries are lawful too
pub fewer_lawful : (m : State) (w : World) (c c' : Caches) → AreLawfulCaches m w c → ((l : CachedLeaf) → IsIn l c'.leaves → IsIn l c.leaves)
    → ((i : CachedNonLeaf) → IsIn i c'.non_leaves → IsIn i c.non_leaves) → AreLawfulCaches m w c'
fewer_lawful m w c c' lawful leaves tables = record {
  leaves = λ l inside. lawful.leaves l (leaves l inside);
  tables = λ i inside. lawful.tables i (tables i inside);
}
