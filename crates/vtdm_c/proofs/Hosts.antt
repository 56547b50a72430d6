-- Numbers of host frames, and the words and walks that name them.
use Rattle.std.proofs.Common.{◌≡◌, ℕ, zero, suc, ◌+◌, ◌-◌, ◌*◌, ◌/◌, ◌%◌, ◌^◌, ◌<◌, ◌≤◌, ◌⊎◌, inl, inr, refl, sym, ap, ◌∙◌, arith, subst}
use Rattle.std.proofs.Common.{Bool, true, false, ◌==◌, nat_lt, Option, None, Some, unwrap_or}
use Rattle.std.specs.Prelude.{if◌then◌else◌}
use Rattle.std.proofs.lemmas.Bool.Decides.{eqb_tells, leb_tells, nat_tests}
use Rattle.dmatypes.specs.Page.{levels, pages_end}
use Rattle.dmatypes.specs.World.{Target}
use Rattle.dmatypes.specs.declared.page.TheConstants.{FRAMES_END, PAGE_BYTES, SPAN_PAGES}
use Rattle.vtdbits.specs.Translation.{target}
use Rattle.vtdbits.specs.Entry.{Spells, look}
use Rattle.vtdbits.specs.Entry as entry
use Rattle.vtdbits.proofs.Entries.{large_leaf_looked, leaf_looked, look-zero}
use Rattle.vtdbits.specs.declared.context.ContextEntry.TheVariants as contexts
use Rattle.vtdbits.specs.declared.entry.SsEntry.{SsEntry}
use Rattle.vtdbits.specs.declared.entry.SsEntry.TheVariants.{Absent, Table, Leaf, LargeLeaf}
use Rattle.tables.specs.Tree as tree
use Rattle.tables.specs.Tree.{LeafEntry, Memory, index_in, leaf_from, span, stated, table_from}
use Rattle.tables.specs.declared.entries.TheConstants.{TABLE_ENTRIES}
use Rattle.tables.proofs.walks.Onward.{deeper}
use Rattle.tables.proofs.walks.Steps.{leaf-zero, table-zero, table_top, table_under}
use Rattle.vtdm_c.specs.Base.{IsBase, entry_of, frame_of, number_of, word_of}
use Rattle.vtdm_c.specs.Hosts.{AreFree, AreFreeByNumber, AreHosted, ContextsNameHostFrames, FramesAreJudgedAlike, FramesAreReached}
use Rattle.vtdm_c.specs.Hosts.{LeavesStayAligned, NothingMovesAt0, PagesAreFoundInHostFrames, PassesTableFrames, TablesBeginThere}
use Rattle.vtdm_c.specs.Hosts.{WalksFindHostFrames, WordsNameHostFrames, leaf_of, seen, table_of, target_of}

-- ---- frames of a map

judged : (frames base frame pages : ℕ) → IsBase frames base → 1 ≤ frames → 1 ≤ pages
    → AreFreeByNumber frames (number_of base frame pages) pages → AreFree frames base frame pages
judged frames base frame pages is some more free =
    (grind (arith, nat_tests), λ k k_in behind. grind (arith, nat_tests))

judged_back : (frames base frame pages : ℕ) → IsBase frames base → 1 ≤ frames → 1 ≤ pages
    → AreFree frames base frame pages → AreFreeByNumber frames (number_of base frame pages) pages
judged_back frames base frame pages is some more free =
    let first : 0 < pages → base ≤ frame + 0 → base + frames ≤ frame + 0 = free.1 0 in
    let inner : base - frame < pages → base ≤ frame + (base - frame) → base + frames ≤ frame + (base - frame) = free.1 (base - frame) in
    (grind (arith, nat_tests), grind (arith, nat_tests))

pub judged_alike : FramesAreJudgedAlike
judged_alike frames base frame pages is some more = (
  (λ far. grind (arith, nat_tests), λ far. grind (arith, nat_tests)),
  (judged frames base frame pages is some more, judged_back frames base frame pages is some more),
)

pub reached : FramesAreReached
reached frames base frame pages page offset is some free page_in offset_in =
    let inner : base - frame < pages → base ≤ frame + (base - frame) → base + frames ≤ frame + (base - frame) = free.1 (base - frame) in
    grind (arith, nat_tests)

pub aligned : LeavesStayAligned
aligned frames base frame pages is some free more =
    let inner : base - frame < pages → base ≤ frame + (base - frame) → base + frames ≤ frame + (base - frame) = free.1 (base - frame) in
    (λ h. grind (arith, nat_tests), λ h. grind (arith, nat_tests))

pub tables_begin : TablesBeginThere
tables_begin frames base table is within = omega (arith, is.1, within)

pub nothing_moves : NothingMovesAt0
nothing_moves frame pages address = (grind (arith, nat_tests), grind (arith, nat_tests), grind (arith, nat_tests))

-- ---- words

-- what is seen in a word is seen in its low bits and its frame
looked : (level word : ℕ) → (word ≡ 0 → ⊥) → word < 2 ^ 36
    → look level word ≡ unwrap_or (entry.entry_at level (word % 2 ^ 12) (word / 2 ^ 12)) Absent
unfolding look entry.entry_of
looked level word some fits = grind (arith, nat_tests)

nothing_beyond : (level word : ℕ) → 2 ^ 36 ≤ word → look level word ≡ Absent
unfolding look entry.entry_of
nothing_beyond level word far = grind (arith, nat_tests)

nothing_at_0 : (level frame : ℕ) → unwrap_or (entry.entry_at level 0 frame) Absent ≡ Absent
nothing_at_0 level frame = grind (arith, nat_tests)

entry_moved : (level low frame base : ℕ) → base % SPAN_PAGES ≡ 0 → frame < FRAMES_END
    → unwrap_or (entry.entry_at level low (frame_of base frame)) Absent ≡ entry_of base (unwrap_or (entry.entry_at level low frame) Absent)
entry_moved level low frame base spans fits = grind (arith, nat_tests)

is_moved : (base word : ℕ) → (word ≡ 0 → ⊥) → word < 2 ^ 36 → word_of base word ≡ (word + base * PAGE_BYTES) % 2 ^ 36
is_moved base word some fits = grind (arith, nat_tests)

-- a word that names a host frame
word_named : (frames base level word : ℕ) → IsBase frames base → (word ≡ 0 → ⊥) → word < 2 ^ 36
    → look level (word_of base word) ≡ entry_of base (look level word)
word_named frames base level word is some fits =
    let moved : ℕ = (word + base * PAGE_BYTES) % 2 ^ 36 in
    let frame : ℕ = word / 2 ^ 12 in
    let same_low : moved % 2 ^ 12 ≡ word % 2 ^ 12 = omega arith in
    let same_frame : moved / 2 ^ 12 ≡ frame_of base frame = omega arith in
    let seen_there : look level word ≡ unwrap_or (entry.entry_at level (word % 2 ^ 12) frame) Absent = looked level word some fits in
    ap (λ w. look level w) (is_moved base word some fits) ∙ elim (eqb_tells moved 0) [
      | inl h ↦ let no_low : word % 2 ^ 12 ≡ 0 = omega (arith, h.1, same_low) in
          ap (λ w. look level w) h.1 ∙ look-zero level
          ∙ sym (ap (λ e. entry_of base e) (seen_there
          ∙ ap (λ low. unwrap_or (entry.entry_at level low frame) Absent) no_low ∙ nothing_at_0 level frame))
      | inr h ↦ looked level moved h.1 (omega arith)
          ∙ ap (λ low. unwrap_or (entry.entry_at level low (moved / 2 ^ 12)) Absent) same_low
          ∙ ap (λ f. unwrap_or (entry.entry_at level (word % 2 ^ 12) f) Absent) same_frame
          ∙ entry_moved level (word % 2 ^ 12) frame base is.0 (omega (arith, fits))
          ∙ sym (ap (λ e. entry_of base e) seen_there)
    ]

stays : (base word : ℕ) → (word ≡ 0) ⊎ (2 ^ 36 ≤ word) → word_of base word ≡ word
stays base word out = elim out [ inl h ↦ grind (arith, nat_tests) | inr h ↦ grind (arith, nat_tests) ]

nothing_seen : (level word : ℕ) → (word ≡ 0) ⊎ (2 ^ 36 ≤ word) → look level word ≡ Absent
nothing_seen level word out =
    elim out [ inl h ↦ ap (λ w. look level w) h ∙ look-zero level | inr h ↦ nothing_beyond level word h ]

-- any other
other_word : (base level word : ℕ) → (word ≡ 0) ⊎ (2 ^ 36 ≤ word) → look level (word_of base word) ≡ entry_of base (look level word)
other_word base level word out =
    ap (λ w. look level w) (stays base word out) ∙ nothing_seen level word out
    ∙ sym (ap (λ e. entry_of base e) (nothing_seen level word out))

word_looked : (frames base level word : ℕ) → IsBase frames base → look level (word_of base word) ≡ entry_of base (look level word)
word_looked frames base level word is = elim (eqb_tells word 0) [
  | inl h ↦ other_word base level word (inl h.1)
  | inr h ↦ elim (leb_tells (2 ^ 36) word) [
    | inl far ↦ other_word base level word (inr far.1)
    | inr near ↦ word_named frames base level word is h.1 (omega (arith, near.1))
  ]
]

word_spelled : (frames base level word : ℕ) (e : SsEntry) → IsBase frames base → 1 ≤ frames → Spells level word e
    → Spells level (word_of base word) (entry_of base e)
word_spelled frames base level word Absent is some s = grind (arith, nat_tests)
word_spelled frames base level word (Table frame) is some s = grind (arith, nat_tests)
word_spelled frames base level word (Leaf t) is some s = grind (arith, nat_tests)
word_spelled frames base level word (LargeLeaf t) is some s = grind (arith, nat_tests)

pub words_named : WordsNameHostFrames
words_named frames base level word is some =
    (word_looked frames base level word is, λ e s. word_spelled frames base level word e is some s)

pub contexts_named : ContextsNameHostFrames
contexts_named frames base words contexts.Absent is some s = (grind (arith, nat_tests), s.1)
contexts_named frames base words (contexts.Present root width domain) is some s =
    (grind (arith, nat_tests), s.1, grind (arith, nat_tests), s.3)

-- ---- walks

no_leaf : (o : Option LeafEntry) (x : LeafEntry) → o ≡ None → o ≡ Some x → ⊥
no_leaf o x a b = cc

one_leaf : (x y : LeafEntry) → Some x ≡ Some y → x ≡ y
one_leaf x y e = cc

-- the table where it begins is one, and so is each that it passes from the next one on
passes_here : (frames : ℕ) (m : Memory) (l table page : ℕ) → PassesTableFrames frames m (suc l) table page → table < frames
passes_here frames m l table page passes = passes (suc l) table (table_top m l table page (suc l) refl)

passes_below : (frames : ℕ) (m : Memory) (l table page c : ℕ) → PassesTableFrames frames m (suc l) table page
    → m (suc l) table (index_in l page) ≡ Table c → PassesTableFrames frames m l c page
passes_below frames m l table page c passes e w f found =
    let low : w ≤ l = deeper m l c page w f found in
    passes w f (table_under m l table page w (Table c) (λ top. absurd (omega (arith, top, low))) e ∙ found)

-- what is seen in the host frame of a table
seen_there : (frames base : ℕ) (words hosted : ℕ → ℕ → ℕ → ℕ) (level table index : ℕ) → IsBase frames base
    → AreHosted frames base words hosted → table < frames → index < TABLE_ENTRIES
    → seen hosted level (frame_of base table) index ≡ entry_of base (seen words level table index)
seen_there frames base words hosted level table index is h within inside =
    ap (λ f. seen hosted level f index) (tables_begin frames base table is within)
    ∙ ap (λ w. look level w) (h level table index within inside)
    ∙ word_looked frames base level (words level table index) is

leaf_below : (frames base : ℕ) (words hosted : ℕ → ℕ → ℕ → ℕ) (level table page : ℕ) → IsBase frames base
    → AreHosted frames base words hosted → PassesTableFrames frames (seen words) level table page
    → leaf_from (seen hosted) level (frame_of base table) page ≡ leaf_of base (leaf_from (seen words) level table page)
unfolding leaf_from
leaf_below frames base words hosted zero table page is h passes = refl
leaf_below frames base words hosted (suc l) table page is h passes =
    let inside : index_in l page < TABLE_ENTRIES = omega arith in
    let within : table < frames = passes_here frames (seen words) l table page passes in
    ap (λ e. tree.leaf_of e l (λ c. leaf_from (seen hosted) l c page))
    (seen_there frames base words hosted (suc l) table (index_in l page) is h within inside)
    ∙ by_entry (seen words (suc l) table (index_in l page))
    (λ c e. leaf_below frames base words hosted l c page is h (passes_below frames (seen words) l table page c passes e))
  where
    by_entry : (e : SsEntry)
        → ((c : ℕ) → e ≡ Table c → leaf_from (seen hosted) l (frame_of base c) page ≡ leaf_of base (leaf_from (seen words) l c page))
        → tree.leaf_of (entry_of base e) l (λ c. leaf_from (seen hosted) l c page)
        ≡ leaf_of base (tree.leaf_of e l (λ c. leaf_from (seen words) l c page))
    by_entry Absent below = refl
    by_entry (Table c) below = below c refl
    by_entry (Leaf t) below = refl
    by_entry (LargeLeaf t) below = refl

-- a test that both ways make
chosen : (b : Bool) (base f : ℕ) (table : ℕ) (x y : Option ℕ) → f ≡ base + table → x ≡ table_of base y
    → (if b then Some f else x) ≡ table_of base (if b then Some table else y)
chosen true base f table x y here below = ap (λ n. Some n) here
chosen false base f table x y here below = below

table_below : (frames base : ℕ) (words hosted : ℕ → ℕ → ℕ → ℕ) (level table page w : ℕ) → IsBase frames base
    → AreHosted frames base words hosted → PassesTableFrames frames (seen words) level table page
    → table_from (seen hosted) level (frame_of base table) page w ≡ table_of base (table_from (seen words) level table page w)
unfolding table_from
table_below frames base words hosted zero table page w is h passes = refl
table_below frames base words hosted (suc l) table page w is h passes =
    let inside : index_in l page < TABLE_ENTRIES = omega arith in
    let within : table < frames = passes_here frames (seen words) l table page passes in
    chosen (w == suc l) base (frame_of base table) table _ _ (tables_begin frames base table is within)
    (ap (λ e. tree.table_of e (λ c. table_from (seen hosted) l c page w))
    (seen_there frames base words hosted (suc l) table (index_in l page) is h within inside)
    ∙ by_entry (seen words (suc l) table (index_in l page))
    (λ c e. table_below frames base words hosted l c page w is h (passes_below frames (seen words) l table page c passes e)))
  where
    by_entry : (e : SsEntry)
        → ((c : ℕ) → e ≡ Table c
        → table_from (seen hosted) l (frame_of base c) page w ≡ table_of base (table_from (seen words) l c page w))
        → tree.table_of (entry_of base e) (λ c. table_from (seen hosted) l c page w)
        ≡ table_of base (tree.table_of e (λ c. table_from (seen words) l c page w))
    by_entry Absent below = refl
    by_entry (Table c) below = below c refl
    by_entry (Leaf t) below = refl
    by_entry (LargeLeaf t) below = refl

pub walks : WalksFindHostFrames
walks frames base words hosted zero table page is h passes = (
  leaf-zero (seen hosted) (base + table) page ∙ sym (ap (λ o. leaf_of base o) (leaf-zero (seen words) table page)),
  λ w. table-zero (seen hosted) (base + table) page w ∙ sym (ap (λ o. table_of base o) (table-zero (seen words) table page w)),
)
walks frames base words hosted (suc l) table page is h passes =
    let begins : frame_of base table ≡ base + table =
    tables_begin frames base table is (passes_here frames (seen words) l table page passes) in (
      ap (λ f. leaf_from (seen hosted) (suc l) f page) (sym begins) ∙ leaf_below frames base words hosted (suc l) table page is h passes,
      λ w. ap (λ f. table_from (seen hosted) (suc l) f page w) (sym begins)
          ∙ table_below frames base words hosted (suc l) table page w is h passes,
    )

-- a leaf is of one page, or begins at a multiple of 512
abbrev IsAlignedLeaf : LeafEntry → Type 0
IsAlignedLeaf x = (x.size ≡ 0) ⊎ ((x.size ≡ 1) × (x.frame % SPAN_PAGES ≡ 0))

aligned_leaf : (words : ℕ → ℕ → ℕ → ℕ) (level table page : ℕ) (x : LeafEntry) → leaf_from (seen words) level table page ≡ Some x
    → IsAlignedLeaf x
unfolding leaf_from
aligned_leaf words zero table page x e = absurd (no_leaf None x refl e)
aligned_leaf words (suc l) table page x e =
    by_entry (seen words (suc l) table (index_in l page)) refl e (λ c. aligned_leaf words l c page x)
  where
    by_entry : (s : SsEntry) → seen words (suc l) table (index_in l page) ≡ s
        → tree.leaf_of s l (λ c. leaf_from (seen words) l c page) ≡ Some x
        → ((c : ℕ) → leaf_from (seen words) l c page ≡ Some x → IsAlignedLeaf x) → IsAlignedLeaf x
    by_entry Absent is e below = absurd (no_leaf None x refl e)
    by_entry (Table c) is e below = below c e
    by_entry (Leaf t) is e below =
        let s : Spells (suc l) (words (suc l) table (index_in l page)) (Leaf t) = leaf_looked (suc l) _ t is in
        subst (λ y. IsAlignedLeaf y) (one_leaf _ x e) (inl (omega (arith, s.0)))
    by_entry (LargeLeaf t) is e below =
        let s : Spells (suc l) (words (suc l) table (index_in l page)) (LargeLeaf t) = large_leaf_looked (suc l) _ t is in
        subst (λ y. IsAlignedLeaf y) (one_leaf _ x e) (inr (omega (arith, s.0), s.1.1))

within_page : (base frame page : ℕ) → frame_of base frame + page % span 0 ≡ frame_of base (frame + page % span 0)
unfolding span
within_page base frame page = omega arith

within_512 : (base frame page : ℕ) → base % SPAN_PAGES ≡ 0 → frame % SPAN_PAGES ≡ 0
    → frame_of base frame + page % span 1 ≡ frame_of base (frame + page % span 1)
unfolding span
within_512 base frame page spans aligned = omega (arith, spans, aligned)

-- a page of a leaf
stated_there : (base page : ℕ) (o : Option LeafEntry) → base % SPAN_PAGES ≡ 0
    → ((x : LeafEntry) → o ≡ Some x → IsAlignedLeaf x) → stated page (leaf_of base o) ≡ target_of base (stated page o)
stated_there base page None spans aligned = refl
stated_there base page (Some x) spans aligned = ap (λ f. Some (target f x.rights)) (elim (aligned x refl) [
  | inl e ↦ subst (λ size. frame_of base x.frame + page % span size ≡ frame_of base (x.frame + page % span size)) (sym e)
      (within_page base x.frame page)
  | inr e ↦ subst (λ size. frame_of base x.frame + page % span size ≡ frame_of base (x.frame + page % span size)) (sym e.0)
      (within_512 base x.frame page spans e.1)
])

in_width : (b : Bool) (base : ℕ) (x y : Option Target) → x ≡ target_of base y
    → (if b then x else None) ≡ target_of base (if b then y else None)
in_width true base x y e = e
in_width false base x y e = refl

pub pages_found : PagesAreFoundInHostFrames
pages_found frames base words hosted width root page is h passes =
    in_width (nat_lt page (pages_end width)) base _ _ (
    ap (λ o. stated page o) (walks frames base words hosted (levels width) root page is h passes).0
    ∙ stated_there base page (leaf_from (seen words) (levels width) root page) is.0
    (λ x e. aligned_leaf words (levels width) root page x e)
    )
