-- A walk that reads the words where they lie while a map writes them: at each moment each word is as before the map or as after it.
use Rattle.std.proofs.Common.{◌≡◌, ◌⊎◌, inl, inr, ⊎_elim, ℕ, zero, suc, ◌+◌, ◌<◌, List, [], ◌∷◌, refl, sym, ap, ◌∙◌}
use Rattle.dmatypes.specs.Page.{levels, pages_end}
use Rattle.vtdbits.specs.Entry.{look}
use Rattle.tables.specs.declared.entries.TheConstants.{TABLE_ENTRIES}
use Rattle.tables.specs.Pool.{Moment, Pool, memory, moment_of, word}
use Rattle.tables.specs.Tree.{Memory, leaf_from}
use Rattle.tables.specs.Trail.{FillsIn, FillsInOrder, GoesThrough}
use Rattle.tables.proofs.walks.Words.{memory_at}
use Rattle.moments.specs.Laws.{MapsInPlaceAreOldOrNew}
use Rattle.moments.specs.Moments.{in_place, words_at}
use Rattle.moments.proofs.Between.{IsBetween}
use Rattle.moments.proofs.InPlace.{in_place_at}
use Rattle.moments.proofs.Maps.{map_leaf}
use Rattle.moments.proofs.Passed.{map_passed}
use Rattle.moments.proofs.Walks.{by_width, near}

-- at the end a word is as it was, but where it was 0
lasts : (m last : Moment) (ms : List Moment) (f k : ℕ) → GoesThrough FillsIn m ms last → k < TABLE_ENTRIES
    → (word last.words f k ≡ word m.words f k) ⊎ (word m.words f k ≡ 0)
unfolding GoesThrough
lasts m last [] f k rest inside = inl (ap (λ ws. word ws f k) rest.0)
lasts m last (n ∷ ns) f k on inside =
    ⊎_elim
    (λ (same : word n.words f k ≡ word m.words f k).
    ⊎_elim (λ e. inl (e ∙ same)) (λ blank. inr (sym same ∙ blank)) (lasts n last ns f k on.1 inside))
    (λ (blank : word m.words f k ≡ 0). inr blank)
    (on.0.words f k inside)

-- after so many moments it is as it was, or as at the end
first_or_last : (m last : Moment) (ms : List Moment) (j f k : ℕ) → GoesThrough FillsIn m ms last → k < TABLE_ENTRIES
    → (word (words_at m.words ms j) f k ≡ word m.words f k) ⊎ (word (words_at m.words ms j) f k ≡ word last.words f k)
unfolding GoesThrough words_at
first_or_last m last [] j f k rest inside = inl refl
first_or_last m last (n ∷ ns) zero f k on inside = inl refl
first_or_last m last (n ∷ ns) (suc j) f k on inside =
    ⊎_elim
    (λ (now : word (words_at n.words ns j) f k ≡ word n.words f k).
    ⊎_elim
    (λ (same : word n.words f k ≡ word m.words f k). inl (now ∙ same))
    (λ (blank : word m.words f k ≡ 0).
    ⊎_elim
    (λ (stays : word last.words f k ≡ word n.words f k). inr (now ∙ sym stays))
    (λ (still : word n.words f k ≡ 0). inl (now ∙ still ∙ sym blank))
    (lasts n last ns f k on.1 inside))
    (on.0.words f k inside))
    (λ end. inr end)
    (first_or_last n last ns j f k on.1 inside)

-- so one that is at the end as it was is so after each of them
pub map_steady : (m last : Moment) (ms : List Moment) (j f k : ℕ) → GoesThrough FillsIn m ms last → k < TABLE_ENTRIES
    → word last.words f k ≡ word m.words f k → word (words_at m.words ms j) f k ≡ word m.words f k
map_steady m last ms j f k through inside same =
    ⊎_elim (λ first. first) (λ end. end ∙ same) (first_or_last m last ms j f k through inside)

between_in_place : (old new : Pool) (order : FillsInOrder old new) (moment : ℕ → ℕ)
    → IsBetween old new (in_place old.words order.moments moment)
between_in_place old new order moment l t k inside =
    let at = in_place_at old.words order.moments moment l t k in
    ⊎_elim
    (λ (first : word (words_at old.words order.moments (moment l)) t k ≡ word old.words t k).
    inl (at ∙ ap (look l) first ∙ sym (memory_at old.words l t k)))
    (λ (end : word (words_at old.words order.moments (moment l)) t k ≡ word new.words t k).
    inr (at ∙ ap (look l) end ∙ sym (memory_at new.words l t k)))
    (first_or_last (moment_of old) (moment_of new) order.moments (moment l) t k order.through inside)

pub maps_in_place : MapsInPlaceAreOldOrNew
maps_in_place old new order width root range says moment page map =
    record {
      found = by_width width now (memory old.words) (memory new.words) root page leaf;
      leaf = leaf;
      tables = λ l t small h. inr (map_passed old new now (levels width) root range.first (range.first + range.pages) page says map.zeroed
          between map.maps l t h);
    }
  where
    now : Memory
    now = in_place old.words order.moments moment

    between : IsBetween old new now
    between = between_in_place old new order moment

    leaf : page < pages_end width → (leaf_from now (levels width) root page ≡ leaf_from (memory old.words) (levels width) root page)
        ⊎ (leaf_from now (levels width) root page ≡ leaf_from (memory new.words) (levels width) root page)
    leaf small =
        map_leaf old new now (levels width) root range.first (range.first + range.pages) says map.zeroed map.maps
        (λ p low high. map.absent p (low, high)) between page (near width range page map.below small)
