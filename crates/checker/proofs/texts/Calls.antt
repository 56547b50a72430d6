-- A text that says a call has no `=`.
use Rattle.std.proofs.Common.{◌≡◌, inl, inr, ℕ, Bool, true, false, List, [], ◌∷◌, ◌++◌, Some, refl, sym, subst, arith}
use Rattle.std.specs.Prelude.{codes}
use Rattle.std.specs.List.{AllByRecursion, AllZip}
use Rattle.dmatypes.specs.declared.call.Access.{Access}
use Rattle.dmatypes.specs.declared.call.Access.TheVariants as accesses
use Rattle.dmatypes.specs.declared.call.Cache.{Cache}
use Rattle.dmatypes.specs.declared.call.Cache.TheVariants as caches
use Rattle.dmatypes.specs.declared.call.Call.{Call}
use Rattle.dmatypes.specs.declared.call.Call.TheVariants as calls
use Rattle.dmatypes.specs.declared.call.Mode.{Mode}
use Rattle.dmatypes.specs.declared.call.Mode.TheVariants as modes
use Rattle.dmatypes.specs.declared.call.Segment.{Segment}
use Rattle.dmatypes.specs.declared.width.Width.{Width}
use Rattle.dmatypes.specs.declared.width.Width.TheVariants as widths
use Rattle.dmatypes.specs.Grammar.{says}
use Rattle.dmatypes.specs.Spelled.{AreWidthFields, IsNumber, IsRightsText, IsSegmentText, Spells, access_text, cache_text, mode_text}
use Rattle.dmatypes.specs.Spelled.{spaced}
use Rattle.dmatypes.specs.Spelled.{whim_fields}
use Rattle.dmatypes.proofs.texts.Joining.{HasNo, has_no-append}
use Rattle.dmatypes.proofs.texts.Numerals.{number_has_no}
use Rattle.dmatypes.proofs.texts.Said.{said_is_spelled}

abbrev pub HasNoEquals : List ℕ → Type 0
HasNoEquals text = HasNo 61 text

of_number : (text : List ℕ) (n : ℕ) → IsNumber text n → HasNoEquals text
of_number text n h = number_has_no 61 text n (omega arith) h

of_mode : (m : Mode) → HasNoEquals (mode_text m)
of_mode modes.Strict = (refl, (refl, (refl, (refl, (refl, (refl, tt))))))
of_mode modes.Lazy = (refl, (refl, (refl, (refl, tt))))

of_width : (ws : List (List ℕ)) (w : Width) → AreWidthFields ws w → AllByRecursion HasNoEquals ws
of_width ws widths.W39 (inl h) = rw h tt
of_width ws widths.W39 (inr h) = rw h ((refl, (refl, tt)), tt)
of_width ws widths.W48 h = rw h ((refl, (refl, tt)), tt)

of_rights : (text : List ℕ) (n : ℕ) → IsRightsText text n → HasNoEquals text
of_rights text n (inl h) = rw (h.0) (refl, tt)
of_rights text n (inr (inl h)) = rw (h.0) (refl, tt)
of_rights text n (inr (inr h)) = rw (h.0) (refl, (refl, tt))

of_access : (x : Access) → HasNoEquals (access_text x)
of_access accesses.Read = (refl, tt)
of_access accesses.Write = (refl, tt)

of_whim : (look fill : Bool) → AllByRecursion HasNoEquals (whim_fields look fill)
of_whim false false = tt
of_whim true false = ((refl, (refl, (refl, (refl, tt)))), tt)
of_whim false true = ((refl, (refl, (refl, (refl, tt)))), tt)
of_whim true true = ((refl, (refl, (refl, (refl, tt)))), ((refl, (refl, (refl, (refl, tt)))), tt))

of_cache : (kind : Cache) → HasNoEquals (cache_text kind)
of_cache caches.Leaf = (refl, (refl, (refl, (refl, tt))))
of_cache caches.NonLeaf = (refl, (refl, (refl, (refl, (refl, (refl, (refl, tt)))))))
of_cache caches.Context = (refl, (refl, (refl, (refl, (refl, (refl, (refl, tt)))))))
of_cache caches.Fault = (refl, (refl, (refl, (refl, (refl, tt)))))

of_segment : (text : List ℕ) (s : Segment) → IsSegmentText text s → HasNoEquals text
of_segment text s h =
    subst HasNoEquals (sym h.4) (has_no-append 61 h.0 (58 ∷ h.1) (of_number h.0 s.frame h.2) (refl, of_number h.1 s.pages h.3))

of_segments : (ts : List (List ℕ)) (ss : List Segment) → AllZip IsSegmentText ts ss → AllByRecursion HasNoEquals ts
of_segments [] [] h = tt
of_segments [] (s ∷ ss) h = absurd h
of_segments (t ∷ ts) [] h = absurd h
of_segments (t ∷ ts) (s ∷ ss) h = (of_segment t s h.0, of_segments ts ss h.1)

of_spaced : (fs : List (List ℕ)) → AllByRecursion HasNoEquals fs → HasNoEquals (spaced fs)
of_spaced [] h = tt
of_spaced (f ∷ fs) h = (refl, has_no-append 61 f (spaced fs) h.0 (of_spaced fs h.1))

of_line : (line word : List ℕ) (fs : List (List ℕ)) → line ≡ word ++ spaced fs → HasNoEquals word → AllByRecursion HasNoEquals fs
    → HasNoEquals line
of_line line word fs is h hs = subst HasNoEquals (sym is) (has_no-append 61 word (spaced fs) h (of_spaced fs hs))

of_call : (line : List ℕ) (call : Call) → Spells line call → HasNoEquals line
of_call line (calls.Domain m w) is =
    of_line line (codes "domain") (mode_text m ∷ is.0) is.2 (refl, (refl, (refl, (refl, (refl, (refl, tt))))))
    (of_mode m, of_width is.0 w is.1)
of_call line (calls.Drop domain) is =
    of_line line (codes "drop") (is.0 ∷ []) is.2 (refl, (refl, (refl, (refl, tt)))) (of_number is.0 domain is.1, tt)
of_call line (calls.Attach device domain) is =
    of_line line (codes "attach") (is.0 ∷ is.1 ∷ []) is.4 (refl, (refl, (refl, (refl, (refl, (refl, tt))))))
    (of_number is.0 device is.2, (of_number is.1 domain is.3, tt))
of_call line (calls.Detach device) is =
    of_line line (codes "detach") (is.0 ∷ []) is.2 (refl, (refl, (refl, (refl, (refl, (refl, tt)))))) (of_number is.0 device is.1, tt)
of_call line (calls.Map domain frame pages order right) is =
    of_line line (codes "map") (is.0 ∷ is.1 ∷ is.2 ∷ is.3 ∷ is.4 ∷ []) is.10 (refl, (refl, (refl, tt))) (
      of_number is.0 domain is.5,
      (of_number is.1 frame is.6, (of_number is.2 pages is.7, (of_number is.3 order is.8, (of_rights is.4 right is.9, tt)))),
    )
of_call line (calls.MapList domain order right ss) is =
    of_line line (codes "maplist") (is.0 ∷ is.1 ∷ is.2 ∷ is.3) is.10 (refl, (refl, (refl, (refl, (refl, (refl, (refl, tt))))))) (
      of_number is.0 domain is.4,
      (of_number is.1 order is.5, (of_rights is.2 right is.6, of_segments is.3 ss.items is.9)),
    )
of_call line (calls.Unmap domain address pages) is =
    of_line line (codes "unmap") (is.0 ∷ is.1 ∷ is.2 ∷ []) is.6 (refl, (refl, (refl, (refl, (refl, tt)))))
    (of_number is.0 domain is.3, (of_number is.1 address is.4, (of_number is.2 pages is.5, tt)))
of_call line (calls.Flush domain) is =
    of_line line (codes "flush") (is.0 ∷ []) is.2 (refl, (refl, (refl, (refl, (refl, tt))))) (of_number is.0 domain is.1, tt)
of_call line (calls.Begin domain) is =
    of_line line (codes "begin") (is.0 ∷ []) is.2 (refl, (refl, (refl, (refl, (refl, tt))))) (of_number is.0 domain is.1, tt)
of_call line calls.Unit is = of_line line (codes "unit") [] is (refl, (refl, (refl, (refl, tt)))) tt
of_call line (calls.Reap domain ticket) is =
    of_line line (codes "reap") (is.0 ∷ is.1 ∷ []) is.4 (refl, (refl, (refl, (refl, tt)))) (
      of_number is.0 domain is.2,
      (of_number is.1 ticket is.3, tt),
    )
of_call line (calls.Dma device address acc w) is =
    of_line line (codes "dma") (is.0 ∷ is.1 ∷ access_text acc ∷ whim_fields w.look w.fill) is.4 (refl, (refl, (refl, tt)))
    (of_number is.0 device is.2, (of_number is.1 address is.3, (of_access acc, of_whim w.look w.fill)))
of_call line (calls.Evict kind place) is =
    of_line line (codes "evict") (cache_text kind ∷ is.0 ∷ []) is.2 (refl, (refl, (refl, (refl, (refl, tt))))) (
      of_cache kind,
      (of_number is.0 place is.1, tt),
    )

pub call_no_equals : (line : List ℕ) (call : Call) → says line ≡ Some call → HasNoEquals line
call_no_equals line call e = of_call line call (said_is_spelled line call e).1
