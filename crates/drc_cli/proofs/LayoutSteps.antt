-- What each step of the reading leaves.
use Rattle.std.proofs.Common.{◌≡◌, ℕ, ◌+◌, inl, inr, true, false, List, [], ◌∷◌, ◌++◌, length, refl, sym, ap, subst, ◌∙◌, arith, append_assoc}
use Rattle.std.specs.Prelude.{◌==◌}
use Rattle.std.proofs.lemmas.Bool.Decides.{nat_tests}
use Rattle.drc_geom.specs.declared.rect.Rect.{Rect}
use Rattle.gds_records.specs.declared.fault.LayoutKind.{LayoutKind}
use Rattle.gds_records.specs.declared.fault.LayoutKind.TheVariants as kinds
use Rattle.gds_records.specs.declared.fault.LayoutRefusal.{LayoutRefusal}
use Rattle.gds_records.specs.Records.{Item, size_of, spelling, endlib, IsGoodLength, Cuts, ComesNext, end_of, IsPartial}
use Rattle.gds_records.specs.Stream.{IsRefusedAs}
use Rattle.gds_records.proofs.Fronts.{too_long-more, bad_length-more}
use Rattle.gds_records.proofs.Cutting.{end_of-push, ends_library-push, cuts-push, cuts-more}
use Rattle.drc_cli.specs.declared.layout.slot.Slot.{Slot}
use Rattle.drc_cli.specs.declared.layout.slot.Slot.TheVariants.{Header, LibraryStart, LibraryName, Units, StructureStart, StructureName, Elements, Layer, DataType, Points, ElementEnd, LibraryEnd, End}
use Rattle.drc_cli.specs.declared.layout.reader.Stop.TheVariants.{Ended, Refused, ReadFault}
use Rattle.drc_cli.specs.declared.layout.reader.Reader.{Reader}
use Rattle.drc_cli.specs.Layout.{Stands, following, IsNext}
use Rattle.drc_cli.specs.Working.LayoutReading.{Sought, Tracks, IsAt, HasStopped, elements_at, elements_from, elements_of, slot_after, rects_on}
use Rattle.drc_cli.proofs.LayoutSlots.{rects_on-append, slot_after-append, elements_from-push, all_stand-push, all_stand-last}

-- ---- Where ENDLIB stands, the layout has ended

pub ends_at : (primary : List ℕ) (slot : Slot) (item : Item) → Stands primary slot item → item.kind ≡ endlib → following slot item ≡ End
ends_at primary Header item stands ends = absurd (omega (arith, ends, stands.0.type_byte))
ends_at primary LibraryStart item stands ends = absurd (omega (arith, ends, stands.type_byte))
ends_at primary LibraryName item stands ends = absurd (omega (arith, ends, stands.type_byte))
ends_at primary Units item stands ends = absurd (omega (arith, ends, stands.0.type_byte))
ends_at primary StructureStart item stands ends = absurd (omega (arith, ends, stands.type_byte))
ends_at primary StructureName item stands ends = absurd (omega (arith, ends, stands.0.type_byte))
ends_at primary Elements item (inl stands) ends = absurd (omega (arith, ends, stands.0.type_byte))
ends_at primary Elements item (inr stands) ends = absurd (omega (arith, ends, stands.0.type_byte))
ends_at primary Layer item stands ends = absurd (omega (arith, ends, stands.0.type_byte))
ends_at primary (DataType number) item stands ends = absurd (omega (arith, ends, stands.0.type_byte))
ends_at primary (Points number) item stands ends = absurd (omega (arith, ends, stands.0.type_byte))
ends_at primary ElementEnd item stands ends = absurd (omega (arith, ends, stands.0.type_byte))
ends_at primary LibraryEnd item stands ends = refl
ends_at primary End item stands ends = refl

kind_is : (kind : ℕ) → (kind == endlib) ≡ true → kind ≡ endlib
kind_is kind same = grind (arith, nat_tests)

ends_apart : (kind : ℕ) → kind ≡ endlib → (kind == endlib) ≡ false → ⊥
ends_apart kind is other = grind (arith, nat_tests)

-- ---- The rectangles of a layer, with one record more

rects_on-push : (number : ℕ) (items : List Item) (item : Item)
    → rects_on number (elements_of (items ++ item ∷ [])) ≡ rects_on number (elements_of items) ++ rects_on number (elements_at (slot_after Header items) item)
rects_on-push number items item =
    ap (rects_on number) (elements_from-push Header items item) ∙ rects_on-append number (elements_from Header items) (elements_at (slot_after Header items) item)

-- ---- The steps

module _ (of : Sought) (fed : List ℕ) (items : List Item) (reader : Reader) (state : IsAt of fed items reader) where
  tracks_more : (more : List ℕ) → Tracks of (fed ++ more) items (reader.framer.left ++ more) reader.rects.items
  tracks_more more = record {
    cut = cuts-more fed items reader.framer.left more state.tracks.cut;
    front = state.tracks.front;
    rects_are = state.tracks.rects_are;
  }

  pub fed_more : (piece : List ℕ) → IsAt of (fed ++ piece) items (record reader { framer = record reader.framer { left = reader.framer.left ++ piece } })
  fed_more piece = record {
    tracks = tracks_more piece;
    behind = state.behind;
    near = state.near;
    next = state.next;
    goes_on = state.goes_on;
    whole = state.whole;
  }

  pub when_ended : reader.framer.ended ≡ true → (more : List ℕ) → HasStopped of (fed ++ more) reader.rects.items Ended
  when_ended ended more = record { items = items; rest = reader.framer.left ++ more; tracks = tracks_more more; why = state.whole ended }

  pub when_failed : (more : List ℕ) → HasStopped of (fed ++ more) reader.rects.items ReadFault
  when_failed more = record { items = items; rest = reader.framer.left ++ more; tracks = tracks_more more; why = tt }

  pub when_truncated : reader.framer.ended ≡ false → IsPartial reader.framer.at reader.framer.left → (refusal : LayoutRefusal)
      → refusal ≡ record { at = reader.framer.at + length reader.framer.left; kind = kinds.Truncated } → HasStopped of fed reader.rects.items (Refused refusal)
  when_truncated ended less refusal is =
      let P : ℕ → Type 0 = λ at. IsPartial at reader.framer.left in
      let Q : LayoutRefusal → Type 0 = λ r. HasStopped of fed reader.rects.items (Refused r) in
      subst Q (sym is) (record {
        items = items;
        rest = reader.framer.left;
        tracks = state.tracks;
        why = (state.goes_on ended, (ap (λ (at : ℕ). at + length reader.framer.left) state.behind, subst P state.behind less));
      })

  refused-next : (kind : LayoutKind) (at : ℕ) (more : List ℕ) → at ≡ end_of items → IsRefusedAs kind (end_of items) reader.framer.left
      → IsNext kind of.primary items (reader.framer.left ++ more) at
  refused-next kinds.LayoutTooLong at more is refused = (is, too_long-more (end_of items) reader.framer.left more refused)
  refused-next kinds.BadLength at more is refused = (is, bad_length-more (end_of items) reader.framer.left more refused)
  refused-next kind at more is refused = absurd refused

  pub when_refused : reader.framer.ended ≡ false → (refusal : LayoutRefusal) → refusal.at ≡ reader.framer.at → IsRefusedAs refusal.kind reader.framer.at reader.framer.left
      → (more : List ℕ) → HasStopped of (fed ++ more) reader.rects.items (Refused refusal)
  when_refused ended refusal at refused more =
      let P : ℕ → Type 0 = λ n. IsRefusedAs refusal.kind n reader.framer.left in record {
        items = items;
        rest = reader.framer.left ++ more;
        tracks = tracks_more more;
        why = (state.goes_on ended, refused-next refusal.kind refusal.at more (at ∙ state.behind) (subst P state.behind refused));
      }

  module _ (item : Item) (left : List ℕ) (ended : reader.framer.ended ≡ false) (at : item.at ≡ reader.framer.at) (good : IsGoodLength reader.framer.at (size_of item))
      (front : reader.framer.left ≡ spelling item ++ left) where
    comes : ComesNext items reader.framer.left item left
    comes =
        let P : ℕ → Type 0 = λ n. IsGoodLength n (size_of item) in
        record { goes_on = state.goes_on ended; whole = front; here = at ∙ state.behind; good = subst P state.behind good }

    pub when_not_built : (Stands of.primary reader.slot item → ⊥) → (more : List ℕ)
        → HasStopped of (fed ++ more) reader.rects.items (Refused (record { at = item.at; kind = kinds.NotBuilt }))
    when_not_built wrong more = record {
      items = items;
      rest = reader.framer.left ++ more;
      tracks = tracks_more more;
      why = (
        state.goes_on ended,
        record {
          item = item;
          more = left ++ more;
          next = record { goes_on = comes.goes_on; whole = ap (λ (t : List ℕ). t ++ more) front ∙ append_assoc (spelling item) left more; here = comes.here; good = comes.good };
          leaves = λ longer. wrong (let P : Slot → Type 0 = λ p. Stands of.primary p item in subst P (sym state.next) (all_stand-last of.primary Header items item longer));
          offset = refl;
        },
      );
    }

    pub when_taken : (new : Reader) → new.framer.at ≡ reader.framer.at + size_of item → new.framer.left ≡ left → new.framer.ended ≡ (item.kind == endlib)
        → Stands of.primary reader.slot item → new.slot ≡ following reader.slot item
        → new.rects.items ≡ reader.rects.items ++ rects_on of.number (elements_at reader.slot item) → IsAt of fed (items ++ item ∷ []) new
    when_taken new moved rest last stands follows drawn =
        let P : Slot → Type 0 = λ p. Stands of.primary p item in
        let here : Stands of.primary (slot_after Header items) item = subst P state.next stands in
        let C : List ℕ → Type 0 = λ t. Cuts fed (items ++ item ∷ []) t in
        let after : slot_after Header (items ++ item ∷ []) ≡ following (slot_after Header items) item = slot_after-append Header items (item ∷ []) in
        record {
          tracks = record {
            cut = subst C (sym rest) (cuts-push fed items reader.framer.left item left state.tracks.cut comes);
            front = all_stand-push of.primary Header items item state.tracks.front here;
            rects_are = drawn ∙ ap (λ (t : List Rect). t ++ rects_on of.number (elements_at reader.slot item)) state.tracks.rects_are
                ∙ ap (λ (p : Slot). rects_on of.number (elements_of items) ++ rects_on of.number (elements_at p item)) state.next
                ∙ sym (rects_on-push of.number items item);
          };
          behind = moved ∙ ap (λ (n : ℕ). n + size_of item) state.behind ∙ sym (end_of-push items item);
          near = omega (arith, moved, good.near);
          next = follows ∙ ap (λ (p : Slot). following p item) state.next ∙ sym after;
          goes_on = λ awaits ends. ends_apart item.kind (ends_library-push items item ends) (sym last ∙ awaits);
          whole = λ closed. after ∙ ends_at of.primary (slot_after Header items) item here (kind_is item.kind (sym last ∙ closed));
        }
