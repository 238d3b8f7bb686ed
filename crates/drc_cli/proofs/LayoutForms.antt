-- The grammar by cases and the grammar by slots are one.
use Rattle.std.proofs.Common.{◌≡◌, ℕ, inl, inr, List, [], ◌∷◌, refl, sym, subst}
use Rattle.gds_records.specs.Records.{Item}
use Rattle.drc_cli.specs.declared.layout.slot.Slot.{Slot}
use Rattle.drc_cli.specs.declared.layout.slot.Slot.TheVariants.{Header, Elements, Layer, LibraryEnd, End}
use Rattle.drc_cli.specs.Layout.{following, AllStand, IsFront, FirstForm, AreElements, IsBoundary, IsStructureEnd}
use Rattle.drc_cli.specs.Working.LayoutReading.{slot_after, elements_from, elements_of}

-- ---- From slots to cases

pub boundary_is : (item : Item) → IsBoundary item → following Elements item ≡ Layer
boundary_is item opens = rw opens.0.type_byte refl

pub structure_end_is : (item : Item) → IsStructureEnd item → following Elements item ≡ LibraryEnd
structure_end_is item closes = rw closes.0.type_byte refl

-- behind ENDSTR only ENDLIB may come, and then nothing
ends_from_slots : (primary : List ℕ) (end : Item) (items : List Item) → IsStructureEnd end → AllStand primary LibraryEnd items → slot_after LibraryEnd items ≡ End
    → AreElements (end ∷ items) (elements_from LibraryEnd items)
ends_from_slots primary end [] closes all ends = absurd (cc)
ends_from_slots primary end (library ∷ []) closes all ends = (closes, all.0)
ends_from_slots primary end (library ∷ item ∷ items) closes all ends = absurd all.1.0

-- what one slot with two possible records leads to
choose : (primary : List ℕ) (first : Item) (items : List Item) → AllStand primary Elements (first ∷ items) → slot_after Elements (first ∷ items) ≡ End
    → (IsBoundary first → AllStand primary Layer items → slot_after Layer items ≡ End → AreElements (first ∷ items) (elements_from Layer items))
    → AreElements (first ∷ items) (elements_from Elements (first ∷ items))
choose primary first items all ends drawn =
    let P : Slot → Type 0 = λ slot. AllStand primary slot items → slot_after slot items ≡ End → AreElements (first ∷ items) (elements_from slot items) in
    elim all.0 as (λ _. AreElements (first ∷ items) (elements_from Elements (first ∷ items))) [
      | inl opens ↦ subst P (sym (boundary_is first opens)) (drawn opens) all.1 ends
      | inr closes ↦ subst P (sym (structure_end_is first closes)) (ends_from_slots primary first items closes) all.1 ends
    ]

pub elements_from_slots : (primary : List ℕ) (items : List Item) → AllStand primary Elements items → slot_after Elements items ≡ End → AreElements items (elements_from Elements items)
elements_from_slots primary [] all ends = absurd (cc)
elements_from_slots primary (a ∷ []) all ends = choose primary a [] all ends (λ opens stand bad. absurd (cc))
elements_from_slots primary (a ∷ b ∷ []) all ends = choose primary a (b ∷ []) all ends (λ opens stand bad. absurd (cc))
elements_from_slots primary (a ∷ b ∷ c ∷ []) all ends = choose primary a (b ∷ c ∷ []) all ends (λ opens stand bad. absurd (cc))
elements_from_slots primary (a ∷ b ∷ c ∷ d ∷ []) all ends = choose primary a (b ∷ c ∷ d ∷ []) all ends (λ opens stand bad. absurd (cc))
elements_from_slots primary (a ∷ b ∷ c ∷ d ∷ e ∷ items) all ends =
    choose primary a (b ∷ c ∷ d ∷ e ∷ items) all ends (λ opens stand last. (
      opens,
      stand.0,
      stand.1.0,
      stand.1.1.0,
      stand.1.1.1.0,
      refl,
      elements_from_slots primary items stand.1.1.1.1 last,
    ))

pub form_from_slots : (primary : List ℕ) (items : List Item) → IsFront primary items → slot_after Header items ≡ End → FirstForm primary items (elements_of items)
form_from_slots primary [] all ends = absurd (cc)
form_from_slots primary (a ∷ []) all ends = absurd (cc)
form_from_slots primary (a ∷ b ∷ []) all ends = absurd (cc)
form_from_slots primary (a ∷ b ∷ c ∷ []) all ends = absurd (cc)
form_from_slots primary (a ∷ b ∷ c ∷ d ∷ []) all ends = absurd (cc)
form_from_slots primary (a ∷ b ∷ c ∷ d ∷ e ∷ []) all ends = absurd (cc)
form_from_slots primary (a ∷ b ∷ c ∷ d ∷ e ∷ f ∷ items) all ends =
    (all.0, all.1.0, all.1.1.0, all.1.1.1.0, all.1.1.1.1.0, all.1.1.1.1.1.0, elements_from_slots primary items all.1.1.1.1.1.1 ends)
