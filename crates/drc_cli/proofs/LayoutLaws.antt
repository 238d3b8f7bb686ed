-- Laws of a layout's answer: a stream that is accepted isn't refused, and one that is refused is refused in one way.
use Rattle.std.proofs.Common.{◌≡◌, ℕ, inl, inr, List, [], ◌∷◌, ◌++◌, refl, sym, ap, subst, ◌∙◌, append_assoc}
use Rattle.std.specs.List.{flat_map}
use Rattle.std.proofs.lemmas.List.{append-nil}
use Rattle.gds_records.specs.Records.{Item, spelling, Cuts, end_of, EndsLibrary, ComesNext}
use Rattle.gds_records.specs.declared.fault.LayoutKind.{LayoutKind}
use Rattle.gds_records.specs.declared.fault.LayoutKind.TheVariants as kinds
use Rattle.gds_records.specs.declared.fault.LayoutRefusal.{LayoutRefusal}
use Rattle.gds_records.proofs.Cutting.{same_front, cuts-fronts, same_rest, comes_next}
use Rattle.gds_records.proofs.Fronts.{whole_not_partial, whole_not_too_long, whole_not_bad_length, partial_not_too_long, partial_not_bad_length, too_long_not_bad_length}
use Rattle.drc_cli.specs.declared.layout.slot.Slot.{Slot}
use Rattle.drc_cli.specs.declared.layout.slot.Slot.TheVariants.{Header, Elements, Layer, LibraryEnd, End}
use Rattle.drc_cli.specs.Layout.{Element, element_of, IsBoundary, IsStructureEnd, IsLibraryEnd, AreElements, FirstForm, IsFront, AllStand, LeavesForm, IsNext, Accepts, Refuses}
use Rattle.drc_cli.specs.Working.LayoutReading.{slot_after, elements_from}
use Rattle.drc_cli.proofs.LayoutSlots.{all_stand-front}
use Rattle.drc_cli.proofs.LayoutForms.{boundary_is, structure_end_is}

-- ---- From cases to slots

-- the records may stand from this slot on, to the end, and draw these elements
record HasSlots (primary : List ℕ) (slot : Slot) (items : List Item) (elements : List Element) : Type 0 where
  stand : AllStand primary slot items
  ends : slot_after slot items ≡ End
  known : elements ≡ elements_from slot items

behind_boundary : (primary : List ℕ) (first : Item) (items : List Item) (elements : List Element) → IsBoundary first → HasSlots primary Layer items elements → HasSlots primary Elements (first ∷ items) elements
behind_boundary primary first items elements opens slots =
    let P : Slot → Type 0 = λ slot. HasSlots primary slot items elements in
    let moved = subst P (sym (boundary_is first opens)) slots in
    record { stand = (inl opens, moved.stand); ends = moved.ends; known = moved.known }

behind_structure_end : (primary : List ℕ) (first library : Item) → IsStructureEnd first → IsLibraryEnd library → HasSlots primary Elements (first ∷ library ∷ []) []
behind_structure_end primary first library closes ends =
    let P : Slot → Type 0 = λ slot. HasSlots primary slot (library ∷ []) [] in
    let last : HasSlots primary LibraryEnd (library ∷ []) [] = record { stand = (ends, tt); ends = refl; known = refl } in
    let moved = subst P (sym (structure_end_is first closes)) last in
    record { stand = (inr closes, moved.stand); ends = moved.ends; known = moved.known }

slots_from_elements : (primary : List ℕ) (items : List Item) (elements : List Element) → AreElements items elements → HasSlots primary Elements items elements
slots_from_elements primary [] elements are = absurd are
slots_from_elements primary (a ∷ []) elements are = absurd are
slots_from_elements primary (a ∷ b ∷ []) [] are = behind_structure_end primary a b are.0 are.1
slots_from_elements primary (a ∷ b ∷ []) (element ∷ elements) are = absurd are
slots_from_elements primary (a ∷ b ∷ c ∷ []) elements are = absurd are
slots_from_elements primary (a ∷ b ∷ c ∷ d ∷ []) elements are = absurd are
slots_from_elements primary (a ∷ b ∷ c ∷ d ∷ e ∷ items) [] are = absurd are
slots_from_elements primary (a ∷ b ∷ c ∷ d ∷ e ∷ items) (element ∷ elements) are =
    let rest = slots_from_elements primary items elements are.6 in
    behind_boundary primary a (b ∷ c ∷ d ∷ e ∷ items) (element ∷ elements) are.0 (record {
      stand = (are.1, (are.2, (are.3, (are.4, rest.stand))));
      ends = rest.ends;
      known = ap (λ (x : Element). x ∷ elements) are.5 ∙ ap (λ (xs : List Element). element_of b d ∷ xs) rest.known;
    })

slots_from_form : (primary : List ℕ) (items : List Item) (elements : List Element) → FirstForm primary items elements → HasSlots primary Header items elements
slots_from_form primary [] elements form = absurd form
slots_from_form primary (a ∷ []) elements form = absurd form
slots_from_form primary (a ∷ b ∷ []) elements form = absurd form
slots_from_form primary (a ∷ b ∷ c ∷ []) elements form = absurd form
slots_from_form primary (a ∷ b ∷ c ∷ d ∷ []) elements form = absurd form
slots_from_form primary (a ∷ b ∷ c ∷ d ∷ e ∷ []) elements form = absurd form
slots_from_form primary (a ∷ b ∷ c ∷ d ∷ e ∷ f ∷ items) elements form =
    let rest = slots_from_elements primary items elements form.6 in
    record { stand = (form.0, (form.1, (form.2, (form.3, (form.4, (form.5, rest.stand)))))); ends = rest.ends; known = rest.known }

elements_end : (items : List Item) (elements : List Element) (before : Item) → AreElements items elements → EndsLibrary (before ∷ items)
elements_end [] elements before are = absurd are
elements_end (a ∷ []) elements before are = absurd are
elements_end (a ∷ b ∷ []) [] before are = are.1.0.type_byte
elements_end (a ∷ b ∷ []) (element ∷ elements) before are = absurd are
elements_end (a ∷ b ∷ c ∷ []) elements before are = absurd are
elements_end (a ∷ b ∷ c ∷ d ∷ []) elements before are = absurd are
elements_end (a ∷ b ∷ c ∷ d ∷ e ∷ items) [] before are = absurd are
elements_end (a ∷ b ∷ c ∷ d ∷ e ∷ items) (element ∷ elements) before are = elements_end items elements e are.6

form_ends : (primary : List ℕ) (items : List Item) (elements : List Element) → FirstForm primary items elements → EndsLibrary items
form_ends primary [] elements form = absurd form
form_ends primary (a ∷ []) elements form = absurd form
form_ends primary (a ∷ b ∷ []) elements form = absurd form
form_ends primary (a ∷ b ∷ c ∷ []) elements form = absurd form
form_ends primary (a ∷ b ∷ c ∷ d ∷ []) elements form = absurd form
form_ends primary (a ∷ b ∷ c ∷ d ∷ e ∷ []) elements form = absurd form
form_ends primary (a ∷ b ∷ c ∷ d ∷ e ∷ f ∷ items) elements form = elements_end items elements f form.6

-- ---- Where a record of the first form follows, nothing is refused

module _ (primary : List ℕ) (items : List Item) (rest : List ℕ) (item : Item) (more : List ℕ) (comes : ComesNext items rest item more) (front : IsFront primary (items ++ item ∷ [])) where
  follows : (kind : LayoutKind) (at : ℕ) → IsNext kind primary items rest at → ⊥
  follows kinds.LayoutTooLong at next = whole_not_too_long (end_of items) rest item more comes.whole comes.good next.1
  follows kinds.BadLength at next = whole_not_bad_length (end_of items) rest item more comes.whole comes.good next.1
  follows kinds.Truncated at next = whole_not_partial (end_of items) rest item more comes.whole next.1
  follows kinds.NotBuilt at next =
      let same = same_front item next.item more next.more (comes.here ∙ sym next.next.here) (sym comes.whole ∙ next.next.whole) in
      next.leaves (subst (λ (i : Item). IsFront primary (items ++ i ∷ [])) same.0 front)
  follows kind at next = absurd next

goes_on : (primary : List ℕ) (bytes : List ℕ) (items : List Item) (item : Item) (after : List Item) (rest rest' : List ℕ) (kind : LayoutKind) (at : ℕ)
    → Cuts bytes items rest → Cuts bytes (items ++ item ∷ after) rest' → IsFront primary (items ++ item ∷ after) → IsNext kind primary items rest at → ⊥
goes_on primary bytes items item after rest rest' kind at cut longer front next =
    let F : List Item → Type 0 = λ all. IsFront primary all in
    follows primary items rest item (flat_map spelling after ++ rest') (comes_next bytes items rest item after rest' cut longer)
    (all_stand-front primary Header (items ++ item ∷ []) after (subst F (sym (append_assoc items (item ∷ []) after)) front))
    kind at next

-- ---- A stream that is accepted isn't refused

module _ (primary : List ℕ) (bytes : List ℕ) (elements : List Element) (refusal : LayoutRefusal) (accepts : Accepts primary bytes elements) (refuses : Refuses primary bytes refusal) where
  ended : EndsLibrary accepts.items
  ended = form_ends primary accepts.items elements accepts.form

  not_longer : (more : List Item) → accepts.items ≡ refuses.items ++ more → ⊥
  not_longer [] same =
      let E : List Item → Type 0 = λ items. EndsLibrary items in
      refuses.before_end (subst E (same ∙ append-nil refuses.items) ended)
  not_longer (item ∷ after) same =
      let C : List Item → Type 0 = λ items. Cuts bytes items accepts.rest in
      let F : List Item → Type 0 = λ items. IsFront primary items in
      goes_on primary bytes refuses.items item after refuses.rest accepts.rest refusal.kind refusal.at refuses.cut
      (subst C same accepts.cut) (subst F same (slots_from_form primary accepts.items elements accepts.form).stand) refuses.next

  not_shorter : (more : List Item) → refuses.items ≡ accepts.items ++ more → ⊥
  not_shorter [] same =
      let E : List Item → Type 0 = λ items. EndsLibrary items in
      refuses.before_end (subst E (sym (append-nil accepts.items) ∙ sym same) ended)
  not_shorter (item ∷ after) same =
      let C : List Item → Type 0 = λ items. Cuts bytes items refuses.rest in
      (comes_next bytes accepts.items accepts.rest item after refuses.rest accepts.cut (subst C same refuses.cut)).goes_on ended

  pub accepted_not_refused : ⊥
  accepted_not_refused =
      let both = cuts-fronts bytes refuses.items accepts.items refuses.rest accepts.rest refuses.cut accepts.cut in
      elim both.1 [ inl longer ↦ not_longer both.0 longer | inr shorter ↦ not_shorter both.0 shorter ]

-- ---- A stream is accepted with one list of elements

one_meaning : (primary bytes : List ℕ) (a b : List Element) (p : Accepts primary bytes a) (q : Accepts primary bytes b) (more : List Item) → q.items ≡ p.items ++ more → a ≡ b
one_meaning primary bytes a b p q [] same =
    let is : p.items ≡ q.items = sym (same ∙ append-nil p.items) in
    (slots_from_form primary p.items a p.form).known ∙ ap (elements_from Header) is ∙ sym (slots_from_form primary q.items b q.form).known
one_meaning primary bytes a b p q (item ∷ after) same =
    let C : List Item → Type 0 = λ items. Cuts bytes items q.rest in
    absurd ((comes_next bytes p.items p.rest item after q.rest p.cut (subst C same q.cut)).goes_on (form_ends primary p.items a p.form))

pub one_list_of_elements : (primary bytes : List ℕ) (a b : List Element) → Accepts primary bytes a → Accepts primary bytes b → a ≡ b
one_list_of_elements primary bytes a b p q =
    let both = cuts-fronts bytes p.items q.items p.rest q.rest p.cut q.cut in
    elim both.1 [ inl longer ↦ one_meaning primary bytes a b p q both.0 longer | inr shorter ↦ sym (one_meaning primary bytes b a q p both.0 shorter) ]

-- ---- A stream is refused in one way

module _ (primary : List ℕ) (items : List Item) (rest : List ℕ) where
  leaves_at : (at : ℕ) → LeavesForm primary items rest at → at ≡ end_of items
  leaves_at at leaves = leaves.offset ∙ leaves.next.here

  next_is_one : (kind kind' : LayoutKind) (at at' : ℕ) → IsNext kind primary items rest at → IsNext kind' primary items rest at' → (at ≡ at') × (kind ≡ kind')
  next_is_one kinds.LayoutTooLong kinds.LayoutTooLong at at' p q = (p.0 ∙ sym q.0, refl)
  next_is_one kinds.LayoutTooLong kinds.Truncated at at' p q = absurd (partial_not_too_long (end_of items) rest q.1 p.1)
  next_is_one kinds.LayoutTooLong kinds.BadLength at at' p q = absurd (too_long_not_bad_length (end_of items) rest p.1 q.1)
  next_is_one kinds.LayoutTooLong kinds.NotBuilt at at' p q = absurd (whole_not_too_long (end_of items) rest q.item q.more q.next.whole q.next.good p.1)
  next_is_one kinds.Truncated kinds.LayoutTooLong at at' p q = absurd (partial_not_too_long (end_of items) rest p.1 q.1)
  next_is_one kinds.Truncated kinds.Truncated at at' p q = (p.0 ∙ sym q.0, refl)
  next_is_one kinds.Truncated kinds.BadLength at at' p q = absurd (partial_not_bad_length (end_of items) rest p.1 q.1)
  next_is_one kinds.Truncated kinds.NotBuilt at at' p q = absurd (whole_not_partial (end_of items) rest q.item q.more q.next.whole p.1)
  next_is_one kinds.BadLength kinds.LayoutTooLong at at' p q = absurd (too_long_not_bad_length (end_of items) rest q.1 p.1)
  next_is_one kinds.BadLength kinds.Truncated at at' p q = absurd (partial_not_bad_length (end_of items) rest q.1 p.1)
  next_is_one kinds.BadLength kinds.BadLength at at' p q = (p.0 ∙ sym q.0, refl)
  next_is_one kinds.BadLength kinds.NotBuilt at at' p q = absurd (whole_not_bad_length (end_of items) rest q.item q.more q.next.whole q.next.good p.1)
  next_is_one kinds.NotBuilt kinds.LayoutTooLong at at' p q = absurd (whole_not_too_long (end_of items) rest p.item p.more p.next.whole p.next.good q.1)
  next_is_one kinds.NotBuilt kinds.Truncated at at' p q = absurd (whole_not_partial (end_of items) rest p.item p.more p.next.whole q.1)
  next_is_one kinds.NotBuilt kinds.BadLength at at' p q = absurd (whole_not_bad_length (end_of items) rest p.item p.more p.next.whole p.next.good q.1)
  next_is_one kinds.NotBuilt kinds.NotBuilt at at' p q = (leaves_at at p ∙ sym (leaves_at at' q), refl)
  next_is_one kinds.LayoutTooLong kind' at at' p q = absurd q
  next_is_one kinds.Truncated kind' at at' p q = absurd q
  next_is_one kinds.BadLength kind' at at' p q = absurd q
  next_is_one kinds.NotBuilt kind' at at' p q = absurd q
  next_is_one kind kind' at at' p q = absurd p

same_refusal : (a b : LayoutRefusal) → (a.at ≡ b.at) × (a.kind ≡ b.kind) → a ≡ b
same_refusal a b same = λ i. let r : LayoutRefusal = record { at = same.0 i; kind = same.1 i } in r

module _ (primary : List ℕ) (bytes : List ℕ) where
  no_further : (a b : LayoutRefusal) (p : Refuses primary bytes a) (q : Refuses primary bytes b) (more : List Item) → q.items ≡ p.items ++ more → a ≡ b
  no_further a b p q [] same =
      let is : q.items ≡ p.items = same ∙ append-nil p.items in
      let C : List Item → Type 0 = λ items. Cuts bytes items q.rest in
      let rest_is = same_rest bytes p.items q.rest p.rest (subst C is q.cut) p.cut in
      let N : List Item → Type 0 = λ items. IsNext b.kind primary items q.rest b.at in
      let M : List ℕ → Type 0 = λ rest. IsNext b.kind primary p.items rest b.at in
      same_refusal a b (next_is_one primary p.items p.rest a.kind b.kind a.at b.at p.next (subst M rest_is (subst N is q.next)))
  no_further a b p q (item ∷ after) same =
      let C : List Item → Type 0 = λ items. Cuts bytes items q.rest in
      let F : List Item → Type 0 = λ items. IsFront primary items in
      absurd (goes_on primary bytes p.items item after p.rest q.rest a.kind a.at p.cut (subst C same q.cut) (subst F same q.front) p.next)

  pub one_refusal : (a b : LayoutRefusal) → Refuses primary bytes a → Refuses primary bytes b → a ≡ b
  one_refusal a b p q =
      let both = cuts-fronts bytes p.items q.items p.rest q.rest p.cut q.cut in
      elim both.1 [ inl longer ↦ no_further a b p q both.0 longer | inr shorter ↦ sym (no_further b a q p both.0 shorter) ]
