-- What is kept of the records of a stream is what they say.
use Rattle.std.proofs.Common.{◌≡◌, refl, sym, ◌∙◌, ap, subst, ℕ, Bool, true, false, ◌&&◌, List, [], ◌∷◌, ◌++◌, append_assoc, map}
use Rattle.std.specs.List.{AllByRecursion, filter}
use Rattle.std.specs.Option.{option_to_list}
use Rattle.std.proofs.lemmas.Bool.{and_parts, false≢true}
use Rattle.std.proofs.lemmas.List.{append-nil}
use Rattle.std.proofs.lemmas.List.Elements.{filter-append}
use Rattle.gds_records.specs.declared.record_type.RecordType.TheVariants as types
use Rattle.gds_records.specs.declared.real.Real8.{Real8}
use Rattle.gds_records.specs.RecordTypes.{code_of}
use Rattle.gds_records.specs.Records.{Item}
use Rattle.gds_grammar.specs.declared.line.Shape.TheVariants as shapes
use Rattle.gds_grammar.specs.declared.line.Reference.TheVariants as references
use Rattle.gds_grammar.specs.declared.line.Line.{Line}
use Rattle.gds_grammar.specs.declared.line.Line.TheVariants as lines
use Rattle.gds_grammar.specs.Steps.{Steps, done, once, maybe, many, either, Spells, nothing_more, a_record, without, with_group, no_more, once_more, by_these, by_those}
use Rattle.gds_grammar.specs.Grammar.{one, open_of, fields_of, class}
use Rattle.gds_facts.specs.Opened.{types_of}
use Rattle.gds_library.specs.declared.keep.Keep.{Keep}
use Rattle.gds_library.specs.declared.keep.Keep.TheVariants as keeps
use Rattle.gds_library.specs.declared.part.Part.{Part}
use Rattle.gds_library.specs.declared.part.Part.TheVariants as parts
use Rattle.gds_library.specs.Library.{Drawing, Structure, Library}
use Rattle.gds_library.specs.Fields.{name, real}
use Rattle.gds_library.specs.Elements as drawn
use Rattle.gds_library.specs.Kept.{is_kept, kept_of, kept}
use Rattle.gds_library.specs.Streams.{AreSpelled, own_steps, closing_steps, head_steps, ReadsElements, no_more_elements, one_more_element, ReadsStructures, no_more_structures, one_more_structure, ReadsAs}
use Rattle.gds_library.specs.Kinds.{part_of}
use Rattle.gds_library.specs.Drafts.{Draft, blank, first_draft, kept_drawings, with_element, drafted, step, steps, library_of}
use Rattle.gds_library.proofs.Spelled.{First, first, none_left, opened_with}

pub steps-append : (keep : Keep) (items others : List Item) (draft : Draft) → steps keep (items ++ others) draft ≡ steps keep others (steps keep items draft)
steps-append keep [] others draft = refl
steps-append keep (item ∷ items) others draft = steps-append keep items others (step keep item draft)

-- a record whose part is known
known : (keep : Keep) (item : Item) (type : ℕ) (draft : Draft) → item.kind ≡ type → step keep item draft ≡ drafted keep (part_of type) item draft
known keep item type draft is = ap (λ k. drafted keep (part_of k) item draft) is

-- ---- Records that are fields or passed over

abbrev is_other : Part → Bool
is_other parts.Other = true
is_other part = false

other : (part : Part) → is_other part ≡ true → part ≡ parts.Other
other parts.Other e = refl
other parts.Units e = absurd (false≢true e)
other parts.BeginStructure e = absurd (false≢true e)
other parts.StructureName e = absurd (false≢true e)
other parts.EndStructure e = absurd (false≢true e)
other parts.EndLibrary e = absurd (false≢true e)
other parts.EndElement e = absurd (false≢true e)
other parts.Property e = absurd (false≢true e)
other parts.Open e = absurd (false≢true e)

-- each type that the steps name is that of such a record
abbrev plain : Steps → Bool
plain done = true
plain (once type after) = is_other (part_of type) && plain after
plain (maybe group after) = plain group && plain after
plain (many group after) = plain group && plain after
plain (either these those) = plain these && plain those

abbrev ArePlain : List ℕ → Type 0
ArePlain those = AllByRecursion (λ type. is_other (part_of type) ≡ true) those

all_plain : {steps : Steps} {types rest : List ℕ} → Spells steps types rest → plain steps ≡ true → ArePlain rest → ArePlain types
all_plain nothing_more e all = all
all_plain (a_record {type = type} {after = after} p) e all =
    ((and_parts (is_other (part_of type)) (plain after) e).0, all_plain p ((and_parts (is_other (part_of type)) (plain after) e).1) all)
all_plain (without {group = group} {after = after} p) e all = all_plain p ((and_parts (plain group) (plain after) e).1) all
all_plain (with_group {group = group} {after = after} g p) e all =
    all_plain g ((and_parts (plain group) (plain after) e).0) (all_plain p ((and_parts (plain group) (plain after) e).1) all)
all_plain (no_more {group = group} {after = after} p) e all = all_plain p ((and_parts (plain group) (plain after) e).1) all
all_plain (once_more {group = group} {after = after} g p) e all = all_plain g ((and_parts (plain group) (plain after) e).0) (all_plain p e all)
all_plain (by_these {these = these} {those = those} p) e all = all_plain p ((and_parts (plain these) (plain those) e).0) all
all_plain (by_those {these = these} {those = those} p) e all = all_plain p ((and_parts (plain these) (plain those) e).1) all

-- outside of elements they leave all as it is
passes : (keep : Keep) (items : List Item) (draft : Draft) → ArePlain (types_of items) → steps keep items (record draft { fields = [] }) ≡ record draft { fields = [] }
passes keep [] draft all = refl
passes keep (item ∷ items) draft all =
    ap (λ part. steps keep items (drafted keep part item (record draft { fields = [] }))) (other (part_of item.kind) all.0) ∙ passes keep items draft all.1

-- in an element they are its fields
gathers : (keep : Keep) (items : List Item) (draft : Draft) (opening : Item) (fields : List Item) → ArePlain (types_of items)
    → steps keep items (record draft { fields = opening ∷ fields }) ≡ record draft { fields = opening ∷ fields ++ items }
gathers keep [] draft opening fields all = ap (λ those. let d : Draft = record draft { fields = opening ∷ those } in d) (sym (append-nil fields))
gathers keep (item ∷ items) draft opening fields all =
    ap (λ part. steps keep items (drafted keep part item (record draft { fields = opening ∷ fields }))) (other (part_of item.kind) all.0)
    ∙ gathers keep items draft opening (fields ++ item ∷ []) all.1
    ∙ ap (λ those. let d : Draft = record draft { fields = opening ∷ those } in d) (append_assoc fields (item ∷ []) items)

-- ---- An element

opens : (line : Line) → part_of (code_of (open_of line)) ≡ parts.Open
opens (lines.Shape shapes.Boundary) = refl
opens (lines.Shape shapes.Path) = refl
opens (lines.Shape shapes.Text) = refl
opens (lines.Shape shapes.Node) = refl
opens (lines.Shape shapes.Box) = refl
opens (lines.Reference references.Single) = refl
opens (lines.Reference references.Array) = refl

abbrev after_open : Line → Steps
after_open line = maybe (one types.ElementFlags) (maybe (one types.Plex) (fields_of line done))

fields_plain : (line : Line) → plain (after_open line) ≡ true
fields_plain (lines.Shape shapes.Boundary) = refl
fields_plain (lines.Shape shapes.Path) = refl
fields_plain (lines.Shape shapes.Text) = refl
fields_plain (lines.Shape shapes.Node) = refl
fields_plain (lines.Shape shapes.Box) = refl
fields_plain (lines.Reference references.Single) = refl
fields_plain (lines.Reference references.Array) = refl

gathered : (keep : Keep) (line : Line) (own : List Item) (draft : Draft) → AreSpelled (own_steps line) own
    → steps keep own (record draft { fields = [] }) ≡ record draft { fields = own }
gathered keep line own draft p =
    let o = opened_with p in
    let f = first own (code_of (open_of line)) o.more o.is in
    let P : List ℕ → Type 0 = λ those. ArePlain those in
    let all : ArePlain (types_of f.more) = subst P (sym f.then) (all_plain o.spelled (fields_plain line) tt) in
    let closed : Draft = record draft { fields = [] } in
    ap (λ those. steps keep those closed) f.parts
    ∙ ap (steps keep f.more) (known keep f.item (code_of (open_of line)) closed f.is ∙ ap (λ part. drafted keep part f.item closed) (opens line))
    ∙ gathers keep f.more draft f.item [] all
    ∙ ap (λ those. let d : Draft = record draft { fields = those } in d) (sym f.parts)

abbrev close : (keep : Keep) → Draft → Draft
close keep draft = record draft { current = with_element keep draft.fields draft.current; fields = [] }

closed_of : (keep : Keep) (draft : Draft) {types : List ℕ} → Spells closing_steps types [] → (items : List Item) → types_of items ≡ types → steps keep items draft ≡ close keep draft
closed_of keep draft (no_more (a_record nothing_more)) items is =
    let f = first items (code_of types.EndElement) [] is in
    ap (λ those. steps keep those draft) (f.parts ∙ ap (λ those. f.item ∷ those) (none_left f.more f.then)) ∙ known keep f.item (code_of types.EndElement) draft f.is
closed_of keep draft (once_more {between = between} (a_record (a_record nothing_more)) p) items is =
    let f = first items (code_of types.PropertyAttribute) (code_of types.PropertyValue ∷ between) is in
    let g = first f.more (code_of types.PropertyValue) between f.then in
    ap (λ those. steps keep those draft) (f.parts ∙ ap (λ those. f.item ∷ those) g.parts)
    ∙ ap (λ d. steps keep g.more (step keep g.item d)) (known keep f.item (code_of types.PropertyAttribute) draft f.is)
    ∙ ap (steps keep g.more) (known keep g.item (code_of types.PropertyValue) draft g.is)
    ∙ closed_of keep draft p g.more g.then

-- ---- Elements and structures

-- the open structure is closed with these elements behind its own
abbrev ended : Keep → List Drawing → Draft → Draft
ended keep elements draft = record draft {
  structures = draft.structures ++ (record draft.current { elements = draft.current.elements ++ filter (is_kept keep) elements }) ∷ [];
  current = blank 0;
  fields = [];
}

abbrev ended_with : Draft → List Drawing → Draft
ended_with draft those = record draft { structures = draft.structures ++ (record draft.current { elements = those }) ∷ []; current = blank 0; fields = [] }

elements_drafted : (keep : Keep) (draft : Draft) {items : List Item} {elements : List Drawing} → ReadsElements items elements
    → steps keep items (record draft { fields = [] }) ≡ ended keep elements draft
elements_drafted keep draft (no_more_elements last is) =
    known keep last (code_of types.EndStructure) (record draft { fields = [] }) is
    ∙ ap (ended_with draft) (sym (append-nil draft.current.elements))
elements_drafted keep draft (one_more_element line own closing items elements p q r) =
    let open_draft : Draft = record draft { fields = [] } in
    let inside : Draft = record draft { fields = own } in
    let mine = kept_drawings keep own in
    let next : Draft = record draft { current = with_element keep own draft.current } in
    steps-append keep own (closing ++ items) open_draft
    ∙ ap (steps keep (closing ++ items)) (gathered keep line own draft p)
    ∙ steps-append keep closing items inside
    ∙ ap (steps keep items) (closed_of keep inside q closing refl)
    ∙ elements_drafted keep next r
    ∙ ap (ended_with draft) (append_assoc draft.current.elements mine (filter (is_kept keep) elements)
    ∙ ap (λ those. draft.current.elements ++ those) (sym (filter-append (is_kept keep) (option_to_list (drawn.element_of own)) elements)))

abbrev with_structures : Draft → List Structure → ℕ → Library
with_structures draft structures end_at = record { user_units = real 0 draft.units; metres = real 1 draft.units; structures = structures; end_at = end_at }

structures_drafted : (keep : Keep) (draft : Draft) {items : List Item} {structures : List Structure} {end_at : ℕ} → ReadsStructures items structures end_at
    → library_of (steps keep items (record draft { fields = [] })) ≡ with_structures draft (draft.structures ++ map (kept_of keep) structures) end_at
structures_drafted keep draft (no_more_structures last is) =
    ap library_of (known keep last (code_of types.EndLibrary) (record draft { fields = [] }) is)
    ∙ ap (λ those. with_structures draft those last.at) (sym (append-nil draft.structures))
structures_drafted keep draft (one_more_structure begin called passed body items elements structures end_at is named spelled read more) =
    let closed : Draft = record draft { fields = [] } in
    let begun : Draft = record draft { current = blank begin.at; fields = [] } in
    let current : Structure = record { name = name called.body; at = begin.at; elements = [] } in
    let named_draft : Draft = record draft { current = current; fields = [] } in
    let one : Structure = record { name = name called.body; at = begin.at; elements = elements } in
    let next : Draft = record draft { structures = draft.structures ++ kept_of keep one ∷ []; current = blank 0 } in
    let rest = passed ++ (body ++ items) in
    ap (λ d. library_of (steps keep rest (step keep called d))) (known keep begin (code_of types.BeginStructure) closed is)
    ∙ ap (λ d. library_of (steps keep rest d)) (known keep called (code_of types.StructureName) begun named)
    ∙ ap library_of (steps-append keep passed (body ++ items) named_draft)
    ∙ ap (λ d. library_of (steps keep (body ++ items) d)) (passes keep passed named_draft (all_plain spelled refl tt))
    ∙ ap library_of (steps-append keep body items named_draft)
    ∙ ap (λ d. library_of (steps keep items d)) (elements_drafted keep named_draft read)
    ∙ structures_drafted keep next more
    ∙ ap (λ those. with_structures draft those end_at) (append_assoc draft.structures (kept_of keep one ∷ []) (map (kept_of keep) structures))

-- ---- The stream

library_is : (user_units user_units' metres metres' : Real8) (structures : List Structure) (end_at : ℕ) → user_units ≡ user_units' → metres ≡ metres'
    → (let a : Library = record { user_units = user_units; metres = metres; structures = structures; end_at = end_at } in a)
    ≡ (let b : Library = record { user_units = user_units'; metres = metres'; structures = structures; end_at = end_at } in b)
library_is user_units user_units' metres metres' structures end_at p q = λ i. let r : Library = record { user_units = p i; metres = q i; structures = structures; end_at = end_at } in r

pub drafted_as : (keep : Keep) (items : List Item) (library : Library) → ReadsAs items library → library_of (steps keep items first_draft) ≡ kept keep library
drafted_as keep items library says =
    let units = says.units in
    let with_units : Draft = record first_draft { units = units.body } in
    ap (λ those. library_of (steps keep those first_draft)) says.parts
    ∙ ap library_of (steps-append keep says.head (units ∷ says.body) first_draft)
    ∙ ap (λ d. library_of (steps keep (units ∷ says.body) d)) (passes keep says.head first_draft (all_plain says.spelled refl tt))
    ∙ ap (λ d. library_of (steps keep says.body d)) (known keep units (code_of types.Units) first_draft says.is_units)
    ∙ structures_drafted keep with_units says.structures
    ∙ library_is (real 0 units.body) library.user_units (real 1 units.body) library.metres (map (kept_of keep) library.structures) library.end_at
    (sym says.user_units) (sym says.metres)

-- ---- One library

all_kept : (elements : List Drawing) → filter (is_kept keeps.All) elements ≡ elements
all_kept [] = refl
all_kept (element ∷ elements) = ap (λ those. element ∷ those) (all_kept elements)

whole : (structures : List Structure) → map (kept_of keeps.All) structures ≡ structures
whole [] = refl
whole (structure ∷ structures) =
    ap (λ those. (let s : Structure = record structure { elements = those } in s) ∷ map (kept_of keeps.All) structures) (all_kept structure.elements)
    ∙ ap (λ those. structure ∷ those) (whole structures)

pub kept_whole : (library : Library) → kept keeps.All library ≡ library
kept_whole library = ap (λ those. let l : Library = record library { structures = those } in l) (whole library.structures)

pub one_says : (items : List Item) (a b : Library) → ReadsAs items a → ReadsAs items b → a ≡ b
one_says items a b p q = sym (kept_whole a) ∙ sym (drafted_as keeps.All items a p) ∙ drafted_as keeps.All items b q ∙ kept_whole b
