-- The records of each stream say a library.
use Rattle.std.proofs.Common.{◌≡◌, refl, sym, ◌∙◌, ap, subst, ℕ, List, [], ◌∷◌, ◌++◌, append_assoc}
use Rattle.std.specs.Option.{option_to_list}
use Rattle.gds_records.specs.declared.record_type.RecordType.TheVariants as types
use Rattle.gds_records.specs.RecordTypes.{code_of}
use Rattle.gds_records.specs.Records.{Item}
use Rattle.gds_grammar.specs.declared.line.Shape.TheVariants as shapes
use Rattle.gds_grammar.specs.declared.line.Reference.TheVariants as references
use Rattle.gds_grammar.specs.declared.line.Line.{Line}
use Rattle.gds_grammar.specs.declared.line.Line.TheVariants as lines
use Rattle.gds_grammar.specs.Steps.{Steps, done, once, maybe, Spells, nothing_more, a_record, no_more, once_more, by_these, by_those}
use Rattle.gds_grammar.specs.Working.Exits.{behind}
use Rattle.gds_grammar.specs.Grammar.{element_of, element, elements, structure, structures, class, IsStream}
use Rattle.gds_facts.specs.Opened.{types_of}
use Rattle.gds_library.specs.Library.{Drawing, Structure, Library}
use Rattle.gds_library.specs.Fields.{name, real}
use Rattle.gds_library.specs.Elements as drawn
use Rattle.gds_library.specs.Streams.{AreSpelled, HasType, own_steps, closing_steps, head_steps, ReadsElements, no_more_elements, one_more_element, ReadsStructures, no_more_structures, one_more_structure, ReadsAs}
use Rattle.gds_grammar.proofs.Exits.{Parted, part}
use Rattle.gds_library.proofs.Spelled.{begins, first, none_left, opened_with}

-- ---- Elements

record OfLine (types rest : List ℕ) : Type 0 where
  pub line : Line
  pub spelled : Spells (element_of line) types rest

by_line : {types rest : List ℕ} → Spells element types rest → OfLine types rest
by_line (by_these p) = record { line = lines.Shape shapes.Boundary; spelled = p }
by_line (by_those (by_these p)) = record { line = lines.Shape shapes.Path; spelled = p }
by_line (by_those (by_those (by_these p))) = record { line = lines.Reference references.Single; spelled = p }
by_line (by_those (by_those (by_those (by_these p)))) = record { line = lines.Reference references.Array; spelled = p }
by_line (by_those (by_those (by_those (by_those (by_these p))))) = record { line = lines.Shape shapes.Text; spelled = p }
by_line (by_those (by_those (by_those (by_those (by_those (by_these p)))))) = record { line = lines.Shape shapes.Node; spelled = p }
by_line (by_those (by_those (by_those (by_those (by_those (by_those p)))))) = record { line = lines.Shape shapes.Box; spelled = p }

own_and_closing : (line : Line) → element_of line ≡ behind (own_steps line) closing_steps
own_and_closing (lines.Shape shapes.Boundary) = refl
own_and_closing (lines.Shape shapes.Path) = refl
own_and_closing (lines.Shape shapes.Text) = refl
own_and_closing (lines.Shape shapes.Node) = refl
own_and_closing (lines.Shape shapes.Box) = refl
own_and_closing (lines.Reference references.Single) = refl
own_and_closing (lines.Reference references.Array) = refl

an_element : (line : Line) (types rest : List ℕ) → Spells (element_of line) types rest → Parted (own_steps line) closing_steps types rest
an_element line types rest p = let S : Steps → Type 0 = λ steps. Spells steps types rest in part (own_steps line) (subst S (own_and_closing line) p)

record ElementsRead (items : List Item) : Type 0 where
  pub elements : List Drawing
  pub read : ReadsElements items elements

elements_read : {types : List ℕ} → Spells (elements done) types [] → (items : List Item) → types_of items ≡ types → ElementsRead items
elements_read (no_more (a_record nothing_more)) items is =
    let f = first items (code_of types.EndStructure) [] is in
    let R : List Item → Type 0 = λ those. ReadsElements those [] in
    let last : items ≡ f.item ∷ [] = f.parts ∙ ap (λ those. f.item ∷ those) (none_left f.more f.then) in
    record { elements = []; read = subst R (sym last) (no_more_elements f.item f.is) }
elements_read (once_more {types = whole} {between = between} g p) items is =
    let l = by_line g in
    let q = an_element l.line whole between l.spelled in
    let a = begins q.first items is in
    let b = begins q.then a.more a.then in
    let r = elements_read p b.more b.then in
    let all = option_to_list (drawn.element_of a.mine) ++ r.elements in
    let R : List Item → Type 0 = λ those. ReadsElements those all in
    let parts : items ≡ a.mine ++ (b.mine ++ b.more) = a.parts ∙ ap (λ those. a.mine ++ those) b.parts in
    record { elements = all; read = subst R (sym parts) (one_more_element l.line a.mine b.mine b.more r.elements a.spelled b.spelled r.read) }

-- ---- Structures

record StructureRead (items : List Item) : Type 0 where
  pub first : Item
  pub called : Item
  pub passed : List Item
  pub body : List Item
  pub elements : List Drawing
  pub parts : items ≡ first ∷ called ∷ (passed ++ body)
  pub begin : HasType types.BeginStructure first
  pub named : HasType types.StructureName called
  pub spelled : AreSpelled (maybe (once class done) done) passed
  pub read : ReadsElements body elements

structure_read : (items : List Item) → AreSpelled structure items → StructureRead items
structure_read items p =
    let o = opened_with p in
    let f = first items (code_of types.BeginStructure) o.more o.is in
    let n = opened_with o.spelled in
    let g = first f.more (code_of types.StructureName) n.more (f.then ∙ n.is) in
    let q = part (maybe (once class done) done) n.spelled in
    let a = begins q.first g.more g.then in
    let r = elements_read q.then a.more a.then in
    record {
      first = f.item;
      called = g.item;
      passed = a.mine;
      body = a.more;
      elements = r.elements;
      parts = f.parts ∙ ap (λ those. f.item ∷ those) (g.parts ∙ ap (λ those. g.item ∷ those) a.parts);
      begin = f.is;
      named = g.is;
      spelled = a.spelled;
      read = r.read;
    }

record StructuresRead (items : List Item) : Type 0 where
  pub structures : List Structure
  pub end_at : ℕ
  pub read : ReadsStructures items structures end_at

structures_read : {types : List ℕ} → Spells structures types [] → (items : List Item) → types_of items ≡ types → StructuresRead items
structures_read (no_more (a_record nothing_more)) items is =
    let f = first items (code_of types.EndLibrary) [] is in
    let R : List Item → Type 0 = λ those. ReadsStructures those [] f.item.at in
    let last : items ≡ f.item ∷ [] = f.parts ∙ ap (λ those. f.item ∷ those) (none_left f.more f.then) in
    record { structures = []; end_at = f.item.at; read = subst R (sym last) (no_more_structures f.item f.is) }
structures_read (once_more g p) items is =
    let a = begins g items is in
    let s = structure_read a.mine a.spelled in
    let r = structures_read p a.more a.then in
    let one : Structure = record { name = name s.called.body; at = s.first.at; elements = s.elements } in
    let R : List Item → Type 0 = λ those. ReadsStructures those (one ∷ r.structures) r.end_at in
    let parts : items ≡ s.first ∷ s.called ∷ (s.passed ++ (s.body ++ a.more)) =
    a.parts ∙ ap (λ those. those ++ a.more) s.parts ∙ ap (λ those. s.first ∷ s.called ∷ those) (append_assoc s.passed s.body a.more) in
    record {
      structures = one ∷ r.structures;
      end_at = r.end_at;
      read = subst R (sym parts) (one_more_structure s.first s.called s.passed s.body a.more s.elements r.structures r.end_at s.begin s.named s.spelled s.read r.read);
    }

-- ---- The stream

pub stream_read : (items : List Item) → IsStream (types_of items) → (library : Library) × ReadsAs items library
stream_read items p =
    let q = part head_steps p in
    let a = begins q.first items refl in
    let o = opened_with q.then in
    let f = first a.more (code_of types.Units) o.more (a.then ∙ o.is) in
    let r = structures_read o.spelled f.more f.then in
    let library : Library = record { user_units = real 0 f.item.body; metres = real 1 f.item.body; structures = r.structures; end_at = r.end_at } in
    let says : ReadsAs items library = record {
      head = a.mine;
      units = f.item;
      body = f.more;
      parts = a.parts ∙ ap (λ those. a.mine ++ those) f.parts;
      spelled = a.spelled;
      is_units = f.is;
      user_units = refl;
      metres = refl;
      structures = r.read;
    } in
    (library, says)
