-- What ends with ENDLIB is a whole stream.
use Rattle.std.proofs.Common.{◌≡◌, ◌↔◌, refl, sym, ◌∙◌, ap, subst, ℕ, List, [], ◌∷◌, ◌++◌, Option, Some, None}
use Rattle.std.specs.Option.{MatchOption}
use Rattle.gds_records.specs.Records.{Item, endlib}
use Rattle.gds_grammar.specs.declared.line.Shape.TheVariants as shapes
use Rattle.gds_grammar.specs.declared.line.Reference.TheVariants as references
use Rattle.gds_grammar.specs.declared.line.Line.TheVariants as lines
use Rattle.gds_grammar.specs.declared.line.Turned.TheVariants as turned
use Rattle.gds_grammar.specs.declared.slot.PathField.TheVariants as path_fields
use Rattle.gds_grammar.specs.declared.slot.TextField.TheVariants as text_fields
use Rattle.gds_grammar.specs.declared.slot.TurnField.TheVariants as turn_fields
use Rattle.gds_grammar.specs.declared.slot.Slot.{Slot}
use Rattle.gds_grammar.specs.declared.slot.Slot.TheVariants as slots
use Rattle.gds_grammar.specs.Grammar.{IsStream, IsFront}
use Rattle.gds_grammar.specs.Slots.{StandsBehind}
use Rattle.gds_grammar.specs.Working.Exits.{chosen}
use Rattle.gds_grammar.specs.Working.Ways.{ways}
use Rattle.gds_grammar.proofs.Fronts.{front_of_front}
use Rattle.gds_grammar.proofs.Slots.{front_has_slot, next_stands}
use Rattle.gds_facts.specs.Opened.{types_of}

none_some : {next : Slot} → None ≡ Some next → next ≡ slots.End
none_some e = absurd cc

some_some : {next : Slot} → Some slots.End ≡ Some next → next ≡ slots.End
some_some e = cc

-- ENDLIB leads to the end, or nowhere
leads_to_end : (slot next : Slot) → chosen endlib (ways slot) ≡ Some next → next ≡ slots.End
leads_to_end slots.Header next e = none_some e
leads_to_end slots.BeginLibrary next e = none_some e
leads_to_end slots.LibraryName next e = none_some e
leads_to_end slots.Units next e = none_some e
leads_to_end slots.Structures next e = some_some e
leads_to_end slots.End next e = none_some e
leads_to_end slots.StructureName next e = none_some e
leads_to_end slots.Class next e = none_some e
leads_to_end slots.Elements next e = none_some e
leads_to_end (slots.Flags (lines.Shape shape)) next e = none_some e
leads_to_end (slots.Flags (lines.Reference reference)) next e = none_some e
leads_to_end (slots.Plex (lines.Shape shape)) next e = none_some e
leads_to_end (slots.Plex (lines.Reference reference)) next e = none_some e
leads_to_end (slots.Fields (lines.Shape shape)) next e = none_some e
leads_to_end (slots.Fields (lines.Reference reference)) next e = none_some e
leads_to_end (slots.ShapeType shapes.Boundary) next e = none_some e
leads_to_end (slots.ShapeType shapes.Path) next e = none_some e
leads_to_end (slots.ShapeType shapes.Text) next e = none_some e
leads_to_end (slots.ShapeType shapes.Node) next e = none_some e
leads_to_end (slots.ShapeType shapes.Box) next e = none_some e
leads_to_end (slots.Path path_fields.PathType) next e = none_some e
leads_to_end (slots.Path path_fields.Width) next e = none_some e
leads_to_end (slots.Path path_fields.BeginExtension) next e = none_some e
leads_to_end (slots.Path path_fields.EndExtension) next e = none_some e
leads_to_end (slots.Text text_fields.Presentation) next e = none_some e
leads_to_end (slots.Text text_fields.PathType) next e = none_some e
leads_to_end (slots.Text text_fields.Width) next e = none_some e
leads_to_end (slots.Turn turn_fields.Transform turned.Text) next e = none_some e
leads_to_end (slots.Turn turn_fields.Transform (turned.Reference references.Single)) next e = none_some e
leads_to_end (slots.Turn turn_fields.Transform (turned.Reference references.Array)) next e = none_some e
leads_to_end (slots.Turn turn_fields.Magnification turned.Text) next e = none_some e
leads_to_end (slots.Turn turn_fields.Magnification (turned.Reference references.Single)) next e = none_some e
leads_to_end (slots.Turn turn_fields.Magnification (turned.Reference references.Array)) next e = none_some e
leads_to_end (slots.Turn turn_fields.Angle turned.Text) next e = none_some e
leads_to_end (slots.Turn turn_fields.Angle (turned.Reference references.Single)) next e = none_some e
leads_to_end (slots.Turn turn_fields.Angle (turned.Reference references.Array)) next e = none_some e
leads_to_end slots.ColumnsAndRows next e = none_some e
leads_to_end (slots.Points line) next e = none_some e
leads_to_end slots.TextString next e = none_some e
leads_to_end slots.Properties next e = none_some e
leads_to_end slots.PropertyValue next e = none_some e

types_of_more : (items : List Item) (last : Item) → types_of (items ++ last ∷ []) ≡ types_of items ++ last.kind ∷ []
types_of_more [] last = refl
types_of_more (item ∷ items) last = ap (λ those. item.kind ∷ those) (types_of_more items last)

module _ (whole : (types : List ℕ) (slot : Slot) → StandsBehind types slot → IsStream types ↔ (slot ≡ slots.End)) where
  ends : (types : List ℕ) → IsFront (types ++ endlib ∷ []) → IsStream (types ++ endlib ∷ [])
  ends types front =
      let here = front_has_slot types (front_of_front types (endlib ∷ []) front) in
      let Next : Option Slot → Type 0 = λ next. chosen endlib (ways here.0) ≡ next
      → MatchOption next (IsFront (types ++ endlib ∷ []) → ⊥) (λ slot. StandsBehind (types ++ endlib ∷ []) slot) → IsStream (types ++ endlib ∷ []) in
      elim (chosen endlib (ways here.0)) as Next [
        | None ↦ λ is none. absurd (none front)
        | Some slot ↦ λ is stands. (whole (types ++ endlib ∷ []) slot stands).1 (leads_to_end here.0 slot is)
      ] refl (next_stands types here.0 endlib here.1 (chosen endlib (ways here.0)) refl)

  pub ends_with_endlib : (items : List Item) (last : Item) → last.kind ≡ endlib → IsFront (types_of (items ++ last ∷ [])) → IsStream (types_of (items ++ last ∷ []))
  ends_with_endlib items last is front =
      let same : types_of (items ++ last ∷ []) ≡ types_of items ++ endlib ∷ [] = types_of_more items last ∙ ap (λ k. types_of items ++ k ∷ []) is in
      let F : List ℕ → Type 0 = λ those. IsFront those in
      let S : List ℕ → Type 0 = λ those. IsStream those in
      subst S (sym same) (ends (types_of items) (subst F same front))
