-- Behind the types of a whole stream, and behind no others, nothing is due.
use Rattle.std.proofs.Common.{◌≡◌, refl, sym, subst, ℕ, ◌<◌, ◌≤◌, Bool, true, false, ◌&&◌, List, [], length, append-nil, ◌⊎◌, inl, inr, ◌↔◌, arith}
use Rattle.std.specs.Cmp.{first_so, second_so}
use Rattle.gds_grammar.specs.declared.line.Line.TheVariants as lines
use Rattle.gds_grammar.specs.declared.line.Reference.TheVariants as references
use Rattle.gds_grammar.specs.declared.line.Turned.TheVariants as turned
use Rattle.gds_grammar.specs.declared.slot.PathField.TheVariants as path_fields
use Rattle.gds_grammar.specs.declared.slot.TextField.TheVariants as text_fields
use Rattle.gds_grammar.specs.declared.slot.TurnField.TheVariants as turn_fields
use Rattle.gds_grammar.specs.declared.slot.Slot.{Slot}
use Rattle.gds_grammar.specs.declared.slot.Slot.TheVariants as slots
use Rattle.gds_grammar.specs.Steps.{Steps, done, once, maybe, many, either, Spells, nothing_more, a_record, without, with_group, no_more, once_more, by_these, by_those}
use Rattle.gds_grammar.specs.Grammar.{IsStream}
use Rattle.gds_grammar.specs.Slots.{due, StandsBehind}

-- is at least one record due?
needs : Steps → Bool
needs done = false
needs (once type after) = true
needs (maybe group after) = needs after
needs (many group after) = needs after
needs (either these those) = needs these && needs those

no_longer : {steps : Steps} {types rest : List ℕ} → Spells steps types rest → length rest ≤ length types
no_longer nothing_more = omega arith
no_longer (a_record p) = omega (arith, no_longer p)
no_longer (without p) = no_longer p
no_longer (with_group g p) = omega (arith, no_longer g, no_longer p)
no_longer (no_more p) = no_longer p
no_longer (once_more g p) = omega (arith, no_longer g, no_longer p)
no_longer (by_these p) = no_longer p
no_longer (by_those p) = no_longer p

shorter : {steps : Steps} {types rest : List ℕ} → Spells steps types rest → needs steps ≡ true → length rest < length types
unfolding needs
shorter nothing_more n = absurd (cc)
shorter (a_record p) n = omega (arith, no_longer p)
shorter (without p) n = shorter p n
shorter (with_group g p) n = omega (arith, no_longer g, shorter p n)
shorter (no_more p) n = shorter p n
shorter (once_more g p) n = omega (arith, no_longer g, shorter p n)
shorter (by_these {these = these} {those = those} p) n = shorter p (first_so (needs these) (needs those) n)
shorter (by_those {these = these} {those = those} p) n = shorter p (second_so (needs these) (needs those) n)

needs_more : (slot : Slot) → (slot ≡ slots.End) ⊎ (needs (due slot) ≡ true)
unfolding needs
needs_more slots.Header = inr refl
needs_more slots.BeginLibrary = inr refl
needs_more slots.LibraryName = inr refl
needs_more slots.Units = inr refl
needs_more slots.Structures = inr refl
needs_more slots.End = inl refl
needs_more slots.StructureName = inr refl
needs_more slots.Class = inr refl
needs_more slots.Elements = inr refl
needs_more (slots.Flags (lines.Shape shape)) = inr refl
needs_more (slots.Flags (lines.Reference reference)) = inr refl
needs_more (slots.Plex (lines.Shape shape)) = inr refl
needs_more (slots.Plex (lines.Reference reference)) = inr refl
needs_more (slots.Fields (lines.Shape shape)) = inr refl
needs_more (slots.Fields (lines.Reference reference)) = inr refl
needs_more (slots.ShapeType shape) = inr refl
needs_more (slots.Path path_fields.PathType) = inr refl
needs_more (slots.Path path_fields.Width) = inr refl
needs_more (slots.Path path_fields.BeginExtension) = inr refl
needs_more (slots.Path path_fields.EndExtension) = inr refl
needs_more (slots.Text text_fields.Presentation) = inr refl
needs_more (slots.Text text_fields.PathType) = inr refl
needs_more (slots.Text text_fields.Width) = inr refl
needs_more (slots.Turn turn_fields.Transform turned.Text) = inr refl
needs_more (slots.Turn turn_fields.Transform (turned.Reference references.Single)) = inr refl
needs_more (slots.Turn turn_fields.Transform (turned.Reference references.Array)) = inr refl
needs_more (slots.Turn turn_fields.Magnification turned.Text) = inr refl
needs_more (slots.Turn turn_fields.Magnification (turned.Reference references.Single)) = inr refl
needs_more (slots.Turn turn_fields.Magnification (turned.Reference references.Array)) = inr refl
needs_more (slots.Turn turn_fields.Angle turned.Text) = inr refl
needs_more (slots.Turn turn_fields.Angle (turned.Reference references.Single)) = inr refl
needs_more (slots.Turn turn_fields.Angle (turned.Reference references.Array)) = inr refl
needs_more slots.ColumnsAndRows = inr refl
needs_more (slots.Points line) = inr refl
needs_more slots.TextString = inr refl
needs_more slots.Properties = inr refl
needs_more slots.PropertyValue = inr refl

pub whole_is_end : (types : List ℕ) (slot : Slot) → StandsBehind types slot → IsStream types ↔ (slot ≡ slots.End)
whole_is_end types slot stands =
    let S : List ℕ → Type 0 = λ those. IsStream those in (
      λ p. elim (needs_more slot) [
        | inl e ↦ e
        | inr n ↦ absurd (let l = shorter ((stands []).0 (subst S (sym (append-nil types)) p)) n in omega arith)
      ],
      λ e.
          let D : Slot → Type 0 = λ s. Spells (due s) [] [] in
          subst S (append-nil types) ((stands []).1 (subst D (sym e) nothing_more)),
    )
