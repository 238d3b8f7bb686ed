-- The element in which a record stands.
use Rattle.std.specs.Prelude.{ℕ, ◌==◌, if◌then◌else◌, List, [], ◌∷◌, map, Option, Some, None}
use Rattle.std.specs.Option.{option_or}
use Rattle.gds_records.specs.RecordTypes.{code_of}
use Rattle.gds_records.specs.Records.{Item}
use Rattle.gds_grammar.specs.declared.line.Shape.TheVariants as shapes
use Rattle.gds_grammar.specs.declared.line.Reference.TheVariants as references
use Rattle.gds_grammar.specs.declared.line.Line.{Line}
use Rattle.gds_grammar.specs.declared.line.Line.TheVariants as lines
use Rattle.gds_grammar.specs.Grammar.{open_of}

-- the types of records
abbrev pub types_of : List Item → List ℕ
types_of items = map (λ item. item.kind) items

-- the first of these lines that a record of the type opens
abbrev pub opened_among : List Line → ℕ → Option Line
opened_among [] type = None
opened_among (line ∷ more) type = if type == code_of (open_of line) then Some line else opened_among more type

-- the element that a record of the type opens
abbrev pub opened_by : ℕ → Option Line
opened_by type = opened_among (lines.Shape shapes.Boundary ∷ lines.Shape shapes.Path ∷ lines.Reference references.Single
    ∷ lines.Reference references.Array ∷ lines.Shape shapes.Text ∷ lines.Shape shapes.Node ∷ lines.Shape shapes.Box ∷ []) type

-- the element that was opened last
abbrev pub last_opened : List Item → Option Line
last_opened [] = None
last_opened (item ∷ items) = option_or (last_opened items) (opened_by item.kind)
