-- What the code holds of a deck, without where its bytes lie in memory.
use Rattle.std.specs.Prelude.{◌≡◌, ℕ, Bool, Option, Some, None, unwrap_or, if◌then◌else◌}
use Rattle.first_form.specs.declared.layer.LengthOf.{LengthOf}
use Rattle.first_form.specs.declared.statement.Preamble.{Preamble}
use Rattle.first_form.specs.declared.statement.NumberedLayer.{NumberedLayer}
use Rattle.first_form.specs.declared.statement.Rule.{Rule}
use Rattle.first_form.specs.declared.statement.DeckParts.{DeckParts}
use Rattle.first_form.specs.declared.served.FirstDeck.{FirstDeck}
use Rattle.first_form.specs.FirstForm.{LayerLine, ServedDeck}
use Rattle.first_form.specs.Reading.{IsReadingOf}
use Rattle.first_form.specs.Working.Values.{decimal_in}
use Rattle.first_form.specs.Working.Layers.{LengthLine}
use Rattle.first_form.specs.Working.Parts.{Head, CheckLines, Parts, choice_of}

-- What a function returned, seen by view, is what reading gives.
abbrev pub Gives : {X Y : Type 0} → (X → Y) → Option X → Option Y → Type 0
Gives view None read = read ≡ None
Gives view (Some x) read = read ≡ Some (view x)

abbrev pub line_of : LengthOf → LengthLine
line_of l = record { input = l.input.now; bound = decimal_in l.bound.now }

abbrev pub head_of : Preamble → Head
head_of h = record { layout = h.layout.now; primary = h.primary.now; results = h.results.now }

abbrev pub layer_of : NumberedLayer → LayerLine
layer_of l = record { name = l.name.now; number = l.number }

abbrev pub second_of : Option NumberedLayer → Option LayerLine
second_of None = None
second_of (Some l) = Some (layer_of l)

abbrev pub check_of : Rule → CheckLines
check_of r = record { name = r.name.now; note = r.note.now; input = r.input.now; bound = decimal_in r.bound.now }

abbrev pub parts_of : DeckParts → Parts
parts_of p = record { head = head_of p.preamble; first = layer_of p.first; second = second_of p.second; check = check_of p.rule }

-- whether the check's input is the second of the layers
abbrev pub choice_in : DeckParts → Option Bool
choice_in p = choice_of (layer_of p.first) (second_of p.second) p.rule.input.now

-- the number of the second or of the first layer
abbrev pub chosen_number : DeckParts → Bool → ℕ
chosen_number p of_second = (if of_second then unwrap_or (second_of p.second) (layer_of p.first) else layer_of p.first).number

-- what is found is what reading gives
abbrev pub Reads : Option FirstDeck → Option ServedDeck → Type 0
Reads None read = read ≡ None
Reads (Some found) read = (d : ServedDeck) × (read ≡ Some d) × IsReadingOf found d
