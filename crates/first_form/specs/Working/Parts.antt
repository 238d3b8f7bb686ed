-- Working words of the statements of a deck: what each says, whatever its place.
use Rattle.std.specs.Prelude.{ℕ, ◌&&◌, ◌||◌, ◌==◌, nat_lt, nat_le, Bool, true, false, not, List, [], ◌∷◌, length, slice_index, Option, Some, None, if◌then◌else◌}
use Rattle.std.specs.Char.{is_ascii_digit}
use Rattle.std.specs.List.{list_all}
use Rattle.std.specs.Str.{bytes_eq}
use Rattle.std.specs.Str.Parse.{digits_value}
use Rattle.list_facts.specs.Attempts.{◌>>=◌}
use Rattle.deck_tree.specs.declared.number.Number.{Number}
use Rattle.deck_tree.specs.declared.statement.Statement.{Statement}
use Rattle.deck_tree.specs.declared.statement.Statement.TheVariants as statement
use Rattle.deck_tree.specs.declared.statement.Item.{Item}
use Rattle.deck_tree.specs.declared.statement.Item.TheVariants as item
use Rattle.first_form.specs.FirstForm.{LayerLine, Decimal, ServedDeck, is_file_byte}
use Rattle.first_form.specs.Working.Layers.{LengthLine, layer_line}

-- ---- the lines above those of the layers

pub record Head : Type 0 where
  pub layout : List ℕ
  pub primary : List ℕ
  pub results : List ℕ

unfoldable pub head_in : Statement → Statement → Statement → Statement → Option Head
head_in (statement.LayoutSystem a) (statement.LayoutPath b layout) (statement.LayoutPrimary c primary) (statement.ResultsDatabase d results) =
    Some (record { layout = layout.name; primary = primary.name; results = results.name })
head_in _ _ _ _ = None

-- ---- a layer's number

-- one to five digits, and no zero in front of another digit
unfoldable pub is_numeral : List ℕ → Bool
is_numeral digits =
    list_all is_ascii_digit digits && (nat_lt 0 (length digits) && nat_le (length digits) 5 && (not (slice_index digits 0 == 48) || length digits == 1))

unfoldable pub layer_number : Number → Option ℕ
layer_number number =
    if length number.fraction == 0 && (is_numeral number.whole && nat_lt (digits_value 10 number.whole) 65536) then Some (digits_value 10 number.whole) else None

abbrev pub lone_number : List Number → Option ℕ
lone_number [] = None
lone_number (number ∷ []) = layer_number number
lone_number (number ∷ other ∷ more) = None

unfoldable pub layer_in : Statement → Option LayerLine
layer_in (statement.Layer at name numbers) = lone_number numbers >>= λ n. Some (record { name = name.name; number = n })
layer_in _ = None

-- ---- the check

pub record CheckLines : Type 0 where
  pub name : List ℕ
  pub note : List ℕ
  pub input : List ℕ
  pub bound : Decimal

-- a note, then an output
unfoldable pub items_in : List Item → Option (List ℕ × LengthLine)
items_in (item.Note note ∷ item.Output layer ∷ []) = layer_line layer >>= λ l. Some (note, l)
items_in _ = None

unfoldable pub check_in : Statement → Option CheckLines
check_in (statement.Check name items) =
    items_in items >>= λ i. Some (record { name = name.name; note = i.0; input = i.1.input; bound = i.1.bound })
check_in _ = None

-- ---- all statements

pub record Parts : Type 0 where
  pub head : Head
  pub first : LayerLine
  pub second : Option LayerLine
  pub check : CheckLines

unfoldable pub one_layer : Statement → Statement → Statement → Statement → Statement → Statement → Option Parts
one_layer a b c d e f = do
  head ← head_in a b c d
  first ← layer_in e
  check ← check_in f
  Some (record { head = head; first = first; second = None; check = check })

-- two layers and the check, behind the lines above them
abbrev pub two_behind : Head → Statement → Statement → Statement → Option Parts
two_behind head e f g = do
  first ← layer_in e
  second ← layer_in f
  check ← check_in g
  Some (record { head = head; first = first; second = Some second; check = check })

unfoldable pub two_layers : Statement → Statement → Statement → Statement → Statement → Statement → Statement → Option Parts
two_layers a b c d e f g = do
  head ← head_in a b c d
  two_behind head e f g

unfoldable pub parts_in : List Statement → Option Parts
parts_in (a ∷ b ∷ c ∷ d ∷ e ∷ f ∷ []) = one_layer a b c d e f
parts_in (a ∷ b ∷ c ∷ d ∷ e ∷ f ∷ g ∷ []) = two_layers a b c d e f g
parts_in _ = None

-- whether the input is the second layer, where it is one of two layers with different names
unfoldable pub choice_of : LayerLine → Option LayerLine → List ℕ → Option Bool
choice_of first None input = if bytes_eq input first.name then Some false else None
choice_of first (Some second) input =
    if bytes_eq first.name second.name then None else (if bytes_eq input first.name then Some false else (if bytes_eq input second.name then Some true else None))

unfoldable pub is_file_name : List ℕ → Bool
is_file_name name = nat_lt 0 (length name) && list_all is_file_byte name

unfoldable pub files_fit : List ℕ → Head → Bool
files_fit deck_name head =
    is_file_name head.layout && (is_file_name head.results
    && (not (bytes_eq head.layout head.results) && (not (bytes_eq head.layout deck_name) && not (bytes_eq head.results deck_name))))

unfoldable pub is_bound : Decimal → Bool
is_bound bound =
    nat_le (length bound.whole) 6 && (nat_le (length bound.fraction) 3 && (list_all is_ascii_digit bound.whole && list_all is_ascii_digit bound.fraction))

abbrev pub deck_of : Parts → Bool → ServedDeck
deck_of p of_second = record {
  layout = p.head.layout;
  primary = p.head.primary;
  results = p.head.results;
  first = p.first;
  second = p.second;
  check = p.check.name;
  note = p.check.note;
  of_second = of_second;
  bound = p.check.bound;
}

unfoldable pub served_in : List ℕ → List Statement → Option ServedDeck
served_in deck_name statements = do
  parts ← parts_in statements
  of_second ← choice_of parts.first parts.second parts.check.input
  if is_bound parts.check.bound && files_fit deck_name parts.head then Some (deck_of parts of_second) else None
