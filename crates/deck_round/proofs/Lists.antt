-- The canonical text of files, of lists of names and numbers, and of words of statements is spelled by the grammar as it is, but for places.
use Rattle.std.proofs.Common.{◌≡◌, true, List, [], ◌∷◌, ◌++◌, map, refl}
use Rattle.std.specs.Prelude.{codes}
use Rattle.std.specs.List.{list_all, flat_map}
use Rattle.std.proofs.lemmas.Bool.{and_parts}
use Rattle.deck_tree.specs.declared.name_at.NameAt.{NameAt}
use Rattle.deck_tree.specs.declared.number.Number.{Number}
use Rattle.deck_tree.specs.declared.statement.LayerMap.{LayerMap}
use Rattle.deck_tree.specs.declared.statement.MapKind.{MapKind}
use Rattle.deck_tree.specs.declared.statement.MapKind.TheVariants as map_kinds
use Rattle.deck_tree.specs.WellFormed.{is_formed_name, is_formed_file, is_formed_number}
use Rattle.deck_tree.specs.Plain.{plain_name, plain_number}
use Rattle.deck_grammar.specs.Rules as r
use Rattle.deck_grammar.specs.Alternatives as a
use Rattle.deck_printer.specs.Values.{number_text}
use Rattle.deck_printer.specs.Canonical.{file_text, spaced_name, spaced_number}
use Rattle.deck_round.proofs.Lexing.{Closed, Before}
use Rattle.deck_round.proofs.Parts.{Ruled, nothing, blank_then, token_then, last_token, last_rule}
use Rattle.deck_round.proofs.Keywords as word
use Rattle.deck_round.proofs.Marks.{name_one, file_one, file_said, number_one, number_said}
use Rattle.deck_round.proofs.AlikeValues.{alike}

pub file_spelled : (file : NameAt) → is_formed_file file ≡ true → Ruled Closed 0 r.file (file_text file) (λ read. plain_name read ≡ plain_name file)
file_spelled file formed = record { alternative = a.file_text; spelled = last_token (file_text file) (file_one file formed) (λ at. file_said file at) }

pub ascii_spelled : Ruled Closed 0 r.ascii (codes "ASCII") (λ read. Unit {0})
ascii_spelled = record { alternative = a.an_ascii; spelled = last_token (codes "ASCII") word.ascii (λ at. tt) }

pub no_mode : Ruled Closed 0 r.mode [] (λ read. Unit {0})
no_mode = record { alternative = a.no_mode; spelled = nothing tt }

-- the text is names, and can stand behind a name
abbrev pub Names : List NameAt → Type 0
Names names = Ruled Closed 0 r.names (flat_map spaced_name names) (λ read. map plain_name read ≡ map plain_name names) × Before Closed Closed (flat_map spaced_name names)

pub names_spelled : (names : List NameAt) → list_all is_formed_name names ≡ true → Names names
names_spelled [] formed = (record { alternative = a.no_name; spelled = nothing refl }, λ rest e. e)
names_spelled (name ∷ names) formed =
    let both = and_parts (is_formed_name name) (list_all is_formed_name names) formed in
    let rest = names_spelled names both.1 in (
      record {
        alternative = a.a_name;
        spelled = blank_then 32 (name.name ++ flat_map spaced_name names) refl (token_then name.name (flat_map spaced_name names) (name_one name.name both.0) rest.1 (λ at.
            last_rule (flat_map spaced_name names) rest.0 (λ read all. alike refl all)));
      },
      λ behind e. refl,
    )

-- the text is numbers, and can stand behind a number
abbrev pub Numbers : List Number → Type 0
Numbers numbers = Ruled Closed 0 r.numbers (flat_map spaced_number numbers) (λ read. map plain_number read ≡ map plain_number numbers) × Before Closed Closed (flat_map spaced_number numbers)

pub numbers_spelled : (numbers : List Number) → list_all is_formed_number numbers ≡ true → Numbers numbers
numbers_spelled [] formed = (record { alternative = a.no_number; spelled = nothing refl }, λ rest e. e)
numbers_spelled (number ∷ numbers) formed =
    let both = and_parts (is_formed_number number) (list_all is_formed_number numbers) formed in
    let rest = numbers_spelled numbers both.1 in (
      record {
        alternative = a.a_number;
        spelled = blank_then 32 (number_text number ++ flat_map spaced_number numbers) refl (token_then (number_text number) (flat_map spaced_number numbers) (number_one number both.0) rest.1 (λ at.
            last_rule (flat_map spaced_number numbers) rest.0 (λ read all. alike (number_said number both.0 at) all)));
      },
      λ behind e. refl,
    )

abbrev pub row_with : Number → MapKind → Number → Number → LayerMap
row_with layer kind kind_number target = record { layer = layer; kind = kind; kind_number = kind_number; target = target }

pub datatype_spelled : Ruled Closed 0 r.map_kind (codes "DATATYPE") (λ read. read ≡ map_kinds.DataType)
datatype_spelled = record { alternative = a.datatype; spelled = last_token (codes "DATATYPE") word.datatype (λ at. refl) }

pub texttype_spelled : Ruled Closed 0 r.map_kind (codes "TEXTTYPE") (λ read. read ≡ map_kinds.TextType)
texttype_spelled = record { alternative = a.texttype; spelled = last_token (codes "TEXTTYPE") word.texttype (λ at. refl) }
