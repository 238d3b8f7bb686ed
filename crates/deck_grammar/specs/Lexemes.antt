-- The tokens of a deck as the grammar sees them, and what a name, a file, a number and a note say.
use Rattle.std.specs.Prelude.{ℕ, ◌||◌, ◌==◌, ◌+◌, ◌-◌, Bool, not, List, [], ◌∷◌, reverse, length, take, drop}
use Rattle.std.specs.List.{prefix_len}
use Rattle.deck_tree.specs.declared.name_at.NameAt.{NameAt}
use Rattle.deck_tree.specs.declared.number.Number.{Number}
use Rattle.deck_grammar.specs.declared.kind.Kind.{Kind}

-- a token: what it is to the grammar, the offset of its first byte, and its bytes
pub data Lexeme : Type 0 where
  lexeme : Kind → ℕ → List ℕ → Lexeme

abbrev pub kind : Lexeme → Kind
kind (lexeme k place those) = k

abbrev pub at : Lexeme → ℕ
at (lexeme k place those) = place

abbrev pub bytes : Lexeme → List ℕ
bytes (lexeme k place those) = those

abbrev pub name_of : Lexeme → NameAt
name_of token = record { at = at token; name = bytes token }

-- a text without its quotes
abbrev pub without_quotes : List ℕ → List ℕ
without_quotes text = take (length text - 2) (drop 1 text)

abbrev pub file_of : Lexeme → NameAt
file_of token = record { at = at token; name = without_quotes (bytes token) }

-- without the bytes at the front that pass the test, and without those at the end
abbrev pub without_first : (ℕ → Bool) → List ℕ → List ℕ
without_first test those = drop (prefix_len test those) those

abbrev pub without_last : (ℕ → Bool) → List ℕ → List ℕ
without_last test those = take (length those - prefix_len test (reverse those)) those

abbrev pub is_zero : ℕ → Bool
is_zero b = b == 48

abbrev pub is_no_point : ℕ → Bool
is_no_point b = not (b == 46)

-- what stands before the first point, and what stands behind it
abbrev pub before_point : List ℕ → List ℕ
before_point those = take (prefix_len is_no_point those) those

abbrev pub behind_point : List ℕ → List ℕ
behind_point those = drop (prefix_len is_no_point those + 1) those

-- digits without the zeros before them, or one zero
abbrev pub at_least_zero : List ℕ → List ℕ
at_least_zero [] = 48 ∷ []
at_least_zero (d ∷ more) = d ∷ more

-- a number as canonical text shows it: the digits before the point, and those behind it
abbrev pub number_of : Lexeme → Number
number_of token = record {
  at = at token;
  whole = at_least_zero (without_first is_zero (before_point (bytes token)));
  fraction = without_last is_zero (behind_point (bytes token));
}

-- a space, a tab or a CR
abbrev pub is_note_blank : ℕ → Bool
is_note_blank b = b == 32 || b == 9 || b == 13

-- the text of a note behind its `@`, without blanks at either end
abbrev pub note_text : List ℕ → List ℕ
note_text note = without_last is_note_blank (without_first is_note_blank (drop 1 note))

abbrev pub note_of : Lexeme → List ℕ
note_of token = note_text (bytes token)
