-- The lines that are said of a run that isn't done: what is refused and why, or which file can't be read or written. Each
-- ends in LF.
use Rattle.std.specs.Prelude.{◌≡◌, ◌⊎◌, ℕ, List, [], ◌++◌, codes, decimal, drop, Some, Ok}
use Rattle.gds_records.specs.declared.fault.LayoutRefusal.{LayoutRefusal}
use Rattle.gds_records.specs.LayoutKinds.{layout_number, layout_word}
use Rattle.deck_tree.specs.declared.refusal.DeckKind.{DeckKind}
use Rattle.deck_tree.specs.declared.refusal.DeckKind.TheVariants as reasons
use Rattle.deck_tree.specs.declared.refusal.DeckRefusal.{DeckRefusal}
use Rattle.deck_tree.specs.DeckKinds.{deck_number, deck_word, statement_words, counted_word}
use Rattle.deck_lexer.specs.declared.token.Token.{Token}
use Rattle.deck_lexer.specs.Tokens.{Comes}
use Rattle.deck_cursor.specs.Places.{bytes_of}

-- A refusal: the number and the word of its reason, the offset at which that stands, and a detail, which is empty or one
-- space and a word or two.
pub record Refusal : Type 0 where
  pub number : ℕ
  pub at : ℕ
  pub word : List ℕ
  pub detail : List ℕ

-- `deck 6 at 115 Unsupported DFM`
abbrev pub refusal_line : (file : List ℕ) → Refusal → List ℕ
refusal_line file refusal =
    file ++ codes " " ++ decimal refusal.number ++ codes " at " ++ decimal refusal.at
    ++ codes " " ++ refusal.word ++ refusal.detail ++ codes "\n"

abbrev pub refusal_of_deck : DeckRefusal → (detail : List ℕ) → Refusal
refusal_of_deck refusal detail =
    record { number = deck_number refusal.kind; at = refusal.at; word = deck_word refusal.kind; detail = detail }

abbrev pub refusal_of_layout : LayoutRefusal → Refusal
refusal_of_layout refusal =
    record { number = layout_number refusal.kind; at = refusal.at; word = layout_word refusal.kind; detail = [] }

abbrev pub deck_line : DeckRefusal → (detail : List ℕ) → List ℕ
deck_line refusal detail = refusal_line (codes "deck") (refusal_of_deck refusal detail)

abbrev pub layout_line : LayoutRefusal → List ℕ
layout_line refusal = refusal_line (codes "layout") (refusal_of_layout refusal)

-- ---- The detail of a deck's refusal

-- a space and the token that comes first in these bytes, if one does
abbrev pub IsFirstToken : (bytes detail : List ℕ) → Type 0
IsFirstToken bytes detail =
    ((token : Token) × Comes 0 bytes (Ok (Some token)) × (detail ≡ codes " " ++ bytes_of bytes token))
    ⊎ (((token : Token) → Comes 0 bytes (Ok (Some token)) → ⊥) × (detail ≡ []))

-- what is set aside is told as it is written; and the words of a statement that is missing or stands twice, and the word
-- for what there is too much of
abbrev pub IsDetailAt : (text : List ℕ) (at : ℕ) → DeckKind → (detail : List ℕ) → Type 0
IsDetailAt text at reasons.Unsupported detail = IsFirstToken (drop at text) detail
IsDetailAt text at (reasons.MissingStatement which) detail = detail ≡ codes " " ++ statement_words which
IsDetailAt text at (reasons.RepeatedStatement which) detail = detail ≡ codes " " ++ statement_words which
IsDetailAt text at (reasons.TooMany what) detail = detail ≡ codes " " ++ counted_word what
IsDetailAt text at other detail = detail ≡ []

abbrev pub IsDetail : (text : List ℕ) → DeckRefusal → (detail : List ℕ) → Type 0
IsDetail text refusal detail = IsDetailAt text refusal.at refusal.kind detail

-- ---- Other lines

-- of words that ask for nothing
abbrev pub words_line : List ℕ
words_line = codes "words\n"

-- of a file that can't be read, and of one that can't be written
abbrev pub read_line : (name : List ℕ) → List ℕ
read_line name = codes "read " ++ name ++ codes "\n"

abbrev pub write_line : (name : List ℕ) → List ℕ
write_line name = codes "write " ++ name ++ codes "\n"

-- of want of memory
abbrev pub memory_line : List ℕ
memory_line = codes "memory\n"
