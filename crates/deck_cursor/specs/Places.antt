-- Places in a text, behind a token or at the start, and the step over a token.
use Rattle.std.specs.Prelude.{◌≡◌, ℕ, ◌-◌, List, [], ◌∷◌, map, take, drop, Option, Some, None, Ok}
use Rattle.deck_lexer.specs.declared.token.Token.{Token}
use Rattle.deck_lexer.specs.declared.token.TokenKind.{TokenKind}
use Rattle.deck_lexer.specs.declared.token.TokenKind.TheVariants as tokens
use Rattle.deck_lexer.specs.Tokens.{Comes}
use Rattle.deck_grammar.specs.declared.kind.Kind.{Kind}
use Rattle.deck_grammar.specs.declared.kind.Kind.TheVariants as kinds
use Rattle.deck_grammar.specs.declared.sign.Sign.TheVariants as s
use Rattle.deck_grammar.specs.Words.{word_kind, sign_kind}
use Rattle.deck_grammar.specs.Lexemes.{Lexeme, lexeme, kind}
use Rattle.deck_tree.specs.WellFormed.{most_nested}
use Rattle.deck_grammar.specs.Refusals.{open_behind}

-- what a token with these bytes is to the grammar
abbrev pub kind_in : TokenKind → List ℕ → Kind
kind_in tokens.Word bytes = word_kind bytes
kind_in tokens.Number bytes = kinds.Number
kind_in tokens.Text bytes = kinds.Text
kind_in tokens.Sign bytes = sign_kind bytes
kind_in tokens.Note bytes = kinds.Note

abbrev pub bytes_of : List ℕ → Token → List ℕ
bytes_of text token = take (token.end - token.start) (drop token.start text)

-- a token of a text as the grammar sees it
abbrev pub lexeme_of : List ℕ → Token → Lexeme
lexeme_of text token = lexeme (kind_in token.kind (bytes_of text token)) token.start (bytes_of text token)

abbrev pub lexemes : List ℕ → List Token → List Lexeme
lexemes text tokens = map (lexeme_of text) tokens

-- an offset behind a token, or the start, and how many round brackets are open there
pub record Place : Type 0 where
  pub text : List ℕ
  pub at : ℕ
  pub brackets : ℕ

abbrev pub start_of : List ℕ → Place
start_of text = record { text = text; at = 0; brackets = 0 }

-- the next token is this one, which opens no bracket too many, and the other place is behind it
pub record Takes (from : Place) (taken : Lexeme) (to : Place) : Type 0 where
  pub token : Token
  pub comes : Comes from.at (drop from.at from.text) (Ok (Some token))
  pub is : taken ≡ lexeme_of from.text token
  pub not_too_deep : kind taken ≡ kinds.Sign s.LeftRound → from.brackets ≡ most_nested → ⊥
  pub behind : to ≡ record { text = from.text; at = token.end; brackets = open_behind from.brackets (taken ∷ []) }

-- no token of this kind comes that opens no bracket too many
abbrev pub TakesNone : Place → Kind → Type 0
TakesNone place k = (taken : Lexeme) (to : Place) → Takes place taken to → kind taken ≡ k → ⊥

-- the kind of the next token, if one comes
abbrev pub Sees : Place → Option Kind → Type 0
Sees place (Some k) = (token : Token) × Comes place.at (drop place.at place.text) (Ok (Some token)) × (k ≡ kind (lexeme_of place.text token))
Sees place None = (token : Token) → Comes place.at (drop place.at place.text) (Ok (Some token)) → ⊥

-- the kind of the token behind the next one, if both come
abbrev pub SeesBehind : Place → Option Kind → Type 0
SeesBehind place seen =
    ((first : Token) → Comes place.at (drop place.at place.text) (Ok (Some first)) → Sees (record place { at = first.end }) seen)
    × (((first : Token) → Comes place.at (drop place.at place.text) (Ok (Some first)) → ⊥) → seen ≡ None)
