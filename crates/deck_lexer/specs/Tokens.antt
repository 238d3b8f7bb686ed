-- The tokens of a text. Between them stand blanks and whole comments. A token is the longest spelling of any kind at
-- its place, and none begins where a comment does. Where neither comes, there is a fact, and a text has at most one
-- that is the first.
use Rattle.std.specs.Prelude.{◌≡◌, ◌≢◌, ◌⊎◌, ℕ, ◌+◌, ◌<◌, ◌≤◌, ◌&&◌, ◌||◌, ◌==◌, Bool, true, false, not, List, [], ◌∷◌, ◌++◌, length, drop, Option, Some, None, Result, Ok, Err}
use Rattle.std.specs.List.{AllByRecursion, list_all, flat_map}
use Rattle.deck_lexer.specs.declared.token.Token.{Token}
use Rattle.deck_lexer.specs.declared.token.TokenKind.{TokenKind}
use Rattle.deck_lexer.specs.declared.token.TokenKind.TheVariants as kinds
use Rattle.deck_lexer.specs.declared.token.LexFault.{LexFault}
use Rattle.deck_lexer.specs.declared.token.LexFault.TheVariants as faults
use Rattle.deck_lexer.specs.Bytes.{is_blank, is_digit, begins_word, continues_word, is_text_byte, is_in_line, is_sign, begins_comparison}

-- ---- Gaps

-- A part of a gap: a blank; a comment up to its line's end, with it; a comment up to the next `*/`, with it.
pub data Part : Type 0 where
  Blank : ℕ → Part
  Line : List ℕ → Part
  Block : List ℕ → Part

abbrev pub part_text : Part → List ℕ
part_text (Blank c) = c ∷ []
part_text (Line body) = 47 ∷ 47 ∷ (body ++ 10 ∷ [])
part_text (Block body) = 47 ∷ 42 ∷ (body ++ 42 ∷ 47 ∷ [])

-- does `*/` stand among the bytes?
abbrev pub has_end : List ℕ → Bool
has_end [] = false
has_end (c ∷ []) = false
has_end (c ∷ d ∷ more) = (c == 42 && d == 47) || has_end (d ∷ more)

abbrev pub IsPart : Part → Type 0
IsPart (Blank c) = is_blank c ≡ true
IsPart (Line body) = list_all is_in_line body ≡ true
IsPart (Block body) = has_end body ≡ false

abbrev pub parts_text : List Part → List ℕ
parts_text = flat_map part_text

-- the bytes are blanks and whole comments, where the rest comes behind them; the last comment may end with the text
abbrev pub IsGap : (gap rest : List ℕ) → Type 0
IsGap gap rest =
    (parts : List Part) × AllByRecursion IsPart parts
    × ((gap ≡ parts_text parts)
    ⊎ ((body : List ℕ) × (list_all is_in_line body ≡ true) × (gap ≡ parts_text parts ++ 47 ∷ 47 ∷ body) × (rest ≡ [])))

-- ---- Spellings

abbrev pub IsWord : List ℕ → Type 0
IsWord s = (c : ℕ) × (more : List ℕ) × (s ≡ c ∷ more) × (begins_word c ≡ true) × (list_all continues_word more ≡ true)

-- digits; or digits, a point and digits, on one side of it at least
abbrev pub IsNumber : List ℕ → Type 0
IsNumber s =
    (whole fraction : List ℕ) × (list_all is_digit whole ≡ true) × (list_all is_digit fraction ≡ true)
    × (((s ≡ whole) × (0 < length whole)) ⊎ ((s ≡ whole ++ 46 ∷ fraction) × (0 < length whole + length fraction)))

abbrev pub IsText : List ℕ → Type 0
IsText s = (body : List ℕ) × (s ≡ 34 ∷ (body ++ 34 ∷ [])) × (list_all is_text_byte body ≡ true)

abbrev pub IsNote : List ℕ → Type 0
IsNote s = (body : List ℕ) × (s ≡ 64 ∷ body) × (list_all is_in_line body ≡ true)

abbrev pub IsSign : List ℕ → Type 0
IsSign s =
    (c : ℕ) × (((s ≡ c ∷ []) × (is_sign c ≡ true)) ⊎ ((s ≡ c ∷ 61 ∷ []) × (begins_comparison c ≡ true)))

abbrev pub IsSpelling : TokenKind → List ℕ → Type 0
IsSpelling kinds.Word s = IsWord s
IsSpelling kinds.Number s = IsNumber s
IsSpelling kinds.Text s = IsText s
IsSpelling kinds.Sign s = IsSign s
IsSpelling kinds.Note s = IsNote s

-- ---- What stands at a place

-- a comment begins: `//` or `/*`
abbrev pub begins_comment : List ℕ → Bool
begins_comment [] = false
begins_comment (c ∷ []) = false
begins_comment (c ∷ d ∷ more) = c == 47 && (d == 47 || d == 42)

-- the first byte would continue a word
abbrev pub goes_on_as_word : List ℕ → Bool
goes_on_as_word [] = false
goes_on_as_word (c ∷ more) = continues_word c

-- nothing may follow a number straight that would continue a word
abbrev pub MayFollow : TokenKind → List ℕ → Type 0
MayFollow kinds.Number more = goes_on_as_word more ≡ false
MayFollow _ more = Unit {0}

-- no spelling of any kind at the front of the bytes is longer
abbrev pub IsLongest : (bytes : List ℕ) (n : ℕ) → Type 0
IsLongest bytes n = (kind : TokenKind) (s more : List ℕ) → bytes ≡ s ++ more → IsSpelling kind s → length s ≤ n

-- a quote stands before the line's end
abbrev pub closes_on_line : List ℕ → Bool
closes_on_line [] = false
closes_on_line (c ∷ more) = c == 34 || (not (c == 10) && closes_on_line more)

-- the token stands at the front of the bytes, which begin at this offset
pub record IsTokenAt (at : ℕ) (bytes : List ℕ) (token : Token) : Type 0 where
  pub spelled : List ℕ
  pub behind : List ℕ
  pub whole : bytes ≡ spelled ++ behind
  pub spelling : IsSpelling token.kind spelled
  pub longest : IsLongest bytes (length spelled)
  pub no_comment : begins_comment bytes ≡ false
  pub may_follow : MayFollow token.kind behind
  pub start : token.start ≡ at
  pub «end» : token.end ≡ at + length spelled

-- the first byte is no blank and no quote, and begins no token and no comment
pub record BeginsNothing (bytes : List ℕ) : Type 0 where
  pub first : ℕ
  pub behind : List ℕ
  pub whole : bytes ≡ first ∷ behind
  pub no_blank : is_blank first ≡ false
  pub no_quote : first ≢ 34
  pub no_comment : begins_comment bytes ≡ false
  pub no_token : IsLongest bytes 0

-- a number, and straight behind it a byte that would continue a word
pub record RunsOn (bytes : List ℕ) (n : ℕ) : Type 0 where
  pub spelled : List ℕ
  pub behind : List ℕ
  pub whole : bytes ≡ spelled ++ behind
  pub spelling : IsNumber spelled
  pub longest : IsLongest bytes (length spelled)
  pub goes_on : goes_on_as_word behind ≡ true
  pub size : n ≡ length spelled

-- a quote that is closed on its line, and between the two a byte that a text can't hold, the first one
pub record HoldsBadByte (bytes : List ℕ) (n : ℕ) : Type 0 where
  pub body : List ℕ
  pub bad : ℕ
  pub behind : List ℕ
  pub whole : bytes ≡ 34 ∷ (body ++ bad ∷ behind)
  pub fine : list_all is_text_byte body ≡ true
  pub not_fine : is_text_byte bad ≡ false
  pub no_quote : bad ≢ 34
  pub closed : closes_on_line (bad ∷ behind) ≡ true
  pub size : n ≡ 1 + length body

-- a fact at the front of the bytes, which begin at this offset
abbrev pub IsFaultAt : (at : ℕ) (bytes : List ℕ) → LexFault → Type 0
IsFaultAt at bytes (faults.BadByte place) =
    (n : ℕ) × (place ≡ at + n) × (((n ≡ 0) × BeginsNothing bytes) ⊎ RunsOn bytes n ⊎ HoldsBadByte bytes n)
IsFaultAt at bytes (faults.OpenComment place) =
    (place ≡ at) × ((more : List ℕ) × (bytes ≡ 47 ∷ 42 ∷ more) × (has_end more ≡ false))
IsFaultAt at bytes (faults.OpenText place) =
    (place ≡ at) × ((more : List ℕ) × (bytes ≡ 34 ∷ more) × (closes_on_line more ≡ false))

-- what stands at the front of the bytes, where no gap does: a token, nothing at the end, or a fact
abbrev pub StandsAt : (at : ℕ) (bytes : List ℕ) → Result (Option Token) LexFault → Type 0
StandsAt at bytes (Ok (Some token)) = IsTokenAt at bytes token
StandsAt at bytes (Ok None) = bytes ≡ []
StandsAt at bytes (Err fault) = IsFaultAt at bytes fault

-- what comes next: behind a gap, all of it
pub record Comes (at : ℕ) (bytes : List ℕ) (answer : Result (Option Token) LexFault) : Type 0 where
  pub gap : List ℕ
  pub behind : List ℕ
  pub whole : bytes ≡ gap ++ behind
  pub is_gap : IsGap gap behind
  pub stands : StandsAt (at + length gap) behind answer

-- ---- Texts

-- from an offset on the text is these tokens, and then comes the end or a fact
abbrev pub Lexes : (text : List ℕ) (at : ℕ) → List Token → Result (Option Token) LexFault → Type 0
Lexes text at [] last = Comes at (drop at text) last
Lexes text at (token ∷ tokens) last = Comes at (drop at text) (Ok (Some token)) × Lexes text token.end tokens last

-- these are the tokens of the text
abbrev pub lexes : List ℕ → List Token → Type 0
lexes text tokens = Lexes text 0 tokens (Ok None)

-- this is the first fact of the text
abbrev pub IsFirstFact : List ℕ → LexFault → Type 0
IsFirstFact text fault = (tokens : List Token) × Lexes text 0 tokens (Err fault)
