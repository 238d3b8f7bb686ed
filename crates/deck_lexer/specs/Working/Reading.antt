-- What stands at the front of some bytes, computed.
use Rattle.std.specs.Prelude.{ℕ, suc, ◌+◌, ◌&&◌, ◌||◌, ◌==◌, nat_lt, List, [], ◌∷◌, length, drop, slice_index, Option, Some, None, Result, Ok, Err, if◌then◌else◌}
use Rattle.std.specs.List.{prefix_len}
use Rattle.std.specs.Option.{option_map}
use Rattle.deck_lexer.specs.declared.token.Token.{Token}
use Rattle.deck_lexer.specs.declared.token.TokenKind.{TokenKind}
use Rattle.deck_lexer.specs.declared.token.TokenKind.TheVariants as kinds
use Rattle.deck_lexer.specs.declared.token.LexFault.{LexFault}
use Rattle.deck_lexer.specs.declared.token.LexFault.TheVariants as faults
use Rattle.deck_lexer.specs.Bytes.{is_blank, is_digit, begins_word, continues_word, is_text_byte, is_in_line, is_sign, begins_comparison}
use Rattle.deck_lexer.specs.Tokens.{begins_comment, goes_on_as_word, closes_on_line}

-- which kind of token a byte begins, if any
abbrev pub kind_of : ℕ → TokenKind
kind_of c =
    if begins_word c then kinds.Word
    else (if is_digit c || c == 46 then kinds.Number
    else (if c == 34 then kinds.Text else (if c == 64 then kinds.Note else kinds.Sign)))

-- how many bytes a comment has up to its `*/` and with it
abbrev pub block_len : List ℕ → Option ℕ
block_len [] = None
block_len (c ∷ []) = None
block_len (c ∷ d ∷ more) = if c == 42 && d == 47 then Some 2 else option_map suc (block_len (d ∷ more))

-- a comment's line, with its end where it has one
abbrev pub line_len : List ℕ → ℕ
line_len bytes = if nat_lt (prefix_len is_in_line bytes) (length bytes) then prefix_len is_in_line bytes + 1 else prefix_len is_in_line bytes

-- the number at the front: how many bytes it has, or 0
abbrev pub with_point : ℕ → List ℕ → ℕ
with_point whole [] = whole
with_point whole (c ∷ more) =
    if c == 46 && nat_lt 0 (whole + prefix_len is_digit more) then whole + 1 + prefix_len is_digit more else whole

unfoldable pub number_len : List ℕ → ℕ
number_len bytes = with_point (prefix_len is_digit bytes) (drop (prefix_len is_digit bytes) bytes)

-- the sign at the front: how many bytes it has, or 0
abbrev pub sign_len : List ℕ → ℕ
sign_len [] = 0
sign_len (c ∷ []) = if is_sign c then 1 else 0
sign_len (c ∷ d ∷ more) = if begins_comparison c && d == 61 then 2 else (if is_sign c then 1 else 0)

abbrev pub token : TokenKind → ℕ → ℕ → Result (Option Token) LexFault
token kind at size = Ok (Some (record { kind = kind; start = at; «end» = at + size }))

unfoldable pub number_at : ℕ → List ℕ → Result (Option Token) LexFault
number_at at bytes =
    if number_len bytes == 0 then Err (faults.BadByte at)
    else (if goes_on_as_word (drop (number_len bytes) bytes) then Err (faults.BadByte (at + number_len bytes)) else token kinds.Number at (number_len bytes))

unfoldable pub sign_at : ℕ → List ℕ → Result (Option Token) LexFault
sign_at at bytes =
    if begins_comment bytes then Err (faults.OpenComment at)
    else (if sign_len bytes == 0 then Err (faults.BadByte at) else token kinds.Sign at (sign_len bytes))

-- the bytes behind a quote
unfoldable pub text_at : ℕ → List ℕ → Result (Option Token) LexFault
text_at at more =
    if closes_on_line more then
    (if slice_index more (prefix_len is_text_byte more) == 34
    then token kinds.Text at (prefix_len is_text_byte more + 2)
    else Err (faults.BadByte (at + 1 + prefix_len is_text_byte more)))
    else Err (faults.OpenText at)

abbrev pub standing_as : TokenKind → ℕ → ℕ → List ℕ → Result (Option Token) LexFault
standing_as kinds.Word at c more = token kinds.Word at (prefix_len continues_word more + 1)
standing_as kinds.Number at c more = number_at at (c ∷ more)
standing_as kinds.Text at c more = text_at at more
standing_as kinds.Sign at c more = sign_at at (c ∷ more)
standing_as kinds.Note at c more = token kinds.Note at (prefix_len is_in_line more + 1)

-- what stands at the front, where no gap does
unfoldable pub standing : ℕ → List ℕ → Result (Option Token) LexFault
standing at [] = Ok None
standing at (c ∷ more) = standing_as (kind_of c) at c more

-- how many bytes a comment has where what stands behind its `/*` has so many
abbrev pub block_part : Option ℕ → ℕ
block_part None = 0
block_part (Some n) = n + 2

-- how many bytes a comment has, from its second byte on, and one more: 0 where there is none, or it is open
abbrev pub comment_len : List ℕ → ℕ
comment_len [] = 0
comment_len (d ∷ more) = if d == 47 then line_len more + 2 else (if d == 42 then block_part (block_len more) else 0)

-- how many bytes a gap's first part has: 0 where there is none, or the comment is open
unfoldable pub part_len : List ℕ → ℕ
part_len [] = 0
part_len (c ∷ more) = if is_blank c then 1 else (if c == 47 then comment_len more else 0)
