-- The bytes that blanks and tokens are made of.
use Rattle.std.specs.Prelude.{ℕ, ◌&&◌, ◌||◌, ◌==◌, nat_le, Bool, not}
use Rattle.std.specs.Char.{is_ascii_alphabetic, is_ascii_alphanumeric, is_ascii_digit}

-- space, tab, LF, form feed and CR
abbrev pub is_blank : ℕ → Bool
is_blank c = c == 32 || c == 9 || c == 10 || c == 12 || c == 13

abbrev pub is_digit : ℕ → Bool
is_digit = is_ascii_digit

-- a letter, `_` or `#`
abbrev pub begins_word : ℕ → Bool
begins_word c = is_ascii_alphabetic c || c == 95 || c == 35

-- a letter, a digit, `_`, `.` or `$`
abbrev pub continues_word : ℕ → Bool
continues_word c = is_ascii_alphanumeric c || c == 95 || c == 46 || c == 36

-- printable, and no quote
abbrev pub is_text_byte : ℕ → Bool
is_text_byte c = nat_le 32 c && nat_le c 126 && not (c == 34)

-- any but LF
abbrev pub is_in_line : ℕ → Bool
is_in_line c = not (c == 10)

-- `{ } ( ) [ ] = < > + - * / % ^`
abbrev pub is_sign : ℕ → Bool
is_sign c =
    c == 123 || c == 125 || c == 40 || c == 41 || c == 91 || c == 93 || c == 61 || c == 60 || c == 62 || c == 43 || c == 45
    || c == 42 || c == 47 || c == 37 || c == 94

-- `=`, `<`, `>` and `!`, behind which `=` makes one sign with it
abbrev pub begins_comparison : ℕ → Bool
begins_comparison c = c == 61 || c == 60 || c == 62 || c == 33
