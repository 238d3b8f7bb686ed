-- Working words of reading a line from left to right: a function for each part, which gives its value and the bytes after it.
use Rattle.std.specs.Prelude.{◌≡◌, ℕ, ◌&&◌, ◌||◌, ◌==◌, nat_lt, nat_le, Bool, not, List, length, slice_index, take, drop, Option, Some, None, if◌then◌else◌}
use Rattle.std.specs.Char.{is_ascii_digit}
use Rattle.std.specs.List.{prefix_len}
use Rattle.std.specs.Str.{bytes_eq}
use Rattle.std.specs.Str.Parse.{digits_value}
use Rattle.list_facts.specs.Attempts.{◌>>=◌}
use Rattle.ledger_history.specs.declared.event.Event.TheVariants.{Claim, Charge, Publish, Release}
use Rattle.trace_line.specs.declared.line.Line.{Line}
use Rattle.trace_line.specs.declared.line.Line.TheVariants as lines
use Rattle.trace_line.specs.declared.word.Word.{Word}
use Rattle.trace_line.specs.declared.word.Word.TheVariants as words
use Rattle.trace_line.specs.Lines.{title, before_operations, before_workers, before_budget, before_cost, before_claim, before_charge, before_publish, before_release, last_line, space, line_feed}

-- What a function returned, seen by view, is what reading gives.
abbrev pub Gives : {X Y : Type 0} → (X → Y) → Option X → Option Y → Type 0
Gives view None read = read ≡ None
Gives view (Some x) read = read ≡ Some (view x)

-- ---- words

-- the bytes after these words
unfoldable pub after_words : List ℕ → List ℕ → Option (List ℕ)
after_words words bytes = if bytes_eq (take (length words) bytes) words then Some (drop (length words) bytes) else None

-- the word where the bytes after it were found, and else what else there is
abbrev pub word_or : Word → Option (List ℕ) → Option (Word × List ℕ) → Option (Word × List ℕ)
word_or word (Some rest) others = Some (word, rest)
word_or word None others = others

unfoldable pub word_of_header : List ℕ → Option (Word × List ℕ)
word_of_header bytes =
    word_or words.Cost (after_words before_cost bytes)
    (word_or words.Title (after_words title bytes)
    (word_or words.Operations (after_words before_operations bytes)
    (word_or words.Workers (after_words before_workers bytes)
    (word_or words.Budget (after_words before_budget bytes) None))))

unfoldable pub word_at : List ℕ → Option (Word × List ℕ)
word_at bytes =
    word_or words.Claim (after_words before_claim bytes)
    (word_or words.Charge (after_words before_charge bytes)
    (word_or words.Publish (after_words before_publish bytes)
    (word_or words.Release (after_words before_release bytes)
    (word_or words.End (after_words last_line bytes) (word_of_header bytes)))))

-- ---- numbers

-- one to twenty digits, and no zero in front of another digit
unfoldable pub is_numeral : List ℕ → Bool
is_numeral digits = nat_lt 0 (length digits) && nat_le (length digits) 20 && (not (slice_index digits 0 == 48) || length digits == 1)

-- the digits at the front, and what stands after them
abbrev pub digits_at : List ℕ → List ℕ × List ℕ
digits_at bytes = (take (prefix_len is_ascii_digit bytes) bytes, drop (prefix_len is_ascii_digit bytes) bytes)

unfoldable pub numeral_at : List ℕ → Option (List ℕ × List ℕ)
numeral_at bytes = if is_numeral (digits_at bytes).0 then Some (digits_at bytes) else None

-- a number of at most so much
unfoldable pub number_at : ℕ → List ℕ → Option (ℕ × List ℕ)
number_at most bytes = do
  d ← numeral_at bytes
  if nat_le (digits_value 10 d.0) most then Some (digits_value 10 d.0, d.1) else None

-- a number, and these words after it
unfoldable pub number_before : ℕ → List ℕ → List ℕ → Option (ℕ × List ℕ)
number_before most words bytes = do
  n ← number_at most bytes
  rest ← after_words words n.1
  Some (n.0, rest)

-- the greatest numbers of 32 and of 64 bits
abbrev pub most_32 : ℕ
most_32 = 4294967295

abbrev pub most_64 : ℕ
most_64 = 18446744073709551615

-- ---- the numbers of a line

unfoldable pub two_at : ℕ → List ℕ → Option (ℕ × ℕ × List ℕ)
two_at most bytes = do
  a ← number_before most_32 space bytes
  b ← number_before most line_feed a.1
  Some (a.0, b.0, b.1)

unfoldable pub three_at : ℕ → List ℕ → Option (ℕ × ℕ × ℕ × List ℕ)
three_at most bytes = do
  a ← number_before most_32 space bytes
  b ← two_at most a.1
  Some (a.0, b.0, b.1, b.2)

-- what stands after each word
unfoldable pub body_at : Word → List ℕ → Option (Line × List ℕ)
body_at words.Title bytes = Some (lines.Title, bytes)
body_at words.Operations bytes = do
  n ← number_before most_32 line_feed bytes
  Some (lines.Operations n.0, n.1)
body_at words.Workers bytes = do
  n ← number_before most_32 line_feed bytes
  Some (lines.Workers n.0, n.1)
body_at words.Budget bytes = do
  n ← number_before most_64 line_feed bytes
  Some (lines.Budget n.0, n.1)
body_at words.Cost bytes = do
  n ← two_at most_64 bytes
  Some (lines.Cost n.0 n.1, n.2)
body_at words.Claim bytes = do
  n ← two_at most_32 bytes
  Some (lines.Step (Claim n.0 n.1), n.2)
body_at words.Charge bytes = do
  n ← three_at most_64 bytes
  Some (lines.Step (Charge n.0 n.1 n.2), n.3)
body_at words.Publish bytes = do
  n ← two_at most_32 bytes
  Some (lines.Step (Publish n.0 n.1), n.2)
body_at words.Release bytes = do
  n ← three_at most_32 bytes
  Some (lines.Step (Release n.0 n.1 n.2), n.3)
body_at words.End bytes = Some (lines.End, bytes)

-- a line, with its line feed
unfoldable pub line_at : List ℕ → Option (Line × List ℕ)
line_at bytes = do
  w ← word_at bytes
  body_at w.0 w.1
