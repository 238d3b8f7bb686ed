-- Names, numbers, files and notes: each is one token, and says what the tree has.
use Rattle.std.proofs.Common.{◌≡◌, ℕ, ◌+◌, ◌-◌, Bool, true, false, ◌||◌, not, eqb, List, [], ◌∷◌, ◌++◌, length, take, drop, reverse, map, refl, sym, ap, subst, ◌∙◌, inl, inr, arith, append_assoc, append-nil, length-append}
use Rattle.std.specs.List.{list_all, list_any, prefix_len}
use Rattle.std.specs.Char.{is_ascii_alphabetic, to_ascii_lowercase}
use Rattle.std.specs.Str.{str_eq_ignore_ascii_case}
use Rattle.std.proofs.lemmas.Bool.{not-true, and_parts, and_from, or_left, or_parts, cases_Bool, eqb-true, ne_eqb, false≢true}
use Rattle.std.proofs.lemmas.Bool.Decides.{nat_tests}
use Rattle.std.proofs.lemmas.List.{take_at, drop_at, drop_all, reverse-append, length-reverse}
use Rattle.std.proofs.lemmas.List.Folds.{prefix_len-append}
use Rattle.std.proofs.lemmas.Slice.Eq.{bytes_eq-Decides}
use Rattle.deck_tree.specs.declared.number.Number.{Number}
use Rattle.deck_tree.specs.declared.name_at.NameAt.{NameAt}
use Rattle.deck_tree.specs.Words.{keywords, unsupported_words, is_same_word, is_keyword, is_name, is_whole, is_fraction, is_note, ends_note}
use Rattle.deck_tree.specs.WellFormed.{is_formed_file, is_formed_number}
use Rattle.deck_tree.specs.Plain.{plain_name, plain_number}
use Rattle.deck_lexer.specs.Bytes.{is_digit, begins_word, is_in_line}
use Rattle.deck_lexer.proofs.Spans.{Stops, span_len}
use Rattle.deck_grammar.specs.declared.kind.Kind.{Kind}
use Rattle.deck_grammar.specs.declared.kind.Kind.TheVariants as kinds
use Rattle.deck_grammar.specs.Lexemes.{lexeme, file_of, number_of, note_of, without_quotes, without_first, without_last, before_point, behind_point, at_least_zero, is_zero, is_no_point, is_note_blank}
use Rattle.deck_grammar.specs.Words.{lookup, keyword_rows, word_rows, word_kind}
use Rattle.deck_printer.specs.Values.{fraction_text, number_text}
use Rattle.deck_printer.specs.Canonical.{file_text, note_text}
use Rattle.deck_round.proofs.Levels.{flat_name, flat_number, flat_text, flat_note}
use Rattle.deck_round.proofs.Lexing.{Closed}
use Rattle.deck_round.proofs.Pieces.{Spot, One, word, whole_number, point_number, text, LineEnds, note}

-- ---- Names

-- a word of no row is what is said otherwise
no_row : (otherwise : Kind) (rows : List (List ℕ × Kind)) (word : List ℕ) → list_any (is_same_word word) (map (λ row. row.0) rows) ≡ false → lookup otherwise rows word ≡ otherwise
no_row otherwise [] word none = refl
no_row otherwise (row ∷ more) word none =
    let both = or_parts (is_same_word word row.0) (list_any (is_same_word word) (map (λ row. row.0) more)) none in
    let apart : str_eq_ignore_ascii_case row.0 word ≡ false = other_way row.0 word both.0 in
    rw apart (no_row otherwise more word both.1)
  where
    other_way : (a b : List ℕ) → is_same_word b a ≡ false → str_eq_ignore_ascii_case a b ≡ false
    other_way a b none =
        elim (cases_Bool (str_eq_ignore_ascii_case a b)) [
          | inl holds ↦
              let same : map to_ascii_lowercase a ≡ map to_ascii_lowercase b = (bytes_eq-Decides (map to_ascii_lowercase a) (map to_ascii_lowercase b)).0 holds in
              absurd (false≢true (sym none ∙ (bytes_eq-Decides (map to_ascii_lowercase b) (map to_ascii_lowercase a)).1 (sym same)))
          | inr fails ↦ fails
        ]

any_both : (test : List ℕ → Bool) (a b : List (List ℕ)) → list_any test a ≡ false → list_any test b ≡ false → list_any test (a ++ b) ≡ false
any_both test [] b first second = second
any_both test (x ∷ a) b first second =
    let both = or_parts (test x) (list_any test a) first in
    rw both.0 (any_both test a b both.1 second)

pub rows_words : map (λ (row : List ℕ × Kind). row.0) word_rows ≡ keywords ++ unsupported_words
unfolding word_rows keyword_rows unsupported_words keywords
rows_words = refl

no_hash : (c : ℕ) → (is_ascii_alphabetic c || eqb c 95) ≡ true → eqb c 35 ≡ false
no_hash c is = grind (arith, nat_tests)

name_kind : (c : ℕ) (more : List ℕ) → (is_ascii_alphabetic c || eqb c 95) ≡ true → is_keyword (c ∷ more) ≡ false → word_kind (c ∷ more) ≡ kinds.Name
unfolding word_kind is_keyword
name_kind c more begins none =
    let both = or_parts (list_any (is_same_word (c ∷ more)) keywords) (list_any (is_same_word (c ∷ more)) unsupported_words) none in
    let all : list_any (is_same_word (c ∷ more)) (keywords ++ unsupported_words) ≡ false = any_both (is_same_word (c ∷ more)) keywords unsupported_words both.0 both.1 in
    let rows : list_any (is_same_word (c ∷ more)) (map (λ (row : List ℕ × Kind). row.0) word_rows) ≡ false = ap (list_any (is_same_word (c ∷ more))) rows_words ∙ all in
    rw (no_hash c begins) (no_row kinds.Name word_rows (c ∷ more) rows)

pub name_one : (name : List ℕ) → is_name name ≡ true → One Closed kinds.Name name
name_one [] formed = absurd (false≢true formed)
name_one (c ∷ more) formed =
    let outer = and_parts _ (not (is_keyword (c ∷ more))) formed in
    let inner = and_parts _ _ outer.0 in
    record { spot = subst (λ (x : Kind). Spot Closed x (c ∷ more)) (name_kind c more inner.0 (not-true (is_keyword (c ∷ more)) outer.1)) (word c more (begins c inner.0) inner.1); flat = flat_name }
  where
    begins : (c : ℕ) → (is_ascii_alphabetic c || eqb c 95) ≡ true → begins_word c ≡ true
    begins c is = or_left (is_ascii_alphabetic c || eqb c 95) (eqb c 35) is

-- ---- Files

pub file_one : (file : NameAt) → is_formed_file file ≡ true → One Closed kinds.Text (file_text file)
file_one file formed = record { spot = text file.name formed; flat = flat_text }

pub quotes_off : (name : List ℕ) → without_quotes (34 ∷ (name ++ 34 ∷ [])) ≡ name
quotes_off name =
    let size : length (34 ∷ (name ++ 34 ∷ [])) - 2 ≡ length name = omega (arith, length-append name (34 ∷ [])) in
    ap (λ (n : ℕ). take n (name ++ 34 ∷ [])) size ∙ take_at name (34 ∷ []) (length name) refl

pub file_said : (file : NameAt) (at : ℕ) → plain_name (file_of (lexeme kinds.Text at (file_text file))) ≡ plain_name file
file_said file at = ap (λ (n : List ℕ). plain_name (record { at = 0; name = n })) (quotes_off file.name)

-- ---- Numbers

whole_digits : (whole : List ℕ) → is_whole whole ≡ true → list_all is_digit whole ≡ true
whole_digits [] formed = refl
whole_digits (d ∷ []) formed = and_from (is_digit d) true formed refl
whole_digits (d ∷ e ∷ more) formed =
    let outer = and_parts _ _ formed in
    let inner = and_parts _ _ outer.0 in
    and_from (is_digit d) (list_all is_digit (e ∷ more)) inner.0 outer.1

fraction_digits : (fraction : List ℕ) → is_fraction fraction ≡ true → list_all is_digit fraction ≡ true
fraction_digits [] formed = refl
fraction_digits (d ∷ []) formed = and_from (is_digit d) true (and_parts _ _ formed).0 refl
fraction_digits (d ∷ e ∷ more) formed =
    let both = and_parts (is_digit d) (is_fraction (e ∷ more)) formed in
    and_from (is_digit d) (list_all is_digit (e ∷ more)) both.0 (fraction_digits (e ∷ more) both.1)

number_by : (whole fraction : List ℕ) → is_whole whole ≡ true → is_fraction fraction ≡ true → Spot Closed kinds.Number (whole ++ fraction_text fraction)
number_by [] fraction formed more = absurd (false≢true formed)
number_by (c ∷ whole) [] formed more = subst (Spot Closed kinds.Number) (sym (append-nil (c ∷ whole))) (whole_number c whole (whole_digits (c ∷ whole) formed))
number_by (c ∷ whole) (d ∷ fraction) formed more = point_number c whole (d ∷ fraction) (whole_digits (c ∷ whole) formed) (fraction_digits (d ∷ fraction) more)

pub number_one : (number : Number) → is_formed_number number ≡ true → One Closed kinds.Number (number_text number)
number_one number formed =
    let both = and_parts (is_whole number.whole) (is_fraction number.fraction) formed in
    record { spot = number_by number.whole number.fraction both.0 both.1; flat = flat_number }

-- the last of the bytes doesn't pass the test
abbrev pub EndsOutside : (ℕ → Bool) → List ℕ → Type 0
EndsOutside test [] = Unit {0}
EndsOutside test (c ∷ []) = test c ≡ false
EndsOutside test (c ∷ d ∷ more) = EndsOutside test (d ∷ more)

none_at_the_end : (test : ℕ → Bool) (those : List ℕ) → EndsOutside test those → prefix_len test (reverse those) ≡ 0
none_at_the_end test [] ends = refl
none_at_the_end test (c ∷ []) ends = rw ends refl
none_at_the_end test (c ∷ d ∷ more) ends =
    let turned : reverse (c ∷ d ∷ more) ≡ reverse (d ∷ more) ++ c ∷ [] = reverse-append (c ∷ []) (d ∷ more) in
    let none = none_at_the_end test (d ∷ more) ends in
    let some : eqb (prefix_len test (reverse (d ∷ more))) (length (reverse (d ∷ more))) ≡ false = ap (λ (n : ℕ). eqb n (length (reverse (d ∷ more)))) none ∙ ap (eqb 0) (length-reverse (d ∷ more)) ∙ ne_eqb 0 (length (d ∷ more)) (λ e. omega arith) in
    ap (prefix_len test) turned ∙ prefix_len-append test (reverse (d ∷ more)) (c ∷ []) ∙ rw some none

kept : (test : ℕ → Bool) (those : List ℕ) → EndsOutside test those → without_last test those ≡ those
kept test those ends =
    let size : length those - prefix_len test (reverse those) ≡ length those = omega (arith, none_at_the_end test those ends) in
    ap (λ (n : ℕ). take n those) size ∙ ap (take (length those)) (sym (append-nil those)) ∙ take_at those [] (length those) refl

fraction_ends : (fraction : List ℕ) → is_fraction fraction ≡ true → EndsOutside is_zero fraction
fraction_ends [] formed = tt
fraction_ends (d ∷ []) formed = not-true (is_zero d) (and_parts (is_digit d) (not (is_zero d)) formed).1
fraction_ends (d ∷ e ∷ more) formed = fraction_ends (e ∷ more) (and_parts (is_digit d) (is_fraction (e ∷ more)) formed).1

no_leading : (whole : List ℕ) → is_whole whole ≡ true → at_least_zero (without_first is_zero whole) ≡ whole
no_leading [] formed = absurd (false≢true formed)
no_leading (d ∷ []) formed =
    elim (cases_Bool (is_zero d)) [
      | inl holds ↦ rw holds (ap (λ (x : ℕ). x ∷ []) (sym (eqb-true d 48 holds)))
      | inr fails ↦ rw fails refl
    ]
no_leading (d ∷ e ∷ more) formed =
    let outer = and_parts _ _ formed in
    let inner = and_parts (is_digit d) (not (is_zero d)) outer.0 in
    rw (not-true (is_zero d) inner.1) refl

digit_no_point : (d : ℕ) → is_digit d ≡ true → is_no_point d ≡ true
digit_no_point d is = grind (arith, nat_tests)

pub digits_no_point : (digits : List ℕ) → list_all is_digit digits ≡ true → list_all is_no_point digits ≡ true
digits_no_point [] are = refl
digits_no_point (d ∷ more) are =
    let both = and_parts (is_digit d) (list_all is_digit more) are in
    and_from (is_no_point d) (list_all is_no_point more) (digit_no_point d both.0) (digits_no_point more both.1)

point_stops : (fraction : List ℕ) → Stops is_no_point (fraction_text fraction)
point_stops [] = tt
point_stops (d ∷ more) = refl

point_behind : (whole fraction : List ℕ) → drop (length whole + 1) (whole ++ fraction_text fraction) ≡ fraction
point_behind whole [] = drop_all (length whole + 1) (whole ++ []) (omega (arith, length-append whole []))
point_behind whole (d ∷ more) =
    ap (drop (length whole + 1)) (sym (append_assoc whole (46 ∷ []) (d ∷ more))) ∙ drop_at (whole ++ 46 ∷ []) (d ∷ more) (length whole + 1) (omega (arith, length-append whole (46 ∷ [])))

pub number_said : (number : Number) → is_formed_number number ≡ true → (at : ℕ) → plain_number (number_of (lexeme kinds.Number at (number_text number))) ≡ plain_number number
number_said number formed at =
    let both = and_parts (is_whole number.whole) (is_fraction number.fraction) formed in
    let digits : list_all is_no_point number.whole ≡ true = digits_no_point number.whole (whole_digits number.whole both.0) in
    let point : prefix_len is_no_point (number_text number) ≡ length number.whole = span_len is_no_point number.whole (fraction_text number.fraction) digits (point_stops number.fraction) in
    let before : before_point (number_text number) ≡ number.whole = ap (λ (n : ℕ). take n (number_text number)) point ∙ take_at number.whole (fraction_text number.fraction) (length number.whole) refl in
    let behind : behind_point (number_text number) ≡ number.fraction = ap (λ (n : ℕ). drop (n + 1) (number_text number)) point ∙ point_behind number.whole number.fraction in
    let whole : at_least_zero (without_first is_zero (before_point (number_text number))) ≡ number.whole = ap (λ (w : List ℕ). at_least_zero (without_first is_zero w)) before ∙ no_leading number.whole both.0 in
    let fraction : without_last is_zero (behind_point (number_text number)) ≡ number.fraction = ap (without_last is_zero) behind ∙ kept is_zero number.fraction (fraction_ends number.fraction both.1) in
    ap (λ (w : List ℕ). plain_number (record { at = 0; whole = w; fraction = without_last is_zero (behind_point (number_text number)) })) whole
    ∙ ap (λ (f : List ℕ). plain_number (record { at = 0; whole = number.whole; fraction = f })) fraction

-- ---- Notes

note_ends : (note : List ℕ) → ends_note note ≡ true → EndsOutside is_note_blank note
note_ends [] ends = tt
note_ends (c ∷ []) ends = not-true (is_note_blank c) ends
note_ends (c ∷ d ∷ more) ends = note_ends (d ∷ more) ends

pub note_one : (note : List ℕ) → is_note note ≡ true → One LineEnds kinds.Note (note_text note)
note_one [] formed = record { spot = note [] refl; flat = flat_note }
note_one (byte ∷ more) formed = record { spot = note (32 ∷ byte ∷ more) (and_parts _ (list_all is_in_line (byte ∷ more)) formed).1; flat = flat_note }

pub note_said : (note : List ℕ) → is_note note ≡ true → (at : ℕ) → note_of (lexeme kinds.Note at (note_text note)) ≡ note
note_said [] formed at = refl
note_said (byte ∷ more) formed at =
    let outer = and_parts _ (list_all is_in_line (byte ∷ more)) formed in
    let inner = and_parts (not (is_note_blank byte)) (ends_note (byte ∷ more)) outer.0 in
    let one : prefix_len is_note_blank (32 ∷ byte ∷ more) ≡ 1 = rw (not-true (is_note_blank byte) inner.0) refl in
    ap (λ (n : ℕ). without_last is_note_blank (drop n (32 ∷ byte ∷ more))) one ∙ kept is_note_blank (byte ∷ more) (note_ends (byte ∷ more) inner.1)
