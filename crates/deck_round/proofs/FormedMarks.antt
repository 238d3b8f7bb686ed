-- Names, numbers, files and notes of a text are formed.
use Rattle.std.proofs.Common.{◌≡◌, ℕ, ◌+◌, ◌-◌, Bool, true, false, not, ◌&&◌, List, [], ◌∷◌, ◌++◌, length, take, drop, reverse, refl, sym, ap, subst, ◌∙◌, inl, inr, arith, append-nil, append_assoc, length-append}
use Rattle.std.specs.List.{list_all, prefix_len}
use Rattle.std.proofs.lemmas.Bool.{and_parts, and_from, false≢true}
use Rattle.std.proofs.lemmas.Bool.Decides.{nat_tests}
use Rattle.std.proofs.lemmas.List.{take_at, drop_at, drop_all, reverse-append, reverse-reverse, length-reverse, take-append-drop}
use Rattle.std.proofs.lemmas.List.Folds.{length-prefix_len}
use Rattle.deck_tree.specs.Words.{is_keyword, is_name, is_file, is_whole, is_fraction, is_note, ends_note, begins_name, continues_word, is_text_byte}
use Rattle.deck_tree.specs.WellFormed.{is_formed_file, is_formed_number}
use Rattle.deck_lexer.specs.Bytes.{is_digit, is_in_line}
use Rattle.deck_lexer.specs.Tokens.{IsNumber, IsText, IsNote}
use Rattle.deck_lexer.proofs.Spans.{Stops, span_len, span_stops}
use Rattle.deck_grammar.specs.declared.kind.Kind.TheVariants as kinds
use Rattle.deck_grammar.specs.Lexemes.{lexeme, file_of, number_of, note_text, without_quotes, without_first, without_last, before_point, behind_point, at_least_zero, is_zero, is_no_point, is_note_blank}
use Rattle.deck_round.proofs.Marks.{quotes_off, digits_no_point, EndsOutside}

all_front : (test : ℕ → Bool) (a b : List ℕ) → list_all test (a ++ b) ≡ true → list_all test a ≡ true
all_front test [] b all = refl
all_front test (x ∷ a) b all =
    let both = and_parts (test x) (list_all test (a ++ b)) all in
    and_from (test x) (list_all test a) both.0 (all_front test a b both.1)

all_back : (test : ℕ → Bool) (a b : List ℕ) → list_all test (a ++ b) ≡ true → list_all test b ≡ true
all_back test [] b all = all
all_back test (x ∷ a) b all = all_back test a b (and_parts (test x) (list_all test (a ++ b)) all).1

all_dropped : (test : ℕ → Bool) (n : ℕ) (those : List ℕ) → list_all test those ≡ true → list_all test (drop n those) ≡ true
all_dropped test n those all = all_back test (take n those) (drop n those) (ap (list_all test) (take-append-drop n those) ∙ all)

ends_so : (test : ℕ → Bool) (those : List ℕ) (d : ℕ) → test d ≡ false → EndsOutside test (those ++ d ∷ [])
ends_so test [] d fails = fails
ends_so test (c ∷ []) d fails = fails
ends_so test (c ∷ e ∷ more) d fails = ends_so test (e ∷ more) d fails

turned_ends : (test : ℕ → Bool) (q : List ℕ) → Stops test q → EndsOutside test (reverse q)
turned_ends test [] stops = tt
turned_ends test (d ∷ q) stops = subst (EndsOutside test) (sym (reverse-append (d ∷ []) q)) (ends_so test (reverse q) d stops)

-- what is left when the last bytes that pass are taken off
record Trimmed (test : ℕ → Bool) (those : List ℕ) : Type 0 where
  off : List ℕ
  whole : those ≡ without_last test those ++ off
  ends : EndsOutside test (without_last test those)

trimmed : (test : ℕ → Bool) (those : List ℕ) → Trimmed test those
trimmed test those =
    let n = prefix_len test (reverse those) in
    let p = take n (reverse those) in
    let q = drop n (reverse those) in
    let turned : those ≡ reverse q ++ reverse p = sym (reverse-reverse those) ∙ ap reverse (sym (take-append-drop n (reverse those))) ∙ reverse-append p q in
    let front : length p ≡ n = length-prefix_len test (reverse those) in
    let size : length (reverse q) ≡ length those - n =
    omega (arith, front, length-reverse p, ap length turned, length-append (reverse q) (reverse p)) in
    let left : without_last test those ≡ reverse q = ap (take (length those - n)) turned ∙ take_at (reverse q) (reverse p) (length those - n) size in
    record {
      off = reverse p;
      whole = turned ∙ ap (λ (t : List ℕ). t ++ reverse p) (sym left);
      ends = subst (EndsOutside test) (sym left) (turned_ends test q (span_stops test (reverse those)));
    }

fraction_by : (fraction : List ℕ) → list_all is_digit fraction ≡ true → EndsOutside is_zero fraction → is_fraction fraction ≡ true
fraction_by [] digits ends = refl
fraction_by (d ∷ []) digits ends = and_from (is_digit d) (not (is_zero d)) (and_parts (is_digit d) true digits).0 (ap not ends)
fraction_by (d ∷ e ∷ more) digits ends =
    let both = and_parts (is_digit d) (list_all is_digit (e ∷ more)) digits in
    and_from (is_digit d) (is_fraction (e ∷ more)) both.0 (fraction_by (e ∷ more) both.1 ends)

fraction_formed : (fraction : List ℕ) → list_all is_digit fraction ≡ true → is_fraction (without_last is_zero fraction) ≡ true
fraction_formed fraction digits =
    let cut = trimmed is_zero fraction in
    fraction_by (without_last is_zero fraction) (all_front is_digit (without_last is_zero fraction) cut.off (ap (list_all is_digit) (sym cut.whole) ∙ digits)) cut.ends

whole_by : (those : List ℕ) → list_all is_digit those ≡ true → Stops is_zero those → is_whole (at_least_zero those) ≡ true
whole_by [] digits stops = refl
whole_by (d ∷ []) digits stops = (and_parts (is_digit d) true digits).0
whole_by (d ∷ e ∷ more) digits stops =
    let both = and_parts (is_digit d) (list_all is_digit (e ∷ more)) digits in
    and_from (is_digit d && not (is_zero d)) (list_all is_digit (e ∷ more)) (and_from (is_digit d) (not (is_zero d)) both.0 (ap not stops)) both.1

whole_formed : (whole : List ℕ) → list_all is_digit whole ≡ true → is_whole (at_least_zero (without_first is_zero whole)) ≡ true
whole_formed whole digits = whole_by (without_first is_zero whole) (all_dropped is_digit (prefix_len is_zero whole) whole digits) (span_stops is_zero whole)

before_is : (whole rest : List ℕ) → list_all is_digit whole ≡ true → Stops is_no_point rest → prefix_len is_no_point (whole ++ rest) ≡ length whole
before_is whole rest digits stops = span_len is_no_point whole rest (digits_no_point whole digits) stops

number_by : (at : ℕ) (bytes whole rest fraction : List ℕ) → bytes ≡ whole ++ rest → list_all is_digit whole ≡ true → list_all is_digit fraction ≡ true → Stops is_no_point rest
    → drop (length whole + 1) (whole ++ rest) ≡ fraction → is_formed_number (number_of (lexeme kinds.Number at bytes)) ≡ true
number_by at bytes whole rest fraction is digits more stops behind =
    let point : prefix_len is_no_point bytes ≡ length whole = ap (prefix_len is_no_point) is ∙ before_is whole rest digits stops in
    let before : before_point bytes ≡ whole = ap (λ (n : ℕ). take n bytes) point ∙ ap (take (length whole)) is ∙ take_at whole rest (length whole) refl in
    let back : behind_point bytes ≡ fraction = ap (λ (n : ℕ). drop (n + 1) bytes) point ∙ ap (drop (length whole + 1)) is ∙ behind in
    and_from (is_whole (at_least_zero (without_first is_zero (before_point bytes)))) (is_fraction (without_last is_zero (behind_point bytes)))
    (ap (λ (w : List ℕ). is_whole (at_least_zero (without_first is_zero w))) before ∙ whole_formed whole digits)
    (ap (λ (f : List ℕ). is_fraction (without_last is_zero f)) back ∙ fraction_formed fraction more)

pub number_formed : (at : ℕ) (bytes : List ℕ) → IsNumber bytes → is_formed_number (number_of (lexeme kinds.Number at bytes)) ≡ true
number_formed at bytes (whole, fraction, digits, more, inl plain) =
    number_by at bytes whole [] [] (plain.0 ∙ sym (append-nil whole)) digits refl tt (drop_all (length whole + 1) (whole ++ []) (omega (arith, length-append whole [])))
number_formed at bytes (whole, fraction, digits, more, inr point) =
    number_by at bytes whole (46 ∷ fraction) fraction point.0 digits more refl
    (ap (drop (length whole + 1)) (sym (append_assoc whole (46 ∷ []) fraction)) ∙ drop_at (whole ++ 46 ∷ []) fraction (length whole + 1) (omega (arith, length-append whole (46 ∷ []))))

pub text_formed : (at : ℕ) (bytes : List ℕ) → IsText bytes → is_formed_file (file_of (lexeme kinds.Text at bytes)) ≡ true
text_formed at bytes (body, whole, fine) = ap is_file (ap without_quotes whole ∙ quotes_off body) ∙ fine

name_text : (c : ℕ) → continues_word c ≡ true → is_text_byte c ≡ true
name_text c is = grind (arith, nat_tests)

first_text : (c : ℕ) → begins_name c ≡ true → is_text_byte c ≡ true
first_text c is = grind (arith, nat_tests)

names_text : (more : List ℕ) → list_all continues_word more ≡ true → is_file more ≡ true
names_text [] all = refl
names_text (c ∷ more) all =
    let both = and_parts (continues_word c) (list_all continues_word more) all in
    and_from (is_text_byte c) (is_file more) (name_text c both.0) (names_text more both.1)

pub name_file : (bytes : List ℕ) → is_name bytes ≡ true → is_file bytes ≡ true
name_file [] is = absurd (false≢true is)
name_file (c ∷ more) is =
    let outer = and_parts (begins_name c && list_all continues_word more) (not (is_keyword (c ∷ more))) is in
    let inner = and_parts (begins_name c) (list_all continues_word more) outer.0 in
    and_from (is_text_byte c) (is_file more) (first_text c inner.0) (names_text more inner.1)

ends_by : (note : List ℕ) → EndsOutside is_note_blank note → ends_note note ≡ true
ends_by [] ends = refl
ends_by (c ∷ []) ends = ap not ends
ends_by (c ∷ d ∷ more) ends = ends_by (d ∷ more) ends

note_by : (note off : List ℕ) → list_all is_in_line note ≡ true → EndsOutside is_note_blank note → Stops is_note_blank (note ++ off) → is_note note ≡ true
note_by [] off line ends stops = refl
note_by (c ∷ more) off line ends stops =
    and_from (not (is_note_blank c) && ends_note (c ∷ more)) (list_all is_in_line (c ∷ more)) (and_from (not (is_note_blank c)) (ends_note (c ∷ more)) (ap not stops) (ends_by (c ∷ more) ends)) line

pub note_formed : (bytes : List ℕ) → IsNote bytes → is_note (note_text bytes) ≡ true
note_formed bytes (body, whole, line) =
    let first = without_first is_note_blank body in
    let cut = trimmed is_note_blank first in
    let kept : list_all is_in_line first ≡ true = all_dropped is_in_line (prefix_len is_note_blank body) body line in
    ap (λ (b : List ℕ). is_note (note_text b)) whole
    ∙ note_by (without_last is_note_blank first) cut.off (all_front is_in_line (without_last is_note_blank first) cut.off (ap (list_all is_in_line) (sym cut.whole) ∙ kept)) cut.ends
    (subst (Stops is_note_blank) cut.whole (span_stops is_note_blank body))
