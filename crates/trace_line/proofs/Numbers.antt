-- The numbers of a line: what is read is spelled so, and what is spelled so is read again.
use Rattle.std.proofs.Common.{◌≡◌, ℕ, ◌^◌, ◌<◌, ◌≤◌, cond, leb, List, ◌++◌, Some, None, refl, sym, ap, subst, ◌∙◌, append_assoc, arith}
use Rattle.std.specs.Fmt.{decimal}
use Rattle.std.specs.Str.Parse.{digits_value}
use Rattle.std.proofs.lemmas.Bool.{leb-true, le-leb}
use Rattle.std.proofs.lemmas.Fmt.{decimal-digits_value, digits_value-decimal}
use Rattle.std.proofs.lemmas.Option.{cond_some, same_Some}
use Rattle.list_facts.specs.Attempts.{◌>>=◌}
use Rattle.list_facts.proofs.Attempts.{found_by}
use Rattle.list_facts.proofs.Texts.{numerals}
use Rattle.trace_line.specs.Lines.{space, line_feed, one_number, two_numbers, three_numbers}
use Rattle.trace_line.specs.Working.Reading.{after_words, numeral_at, number_at, number_before, two_at, three_at, most_32}
use Rattle.trace_line.proofs.Digits.{after_takes, after_again, NoDigit, numeral_takes, numeral_again}

-- ---- one number

-- the number, and what follows it
pub record TakesNumber (most : ℕ) (bytes : List ℕ) (n : ℕ) (rest : List ℕ) : Type 0 where
  pub parts : bytes ≡ decimal n ++ rest
  pub small : n ≤ most

number_takes : (most : ℕ) (bytes : List ℕ) (n : ℕ) (rest : List ℕ) → most < 2 ^ 64 → number_at most bytes ≡ Some (n, rest) → TakesNumber most bytes n rest
unfolding number_at
number_takes most bytes n rest wide e =
    let b = found_by (numeral_at bytes) (λ d. cond (leb (digits_value 10 d.0) most) (Some (digits_value 10 d.0, d.1)) None) (n, rest) e in
    let g = cond_some (leb (digits_value 10 b.0.0) most) (digits_value 10 b.0.0, b.0.1) (n, rest) b.2 in
    let t = numeral_takes bytes b.0.0 b.0.1 b.1 in
    let small : digits_value 10 b.0.0 ≤ most = leb-true (digits_value 10 b.0.0) most g.0 in
    let plain : decimal (digits_value 10 b.0.0) ≡ b.0.0 = decimal-digits_value numerals b.0.0 t.digits t.some t.lone (omega arith) in
    subst (λ (y : ℕ × List ℕ). TakesNumber most bytes y.0 y.1) g.1
    (record { parts = t.parts ∙ ap (λ (x : List ℕ). x ++ b.0.1) (sym plain); small = small })

number_again : (most n : ℕ) (rest : List ℕ) → most < 2 ^ 64 → n ≤ most → NoDigit rest → number_at most (decimal n ++ rest) ≡ Some (n, rest)
unfolding number_at
number_again most n rest wide small stops =
    rw (numeral_again n rest (omega arith) stops, digits_value-decimal numerals n (omega arith), le-leb n most small) refl

pub before_takes : (most : ℕ) (words bytes : List ℕ) (n : ℕ) (rest : List ℕ) → most < 2 ^ 64 → number_before most words bytes ≡ Some (n, rest)
    → (bytes ≡ decimal n ++ (words ++ rest)) × (n ≤ most)
unfolding number_before
before_takes most words bytes n rest wide e =
    let a = found_by (number_at most bytes) (λ d. after_words words d.1 >>= λ r. Some (d.0, r)) (n, rest) e in
    let b = found_by (after_words words a.0.1) (λ r. Some (a.0.0, r)) (n, rest) a.2 in
    let t = number_takes most bytes a.0.0 a.0.1 wide a.1 in
    let w : a.0.1 ≡ words ++ b.0 = after_takes words a.0.1 b.0 b.1 in
    subst (λ (y : ℕ × List ℕ). (bytes ≡ decimal y.0 ++ (words ++ y.1)) × (y.0 ≤ most)) (same_Some (a.0.0, b.0) (n, rest) b.2)
    (t.parts ∙ ap (λ (x : List ℕ). decimal a.0.0 ++ x) w, t.small)

pub before_again : (most : ℕ) (words : List ℕ) (n : ℕ) (rest : List ℕ) → most < 2 ^ 64 → n ≤ most → NoDigit (words ++ rest)
    → number_before most words (decimal n ++ (words ++ rest)) ≡ Some (n, rest)
unfolding number_before
before_again most words n rest wide small stops = rw (number_again most n (words ++ rest) wide small stops, after_again words rest) refl

no_digit_in_space : (rest : List ℕ) → NoDigit (space ++ rest)
unfolding space
no_digit_in_space rest = refl

no_digit_in_feed : (rest : List ℕ) → NoDigit (line_feed ++ rest)
unfolding line_feed
no_digit_in_feed rest = refl

-- ---- one, two and three numbers of a line

pub one_takes : (most : ℕ) (bytes : List ℕ) (n : ℕ) (rest : List ℕ) → most < 2 ^ 64 → number_before most line_feed bytes ≡ Some (n, rest)
    → (bytes ≡ one_number n ++ rest) × (n ≤ most)
one_takes most bytes n rest wide e =
    let t = before_takes most line_feed bytes n rest wide e in
    (t.0 ∙ sym (append_assoc (decimal n) line_feed rest), t.1)

pub one_again : (most n : ℕ) (rest : List ℕ) → most < 2 ^ 64 → n ≤ most → number_before most line_feed (one_number n ++ rest) ≡ Some (n, rest)
one_again most n rest wide small =
    ap (number_before most line_feed) (append_assoc (decimal n) line_feed rest) ∙ before_again most line_feed n rest wide small (no_digit_in_feed rest)

-- the texts of the numbers, parted at each number
two_parted : (a b : ℕ) (rest : List ℕ) → two_numbers a b ++ rest ≡ decimal a ++ (space ++ (one_number b ++ rest))
two_parted a b rest = append_assoc (decimal a) (space ++ one_number b) rest ∙ ap (λ (x : List ℕ). decimal a ++ x) (append_assoc space (one_number b) rest)

three_parted : (a b c : ℕ) (rest : List ℕ) → three_numbers a b c ++ rest ≡ decimal a ++ (space ++ (two_numbers b c ++ rest))
three_parted a b c rest = append_assoc (decimal a) (space ++ two_numbers b c) rest ∙ ap (λ (x : List ℕ). decimal a ++ x) (append_assoc space (two_numbers b c) rest)

pub record TakesTwo (most : ℕ) (bytes : List ℕ) (a b : ℕ) (rest : List ℕ) : Type 0 where
  pub parts : bytes ≡ two_numbers a b ++ rest
  pub first : a ≤ most_32
  pub second : b ≤ most

pub two_takes : (most : ℕ) (bytes : List ℕ) (y : ℕ × ℕ × List ℕ) → most < 2 ^ 64 → two_at most bytes ≡ Some y → TakesTwo most bytes y.0 y.1 y.2
unfolding two_at
two_takes most bytes y wide e =
    let p = found_by (number_before most_32 space bytes) (λ a. number_before most line_feed a.1 >>= λ b. Some (a.0, b.0, b.1)) y e in
    let q = found_by (number_before most line_feed p.0.1) (λ b. Some (p.0.0, b.0, b.1)) y p.2 in
    let a = before_takes most_32 space bytes p.0.0 p.0.1 (omega arith) p.1 in
    let b = one_takes most p.0.1 q.0.0 q.0.1 wide q.1 in
    subst (λ (y : ℕ × ℕ × List ℕ). TakesTwo most bytes y.0 y.1 y.2) (same_Some (p.0.0, q.0.0, q.0.1) y q.2)
    (record {
      parts = a.0 ∙ ap (λ (x : List ℕ). decimal p.0.0 ++ (space ++ x)) b.0 ∙ sym (two_parted p.0.0 q.0.0 q.0.1);
      first = a.1;
      second = b.1;
    })

pub two_again : (most a b : ℕ) (rest : List ℕ) → most < 2 ^ 64 → a ≤ most_32 → b ≤ most → two_at most (two_numbers a b ++ rest) ≡ Some (a, b, rest)
unfolding two_at
two_again most a b rest wide p q =
    ap (λ (x : List ℕ). number_before most_32 space x >>= λ n. number_before most line_feed n.1 >>= λ m. Some (n.0, m.0, m.1)) (two_parted a b rest)
    ∙ rw (before_again most_32 space a (one_number b ++ rest) (omega arith) p (no_digit_in_space (one_number b ++ rest)), one_again most b rest wide q) refl

pub record TakesThree (most : ℕ) (bytes : List ℕ) (a b c : ℕ) (rest : List ℕ) : Type 0 where
  pub parts : bytes ≡ three_numbers a b c ++ rest
  pub first : a ≤ most_32
  pub second : b ≤ most_32
  pub third : c ≤ most

pub three_takes : (most : ℕ) (bytes : List ℕ) (y : ℕ × ℕ × ℕ × List ℕ) → most < 2 ^ 64 → three_at most bytes ≡ Some y → TakesThree most bytes y.0 y.1 y.2 y.3
unfolding three_at
three_takes most bytes y wide e =
    let p = found_by (number_before most_32 space bytes) (λ a. two_at most a.1 >>= λ b. Some (a.0, b.0, b.1, b.2)) y e in
    let q = found_by (two_at most p.0.1) (λ b. Some (p.0.0, b.0, b.1, b.2)) y p.2 in
    let a = before_takes most_32 space bytes p.0.0 p.0.1 (omega arith) p.1 in
    let b = two_takes most p.0.1 q.0 wide q.1 in
    subst (λ (y : ℕ × ℕ × ℕ × List ℕ). TakesThree most bytes y.0 y.1 y.2 y.3) (same_Some (p.0.0, q.0.0, q.0.1, q.0.2) y q.2)
    (record {
      parts = a.0 ∙ ap (λ (x : List ℕ). decimal p.0.0 ++ (space ++ x)) b.parts ∙ sym (three_parted p.0.0 q.0.0 q.0.1 q.0.2);
      first = a.1;
      second = b.first;
      third = b.second;
    })

pub three_again : (most a b c : ℕ) (rest : List ℕ) → most < 2 ^ 64 → a ≤ most_32 → b ≤ most_32 → c ≤ most
    → three_at most (three_numbers a b c ++ rest) ≡ Some (a, b, c, rest)
unfolding three_at
three_again most a b c rest wide p q r =
    ap (λ (x : List ℕ). number_before most_32 space x >>= λ n. two_at most n.1 >>= λ m. Some (n.0, m.0, m.1, m.2)) (three_parted a b c rest)
    ∙ rw (before_again most_32 space a (two_numbers b c ++ rest) (omega arith) p (no_digit_in_space (two_numbers b c ++ rest)), two_again most b c rest wide q r) refl
