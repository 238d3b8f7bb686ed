-- What stands at the front of some bytes: what is computed stands there, and nothing else does.
use Rattle.std.proofs.Common.{◌≡◌, ℕ, suc, zero, ◌+◌, ◌<◌, ◌≤◌, inl, inr, Bool, true, false, cond, eqb, ◌||◌, List, [], ◌∷◌, ◌++◌, length, take, drop, get_or, Option, Some, None, Err, refl, sym, ap, subst, ◌∙◌, arith, append_assoc, length-append}
use Rattle.std.specs.List.{prefix_len}
use Rattle.std.proofs.Math.Seq.{get_or-append_seam}
use Rattle.std.proofs.lemmas.Bool.{and_parts, and_left, or_parts, or_cases, eqb-true, eqb-false, ne_eqb, false≢true, both_ways, cases_Bool}
use Rattle.std.proofs.lemmas.List.{drop_at}
use Rattle.std.proofs.lemmas.List.Folds.{length-prefix_len}
use Rattle.deck_lexer.specs.declared.token.TokenKind.{TokenKind}
use Rattle.deck_lexer.specs.declared.token.TokenKind.TheVariants as kinds
use Rattle.deck_lexer.specs.declared.token.LexFault.TheVariants as faults
use Rattle.deck_lexer.specs.Bytes.{is_blank, is_digit, begins_word, continues_word, is_text_byte, is_in_line}
use Rattle.deck_lexer.specs.Tokens.{IsSpelling, IsWord, IsNumber, IsText, IsNote, IsSign, begins_comment, goes_on_as_word, MayFollow, IsLongest, closes_on_line, StandsAt}
use Rattle.deck_lexer.specs.Working.Reading.{kind_of, block_len, block_part, part_len, number_len, sign_len, token, number_at, sign_at, text_at, standing_as, standing}
use Rattle.deck_lexer.proofs.Spans.{Stops, span_passes, span_stops, span_len, span_holds, span_parts}
use Rattle.deck_lexer.proofs.Blocks.{block_none}
use Rattle.deck_lexer.proofs.FirstBytes.{kind_at_front}
use Rattle.deck_lexer.proofs.Lens.{number_takes, number_most, sign_takes, sign_most, closes_behind}

-- ---- First bytes

kinds_differ : (c d : ℕ) → (kind_of c ≡ kind_of d → ⊥) → c ≡ d → ⊥
kinds_differ c d apart same = apart (ap kind_of same)

pub no_comment_from : (c : ℕ) (more : List ℕ) → (c ≡ 47 → ⊥) → begins_comment (c ∷ more) ≡ false
no_comment_from c [] apart = refl
no_comment_from c (d ∷ more) apart = and_left (eqb c 47) (eqb d 47 || eqb d 42) (ne_eqb c 47 apart)

-- what no gap's part begins
pub no_part : (c : ℕ) (more : List ℕ) → is_blank c ≡ false → begins_comment (c ∷ more) ≡ false → part_len (c ∷ more) ≡ 0
unfolding part_len
no_part c [] no_blank no_comment = rw no_blank (elim (cases_Bool (eqb c 47)) as (λ _. ◌≡◌ {A = ℕ} (cond (eqb c 47) 0 0) 0) [ inl is ↦ rw is refl | inr is ↦ rw is refl ])
no_part c (d ∷ more) no_blank no_comment =
    elim (cases_Bool (eqb c 47)) as (λ _. part_len (c ∷ d ∷ more) ≡ 0) [
      | inl slash ↦
          let neither : (eqb d 47 || eqb d 42) ≡ false = rw slash at no_comment in
          let parts = or_parts (eqb d 47) (eqb d 42) neither in
          rw (no_blank, slash, parts.0, parts.1) refl
      | inr other ↦ rw (no_blank, other) refl
    ]

pub not_blank : (c : ℕ) (more : List ℕ) → part_len (c ∷ more) ≡ 0 → is_blank c ≡ false
unfolding part_len
not_blank c more none =
    elim (cases_Bool (is_blank c)) as (λ _. is_blank c ≡ false) [
      | inl blank ↦ let one : ◌≡◌ {A = ℕ} 1 0 = rw blank at none in absurd (omega arith)
      | inr other ↦ other
    ]

-- ---- No spelling is longer

longest_of : (kind : TokenKind) (c : ℕ) (more : List ℕ) (n : ℕ) → kind_of c ≡ kind
    → ((s behind : List ℕ) → c ∷ more ≡ s ++ behind → IsSpelling kind s → length s ≤ n) → IsLongest (c ∷ more) n
longest_of kind c more n is each = λ other s behind whole spelled.
    let same : other ≡ kind = sym (kind_at_front other c more s behind whole spelled) ∙ is in
    each s behind whole (subst (λ (k : TokenKind). IsSpelling k s) same spelled)

pub word_most : (c : ℕ) (more s behind : List ℕ) → c ∷ more ≡ s ++ behind → IsWord s → length s ≤ prefix_len continues_word more + 1
word_most c more s behind whole (d, m, is, begins, continues) =
    let text : c ∷ more ≡ d ∷ (m ++ behind) = whole ∙ ap (λ (t : List ℕ). t ++ behind) is in
    let rest : more ≡ m ++ behind = cc in
    let size : length s ≡ suc (length m) = ap length is in
    let holds : length m ≤ prefix_len continues_word more = rw rest (span_holds continues_word m behind continues) in
    omega (arith, size, holds)

pub note_most : (c : ℕ) (more s behind : List ℕ) → c ∷ more ≡ s ++ behind → IsNote s → length s ≤ prefix_len is_in_line more + 1
note_most c more s behind whole (body, is, fine) =
    let text : c ∷ more ≡ 64 ∷ (body ++ behind) = whole ∙ ap (λ (t : List ℕ). t ++ behind) is in
    let rest : more ≡ body ++ behind = cc in
    let size : length s ≡ suc (length body) = ap length is in
    let holds : length body ≤ prefix_len is_in_line more = rw rest (span_holds is_in_line body behind fine) in
    omega (arith, size, holds)

-- a text: how far it reaches behind its first quote
pub text_is : (c : ℕ) (more s behind : List ℕ) → c ∷ more ≡ s ++ behind → IsText s
    → (length s ≡ prefix_len is_text_byte more + 2) × (get_or more (prefix_len is_text_byte more) 0 ≡ 34) × (closes_on_line more ≡ true)
text_is c more s behind whole (body, is, fine) =
    let text : c ∷ more ≡ 34 ∷ ((body ++ 34 ∷ []) ++ behind) = whole ∙ ap (λ (t : List ℕ). t ++ behind) is in
    let rest' : more ≡ (body ++ 34 ∷ []) ++ behind = cc in
    let rest : more ≡ body ++ 34 ∷ behind = rest' ∙ append_assoc body (34 ∷ []) behind in
    let len : prefix_len is_text_byte more ≡ length body = rw rest (span_len is_text_byte body (34 ∷ behind) fine refl) in
    let size : length s ≡ suc (length body + 1) = ap length is ∙ ap (λ (n : ℕ). suc n) (length-append body (34 ∷ [])) in (
      omega (arith, size, len),
      rw (len, rest) (get_or-append_seam body 34 behind 0),
      rw (rest, closes_behind body (34 ∷ behind) fine) refl,
    )

pub number_most_at : (c : ℕ) (more s behind : List ℕ) → c ∷ more ≡ s ++ behind → IsNumber s → length s ≤ number_len (c ∷ more)
number_most_at c more s behind whole is = rw whole (number_most s behind is)

pub sign_most_at : (c : ℕ) (more s behind : List ℕ) → c ∷ more ≡ s ++ behind → IsSign s → length s ≤ sign_len (c ∷ more)
sign_most_at c more s behind whole is =
    subst (λ (t : List ℕ). length s ≤ sign_len t) (sym whole) (sign_most s behind is)

-- ---- What is computed stands there

-- a token with what it is spelled by
made : (kind : TokenKind) (at n : ℕ) (bytes s behind : List ℕ) → bytes ≡ s ++ behind → IsSpelling kind s → n ≡ length s → IsLongest bytes n
    → begins_comment bytes ≡ false → MayFollow kind behind → StandsAt at bytes (token kind at n)
made kind at n bytes s behind whole is size longest no_comment follows = record {
  spelled = s;
  behind = behind;
  whole = whole;
  spelling = is;
  longest = subst (λ (k : ℕ). IsLongest bytes k) size longest;
  no_comment = no_comment;
  may_follow = follows;
  start = refl;
  «end» = ap (λ (k : ℕ). at + k) size;
}

no_slash : (c : ℕ) (kind : TokenKind) → kind_of c ≡ kind → (kind ≡ kinds.Sign → ⊥) → c ≡ 47 → ⊥
no_slash c kind is apart slash = apart (sym is ∙ ap kind_of slash)

word_stands : (at c : ℕ) (more : List ℕ) → begins_word c ≡ true → kind_of c ≡ kinds.Word → StandsAt at (c ∷ more) (standing_as kinds.Word at c more)
word_stands at c more begins is =
    let front = take (prefix_len continues_word more) more in
    let size : length front ≡ prefix_len continues_word more = length-prefix_len continues_word more in
    made kinds.Word at (prefix_len continues_word more + 1) (c ∷ more) (c ∷ front) (drop (prefix_len continues_word more) more)
    (ap (λ (t : List ℕ). c ∷ t) (span_parts continues_word more)) (c, front, refl, begins, span_passes continues_word more) (omega arith)
    (longest_of kinds.Word c more _ is (word_most c more)) (no_comment_from c more (no_slash c kinds.Word is (λ e. cc))) tt

note_stands : (at c : ℕ) (more : List ℕ) → c ≡ 64 → kind_of c ≡ kinds.Note → StandsAt at (c ∷ more) (standing_as kinds.Note at c more)
note_stands at c more mark is =
    let front = take (prefix_len is_in_line more) more in
    let size : length front ≡ prefix_len is_in_line more = length-prefix_len is_in_line more in
    made kinds.Note at (prefix_len is_in_line more + 1) (c ∷ more) (c ∷ front) (drop (prefix_len is_in_line more) more)
    (ap (λ (t : List ℕ). c ∷ t) (span_parts is_in_line more)) (front, ap (λ (x : ℕ). x ∷ front) mark, span_passes is_in_line more) (omega arith)
    (longest_of kinds.Note c more _ is (note_most c more)) (no_comment_from c more (no_slash c kinds.Note is (λ e. cc))) tt

nothing : (at c : ℕ) (more : List ℕ) → is_blank c ≡ false → (c ≡ 34 → ⊥) → begins_comment (c ∷ more) ≡ false → IsLongest (c ∷ more) 0 → StandsAt at (c ∷ more) (Err (faults.BadByte at))
nothing at c more no_blank no_quote no_comment longest =
    (0, omega arith, inl (refl, record { first = c; behind = more; whole = refl; no_blank = no_blank; no_quote = no_quote; no_comment = no_comment; no_token = longest }))

quote_apart : (c : ℕ) (kind : TokenKind) → kind_of c ≡ kind → (kind ≡ kinds.Text → ⊥) → c ≡ 34 → ⊥
quote_apart c kind is apart quote = apart (sym is ∙ ap kind_of quote)

number_there : (at c : ℕ) (more s behind : List ℕ) → c ∷ more ≡ s ++ behind → IsNumber s → number_len (c ∷ more) ≡ length s → 0 < number_len (c ∷ more)
    → kind_of c ≡ kinds.Number → StandsAt at (c ∷ more) (number_at at (c ∷ more))
unfolding number_at
number_there at c more s behind whole number size some is =
    let rest : drop (number_len (c ∷ more)) (c ∷ more) ≡ behind = ap (drop (number_len (c ∷ more))) whole ∙ drop_at s behind (number_len (c ∷ more)) (sym size) in
    let longest = longest_of kinds.Number c more (number_len (c ∷ more)) is (number_most_at c more) in
    let not_none : eqb (number_len (c ∷ more)) 0 ≡ false = ne_eqb _ 0 (λ e. omega arith) in
    elim (cases_Bool (goes_on_as_word behind)) as (λ _. StandsAt at (c ∷ more) (number_at at (c ∷ more))) [
      | inl goes ↦ rw (not_none, rest, goes)
          (number_len (c ∷ more), refl, inr (inl (record { spelled = s; behind = behind; whole = whole; spelling = number; longest = subst (λ (k : ℕ). IsLongest (c ∷ more) k) size longest; goes_on = goes; size = size })))
      | inr ends ↦ rw (not_none, rest, ends)
          (made kinds.Number at (number_len (c ∷ more)) (c ∷ more) s behind whole number size longest (no_comment_from c more (no_slash c kinds.Number is (λ e. cc))) ends)
    ]

number_stands_by : (at c : ℕ) (more : List ℕ) (n : ℕ) → number_len (c ∷ more) ≡ n → is_blank c ≡ false → kind_of c ≡ kinds.Number
    → StandsAt at (c ∷ more) (number_at at (c ∷ more))
unfolding number_at
number_stands_by at c more zero none no_blank is =
    let longest : IsLongest (c ∷ more) 0 = subst (λ (k : ℕ). IsLongest (c ∷ more) k) none (longest_of kinds.Number c more _ is (number_most_at c more)) in
    rw none (nothing at c more no_blank (quote_apart c kinds.Number is (λ e. cc)) (no_comment_from c more (no_slash c kinds.Number is (λ e. cc))) longest)
number_stands_by at c more (suc n) some no_blank is =
    let takes = number_takes (c ∷ more) (omega (arith, some)) in
    number_there at c more takes.0 takes.1 takes.2 takes.3 takes.4 (omega (arith, some)) is

no_length : (found : Option ℕ) → block_part found ≡ 0 → found ≡ None
no_length None e = refl
no_length (Some n) e = absurd (omega arith)

cons_two : (c d : ℕ) (more : List ℕ) → c ≡ 47 → d ≡ 42 → c ∷ d ∷ more ≡ 47 ∷ 42 ∷ more
cons_two c d more p q = cc

open_comment : (at c : ℕ) (more : List ℕ) → begins_comment (c ∷ more) ≡ true → part_len (c ∷ more) ≡ 0 → StandsAt at (c ∷ more) (Err (faults.OpenComment at))
unfolding part_len
open_comment at c [] begins none = absurd (false≢true begins)
open_comment at c (d ∷ more) begins none =
    let both = and_parts (eqb c 47) (eqb d 47 || eqb d 42) begins in
    let slash : c ≡ 47 = eqb-true c 47 both.0 in
    let no_blank : is_blank c ≡ false = ap is_blank slash in
    elim (cases_Bool (eqb d 47)) as (λ _. StandsAt at (c ∷ d ∷ more) (Err (faults.OpenComment at))) [
      | inl line ↦ let some : 0 < part_len (c ∷ d ∷ more) = rw (no_blank, both.0, line) (omega arith) in absurd (omega arith)
      | inr other ↦ elim (or_cases (eqb d 47) (eqb d 42) both.1) as (λ _. StandsAt at (c ∷ d ∷ more) (Err (faults.OpenComment at))) [
        | inl line ↦ absurd (both_ways (eqb d 47) other line)
        | inr star ↦
            let block : block_part (block_len more) ≡ 0 = rw (no_blank, both.0, other, star) at none in
            let is : d ≡ 42 = eqb-true d 42 star in
            (refl, (more, cons_two c d more slash is, block_none more (no_length (block_len more) block)))
      ]
    ]

sign_or_nothing : (at c : ℕ) (more : List ℕ) (n : ℕ) → sign_len (c ∷ more) ≡ n → part_len (c ∷ more) ≡ 0 → kind_of c ≡ kinds.Sign → begins_comment (c ∷ more) ≡ false
    → StandsAt at (c ∷ more) (cond (eqb (sign_len (c ∷ more)) 0) (Err (faults.BadByte at)) (token kinds.Sign at (sign_len (c ∷ more))))
sign_or_nothing at c more zero len none is other =
    let longest : IsLongest (c ∷ more) 0 = subst (λ (k : ℕ). IsLongest (c ∷ more) k) len (longest_of kinds.Sign c more _ is (sign_most_at c more)) in
    subst (λ (k : ℕ). StandsAt at (c ∷ more) (cond (eqb k 0) (Err (faults.BadByte at)) (token kinds.Sign at k))) (sym len)
    (nothing at c more (not_blank c more none) (quote_apart c kinds.Sign is (λ e. cc)) other longest)
sign_or_nothing at c more (suc n) len none is other =
    let takes = sign_takes (c ∷ more) (omega (arith, len)) in
    let longest = longest_of kinds.Sign c more (sign_len (c ∷ more)) is (sign_most_at c more) in
    let made_of = made kinds.Sign at (sign_len (c ∷ more)) (c ∷ more) takes.0 takes.1 takes.2 takes.3 takes.4 longest other tt in
    let not_none : eqb (sign_len (c ∷ more)) 0 ≡ false = ne_eqb _ 0 (λ e. omega arith) in
    subst (λ (b : Bool). StandsAt at (c ∷ more) (cond b (Err (faults.BadByte at)) (token kinds.Sign at (sign_len (c ∷ more))))) (sym not_none) made_of

sign_stands_by : (at c : ℕ) (more : List ℕ) (n : ℕ) → sign_len (c ∷ more) ≡ n → part_len (c ∷ more) ≡ 0 → kind_of c ≡ kinds.Sign
    → StandsAt at (c ∷ more) (sign_at at (c ∷ more))
unfolding sign_at
sign_stands_by at c more n len none is =
    elim (cases_Bool (begins_comment (c ∷ more))) as (λ _. StandsAt at (c ∷ more) (sign_at at (c ∷ more))) [
      | inl comment ↦ rw comment (open_comment at c more comment none)
      | inr other ↦ rw other (sign_or_nothing at c more n len none is other)
    ]

-- ---- Texts

-- behind the bytes that a text can hold, where it is closed on its line, comes a byte
text_goes_on : (more rest : List ℕ) → rest ≡ drop (prefix_len is_text_byte more) more → closes_on_line more ≡ true
    → (c : ℕ) × (behind : List ℕ) × (rest ≡ c ∷ behind) × (is_text_byte c ≡ false) × (closes_on_line (c ∷ behind) ≡ true) × (get_or more (prefix_len is_text_byte more) 0 ≡ c)
text_goes_on more [] e closes =
    let front = take (prefix_len is_text_byte more) more in
    let all : more ≡ front ++ [] = span_parts is_text_byte more ∙ ap (λ (t : List ℕ). front ++ t) (sym e) in
    let unclosed : closes_on_line more ≡ false = ap closes_on_line all ∙ closes_behind front [] (span_passes is_text_byte more) in
    absurd (both_ways (closes_on_line more) unclosed closes)
text_goes_on more (c ∷ behind) e closes =
    let front = take (prefix_len is_text_byte more) more in
    let size : length front ≡ prefix_len is_text_byte more = length-prefix_len is_text_byte more in
    let all : more ≡ front ++ c ∷ behind = span_parts is_text_byte more ∙ ap (λ (t : List ℕ). front ++ t) (sym e) in
    let stops : Stops is_text_byte (c ∷ behind) = subst (λ (t : List ℕ). Stops is_text_byte t) (sym e) (span_stops is_text_byte more) in
    let closed : closes_on_line (c ∷ behind) ≡ true = sym (closes_behind front (c ∷ behind) (span_passes is_text_byte more)) ∙ ap closes_on_line (sym all) ∙ closes in
    let here : get_or more (prefix_len is_text_byte more) 0 ≡ c = ap (λ (t : List ℕ). get_or t (prefix_len is_text_byte more) 0) all ∙ ap (λ (k : ℕ). get_or (front ++ c ∷ behind) k 0) (sym size) ∙ get_or-append_seam front c behind 0 in
    (c, behind, refl, stops, closed, here)

text_whole : (c : ℕ) (more front behind : List ℕ) (d : ℕ) → c ≡ 34 → d ≡ 34 → more ≡ front ++ d ∷ behind → c ∷ more ≡ (34 ∷ (front ++ 34 ∷ [])) ++ behind
text_whole c more front behind d quote end all =
    let text : more ≡ (front ++ 34 ∷ []) ++ behind = all ∙ ap (λ (x : ℕ). front ++ x ∷ behind) end ∙ sym (append_assoc front (34 ∷ []) behind) in
    cc

bad_whole : (c : ℕ) (more text : List ℕ) → c ≡ 34 → more ≡ text → c ∷ more ≡ 34 ∷ text
bad_whole c more text p q = cc

text_closed : (at c : ℕ) (more : List ℕ) → c ≡ 34 → kind_of c ≡ kinds.Text → closes_on_line more ≡ true
    → StandsAt at (c ∷ more) (cond (eqb (get_or more (prefix_len is_text_byte more) 0) 34) (token kinds.Text at (prefix_len is_text_byte more + 2)) (Err (faults.BadByte (at + 1 + prefix_len is_text_byte more))))
text_closed at c more quote is closes =
    let n = prefix_len is_text_byte more in
    let front = take n more in
    let size : length front ≡ n = length-prefix_len is_text_byte more in
    let next = text_goes_on more (drop n more) refl closes in
    let all : more ≡ front ++ next.0 ∷ next.1 = span_parts is_text_byte more ∙ ap (λ (t : List ℕ). front ++ t) next.2 in
    elim (cases_Bool (eqb next.0 34)) as (λ _. StandsAt at (c ∷ more) (cond (eqb (get_or more n 0) 34) (token kinds.Text at (n + 2)) (Err (faults.BadByte (at + 1 + n))))) [
      | inl closing ↦
          let end : next.0 ≡ 34 = eqb-true next.0 34 closing in
          let whole : c ∷ more ≡ (34 ∷ (front ++ 34 ∷ [])) ++ next.1 = text_whole c more front next.1 next.0 quote end all in
          let longest : IsLongest (c ∷ more) (n + 2) = longest_of kinds.Text c more (n + 2) is (λ s behind w t. omega (arith, (text_is c more s behind w t).0)) in
          rw (next.5, closing)
          (made kinds.Text at (n + 2) (c ∷ more) (34 ∷ (front ++ 34 ∷ [])) next.1 whole (front, refl, span_passes is_text_byte more) (omega (arith, size, length-append front (34 ∷ [])))
          longest (no_comment_from c more (no_slash c kinds.Text is (λ e. cc))) tt)
      | inr bad ↦
          let whole : c ∷ more ≡ 34 ∷ (front ++ next.0 ∷ next.1) = bad_whole c more _ quote all in
          rw (next.5, bad) (
            1 + n,
            omega arith,
            inr (inr (record { body = front; bad = next.0; behind = next.1; whole = whole; fine = span_passes is_text_byte more; not_fine = next.3; no_quote = eqb-false next.0 34 bad; closed = next.4; size = ap (λ (k : ℕ). 1 + k) (sym size) })),
          )
    ]

text_stands : (at c : ℕ) (more : List ℕ) → c ≡ 34 → kind_of c ≡ kinds.Text → StandsAt at (c ∷ more) (text_at at more)
unfolding text_at
text_stands at c more quote is =
    elim (cases_Bool (closes_on_line more)) as (λ _. StandsAt at (c ∷ more) (text_at at more)) [
      | inl closes ↦ rw closes (text_closed at c more quote is closes)
      | inr unclosed ↦ rw unclosed (refl, (more, ap (λ (x : ℕ). x ∷ more) quote, unclosed))
    ]

-- ---- All of it

pub stands : (at : ℕ) (bytes : List ℕ) → part_len bytes ≡ 0 → StandsAt at bytes (standing at bytes)
unfolding standing
stands at [] none = refl
stands at (c ∷ more) none =
    elim (cases_Bool (begins_word c)) as (λ _. StandsAt at (c ∷ more) (standing at (c ∷ more))) [
      | inl word ↦ rw word (word_stands at c more word (rw word refl))
      | inr no_word ↦ elim (cases_Bool (is_digit c || eqb c 46)) as (λ _. StandsAt at (c ∷ more) (standing at (c ∷ more))) [
        | inl number ↦ rw (no_word, number) (number_stands_by at c more (number_len (c ∷ more)) refl (not_blank c more none) (rw (no_word, number) refl))
        | inr no_number ↦ elim (cases_Bool (eqb c 34)) as (λ _. StandsAt at (c ∷ more) (standing at (c ∷ more))) [
          | inl quote ↦ rw (no_word, no_number, quote) (text_stands at c more (eqb-true c 34 quote) (rw (no_word, no_number, quote) refl))
          | inr no_quote ↦ elim (cases_Bool (eqb c 64)) as (λ _. StandsAt at (c ∷ more) (standing at (c ∷ more))) [
            | inl mark ↦ rw (no_word, no_number, no_quote, mark) (note_stands at c more (eqb-true c 64 mark) (rw (no_word, no_number, no_quote, mark) refl))
            | inr no_mark ↦ rw (no_word, no_number, no_quote, no_mark) (sign_stands_by at c more (sign_len (c ∷ more)) refl none (rw (no_word, no_number, no_quote, no_mark) refl))
          ]
        ]
      ]
    ]
