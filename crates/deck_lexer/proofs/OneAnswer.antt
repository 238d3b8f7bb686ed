-- One answer stands at a place: what stands there is what is computed.
use Rattle.std.proofs.Common.{◌≡◌, ℕ, suc, zero, ◌+◌, ◌<◌, ◌≤◌, ◌⊎◌, inl, inr, true, false, eqb, ◌||◌, List, [], ◌∷◌, ◌++◌, length, take, drop, get_or, Option, Some, None, Result, Ok, Err, refl, sym, ap, subst, ◌∙◌, arith, length-append}
use Rattle.std.specs.List.{prefix_len}
use Rattle.std.proofs.Math.Seq.{get_or-append_seam}
use Rattle.std.proofs.lemmas.Bool.{ne_eqb, eq-eqb, eqb-true, cases_Bool}
use Rattle.std.proofs.lemmas.List.{drop_at}
use Rattle.std.proofs.lemmas.List.Folds.{length-prefix_len}
use Rattle.deck_lexer.specs.declared.token.Token.{Token}
use Rattle.deck_lexer.specs.declared.token.TokenKind.{TokenKind}
use Rattle.deck_lexer.specs.declared.token.TokenKind.TheVariants as kinds
use Rattle.deck_lexer.specs.declared.token.LexFault.{LexFault}
use Rattle.deck_lexer.specs.declared.token.LexFault.TheVariants as faults
use Rattle.deck_lexer.specs.Bytes.{is_digit, begins_word, continues_word, is_text_byte, is_in_line}
use Rattle.deck_lexer.specs.Tokens.{IsSpelling, IsNumber, begins_comment, goes_on_as_word, MayFollow, IsLongest, closes_on_line, IsTokenAt, BeginsNothing, RunsOn, HoldsBadByte, StandsAt}
use Rattle.deck_lexer.specs.Working.Reading.{kind_of, part_len, number_len, sign_len, token, number_at, sign_at, text_at, standing_as, standing}
use Rattle.deck_lexer.proofs.Spans.{span_passes, span_len, span_parts}
use Rattle.deck_lexer.proofs.Blocks.{no_block}
use Rattle.deck_lexer.proofs.FirstBytes.{kind_at_front, spelling_begins}
use Rattle.deck_lexer.proofs.Lens.{number_takes, sign_takes, closes_behind}
use Rattle.deck_lexer.proofs.Fronts.{no_part, no_comment_from, text_is, word_most, note_most, number_most_at, sign_most_at}

-- ---- A token is the one that is computed

token_is : (t : Token) (kind : TokenKind) (at n : ℕ) → t.kind ≡ kind → t.start ≡ at → t.end ≡ at + n → Ok (Some t) ≡ token kind at n
token_is t kind at n k s e = λ i. Ok (Some (record { kind = k i; start = s i; «end» = e i }))

-- what is known of a token's spelling at the front
record Front (kind : TokenKind) (c : ℕ) (more s behind : List ℕ) : Type 0 where
  whole : c ∷ more ≡ s ++ behind
  spelling : IsSpelling kind s
  longest : IsLongest (c ∷ more) (length s)
  no_comment : begins_comment (c ∷ more) ≡ false
  follows : MayFollow kind behind

word_size : (c : ℕ) (more s behind : List ℕ) → Front kinds.Word c more s behind → length s ≡ prefix_len continues_word more + 1
word_size c more s behind front =
    let most = word_most c more s behind front.whole front.spelling in
    let spelled = front.spelling in
    let text : c ∷ more ≡ spelled.0 ∷ (spelled.1 ++ behind) = front.whole ∙ ap (λ (t : List ℕ). t ++ behind) spelled.2 in
    let first : c ≡ spelled.0 = cc in
    let own = take (prefix_len continues_word more) more in
    let size : length own ≡ prefix_len continues_word more = length-prefix_len continues_word more in
    let least : length (c ∷ own) ≤ length s =
    front.longest kinds.Word (c ∷ own) (drop (prefix_len continues_word more) more) (ap (λ (t : List ℕ). c ∷ t) (span_parts continues_word more))
    (c, own, refl, ap begins_word first ∙ spelled.3, span_passes continues_word more) in
    omega (arith, most, least, size)

note_size : (c : ℕ) (more s behind : List ℕ) → Front kinds.Note c more s behind → length s ≡ prefix_len is_in_line more + 1
note_size c more s behind front =
    let most = note_most c more s behind front.whole front.spelling in
    let spelled = front.spelling in
    let text : c ∷ more ≡ 64 ∷ (spelled.0 ++ behind) = front.whole ∙ ap (λ (t : List ℕ). t ++ behind) spelled.1 in
    let first : c ≡ 64 = cc in
    let own = take (prefix_len is_in_line more) more in
    let size : length own ≡ prefix_len is_in_line more = length-prefix_len is_in_line more in
    let least : length (c ∷ own) ≤ length s =
    front.longest kinds.Note (c ∷ own) (drop (prefix_len is_in_line more) more) (ap (λ (t : List ℕ). c ∷ t) (span_parts is_in_line more))
    (own, ap (λ (x : ℕ). x ∷ own) first, span_passes is_in_line more) in
    omega (arith, most, least, size)

some_length : (kind : TokenKind) (s : List ℕ) → IsSpelling kind s → 0 < length s
some_length kind s is = let begins = spelling_begins kind s is in omega (arith, ap length begins.2)

-- the longest number there has that length
pub number_size : (c : ℕ) (more s behind : List ℕ) → c ∷ more ≡ s ++ behind → IsNumber s → IsLongest (c ∷ more) (length s) → length s ≡ number_len (c ∷ more)
number_size c more s behind whole is longest =
    let most = number_most_at c more s behind whole is in
    let some = some_length kinds.Number s is in
    let own = number_takes (c ∷ more) (omega arith) in
    let least : length own.0 ≤ length s = longest kinds.Number own.0 own.1 own.2 own.3 in
    omega (arith, most, least, own.4)

sign_size : (c : ℕ) (more s behind : List ℕ) → Front kinds.Sign c more s behind → length s ≡ sign_len (c ∷ more)
sign_size c more s behind front =
    let most = sign_most_at c more s behind front.whole front.spelling in
    let some = some_length kinds.Sign s front.spelling in
    let own = sign_takes (c ∷ more) (omega arith) in
    let least : length own.0 ≤ length s = front.longest kinds.Sign own.0 own.1 own.2 own.3 in
    omega (arith, most, least, own.4)

front_is : (kind : TokenKind) (at c : ℕ) (more s behind : List ℕ) (t : Token) → Front kind c more s behind → t.kind ≡ kind → t.start ≡ at → t.end ≡ at + length s
    → Ok (Some t) ≡ standing_as kind at c more
unfolding number_at sign_at text_at
front_is kinds.Word at c more s behind t front k b e = token_is t kinds.Word at _ k b (e ∙ ap (λ (n : ℕ). at + n) (word_size c more s behind front))
front_is kinds.Note at c more s behind t front k b e = token_is t kinds.Note at _ k b (e ∙ ap (λ (n : ℕ). at + n) (note_size c more s behind front))
front_is kinds.Number at c more s behind t front k b e =
    let size : length s ≡ number_len (c ∷ more) = number_size c more s behind front.whole front.spelling front.longest in
    let some = some_length kinds.Number s front.spelling in
    let not_none : eqb (number_len (c ∷ more)) 0 ≡ false = ne_eqb _ 0 (λ z. omega arith) in
    let rest : drop (number_len (c ∷ more)) (c ∷ more) ≡ behind = ap (drop (number_len (c ∷ more))) front.whole ∙ drop_at s behind (number_len (c ∷ more)) size in
    let ends : goes_on_as_word (drop (number_len (c ∷ more)) (c ∷ more)) ≡ false = ap goes_on_as_word rest ∙ front.follows in
    rw (not_none, ends) (token_is t kinds.Number at _ k b (e ∙ ap (λ (n : ℕ). at + n) size))
front_is kinds.Sign at c more s behind t front k b e =
    let size : length s ≡ sign_len (c ∷ more) = sign_size c more s behind front in
    let some = some_length kinds.Sign s front.spelling in
    let not_none : eqb (sign_len (c ∷ more)) 0 ≡ false = ne_eqb _ 0 (λ z. omega arith) in
    rw (front.no_comment, not_none) (token_is t kinds.Sign at _ k b (e ∙ ap (λ (n : ℕ). at + n) size))
front_is kinds.Text at c more s behind t front k b e =
    let is = text_is c more s behind front.whole front.spelling in
    let closing : eqb (get_or more (prefix_len is_text_byte more) 0) 34 ≡ true = eq-eqb _ 34 is.1 in
    rw (is.2, closing) (token_is t kinds.Text at _ k b (e ∙ ap (λ (n : ℕ). at + n) is.0))

-- the bytes of a token: the first, and the rest
kind_standing : (kind : TokenKind) (at c : ℕ) (more : List ℕ) → kind_of c ≡ kind → standing at (c ∷ more) ≡ standing_as kind at c more
unfolding standing
kind_standing kind at c more is = ap (λ (k : TokenKind). standing_as k at c more) is

token_only : (at : ℕ) (bytes : List ℕ) (t : Token) → IsTokenAt at bytes t → Ok (Some t) ≡ standing at bytes
token_only at [] t is =
    let some = some_length t.kind is.spelled is.spelling in
    absurd (omega (arith, some, ap length is.whole, length-append is.spelled is.behind))
token_only at (c ∷ more) t is =
    let kind : kind_of c ≡ t.kind = kind_at_front t.kind c more is.spelled is.behind is.whole is.spelling in
    let front : Front t.kind c more is.spelled is.behind = record { whole = is.whole; spelling = is.spelling; longest = is.longest; no_comment = is.no_comment; follows = is.may_follow } in
    front_is t.kind at c more is.spelled is.behind t front refl is.start is.end ∙ sym (kind_standing t.kind at c more kind)

-- ---- A fact is the one that is computed

-- which byte begins a token of a kind
word_kind : (c : ℕ) → kind_of c ≡ kinds.Word → begins_word c ≡ true
word_kind c is =
    elim (cases_Bool (begins_word c)) as (λ _. begins_word c ≡ true) [
      | inl word ↦ word
      | inr no_word ↦ elim (cases_Bool (is_digit c || eqb c 46)) as (λ _. begins_word c ≡ true) [
        | inl number ↦ let e : kinds.Number ≡ kinds.Word = rw (no_word, number) at is in absurd cc
        | inr no_number ↦ elim (cases_Bool (eqb c 34)) as (λ _. begins_word c ≡ true) [
          | inl quote ↦ let e : kinds.Text ≡ kinds.Word = rw (no_word, no_number, quote) at is in absurd cc
          | inr no_quote ↦ elim (cases_Bool (eqb c 64)) as (λ _. begins_word c ≡ true) [
            | inl mark ↦ let e : kinds.Note ≡ kinds.Word = rw (no_word, no_number, no_quote, mark) at is in absurd cc
            | inr no_mark ↦ let e : kinds.Sign ≡ kinds.Word = rw (no_word, no_number, no_quote, no_mark) at is in absurd cc
          ]
        ]
      ]
    ]

text_kind : (c : ℕ) → kind_of c ≡ kinds.Text → c ≡ 34
text_kind c is =
    elim (cases_Bool (begins_word c)) as (λ _. c ≡ 34) [
      | inl word ↦ let e : kinds.Word ≡ kinds.Text = rw word at is in absurd cc
      | inr no_word ↦ elim (cases_Bool (is_digit c || eqb c 46)) as (λ _. c ≡ 34) [
        | inl number ↦ let e : kinds.Number ≡ kinds.Text = rw (no_word, number) at is in absurd cc
        | inr no_number ↦ elim (cases_Bool (eqb c 34)) as (λ _. c ≡ 34) [
          | inl quote ↦ eqb-true c 34 quote
          | inr no_quote ↦ elim (cases_Bool (eqb c 64)) as (λ _. c ≡ 34) [
            | inl mark ↦ let e : kinds.Note ≡ kinds.Text = rw (no_word, no_number, no_quote, mark) at is in absurd cc
            | inr no_mark ↦ let e : kinds.Sign ≡ kinds.Text = rw (no_word, no_number, no_quote, no_mark) at is in absurd cc
          ]
        ]
      ]
    ]

note_kind : (c : ℕ) → kind_of c ≡ kinds.Note → c ≡ 64
note_kind c is =
    elim (cases_Bool (begins_word c)) as (λ _. c ≡ 64) [
      | inl word ↦ let e : kinds.Word ≡ kinds.Note = rw word at is in absurd cc
      | inr no_word ↦ elim (cases_Bool (is_digit c || eqb c 46)) as (λ _. c ≡ 64) [
        | inl number ↦ let e : kinds.Number ≡ kinds.Note = rw (no_word, number) at is in absurd cc
        | inr no_number ↦ elim (cases_Bool (eqb c 34)) as (λ _. c ≡ 64) [
          | inl quote ↦ let e : kinds.Text ≡ kinds.Note = rw (no_word, no_number, quote) at is in absurd cc
          | inr no_quote ↦ elim (cases_Bool (eqb c 64)) as (λ _. c ≡ 64) [
            | inl mark ↦ eqb-true c 64 mark
            | inr no_mark ↦ let e : kinds.Sign ≡ kinds.Note = rw (no_word, no_number, no_quote, no_mark) at is in absurd cc
          ]
        ]
      ]
    ]

zero_or_some : (n : ℕ) → (n ≡ 0) ⊎ (0 < n)
zero_or_some zero = inl refl
zero_or_some (suc n) = inr (omega arith)

number_len_cases : (bytes : List ℕ) → (number_len bytes ≡ 0) ⊎ (0 < number_len bytes)
number_len_cases bytes = zero_or_some (number_len bytes)

sign_len_cases : (bytes : List ℕ) → (sign_len bytes ≡ 0) ⊎ (0 < sign_len bytes)
sign_len_cases bytes = zero_or_some (sign_len bytes)

-- a byte that begins no token, by kinds
nothing_is : (kind : TokenKind) (at c : ℕ) (more : List ℕ) → kind_of c ≡ kind → (c ≡ 34 → ⊥) → begins_comment (c ∷ more) ≡ false → IsLongest (c ∷ more) 0
    → Err (faults.BadByte at) ≡ standing_as kind at c more
unfolding number_at sign_at
nothing_is kinds.Word at c more is no_quote no_comment longest =
    let word : begins_word c ≡ true = word_kind c is in
    let one : length (c ∷ []) ≤ 0 = longest kinds.Word (c ∷ []) more refl (c, [], refl, word, refl) in
    absurd (omega arith)
nothing_is kinds.Number at c more is no_quote no_comment longest =
    elim (number_len_cases (c ∷ more)) as (λ _. Err (faults.BadByte at) ≡ number_at at (c ∷ more)) [
      | inl none ↦ rw none refl
      | inr some ↦
          let takes = number_takes (c ∷ more) some in
          let short : length takes.0 ≤ 0 = longest kinds.Number takes.0 takes.1 takes.2 takes.3 in
          absurd (omega (arith, some, short, takes.4))
    ]
nothing_is kinds.Text at c more is no_quote no_comment longest = absurd (no_quote (text_kind c is))
nothing_is kinds.Note at c more is no_quote no_comment longest =
    let mark : c ≡ 64 = note_kind c is in
    let one : length (c ∷ []) ≤ 0 = longest kinds.Note (c ∷ []) more refl ([], ap (λ (x : ℕ). x ∷ []) mark, refl) in
    absurd (omega arith)
nothing_is kinds.Sign at c more is no_quote no_comment longest =
    elim (sign_len_cases (c ∷ more)) as (λ _. Err (faults.BadByte at) ≡ sign_at at (c ∷ more)) [
      | inl none ↦ rw (no_comment, none) refl
      | inr some ↦
          let takes = sign_takes (c ∷ more) some in
          let short : length takes.0 ≤ 0 = longest kinds.Sign takes.0 takes.1 takes.2 takes.3 in
          absurd (omega (arith, some, short, takes.4))
    ]

bad_only : (at place n : ℕ) (bytes : List ℕ) → place ≡ at + n → ((n ≡ 0) × BeginsNothing bytes) ⊎ RunsOn bytes n ⊎ HoldsBadByte bytes n
    → Err (faults.BadByte place) ≡ standing at bytes
unfolding number_at text_at
bad_only at place n bytes p (inl (none, nothing)) =
    let here : place ≡ at = omega (arith, p, none) in
    let no_comment : begins_comment (nothing.first ∷ nothing.behind) ≡ false = sym (ap begins_comment nothing.whole) ∙ nothing.no_comment in
    let longest : IsLongest (nothing.first ∷ nothing.behind) 0 = subst (λ (t : List ℕ). IsLongest t 0) nothing.whole nothing.no_token in
    ap (λ (k : ℕ). Err (faults.BadByte k)) here
    ∙ nothing_is (kind_of nothing.first) at nothing.first nothing.behind refl nothing.no_quote no_comment longest
    ∙ sym (kind_standing (kind_of nothing.first) at nothing.first nothing.behind refl)
    ∙ ap (standing at) (sym nothing.whole)
bad_only at place n bytes p (inr (inl runs)) =
    let begins = spelling_begins kinds.Number runs.spelled runs.spelling in
    let c = begins.0 in
    let more = begins.1 ++ runs.behind in
    let text : bytes ≡ c ∷ more = runs.whole ∙ ap (λ (t : List ℕ). t ++ runs.behind) begins.2 in
    let whole : c ∷ more ≡ runs.spelled ++ runs.behind = sym text ∙ runs.whole in
    let longest : IsLongest (c ∷ more) (length runs.spelled) = subst (λ (t : List ℕ). IsLongest t (length runs.spelled)) text runs.longest in
    let size : length runs.spelled ≡ number_len (c ∷ more) = number_size c more runs.spelled runs.behind whole runs.spelling longest in
    let some = some_length kinds.Number runs.spelled runs.spelling in
    let not_none : eqb (number_len (c ∷ more)) 0 ≡ false = ne_eqb _ 0 (λ z. omega arith) in
    let rest : drop (number_len (c ∷ more)) (c ∷ more) ≡ runs.behind = ap (drop (number_len (c ∷ more))) whole ∙ drop_at runs.spelled runs.behind (number_len (c ∷ more)) size in
    let goes : goes_on_as_word (drop (number_len (c ∷ more)) (c ∷ more)) ≡ true = ap goes_on_as_word rest ∙ runs.goes_on in
    let here : place ≡ at + number_len (c ∷ more) = omega (arith, p, runs.size, size) in
    let computed : Err (faults.BadByte place) ≡ number_at at (c ∷ more) = rw (not_none, goes) (ap (λ (k : ℕ). Err (faults.BadByte k)) here) in
    computed ∙ sym (kind_standing kinds.Number at c more begins.3.kind_is) ∙ ap (standing at) (sym text)
bad_only at place n bytes p (inr (inr holds)) =
    let more = holds.body ++ holds.bad ∷ holds.behind in
    let len : prefix_len is_text_byte more ≡ length holds.body = span_len is_text_byte holds.body (holds.bad ∷ holds.behind) holds.fine holds.not_fine in
    let closes : closes_on_line more ≡ true = closes_behind holds.body (holds.bad ∷ holds.behind) holds.fine ∙ holds.closed in
    let read : get_or more (prefix_len is_text_byte more) 0 ≡ holds.bad = ap (λ (k : ℕ). get_or more k 0) len ∙ get_or-append_seam holds.body holds.bad holds.behind 0 in
    let bad : eqb (get_or more (prefix_len is_text_byte more) 0) 34 ≡ false = ap (λ (x : ℕ). eqb x 34) read ∙ ne_eqb holds.bad 34 holds.no_quote in
    let here : place ≡ at + 1 + prefix_len is_text_byte more = omega (arith, p, holds.size, len) in
    let computed : Err (faults.BadByte place) ≡ text_at at more = rw (closes, bad) (ap (λ (k : ℕ). Err (faults.BadByte k)) here) in
    computed ∙ sym (kind_standing kinds.Text at 34 more refl) ∙ ap (standing at) (sym holds.whole)

pub only : (at : ℕ) (bytes : List ℕ) (answer : Result (Option Token) LexFault) → StandsAt at bytes answer → answer ≡ standing at bytes
unfolding sign_at text_at standing
only at bytes (Ok None) is = ap (standing at) (sym is)
only at bytes (Ok (Some t)) is = token_only at bytes t is
only at bytes (Err (faults.BadByte place)) (n, p, either) = bad_only at place n bytes p either
only at bytes (Err (faults.OpenComment place)) (p, (more, whole, no_end)) =
    ap (λ (k : ℕ). Err (faults.OpenComment k)) p ∙ ap (standing at) (sym whole)
only at bytes (Err (faults.OpenText place)) (p, (more, whole, unclosed)) =
    let computed : Err (faults.OpenText at) ≡ text_at at more = rw unclosed refl in
    ap (λ (k : ℕ). Err (faults.OpenText k)) p ∙ computed ∙ sym (kind_standing kinds.Text at 34 more refl) ∙ ap (standing at) (sym whole)

-- ---- No gap goes on there

number_first : (s behind bytes : List ℕ) → bytes ≡ s ++ behind → IsNumber s → part_len bytes ≡ 0
number_first s behind bytes whole is =
    let begins = spelling_begins kinds.Number s is in
    let text : bytes ≡ begins.0 ∷ (begins.1 ++ behind) = whole ∙ ap (λ (t : List ℕ). t ++ behind) begins.2 in
    let apart : begins.0 ≡ 47 → ⊥ = λ e. let same : kinds.Number ≡ kinds.Sign = sym begins.3.kind_is ∙ ap kind_of e in cc in
    ap part_len text ∙ no_part begins.0 (begins.1 ++ behind) begins.3.no_blank (no_comment_from begins.0 (begins.1 ++ behind) apart)

pub no_more_gap : (at : ℕ) (bytes : List ℕ) (answer : Result (Option Token) LexFault) → StandsAt at bytes answer → part_len bytes ≡ 0
unfolding part_len
no_more_gap at bytes (Ok None) is = ap part_len is
no_more_gap at bytes (Ok (Some t)) is =
    let begins = spelling_begins t.kind is.spelled is.spelling in
    let text : bytes ≡ begins.0 ∷ (begins.1 ++ is.behind) = is.whole ∙ ap (λ (t : List ℕ). t ++ is.behind) begins.2 in
    let no_comment : begins_comment (begins.0 ∷ (begins.1 ++ is.behind)) ≡ false = sym (ap begins_comment text) ∙ is.no_comment in
    ap part_len text ∙ no_part begins.0 (begins.1 ++ is.behind) begins.3.no_blank no_comment
no_more_gap at bytes (Err (faults.BadByte place)) (n, p, inl (none, nothing)) =
    let no_comment : begins_comment (nothing.first ∷ nothing.behind) ≡ false = sym (ap begins_comment nothing.whole) ∙ nothing.no_comment in
    ap part_len nothing.whole ∙ no_part nothing.first nothing.behind nothing.no_blank no_comment
no_more_gap at bytes (Err (faults.BadByte place)) (n, p, inr (inl runs)) = number_first runs.spelled runs.behind bytes runs.whole runs.spelling
no_more_gap at bytes (Err (faults.BadByte place)) (n, p, inr (inr holds)) = ap part_len holds.whole
no_more_gap at bytes (Err (faults.OpenComment place)) (p, (more, whole, no_end)) = ap part_len whole ∙ rw (no_block more no_end) refl
no_more_gap at bytes (Err (faults.OpenText place)) (p, (more, whole, unclosed)) = ap part_len whole
