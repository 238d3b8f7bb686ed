-- What the bytes of a token of a text are, by what it is to the grammar.
use Rattle.std.proofs.Common.{◌≡◌, ◌⊎◌, ℕ, ◌-◌, Bool, true, false, not, ◌&&◌, ◌||◌, eqb, List, [], ◌∷◌, ◌++◌, length, take, drop, map, Option, Some, Result, Ok, refl, sym, ap, subst, ◌∙◌, inl, inr, arith}
use Rattle.std.specs.List.{list_all, list_any}
use Rattle.std.specs.Char.{is_ascii_alphabetic, to_ascii_lowercase}
use Rattle.std.specs.Str.{str_eq_ignore_ascii_case}
use Rattle.std.proofs.lemmas.Bool.{and_parts, and_from, or_parts, or_from, cases_Bool, false≢true}
use Rattle.std.proofs.lemmas.List.{take_at, drop-drop, drop_at}
use Rattle.deck_tree.specs.Words.{keywords, unsupported_words, is_same_word, is_keyword, is_name}
use Rattle.deck_lexer.specs.declared.token.Token.{Token}
use Rattle.deck_lexer.specs.declared.token.TokenKind.{TokenKind}
use Rattle.deck_lexer.specs.declared.token.TokenKind.TheVariants as tokens
use Rattle.deck_lexer.specs.declared.token.LexFault.{LexFault}
use Rattle.deck_lexer.specs.Bytes.{begins_word, continues_word}
use Rattle.deck_lexer.specs.Tokens.{IsWord, IsNumber, IsText, IsNote, IsSpelling, Comes, Lexes}
use Rattle.deck_grammar.specs.declared.kind.Kind.{Kind}
use Rattle.deck_grammar.specs.declared.kind.Kind.TheVariants as kinds
use Rattle.deck_grammar.specs.Lexemes.{Lexeme, lexeme}
use Rattle.deck_grammar.specs.Words.{lookup, keyword_rows, word_rows, word_kind, sign_rows, sign_kind}
use Rattle.deck_cursor.specs.Places.{kind_in, bytes_of, lexemes}
use Rattle.deck_round.proofs.Marks.{rows_words}
use Rattle.list_facts.proofs.Texts.{bytes_apart}

abbrev pub Said : Kind → List ℕ → Type 0
Said kinds.Name bytes = is_name bytes ≡ true
Said kinds.Number bytes = IsNumber bytes
Said kinds.Text bytes = IsText bytes
Said kinds.Note bytes = IsNote bytes
Said (kinds.Keyword k) bytes = Unit {0}
Said kinds.SetAside bytes = Unit {0}
Said (kinds.Sign x) bytes = Unit {0}

-- a kind that stands in the tables of words and signs
abbrev is_listed : Kind → Bool
is_listed kinds.Name = false
is_listed kinds.Number = false
is_listed kinds.Text = false
is_listed kinds.Note = false
is_listed (kinds.Keyword k) = true
is_listed kinds.SetAside = true
is_listed (kinds.Sign x) = true

listed_said : (k : Kind) (bytes : List ℕ) → is_listed k ≡ true → Said k bytes
listed_said kinds.Name bytes is = absurd (false≢true is)
listed_said kinds.Number bytes is = absurd (false≢true is)
listed_said kinds.Text bytes is = absurd (false≢true is)
listed_said kinds.Note bytes is = absurd (false≢true is)
listed_said (kinds.Keyword k) bytes is = tt
listed_said kinds.SetAside bytes is = tt
listed_said (kinds.Sign x) bytes is = tt

-- what is looked up is in the table, or is what is said otherwise
found : (otherwise : Kind) (rows : List (List ℕ × Kind)) (word : List ℕ) → list_all (λ row. is_listed row.1) rows ≡ true
    → (lookup otherwise rows word ≡ otherwise) ⊎ (is_listed (lookup otherwise rows word) ≡ true)
found otherwise [] word all = inl refl
found otherwise (row ∷ more) word all =
    let both = and_parts (is_listed row.1) (list_all (λ row. is_listed row.1) more) all in
    elim (cases_Bool (str_eq_ignore_ascii_case row.0 word)) as (λ _. (lookup otherwise (row ∷ more) word ≡ otherwise) ⊎ (is_listed (lookup otherwise (row ∷ more) word) ≡ true)) [
      | inl holds ↦ rw holds (inr both.0)
      | inr fails ↦ rw fails (found otherwise more word both.1)
    ]

words_listed : list_all (λ (row : List ℕ × Kind). is_listed row.1) word_rows ≡ true
unfolding word_rows keyword_rows unsupported_words
words_listed = refl

signs_listed : list_all (λ (row : List ℕ × Kind). is_listed row.1) sign_rows ≡ true
unfolding sign_rows
signs_listed = refl

-- a word that is a name is in no row
no_match : (rows : List (List ℕ × Kind)) (word : List ℕ) → list_all (λ row. is_listed row.1) rows ≡ true → lookup kinds.Name rows word ≡ kinds.Name
    → list_any (is_same_word word) (map (λ row. row.0) rows) ≡ false
no_match [] word all is = refl
no_match (row ∷ more) word all is =
    let both = and_parts (is_listed row.1) (list_all (λ row. is_listed row.1) more) all in
    elim (cases_Bool (str_eq_ignore_ascii_case row.0 word)) [
      | inl holds ↦
          let named : row.1 ≡ kinds.Name = rw holds at is in
          absurd (false≢true (sym (ap is_listed named) ∙ both.0))
      | inr fails ↦
          let rest : lookup kinds.Name more word ≡ kinds.Name = rw fails at is in
          or_from (is_same_word word row.0) (list_any (is_same_word word) (map (λ row. row.0) more)) (bytes_apart (map to_ascii_lowercase row.0) (map to_ascii_lowercase word) fails) (no_match more word both.1 rest)
    ]

any_apart : (test : List ℕ → Bool) (a b : List (List ℕ)) → list_any test (a ++ b) ≡ false → (list_any test a ≡ false) × (list_any test b ≡ false)
any_apart test [] b none = (refl, none)
any_apart test (x ∷ a) b none =
    let both = or_parts (test x) (list_any test (a ++ b)) none in
    let rest = any_apart test a b both.1 in
    (or_from (test x) (list_any test a) both.0 rest.0, rest.1)

no_right : (x y : Bool) → (x || y) ≡ true → y ≡ false → x ≡ true
no_right true y is none = refl
no_right false y is none = absurd (false≢true (sym none ∙ is))

named : (c : ℕ) (more : List ℕ) → begins_word c ≡ true → list_all continues_word more ≡ true → eqb c 35 ≡ false → lookup kinds.Name word_rows (c ∷ more) ≡ kinds.Name → is_name (c ∷ more) ≡ true
unfolding is_keyword
named c more begins continues no_hash is =
    let none : list_any (is_same_word (c ∷ more)) (keywords ++ unsupported_words) ≡ false =
    ap (list_any (is_same_word (c ∷ more))) (sym rows_words) ∙ no_match word_rows (c ∷ more) words_listed is in
    let both = any_apart (is_same_word (c ∷ more)) keywords unsupported_words none in
    let no_keyword : (list_any (is_same_word (c ∷ more)) keywords || list_any (is_same_word (c ∷ more)) unsupported_words) ≡ false = or_from _ _ both.0 both.1 in
    and_from ((is_ascii_alphabetic c || eqb c 95) && list_all continues_word more) (not (is_keyword (c ∷ more)))
    (and_from (is_ascii_alphabetic c || eqb c 95) (list_all continues_word more) (no_right (is_ascii_alphabetic c || eqb c 95) (eqb c 35) begins no_hash) continues) (ap not no_keyword)

word_said : (bytes : List ℕ) → IsWord bytes → Said (word_kind bytes) bytes
unfolding word_kind
word_said bytes (c, more, whole, begins, continues) = subst (λ (b : List ℕ). Said (word_kind b) b) (sym whole) (elim (cases_Bool (eqb c 35)) as (λ _. Said (word_kind (c ∷ more)) (c ∷ more)) [
  | inl hash ↦ rw hash tt
  | inr none ↦ rw none (elim (found kinds.Name word_rows (c ∷ more) words_listed) [
    | inl is ↦ subst (λ (k : Kind). Said k (c ∷ more)) (sym is) (named c more begins continues none is)
    | inr listed ↦ listed_said (lookup kinds.Name word_rows (c ∷ more)) (c ∷ more) listed
  ])
])

sign_said : (bytes : List ℕ) → Said (sign_kind bytes) bytes
unfolding sign_kind
sign_said bytes = elim (found kinds.SetAside sign_rows bytes signs_listed) [
  | inl is ↦ subst (λ (k : Kind). Said k bytes) (sym is) tt
  | inr listed ↦ listed_said (lookup kinds.SetAside sign_rows bytes) bytes listed
]

said : (kind : TokenKind) (bytes : List ℕ) → IsSpelling kind bytes → Said (kind_in kind bytes) bytes
said tokens.Word bytes is = word_said bytes is
said tokens.Number bytes is = is
said tokens.Text bytes is = is
said tokens.Sign bytes is = sign_said bytes
said tokens.Note bytes is = is

-- of each of the tokens it is so
abbrev pub AllSaid : List Lexeme → Type 0
AllSaid [] = Unit {0}
AllSaid (lexeme k at bytes ∷ more) = Said k bytes × AllSaid more

token_said : (text : List ℕ) (at : ℕ) (token : Token) → Comes at (drop at text) (Ok (Some token)) → Said (kind_in token.kind (bytes_of text token)) (bytes_of text token)
token_said text at token comes =
    let stands = comes.stands in
    let start : drop token.start text ≡ comes.behind =
    ap (λ (k : ℕ). drop k text) stands.start ∙ sym (drop-drop (length comes.gap) at text) ∙ ap (drop (length comes.gap)) comes.whole ∙ drop_at comes.gap comes.behind (length comes.gap) refl in
    let size : token.end - token.start ≡ length stands.spelled = omega (arith, stands.start, stands.end) in
    let bytes : bytes_of text token ≡ stands.spelled =
    ap (λ (k : ℕ). take k (drop token.start text)) size ∙ ap (take (length stands.spelled)) (start ∙ stands.whole) ∙ take_at stands.spelled stands.behind (length stands.spelled) refl in
    subst (λ (b : List ℕ). Said (kind_in token.kind b) b) (sym bytes) (said token.kind stands.spelled stands.spelling)

pub all_said : (text : List ℕ) (at : ℕ) (those : List Token) (last : Result (Option Token) LexFault) → Lexes text at those last → AllSaid (lexemes text those)
all_said text at [] last lexing = tt
all_said text at (token ∷ more) last lexing = (token_said text at token lexing.0, all_said text token.end more last lexing.1)
