-- A walk over the tokens of a text.
use Rattle.std.proofs.Common.{◌≡◌, ◌≤◌, ℕ, List, [], ◌∷◌, ◌++◌, length, drop, Option, Some, None, Result, Ok, Err, refl, sym, ap, subst, ◌∙◌, append_assoc, append-nil, arith}
use Rattle.std.specs.Prelude.{IfOk, IfSome, IfNone}
use Rattle.std.proofs.lemmas.List.{map-append}
use Rattle.deck_lexer.specs.Sizes.{longest_deck}
use Rattle.deck_tree.specs.declared.statement.Statement.{Statement}
use Rattle.deck_tree.specs.declared.refusal.DeckKind.{DeckKind}
use Rattle.deck_tree.specs.declared.refusal.DeckRefusal.{DeckRefusal}
use Rattle.deck_lexer.specs.declared.token.Token.{Token}
use Rattle.deck_lexer.specs.declared.token.LexFault.{LexFault}
use Rattle.deck_lexer.specs.Tokens.{Comes, Lexes, lexes}
use Rattle.deck_lexer.proofs.OneGap.{one_comes}
use Rattle.deck_grammar.specs.declared.kind.Kind.{Kind}
use Rattle.deck_grammar.specs.Lexemes.{Lexeme, lexeme}
use Rattle.deck_grammar.specs.Refusals.{IsWrong, at_token, at_end, refusal_at}
use Rattle.deck_cursor.specs.Places.{kind_in, bytes_of, lexeme_of, lexemes}
use Rattle.deck_cursor.specs.Inside.{IsUpcoming}
use Rattle.deck_cursor.specs.Decks.{IsDeckOf}
use Rattle.deck_stacks.proofs.Following.{ends_as_deck, deck_may_end}
use Rattle.deck_refusal.specs.declared.walk.Walk.{Walk}
use Rattle.deck_refusal.specs.declared.walk.Gone.{Gone}
use Rattle.deck_refusal.specs.declared.walk.Gone.TheVariants as gone
use Rattle.deck_refusal.specs.Refused.{IsTextRefused, by_tokens}
use Rattle.deck_refusal.specs.Working.Walking.{HasCome, GoesTo, HasRead, EndsAs, IsWrongText}

lexemes-append : (text : List ℕ) (these those : List Token)
    → lexemes text (these ++ those) ≡ lexemes text these ++ lexemes text those
lexemes-append text these those = map-append (lexeme_of text) these those

-- the token that comes is the first that is left
record Next (text : List ℕ) (left : List Token) (token : Token) : Type 0 where
  others : List Token
  is : left ≡ token ∷ others
  rest : Lexes text token.end others (Ok None)

next_of : (text : List ℕ) (at : ℕ) (left : List Token) (token : Token) → Lexes text at left (Ok None)
    → Comes at (drop at text) (Ok (Some token)) → Next text left token
next_of text at [] token end comes =
    let e : ◌≡◌ {A = Result (Option Token) LexFault} (Ok None) (Ok (Some token)) =
    one_comes at (drop at text) (Ok None) (Ok (Some token)) end comes in absurd (cc)
next_of text at (first ∷ others) token more comes =
    let e : ◌≡◌ {A = Result (Option Token) LexFault} (Ok (Some first)) (Ok (Some token)) =
    one_comes at (drop at text) (Ok (Some first)) (Ok (Some token)) more.0 comes in
    let is : first ≡ token = cc in
    let P : Token → Type 0 = λ t. Lexes text t.end others (Ok None) in
    record { others = others; is = ap (λ t. t ∷ others) is; rest = subst P is more.1 }

none_of : (text : List ℕ) (at : ℕ) (left : List Token) → Lexes text at left (Ok None) → IsUpcoming text at None
    → left ≡ []
none_of text at [] more none = refl
none_of text at (first ∷ others) more none = absurd (none first more.0)

pub at_start : (text : List ℕ) (walk : Walk) → (tokens : List Token) × lexes text tokens → HasCome [] walk
    → HasRead text 0 walk
at_start text walk all come = record {
  before = [];
  left = all.0;
  whole = all.1;
  rest = all.1;
  within =
      omega arith;
  come = come;
}

read_on : (text : List ℕ) (at : ℕ) (walk next : Walk) (token : Token) → HasRead text at walk
    → IsUpcoming text at (Some token)
    → ((before : List Lexeme) (place : ℕ) (bytes : List ℕ) → HasCome before walk
    → HasCome (before ++ lexeme (kind_in token.kind (bytes_of text token)) place bytes ∷ []) next)
    → HasRead text token.end next
read_on text at walk next token read comes over =
    let n = next_of text at read.left token read.rest comes.0 in
    let P : List Token → Type 0 = λ those. lexes text those in
    let Q : List Lexeme → Type 0 = λ those. HasCome those next in
    record {
      before = read.before ++ token ∷ [];
      left = n.others;
      whole = subst P (ap (λ those. read.before ++ those) n.is
          ∙ sym (append_assoc read.before (token ∷ []) n.others)) read.whole;
      rest = n.rest;
      within = comes.2;
      come = subst Q (sym (lexemes-append text read.before (token ∷ []))) (over (lexemes text read.before)
          token.start (bytes_of text token) read.come);
    }

wrong_there : (text : List ℕ) (at : ℕ) (walk : Walk) (token : Token) (reason : DeckKind) → HasRead text at walk
    → IsUpcoming text at (Some token)
    → ((before : List Lexeme) (place : ℕ) (bytes : List ℕ) → HasCome before walk
    → IsWrong before (lexeme (kind_in token.kind (bytes_of text token)) place bytes) reason)
    → IsWrongText text (refusal_at token.start reason)
wrong_there text at walk token reason read comes wrong =
    let n = next_of text at read.left token read.rest comes.0 in
    let before = lexemes text read.before in
    record {
      tokens = read.before ++ read.left;
      lexing = read.whole;
      refused = at_token before (lexeme_of text token) (lexemes text n.others)
          (lexemes-append text read.before read.left ∙ ap (λ those. before ++ lexemes text those) n.is)
          read.come.stand (wrong before token.start (bytes_of text token) read.come);
    }

-- what a walk says of the token that comes
abbrev Says : Walk → Kind → Gone → Type 0
Says walk x to = (before : List Lexeme) (place : ℕ) (bytes : List ℕ) → HasCome before walk
    → GoesTo before (lexeme x place bytes) to

says : (walk : Walk) (x y : Kind) (from to : Gone) → x ≡ y → from ≡ to → Says walk x from → Says walk y to
says walk x y from to e is h =
    let P : Kind → Type 0 = λ k. Says walk k to in
    let Q : Gone → Type 0 = λ g. Says walk x g in
    subst P e (subst Q is h)

pub goes_over : (text : List ℕ) (at : ℕ) (walk : Walk) (token : Token) (x : Kind) (to : Gone) (r : Option Token)
    → HasRead text at walk → r ≡ Some token
    → IsUpcoming text at r → x ≡ kind_in token.kind (bytes_of text token) → Says walk x to → (next : Walk)
    → to ≡ gone.Over next
    → HasRead text token.end next
goes_over text at walk token x to r read e upcoming kind_is h next is =
    read_on text at walk next token read (subst (IsUpcoming text at) e upcoming)
    (says walk x (kind_in token.kind (bytes_of text token)) to (gone.Over next) kind_is is h)

pub goes_wrong : (text : List ℕ) (at : ℕ) (walk : Walk) (token : Token) (x : Kind) (to : Gone) (r : Option Token)
    → HasRead text at walk → r ≡ Some token
    → IsUpcoming text at r → x ≡ kind_in token.kind (bytes_of text token) → Says walk x to → (reason : DeckKind)
    → to ≡ gone.Wrong reason
    → IsWrongText text (refusal_at token.start reason)
goes_wrong text at walk token x to r read e upcoming kind_is h reason is =
    wrong_there text at walk token reason read (subst (IsUpcoming text at) e upcoming)
    (says walk x (kind_in token.kind (bytes_of text token)) to (gone.Wrong reason) kind_is is h)

-- ---- The end

all_read : (text : List ℕ) (at : ℕ) (walk : Walk) (read : HasRead text at walk) → IsUpcoming text at None
    → lexes text read.before
all_read text at walk read none =
    let P : List Token → Type 0 = λ those. lexes text those in
    subst P (ap (λ those. read.before ++ those) (none_of text at read.left read.rest none)
    ∙ append-nil read.before) read.whole

ended_wrong : (text : List ℕ) (at : ℕ) (walk : Walk) (it : DeckRefusal) → HasRead text at walk
    → IsUpcoming text at None → EndsAs walk (length text) (Some it)
    → IsWrongText text it
ended_wrong text at walk it read none ends =
    let P : DeckRefusal → Type 0 = λ x. IsWrongText text x in
    subst P (sym ends.0) (record {
      tokens = read.before;
      lexing = all_read text at walk read none;
      refused = at_end read.come.stand (λ all spelled.
          let one = deck_may_end (lexemes text read.before) all walk.stacks read.come.stacks spelled in
          ends.1 one.0 one.1 one.2);
    })

ended_well : (text : List ℕ) (at : ℕ) (walk : Walk) → HasRead text at walk → IsUpcoming text at None
    → EndsAs walk (length text) None
    → (all : List Statement) × IsDeckOf text all
ended_well text at walk read none ends =
    let d = ends_as_deck (lexemes text read.before) walk.stacks ends.0 read.come.stacks ends.1 ends.2 in (
      d.0,
      record {
        tokens = read.before;
        lexing = all_read text at walk read none;
        spelled = d.1;
        stand =
            read.come.stand;
      },
    )

pub at_end_wrong : (text : List ℕ) (at : ℕ) (walk : Walk) (r : Option DeckRefusal) → HasRead text at walk
    → IsUpcoming text at None → EndsAs walk (length text) r
    → IfSome r (λ it. IsWrongText text it)
at_end_wrong text at walk (Some it) read none ends = ended_wrong text at walk it read none ends
at_end_wrong text at walk None read none ends = tt

pub at_end_well : (text : List ℕ) (at : ℕ) (walk : Walk) (r : Option DeckRefusal) → HasRead text at walk
    → IsUpcoming text at None → EndsAs walk (length text) r
    → IfNone r ((all : List Statement) × IsDeckOf text all)
at_end_well text at walk (Some it) read none ends = tt
at_end_well text at walk None read none ends = ended_well text at walk read none ends

-- ---- The whole text

pub text_wrong : {E : Type 0} (text : List ℕ) (r : Result (Option DeckRefusal) E) → length text ≤ longest_deck
    → IfOk r (λ a. IfSome a (λ it. IsWrongText text it))
    → IfOk r (λ a. IfSome a (λ it. IsTextRefused text it))
text_wrong text (Ok (Some it)) size wrong = by_tokens wrong.tokens it size wrong.lexing wrong.refused
text_wrong text (Ok None) size wrong = tt
text_wrong text (Err e) size wrong = tt
