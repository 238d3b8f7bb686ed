-- A token that comes ends within the text.
use Rattle.std.proofs.Common.{◌≡◌, IsTrue, true, false, ℕ, ◌+◌, ◌≤◌, List, length, drop, Option, Some, None, Result, Ok, Err, refl, subst, sym, ap, ◌∙◌, arith, length-append, length-drop}
use Rattle.deck_lexer.specs.declared.token.Token.{Token}
use Rattle.deck_lexer.specs.declared.token.LexFault.{LexFault}
use Rattle.deck_lexer.specs.Tokens.{Comes}
use Rattle.deck_lexer.proofs.OneGap.{one_comes}
use Rattle.deck_grammar.specs.declared.kind.Kind.{Kind}
use Rattle.deck_grammar.specs.Lexemes.{Lexeme, kind}
use Rattle.deck_cursor.specs.Places.{Place, Takes, TakesNone, Sees, SeesBehind, kind_in, bytes_of, lexeme_of}
use Rattle.deck_cursor.specs.Inside.{IsUpcoming}

pub upcoming_is : (text : List ℕ) (at : ℕ) (t : Token) → at ≤ length text → Comes at (drop at text) (Ok (Some t)) → IsUpcoming text at (Some t)
upcoming_is text at t within comes = (
  comes,
  omega (arith, comes.stands.start, comes.stands.end),
  omega (arith, comes.stands.end, ap length comes.whole, ap length comes.stands.whole, length-append comes.gap comes.behind, length-append comes.stands.spelled comes.stands.behind, length-drop at text),
)

pub no_token : (text : List ℕ) (at : ℕ) → Comes at (drop at text) (Ok None) → IsUpcoming text at None
no_token text at comes token other =
    let e : ◌≡◌ {A = Result (Option Token) LexFault} (Ok None) (Ok (Some token)) = one_comes at (drop at text) (Ok None) (Ok (Some token)) comes other in cc

pub no_token_at_a_fact : (text : List ℕ) (at : ℕ) (fault : LexFault) → Comes at (drop at text) (Err fault) → IsUpcoming text at None
no_token_at_a_fact text at fault comes token other =
    let e : ◌≡◌ {A = Result (Option Token) LexFault} (Err fault) (Ok (Some token)) = one_comes at (drop at text) (Err fault) (Ok (Some token)) comes other in cc

abbrev pub here : List ℕ → ℕ → ℕ → Place
here text at brackets = record { text = text; at = at; brackets = brackets }

pub sees_none : (text : List ℕ) (at brackets : ℕ) (ahead : Option Token) → IsUpcoming text at ahead → ahead ≡ None → Sees (here text at brackets) None
sees_none text at brackets ahead upcoming e = subst (IsUpcoming text at) e upcoming

pub sees_some : (text : List ℕ) (at brackets : ℕ) (ahead : Option Token) (token : Token) (k : Kind) → IsUpcoming text at ahead → ahead ≡ Some token
    → k ≡ kind_in token.kind (bytes_of text token) → Sees (here text at brackets) (Some k)
sees_some text at brackets ahead token k upcoming e is = (token, (subst (IsUpcoming text at) e upcoming).0, is)

pub seen_there : (text : List ℕ) (at brackets : ℕ) (place : Place) (seen : Option Kind) → here text at brackets ≡ place → Sees (here text at brackets) seen → Sees place seen
seen_there text at brackets place seen e sees = let P : Place → Type 0 = λ p. Sees p seen in subst P e sees

pub nothing_behind : (text : List ℕ) (at brackets : ℕ) (place : Place) (ahead : Option Token) → here text at brackets ≡ place → IsUpcoming text at ahead → ahead ≡ None
    → SeesBehind place None
nothing_behind text at brackets place ahead e upcoming is =
    let P : Place → Type 0 = λ p. SeesBehind p None in
    let none : IsUpcoming text at None = subst (IsUpcoming text at) is upcoming in
    subst P e ((λ first comes. absurd (none first comes)), (λ h. refl))

pub behind_is : (text : List ℕ) (at brackets : ℕ) (place : Place) (ahead : Option Token) (first : Token) (seen : Option Kind) → here text at brackets ≡ place
    → IsUpcoming text at ahead → ahead ≡ Some first → Sees (here text first.end brackets) seen → SeesBehind place seen
behind_is text at brackets place ahead first seen e upcoming is sees =
    let P : Place → Type 0 = λ p. SeesBehind p seen in
    let comes : Comes at (drop at text) (Ok (Some first)) = (subst (IsUpcoming text at) is upcoming).0 in
    let Q : Token → Type 0 = λ t. Sees (here text t.end brackets) seen in
    subst P e (
      (λ other there.
          let same : ◌≡◌ {A = Result (Option Token) LexFault} (Ok (Some first)) (Ok (Some other)) = one_comes at (drop at text) (Ok (Some first)) (Ok (Some other)) comes there in
          let one : first ≡ other = cc in subst Q one sees),
      (λ h. absurd (h first comes)),
    )

-- ---- Tokens that aren't taken

pub none_to_take : (text : List ℕ) (at brackets : ℕ) (place : Place) (ahead : Option Token) (k : Kind) → here text at brackets ≡ place → IsUpcoming text at ahead
    → ahead ≡ None → TakesNone place k
none_to_take text at brackets place ahead k e upcoming is =
    let P : Place → Type 0 = λ p. TakesNone p k in
    let none : IsUpcoming text at None = subst (IsUpcoming text at) is upcoming in
    subst P e (λ taken to takes kind_is. none takes.token takes.comes)

-- the token that is taken is the one that comes
one_to_take : (text : List ℕ) (at brackets : ℕ) (ahead : Option Token) (token : Token) (taken : Lexeme) (to : Place) → IsUpcoming text at ahead → ahead ≡ Some token
    → Takes (here text at brackets) taken to → taken ≡ lexeme_of text token
one_to_take text at brackets ahead token taken to upcoming is takes =
    let comes : Comes at (drop at text) (Ok (Some token)) = (subst (IsUpcoming text at) is upcoming).0 in
    let same : ◌≡◌ {A = Result (Option Token) LexFault} (Ok (Some takes.token)) (Ok (Some token)) =
    one_comes at (drop at text) (Ok (Some takes.token)) (Ok (Some token)) takes.comes comes in
    let one : takes.token ≡ token = cc in
    takes.is ∙ ap (lexeme_of text) one

pub another_to_take : (text : List ℕ) (at brackets : ℕ) (place : Place) (ahead : Option Token) (token : Token) (k seen : Kind) → here text at brackets ≡ place
    → IsUpcoming text at ahead → ahead ≡ Some token → seen ≡ kind_in token.kind (bytes_of text token) → (seen ≡ k → ⊥) → TakesNone place k
another_to_take text at brackets place ahead token k seen e upcoming is sees differs =
    let P : Place → Type 0 = λ p. TakesNone p k in
    subst P e (λ taken to takes kind_is. differs (sees ∙ sym (ap kind (one_to_take text at brackets ahead token taken to upcoming is takes)) ∙ kind_is))

pub never : IsTrue false → ⊥
never e = cc

-- ---- The end

pub no_some : (token : Token) → ◌≡◌ {A = Result (Option Token) LexFault} (Ok (Some token)) (Ok None) → ⊥
no_some token e = cc

pub no_err : (fault : LexFault) → ◌≡◌ {A = Result (Option Token) LexFault} (Err fault) (Ok None) → ⊥
no_err fault e = cc

pub at_end : (text : List ℕ) (at : ℕ) (a : Result (Option Token) LexFault) → Comes at (drop at text) a → a ≡ Ok None
    → (IsTrue true → Comes at (drop at text) (Ok None)) × (Comes at (drop at text) (Ok None) → IsTrue true)
at_end text at a comes e =
    let P : Result (Option Token) LexFault → Type 0 = λ x. Comes at (drop at text) x in (λ t. subst P e comes, λ h. refl)

pub not_at_end : (text : List ℕ) (at : ℕ) (a x : Result (Option Token) LexFault) → Comes at (drop at text) a → a ≡ x → (x ≡ Ok None → ⊥)
    → (IsTrue false → Comes at (drop at text) (Ok None)) × (Comes at (drop at text) (Ok None) → IsTrue false)
not_at_end text at a x comes e other =
    (λ t. absurd (never t), λ h. absurd (other (sym e ∙ one_comes at (drop at text) a (Ok None) comes h)))
