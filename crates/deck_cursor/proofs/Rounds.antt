-- Round brackets, token by token.
use Rattle.std.proofs.Common.{◌≡◌, ℕ, List, [], ◌∷◌, ◌++◌, refl, ap, sym, subst, ◌∙◌}
use Rattle.deck_grammar.specs.declared.keyword.Keyword.{Keyword}
use Rattle.deck_grammar.specs.declared.kind.Kind.{Kind}
use Rattle.deck_grammar.specs.declared.kind.Kind.TheVariants as kinds
use Rattle.deck_grammar.specs.declared.sign.Sign.TheVariants as s
use Rattle.deck_grammar.specs.Lexemes.{Lexeme, lexeme, kind}
use Rattle.deck_tree.specs.WellFormed.{most_nested}
use Rattle.deck_grammar.specs.Refusals.{open_behind, IsTooDeep}

-- none of the tokens opens a bracket too many, where so many are open before them
abbrev pub Shallow : ℕ → List Lexeme → Type 0
Shallow n [] = Unit {0}
Shallow n (t ∷ more) = (kind t ≡ kinds.Sign s.LeftRound → n ≡ most_nested → ⊥) × Shallow (open_behind n (t ∷ [])) more

pub one_by_one : (n : ℕ) (t : Lexeme) (more : List Lexeme) → open_behind n (t ∷ more) ≡ open_behind (open_behind n (t ∷ [])) more
one_by_one n (lexeme (kinds.Keyword w) at bytes) more = refl
one_by_one n (lexeme kinds.SetAside at bytes) more = refl
one_by_one n (lexeme kinds.Name at bytes) more = refl
one_by_one n (lexeme kinds.Number at bytes) more = refl
one_by_one n (lexeme kinds.Text at bytes) more = refl
one_by_one n (lexeme kinds.Note at bytes) more = refl
one_by_one n (lexeme (kinds.Sign s.LeftBrace) at bytes) more = refl
one_by_one n (lexeme (kinds.Sign s.RightBrace) at bytes) more = refl
one_by_one n (lexeme (kinds.Sign s.LeftRound) at bytes) more = refl
one_by_one n (lexeme (kinds.Sign s.RightRound) at bytes) more = refl
one_by_one n (lexeme (kinds.Sign s.LeftSquare) at bytes) more = refl
one_by_one n (lexeme (kinds.Sign s.RightSquare) at bytes) more = refl
one_by_one n (lexeme (kinds.Sign s.Equals) at bytes) more = refl
one_by_one n (lexeme (kinds.Sign s.EqualTo) at bytes) more = refl
one_by_one n (lexeme (kinds.Sign s.Less) at bytes) more = refl
one_by_one n (lexeme (kinds.Sign s.LessOrEqual) at bytes) more = refl
one_by_one n (lexeme (kinds.Sign s.Greater) at bytes) more = refl
one_by_one n (lexeme (kinds.Sign s.GreaterOrEqual) at bytes) more = refl
one_by_one n (lexeme (kinds.Sign s.NotEqual) at bytes) more = refl
one_by_one n (lexeme (kinds.Sign s.Plus) at bytes) more = refl
one_by_one n (lexeme (kinds.Sign s.Minus) at bytes) more = refl
one_by_one n (lexeme (kinds.Sign s.Times) at bytes) more = refl
one_by_one n (lexeme (kinds.Sign s.Over) at bytes) more = refl
one_by_one n (lexeme (kinds.Sign s.Modulo) at bytes) more = refl
one_by_one n (lexeme (kinds.Sign s.Power) at bytes) more = refl

too_deep : (n : ℕ) (tokens before : List Lexeme) (token : Lexeme) (behind : List Lexeme) → Shallow n tokens → tokens ≡ before ++ token ∷ behind
    → kind token ≡ kinds.Sign s.LeftRound → open_behind n before ≡ most_nested → ⊥
too_deep n [] [] token behind shallow e is deep = absurd (cc)
too_deep n [] (b ∷ before) token behind shallow e is deep = absurd (cc)
too_deep n (t ∷ tokens) [] token behind shallow e is deep =
    let same : t ≡ token = cc in
    shallow.0 (ap kind same ∙ is) deep
too_deep n (t ∷ tokens) (b ∷ before) token behind shallow e is deep =
    let same : t ≡ b = cc in
    let rest : tokens ≡ before ++ token ∷ behind = cc in
    too_deep (open_behind n (t ∷ [])) tokens before token behind shallow.1 rest is
    (ap (λ x. open_behind (open_behind n (x ∷ [])) before) same ∙ sym (one_by_one n b before) ∙ deep)

-- where none is one too many from the start, none is too deep
pub none_too_deep : (tokens : List Lexeme) → Shallow 0 tokens → (before : List Lexeme) (token : Lexeme) (behind : List Lexeme)
    → tokens ≡ before ++ token ∷ behind → IsTooDeep before token → ⊥
none_too_deep tokens shallow before token behind e deep = too_deep 0 tokens before token behind shallow e deep.0 deep.1
