-- Kinds with one number are one kind.
use Rattle.std.proofs.Common.{◌≡◌, ◌==◌, IsTrue, ℕ, List, [], ◌∷◌, get_or, true, refl, ap, sym, ◌∙◌}
use Rattle.std.proofs.lemmas.Bool.{eqb-true, eq-eqb}
use Rattle.deck_grammar.specs.declared.keyword.Keyword.TheVariants as k
use Rattle.deck_grammar.specs.declared.sign.Sign.TheVariants as s
use Rattle.deck_grammar.specs.declared.kind.Kind.{Kind}
use Rattle.deck_grammar.specs.declared.kind.Kind.TheVariants as kinds
use Rattle.deck_grammar.specs.Working.Numbers.{number, same_kind}

abbrev all : List Kind
all =
    (kinds.Keyword k.Abut) ∷ (kinds.Keyword k.All) ∷ (kinds.Keyword k.And) ∷ (kinds.Keyword k.Angle) ∷ (kinds.Keyword k.Append) ∷ (kinds.Keyword k.Area) ∷
    (kinds.Keyword k.Ascii) ∷ (kinds.Keyword k.By) ∷ (kinds.Keyword k.Check) ∷ (kinds.Keyword k.Coincident) ∷ (kinds.Keyword k.Copy) ∷ (kinds.Keyword k.Cut) ∷
    (kinds.Keyword k.Database) ∷ (kinds.Keyword k.DataType) ∷ (kinds.Keyword k.Drc) ∷ (kinds.Keyword k.Edge) ∷ (kinds.Keyword k.Enc) ∷ (kinds.Keyword k.Enclose) ∷
    (kinds.Keyword k.Expand) ∷ (kinds.Keyword k.Ext) ∷ (kinds.Keyword k.Gdsii) ∷ (kinds.Keyword k.Inside) ∷ (kinds.Keyword k.Int) ∷ (kinds.Keyword k.Interact) ∷
    (kinds.Keyword k.Layer) ∷ (kinds.Keyword k.Layout) ∷ (kinds.Keyword k.Length) ∷ (kinds.Keyword k.Map) ∷ (kinds.Keyword k.Maximum) ∷ (kinds.Keyword k.Not) ∷
    (kinds.Keyword k.Notch) ∷ (kinds.Keyword k.Opposite) ∷ (kinds.Keyword k.Or) ∷ (kinds.Keyword k.Outside) ∷ (kinds.Keyword k.OverUnder) ∷ (kinds.Keyword k.Path) ∷
    (kinds.Keyword k.Precision) ∷ (kinds.Keyword k.Primary) ∷ (kinds.Keyword k.Rectangle) ∷ (kinds.Keyword k.Region) ∷ (kinds.Keyword k.Replace) ∷ (kinds.Keyword k.Report) ∷
    (kinds.Keyword k.Results) ∷ (kinds.Keyword k.Select) ∷ (kinds.Keyword k.Singular) ∷ (kinds.Keyword k.Size) ∷ (kinds.Keyword k.Space) ∷ (kinds.Keyword k.Square) ∷
    (kinds.Keyword k.Summary) ∷ (kinds.Keyword k.System) ∷ (kinds.Keyword k.TextType) ∷ (kinds.Keyword k.Title) ∷ (kinds.Keyword k.Touch) ∷ (kinds.Keyword k.UnderOver) ∷
    (kinds.Keyword k.Unselect) ∷ (kinds.Keyword k.Variable) ∷ (kinds.Keyword k.Xor) ∷ kinds.SetAside ∷ kinds.Name ∷ kinds.Number ∷
    kinds.Text ∷ kinds.Note ∷ (kinds.Sign s.LeftBrace) ∷ (kinds.Sign s.RightBrace) ∷ (kinds.Sign s.LeftRound) ∷ (kinds.Sign s.RightRound) ∷
    (kinds.Sign s.LeftSquare) ∷ (kinds.Sign s.RightSquare) ∷ (kinds.Sign s.Equals) ∷ (kinds.Sign s.EqualTo) ∷ (kinds.Sign s.Less) ∷ (kinds.Sign s.LessOrEqual) ∷
    (kinds.Sign s.Greater) ∷ (kinds.Sign s.GreaterOrEqual) ∷ (kinds.Sign s.NotEqual) ∷ (kinds.Sign s.Plus) ∷ (kinds.Sign s.Minus) ∷ (kinds.Sign s.Times) ∷
    (kinds.Sign s.Over) ∷ (kinds.Sign s.Modulo) ∷ (kinds.Sign s.Power) ∷ []

numbered : (a : Kind) → get_or all (number a) kinds.SetAside ≡ a
numbered (kinds.Keyword k.Abut) = refl
numbered (kinds.Keyword k.All) = refl
numbered (kinds.Keyword k.And) = refl
numbered (kinds.Keyword k.Angle) = refl
numbered (kinds.Keyword k.Append) = refl
numbered (kinds.Keyword k.Area) = refl
numbered (kinds.Keyword k.Ascii) = refl
numbered (kinds.Keyword k.By) = refl
numbered (kinds.Keyword k.Check) = refl
numbered (kinds.Keyword k.Coincident) = refl
numbered (kinds.Keyword k.Copy) = refl
numbered (kinds.Keyword k.Cut) = refl
numbered (kinds.Keyword k.Database) = refl
numbered (kinds.Keyword k.DataType) = refl
numbered (kinds.Keyword k.Drc) = refl
numbered (kinds.Keyword k.Edge) = refl
numbered (kinds.Keyword k.Enc) = refl
numbered (kinds.Keyword k.Enclose) = refl
numbered (kinds.Keyword k.Expand) = refl
numbered (kinds.Keyword k.Ext) = refl
numbered (kinds.Keyword k.Gdsii) = refl
numbered (kinds.Keyword k.Inside) = refl
numbered (kinds.Keyword k.Int) = refl
numbered (kinds.Keyword k.Interact) = refl
numbered (kinds.Keyword k.Layer) = refl
numbered (kinds.Keyword k.Layout) = refl
numbered (kinds.Keyword k.Length) = refl
numbered (kinds.Keyword k.Map) = refl
numbered (kinds.Keyword k.Maximum) = refl
numbered (kinds.Keyword k.Not) = refl
numbered (kinds.Keyword k.Notch) = refl
numbered (kinds.Keyword k.Opposite) = refl
numbered (kinds.Keyword k.Or) = refl
numbered (kinds.Keyword k.Outside) = refl
numbered (kinds.Keyword k.OverUnder) = refl
numbered (kinds.Keyword k.Path) = refl
numbered (kinds.Keyword k.Precision) = refl
numbered (kinds.Keyword k.Primary) = refl
numbered (kinds.Keyword k.Rectangle) = refl
numbered (kinds.Keyword k.Region) = refl
numbered (kinds.Keyword k.Replace) = refl
numbered (kinds.Keyword k.Report) = refl
numbered (kinds.Keyword k.Results) = refl
numbered (kinds.Keyword k.Select) = refl
numbered (kinds.Keyword k.Singular) = refl
numbered (kinds.Keyword k.Size) = refl
numbered (kinds.Keyword k.Space) = refl
numbered (kinds.Keyword k.Square) = refl
numbered (kinds.Keyword k.Summary) = refl
numbered (kinds.Keyword k.System) = refl
numbered (kinds.Keyword k.TextType) = refl
numbered (kinds.Keyword k.Title) = refl
numbered (kinds.Keyword k.Touch) = refl
numbered (kinds.Keyword k.UnderOver) = refl
numbered (kinds.Keyword k.Unselect) = refl
numbered (kinds.Keyword k.Variable) = refl
numbered (kinds.Keyword k.Xor) = refl
numbered kinds.SetAside = refl
numbered kinds.Name = refl
numbered kinds.Number = refl
numbered kinds.Text = refl
numbered kinds.Note = refl
numbered (kinds.Sign s.LeftBrace) = refl
numbered (kinds.Sign s.RightBrace) = refl
numbered (kinds.Sign s.LeftRound) = refl
numbered (kinds.Sign s.RightRound) = refl
numbered (kinds.Sign s.LeftSquare) = refl
numbered (kinds.Sign s.RightSquare) = refl
numbered (kinds.Sign s.Equals) = refl
numbered (kinds.Sign s.EqualTo) = refl
numbered (kinds.Sign s.Less) = refl
numbered (kinds.Sign s.LessOrEqual) = refl
numbered (kinds.Sign s.Greater) = refl
numbered (kinds.Sign s.GreaterOrEqual) = refl
numbered (kinds.Sign s.NotEqual) = refl
numbered (kinds.Sign s.Plus) = refl
numbered (kinds.Sign s.Minus) = refl
numbered (kinds.Sign s.Times) = refl
numbered (kinds.Sign s.Over) = refl
numbered (kinds.Sign s.Modulo) = refl
numbered (kinds.Sign s.Power) = refl

pub same_is : (a b : Kind) → same_kind a b ≡ true → a ≡ b
same_is a b e = sym (numbered a) ∙ ap (λ n. get_or all n kinds.SetAside) (eqb-true (number a) (number b) e) ∙ numbered b

pub is_same : (a b : Kind) → a ≡ b → same_kind a b ≡ true
is_same a b e = eq-eqb (number a) (number b) (ap number e)

pub by_numbers : (a b : Kind) (x y : ℕ) → x ≡ number a → y ≡ number b → (IsTrue (x == y) → a ≡ b) × (a ≡ b → IsTrue (x == y))
by_numbers a b x y p q =
    (λ t. same_is a b (eq-eqb (number a) (number b) (sym p ∙ eqb-true x y t ∙ q)), λ e. eq-eqb x y (p ∙ ap number e ∙ sym q))
