-- Kinds of tokens, numbered, by which two are compared.
use Rattle.std.specs.Prelude.{ℕ, ◌==◌, Bool}
use Rattle.deck_grammar.specs.declared.keyword.Keyword.TheVariants as k
use Rattle.deck_grammar.specs.declared.sign.Sign.TheVariants as s
use Rattle.deck_grammar.specs.declared.kind.Kind.{Kind}
use Rattle.deck_grammar.specs.declared.kind.Kind.TheVariants as kinds

abbrev pub number : Kind → ℕ
number (kinds.Keyword k.Abut) = 0
number (kinds.Keyword k.All) = 1
number (kinds.Keyword k.And) = 2
number (kinds.Keyword k.Angle) = 3
number (kinds.Keyword k.Append) = 4
number (kinds.Keyword k.Area) = 5
number (kinds.Keyword k.Ascii) = 6
number (kinds.Keyword k.By) = 7
number (kinds.Keyword k.Check) = 8
number (kinds.Keyword k.Coincident) = 9
number (kinds.Keyword k.Copy) = 10
number (kinds.Keyword k.Cut) = 11
number (kinds.Keyword k.Database) = 12
number (kinds.Keyword k.DataType) = 13
number (kinds.Keyword k.Drc) = 14
number (kinds.Keyword k.Edge) = 15
number (kinds.Keyword k.Enc) = 16
number (kinds.Keyword k.Enclose) = 17
number (kinds.Keyword k.Expand) = 18
number (kinds.Keyword k.Ext) = 19
number (kinds.Keyword k.Gdsii) = 20
number (kinds.Keyword k.Inside) = 21
number (kinds.Keyword k.Int) = 22
number (kinds.Keyword k.Interact) = 23
number (kinds.Keyword k.Layer) = 24
number (kinds.Keyword k.Layout) = 25
number (kinds.Keyword k.Length) = 26
number (kinds.Keyword k.Map) = 27
number (kinds.Keyword k.Maximum) = 28
number (kinds.Keyword k.Not) = 29
number (kinds.Keyword k.Notch) = 30
number (kinds.Keyword k.Opposite) = 31
number (kinds.Keyword k.Or) = 32
number (kinds.Keyword k.Outside) = 33
number (kinds.Keyword k.OverUnder) = 34
number (kinds.Keyword k.Path) = 35
number (kinds.Keyword k.Precision) = 36
number (kinds.Keyword k.Primary) = 37
number (kinds.Keyword k.Rectangle) = 38
number (kinds.Keyword k.Region) = 39
number (kinds.Keyword k.Replace) = 40
number (kinds.Keyword k.Report) = 41
number (kinds.Keyword k.Results) = 42
number (kinds.Keyword k.Select) = 43
number (kinds.Keyword k.Singular) = 44
number (kinds.Keyword k.Size) = 45
number (kinds.Keyword k.Space) = 46
number (kinds.Keyword k.Square) = 47
number (kinds.Keyword k.Summary) = 48
number (kinds.Keyword k.System) = 49
number (kinds.Keyword k.TextType) = 50
number (kinds.Keyword k.Title) = 51
number (kinds.Keyword k.Touch) = 52
number (kinds.Keyword k.UnderOver) = 53
number (kinds.Keyword k.Unselect) = 54
number (kinds.Keyword k.Variable) = 55
number (kinds.Keyword k.Xor) = 56
number kinds.SetAside = 57
number kinds.Name = 58
number kinds.Number = 59
number kinds.Text = 60
number kinds.Note = 61
number (kinds.Sign s.LeftBrace) = 62
number (kinds.Sign s.RightBrace) = 63
number (kinds.Sign s.LeftRound) = 64
number (kinds.Sign s.RightRound) = 65
number (kinds.Sign s.LeftSquare) = 66
number (kinds.Sign s.RightSquare) = 67
number (kinds.Sign s.Equals) = 68
number (kinds.Sign s.EqualTo) = 69
number (kinds.Sign s.Less) = 70
number (kinds.Sign s.LessOrEqual) = 71
number (kinds.Sign s.Greater) = 72
number (kinds.Sign s.GreaterOrEqual) = 73
number (kinds.Sign s.NotEqual) = 74
number (kinds.Sign s.Plus) = 75
number (kinds.Sign s.Minus) = 76
number (kinds.Sign s.Times) = 77
number (kinds.Sign s.Over) = 78
number (kinds.Sign s.Modulo) = 79
number (kinds.Sign s.Power) = 80

abbrev pub same_kind : Kind → Kind → Bool
same_kind a b = number a == number b
