-- What a word and a sign are to the grammar.
use Rattle.std.specs.Prelude.{ℕ, ◌==◌, Bool, false, if◌then◌else◌, List, [], ◌∷◌, ◌++◌, map, codes}
use Rattle.std.specs.Str.{str_eq_ignore_ascii_case}
use Rattle.deck_tree.specs.Words.{unsupported_words}
use Rattle.deck_grammar.specs.declared.keyword.Keyword.{Keyword}
use Rattle.deck_grammar.specs.declared.keyword.Keyword.TheVariants as k
use Rattle.deck_grammar.specs.declared.sign.Sign.TheVariants as s
use Rattle.deck_grammar.specs.declared.kind.Kind.{Kind}
use Rattle.deck_grammar.specs.declared.kind.Kind.TheVariants as kinds

-- the words that statements and operations are made of, each with its keyword
unfoldable pub keyword_rows : List (List ℕ × Keyword)
keyword_rows =
    (codes "ABUT", k.Abut) ∷ (codes "ALL", k.All) ∷ (codes "AND", k.And) ∷ (codes "ANGLE", k.Angle)
    ∷ (codes "APPEND", k.Append) ∷ (codes "AREA", k.Area) ∷ (codes "ASCII", k.Ascii) ∷ (codes "BY", k.By)
    ∷ (codes "CHECK", k.Check) ∷ (codes "COINCIDENT", k.Coincident) ∷ (codes "COPY", k.Copy) ∷ (codes "CUT", k.Cut)
    ∷ (codes "DATABASE", k.Database) ∷ (codes "DATATYPE", k.DataType) ∷ (codes "DRC", k.Drc) ∷ (codes "EDGE", k.Edge)
    ∷ (codes "ENC", k.Enc) ∷ (codes "ENCLOSE", k.Enclose) ∷ (codes "ENCLOSURE", k.Enc) ∷ (codes "EXPAND", k.Expand)
    ∷ (codes "EXT", k.Ext) ∷ (codes "EXTERNAL", k.Ext) ∷ (codes "GDSII", k.Gdsii) ∷ (codes "INSIDE", k.Inside)
    ∷ (codes "INT", k.Int) ∷ (codes "INTERACT", k.Interact) ∷ (codes "INTERNAL", k.Int) ∷ (codes "LAYER", k.Layer)
    ∷ (codes "LAYOUT", k.Layout) ∷ (codes "LENGTH", k.Length) ∷ (codes "MAP", k.Map) ∷ (codes "MAXIMUM", k.Maximum)
    ∷ (codes "NOT", k.Not) ∷ (codes "NOTCH", k.Notch) ∷ (codes "OPPOSITE", k.Opposite) ∷ (codes "OR", k.Or)
    ∷ (codes "OUTSIDE", k.Outside) ∷ (codes "OVERUNDER", k.OverUnder) ∷ (codes "PATH", k.Path) ∷ (codes "PRECISION", k.Precision)
    ∷ (codes "PRIMARY", k.Primary) ∷ (codes "RECTANGLE", k.Rectangle) ∷ (codes "REGION", k.Region) ∷ (codes "REPLACE", k.Replace)
    ∷ (codes "REPORT", k.Report) ∷ (codes "RESULTS", k.Results) ∷ (codes "SELECT", k.Select) ∷ (codes "SINGULAR", k.Singular)
    ∷ (codes "SIZE", k.Size) ∷ (codes "SPACE", k.Space) ∷ (codes "SQUARE", k.Square) ∷ (codes "SUMMARY", k.Summary)
    ∷ (codes "SYSTEM", k.System) ∷ (codes "TEXTTYPE", k.TextType) ∷ (codes "TITLE", k.Title) ∷ (codes "TOUCH", k.Touch)
    ∷ (codes "UNDEROVER", k.UnderOver) ∷ (codes "UNSELECT", k.Unselect) ∷ (codes "VARIABLE", k.Variable) ∷ (codes "XOR", k.Xor)
    ∷ []

-- what is said of each word of the language: the keywords, and then those that are set aside
unfoldable pub word_rows : List (List ℕ × Kind)
unfolding keyword_rows unsupported_words
word_rows = map (λ row. (row.0, kinds.Keyword row.1)) keyword_rows ++ map (λ word. (word, kinds.SetAside)) unsupported_words

unfoldable pub sign_rows : List (List ℕ × Kind)
sign_rows =
    (codes "{", kinds.Sign s.LeftBrace) ∷ (codes "}", kinds.Sign s.RightBrace) ∷ (codes "(", kinds.Sign s.LeftRound)
    ∷ (codes ")", kinds.Sign s.RightRound) ∷ (codes "[", kinds.Sign s.LeftSquare) ∷ (codes "]", kinds.Sign s.RightSquare)
    ∷ (codes "=", kinds.Sign s.Equals) ∷ (codes "==", kinds.Sign s.EqualTo) ∷ (codes "<", kinds.Sign s.Less)
    ∷ (codes "<=", kinds.Sign s.LessOrEqual) ∷ (codes ">", kinds.Sign s.Greater) ∷ (codes ">=", kinds.Sign s.GreaterOrEqual)
    ∷ (codes "!=", kinds.Sign s.NotEqual) ∷ (codes "+", kinds.Sign s.Plus) ∷ (codes "-", kinds.Sign s.Minus)
    ∷ (codes "*", kinds.Sign s.Times) ∷ (codes "/", kinds.Sign s.Over) ∷ (codes "%", kinds.Sign s.Modulo)
    ∷ (codes "^", kinds.Sign s.Power)
    ∷ []

-- the kind of the first row with this word, in any case of letters, or else another
abbrev pub lookup : Kind → List (List ℕ × Kind) → List ℕ → Kind
lookup otherwise [] word = otherwise
lookup otherwise (row ∷ more) word = if str_eq_ignore_ascii_case row.0 word then row.1 else lookup otherwise more word

-- a word that begins with `#`
abbrev pub begins_with_hash : List ℕ → Bool
begins_with_hash [] = false
begins_with_hash (c ∷ more) = c == 35

-- a word that begins with `#` is set aside, and a word of no row is a name
unfoldable pub word_kind : List ℕ → Kind
word_kind word = if begins_with_hash word then kinds.SetAside else lookup kinds.Name word_rows word

unfoldable pub sign_kind : List ℕ → Kind
sign_kind sign = lookup kinds.SetAside sign_rows sign
