-- The words and signs of canonical text, each of which is one token of its kind.
use Rattle.std.proofs.Common.{◌≡◌, ℕ, true, false, List, [], ◌∷◌, refl, subst, arith}
use Rattle.std.specs.Prelude.{codes}
use Rattle.std.specs.List.{list_all}
use Rattle.deck_tree.specs.Words.{unsupported_words}
use Rattle.deck_lexer.specs.declared.token.TokenKind.TheVariants as tokens
use Rattle.deck_lexer.specs.Bytes.{is_blank, begins_word, continues_word, begins_comparison}
use Rattle.deck_lexer.specs.Working.Reading.{kind_of}
use Rattle.deck_grammar.specs.declared.keyword.Keyword.{Keyword}
use Rattle.deck_grammar.specs.declared.keyword.Keyword.TheVariants as k
use Rattle.deck_grammar.specs.declared.sign.Sign.{Sign}
use Rattle.deck_grammar.specs.declared.sign.Sign.TheVariants as s
use Rattle.deck_grammar.specs.declared.kind.Kind.{Kind}
use Rattle.deck_grammar.specs.declared.kind.Kind.TheVariants as kinds
use Rattle.deck_grammar.specs.Words.{keyword_rows, word_rows, word_kind, sign_rows, sign_kind}
use Rattle.deck_grammar.specs.Lexemes.{lexeme}
use Rattle.deck_grammar.specs.Refusals.{open_behind}
use Rattle.deck_round.proofs.Levels.{Flat, flat_keyword}
use Rattle.deck_round.proofs.Lexing.{Closed, Anything}
use Rattle.deck_round.proofs.Pieces.{Spot, One, word, Sign as IsSignByte, sign, opening, double}

word_of : (k : Keyword) (c : ℕ) (more : List ℕ) → begins_word c ≡ true → list_all continues_word more ≡ true → word_kind (c ∷ more) ≡ kinds.Keyword k → One Closed (kinds.Keyword k) (c ∷ more)
word_of k c more begins continues is = record { spot = subst (λ (x : Kind). Spot Closed x (c ∷ more)) is (word c more begins continues); flat = flat_keyword k }

pub abut : One Closed (kinds.Keyword k.Abut) (codes "ABUT")
unfolding word_kind word_rows keyword_rows unsupported_words
abut = word_of k.Abut 65 (codes "BUT") refl refl refl

pub all : One Closed (kinds.Keyword k.All) (codes "ALL")
unfolding word_kind word_rows keyword_rows unsupported_words
all = word_of k.All 65 (codes "LL") refl refl refl

pub and : One Closed (kinds.Keyword k.And) (codes "AND")
unfolding word_kind word_rows keyword_rows unsupported_words
and = word_of k.And 65 (codes "ND") refl refl refl

pub angle : One Closed (kinds.Keyword k.Angle) (codes "ANGLE")
unfolding word_kind word_rows keyword_rows unsupported_words
angle = word_of k.Angle 65 (codes "NGLE") refl refl refl

pub area : One Closed (kinds.Keyword k.Area) (codes "AREA")
unfolding word_kind word_rows keyword_rows unsupported_words
area = word_of k.Area 65 (codes "REA") refl refl refl

pub ascii : One Closed (kinds.Keyword k.Ascii) (codes "ASCII")
unfolding word_kind word_rows keyword_rows unsupported_words
ascii = word_of k.Ascii 65 (codes "SCII") refl refl refl

pub by : One Closed (kinds.Keyword k.By) (codes "BY")
unfolding word_kind word_rows keyword_rows unsupported_words
by = word_of k.By 66 (codes "Y") refl refl refl

pub check : One Closed (kinds.Keyword k.Check) (codes "CHECK")
unfolding word_kind word_rows keyword_rows unsupported_words
check = word_of k.Check 67 (codes "HECK") refl refl refl

pub coincident : One Closed (kinds.Keyword k.Coincident) (codes "COINCIDENT")
unfolding word_kind word_rows keyword_rows unsupported_words
coincident = word_of k.Coincident 67 (codes "OINCIDENT") refl refl refl

pub copy : One Closed (kinds.Keyword k.Copy) (codes "COPY")
unfolding word_kind word_rows keyword_rows unsupported_words
copy = word_of k.Copy 67 (codes "OPY") refl refl refl

pub cut : One Closed (kinds.Keyword k.Cut) (codes "CUT")
unfolding word_kind word_rows keyword_rows unsupported_words
cut = word_of k.Cut 67 (codes "UT") refl refl refl

pub database : One Closed (kinds.Keyword k.Database) (codes "DATABASE")
unfolding word_kind word_rows keyword_rows unsupported_words
database = word_of k.Database 68 (codes "ATABASE") refl refl refl

pub datatype : One Closed (kinds.Keyword k.DataType) (codes "DATATYPE")
unfolding word_kind word_rows keyword_rows unsupported_words
datatype = word_of k.DataType 68 (codes "ATATYPE") refl refl refl

pub drc : One Closed (kinds.Keyword k.Drc) (codes "DRC")
unfolding word_kind word_rows keyword_rows unsupported_words
drc = word_of k.Drc 68 (codes "RC") refl refl refl

pub edge : One Closed (kinds.Keyword k.Edge) (codes "EDGE")
unfolding word_kind word_rows keyword_rows unsupported_words
edge = word_of k.Edge 69 (codes "DGE") refl refl refl

pub enc : One Closed (kinds.Keyword k.Enc) (codes "ENC")
unfolding word_kind word_rows keyword_rows unsupported_words
enc = word_of k.Enc 69 (codes "NC") refl refl refl

pub enclose : One Closed (kinds.Keyword k.Enclose) (codes "ENCLOSE")
unfolding word_kind word_rows keyword_rows unsupported_words
enclose = word_of k.Enclose 69 (codes "NCLOSE") refl refl refl

pub expand : One Closed (kinds.Keyword k.Expand) (codes "EXPAND")
unfolding word_kind word_rows keyword_rows unsupported_words
expand = word_of k.Expand 69 (codes "XPAND") refl refl refl

pub ext : One Closed (kinds.Keyword k.Ext) (codes "EXT")
unfolding word_kind word_rows keyword_rows unsupported_words
ext = word_of k.Ext 69 (codes "XT") refl refl refl

pub gdsii : One Closed (kinds.Keyword k.Gdsii) (codes "GDSII")
unfolding word_kind word_rows keyword_rows unsupported_words
gdsii = word_of k.Gdsii 71 (codes "DSII") refl refl refl

pub inside : One Closed (kinds.Keyword k.Inside) (codes "INSIDE")
unfolding word_kind word_rows keyword_rows unsupported_words
inside = word_of k.Inside 73 (codes "NSIDE") refl refl refl

pub int : One Closed (kinds.Keyword k.Int) (codes "INT")
unfolding word_kind word_rows keyword_rows unsupported_words
int = word_of k.Int 73 (codes "NT") refl refl refl

pub interact : One Closed (kinds.Keyword k.Interact) (codes "INTERACT")
unfolding word_kind word_rows keyword_rows unsupported_words
interact = word_of k.Interact 73 (codes "NTERACT") refl refl refl

pub layer : One Closed (kinds.Keyword k.Layer) (codes "LAYER")
unfolding word_kind word_rows keyword_rows unsupported_words
layer = word_of k.Layer 76 (codes "AYER") refl refl refl

pub layout : One Closed (kinds.Keyword k.Layout) (codes "LAYOUT")
unfolding word_kind word_rows keyword_rows unsupported_words
layout = word_of k.Layout 76 (codes "AYOUT") refl refl refl

pub length : One Closed (kinds.Keyword k.Length) (codes "LENGTH")
unfolding word_kind word_rows keyword_rows unsupported_words
length = word_of k.Length 76 (codes "ENGTH") refl refl refl

pub map : One Closed (kinds.Keyword k.Map) (codes "MAP")
unfolding word_kind word_rows keyword_rows unsupported_words
map = word_of k.Map 77 (codes "AP") refl refl refl

pub maximum : One Closed (kinds.Keyword k.Maximum) (codes "MAXIMUM")
unfolding word_kind word_rows keyword_rows unsupported_words
maximum = word_of k.Maximum 77 (codes "AXIMUM") refl refl refl

pub not : One Closed (kinds.Keyword k.Not) (codes "NOT")
unfolding word_kind word_rows keyword_rows unsupported_words
not = word_of k.Not 78 (codes "OT") refl refl refl

pub notch : One Closed (kinds.Keyword k.Notch) (codes "NOTCH")
unfolding word_kind word_rows keyword_rows unsupported_words
notch = word_of k.Notch 78 (codes "OTCH") refl refl refl

pub opposite : One Closed (kinds.Keyword k.Opposite) (codes "OPPOSITE")
unfolding word_kind word_rows keyword_rows unsupported_words
opposite = word_of k.Opposite 79 (codes "PPOSITE") refl refl refl

pub or : One Closed (kinds.Keyword k.Or) (codes "OR")
unfolding word_kind word_rows keyword_rows unsupported_words
or = word_of k.Or 79 (codes "R") refl refl refl

pub outside : One Closed (kinds.Keyword k.Outside) (codes "OUTSIDE")
unfolding word_kind word_rows keyword_rows unsupported_words
outside = word_of k.Outside 79 (codes "UTSIDE") refl refl refl

pub overunder : One Closed (kinds.Keyword k.OverUnder) (codes "OVERUNDER")
unfolding word_kind word_rows keyword_rows unsupported_words
overunder = word_of k.OverUnder 79 (codes "VERUNDER") refl refl refl

pub path : One Closed (kinds.Keyword k.Path) (codes "PATH")
unfolding word_kind word_rows keyword_rows unsupported_words
path = word_of k.Path 80 (codes "ATH") refl refl refl

pub precision : One Closed (kinds.Keyword k.Precision) (codes "PRECISION")
unfolding word_kind word_rows keyword_rows unsupported_words
precision = word_of k.Precision 80 (codes "RECISION") refl refl refl

pub primary : One Closed (kinds.Keyword k.Primary) (codes "PRIMARY")
unfolding word_kind word_rows keyword_rows unsupported_words
primary = word_of k.Primary 80 (codes "RIMARY") refl refl refl

pub rectangle : One Closed (kinds.Keyword k.Rectangle) (codes "RECTANGLE")
unfolding word_kind word_rows keyword_rows unsupported_words
rectangle = word_of k.Rectangle 82 (codes "ECTANGLE") refl refl refl

pub region : One Closed (kinds.Keyword k.Region) (codes "REGION")
unfolding word_kind word_rows keyword_rows unsupported_words
region = word_of k.Region 82 (codes "EGION") refl refl refl

pub report : One Closed (kinds.Keyword k.Report) (codes "REPORT")
unfolding word_kind word_rows keyword_rows unsupported_words
report = word_of k.Report 82 (codes "EPORT") refl refl refl

pub results : One Closed (kinds.Keyword k.Results) (codes "RESULTS")
unfolding word_kind word_rows keyword_rows unsupported_words
results = word_of k.Results 82 (codes "ESULTS") refl refl refl

pub select : One Closed (kinds.Keyword k.Select) (codes "SELECT")
unfolding word_kind word_rows keyword_rows unsupported_words
select = word_of k.Select 83 (codes "ELECT") refl refl refl

pub singular : One Closed (kinds.Keyword k.Singular) (codes "SINGULAR")
unfolding word_kind word_rows keyword_rows unsupported_words
singular = word_of k.Singular 83 (codes "INGULAR") refl refl refl

pub size : One Closed (kinds.Keyword k.Size) (codes "SIZE")
unfolding word_kind word_rows keyword_rows unsupported_words
size = word_of k.Size 83 (codes "IZE") refl refl refl

pub space : One Closed (kinds.Keyword k.Space) (codes "SPACE")
unfolding word_kind word_rows keyword_rows unsupported_words
space = word_of k.Space 83 (codes "PACE") refl refl refl

pub square : One Closed (kinds.Keyword k.Square) (codes "SQUARE")
unfolding word_kind word_rows keyword_rows unsupported_words
square = word_of k.Square 83 (codes "QUARE") refl refl refl

pub summary : One Closed (kinds.Keyword k.Summary) (codes "SUMMARY")
unfolding word_kind word_rows keyword_rows unsupported_words
summary = word_of k.Summary 83 (codes "UMMARY") refl refl refl

pub system : One Closed (kinds.Keyword k.System) (codes "SYSTEM")
unfolding word_kind word_rows keyword_rows unsupported_words
system = word_of k.System 83 (codes "YSTEM") refl refl refl

pub texttype : One Closed (kinds.Keyword k.TextType) (codes "TEXTTYPE")
unfolding word_kind word_rows keyword_rows unsupported_words
texttype = word_of k.TextType 84 (codes "EXTTYPE") refl refl refl

pub title : One Closed (kinds.Keyword k.Title) (codes "TITLE")
unfolding word_kind word_rows keyword_rows unsupported_words
title = word_of k.Title 84 (codes "ITLE") refl refl refl

pub touch : One Closed (kinds.Keyword k.Touch) (codes "TOUCH")
unfolding word_kind word_rows keyword_rows unsupported_words
touch = word_of k.Touch 84 (codes "OUCH") refl refl refl

pub underover : One Closed (kinds.Keyword k.UnderOver) (codes "UNDEROVER")
unfolding word_kind word_rows keyword_rows unsupported_words
underover = word_of k.UnderOver 85 (codes "NDEROVER") refl refl refl

pub unselect : One Closed (kinds.Keyword k.Unselect) (codes "UNSELECT")
unfolding word_kind word_rows keyword_rows unsupported_words
unselect = word_of k.Unselect 85 (codes "NSELECT") refl refl refl

pub variable : One Closed (kinds.Keyword k.Variable) (codes "VARIABLE")
unfolding word_kind word_rows keyword_rows unsupported_words
variable = word_of k.Variable 86 (codes "ARIABLE") refl refl refl

pub xor : One Closed (kinds.Keyword k.Xor) (codes "XOR")
unfolding word_kind word_rows keyword_rows unsupported_words
xor = word_of k.Xor 88 (codes "OR") refl refl refl

-- what is known of a sign that is no round bracket
flat_of : (x : Sign) → ((n at : ℕ) (bytes : List ℕ) → open_behind n (lexeme (kinds.Sign x) at bytes ∷ []) ≡ n) → (kinds.Sign x ≡ kinds.Sign s.LeftRound → ⊥) → Flat (kinds.Sign x)
flat_of x same apart = record { walks = λ n at bytes. record { shallow = (λ is full. apart is, tt); behind = same n at bytes } }

sign_of : (x : Sign) (c : ℕ) → Flat (kinds.Sign x) → IsSignByte c → sign_kind (c ∷ []) ≡ kinds.Sign x → One Closed (kinds.Sign x) (c ∷ [])
sign_of x c flat is same = record { spot = subst (λ (k : Kind). Spot Closed k (c ∷ [])) same (sign c is); flat = flat }

opening_of : (x : Sign) (c : ℕ) → IsSignByte c → begins_comparison c ≡ false → (c ≡ 47 → ⊥) → sign_kind (c ∷ []) ≡ kinds.Sign x → Spot Anything (kinds.Sign x) (c ∷ [])
opening_of x c is other apart same = subst (λ (k : Kind). Spot Anything k (c ∷ [])) same (opening c is other apart)

double_of : (x : Sign) (c : ℕ) → Flat (kinds.Sign x) → begins_comparison c ≡ true → kind_of c ≡ tokens.Sign → is_blank c ≡ false → sign_kind (c ∷ 61 ∷ []) ≡ kinds.Sign x → One Closed (kinds.Sign x) (c ∷ 61 ∷ [])
double_of x c flat is kind no_blank same = record { spot = subst (λ (k : Kind). Spot Closed k (c ∷ 61 ∷ [])) same (double c is kind no_blank); flat = flat }

pub left_brace : One Closed (kinds.Sign s.LeftBrace) (123 ∷ [])
unfolding sign_kind sign_rows
left_brace = sign_of s.LeftBrace 123 (flat_of s.LeftBrace (λ n at bytes. refl) (λ e. absurd (cc))) (record { is = refl; kind = refl; no_blank = refl }) refl

right_round_kind : sign_kind (41 ∷ []) ≡ kinds.Sign s.RightRound
unfolding sign_kind sign_rows
right_round_kind = refl

pub right_round : Spot Closed (kinds.Sign s.RightRound) (41 ∷ [])
unfolding sign_kind sign_rows
right_round = subst (λ (k : Kind). Spot Closed k (41 ∷ [])) right_round_kind (sign 41 (record { is = refl; kind = refl; no_blank = refl }))

pub right_square : One Closed (kinds.Sign s.RightSquare) (93 ∷ [])
unfolding sign_kind sign_rows
right_square = sign_of s.RightSquare 93 (flat_of s.RightSquare (λ n at bytes. refl) (λ e. absurd (cc))) (record { is = refl; kind = refl; no_blank = refl }) refl

pub equals : One Closed (kinds.Sign s.Equals) (61 ∷ [])
unfolding sign_kind sign_rows
equals = sign_of s.Equals 61 (flat_of s.Equals (λ n at bytes. refl) (λ e. absurd (cc))) (record { is = refl; kind = refl; no_blank = refl }) refl

pub less : One Closed (kinds.Sign s.Less) (60 ∷ [])
unfolding sign_kind sign_rows
less = sign_of s.Less 60 (flat_of s.Less (λ n at bytes. refl) (λ e. absurd (cc))) (record { is = refl; kind = refl; no_blank = refl }) refl

pub greater : One Closed (kinds.Sign s.Greater) (62 ∷ [])
unfolding sign_kind sign_rows
greater = sign_of s.Greater 62 (flat_of s.Greater (λ n at bytes. refl) (λ e. absurd (cc))) (record { is = refl; kind = refl; no_blank = refl }) refl

pub plus : One Closed (kinds.Sign s.Plus) (43 ∷ [])
unfolding sign_kind sign_rows
plus = sign_of s.Plus 43 (flat_of s.Plus (λ n at bytes. refl) (λ e. absurd (cc))) (record { is = refl; kind = refl; no_blank = refl }) refl

pub minus : One Closed (kinds.Sign s.Minus) (45 ∷ [])
unfolding sign_kind sign_rows
minus = sign_of s.Minus 45 (flat_of s.Minus (λ n at bytes. refl) (λ e. absurd (cc))) (record { is = refl; kind = refl; no_blank = refl }) refl

pub times : One Closed (kinds.Sign s.Times) (42 ∷ [])
unfolding sign_kind sign_rows
times = sign_of s.Times 42 (flat_of s.Times (λ n at bytes. refl) (λ e. absurd (cc))) (record { is = refl; kind = refl; no_blank = refl }) refl

pub over : One Closed (kinds.Sign s.Over) (47 ∷ [])
unfolding sign_kind sign_rows
over = sign_of s.Over 47 (flat_of s.Over (λ n at bytes. refl) (λ e. absurd (cc))) (record { is = refl; kind = refl; no_blank = refl }) refl

pub modulo : One Closed (kinds.Sign s.Modulo) (37 ∷ [])
unfolding sign_kind sign_rows
modulo = sign_of s.Modulo 37 (flat_of s.Modulo (λ n at bytes. refl) (λ e. absurd (cc))) (record { is = refl; kind = refl; no_blank = refl }) refl

pub power : One Closed (kinds.Sign s.Power) (94 ∷ [])
unfolding sign_kind sign_rows
power = sign_of s.Power 94 (flat_of s.Power (λ n at bytes. refl) (λ e. absurd (cc))) (record { is = refl; kind = refl; no_blank = refl }) refl

pub left_round : Spot Anything (kinds.Sign s.LeftRound) (40 ∷ [])
unfolding sign_kind sign_rows
left_round = opening_of s.LeftRound 40 (record { is = refl; kind = refl; no_blank = refl }) refl (λ e. omega arith) refl

pub left_square : One Anything (kinds.Sign s.LeftSquare) (91 ∷ [])
unfolding sign_kind sign_rows
left_square = record { spot = opening_of s.LeftSquare 91 (record { is = refl; kind = refl; no_blank = refl }) refl (λ e. omega arith) refl; flat = (flat_of s.LeftSquare (λ n at bytes. refl) (λ e. absurd (cc))) }

pub minus_before : One Anything (kinds.Sign s.Minus) (45 ∷ [])
unfolding sign_kind sign_rows
minus_before = record { spot = opening_of s.Minus 45 (record { is = refl; kind = refl; no_blank = refl }) refl (λ e. omega arith) refl; flat = (flat_of s.Minus (λ n at bytes. refl) (λ e. absurd (cc))) }

pub right_brace : One Closed (kinds.Sign s.RightBrace) (125 ∷ [])
unfolding sign_kind sign_rows
right_brace = sign_of s.RightBrace 125 (flat_of s.RightBrace (λ n at bytes. refl) (λ e. absurd (cc))) (record { is = refl; kind = refl; no_blank = refl }) refl

pub equal_to : One Closed (kinds.Sign s.EqualTo) (61 ∷ 61 ∷ [])
unfolding sign_kind sign_rows
equal_to = double_of s.EqualTo 61 (flat_of s.EqualTo (λ n at bytes. refl) (λ e. absurd (cc))) refl refl refl refl

pub less_or_equal : One Closed (kinds.Sign s.LessOrEqual) (60 ∷ 61 ∷ [])
unfolding sign_kind sign_rows
less_or_equal = double_of s.LessOrEqual 60 (flat_of s.LessOrEqual (λ n at bytes. refl) (λ e. absurd (cc))) refl refl refl refl

pub greater_or_equal : One Closed (kinds.Sign s.GreaterOrEqual) (62 ∷ 61 ∷ [])
unfolding sign_kind sign_rows
greater_or_equal = double_of s.GreaterOrEqual 62 (flat_of s.GreaterOrEqual (λ n at bytes. refl) (λ e. absurd (cc))) refl refl refl refl

pub not_equal : One Closed (kinds.Sign s.NotEqual) (33 ∷ 61 ∷ [])
unfolding sign_kind sign_rows
not_equal = double_of s.NotEqual 33 (flat_of s.NotEqual (λ n at bytes. refl) (λ e. absurd (cc))) refl refl refl refl
