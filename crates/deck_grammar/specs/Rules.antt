-- The rules of the grammar, what each of them spells, and the parts that an alternative is made of.
use Rattle.std.specs.Prelude.{ℕ, Bool, List, [], ◌∷◌, Option}
use Rattle.deck_tree.specs.declared.name_at.NameAt.{NameAt}
use Rattle.deck_tree.specs.declared.number.Number.{Number}
use Rattle.deck_tree.specs.declared.value.Value.{Value}
use Rattle.deck_tree.specs.declared.value.Addend.{Addend}
use Rattle.deck_tree.specs.declared.value.Product.{Product}
use Rattle.deck_tree.specs.declared.value.Factor.{Factor}
use Rattle.deck_tree.specs.declared.value.Power.{Power}
use Rattle.deck_tree.specs.declared.value.Exponent.{Exponent}
use Rattle.deck_tree.specs.declared.value.Atom.{Atom}
use Rattle.deck_tree.specs.declared.limits.Bound.{Bound}
use Rattle.deck_tree.specs.declared.limits.Limits.{Limits}
use Rattle.deck_tree.specs.declared.layer.Layer.{Layer}
use Rattle.deck_tree.specs.declared.layer.Operation.{Operation}
use Rattle.deck_tree.specs.declared.layer.Primary.{Primary}
use Rattle.deck_tree.specs.declared.layer.Term.{Term}
use Rattle.deck_tree.specs.declared.layer.Turn.{Turn}
use Rattle.deck_tree.specs.declared.layer.ExpandSide.{ExpandSide}
use Rattle.deck_tree.specs.declared.infix.Infix.{Infix}
use Rattle.deck_tree.specs.declared.distance.Distance.{Distance}
use Rattle.deck_tree.specs.declared.distance.DistanceKind.{DistanceKind}
use Rattle.deck_tree.specs.declared.distance.Options.{Options}
use Rattle.deck_tree.specs.declared.statement.Statement.{Statement}
use Rattle.deck_tree.specs.declared.statement.Item.{Item}
use Rattle.deck_tree.specs.declared.statement.MapKind.{MapKind}
use Rattle.deck_grammar.specs.declared.keyword.Keyword.{Keyword}
use Rattle.deck_grammar.specs.declared.sign.Sign.{Sign}
use Rattle.deck_grammar.specs.declared.kind.Kind.{Kind}
use Rattle.deck_grammar.specs.declared.kind.Kind.TheVariants as kinds
use Rattle.deck_grammar.specs.Lexemes.{Lexeme}

-- which options of a check may still stand: ABUT, SINGULAR, OPPOSITE or SQUARE, NOTCH or SPACE, REGION
pub data Left : Type 0 where
  left : (abut singular metric gap region : Bool) → Left

pub data Rule : Type 0 where
  statements statement file names numbers ascii mode map_kind items : Rule
  value addends product factors power exponent atom : Rule
  layer operations infix_operation primary term limits upper bound turn side : Rule
  distance : DistanceKind → Rule
  options : Left → Rule

-- an operation between two layers, and the offset of its first keyword
pub record Placed : Type 0 where
  pub at : ℕ
  pub operator : Infix

-- what a rule spells
abbrev pub Tree : Rule → Type 0
Tree statements = List Statement
Tree statement = Statement
Tree file = NameAt
Tree names = List NameAt
Tree numbers = List Number
Tree ascii = Unit {0}
Tree mode = Unit {0}
Tree map_kind = MapKind
Tree items = List Item
Tree value = Value
Tree addends = List Addend
Tree product = Product
Tree factors = List Factor
Tree power = Power
Tree exponent = Option Exponent
Tree atom = Atom
Tree layer = Layer
Tree operations = List Operation
Tree infix_operation = Placed
Tree primary = Primary
Tree term = Term
Tree limits = Limits
Tree upper = Option Bound
Tree bound = Bound
Tree turn = Option Turn
Tree side = ExpandSide
Tree (distance kind) = Distance
Tree (options those) = Options

-- a part of an alternative: one token, or what a rule spells
pub data Part : Type 0 where
  token : Kind → Part
  rule : Rule → Part

abbrev pub word : Keyword → Part
word k = token (kinds.Keyword k)

abbrev pub sign : Sign → Part
sign s = token (kinds.Sign s)

-- what the parts together spell, from each token and from what each rule spells
abbrev pub Meaning : List Part → Type 0 → Type 0
Meaning [] T = T
Meaning (token k ∷ more) T = Lexeme → Meaning more T
Meaning (rule r ∷ more) T = Tree r → Meaning more T

-- an alternative of a rule: its parts, and what they spell
pub record Production (r : Rule) : Type 0 where
  pub parts : List Part
  pub tree : Meaning parts (Tree r)

infixr 4 ◌⟹◌
abbrev pub ◌⟹◌ : {r : Rule} → (parts : List Part) → Meaning parts (Tree r) → Production r
parts ⟹ tree = record { parts = parts; tree = tree }
