-- Where a list of tokens that spells no deck goes wrong, and why. The first token at which it does is refused, and
-- where there is none the end of the text; a deck that is spelled lacks no statement that must be there, and has each
-- of those that stand alone once.
use Rattle.std.specs.Prelude.{◌≡◌, ℕ, suc, ◌-◌, List, [], ◌∷◌, ◌++◌, map, Contains, Option, Some, None}
use Rattle.std.specs.List.{filter_map}
use Rattle.deck_tree.specs.declared.statement.Statement.{Statement}
use Rattle.deck_tree.specs.declared.statement.Statement.TheVariants as statement
use Rattle.deck_tree.specs.declared.refusal.Single.{Single}
use Rattle.deck_tree.specs.declared.refusal.Single.TheVariants as single
use Rattle.deck_tree.specs.declared.refusal.Counted.TheVariants as counted
use Rattle.deck_tree.specs.declared.refusal.DeckKind.{DeckKind}
use Rattle.deck_tree.specs.declared.refusal.DeckKind.TheVariants as reasons
use Rattle.deck_tree.specs.declared.refusal.DeckRefusal.{DeckRefusal}
use Rattle.deck_tree.specs.WellFormed.{most_nested}
use Rattle.deck_grammar.specs.declared.keyword.Keyword.{Keyword}
use Rattle.deck_grammar.specs.declared.keyword.Keyword.TheVariants as k
use Rattle.deck_grammar.specs.declared.sign.Sign.{Sign}
use Rattle.deck_grammar.specs.declared.sign.Sign.TheVariants as s
use Rattle.deck_grammar.specs.declared.kind.Kind.{Kind}
use Rattle.deck_grammar.specs.declared.kind.Kind.TheVariants as kinds
use Rattle.deck_grammar.specs.Lexemes.{Lexeme, lexeme, kind, at}
use Rattle.deck_grammar.specs.Spelling.{SpellsDeck, Viable}

-- ---- Tokens of the language that are set aside

-- the last tokens are of these kinds
abbrev pub EndsIn : List Lexeme → List Kind → Type 0
EndsIn tokens those = (front : List Lexeme) × (last : List Lexeme) × (tokens ≡ front ++ last) × (map kind last ≡ those)

-- the first keywords of the operations between layers
abbrev pub infix_words : List Keyword
infix_words = k.And ∷ k.Or ∷ k.Not ∷ k.Xor ∷ k.Inside ∷ k.Outside ∷ k.Interact ∷ k.Touch ∷ k.Cut ∷ k.Enclose ∷ k.Coincident ∷ []

abbrev pub distance_words : List Keyword
distance_words = k.Int ∷ k.Ext ∷ k.Enc ∷ []

-- checks that may have one input
abbrev pub one_input_words : List Keyword
one_input_words = k.Int ∷ k.Ext ∷ []

-- signs of comparisons that bound nothing from above
abbrev pub other_comparisons : List Sign
other_comparisons = s.Greater ∷ s.GreaterOrEqual ∷ s.EqualTo ∷ s.NotEqual ∷ []

abbrev pub comparisons : List Sign
comparisons = s.Less ∷ s.LessOrEqual ∷ other_comparisons

-- an input of a check: a name, or one in square brackets
abbrev pub inputs : List (List Kind)
inputs = (kinds.Name ∷ []) ∷ (kinds.Sign s.LeftSquare ∷ kinds.Name ∷ kinds.Sign s.RightSquare ∷ []) ∷ []

-- the first or the second input of a check may start here
pub data AwaitsInput (before : List Lexeme) : Type 0 where
  first_input : (word : Keyword) → Contains distance_words word → EndsIn before (kinds.Keyword word ∷ []) → AwaitsInput before
  second_input : (word : Keyword) (first : List Kind) → Contains distance_words word → Contains inputs first
      → EndsIn before (kinds.Keyword word ∷ first) → AwaitsInput before

-- the bound of a check or of ABUT may start here
pub data AwaitsBound (before : List Lexeme) : Type 0 where
  behind_one : (word : Keyword) (first : List Kind) → Contains one_input_words word → Contains inputs first
      → EndsIn before (kinds.Keyword word ∷ first) → AwaitsBound before
  behind_two : (word : Keyword) (first second : List Kind) → Contains distance_words word → Contains inputs first → Contains inputs second
      → EndsIn before (kinds.Keyword word ∷ first ++ second) → AwaitsBound before
  behind_abut : EndsIn before (kinds.Keyword k.Abut ∷ []) → AwaitsBound before

-- LAYER MAP wants a number here
pub data AwaitsMapNumber (before : List Lexeme) : Type 0 where
  first_number : EndsIn before (kinds.Keyword k.Layer ∷ kinds.Keyword k.Map ∷ []) → AwaitsMapNumber before
  second_number : (word : Keyword) → Contains (k.DataType ∷ k.TextType ∷ []) word
      → EndsIn before (kinds.Keyword k.Layer ∷ kinds.Keyword k.Map ∷ kinds.Number ∷ kinds.Keyword word ∷ []) → AwaitsMapNumber before
  third_number : (word : Keyword) → Contains (k.DataType ∷ k.TextType ∷ []) word
      → EndsIn before (kinds.Keyword k.Layer ∷ kinds.Keyword k.Map ∷ kinds.Number ∷ kinds.Keyword word ∷ kinds.Number ∷ []) → AwaitsMapNumber before

-- a layer that stands alone or on one side of an operation may start here, since COPY may stand here
abbrev pub AwaitsPrimary : List Lexeme → Type 0
AwaitsPrimary before = Viable (before ++ lexeme (kinds.Keyword k.Copy) 0 [] ∷ [])

-- A token of this kind behind these is of the language, and set aside: a word that is; an operation with no layer on
-- its left; a layer in brackets where an input may start; another comparison where a bound may, or where LAYER MAP
-- wants a number.
pub data IsSetAside (before : List Lexeme) : Kind → Type 0 where
  word : IsSetAside before kinds.SetAside
  operation : (first : Keyword) → Contains infix_words first → AwaitsPrimary before → IsSetAside before (kinds.Keyword first)
  bracket : AwaitsInput before → IsSetAside before (kinds.Sign s.LeftRound)
  comparison : (sign : Sign) → Contains other_comparisons sign → AwaitsBound before → IsSetAside before (kinds.Sign sign)
  mapped : (sign : Sign) → Contains comparisons sign → AwaitsMapNumber before → IsSetAside before (kinds.Sign sign)

-- ---- The first token that is wrong

-- how many round brackets are open behind the tokens, where so many were before them
abbrev pub open_behind : ℕ → List Lexeme → ℕ
open_behind n [] = n
open_behind n (lexeme (kinds.Sign s.LeftRound) place bytes ∷ more) = open_behind (suc n) more
open_behind n (lexeme (kinds.Sign s.RightRound) place bytes ∷ more) = open_behind (n - 1) more
open_behind n (lexeme other place bytes ∷ more) = open_behind n more

-- the token opens a round bracket inside as many as there may be
abbrev pub IsTooDeep : List Lexeme → Lexeme → Type 0
IsTooDeep before token = (kind token ≡ kinds.Sign s.LeftRound) × (open_behind 0 before ≡ most_nested)

-- the tokens can stand behind one another: they are a front of a deck, and no round bracket is one too many
abbrev pub Stand : List Lexeme → Type 0
Stand tokens =
    Viable tokens
    × ((before : List Lexeme) (token : Lexeme) (behind : List Lexeme) → tokens ≡ before ++ token ∷ behind → IsTooDeep before token → ⊥)

-- what is wrong with a token behind tokens that can stand
pub data IsWrong (before : List Lexeme) (token : Lexeme) : DeckKind → Type 0 where
  set_aside : (Viable (before ++ token ∷ []) → ⊥) → IsSetAside before (kind token) → IsWrong before token reasons.Unsupported
  no_place : (Viable (before ++ token ∷ []) → ⊥) → (IsSetAside before (kind token) → ⊥) → IsWrong before token reasons.Syntax
  too_deep : Viable (before ++ token ∷ []) → IsTooDeep before token → IsWrong before token (reasons.TooMany counted.Nesting)

-- ---- Statements that must be there, and those that stand once

-- which of the statements that stand once it is
abbrev pub single_of : Statement → Option Single
single_of (statement.LayoutSystem place) = Some single.LayoutSystem
single_of (statement.LayoutPath place file) = Some single.LayoutPath
single_of (statement.LayoutPrimary place file) = Some single.LayoutPrimary
single_of (statement.ResultsDatabase place file) = Some single.ResultsDatabase
single_of (statement.SummaryReport place file) = Some single.SummaryReport
single_of (statement.MaximumResults place value) = Some single.MaximumResults
single_of (statement.Precision place value) = Some single.Precision
single_of (statement.Title place file) = Some single.Title
single_of other = None

-- the offset of the first word of a statement that stands once
abbrev pub place_of : Statement → ℕ
place_of (statement.LayoutSystem place) = place
place_of (statement.LayoutPath place file) = place
place_of (statement.LayoutPrimary place file) = place
place_of (statement.ResultsDatabase place file) = place
place_of (statement.SummaryReport place file) = place
place_of (statement.MaximumResults place value) = place
place_of (statement.Precision place value) = place
place_of (statement.Title place file) = place
place_of other = 0

abbrev pub singles : List Statement → List Single
singles all = filter_map single_of all

-- the statements that must be there, in the order in which they are looked for
abbrev pub wanted : List Single
wanted = single.LayoutSystem ∷ single.LayoutPath ∷ single.LayoutPrimary ∷ single.ResultsDatabase ∷ []

-- this one of the wanted is not there, and those before it are
pub record IsMissing (all : List Statement) (which : Single) : Type 0 where
  pub before : List Single
  pub behind : List Single
  pub is_wanted : wanted ≡ before ++ which ∷ behind
  pub earlier : (one : Single) → Contains before one → Contains (singles all) one
  pub missing : Contains (singles all) which → ⊥

-- no statement that stands once comes a second time
abbrev pub StandOnce : List Statement → Type 0
StandOnce all = (before : List Statement) (repeat : Statement) (behind : List Statement) (which : Single) → all ≡ before ++ repeat ∷ behind
    → single_of repeat ≡ Some which → Contains (singles before) which → ⊥

-- the first statement that comes a second time stands at this offset
pub record IsRepeated (all : List Statement) (which : Single) (place : ℕ) : Type 0 where
  pub before : List Statement
  pub repeat : Statement
  pub behind : List Statement
  pub stands : all ≡ before ++ repeat ∷ behind
  pub is_single : single_of repeat ≡ Some which
  pub came : Contains (singles before) which
  pub first : StandOnce before
  pub place_is : place ≡ place_of repeat

-- ---- The refusal of a list of tokens

abbrev pub refusal_at : ℕ → DeckKind → DeckRefusal
refusal_at place reason = record { at = place; kind = reason }

-- the tokens of a text of this length are refused so
pub data IsRefused (tokens : List Lexeme) (len : ℕ) : DeckRefusal → Type 0 where
  at_token : {reason : DeckKind} (before : List Lexeme) (token : Lexeme) (behind : List Lexeme) → tokens ≡ before ++ token ∷ behind
      → Stand before → IsWrong before token reason → IsRefused tokens len (refusal_at (at token) reason)
  at_end : Stand tokens → ((all : List Statement) → SpellsDeck tokens all → ⊥) → IsRefused tokens len (refusal_at len reasons.Syntax)
  missing : (all : List Statement) (which : Single) → Stand tokens → SpellsDeck tokens all → IsMissing all which
      → IsRefused tokens len (refusal_at len (reasons.MissingStatement which))
  repeated : (all : List Statement) (which : Single) (place : ℕ) → Stand tokens → SpellsDeck tokens all
      → ((one : Single) → Contains wanted one → Contains (singles all) one) → IsRepeated all which place
      → IsRefused tokens len (refusal_at place (reasons.RepeatedStatement which))

-- the tokens are those of a deck of these statements, and are not refused
pub record IsAccepted (tokens : List Lexeme) (all : List Statement) : Type 0 where
  pub stand : Stand tokens
  pub spelled : SpellsDeck tokens all
  pub wanted_stand : (one : Single) → Contains wanted one → Contains (singles all) one
  pub stand_once : StandOnce all
