-- What is read between two places: single tokens, and parts of lists.
use Rattle.std.specs.Prelude.{◌≡◌, ℕ, List, ◌∷◌, ◌++◌, Option, Some, None}
use Rattle.deck_grammar.specs.declared.kind.Kind.{Kind}
use Rattle.deck_grammar.specs.declared.kind.Kind.TheVariants as kinds
use Rattle.deck_grammar.specs.declared.sign.Sign.TheVariants as s
use Rattle.deck_grammar.specs.Lexemes.{Lexeme, lexeme}
use Rattle.deck_grammar.specs.Rules as r
use Rattle.deck_grammar.specs.Rules.{Rule, Tree}
use Rattle.deck_cursor.specs.Places.{Place, Takes}
use Rattle.deck_cursor.specs.Steps.{Reads}
use Rattle.deck_tree.specs.declared.value.Atom.{Atom}

-- a token of this kind is taken, and its first byte stands at this offset
pub record TakenAt (k : Kind) (from to : Place) (at : ℕ) : Type 0 where
  pub bytes : List ℕ
  pub takes : Takes from (lexeme k at bytes) to

-- a token of this kind is taken, and it means this
pub record Means {X : Type 0} (k : Kind) (meaning : Lexeme → X) (from to : Place) (it : X) : Type 0 where
  pub at : ℕ
  pub bytes : List ℕ
  pub takes : Takes from (lexeme k at bytes) to
  pub is : it ≡ meaning (lexeme k at bytes)

-- with what the rule spells from the second place on, the item before it is a list of the rule from the first place on
abbrev pub Precedes : (q : Rule) {X : Type 0} → (List X → Tree q) → Place → Place → X → Type 0
Precedes q {X = X} list from between first = (to : Place) (more : List X) → Reads q between to (list more) → Reads q from to (list (first ∷ more))

-- with what the rule spells from the second place on, these items are a list of the rule from the first place on
abbrev pub Reaches : (q : Rule) {X : Type 0} → (List X → Tree q) → Place → Place → List X → Type 0
Reaches q {X = X} list from between found = (to : Place) (more : List X) → Reads q between to (list more) → Reads q from to (list (found ++ more))

-- behind the minus at this offset, if there is one, the tokens are those of this atom
abbrev pub ReadsAtom : Option ℕ → Place → Place → Atom → Type 0
ReadsAtom None from to atom = Reads r.atom from to atom
ReadsAtom (Some minus) from to atom = (before : Place) → TakenAt (kinds.Sign s.Minus) before from minus → Reads r.atom before to atom
