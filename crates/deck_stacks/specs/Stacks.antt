-- Stacks of parts that may follow tokens that were read.
use Rattle.std.specs.Prelude.{ℕ, List, [], ◌∷◌, ◌++◌}
use Rattle.deck_grammar.specs.declared.kind.Kind.{Kind}
use Rattle.deck_grammar.specs.Lexemes.{Lexeme, lexeme}
use Rattle.deck_grammar.specs.Rules.{Rule, statements, Part, token, rule}
use Rattle.deck_grammar.specs.Alternatives.{Alternative, production}

-- one of a list
pub data Among {X : Type 0} (x : X) : List X → Type 0 where
  here : {xs : List X} → Among x (x ∷ xs)
  later : {y : X} {xs : List X} → Among x xs → Among x (y ∷ xs)

-- the parts can spell no tokens
pub data Empties : List Part → Type 0 where
  no_part : Empties []
  by_none : {q : Rule} {parts : List Part} (a : Alternative q) → Empties ((production a).parts ++ parts) → Empties (rule q ∷ parts)

-- where tokens end: anywhere among what the parts spell, or with all of it
pub data End : Type 0 where
  anywhere : End
  whole : End

abbrev pub MayEnd : End → List Part → Type 0
MayEnd anywhere parts = Unit {0}
MayEnd whole parts = Empties parts

-- the tokens are what the parts spell, up to such an end
pub data Fits (end : End) : List Part → List Lexeme → Type 0 where
  ends : {parts : List Part} → MayEnd end parts → Fits end parts []
  one : {k : Kind} {at : ℕ} {bytes : List ℕ} {parts : List Part} {tokens : List Lexeme}
      → Fits end parts tokens → Fits end (token k ∷ parts) (lexeme k at bytes ∷ tokens)
  via : {q : Rule} {parts : List Part} {tokens : List Lexeme}
      → (a : Alternative q) → Fits end ((production a).parts ++ parts) tokens → Fits end (rule q ∷ parts) tokens

-- a token of this kind leads from one stack to the other
pub data Leads (k : Kind) : List Part → List Part → Type 0 where
  off_the_top : {parts : List Part} → Leads k (token k ∷ parts) parts
  opening : {q : Rule} {parts to : List Part} (a : Alternative q) → Leads k ((production a).parts ++ parts) to → Leads k (rule q ∷ parts) to

-- the next stacks are those that a token of this kind leads to
pub record AreNext (k : Kind) (stacks next : List (List Part)) : Type 0 where
  pub no_others : (to : List Part) → Among to next → (from : List Part) × Among from stacks × Leads k from to
  pub all_there : (from to : List Part) → Among from stacks → Leads k from to → Among to next

-- the stacks that are left behind the tokens: what fits one of them is what can follow in a deck
pub record Behind (before : List Lexeme) (stacks : List (List Part)) : Type 0 where
  pub sound : (end : End) (stack : List Part) (tokens : List Lexeme) → Among stack stacks → Fits end stack tokens
      → Fits end (rule statements ∷ []) (before ++ tokens)
  pub complete : (end : End) (tokens : List Lexeme) → Fits end (rule statements ∷ []) (before ++ tokens)
      → (stack : List Part) × Among stack stacks × Fits end stack tokens
