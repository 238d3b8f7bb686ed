-- What fits the rule of decks, up to an end anywhere, is a front of a deck; and up to its own end it is one.
use Rattle.std.proofs.Common.{◌≡◌, ◌⊎◌, inl, inr, List, [], ◌∷◌, ◌++◌, refl}
use Rattle.deck_tree.specs.declared.statement.Statement.{Statement}
use Rattle.deck_grammar.specs.Lexemes.{Lexeme, lexeme}
use Rattle.deck_grammar.specs.Rules.{Rule, statements, Tree, Part, token, rule, Meaning}
use Rattle.deck_grammar.specs.Alternatives.{Alternative, production}
use Rattle.deck_grammar.specs.Spelling.{Spells, done, take, choose, SpellsDeck, Front, nothing, one_more, within, past, Viable}
use Rattle.deck_stacks.specs.Stacks.{Among, here, later, Empties, no_part, by_none, End, anywhere, whole, MayEnd, Fits, ends, one, via}

-- ---- From the grammar to stacks

spelled_fits : {end : End} {r : Rule} {parts : List Part} {meaning : Meaning parts (Tree r)} {tokens rest : List Lexeme} {tree : Tree r}
    → Spells r parts meaning tokens rest tree → (more : List Part) → Fits end more rest → Fits end (parts ++ more) tokens
spelled_fits done more f = f
spelled_fits (take s) more f = one (spelled_fits s more f)
spelled_fits (choose {parts = parts} a s others) more f = via a (spelled_fits s (parts ++ more) (spelled_fits others more f))

front_fits : {parts : List Part} {tokens : List Lexeme} → Front parts tokens → (more : List Part) → Fits anywhere (parts ++ more) tokens
front_fits nothing more = ends tt
front_fits (one_more f) more = one (front_fits f more)
front_fits (within {parts = parts} a f) more = via a (front_fits f (parts ++ more))
front_fits (past {parts = parts} a s f) more = via a (spelled_fits s (parts ++ more) (front_fits f more))

pub viable_fits : {tokens : List Lexeme} → Viable tokens → Fits anywhere (rule statements ∷ []) tokens
viable_fits f = front_fits f []

pub deck_fits : {tokens : List Lexeme} {all : List Statement} → SpellsDeck tokens all → Fits whole (rule statements ∷ []) tokens
deck_fits s = spelled_fits s [] (ends no_part)

-- ---- From stacks to the grammar

-- what is a front of two lists of parts is one of the first, or goes past it
record Past (r : Rule) (first second : List Part) (meaning : Meaning first (Tree r)) (tokens : List Lexeme) : Type 0 where
  rest : List Lexeme
  tree : Tree r
  spelled : Spells r first meaning tokens rest tree
  front : Front second rest

split_front : {r : Rule} (first second : List Part) (meaning : Meaning first (Tree r)) {tokens : List Lexeme} → Front (first ++ second) tokens
    → Front first tokens ⊎ Past r first second meaning tokens
split_front [] second meaning f = inr (record { rest = _; tree = meaning; spelled = done; front = f })
split_front (token k ∷ first) second meaning nothing = inl nothing
split_front (token k ∷ first) second meaning (one_more f) = elim (split_front first second (meaning (lexeme k _ _)) f) [
  | inl g ↦ inl (one_more g)
  | inr p ↦ inr (record { rest = p.rest; tree = p.tree; spelled = take p.spelled; front = p.front })
]
split_front (rule q ∷ first) second meaning nothing = inl nothing
split_front (rule q ∷ first) second meaning (within a f) = inl (within a f)
split_front (rule q ∷ first) second meaning (past {part = part} a s f) = elim (split_front first second (meaning part) f) [
  | inl g ↦ inl (past a s g)
  | inr p ↦ inr (record { rest = p.rest; tree = p.tree; spelled = choose a s p.spelled; front = p.front })
]

pub fits_front : {parts : List Part} {tokens : List Lexeme} → Fits anywhere parts tokens → Front parts tokens
fits_front (ends h) = nothing
fits_front (one f) = one_more (fits_front f)
fits_front (via {q = q} {parts = parts} a f) = elim (split_front (production a).parts parts (production a).tree (fits_front f)) [
  | inl g ↦ within a g
  | inr p ↦ past a p.spelled p.front
]

-- the meaning of two lists of parts, one after the other
abbrev join : (q r : Rule) (first second : List Part) → Meaning first (Tree q) → (Tree q → Meaning second (Tree r)) → Meaning (first ++ second) (Tree r)
join q r [] second m n = n m
join q r (token k ∷ first) second m n = λ t. join q r first second (m t) n
join q r (rule p ∷ first) second m n = λ x. join q r first second (m x) n

record Two (q r : Rule) (first second : List Part) (m : Meaning first (Tree q)) (n : Tree q → Meaning second (Tree r)) (tokens : List Lexeme) (tree : Tree r) : Type 0 where
  part : Tree q
  between : List Lexeme
  left : Spells q first m tokens between part
  right : Spells r second (n part) between [] tree

split_whole : {q r : Rule} (first second : List Part) (m : Meaning first (Tree q)) (n : Tree q → Meaning second (Tree r)) {tokens : List Lexeme} {tree : Tree r}
    → Spells r (first ++ second) (join q r first second m n) tokens [] tree → Two q r first second m n tokens tree
split_whole [] second m n s = record { part = m; between = _; left = done; right = s }
split_whole (token k ∷ first) second m n (take {at = at} {bytes = bytes} s) =
    let t = split_whole first second (m (lexeme k at bytes)) n s in
    record { part = t.part; between = t.between; left = take t.left; right = t.right }
split_whole (rule p ∷ first) second m n (choose {part = x} a s others) =
    let t = split_whole first second (m x) n others in
    record { part = t.part; between = t.between; left = choose a s t.left; right = t.right }

record Whole (r : Rule) (parts : List Part) (meaning : Meaning parts (Tree r)) (tokens : List Lexeme) : Type 0 where
  tree : Tree r
  spelled : Spells r parts meaning tokens [] tree

opened : {q r : Rule} (a : Alternative q) (parts : List Part) (n : Tree q → Meaning parts (Tree r)) {tokens : List Lexeme}
    → Whole r ((production a).parts ++ parts) (join _ _ (production a).parts parts (production a).tree n) tokens → Whole r (rule q ∷ parts) n tokens
opened a parts n w =
    let t = split_whole (production a).parts parts (production a).tree n w.spelled in
    record { tree = w.tree; spelled = choose a t.left t.right }

empties_spelled : {parts : List Part} → Empties parts → {r : Rule} (n : Meaning parts (Tree r)) → Whole r parts n []
empties_spelled no_part n = record { tree = n; spelled = done }
empties_spelled (by_none {parts = parts} a e) n = opened a parts n (empties_spelled e (join _ _ (production a).parts parts (production a).tree n))

fits_spelled : {parts : List Part} {tokens : List Lexeme} → Fits whole parts tokens → {r : Rule} (n : Meaning parts (Tree r)) → Whole r parts n tokens
fits_spelled (ends h) n = empties_spelled h n
fits_spelled (one {k = k} {at = at} {bytes = bytes} f) n =
    let w = fits_spelled f (n (lexeme k at bytes)) in record { tree = w.tree; spelled = take w.spelled }
fits_spelled (via {parts = parts} a f) n = opened a parts n (fits_spelled f (join _ _ (production a).parts parts (production a).tree n))

pub fits_deck : {tokens : List Lexeme} → Fits whole (rule statements ∷ []) tokens → (all : List Statement) × SpellsDeck tokens all
fits_deck f = let w = fits_spelled f {r = statements} (λ those. those) in (w.tree, w.spelled)
