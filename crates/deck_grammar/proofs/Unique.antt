-- A list of tokens spells one deck at most.
use Rattle.std.proofs.Common.{◌≡◌, List, [], ◌∷◌, refl, ap, sym, subst}
use Rattle.deck_tree.specs.declared.statement.Statement.{Statement}
use Rattle.deck_grammar.specs.Lexemes.{Lexeme}
use Rattle.deck_grammar.specs.Rules.{Rule, statements, Tree, Part, token, rule, Meaning}
use Rattle.deck_grammar.specs.Alternatives.{production}
use Rattle.deck_grammar.specs.Spelling.{choose, SpellsDeck}
use Rattle.deck_grammar.specs.Working.Reading.{Reads, read_all, read_token, read_rule}
use Rattle.deck_grammar.specs.Working.Choosing.{choice, rank}
use Rattle.deck_grammar.proofs.Starts.{at_end}
use Rattle.deck_grammar.proofs.Readings.{led, step, ended}

-- the rest, and what was read before it
abbrev pub Outcome : Rule → Type 0
Outcome o = List Lexeme × Tree o

-- what was read by a rule first, and then by the other parts
record ByRule (q o : Rule) (parts : List Part) (meaning : Tree q → Meaning parts (Tree o)) (tokens rest : List Lexeme) (tree : Tree o) : Type 0 where
  between : List Lexeme
  part : Tree q
  first : Reads q (production (choice q tokens)).parts (production (choice q tokens)).tree tokens between part
  others : Reads o parts (meaning part) between rest tree

-- how the first part was read
abbrev Opened : (o : Rule) (parts : List Part) → Meaning parts (Tree o) → List Lexeme → List Lexeme → Tree o → Type 0
Opened o [] meaning tokens rest tree = (tokens ≡ rest) × (meaning ≡ tree)
Opened o (token k ∷ parts) meaning [] rest tree = ⊥
Opened o (token k ∷ parts) meaning (t ∷ tokens) rest tree = Reads o parts (meaning t) tokens rest tree
Opened o (rule q ∷ parts) meaning tokens rest tree = ByRule q o parts meaning tokens rest tree

opened : {o : Rule} {parts : List Part} {meaning : Meaning parts (Tree o)} {tokens rest : List Lexeme} {tree : Tree o}
    → Reads o parts meaning tokens rest tree → Opened o parts meaning tokens rest tree
opened read_all = (refl, refl)
opened (read_token s) = s
opened (read_rule {between = between} {part = part} s more) = record { between = between; part = part; first = s; others = more }

abbrev pub pair : (o : Rule) → List Lexeme → Tree o → Outcome o
pair o rest tree = (rest, tree)

both : (o : Rule) (rest rest' : List Lexeme) (tree tree' : Tree o) → rest ≡ rest' → tree ≡ tree' → pair o rest tree ≡ pair o rest' tree'
both o rest rest' tree tree' p q = cc

pub same_reading : {o : Rule} {parts : List Part} {meaning : Meaning parts (Tree o)} {tokens rest : List Lexeme} {tree : Tree o}
    → Reads o parts meaning tokens rest tree → (rest' : List Lexeme) (tree' : Tree o) → Reads o parts meaning tokens rest' tree'
    → pair o rest tree ≡ pair o rest' tree'
same_reading read_all rest' tree' s' = both _ _ _ _ _ (opened s').0 (opened s').1
same_reading (read_token s) rest' tree' s' = same_reading s rest' tree' (opened s')
same_reading (read_rule {q = q} {parts = parts} {meaning = meaning} s more) rest' tree' s' =
    let b = opened s' in
    let P : Outcome q → Type 0 = λ p. Reads _ parts (meaning p.1) p.0 rest' tree' in
    same_reading more rest' tree' (subst P (sym (same_reading s b.between b.part b.first)) b.others)

-- what spells a deck is read
pub deck_is_read : {tokens : List Lexeme} {all : List Statement} → SpellsDeck tokens all
    → Reads statements (rule statements ∷ []) (λ those. those) tokens [] all
deck_is_read (choose it s z) = step (led it s (at_end z (λ those. rank those ≡ 17) refl)) (ended z)

pub one_deck : (tokens : List Lexeme) (a b : List Statement) → SpellsDeck tokens a → SpellsDeck tokens b → a ≡ b
one_deck tokens a b s s' =
    let f : Outcome statements → List Statement = λ p. p.1 in
    ap f (same_reading (deck_is_read s) [] b (deck_is_read s'))
