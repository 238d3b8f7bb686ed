-- Each rule spells something.
use Rattle.std.proofs.Common.{List, [], ◌∷◌, true, false}
use Rattle.deck_grammar.specs.Lexemes.{Lexeme, lexeme}
use Rattle.deck_grammar.specs.Rules as r
use Rattle.deck_grammar.specs.Rules.{Rule, Tree, Part, token, rule, Meaning, Left}
use Rattle.deck_grammar.specs.Alternatives as a
use Rattle.deck_grammar.specs.Alternatives.{Alternative, production}
use Rattle.deck_grammar.specs.Spelling.{Spells, done, take, choose}
use Rattle.deck_grammar.proofs.Cuts.{Joins, joined, one}

-- more tokens may follow what is spelled
pub record Longer (r : Rule) (parts : List Part) (meaning : Meaning parts (Tree r)) (tokens more rest : List Lexeme) (tree : Tree r) : Type 0 where
  pub whole : List Lexeme
  pub joined_as : Joins tokens more whole
  pub spelled : Spells r parts meaning whole rest tree

pub longer : {r : Rule} {parts : List Part} {meaning : Meaning parts (Tree r)} {tokens between : List Lexeme} {tree : Tree r}
    → Spells r parts meaning tokens between tree → {more rest : List Lexeme} → Joins between more rest
    → Longer r parts meaning tokens more rest tree
longer done j = record { whole = _; joined_as = j; spelled = done }
longer (take {k = k} {at = at} {bytes = bytes} s) j =
    let w = longer s j in
    record { whole = lexeme k at bytes ∷ w.whole; joined_as = one w.joined_as; spelled = take w.spelled }
longer (choose a s more_s) j =
    let v = longer more_s j in
    let w = longer s v.joined_as in
    record { whole = w.whole; joined_as = w.joined_as; spelled = choose a w.spelled v.spelled }

-- tokens that the parts spell
pub record Spelled (r : Rule) (parts : List Part) (meaning : Meaning parts (Tree r)) : Type 0 where
  pub tokens : List Lexeme
  pub tree : Tree r
  pub spelled : Spells r parts meaning tokens [] tree

-- an alternative of a rule, and tokens that it spells
pub record Example (q : Rule) : Type 0 where
  pub alternative : Alternative q
  pub example : Spelled q (production alternative).parts (production alternative).tree

abbrev pub Examples : List Part → Type 0
Examples [] = Unit {0}
Examples (token k ∷ more) = Examples more
Examples (rule q ∷ more) = Example q × Examples more

pub with_rule : {r q : Rule} {parts : List Part} (meaning : Tree q → Meaning parts (Tree r)) → (e : Example q)
    → Spelled r parts (meaning e.example.tree) → Spelled r (rule q ∷ parts) meaning
with_rule meaning e s =
    let w = longer e.example.spelled (joined {more = s.tokens}) in
    record { tokens = w.whole; tree = s.tree; spelled = choose e.alternative w.spelled s.spelled }

pub all_spelled : (parts : List Part) → Examples parts → {r : Rule} (meaning : Meaning parts (Tree r)) → Spelled r parts meaning
all_spelled [] es meaning = record { tokens = []; tree = meaning; spelled = done }
all_spelled (token k ∷ more) es meaning =
    let s = all_spelled more es (meaning (lexeme k 0 [])) in
    record { tokens = lexeme k 0 [] ∷ s.tokens; tree = s.tree; spelled = take s.spelled }
all_spelled (rule q ∷ more) es meaning = with_rule meaning es.0 (all_spelled more es.1 (meaning es.0.example.tree))

pub example_by : {q : Rule} (a : Alternative q) → Examples (production a).parts → Example q
example_by a es = record { alternative = a; example = all_spelled (production a).parts es (production a).tree }

no_options_example : (those : Left) → Example (r.options those)
no_options_example those = example_by (a.no_option {those = those}) tt

power_example : Example r.power
power_example = example_by a.power_of (example_by a.number_atom tt, (example_by a.no_exponent tt, tt))

product_example : Example r.product
product_example = example_by a.product_of (power_example, (example_by a.no_factor tt, tt))

value_example : Example r.value
value_example = example_by a.value_of (product_example, (example_by a.no_addend tt, tt))

bound_example : Example r.bound
bound_example = example_by a.bound_below (value_example, tt)

pub example_of : (q : Rule) → Example q
example_of r.statements = example_by a.no_statement tt
example_of r.statement = example_by a.layout_system tt
example_of r.file = example_by a.file_name tt
example_of r.names = example_by a.no_name tt
example_of r.numbers = example_by a.no_number tt
example_of r.ascii = example_by a.no_ascii tt
example_of r.mode = example_by a.no_mode tt
example_of r.map_kind = example_by a.datatype tt
example_of r.items = example_by a.no_item tt
example_of r.value = value_example
example_of r.addends = example_by a.no_addend tt
example_of r.product = product_example
example_of r.factors = example_by a.no_factor tt
example_of r.power = power_example
example_of r.exponent = example_by a.no_exponent tt
example_of r.atom = example_by a.number_atom tt
example_of r.layer = example_by a.layer_of (example_by a.name_primary tt, (example_by a.no_operation tt, tt))
example_of r.operations = example_by a.no_operation tt
example_of r.infix_operation = example_by a.and tt
example_of r.primary = example_by a.name_primary tt
example_of r.term = example_by a.name_term tt
example_of r.limits = example_by a.below_limit (value_example, tt)
example_of r.upper = example_by a.no_upper tt
example_of r.bound = bound_example
example_of r.turn = example_by a.no_turn tt
example_of r.side = example_by a.inside tt
example_of (r.distance kind) = example_by (a.two {kind = kind}) (bound_example, (no_options_example (r.left true true true false true), tt))
example_of (r.options those) = no_options_example those

pub examples : (parts : List Part) → Examples parts
examples [] = tt
examples (token k ∷ more) = examples more
examples (rule q ∷ more) = (example_of q, examples more)

-- the tokens are completed by more to what the parts spell
pub record Completes (r : Rule) (parts : List Part) (meaning : Meaning parts (Tree r)) (tokens : List Lexeme) : Type 0 where
  pub more : List Lexeme
  pub whole : List Lexeme
  pub tree : Tree r
  pub joined_as : Joins tokens more whole
  pub spelled : Spells r parts meaning whole [] tree
