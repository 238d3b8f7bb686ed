-- What may stand where a rule begins.
use Rattle.std.proofs.Common.{◌≡◌, ℕ, ◌<◌, ◌==◌, Bool, true, false, List, [], refl, ap, lit<, arith}
use Rattle.std.specs.Prelude.{if◌then◌else◌, nat_lt}
use Rattle.std.proofs.lemmas.Bool.Decides.{nat_tests}
use Rattle.deck_tree.specs.declared.infix.Relation.{Relation}
use Rattle.deck_tree.specs.declared.infix.Relation.TheVariants as relations
use Rattle.deck_tree.specs.declared.infix.EdgeRelation.{EdgeRelation}
use Rattle.deck_tree.specs.declared.infix.EdgeRelation.TheVariants as edge_relations
use Rattle.deck_grammar.specs.Lexemes.{Lexeme}
use Rattle.deck_grammar.specs.Rules as r
use Rattle.deck_grammar.specs.Rules.{Rule, Tree, Left}
use Rattle.deck_grammar.specs.Alternatives as a
use Rattle.deck_grammar.specs.Alternatives.{Alternative, production, relation_word, edge_word}
use Rattle.deck_grammar.specs.Spelling.{Spells, done, take, choose}
use Rattle.deck_grammar.specs.Working.Choosing.{rank, rank_of_name, rank_of_word, choose_item}

pub differs : (n m : ℕ) → n < m → (m == n) ≡ false
differs n m h = grind (arith, nat_tests)

pub is_below : (n m : ℕ) → n < m → nat_lt n m ≡ true
is_below n m h = grind (arith, nat_tests)

-- a rank above this one chooses the second
pub chooses_second : {A : Type 0} (n m : ℕ) (x y : A) → n < m → (if m == n then x else y) ≡ y
chooses_second n m x y h = ap (λ b. if b then x else y) (differs n m h)

-- the tokens up to a rest are one alternative's
abbrev pub By : {q : Rule} → Alternative q → List Lexeme → List Lexeme → Tree q → Type 0
By {q} it tokens rest tree = Spells q (production it).parts (production it).tree tokens rest tree

-- where no part is left, the rest begins
pub at_end : {q : Rule} {meaning tree : Tree q} {tokens rest : List Lexeme} → Spells q [] meaning tokens rest tree
    → (P : List Lexeme → Type 0) → P rest → P tokens
at_end done P h = h

pub name_rank : (b : Bool) → 8 < rank_of_name b
name_rank true = lit< tt
name_rank false = lit< tt

pub relation_rank : (x : Relation) → rank_of_word (relation_word x) ≡ 7
relation_rank relations.Inside = refl
relation_rank relations.Outside = refl
relation_rank relations.Interact = refl
relation_rank relations.Touch = refl
relation_rank relations.Cut = refl
relation_rank relations.Enclose = refl

pub edge_rank : (x : EdgeRelation) → rank_of_word (edge_word x) ≡ 7
edge_rank edge_relations.Inside = refl
edge_rank edge_relations.Outside = refl
edge_rank edge_relations.Coincident = refl

pub starts_addends : {tokens rest : List Lexeme} {tree : Tree r.addends} (it : Alternative r.addends) → By it tokens rest tree
    → 3 < rank rest → 2 < rank tokens
starts_addends a.no_addend done h = omega arith
starts_addends a.plus (take s) h = lit< tt
starts_addends a.minus (take s) h = lit< tt

pub starts_factors : {tokens rest : List Lexeme} {tree : Tree r.factors} (it : Alternative r.factors) → By it tokens rest tree
    → 2 < rank rest → 1 < rank tokens
starts_factors a.no_factor done h = omega arith
starts_factors a.times (take s) h = lit< tt
starts_factors a.over (take s) h = lit< tt
starts_factors a.modulo (take s) h = lit< tt

pub starts_upper : {tokens rest : List Lexeme} {tree : Tree r.upper} (it : Alternative r.upper) → By it tokens rest tree
    → 4 < rank rest → 3 < rank tokens
starts_upper a.no_upper done h = omega arith
starts_upper a.upper_below (take s) h = lit< tt
starts_upper a.upper_at_most (take s) h = lit< tt

pub starts_turn : {tokens rest : List Lexeme} {tree : Tree r.turn} (it : Alternative r.turn) → By it tokens rest tree
    → 5 < rank rest → 3 < rank tokens
starts_turn a.no_turn done h = omega arith
starts_turn a.overunder (take s) h = lit< tt
starts_turn a.underover (take s) h = lit< tt

pub starts_options : {those : Left} {tokens rest : List Lexeme} {tree : Tree (r.options those)} (it : Alternative (r.options those)) → By it tokens rest tree
    → 6 < rank rest → 3 < rank tokens
starts_options a.no_option done h = omega arith
starts_options a.abut (take s) h = lit< tt
starts_options a.singular (take s) h = lit< tt
starts_options a.opposite (take s) h = lit< tt
starts_options a.square (take s) h = lit< tt
starts_options a.notch (take s) h = lit< tt
starts_options a.space (take s) h = lit< tt
starts_options a.region (take s) h = lit< tt

pub infix_rank : {tokens rest : List Lexeme} {tree : Tree r.infix_operation} (it : Alternative r.infix_operation) → By it tokens rest tree
    → rank tokens ≡ 7
infix_rank a.and (take s) = refl
infix_rank a.or (take s) = refl
infix_rank a.not (take s) = refl
infix_rank a.xor (take s) = refl
infix_rank a.or_edge (take s) = refl
infix_rank (a.relation x) (take s) = relation_rank x
infix_rank (a.not_relation x) (take s) = refl
infix_rank (a.edge_relation x) (take s) = edge_rank x
infix_rank (a.not_edge_relation x) (take s) = refl

pub starts_operations : {tokens rest : List Lexeme} {tree : Tree r.operations} (it : Alternative r.operations) → By it tokens rest tree
    → 8 < rank rest → (6 < rank tokens) × ((rank tokens == 8) ≡ false)
starts_operations a.no_operation (done {rest = rest}) h = (omega arith, differs 8 (rank rest) h)
starts_operations a.an_operation (choose {tokens = tokens} i di s) h =
    let e : rank tokens ≡ 7 = infix_rank i di in (omega (arith, e), ap (λ n. n == 8) e)

pub starts_primary : {tokens rest : List Lexeme} {tree : Tree r.primary} (it : Alternative r.primary) → By it tokens rest tree → 8 < rank tokens
starts_primary a.name_primary (take {tokens = more} s) = name_rank (rank more == 8)
starts_primary a.bracketed_primary (take s) = lit< tt
starts_primary a.copy (take s) = lit< tt
starts_primary a.rectangle (take s) = lit< tt
starts_primary a.area (take s) = lit< tt
starts_primary a.length (take s) = lit< tt
starts_primary a.size (take s) = lit< tt
starts_primary a.angle (take s) = lit< tt
starts_primary a.expand (take s) = lit< tt
starts_primary a.internal (take s) = lit< tt
starts_primary a.external (take s) = lit< tt
starts_primary a.enclosure (take s) = lit< tt

pub starts_names : {tokens rest : List Lexeme} {tree : Tree r.names} (it : Alternative r.names) → By it tokens rest tree
    → 9 < rank rest → 8 < rank tokens
starts_names a.no_name done h = omega arith
starts_names a.a_name (take {tokens = more} s) h = name_rank (rank more == 8)

starts_atom : {tokens rest : List Lexeme} {tree : Tree r.atom} (it : Alternative r.atom) → By it tokens rest tree → 0 < rank tokens
starts_atom a.number_atom (take s) = lit< tt
starts_atom a.name_atom (take {tokens = more} s) = let h : 8 < rank_of_name (rank more == 8) = name_rank (rank more == 8) in omega arith
starts_atom a.bracketed_atom (take s) = lit< tt
starts_atom a.minus_number (take s) = lit< tt
starts_atom a.minus_name (take s) = lit< tt
starts_atom a.minus_bracketed (take s) = lit< tt

pub starts_value : {tokens rest : List Lexeme} {tree : Tree r.value} (it : Alternative r.value) → By it tokens rest tree → 0 < rank tokens
starts_value a.value_of (choose a.product_of (choose a.power_of (choose it d s) s') s'') = starts_atom it d

pub starts_statement : {tokens rest : List Lexeme} {tree : Tree r.statement} (it : Alternative r.statement) → By it tokens rest tree
    → (12 < rank tokens) × ((rank tokens == 17) ≡ false)
starts_statement a.layout_system (take s) = (lit< tt, refl)
starts_statement a.layout_path (take s) = (lit< tt, refl)
starts_statement a.layout_primary (take s) = (lit< tt, refl)
starts_statement a.results_database (take s) = (lit< tt, refl)
starts_statement a.summary_report (take s) = (lit< tt, refl)
starts_statement a.maximum_results (take s) = (lit< tt, refl)
starts_statement a.maximum_all (take s) = (lit< tt, refl)
starts_statement a.select_check (take s) = (lit< tt, refl)
starts_statement a.unselect_check (take s) = (lit< tt, refl)
starts_statement a.precision (take s) = (lit< tt, refl)
starts_statement a.title (take s) = (lit< tt, refl)
starts_statement a.variable (take s) = (lit< tt, refl)
starts_statement a.layer_numbers (take s) = (lit< tt, refl)
starts_statement a.layer_map (take s) = (lit< tt, refl)
starts_statement a.definition (take (take s)) = (lit< tt, refl)
starts_statement a.check (take (take s)) = (lit< tt, refl)

pub starts_statements : {tokens rest : List Lexeme} {tree : Tree r.statements} (it : Alternative r.statements) → By it tokens rest tree
    → rank rest ≡ 17 → 12 < rank tokens
starts_statements a.no_statement done e = omega (arith, e)
starts_statements a.a_statement (choose it d s) e = (starts_statement it d).0

pub starts_items : {tokens rest : List Lexeme} {tree : Tree r.items} (it : Alternative r.items) → By it tokens rest tree
    → rank rest ≡ 15 → 8 < rank tokens
starts_items a.no_item done e = omega (arith, e)
starts_items a.a_note (take s) e = lit< tt
starts_items a.a_definition (take (take s)) e = lit< tt
starts_items a.an_output (choose a.layer_of (choose it d s) s') e = starts_primary it d

output_by : {tokens rest : List Lexeme} {tree : Tree r.primary} (it : Alternative r.primary) → By it tokens rest tree
    → (rank rest == 8) ≡ false → choose_item (rank tokens) ≡ a.an_output
output_by a.name_primary (take done) e = ap (λ b. choose_item (rank_of_name b)) e
output_by a.bracketed_primary (take s) e = refl
output_by a.copy (take s) e = refl
output_by a.rectangle (take s) e = refl
output_by a.area (take s) e = refl
output_by a.length (take s) e = refl
output_by a.size (take s) e = refl
output_by a.angle (take s) e = refl
output_by a.expand (take s) e = refl
output_by a.internal (take s) e = refl
output_by a.external (take s) e = refl
output_by a.enclosure (take s) e = refl

pub output_chosen : {tokens rest : List Lexeme} {tree : Tree r.layer} (it : Alternative r.layer) → By it tokens rest tree
    → 8 < rank rest → choose_item (rank tokens) ≡ a.an_output
output_chosen a.layer_of (choose it d (choose those d' z)) h = output_by it d (starts_operations those d' (at_end z (λ those. 8 < rank those) h)).1
