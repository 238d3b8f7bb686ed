-- What is spelled is read from left to right: where it may end, the next tokens choose each of its alternatives.
use Rattle.std.proofs.Common.{◌≡◌, ℕ, ◌<◌, ◌==◌, List, [], ◌∷◌, refl, ap, sym, subst, lit<, arith}
use Rattle.std.specs.Prelude.{if◌then◌else◌}
use Rattle.deck_tree.specs.declared.distance.DistanceKind.{DistanceKind}
use Rattle.deck_tree.specs.declared.distance.DistanceKind.TheVariants.{Internal, External, Enclosure}
use Rattle.deck_tree.specs.declared.infix.Relation.{Relation}
use Rattle.deck_tree.specs.declared.infix.Relation.TheVariants as relations
use Rattle.deck_tree.specs.declared.infix.EdgeRelation.{EdgeRelation}
use Rattle.deck_tree.specs.declared.infix.EdgeRelation.TheVariants as edge_relations
use Rattle.deck_grammar.specs.declared.keyword.Keyword.TheVariants as k
use Rattle.deck_grammar.specs.declared.sign.Sign.TheVariants as s
use Rattle.deck_grammar.specs.declared.kind.Kind.{Kind}
use Rattle.deck_grammar.specs.declared.kind.Kind.TheVariants as kinds
use Rattle.deck_grammar.specs.Lexemes.{Lexeme, lexeme}
use Rattle.deck_grammar.specs.Rules as r
use Rattle.deck_grammar.specs.Rules.{Rule, Tree, Part, rule, Meaning, Left}
use Rattle.deck_grammar.specs.Alternatives as a
use Rattle.deck_grammar.specs.Alternatives.{Alternative, production, relation_word, edge_word}
use Rattle.deck_grammar.specs.Spelling.{Spells, done, take, choose}
use Rattle.deck_grammar.specs.Working.Choosing.{rank, rank_of_name, next, after, choice, choose_item, choose_edge, choose_not, choose_infix, choose_internal, choose_external}
use Rattle.deck_grammar.specs.Working.Reading.{Reads, read_all, read_token, read_rule, Ends}
use Rattle.deck_grammar.proofs.Starts.{By, at_end, differs, is_below, chooses_second, starts_addends, starts_factors, starts_upper, starts_turn, starts_options, infix_rank, starts_operations, starts_primary, starts_names, starts_value, starts_statement, starts_statements, starts_items, output_chosen}

-- the next tokens choose the alternative, and it is read
pub record Led (q : Rule) (it : Alternative q) (tokens rest : List Lexeme) (tree : Tree q) : Type 0 where
  pub chosen : choice q tokens ≡ it
  pub reads : Reads q (production it).parts (production it).tree tokens rest tree

pub step : {o q : Rule} {parts : List Part} {meaning : Tree q → Meaning parts (Tree o)} {tokens between rest : List Lexeme} {part : Tree q} {tree : Tree o}
    {it : Alternative q} → Led q it tokens between part → Reads o parts (meaning part) between rest tree
    → Reads o (rule q ∷ parts) meaning tokens rest tree
step {q = q} {tokens = tokens} {between = between} {part = part} l more =
    let P : Alternative q → Type 0 = λ it. Reads q (production it).parts (production it).tree tokens between part in
    read_rule (subst P (sym l.chosen) l.reads) more

pub ended : {q : Rule} {meaning tree : Tree q} {tokens rest : List Lexeme} → Spells q [] meaning tokens rest tree → Reads q [] meaning tokens rest tree
ended done = read_all

relation_chosen : (x : Relation) (more : List Lexeme) → 8 < rank more → choose_infix (kinds.Keyword (relation_word x)) more ≡ a.relation x
relation_chosen relations.Inside more h = ap (λ b. choose_edge b (a.relation relations.Inside) (a.edge_relation edge_relations.Inside)) (differs 0 (rank more) (omega arith))
relation_chosen relations.Outside more h = ap (λ b. choose_edge b (a.relation relations.Outside) (a.edge_relation edge_relations.Outside)) (differs 0 (rank more) (omega arith))
relation_chosen relations.Interact more h = refl
relation_chosen relations.Touch more h = refl
relation_chosen relations.Cut more h = refl
relation_chosen relations.Enclose more h = refl

not_relation_chosen : (x : Relation) (at : ℕ) (bytes : List ℕ) (more : List Lexeme) → 8 < rank more
    → choose_infix (kinds.Keyword k.Not) (lexeme (kinds.Keyword (relation_word x)) at bytes ∷ more) ≡ a.not_relation x
not_relation_chosen relations.Inside at bytes more h = ap (λ b. choose_edge b (a.not_relation relations.Inside) (a.not_edge_relation edge_relations.Inside)) (differs 0 (rank more) (omega arith))
not_relation_chosen relations.Outside at bytes more h = ap (λ b. choose_edge b (a.not_relation relations.Outside) (a.not_edge_relation edge_relations.Outside)) (differs 0 (rank more) (omega arith))
not_relation_chosen relations.Interact at bytes more h = refl
not_relation_chosen relations.Touch at bytes more h = refl
not_relation_chosen relations.Cut at bytes more h = refl
not_relation_chosen relations.Enclose at bytes more h = refl

edge_chosen : (x : EdgeRelation) (at : ℕ) (bytes : List ℕ) (more : List Lexeme)
    → choose_infix (kinds.Keyword (edge_word x)) (lexeme (kinds.Keyword k.Edge) at bytes ∷ more) ≡ a.edge_relation x
edge_chosen edge_relations.Inside at bytes more = refl
edge_chosen edge_relations.Outside at bytes more = refl
edge_chosen edge_relations.Coincident at bytes more = refl

not_edge_chosen : (x : EdgeRelation) (at : ℕ) (bytes : List ℕ) (at' : ℕ) (bytes' : List ℕ) (more : List Lexeme)
    → choose_infix (kinds.Keyword k.Not) (lexeme (kinds.Keyword (edge_word x)) at bytes ∷ lexeme (kinds.Keyword k.Edge) at' bytes' ∷ more) ≡ a.not_edge_relation x
not_edge_chosen edge_relations.Inside at bytes at' bytes' more = refl
not_edge_chosen edge_relations.Outside at bytes at' bytes' more = refl
not_edge_chosen edge_relations.Coincident at bytes at' bytes' more = refl

internal_by : {tokens rest : List Lexeme} {tree : Tree r.bound} (it : Alternative r.bound) → By it tokens rest tree → (fourth : Kind)
    → choose_internal kinds.Name (next tokens) fourth ≡ a.one_internal
internal_by a.bound_below (take s) fourth = refl
internal_by a.bound_at_most (take s) fourth = refl

internal_bracketed_by : {tokens rest : List Lexeme} {tree : Tree r.bound} (it : Alternative r.bound) → By it tokens rest tree
    → choose_internal (kinds.Sign s.LeftSquare) kinds.Name (next tokens) ≡ a.one_internal_bracketed
internal_bracketed_by a.bound_below (take s) = refl
internal_bracketed_by a.bound_at_most (take s) = refl

external_by : {tokens rest : List Lexeme} {tree : Tree r.bound} (it : Alternative r.bound) → By it tokens rest tree → (fourth : Kind)
    → choose_external kinds.Name (next tokens) fourth ≡ a.one_external
external_by a.bound_below (take s) fourth = refl
external_by a.bound_at_most (take s) fourth = refl

external_bracketed_by : {tokens rest : List Lexeme} {tree : Tree r.bound} (it : Alternative r.bound) → By it tokens rest tree
    → choose_external (kinds.Sign s.LeftSquare) kinds.Name (next tokens) ≡ a.one_external_bracketed
external_bracketed_by a.bound_below (take s) = refl
external_bracketed_by a.bound_at_most (take s) = refl

two_by : (kind : DistanceKind) (at at' : ℕ) (bytes bytes' : List ℕ) (more : List Lexeme)
    → choice (r.distance kind) (lexeme kinds.Name at bytes ∷ lexeme kinds.Name at' bytes' ∷ more) ≡ a.two
two_by Internal at at' bytes bytes' more = refl
two_by External at at' bytes bytes' more = refl
two_by Enclosure at at' bytes bytes' more = refl

two_first_by : (kind : DistanceKind) (at at' at2 at3 : ℕ) (bytes bytes' bytes2 bytes3 : List ℕ) (more : List Lexeme)
    → choice (r.distance kind) (lexeme (kinds.Sign s.LeftSquare) at bytes ∷ lexeme kinds.Name at' bytes' ∷ lexeme (kinds.Sign s.RightSquare) at2 bytes2 ∷ lexeme kinds.Name at3 bytes3 ∷ more)
    ≡ a.two_first_bracketed
two_first_by Internal at at' at2 at3 bytes bytes' bytes2 bytes3 more = refl
two_first_by External at at' at2 at3 bytes bytes' bytes2 bytes3 more = refl
two_first_by Enclosure at at' at2 at3 bytes bytes' bytes2 bytes3 more = refl

two_second_by : (kind : DistanceKind) (at at' : ℕ) (bytes bytes' : List ℕ) (more : List Lexeme)
    → choice (r.distance kind) (lexeme kinds.Name at bytes ∷ lexeme (kinds.Sign s.LeftSquare) at' bytes' ∷ more) ≡ a.two_second_bracketed
two_second_by Internal at at' bytes bytes' more = refl
two_second_by External at at' bytes bytes' more = refl
two_second_by Enclosure at at' bytes bytes' more = refl

-- what each rule among the parts spells is led, where it may end
abbrev pub Held : {o : Rule} {parts : List Part} {meaning : Meaning parts (Tree o)} {tokens rest : List Lexeme} {tree : Tree o}
    → Spells o parts meaning tokens rest tree → Type 0
Held done = Unit {0}
Held (take s) = Held s
Held (choose {q = q} {tokens = tokens} {between = between} {part = part} it d s) = (Ends q between → Led q it tokens between part) × Held s

level_statements : {tokens rest : List Lexeme} {tree : Tree r.statements} (it : Alternative r.statements) (d : By it tokens rest tree) → Held d → Ends r.statements rest
    → Led r.statements it tokens rest tree
level_statements a.no_statement z held h = let e = at_end z (λ those. rank those ≡ 17) h in record { chosen = ap (λ n. if n == 17 then a.no_statement else a.a_statement) e; reads = (ended z) }
level_statements a.a_statement (choose i0 d0 (choose i1 d1 z)) held h = let e = at_end z (λ those. rank those ≡ 17) h in record { chosen = ap (λ b. if b then a.no_statement else a.a_statement) (starts_statement i0 d0).1; reads = (step (held.0 (starts_statements i1 d1 e)) (step (held.1.0 e) (ended z))) }

level_statement : {tokens rest : List Lexeme} {tree : Tree r.statement} (it : Alternative r.statement) (d : By it tokens rest tree) → Held d → Ends r.statement rest
    → Led r.statement it tokens rest tree
level_statement a.layout_system (take (take (take z))) held h = record { chosen = refl; reads = (read_token (read_token (read_token (ended z)))) }
level_statement a.layout_path (take (take (choose i0 d0 z))) held h = record { chosen = refl; reads = (read_token (read_token (step (held.0 tt) (ended z)))) }
level_statement a.layout_primary (take (take (choose i0 d0 z))) held h = record { chosen = refl; reads = (read_token (read_token (step (held.0 tt) (ended z)))) }
level_statement a.results_database (take (take (take (choose i0 d0 (choose i1 d1 z))))) held h = let e = at_end z (λ those. 12 < rank those) h in record { chosen = refl; reads = (read_token (read_token (read_token (step (held.0 tt) (step (held.1.0 (omega arith)) (ended z)))))) }
level_statement a.summary_report (take (take (take (choose i0 d0 (choose i1 d1 z))))) held h = let e = at_end z (λ those. 12 < rank those) h in record { chosen = refl; reads = (read_token (read_token (read_token (step (held.0 tt) (step (held.1.0 e) (ended z)))))) }
level_statement a.maximum_results (take (take (take {tokens = more} (choose i0 d0 z)))) held h = let e = at_end z (λ those. 12 < rank those) h in record { chosen = ap (λ b. if b then a.maximum_all else a.maximum_results) (differs 0 (rank more) (starts_value i0 d0)); reads = (read_token (read_token (read_token (step (held.0 (omega arith)) (ended z))))) }
level_statement a.maximum_all (take (take (take (take z)))) held h = record { chosen = refl; reads = (read_token (read_token (read_token (read_token (ended z))))) }
level_statement a.select_check (take (take (take (take (choose i0 d0 z))))) held h = let e = at_end z (λ those. 12 < rank those) h in record { chosen = refl; reads = (read_token (read_token (read_token (read_token (step (held.0 (omega arith)) (ended z)))))) }
level_statement a.unselect_check (take (take (take (take (choose i0 d0 z))))) held h = let e = at_end z (λ those. 12 < rank those) h in record { chosen = refl; reads = (read_token (read_token (read_token (read_token (step (held.0 (omega arith)) (ended z)))))) }
level_statement a.precision (take (choose i0 d0 z)) held h = let e = at_end z (λ those. 12 < rank those) h in record { chosen = refl; reads = (read_token (step (held.0 (omega arith)) (ended z))) }
level_statement a.title (take (choose i0 d0 z)) held h = record { chosen = refl; reads = (read_token (step (held.0 tt) (ended z))) }
level_statement a.variable (take (take (choose i0 d0 z))) held h = let e = at_end z (λ those. 12 < rank those) h in record { chosen = refl; reads = (read_token (read_token (step (held.0 (omega arith)) (ended z)))) }
level_statement a.layer_numbers (take (take (take (choose i0 d0 z)))) held h = let e = at_end z (λ those. 12 < rank those) h in record { chosen = refl; reads = (read_token (read_token (read_token (step (held.0 (omega arith)) (ended z))))) }
level_statement a.layer_map (take (take (take (choose i0 d0 (take (take z)))))) held h = record { chosen = refl; reads = (read_token (read_token (read_token (step (held.0 tt) (read_token (read_token (ended z))))))) }
level_statement a.definition (take (take (choose i0 d0 z))) held h = let e = at_end z (λ those. 12 < rank those) h in record { chosen = refl; reads = (read_token (read_token (step (held.0 (omega arith)) (ended z)))) }
level_statement a.check (take (take (choose i0 d0 (take z)))) held h = record { chosen = refl; reads = (read_token (read_token (step (held.0 refl) (read_token (ended z))))) }

level_file : {tokens rest : List Lexeme} {tree : Tree r.file} (it : Alternative r.file) (d : By it tokens rest tree) → Held d → Ends r.file rest
    → Led r.file it tokens rest tree
level_file a.file_text (take z) held h = record { chosen = refl; reads = (read_token (ended z)) }
level_file a.file_name (take z) held h = record { chosen = refl; reads = (read_token (ended z)) }

level_names : {tokens rest : List Lexeme} {tree : Tree r.names} (it : Alternative r.names) (d : By it tokens rest tree) → Held d → Ends r.names rest
    → Led r.names it tokens rest tree
level_names {tokens = tokens} a.no_name z held h = let e = at_end z (λ those. 9 < rank those) h in record { chosen = chooses_second 9 (rank tokens) _ _ e; reads = (ended z) }
level_names a.a_name (take {tokens = more} (choose i0 d0 z)) held h = let e = at_end z (λ those. 9 < rank those) h in record { chosen = ap (λ b. if rank_of_name b == 9 then a.a_name else a.no_name) (differs 8 (rank more) (starts_names i0 d0 e)); reads = (read_token (step (held.0 e) (ended z))) }

level_numbers : {tokens rest : List Lexeme} {tree : Tree r.numbers} (it : Alternative r.numbers) (d : By it tokens rest tree) → Held d → Ends r.numbers rest
    → Led r.numbers it tokens rest tree
level_numbers {tokens = tokens} a.no_number z held h = let e = at_end z (λ those. 10 < rank those) h in record { chosen = chooses_second 10 (rank tokens) _ _ e; reads = (ended z) }
level_numbers a.a_number (take (choose i0 d0 z)) held h = let e = at_end z (λ those. 10 < rank those) h in record { chosen = refl; reads = (read_token (step (held.0 e) (ended z))) }

level_ascii : {tokens rest : List Lexeme} {tree : Tree r.ascii} (it : Alternative r.ascii) (d : By it tokens rest tree) → Held d → Ends r.ascii rest
    → Led r.ascii it tokens rest tree
level_ascii {tokens = tokens} a.no_ascii z held h = let e = at_end z (λ those. 11 < rank those) h in record { chosen = chooses_second 11 (rank tokens) _ _ e; reads = (ended z) }
level_ascii a.an_ascii (take z) held h = record { chosen = refl; reads = (read_token (ended z)) }

level_mode : {tokens rest : List Lexeme} {tree : Tree r.mode} (it : Alternative r.mode) (d : By it tokens rest tree) → Held d → Ends r.mode rest
    → Led r.mode it tokens rest tree
level_mode {tokens = tokens} a.no_mode z held h = let e = at_end z (λ those. 12 < rank those) h in record { chosen = chooses_second 12 (rank tokens) _ _ e; reads = (ended z) }
level_mode a.replace (take z) held h = record { chosen = refl; reads = (read_token (ended z)) }
level_mode a.append (take z) held h = record { chosen = refl; reads = (read_token (ended z)) }

level_map_kind : {tokens rest : List Lexeme} {tree : Tree r.map_kind} (it : Alternative r.map_kind) (d : By it tokens rest tree) → Held d → Ends r.map_kind rest
    → Led r.map_kind it tokens rest tree
level_map_kind a.datatype (take z) held h = record { chosen = refl; reads = (read_token (ended z)) }
level_map_kind a.texttype (take z) held h = record { chosen = refl; reads = (read_token (ended z)) }

level_items : {tokens rest : List Lexeme} {tree : Tree r.items} (it : Alternative r.items) (d : By it tokens rest tree) → Held d → Ends r.items rest
    → Led r.items it tokens rest tree
level_items a.no_item z held h = let e = at_end z (λ those. rank those ≡ 15) h in record { chosen = ap (λ n. choose_item n) e; reads = (ended z) }
level_items a.a_note (take (choose i0 d0 z)) held h = let e = at_end z (λ those. rank those ≡ 15) h in record { chosen = refl; reads = (read_token (step (held.0 e) (ended z))) }
level_items a.a_definition (take (take (choose i0 d0 (choose i1 d1 z)))) held h = let e = at_end z (λ those. rank those ≡ 15) h in record { chosen = refl; reads = (read_token (read_token (step (held.0 (starts_items i1 d1 e)) (step (held.1.0 e) (ended z))))) }
level_items a.an_output (choose i0 d0 (choose i1 d1 z)) held h = let e = at_end z (λ those. rank those ≡ 15) h in record { chosen = output_chosen i0 d0 (starts_items i1 d1 e); reads = (step (held.0 (starts_items i1 d1 e)) (step (held.1.0 e) (ended z))) }

level_value : {tokens rest : List Lexeme} {tree : Tree r.value} (it : Alternative r.value) (d : By it tokens rest tree) → Held d → Ends r.value rest
    → Led r.value it tokens rest tree
level_value a.value_of (choose i0 d0 (choose i1 d1 z)) held h = let e = at_end z (λ those. 3 < rank those) h in record { chosen = refl; reads = (step (held.0 (starts_addends i1 d1 e)) (step (held.1.0 e) (ended z))) }

level_addends : {tokens rest : List Lexeme} {tree : Tree r.addends} (it : Alternative r.addends) (d : By it tokens rest tree) → Held d → Ends r.addends rest
    → Led r.addends it tokens rest tree
level_addends {tokens = tokens} a.no_addend z held h = let e = at_end z (λ those. 3 < rank those) h in record { chosen = chooses_second 3 (rank tokens) _ _ e; reads = (ended z) }
level_addends a.plus (take (choose i0 d0 (choose i1 d1 z))) held h = let e = at_end z (λ those. 3 < rank those) h in record { chosen = refl; reads = (read_token (step (held.0 (starts_addends i1 d1 e)) (step (held.1.0 e) (ended z)))) }
level_addends a.minus (take (choose i0 d0 (choose i1 d1 z))) held h = let e = at_end z (λ those. 3 < rank those) h in record { chosen = refl; reads = (read_token (step (held.0 (starts_addends i1 d1 e)) (step (held.1.0 e) (ended z)))) }

level_product : {tokens rest : List Lexeme} {tree : Tree r.product} (it : Alternative r.product) (d : By it tokens rest tree) → Held d → Ends r.product rest
    → Led r.product it tokens rest tree
level_product a.product_of (choose i0 d0 (choose i1 d1 z)) held h = let e = at_end z (λ those. 2 < rank those) h in record { chosen = refl; reads = (step (held.0 (starts_factors i1 d1 e)) (step (held.1.0 e) (ended z))) }

level_factors : {tokens rest : List Lexeme} {tree : Tree r.factors} (it : Alternative r.factors) (d : By it tokens rest tree) → Held d → Ends r.factors rest
    → Led r.factors it tokens rest tree
level_factors {tokens = tokens} a.no_factor z held h = let e = at_end z (λ those. 2 < rank those) h in record { chosen = chooses_second 2 (rank tokens) _ _ e; reads = (ended z) }
level_factors a.times (take (choose i0 d0 (choose i1 d1 z))) held h = let e = at_end z (λ those. 2 < rank those) h in record { chosen = refl; reads = (read_token (step (held.0 (starts_factors i1 d1 e)) (step (held.1.0 e) (ended z)))) }
level_factors a.over (take (choose i0 d0 (choose i1 d1 z))) held h = let e = at_end z (λ those. 2 < rank those) h in record { chosen = refl; reads = (read_token (step (held.0 (starts_factors i1 d1 e)) (step (held.1.0 e) (ended z)))) }
level_factors a.modulo (take (choose i0 d0 (choose i1 d1 z))) held h = let e = at_end z (λ those. 2 < rank those) h in record { chosen = refl; reads = (read_token (step (held.0 (starts_factors i1 d1 e)) (step (held.1.0 e) (ended z)))) }

level_power : {tokens rest : List Lexeme} {tree : Tree r.power} (it : Alternative r.power) (d : By it tokens rest tree) → Held d → Ends r.power rest
    → Led r.power it tokens rest tree
level_power a.power_of (choose i0 d0 (choose i1 d1 z)) held h = let e = at_end z (λ those. 1 < rank those) h in record { chosen = refl; reads = (step (held.0 tt) (step (held.1.0 e) (ended z))) }

level_exponent : {tokens rest : List Lexeme} {tree : Tree r.exponent} (it : Alternative r.exponent) (d : By it tokens rest tree) → Held d → Ends r.exponent rest
    → Led r.exponent it tokens rest tree
level_exponent {tokens = tokens} a.no_exponent z held h = let e = at_end z (λ those. 1 < rank those) h in record { chosen = chooses_second 1 (rank tokens) _ _ e; reads = (ended z) }
level_exponent a.an_exponent (take (choose i0 d0 z)) held h = record { chosen = refl; reads = (read_token (step (held.0 tt) (ended z))) }

level_atom : {tokens rest : List Lexeme} {tree : Tree r.atom} (it : Alternative r.atom) (d : By it tokens rest tree) → Held d → Ends r.atom rest
    → Led r.atom it tokens rest tree
level_atom a.number_atom (take z) held h = record { chosen = refl; reads = (read_token (ended z)) }
level_atom a.name_atom (take z) held h = record { chosen = refl; reads = (read_token (ended z)) }
level_atom a.bracketed_atom (take (choose i0 d0 (take z))) held h = record { chosen = refl; reads = (read_token (step (held.0 (lit< tt)) (read_token (ended z)))) }
level_atom a.minus_number (take (take z)) held h = record { chosen = refl; reads = (read_token (read_token (ended z))) }
level_atom a.minus_name (take (take z)) held h = record { chosen = refl; reads = (read_token (read_token (ended z))) }
level_atom a.minus_bracketed (take (take (choose i0 d0 (take z)))) held h = record { chosen = refl; reads = (read_token (read_token (step (held.0 (lit< tt)) (read_token (ended z))))) }

level_layer : {tokens rest : List Lexeme} {tree : Tree r.layer} (it : Alternative r.layer) (d : By it tokens rest tree) → Held d → Ends r.layer rest
    → Led r.layer it tokens rest tree
level_layer a.layer_of (choose i0 d0 (choose i1 d1 z)) held h = let e = at_end z (λ those. 8 < rank those) h in record { chosen = refl; reads = (step (held.0 (starts_operations i1 d1 e).0) (step (held.1.0 e) (ended z))) }

level_operations : {tokens rest : List Lexeme} {tree : Tree r.operations} (it : Alternative r.operations) (d : By it tokens rest tree) → Held d → Ends r.operations rest
    → Led r.operations it tokens rest tree
level_operations {tokens = tokens} a.no_operation z held h = let e = at_end z (λ those. 8 < rank those) h in record { chosen = chooses_second 7 (rank tokens) _ _ (omega arith); reads = (ended z) }
level_operations a.an_operation (choose i0 d0 (choose i1 d1 (choose i2 d2 z))) held h = let e = at_end z (λ those. 8 < rank those) h in record { chosen = ap (λ n. if n == 7 then a.an_operation else a.no_operation) (infix_rank i0 d0); reads = (step (held.0 (starts_primary i1 d1)) (step (held.1.0 (starts_operations i2 d2 e).0) (step (held.1.1.0 e) (ended z)))) }

level_infix_operation : {tokens rest : List Lexeme} {tree : Tree r.infix_operation} (it : Alternative r.infix_operation) (d : By it tokens rest tree) → Held d → Ends r.infix_operation rest
    → Led r.infix_operation it tokens rest tree
level_infix_operation a.and (take z) held h = record { chosen = refl; reads = (read_token (ended z)) }
level_infix_operation a.or (take {tokens = more} z) held h = let e = at_end z (λ those. 8 < rank those) h in record { chosen = ap (λ b. choose_edge b a.or a.or_edge) (differs 0 (rank more) (omega arith)); reads = (read_token (ended z)) }
level_infix_operation a.not (take {tokens = more} z) held h = let e = at_end z (λ those. 8 < rank those) h in record { chosen = ap (λ b. if b then a.not else choose_not (next more) (rank (after more) == 0)) (is_below 8 (rank more) e); reads = (read_token (ended z)) }
level_infix_operation a.xor (take z) held h = record { chosen = refl; reads = (read_token (ended z)) }
level_infix_operation a.or_edge (take (take z)) held h = record { chosen = refl; reads = (read_token (read_token (ended z))) }
level_infix_operation (a.relation x) (take {tokens = more} z) held h = let e = at_end z (λ those. 8 < rank those) h in record { chosen = relation_chosen x more e; reads = (read_token (ended z)) }
level_infix_operation (a.not_relation x) (take (take {at = at} {bytes = bytes} {tokens = more} z)) held h = let e = at_end z (λ those. 8 < rank those) h in record { chosen = not_relation_chosen x at bytes more e; reads = (read_token (read_token (ended z))) }
level_infix_operation (a.edge_relation x) (take (take {at = at} {bytes = bytes} {tokens = more} z)) held h = record { chosen = edge_chosen x at bytes more; reads = (read_token (read_token (ended z))) }
level_infix_operation (a.not_edge_relation x) (take (take {at = at} {bytes = bytes} (take {at = at'} {bytes = bytes'} {tokens = more} z))) held h = record { chosen = not_edge_chosen x at bytes at' bytes' more; reads = (read_token (read_token (read_token (ended z)))) }

level_primary : {tokens rest : List Lexeme} {tree : Tree r.primary} (it : Alternative r.primary) (d : By it tokens rest tree) → Held d → Ends r.primary rest
    → Led r.primary it tokens rest tree
level_primary a.name_primary (take z) held h = record { chosen = refl; reads = (read_token (ended z)) }
level_primary a.bracketed_primary (take (choose i0 d0 (take z))) held h = record { chosen = refl; reads = (read_token (step (held.0 (lit< tt)) (read_token (ended z)))) }
level_primary a.copy (take (choose i0 d0 z)) held h = record { chosen = refl; reads = (read_token (step (held.0 tt) (ended z))) }
level_primary a.rectangle (take (choose i0 d0 z)) held h = record { chosen = refl; reads = (read_token (step (held.0 tt) (ended z))) }
level_primary a.area (take (choose i0 d0 (choose i1 d1 z))) held h = let e = at_end z (λ those. 6 < rank those) h in record { chosen = refl; reads = (read_token (step (held.0 tt) (step (held.1.0 (omega arith)) (ended z)))) }
level_primary a.length (take (choose i0 d0 (choose i1 d1 z))) held h = let e = at_end z (λ those. 6 < rank those) h in record { chosen = refl; reads = (read_token (step (held.0 tt) (step (held.1.0 (omega arith)) (ended z)))) }
level_primary a.size (take (choose i0 d0 (take (choose i1 d1 (choose i2 d2 z))))) held h = let e = at_end z (λ those. 6 < rank those) h in record { chosen = refl; reads = (read_token (step (held.0 tt) (read_token (step (held.1.0 (starts_turn i2 d2 (omega arith))) (step (held.1.1.0 (omega arith)) (ended z)))))) }
level_primary a.angle (take (choose i0 d0 (take (choose i1 d1 z)))) held h = let e = at_end z (λ those. 6 < rank those) h in record { chosen = refl; reads = (read_token (step (held.0 tt) (read_token (step (held.1.0 (omega arith)) (ended z))))) }
level_primary a.expand (take (take (choose i0 d0 (choose i1 d1 (take (choose i2 d2 z)))))) held h = let e = at_end z (λ those. 6 < rank those) h in record { chosen = refl; reads = (read_token (read_token (step (held.0 tt) (step (held.1.0 tt) (read_token (step (held.1.1.0 (omega arith)) (ended z))))))) }
level_primary a.internal (take (choose i0 d0 z)) held h = let e = at_end z (λ those. 6 < rank those) h in record { chosen = refl; reads = (read_token (step (held.0 e) (ended z))) }
level_primary a.external (take (choose i0 d0 z)) held h = let e = at_end z (λ those. 6 < rank those) h in record { chosen = refl; reads = (read_token (step (held.0 e) (ended z))) }
level_primary a.enclosure (take (choose i0 d0 z)) held h = let e = at_end z (λ those. 6 < rank those) h in record { chosen = refl; reads = (read_token (step (held.0 e) (ended z))) }

level_term : {tokens rest : List Lexeme} {tree : Tree r.term} (it : Alternative r.term) (d : By it tokens rest tree) → Held d → Ends r.term rest
    → Led r.term it tokens rest tree
level_term a.name_term (take z) held h = record { chosen = refl; reads = (read_token (ended z)) }
level_term a.bracketed_term (take (choose i0 d0 (take z))) held h = record { chosen = refl; reads = (read_token (step (held.0 (lit< tt)) (read_token (ended z)))) }

level_limits : {tokens rest : List Lexeme} {tree : Tree r.limits} (it : Alternative r.limits) (d : By it tokens rest tree) → Held d → Ends r.limits rest
    → Led r.limits it tokens rest tree
level_limits a.below_limit (take (choose i0 d0 z)) held h = let e = at_end z (λ those. 4 < rank those) h in record { chosen = refl; reads = (read_token (step (held.0 (omega arith)) (ended z))) }
level_limits a.at_most_limit (take (choose i0 d0 z)) held h = let e = at_end z (λ those. 4 < rank those) h in record { chosen = refl; reads = (read_token (step (held.0 (omega arith)) (ended z))) }
level_limits a.equal_limit (take (choose i0 d0 z)) held h = let e = at_end z (λ those. 4 < rank those) h in record { chosen = refl; reads = (read_token (step (held.0 (omega arith)) (ended z))) }
level_limits a.unequal_limit (take (choose i0 d0 z)) held h = let e = at_end z (λ those. 4 < rank those) h in record { chosen = refl; reads = (read_token (step (held.0 (omega arith)) (ended z))) }
level_limits a.above_limit (take (choose i0 d0 (choose i1 d1 z))) held h = let e = at_end z (λ those. 4 < rank those) h in record { chosen = refl; reads = (read_token (step (held.0 (starts_upper i1 d1 e)) (step (held.1.0 e) (ended z)))) }
level_limits a.at_least_limit (take (choose i0 d0 (choose i1 d1 z))) held h = let e = at_end z (λ those. 4 < rank those) h in record { chosen = refl; reads = (read_token (step (held.0 (starts_upper i1 d1 e)) (step (held.1.0 e) (ended z)))) }

level_upper : {tokens rest : List Lexeme} {tree : Tree r.upper} (it : Alternative r.upper) (d : By it tokens rest tree) → Held d → Ends r.upper rest
    → Led r.upper it tokens rest tree
level_upper {tokens = tokens} a.no_upper z held h = let e = at_end z (λ those. 4 < rank those) h in record { chosen = chooses_second 4 (rank tokens) _ _ e; reads = (ended z) }
level_upper a.upper_below (take (choose i0 d0 z)) held h = let e = at_end z (λ those. 4 < rank those) h in record { chosen = refl; reads = (read_token (step (held.0 (omega arith)) (ended z))) }
level_upper a.upper_at_most (take (choose i0 d0 z)) held h = let e = at_end z (λ those. 4 < rank those) h in record { chosen = refl; reads = (read_token (step (held.0 (omega arith)) (ended z))) }

level_bound : {tokens rest : List Lexeme} {tree : Tree r.bound} (it : Alternative r.bound) (d : By it tokens rest tree) → Held d → Ends r.bound rest
    → Led r.bound it tokens rest tree
level_bound a.bound_below (take (choose i0 d0 z)) held h = let e = at_end z (λ those. 3 < rank those) h in record { chosen = refl; reads = (read_token (step (held.0 e) (ended z))) }
level_bound a.bound_at_most (take (choose i0 d0 z)) held h = let e = at_end z (λ those. 3 < rank those) h in record { chosen = refl; reads = (read_token (step (held.0 e) (ended z))) }

level_turn : {tokens rest : List Lexeme} {tree : Tree r.turn} (it : Alternative r.turn) (d : By it tokens rest tree) → Held d → Ends r.turn rest
    → Led r.turn it tokens rest tree
level_turn {tokens = tokens} a.no_turn z held h = let e = at_end z (λ those. 5 < rank those) h in record { chosen = chooses_second 5 (rank tokens) _ _ e; reads = (ended z) }
level_turn a.overunder (take z) held h = record { chosen = refl; reads = (read_token (ended z)) }
level_turn a.underover (take z) held h = record { chosen = refl; reads = (read_token (ended z)) }

level_side : {tokens rest : List Lexeme} {tree : Tree r.side} (it : Alternative r.side) (d : By it tokens rest tree) → Held d → Ends r.side rest
    → Led r.side it tokens rest tree
level_side a.inside (take z) held h = record { chosen = refl; reads = (read_token (ended z)) }
level_side a.outside (take z) held h = record { chosen = refl; reads = (read_token (ended z)) }

level_distance : {kind : DistanceKind} {tokens rest : List Lexeme} {tree : Tree (r.distance kind)} (it : Alternative (r.distance kind)) (d : By it tokens rest tree) → Held d → Ends (r.distance kind) rest
    → Led (r.distance kind) it tokens rest tree
level_distance a.one_internal (take (choose i0 d0 (choose i1 d1 z))) held h = let e = at_end z (λ those. 6 < rank those) h in record { chosen = internal_by i0 d0 _; reads = (read_token (step (held.0 (starts_options i1 d1 e)) (step (held.1.0 e) (ended z)))) }
level_distance a.one_internal_bracketed (take (take (take (choose i0 d0 (choose i1 d1 z))))) held h = let e = at_end z (λ those. 6 < rank those) h in record { chosen = internal_bracketed_by i0 d0; reads = (read_token (read_token (read_token (step (held.0 (starts_options i1 d1 e)) (step (held.1.0 e) (ended z)))))) }
level_distance a.one_external (take (choose i0 d0 (choose i1 d1 z))) held h = let e = at_end z (λ those. 6 < rank those) h in record { chosen = external_by i0 d0 _; reads = (read_token (step (held.0 (starts_options i1 d1 e)) (step (held.1.0 e) (ended z)))) }
level_distance a.one_external_bracketed (take (take (take (choose i0 d0 (choose i1 d1 z))))) held h = let e = at_end z (λ those. 6 < rank those) h in record { chosen = external_bracketed_by i0 d0; reads = (read_token (read_token (read_token (step (held.0 (starts_options i1 d1 e)) (step (held.1.0 e) (ended z)))))) }
level_distance (a.two {kind}) (take (take (choose i0 d0 (choose i1 d1 z)))) held h = let e = at_end z (λ those. 6 < rank those) h in record { chosen = two_by kind _ _ _ _ _; reads = (read_token (read_token (step (held.0 (starts_options i1 d1 e)) (step (held.1.0 e) (ended z))))) }
level_distance (a.two_first_bracketed {kind}) (take (take (take (take (choose i0 d0 (choose i1 d1 z)))))) held h = let e = at_end z (λ those. 6 < rank those) h in record { chosen = two_first_by kind _ _ _ _ _ _ _ _ _; reads = (read_token (read_token (read_token (read_token (step (held.0 (starts_options i1 d1 e)) (step (held.1.0 e) (ended z))))))) }
level_distance (a.two_second_bracketed {kind}) (take (take (take (take (choose i0 d0 (choose i1 d1 z)))))) held h = let e = at_end z (λ those. 6 < rank those) h in record { chosen = two_second_by kind _ _ _ _ _; reads = (read_token (read_token (read_token (read_token (step (held.0 (starts_options i1 d1 e)) (step (held.1.0 e) (ended z))))))) }

level_options : {those : Left} {tokens rest : List Lexeme} {tree : Tree (r.options those)} (it : Alternative (r.options those)) (d : By it tokens rest tree) → Held d → Ends (r.options those) rest
    → Led (r.options those) it tokens rest tree
level_options {tokens = tokens} a.no_option z held h = let e = at_end z (λ those. 6 < rank those) h in record { chosen = chooses_second 6 (rank tokens) _ _ e; reads = (ended z) }
level_options a.abut (take (take (choose i0 d0 (choose i1 d1 z)))) held h = let e = at_end z (λ those. 6 < rank those) h in record { chosen = refl; reads = (read_token (read_token (step (held.0 (starts_options i1 d1 e)) (step (held.1.0 e) (ended z))))) }
level_options a.singular (take (choose i0 d0 z)) held h = let e = at_end z (λ those. 6 < rank those) h in record { chosen = refl; reads = (read_token (step (held.0 e) (ended z))) }
level_options a.opposite (take (choose i0 d0 z)) held h = let e = at_end z (λ those. 6 < rank those) h in record { chosen = refl; reads = (read_token (step (held.0 e) (ended z))) }
level_options a.square (take (choose i0 d0 z)) held h = let e = at_end z (λ those. 6 < rank those) h in record { chosen = refl; reads = (read_token (step (held.0 e) (ended z))) }
level_options a.notch (take (choose i0 d0 z)) held h = let e = at_end z (λ those. 6 < rank those) h in record { chosen = refl; reads = (read_token (step (held.0 e) (ended z))) }
level_options a.space (take (choose i0 d0 z)) held h = let e = at_end z (λ those. 6 < rank those) h in record { chosen = refl; reads = (read_token (step (held.0 e) (ended z))) }
level_options a.region (take (choose i0 d0 z)) held h = let e = at_end z (λ those. 6 < rank those) h in record { chosen = refl; reads = (read_token (step (held.0 e) (ended z))) }

pub one_level : (q : Rule) {tokens rest : List Lexeme} {tree : Tree q} (it : Alternative q) (d : By it tokens rest tree) → Held d → Ends q rest
    → Led q it tokens rest tree
one_level r.statements it d held h = level_statements it d held h
one_level r.statement it d held h = level_statement it d held h
one_level r.file it d held h = level_file it d held h
one_level r.names it d held h = level_names it d held h
one_level r.numbers it d held h = level_numbers it d held h
one_level r.ascii it d held h = level_ascii it d held h
one_level r.mode it d held h = level_mode it d held h
one_level r.map_kind it d held h = level_map_kind it d held h
one_level r.items it d held h = level_items it d held h
one_level r.value it d held h = level_value it d held h
one_level r.addends it d held h = level_addends it d held h
one_level r.product it d held h = level_product it d held h
one_level r.factors it d held h = level_factors it d held h
one_level r.power it d held h = level_power it d held h
one_level r.exponent it d held h = level_exponent it d held h
one_level r.atom it d held h = level_atom it d held h
one_level r.layer it d held h = level_layer it d held h
one_level r.operations it d held h = level_operations it d held h
one_level r.infix_operation it d held h = level_infix_operation it d held h
one_level r.primary it d held h = level_primary it d held h
one_level r.term it d held h = level_term it d held h
one_level r.limits it d held h = level_limits it d held h
one_level r.upper it d held h = level_upper it d held h
one_level r.bound it d held h = level_bound it d held h
one_level r.turn it d held h = level_turn it d held h
one_level r.side it d held h = level_side it d held h
one_level (r.distance kind) it d held h = level_distance it d held h
one_level (r.options those) it d held h = level_options it d held h

pub held : {o : Rule} {parts : List Part} {meaning : Meaning parts (Tree o)} {tokens rest : List Lexeme} {tree : Tree o}
    → (s : Spells o parts meaning tokens rest tree) → Held s
held done = tt
held (take s) = held s
held (choose {q = q} it d s) = (one_level q it d (held d), held s)

pub led : {q : Rule} {tokens rest : List Lexeme} {tree : Tree q} (it : Alternative q) → By it tokens rest tree → Ends q rest
    → Led q it tokens rest tree
led {q} it d h = one_level q it d (held d) h
