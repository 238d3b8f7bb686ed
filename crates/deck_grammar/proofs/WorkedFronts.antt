-- Fronts of decks that are worked by hand, by trying every alternative: the tokens before `|` are viable, and with the
-- one behind it they aren't.
use Rattle.std.proofs.Common.{◌≡◌, ℕ, zero, suc, Bool, true, false, List, [], ◌∷◌, refl}
use Rattle.std.specs.Prelude.{◌++◌}
use Rattle.std.specs.List.{flat_map}
use denote.Enum.Bare.{sameb}
use Rattle.deck_grammar.specs.contracts.keyword.Keyword.{the_type as keywords}
use Rattle.deck_grammar.specs.contracts.sign.Sign.{the_type as signs}
use Rattle.deck_grammar.specs.declared.keyword.Keyword.TheVariants as k
use Rattle.deck_grammar.specs.declared.sign.Sign.TheVariants as s
use Rattle.deck_grammar.specs.declared.kind.Kind.{Kind}
use Rattle.deck_grammar.specs.declared.kind.Kind.TheVariants as kinds
use Rattle.deck_grammar.specs.Rules.{Rule, statements, Tree, Part, token, rule, Meaning}
use Rattle.deck_grammar.specs.Alternatives.{production}
use Rattle.deck_grammar.specs.Alternatives as a
use Rattle.deck_grammar.specs.Alternatives.{Alternative}
use Rattle.deck_grammar.specs.Rules as r
use Rattle.deck_tree.specs.declared.infix.Relation.TheVariants as rel
use Rattle.deck_tree.specs.declared.infix.EdgeRelation.TheVariants as edge
use Rattle.deck_tree.specs.declared.distance.DistanceKind.TheVariants.{Internal, External, Enclosure}

abbrev fits : Kind → Kind → Bool
fits (kinds.Keyword a) (kinds.Keyword b) = sameb keywords a b
fits (kinds.Sign a) (kinds.Sign b) = sameb signs a b
fits kinds.Name kinds.Name = true
fits kinds.Number kinds.Number = true
fits kinds.Text kinds.Text = true
fits kinds.Note kinds.Note = true
fits _ _ = false

abbrev first : (v w x y z : Bool) → List (Alternative (r.options (r.left v w x y z)))
first true w x y z = a.abut ∷ []
first false w x y z = []

abbrev second : (v w x y z : Bool) → List (Alternative (r.options (r.left v w x y z)))
second v true x y z = a.singular ∷ []
second v false x y z = []

abbrev third : (v w x y z : Bool) → List (Alternative (r.options (r.left v w x y z)))
third v w true y z = a.opposite ∷ a.square ∷ []
third v w false y z = []

abbrev fourth : (v w x y z : Bool) → List (Alternative (r.options (r.left v w x y z)))
fourth v w x true z = a.notch ∷ a.space ∷ []
fourth v w x false z = []

abbrev fifth : (v w x y z : Bool) → List (Alternative (r.options (r.left v w x y z)))
fifth v w x y true = a.region ∷ []
fifth v w x y false = []

abbrev alternatives : (q : Rule) → List (Alternative q)
alternatives r.statements = a.no_statement ∷ a.a_statement ∷ []
alternatives r.statement = a.layout_system ∷ a.layout_path ∷ a.layout_primary ∷ a.results_database ∷ a.summary_report ∷ a.maximum_results ∷ a.maximum_all ∷ a.select_check ∷ a.unselect_check ∷ a.precision ∷ a.title ∷ a.variable ∷ a.layer_numbers ∷ a.layer_map ∷ a.definition ∷ a.check ∷ []
alternatives r.file = a.file_text ∷ a.file_name ∷ []
alternatives r.names = a.no_name ∷ a.a_name ∷ []
alternatives r.numbers = a.no_number ∷ a.a_number ∷ []
alternatives r.ascii = a.no_ascii ∷ a.an_ascii ∷ []
alternatives r.mode = a.no_mode ∷ a.replace ∷ a.append ∷ []
alternatives r.map_kind = a.datatype ∷ a.texttype ∷ []
alternatives r.items = a.no_item ∷ a.a_note ∷ a.a_definition ∷ a.an_output ∷ []
alternatives r.value = a.value_of ∷ []
alternatives r.addends = a.no_addend ∷ a.plus ∷ a.minus ∷ []
alternatives r.product = a.product_of ∷ []
alternatives r.factors = a.no_factor ∷ a.times ∷ a.over ∷ a.modulo ∷ []
alternatives r.power = a.power_of ∷ []
alternatives r.exponent = a.no_exponent ∷ a.an_exponent ∷ []
alternatives r.atom = a.number_atom ∷ a.name_atom ∷ a.bracketed_atom ∷ a.minus_number ∷ a.minus_name ∷ a.minus_bracketed ∷ []
alternatives r.layer = a.layer_of ∷ []
alternatives r.operations = a.no_operation ∷ a.an_operation ∷ []
alternatives r.infix_operation = a.and ∷ a.or ∷ a.not ∷ a.xor ∷ a.or_edge ∷ a.relation rel.Inside ∷ a.not_relation rel.Inside ∷ a.relation rel.Outside ∷ a.not_relation rel.Outside ∷ a.relation rel.Interact ∷ a.not_relation rel.Interact ∷ a.relation rel.Touch ∷ a.not_relation rel.Touch ∷ a.relation rel.Cut ∷ a.not_relation rel.Cut ∷ a.relation rel.Enclose ∷ a.not_relation rel.Enclose ∷ a.edge_relation edge.Inside ∷ a.not_edge_relation edge.Inside ∷ a.edge_relation edge.Outside ∷ a.not_edge_relation edge.Outside ∷ a.edge_relation edge.Coincident ∷ a.not_edge_relation edge.Coincident ∷ []
alternatives r.primary = a.name_primary ∷ a.bracketed_primary ∷ a.copy ∷ a.rectangle ∷ a.area ∷ a.length ∷ a.size ∷ a.angle ∷ a.expand ∷ a.internal ∷ a.external ∷ a.enclosure ∷ []
alternatives r.term = a.name_term ∷ a.bracketed_term ∷ []
alternatives r.limits = a.below_limit ∷ a.at_most_limit ∷ a.equal_limit ∷ a.unequal_limit ∷ a.above_limit ∷ a.at_least_limit ∷ []
alternatives r.upper = a.no_upper ∷ a.upper_below ∷ a.upper_at_most ∷ []
alternatives r.bound = a.bound_below ∷ a.bound_at_most ∷ []
alternatives r.turn = a.no_turn ∷ a.overunder ∷ a.underover ∷ []
alternatives r.side = a.inside ∷ a.outside ∷ []
alternatives (r.distance Internal) = a.one_internal ∷ a.one_internal_bracketed ∷ a.two ∷ a.two_first_bracketed ∷ a.two_second_bracketed ∷ []
alternatives (r.distance External) = a.one_external ∷ a.one_external_bracketed ∷ a.two ∷ a.two_first_bracketed ∷ a.two_second_bracketed ∷ []
alternatives (r.distance Enclosure) = a.two ∷ a.two_first_bracketed ∷ a.two_second_bracketed ∷ []
alternatives (r.options (r.left v w x y z)) = (a.no_option ∷ []) ++ (first v w x y z ++ (second v w x y z ++ (third v w x y z ++ (fourth v w x y z ++ fifth v w x y z))))

-- what is left behind what the parts spell, in all ways
abbrev rests : ℕ → List Part → List Kind → List (List Kind)
rests zero parts tokens = []
rests (suc n) [] tokens = tokens ∷ []
rests (suc n) (token k ∷ parts) [] = []
rests (suc n) (token k ∷ parts) (t ∷ tokens) = elim (fits k t) [ true ↦ rests n parts tokens | false ↦ [] ]
rests (suc n) (rule q ∷ parts) tokens = flat_map (λ it. flat_map (λ left. rests n parts left) (rests n (production it).parts tokens)) (alternatives q)

abbrev any_of : {A : Type 0} → (A → Bool) → List A → Bool
any_of test [] = false
any_of test (x ∷ more) = elim (test x) [ true ↦ true | false ↦ any_of test more ]

abbrev front : ℕ → List Part → List Kind → Bool
front zero parts tokens = false
front (suc n) parts [] = true
front (suc n) [] (t ∷ tokens) = false
front (suc n) (token k ∷ parts) (t ∷ tokens) = elim (fits k t) [ true ↦ front n parts tokens | false ↦ false ]
front (suc n) (rule q ∷ parts) (t ∷ tokens) =
    any_of (λ (it : Alternative q). elim (front n (production it).parts (t ∷ tokens)) [ true ↦ true | false ↦ any_of (λ left. front n parts left) (rests n (production it).parts (t ∷ tokens)) ]) (alternatives q)

abbrev is_viable : List Kind → Bool
is_viable tokens = front 60 (rule statements ∷ []) tokens

-- X = INT A | ]
viable_0 : is_viable (kinds.Name ∷ (kinds.Sign s.Equals) ∷ (kinds.Keyword k.Int) ∷ kinds.Name ∷ []) ≡ true
viable_0 = refl

stops_0 : is_viable (kinds.Name ∷ (kinds.Sign s.Equals) ∷ (kinds.Keyword k.Int) ∷ kinds.Name ∷ (kinds.Sign s.RightSquare) ∷ []) ≡ false
stops_0 = refl

-- X = INT A < | >
viable_1 : is_viable (kinds.Name ∷ (kinds.Sign s.Equals) ∷ (kinds.Keyword k.Int) ∷ kinds.Name ∷ (kinds.Sign s.Less) ∷ []) ≡ true
viable_1 = refl

stops_1 : is_viable (kinds.Name ∷ (kinds.Sign s.Equals) ∷ (kinds.Keyword k.Int) ∷ kinds.Name ∷ (kinds.Sign s.Less) ∷ (kinds.Sign s.Greater) ∷ []) ≡ false
stops_1 = refl

-- X = INT A < 5 | >
viable_2 : is_viable (kinds.Name ∷ (kinds.Sign s.Equals) ∷ (kinds.Keyword k.Int) ∷ kinds.Name ∷ (kinds.Sign s.Less) ∷ kinds.Number ∷ []) ≡ true
viable_2 = refl

stops_2 : is_viable (kinds.Name ∷ (kinds.Sign s.Equals) ∷ (kinds.Keyword k.Int) ∷ kinds.Name ∷ (kinds.Sign s.Less) ∷ kinds.Number ∷ (kinds.Sign s.Greater) ∷ []) ≡ false
stops_2 = refl

-- X { ENC A | >
viable_3 : is_viable (kinds.Name ∷ (kinds.Sign s.LeftBrace) ∷ (kinds.Keyword k.Enc) ∷ kinds.Name ∷ []) ≡ true
viable_3 = refl

stops_3 : is_viable (kinds.Name ∷ (kinds.Sign s.LeftBrace) ∷ (kinds.Keyword k.Enc) ∷ kinds.Name ∷ (kinds.Sign s.Greater) ∷ []) ≡ false
stops_3 = refl

-- X = AREA A | [
viable_4 : is_viable (kinds.Name ∷ (kinds.Sign s.Equals) ∷ (kinds.Keyword k.Area) ∷ kinds.Name ∷ []) ≡ true
viable_4 = refl

stops_4 : is_viable (kinds.Name ∷ (kinds.Sign s.Equals) ∷ (kinds.Keyword k.Area) ∷ kinds.Name ∷ (kinds.Sign s.LeftSquare) ∷ []) ≡ false
stops_4 = refl

-- X = INT A | (
viable_5 : is_viable (kinds.Name ∷ (kinds.Sign s.Equals) ∷ (kinds.Keyword k.Int) ∷ kinds.Name ∷ []) ≡ true
viable_5 = refl

stops_5 : is_viable (kinds.Name ∷ (kinds.Sign s.Equals) ∷ (kinds.Keyword k.Int) ∷ kinds.Name ∷ (kinds.Sign s.LeftRound) ∷ []) ≡ false
stops_5 = refl

-- X = EXT [A] | (
viable_6 : is_viable (kinds.Name ∷ (kinds.Sign s.Equals) ∷ (kinds.Keyword k.Ext) ∷ (kinds.Sign s.LeftSquare) ∷ kinds.Name ∷ (kinds.Sign s.RightSquare) ∷ []) ≡ true
viable_6 = refl

stops_6 : is_viable (kinds.Name ∷ (kinds.Sign s.Equals) ∷ (kinds.Keyword k.Ext) ∷ (kinds.Sign s.LeftSquare) ∷ kinds.Name ∷ (kinds.Sign s.RightSquare) ∷ (kinds.Sign s.LeftRound) ∷ []) ≡ false
stops_6 = refl

-- X = EXT [A] | [
viable_7 : is_viable (kinds.Name ∷ (kinds.Sign s.Equals) ∷ (kinds.Keyword k.Ext) ∷ (kinds.Sign s.LeftSquare) ∷ kinds.Name ∷ (kinds.Sign s.RightSquare) ∷ []) ≡ true
viable_7 = refl

stops_7 : is_viable (kinds.Name ∷ (kinds.Sign s.Equals) ∷ (kinds.Keyword k.Ext) ∷ (kinds.Sign s.LeftSquare) ∷ kinds.Name ∷ (kinds.Sign s.RightSquare) ∷ (kinds.Sign s.LeftSquare) ∷ []) ≡ false
stops_7 = refl

-- X = | AND
viable_8 : is_viable (kinds.Name ∷ (kinds.Sign s.Equals) ∷ []) ≡ true
viable_8 = refl

stops_8 : is_viable (kinds.Name ∷ (kinds.Sign s.Equals) ∷ (kinds.Keyword k.And) ∷ []) ≡ false
stops_8 = refl

-- | AND
viable_9 : is_viable ([]) ≡ true
viable_9 = refl

stops_9 : is_viable ((kinds.Keyword k.And) ∷ []) ≡ false
stops_9 = refl

-- X = COPY | AND
viable_10 : is_viable (kinds.Name ∷ (kinds.Sign s.Equals) ∷ (kinds.Keyword k.Copy) ∷ []) ≡ true
viable_10 = refl

stops_10 : is_viable (kinds.Name ∷ (kinds.Sign s.Equals) ∷ (kinds.Keyword k.Copy) ∷ (kinds.Keyword k.And) ∷ []) ≡ false
stops_10 = refl

-- DRC SELECT CHECK A | =
viable_11 : is_viable ((kinds.Keyword k.Drc) ∷ (kinds.Keyword k.Select) ∷ (kinds.Keyword k.Check) ∷ kinds.Name ∷ []) ≡ true
viable_11 = refl

stops_11 : is_viable ((kinds.Keyword k.Drc) ∷ (kinds.Keyword k.Select) ∷ (kinds.Keyword k.Check) ∷ kinds.Name ∷ (kinds.Sign s.Equals) ∷ []) ≡ false
stops_11 = refl

-- DRC SELECT CHECK A B | <
viable_12 : is_viable ((kinds.Keyword k.Drc) ∷ (kinds.Keyword k.Select) ∷ (kinds.Keyword k.Check) ∷ kinds.Name ∷ kinds.Name ∷ []) ≡ true
viable_12 = refl

stops_12 : is_viable ((kinds.Keyword k.Drc) ∷ (kinds.Keyword k.Select) ∷ (kinds.Keyword k.Check) ∷ kinds.Name ∷ kinds.Name ∷ (kinds.Sign s.Less) ∷ []) ≡ false
stops_12 = refl

-- LAYER MAP | <
viable_13 : is_viable ((kinds.Keyword k.Layer) ∷ (kinds.Keyword k.Map) ∷ []) ≡ true
viable_13 = refl

stops_13 : is_viable ((kinds.Keyword k.Layer) ∷ (kinds.Keyword k.Map) ∷ (kinds.Sign s.Less) ∷ []) ≡ false
stops_13 = refl

-- LAYER MAP 1 | 2
viable_14 : is_viable ((kinds.Keyword k.Layer) ∷ (kinds.Keyword k.Map) ∷ kinds.Number ∷ []) ≡ true
viable_14 = refl

stops_14 : is_viable ((kinds.Keyword k.Layer) ∷ (kinds.Keyword k.Map) ∷ kinds.Number ∷ kinds.Number ∷ []) ≡ false
stops_14 = refl

-- X = A NOT | EDGE
viable_15 : is_viable (kinds.Name ∷ (kinds.Sign s.Equals) ∷ kinds.Name ∷ (kinds.Keyword k.Not) ∷ []) ≡ true
viable_15 = refl

stops_15 : is_viable (kinds.Name ∷ (kinds.Sign s.Equals) ∷ kinds.Name ∷ (kinds.Keyword k.Not) ∷ (kinds.Keyword k.Edge) ∷ []) ≡ false
stops_15 = refl

-- X = A NOT COINCIDENT | B
viable_16 : is_viable (kinds.Name ∷ (kinds.Sign s.Equals) ∷ kinds.Name ∷ (kinds.Keyword k.Not) ∷ (kinds.Keyword k.Coincident) ∷ []) ≡ true
viable_16 = refl

stops_16 : is_viable (kinds.Name ∷ (kinds.Sign s.Equals) ∷ kinds.Name ∷ (kinds.Keyword k.Not) ∷ (kinds.Keyword k.Coincident) ∷ kinds.Name ∷ []) ≡ false
stops_16 = refl

-- X = A OR EDGE | EDGE
viable_17 : is_viable (kinds.Name ∷ (kinds.Sign s.Equals) ∷ kinds.Name ∷ (kinds.Keyword k.Or) ∷ (kinds.Keyword k.Edge) ∷ []) ≡ true
viable_17 = refl

stops_17 : is_viable (kinds.Name ∷ (kinds.Sign s.Equals) ∷ kinds.Name ∷ (kinds.Keyword k.Or) ∷ (kinds.Keyword k.Edge) ∷ (kinds.Keyword k.Edge) ∷ []) ≡ false
stops_17 = refl

-- X { A B = | }
viable_18 : is_viable (kinds.Name ∷ (kinds.Sign s.LeftBrace) ∷ kinds.Name ∷ kinds.Name ∷ (kinds.Sign s.Equals) ∷ []) ≡ true
viable_18 = refl

stops_18 : is_viable (kinds.Name ∷ (kinds.Sign s.LeftBrace) ∷ kinds.Name ∷ kinds.Name ∷ (kinds.Sign s.Equals) ∷ (kinds.Sign s.RightBrace) ∷ []) ≡ false
stops_18 = refl

-- X { A | 5
viable_19 : is_viable (kinds.Name ∷ (kinds.Sign s.LeftBrace) ∷ kinds.Name ∷ []) ≡ true
viable_19 = refl

stops_19 : is_viable (kinds.Name ∷ (kinds.Sign s.LeftBrace) ∷ kinds.Name ∷ kinds.Number ∷ []) ≡ false
stops_19 = refl

-- X { A | {
viable_20 : is_viable (kinds.Name ∷ (kinds.Sign s.LeftBrace) ∷ kinds.Name ∷ []) ≡ true
viable_20 = refl

stops_20 : is_viable (kinds.Name ∷ (kinds.Sign s.LeftBrace) ∷ kinds.Name ∷ (kinds.Sign s.LeftBrace) ∷ []) ≡ false
stops_20 = refl

-- VARIABLE v 1 + | +
viable_21 : is_viable ((kinds.Keyword k.Variable) ∷ kinds.Name ∷ kinds.Number ∷ (kinds.Sign s.Plus) ∷ []) ≡ true
viable_21 = refl

stops_21 : is_viable ((kinds.Keyword k.Variable) ∷ kinds.Name ∷ kinds.Number ∷ (kinds.Sign s.Plus) ∷ (kinds.Sign s.Plus) ∷ []) ≡ false
stops_21 = refl

-- VARIABLE v - | -
viable_22 : is_viable ((kinds.Keyword k.Variable) ∷ kinds.Name ∷ (kinds.Sign s.Minus) ∷ []) ≡ true
viable_22 = refl

stops_22 : is_viable ((kinds.Keyword k.Variable) ∷ kinds.Name ∷ (kinds.Sign s.Minus) ∷ (kinds.Sign s.Minus) ∷ []) ≡ false
stops_22 = refl

-- VARIABLE v 2 ^ 2 | ^
viable_23 : is_viable ((kinds.Keyword k.Variable) ∷ kinds.Name ∷ kinds.Number ∷ (kinds.Sign s.Power) ∷ kinds.Number ∷ []) ≡ true
viable_23 = refl

stops_23 : is_viable ((kinds.Keyword k.Variable) ∷ kinds.Name ∷ kinds.Number ∷ (kinds.Sign s.Power) ∷ kinds.Number ∷ (kinds.Sign s.Power) ∷ []) ≡ false
stops_23 = refl

-- X { INT A < 1 SINGULAR | SINGULAR
viable_24 : is_viable (kinds.Name ∷ (kinds.Sign s.LeftBrace) ∷ (kinds.Keyword k.Int) ∷ kinds.Name ∷ (kinds.Sign s.Less) ∷ kinds.Number ∷ (kinds.Keyword k.Singular) ∷ []) ≡ true
viable_24 = refl

stops_24 : is_viable (kinds.Name ∷ (kinds.Sign s.LeftBrace) ∷ (kinds.Keyword k.Int) ∷ kinds.Name ∷ (kinds.Sign s.Less) ∷ kinds.Number ∷ (kinds.Keyword k.Singular) ∷ (kinds.Keyword k.Singular) ∷ []) ≡ false
stops_24 = refl

-- X { INT A < 1 OPPOSITE | SQUARE
viable_25 : is_viable (kinds.Name ∷ (kinds.Sign s.LeftBrace) ∷ (kinds.Keyword k.Int) ∷ kinds.Name ∷ (kinds.Sign s.Less) ∷ kinds.Number ∷ (kinds.Keyword k.Opposite) ∷ []) ≡ true
viable_25 = refl

stops_25 : is_viable (kinds.Name ∷ (kinds.Sign s.LeftBrace) ∷ (kinds.Keyword k.Int) ∷ kinds.Name ∷ (kinds.Sign s.Less) ∷ kinds.Number ∷ (kinds.Keyword k.Opposite) ∷ (kinds.Keyword k.Square) ∷ []) ≡ false
stops_25 = refl

-- X { EXT A < 1 NOTCH | SPACE
viable_26 : is_viable (kinds.Name ∷ (kinds.Sign s.LeftBrace) ∷ (kinds.Keyword k.Ext) ∷ kinds.Name ∷ (kinds.Sign s.Less) ∷ kinds.Number ∷ (kinds.Keyword k.Notch) ∷ []) ≡ true
viable_26 = refl

stops_26 : is_viable (kinds.Name ∷ (kinds.Sign s.LeftBrace) ∷ (kinds.Keyword k.Ext) ∷ kinds.Name ∷ (kinds.Sign s.Less) ∷ kinds.Number ∷ (kinds.Keyword k.Notch) ∷ (kinds.Keyword k.Space) ∷ []) ≡ false
stops_26 = refl

-- X { EXT A B < 1 | NOTCH
viable_27 : is_viable (kinds.Name ∷ (kinds.Sign s.LeftBrace) ∷ (kinds.Keyword k.Ext) ∷ kinds.Name ∷ kinds.Name ∷ (kinds.Sign s.Less) ∷ kinds.Number ∷ []) ≡ true
viable_27 = refl

stops_27 : is_viable (kinds.Name ∷ (kinds.Sign s.LeftBrace) ∷ (kinds.Keyword k.Ext) ∷ kinds.Name ∷ kinds.Name ∷ (kinds.Sign s.Less) ∷ kinds.Number ∷ (kinds.Keyword k.Notch) ∷ []) ≡ false
stops_27 = refl

-- X { INT A < 1 | NOTCH
viable_28 : is_viable (kinds.Name ∷ (kinds.Sign s.LeftBrace) ∷ (kinds.Keyword k.Int) ∷ kinds.Name ∷ (kinds.Sign s.Less) ∷ kinds.Number ∷ []) ≡ true
viable_28 = refl

stops_28 : is_viable (kinds.Name ∷ (kinds.Sign s.LeftBrace) ∷ (kinds.Keyword k.Int) ∷ kinds.Name ∷ (kinds.Sign s.Less) ∷ kinds.Number ∷ (kinds.Keyword k.Notch) ∷ []) ≡ false
stops_28 = refl

-- X { INT [A] < 1 | REGION
viable_29 : is_viable (kinds.Name ∷ (kinds.Sign s.LeftBrace) ∷ (kinds.Keyword k.Int) ∷ (kinds.Sign s.LeftSquare) ∷ kinds.Name ∷ (kinds.Sign s.RightSquare) ∷ (kinds.Sign s.Less) ∷ kinds.Number ∷ []) ≡ true
viable_29 = refl

stops_29 : is_viable (kinds.Name ∷ (kinds.Sign s.LeftBrace) ∷ (kinds.Keyword k.Int) ∷ (kinds.Sign s.LeftSquare) ∷ kinds.Name ∷ (kinds.Sign s.RightSquare) ∷ (kinds.Sign s.Less) ∷ kinds.Number ∷ (kinds.Keyword k.Region) ∷ []) ≡ false
stops_29 = refl

-- X { INT A < 1 ABUT < 90 | ABUT
viable_30 : is_viable (kinds.Name ∷ (kinds.Sign s.LeftBrace) ∷ (kinds.Keyword k.Int) ∷ kinds.Name ∷ (kinds.Sign s.Less) ∷ kinds.Number ∷ (kinds.Keyword k.Abut) ∷ (kinds.Sign s.Less) ∷ kinds.Number ∷ []) ≡ true
viable_30 = refl

stops_30 : is_viable (kinds.Name ∷ (kinds.Sign s.LeftBrace) ∷ (kinds.Keyword k.Int) ∷ kinds.Name ∷ (kinds.Sign s.Less) ∷ kinds.Number ∷ (kinds.Keyword k.Abut) ∷ (kinds.Sign s.Less) ∷ kinds.Number ∷ (kinds.Keyword k.Abut) ∷ []) ≡ false
stops_30 = refl

-- X { INT A < 1 ABUT | SINGULAR
viable_31 : is_viable (kinds.Name ∷ (kinds.Sign s.LeftBrace) ∷ (kinds.Keyword k.Int) ∷ kinds.Name ∷ (kinds.Sign s.Less) ∷ kinds.Number ∷ (kinds.Keyword k.Abut) ∷ []) ≡ true
viable_31 = refl

stops_31 : is_viable (kinds.Name ∷ (kinds.Sign s.LeftBrace) ∷ (kinds.Keyword k.Int) ∷ kinds.Name ∷ (kinds.Sign s.Less) ∷ kinds.Number ∷ (kinds.Keyword k.Abut) ∷ (kinds.Keyword k.Singular) ∷ []) ≡ false
stops_31 = refl

-- TITLE | 5
viable_32 : is_viable ((kinds.Keyword k.Title) ∷ []) ≡ true
viable_32 = refl

stops_32 : is_viable ((kinds.Keyword k.Title) ∷ kinds.Number ∷ []) ≡ false
stops_32 = refl

-- LAYOUT | LAYOUT
viable_33 : is_viable ((kinds.Keyword k.Layout) ∷ []) ≡ true
viable_33 = refl

stops_33 : is_viable ((kinds.Keyword k.Layout) ∷ (kinds.Keyword k.Layout) ∷ []) ≡ false
stops_33 = refl

-- DRC RESULTS DATABASE a ASCII | ASCII
viable_34 : is_viable ((kinds.Keyword k.Drc) ∷ (kinds.Keyword k.Results) ∷ (kinds.Keyword k.Database) ∷ kinds.Name ∷ (kinds.Keyword k.Ascii) ∷ []) ≡ true
viable_34 = refl

stops_34 : is_viable ((kinds.Keyword k.Drc) ∷ (kinds.Keyword k.Results) ∷ (kinds.Keyword k.Database) ∷ kinds.Name ∷ (kinds.Keyword k.Ascii) ∷ (kinds.Keyword k.Ascii) ∷ []) ≡ false
stops_34 = refl

-- X = SIZE A BY 1 OVERUNDER | UNDEROVER
viable_35 : is_viable (kinds.Name ∷ (kinds.Sign s.Equals) ∷ (kinds.Keyword k.Size) ∷ kinds.Name ∷ (kinds.Keyword k.By) ∷ kinds.Number ∷ (kinds.Keyword k.OverUnder) ∷ []) ≡ true
viable_35 = refl

stops_35 : is_viable (kinds.Name ∷ (kinds.Sign s.Equals) ∷ (kinds.Keyword k.Size) ∷ kinds.Name ∷ (kinds.Keyword k.By) ∷ kinds.Number ∷ (kinds.Keyword k.OverUnder) ∷ (kinds.Keyword k.UnderOver) ∷ []) ≡ false
stops_35 = refl

-- X = LENGTH A > 1 < 2 | <
viable_36 : is_viable (kinds.Name ∷ (kinds.Sign s.Equals) ∷ (kinds.Keyword k.Length) ∷ kinds.Name ∷ (kinds.Sign s.Greater) ∷ kinds.Number ∷ (kinds.Sign s.Less) ∷ kinds.Number ∷ []) ≡ true
viable_36 = refl

stops_36 : is_viable (kinds.Name ∷ (kinds.Sign s.Equals) ∷ (kinds.Keyword k.Length) ∷ kinds.Name ∷ (kinds.Sign s.Greater) ∷ kinds.Number ∷ (kinds.Sign s.Less) ∷ kinds.Number ∷ (kinds.Sign s.Less) ∷ []) ≡ false
stops_36 = refl

-- X = LENGTH A < 1 | <
viable_37 : is_viable (kinds.Name ∷ (kinds.Sign s.Equals) ∷ (kinds.Keyword k.Length) ∷ kinds.Name ∷ (kinds.Sign s.Less) ∷ kinds.Number ∷ []) ≡ true
viable_37 = refl

stops_37 : is_viable (kinds.Name ∷ (kinds.Sign s.Equals) ∷ (kinds.Keyword k.Length) ∷ kinds.Name ∷ (kinds.Sign s.Less) ∷ kinds.Number ∷ (kinds.Sign s.Less) ∷ []) ≡ false
stops_37 = refl

-- X = ( A | }
viable_38 : is_viable (kinds.Name ∷ (kinds.Sign s.Equals) ∷ (kinds.Sign s.LeftRound) ∷ kinds.Name ∷ []) ≡ true
viable_38 = refl

stops_38 : is_viable (kinds.Name ∷ (kinds.Sign s.Equals) ∷ (kinds.Sign s.LeftRound) ∷ kinds.Name ∷ (kinds.Sign s.RightBrace) ∷ []) ≡ false
stops_38 = refl

-- X = A | )
viable_39 : is_viable (kinds.Name ∷ (kinds.Sign s.Equals) ∷ kinds.Name ∷ []) ≡ true
viable_39 = refl

stops_39 : is_viable (kinds.Name ∷ (kinds.Sign s.Equals) ∷ kinds.Name ∷ (kinds.Sign s.RightRound) ∷ []) ≡ false
stops_39 = refl

-- A | B
viable_41 : is_viable (kinds.Name ∷ []) ≡ true
viable_41 = refl

stops_41 : is_viable (kinds.Name ∷ kinds.Name ∷ []) ≡ false
stops_41 = refl
