-- The alternatives of each rule as a list; which rules may spell nothing; and how many rules can stand first inside one.
use Rattle.std.specs.Prelude.{ℕ, Bool, true, false, List, [], ◌∷◌, ◌++◌, map}
use Rattle.deck_tree.specs.declared.distance.DistanceKind.TheVariants.{Internal, External, Enclosure}
use Rattle.deck_tree.specs.declared.infix.Relation.TheVariants as relations
use Rattle.deck_tree.specs.declared.infix.EdgeRelation.TheVariants as edge_relations
use Rattle.deck_grammar.specs.Rules as r
use Rattle.deck_grammar.specs.Rules.{Rule, Left, Part}
use Rattle.deck_grammar.specs.Alternatives as a
use Rattle.deck_grammar.specs.Alternatives.{Alternative, production}

abbrev pub abut_of : (v w x y z : Bool) → List (Alternative (r.options (r.left v w x y z)))
abut_of true w x y z = a.abut ∷ []
abut_of false w x y z = []

abbrev pub singular_of : (v w x y z : Bool) → List (Alternative (r.options (r.left v w x y z)))
singular_of v true x y z = a.singular ∷ []
singular_of v false x y z = []

abbrev pub opposite_of : (v w x y z : Bool) → List (Alternative (r.options (r.left v w x y z)))
opposite_of v w true y z = a.opposite ∷ []
opposite_of v w false y z = []

abbrev pub square_of : (v w x y z : Bool) → List (Alternative (r.options (r.left v w x y z)))
square_of v w true y z = a.square ∷ []
square_of v w false y z = []

abbrev pub notch_of : (v w x y z : Bool) → List (Alternative (r.options (r.left v w x y z)))
notch_of v w x true z = a.notch ∷ []
notch_of v w x false z = []

abbrev pub space_of : (v w x y z : Bool) → List (Alternative (r.options (r.left v w x y z)))
space_of v w x true z = a.space ∷ []
space_of v w x false z = []

abbrev pub region_of : (v w x y z : Bool) → List (Alternative (r.options (r.left v w x y z)))
region_of v w x y true = a.region ∷ []
region_of v w x y false = []

abbrev pub options_of : (those : Left) → List (Alternative (r.options those))
options_of (r.left v w x y z) = a.no_option ∷ (abut_of v w x y z ++ (singular_of v w x y z ++ (opposite_of v w x y z ++ (square_of v w x y z ++ (notch_of v w x y z ++ (space_of v w x y z ++ (region_of v w x y z)))))))

abbrev pub alternatives : (q : Rule) → List (Alternative q)
alternatives r.statements = a.no_statement ∷ a.a_statement ∷ []
alternatives r.statement = a.layout_system ∷ a.layout_path ∷ a.layout_primary ∷ a.results_database ∷ a.summary_report ∷ a.maximum_results ∷ a.maximum_all ∷ a.select_check ∷ a.unselect_check ∷ a.precision ∷ a.title ∷ a.variable ∷ a.layer_numbers ∷ a.layer_map ∷ a.definition ∷ a.check ∷ []
alternatives r.file = a.file_text ∷ a.file_name ∷ []
alternatives r.names = a.no_name ∷ a.a_name ∷ []
alternatives r.numbers = a.no_number ∷ a.a_number ∷ []
alternatives r.ascii = a.no_ascii ∷ a.an_ascii ∷ []
alternatives r.mode = a.no_mode ∷ a.replace ∷ a.append ∷ []
alternatives r.map_kind = a.datatype ∷ a.texttype ∷ []
alternatives r.items = a.no_item ∷ a.a_note ∷ a.a_definition ∷ a.an_output ∷ []
alternatives r.value = a.value_of ∷ []
alternatives r.addends = a.no_addend ∷ a.plus ∷ a.minus ∷ []
alternatives r.product = a.product_of ∷ []
alternatives r.factors = a.no_factor ∷ a.times ∷ a.over ∷ a.modulo ∷ []
alternatives r.power = a.power_of ∷ []
alternatives r.exponent = a.no_exponent ∷ a.an_exponent ∷ []
alternatives r.atom = a.number_atom ∷ a.name_atom ∷ a.bracketed_atom ∷ a.minus_number ∷ a.minus_name ∷ a.minus_bracketed ∷ []
alternatives r.layer = a.layer_of ∷ []
alternatives r.operations = a.no_operation ∷ a.an_operation ∷ []
alternatives r.infix_operation = a.and ∷ a.or ∷ a.not ∷ a.xor ∷ a.or_edge ∷ (a.relation relations.Inside) ∷ (a.relation relations.Outside) ∷ (a.relation relations.Interact) ∷ (a.relation relations.Touch) ∷ (a.relation relations.Cut) ∷ (a.relation relations.Enclose) ∷ (a.not_relation relations.Inside) ∷ (a.not_relation relations.Outside) ∷ (a.not_relation relations.Interact) ∷ (a.not_relation relations.Touch) ∷ (a.not_relation relations.Cut) ∷ (a.not_relation relations.Enclose) ∷ (a.edge_relation edge_relations.Inside) ∷ (a.edge_relation edge_relations.Outside) ∷ (a.edge_relation edge_relations.Coincident) ∷ (a.not_edge_relation edge_relations.Inside) ∷ (a.not_edge_relation edge_relations.Outside) ∷ (a.not_edge_relation edge_relations.Coincident) ∷ []
alternatives r.primary = a.name_primary ∷ a.bracketed_primary ∷ a.copy ∷ a.rectangle ∷ a.area ∷ a.length ∷ a.size ∷ a.angle ∷ a.expand ∷ a.internal ∷ a.external ∷ a.enclosure ∷ []
alternatives r.term = a.name_term ∷ a.bracketed_term ∷ []
alternatives r.limits = a.below_limit ∷ a.at_most_limit ∷ a.equal_limit ∷ a.unequal_limit ∷ a.above_limit ∷ a.at_least_limit ∷ []
alternatives r.upper = a.no_upper ∷ a.upper_below ∷ a.upper_at_most ∷ []
alternatives r.bound = a.bound_below ∷ a.bound_at_most ∷ []
alternatives r.turn = a.no_turn ∷ a.overunder ∷ a.underover ∷ []
alternatives r.side = a.inside ∷ a.outside ∷ []
alternatives (r.distance Internal) = a.one_internal ∷ a.one_internal_bracketed ∷ a.two ∷ a.two_first_bracketed ∷ a.two_second_bracketed ∷ []
alternatives (r.distance External) = a.one_external ∷ a.one_external_bracketed ∷ a.two ∷ a.two_first_bracketed ∷ a.two_second_bracketed ∷ []
alternatives (r.distance Enclosure) = a.two ∷ a.two_first_bracketed ∷ a.two_second_bracketed ∷ []
alternatives (r.options those) = options_of those

abbrev pub parts_of : Rule → List (List Part)
parts_of q = map (λ it. (production it).parts) (alternatives q)

abbrev pub may_be_empty : Rule → Bool
may_be_empty r.statements = true
may_be_empty r.statement = false
may_be_empty r.file = false
may_be_empty r.names = true
may_be_empty r.numbers = true
may_be_empty r.ascii = true
may_be_empty r.mode = true
may_be_empty r.map_kind = false
may_be_empty r.items = true
may_be_empty r.value = false
may_be_empty r.addends = true
may_be_empty r.product = false
may_be_empty r.factors = true
may_be_empty r.power = false
may_be_empty r.exponent = true
may_be_empty r.atom = false
may_be_empty r.layer = false
may_be_empty r.operations = true
may_be_empty r.infix_operation = false
may_be_empty r.primary = false
may_be_empty r.term = false
may_be_empty r.limits = false
may_be_empty r.upper = true
may_be_empty r.bound = false
may_be_empty r.turn = true
may_be_empty r.side = false
may_be_empty (r.distance kind) = false
may_be_empty (r.options those) = true

-- how many rules at most stand first, one inside the other, before a token does
abbrev pub height : Rule → ℕ
height r.statements = 1
height r.statement = 0
height r.file = 0
height r.names = 0
height r.numbers = 0
height r.ascii = 0
height r.mode = 0
height r.map_kind = 0
height r.items = 2
height r.value = 3
height r.addends = 0
height r.product = 2
height r.factors = 0
height r.power = 1
height r.exponent = 0
height r.atom = 0
height r.layer = 1
height r.operations = 1
height r.infix_operation = 0
height r.primary = 0
height r.term = 0
height r.limits = 0
height r.upper = 0
height r.bound = 0
height r.turn = 0
height r.side = 0
height (r.distance kind) = 0
height (r.options those) = 0
