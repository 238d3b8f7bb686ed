-- Each alternative is in the list of its rule's, and each is lighter than its rule.
use Rattle.std.proofs.Common.{ℕ, ◌+◌, ◌≤◌, Bool, true, false, List, [], ◌∷◌, ◌++◌, arith}
use Rattle.std.specs.Prelude.{if◌then◌else◌}
use Rattle.deck_tree.specs.declared.infix.Relation.TheVariants as relations
use Rattle.deck_tree.specs.declared.infix.EdgeRelation.TheVariants as edge_relations
use Rattle.deck_tree.specs.declared.distance.DistanceKind.{DistanceKind}
use Rattle.deck_tree.specs.declared.distance.DistanceKind.TheVariants.{Internal, External, Enclosure}
use Rattle.deck_grammar.specs.Rules as r
use Rattle.deck_grammar.specs.Rules.{Rule, Left, Part}
use Rattle.deck_grammar.specs.Alternatives as a
use Rattle.deck_grammar.specs.Alternatives.{Alternative, production}
use Rattle.deck_stacks.specs.Stacks.{Among, here, later}
use Rattle.deck_stacks.specs.Working.Tables.{abut_of, singular_of, opposite_of, square_of, notch_of, space_of, region_of, options_of, alternatives, may_be_empty, height}
use Rattle.deck_stacks.specs.Working.Deriving.{weight}
use Rattle.deck_stacks.proofs.Members.{in_left, in_right}

in_first : (kind : DistanceKind) → Among a.two (alternatives (r.distance kind))
in_first Internal = (later (later here))
in_first External = (later (later here))
in_first Enclosure = here

in_second : (kind : DistanceKind) → Among a.two_first_bracketed (alternatives (r.distance kind))
in_second Internal = (later (later (later here)))
in_second External = (later (later (later here)))
in_second Enclosure = (later here)

in_third : (kind : DistanceKind) → Among a.two_second_bracketed (alternatives (r.distance kind))
in_third Internal = (later (later (later (later here))))
in_third External = (later (later (later (later here))))
in_third Enclosure = (later (later here))

pub listed : {q : Rule} (it : Alternative q) → Among it (alternatives q)
listed a.no_statement = here
listed a.a_statement = (later here)
listed a.layout_system = here
listed a.layout_path = (later here)
listed a.layout_primary = (later (later here))
listed a.results_database = (later (later (later here)))
listed a.summary_report = (later (later (later (later here))))
listed a.maximum_results = (later (later (later (later (later here)))))
listed a.maximum_all = (later (later (later (later (later (later here))))))
listed a.select_check = (later (later (later (later (later (later (later here)))))))
listed a.unselect_check = (later (later (later (later (later (later (later (later here))))))))
listed a.precision = (later (later (later (later (later (later (later (later (later here)))))))))
listed a.title = (later (later (later (later (later (later (later (later (later (later here))))))))))
listed a.variable = (later (later (later (later (later (later (later (later (later (later (later here)))))))))))
listed a.layer_numbers = (later (later (later (later (later (later (later (later (later (later (later (later here))))))))))))
listed a.layer_map = (later (later (later (later (later (later (later (later (later (later (later (later (later here)))))))))))))
listed a.definition = (later (later (later (later (later (later (later (later (later (later (later (later (later (later here))))))))))))))
listed a.check = (later (later (later (later (later (later (later (later (later (later (later (later (later (later (later here)))))))))))))))
listed a.file_text = here
listed a.file_name = (later here)
listed a.no_name = here
listed a.a_name = (later here)
listed a.no_number = here
listed a.a_number = (later here)
listed a.no_ascii = here
listed a.an_ascii = (later here)
listed a.no_mode = here
listed a.replace = (later here)
listed a.append = (later (later here))
listed a.datatype = here
listed a.texttype = (later here)
listed a.no_item = here
listed a.a_note = (later here)
listed a.a_definition = (later (later here))
listed a.an_output = (later (later (later here)))
listed a.value_of = here
listed a.no_addend = here
listed a.plus = (later here)
listed a.minus = (later (later here))
listed a.product_of = here
listed a.no_factor = here
listed a.times = (later here)
listed a.over = (later (later here))
listed a.modulo = (later (later (later here)))
listed a.power_of = here
listed a.no_exponent = here
listed a.an_exponent = (later here)
listed a.number_atom = here
listed a.name_atom = (later here)
listed a.bracketed_atom = (later (later here))
listed a.minus_number = (later (later (later here)))
listed a.minus_name = (later (later (later (later here))))
listed a.minus_bracketed = (later (later (later (later (later here)))))
listed a.layer_of = here
listed a.no_operation = here
listed a.an_operation = (later here)
listed a.and = here
listed a.or = (later here)
listed a.not = (later (later here))
listed a.xor = (later (later (later here)))
listed a.or_edge = (later (later (later (later here))))
listed (a.relation relations.Inside) = (later (later (later (later (later here)))))
listed (a.relation relations.Outside) = (later (later (later (later (later (later here))))))
listed (a.relation relations.Interact) = (later (later (later (later (later (later (later here)))))))
listed (a.relation relations.Touch) = (later (later (later (later (later (later (later (later here))))))))
listed (a.relation relations.Cut) = (later (later (later (later (later (later (later (later (later here)))))))))
listed (a.relation relations.Enclose) = (later (later (later (later (later (later (later (later (later (later here))))))))))
listed (a.not_relation relations.Inside) = (later (later (later (later (later (later (later (later (later (later (later here)))))))))))
listed (a.not_relation relations.Outside) = (later (later (later (later (later (later (later (later (later (later (later (later here))))))))))))
listed (a.not_relation relations.Interact) = (later (later (later (later (later (later (later (later (later (later (later (later (later here)))))))))))))
listed (a.not_relation relations.Touch) = (later (later (later (later (later (later (later (later (later (later (later (later (later (later here))))))))))))))
listed (a.not_relation relations.Cut) = (later (later (later (later (later (later (later (later (later (later (later (later (later (later (later here)))))))))))))))
listed (a.not_relation relations.Enclose) = (later (later (later (later (later (later (later (later (later (later (later (later (later (later (later (later here))))))))))))))))
listed (a.edge_relation edge_relations.Inside) = (later (later (later (later (later (later (later (later (later (later (later (later (later (later (later (later (later here)))))))))))))))))
listed (a.edge_relation edge_relations.Outside) = (later (later (later (later (later (later (later (later (later (later (later (later (later (later (later (later (later (later here))))))))))))))))))
listed (a.edge_relation edge_relations.Coincident) = (later (later (later (later (later (later (later (later (later (later (later (later (later (later (later (later (later (later (later here)))))))))))))))))))
listed (a.not_edge_relation edge_relations.Inside) = (later (later (later (later (later (later (later (later (later (later (later (later (later (later (later (later (later (later (later (later here))))))))))))))))))))
listed (a.not_edge_relation edge_relations.Outside) = (later (later (later (later (later (later (later (later (later (later (later (later (later (later (later (later (later (later (later (later (later here)))))))))))))))))))))
listed (a.not_edge_relation edge_relations.Coincident) = (later (later (later (later (later (later (later (later (later (later (later (later (later (later (later (later (later (later (later (later (later (later here))))))))))))))))))))))
listed a.name_primary = here
listed a.bracketed_primary = (later here)
listed a.copy = (later (later here))
listed a.rectangle = (later (later (later here)))
listed a.area = (later (later (later (later here))))
listed a.length = (later (later (later (later (later here)))))
listed a.size = (later (later (later (later (later (later here))))))
listed a.angle = (later (later (later (later (later (later (later here)))))))
listed a.expand = (later (later (later (later (later (later (later (later here))))))))
listed a.internal = (later (later (later (later (later (later (later (later (later here)))))))))
listed a.external = (later (later (later (later (later (later (later (later (later (later here))))))))))
listed a.enclosure = (later (later (later (later (later (later (later (later (later (later (later here)))))))))))
listed a.name_term = here
listed a.bracketed_term = (later here)
listed a.below_limit = here
listed a.at_most_limit = (later here)
listed a.equal_limit = (later (later here))
listed a.unequal_limit = (later (later (later here)))
listed a.above_limit = (later (later (later (later here))))
listed a.at_least_limit = (later (later (later (later (later here)))))
listed a.no_upper = here
listed a.upper_below = (later here)
listed a.upper_at_most = (later (later here))
listed a.bound_below = here
listed a.bound_at_most = (later here)
listed a.no_turn = here
listed a.overunder = (later here)
listed a.underover = (later (later here))
listed a.inside = here
listed a.outside = (later here)
listed a.one_internal = here
listed a.one_internal_bracketed = (later here)
listed a.one_external = here
listed a.one_external_bracketed = (later here)
listed (a.two {kind}) = in_first kind
listed (a.two_first_bracketed {kind}) = in_second kind
listed (a.two_second_bracketed {kind}) = in_third kind
listed (a.no_option {those = r.left v w x y z}) = here
listed (a.abut {b = ow} {c = ox} {d = oy} {e = oz}) = later (in_left (abut_of true ow ox oy oz) _ here)
listed (a.singular {a = ov} {c = ox} {d = oy} {e = oz}) = later (in_right (abut_of ov true ox oy oz) _ (in_left (singular_of ov true ox oy oz) _ here))
listed (a.opposite {a = ov} {b = ow} {d = oy} {e = oz}) = later (in_right (abut_of ov ow true oy oz) _ (in_right (singular_of ov ow true oy oz) _ (in_left (opposite_of ov ow true oy oz) _ here)))
listed (a.square {a = ov} {b = ow} {d = oy} {e = oz}) = later (in_right (abut_of ov ow true oy oz) _ (in_right (singular_of ov ow true oy oz) _ (in_right (opposite_of ov ow true oy oz) _ (in_left (square_of ov ow true oy oz) _ here))))
listed (a.notch {a = ov} {b = ow} {c = ox} {e = oz}) = later (in_right (abut_of ov ow ox true oz) _ (in_right (singular_of ov ow ox true oz) _ (in_right (opposite_of ov ow ox true oz) _ (in_right (square_of ov ow ox true oz) _ (in_left (notch_of ov ow ox true oz) _ here)))))
listed (a.space {a = ov} {b = ow} {c = ox} {e = oz}) = later (in_right (abut_of ov ow ox true oz) _ (in_right (singular_of ov ow ox true oz) _ (in_right (opposite_of ov ow ox true oz) _ (in_right (square_of ov ow ox true oz) _ (in_right (notch_of ov ow ox true oz) _ (in_left (space_of ov ow ox true oz) _ here))))))
listed (a.region {a = ov} {b = ow} {c = ox} {d = oy}) = later (in_right (abut_of ov ow ox oy true) _ (in_right (singular_of ov ow ox oy true) _ (in_right (opposite_of ov ow ox oy true) _ (in_right (square_of ov ow ox oy true) _ (in_right (notch_of ov ow ox oy true) _ (in_right (space_of ov ow ox oy true) _ here))))))

pub lighter : {q : Rule} (it : Alternative q) (more : List Part)
    → weight ((production it).parts ++ more) ≤ height q + (if may_be_empty q then weight more else 0)
lighter a.no_statement more = omega arith
lighter a.a_statement more = omega arith
lighter a.layout_system more = omega arith
lighter a.layout_path more = omega arith
lighter a.layout_primary more = omega arith
lighter a.results_database more = omega arith
lighter a.summary_report more = omega arith
lighter a.maximum_results more = omega arith
lighter a.maximum_all more = omega arith
lighter a.select_check more = omega arith
lighter a.unselect_check more = omega arith
lighter a.precision more = omega arith
lighter a.title more = omega arith
lighter a.variable more = omega arith
lighter a.layer_numbers more = omega arith
lighter a.layer_map more = omega arith
lighter a.definition more = omega arith
lighter a.check more = omega arith
lighter a.file_text more = omega arith
lighter a.file_name more = omega arith
lighter a.no_name more = omega arith
lighter a.a_name more = omega arith
lighter a.no_number more = omega arith
lighter a.a_number more = omega arith
lighter a.no_ascii more = omega arith
lighter a.an_ascii more = omega arith
lighter a.no_mode more = omega arith
lighter a.replace more = omega arith
lighter a.append more = omega arith
lighter a.datatype more = omega arith
lighter a.texttype more = omega arith
lighter a.no_item more = omega arith
lighter a.a_note more = omega arith
lighter a.a_definition more = omega arith
lighter a.an_output more = omega arith
lighter a.value_of more = omega arith
lighter a.no_addend more = omega arith
lighter a.plus more = omega arith
lighter a.minus more = omega arith
lighter a.product_of more = omega arith
lighter a.no_factor more = omega arith
lighter a.times more = omega arith
lighter a.over more = omega arith
lighter a.modulo more = omega arith
lighter a.power_of more = omega arith
lighter a.no_exponent more = omega arith
lighter a.an_exponent more = omega arith
lighter a.number_atom more = omega arith
lighter a.name_atom more = omega arith
lighter a.bracketed_atom more = omega arith
lighter a.minus_number more = omega arith
lighter a.minus_name more = omega arith
lighter a.minus_bracketed more = omega arith
lighter a.layer_of more = omega arith
lighter a.no_operation more = omega arith
lighter a.an_operation more = omega arith
lighter a.and more = omega arith
lighter a.or more = omega arith
lighter a.not more = omega arith
lighter a.xor more = omega arith
lighter a.or_edge more = omega arith
lighter (a.relation x) more = omega arith
lighter (a.not_relation x) more = omega arith
lighter (a.edge_relation x) more = omega arith
lighter (a.not_edge_relation x) more = omega arith
lighter a.name_primary more = omega arith
lighter a.bracketed_primary more = omega arith
lighter a.copy more = omega arith
lighter a.rectangle more = omega arith
lighter a.area more = omega arith
lighter a.length more = omega arith
lighter a.size more = omega arith
lighter a.angle more = omega arith
lighter a.expand more = omega arith
lighter a.internal more = omega arith
lighter a.external more = omega arith
lighter a.enclosure more = omega arith
lighter a.name_term more = omega arith
lighter a.bracketed_term more = omega arith
lighter a.below_limit more = omega arith
lighter a.at_most_limit more = omega arith
lighter a.equal_limit more = omega arith
lighter a.unequal_limit more = omega arith
lighter a.above_limit more = omega arith
lighter a.at_least_limit more = omega arith
lighter a.no_upper more = omega arith
lighter a.upper_below more = omega arith
lighter a.upper_at_most more = omega arith
lighter a.bound_below more = omega arith
lighter a.bound_at_most more = omega arith
lighter a.no_turn more = omega arith
lighter a.overunder more = omega arith
lighter a.underover more = omega arith
lighter a.inside more = omega arith
lighter a.outside more = omega arith
lighter a.one_internal more = omega arith
lighter a.one_internal_bracketed more = omega arith
lighter a.one_external more = omega arith
lighter a.one_external_bracketed more = omega arith
lighter a.two more = omega arith
lighter a.two_first_bracketed more = omega arith
lighter a.two_second_bracketed more = omega arith
lighter a.no_option more = omega arith
lighter a.abut more = omega arith
lighter a.singular more = omega arith
lighter a.opposite more = omega arith
lighter a.square more = omega arith
lighter a.notch more = omega arith
lighter a.space more = omega arith
lighter a.region more = omega arith
