-- A stack whose rules may all spell nothing can spell no tokens, and no other can.
use Rattle.std.proofs.Common.{◌≡◌, ◌&&◌, Bool, true, false, List, [], ◌∷◌, ◌++◌, refl, sym, ap, subst}
use Rattle.std.proofs.lemmas.Bool.{and_parts}
use Rattle.deck_grammar.specs.Rules as r
use Rattle.deck_grammar.specs.Rules.{Rule, Part, token, rule}
use Rattle.deck_grammar.specs.Alternatives as a
use Rattle.deck_grammar.specs.Alternatives.{Alternative, production}
use Rattle.deck_stacks.specs.Stacks.{Empties, no_part, by_none}
use Rattle.deck_stacks.specs.Working.Tables.{may_be_empty}
use Rattle.deck_stacks.specs.Working.Deriving.{all_empty}

opened : {q : Rule} (it : Alternative q) (more : List Part) → all_empty ((production it).parts ++ more) ≡ true → (may_be_empty q && all_empty more) ≡ true
opened a.no_statement more h = h
opened a.a_statement more h = absurd (cc)
opened a.layout_system more h = absurd (cc)
opened a.layout_path more h = absurd (cc)
opened a.layout_primary more h = absurd (cc)
opened a.results_database more h = absurd (cc)
opened a.summary_report more h = absurd (cc)
opened a.maximum_results more h = absurd (cc)
opened a.maximum_all more h = absurd (cc)
opened a.select_check more h = absurd (cc)
opened a.unselect_check more h = absurd (cc)
opened a.precision more h = absurd (cc)
opened a.title more h = absurd (cc)
opened a.variable more h = absurd (cc)
opened a.layer_numbers more h = absurd (cc)
opened a.layer_map more h = absurd (cc)
opened a.definition more h = absurd (cc)
opened a.check more h = absurd (cc)
opened a.file_text more h = absurd (cc)
opened a.file_name more h = absurd (cc)
opened a.no_name more h = h
opened a.a_name more h = absurd (cc)
opened a.no_number more h = h
opened a.a_number more h = absurd (cc)
opened a.no_ascii more h = h
opened a.an_ascii more h = absurd (cc)
opened a.no_mode more h = h
opened a.replace more h = absurd (cc)
opened a.append more h = absurd (cc)
opened a.datatype more h = absurd (cc)
opened a.texttype more h = absurd (cc)
opened a.no_item more h = h
opened a.a_note more h = absurd (cc)
opened a.a_definition more h = absurd (cc)
opened a.an_output more h = absurd (cc)
opened a.value_of more h = absurd (cc)
opened a.no_addend more h = h
opened a.plus more h = absurd (cc)
opened a.minus more h = absurd (cc)
opened a.product_of more h = absurd (cc)
opened a.no_factor more h = h
opened a.times more h = absurd (cc)
opened a.over more h = absurd (cc)
opened a.modulo more h = absurd (cc)
opened a.power_of more h = absurd (cc)
opened a.no_exponent more h = h
opened a.an_exponent more h = absurd (cc)
opened a.number_atom more h = absurd (cc)
opened a.name_atom more h = absurd (cc)
opened a.bracketed_atom more h = absurd (cc)
opened a.minus_number more h = absurd (cc)
opened a.minus_name more h = absurd (cc)
opened a.minus_bracketed more h = absurd (cc)
opened a.layer_of more h = absurd (cc)
opened a.no_operation more h = h
opened a.an_operation more h = absurd (cc)
opened a.and more h = absurd (cc)
opened a.or more h = absurd (cc)
opened a.not more h = absurd (cc)
opened a.xor more h = absurd (cc)
opened a.or_edge more h = absurd (cc)
opened (a.relation x) more h = absurd (cc)
opened (a.not_relation x) more h = absurd (cc)
opened (a.edge_relation x) more h = absurd (cc)
opened (a.not_edge_relation x) more h = absurd (cc)
opened a.name_primary more h = absurd (cc)
opened a.bracketed_primary more h = absurd (cc)
opened a.copy more h = absurd (cc)
opened a.rectangle more h = absurd (cc)
opened a.area more h = absurd (cc)
opened a.length more h = absurd (cc)
opened a.size more h = absurd (cc)
opened a.angle more h = absurd (cc)
opened a.expand more h = absurd (cc)
opened a.internal more h = absurd (cc)
opened a.external more h = absurd (cc)
opened a.enclosure more h = absurd (cc)
opened a.name_term more h = absurd (cc)
opened a.bracketed_term more h = absurd (cc)
opened a.below_limit more h = absurd (cc)
opened a.at_most_limit more h = absurd (cc)
opened a.equal_limit more h = absurd (cc)
opened a.unequal_limit more h = absurd (cc)
opened a.above_limit more h = absurd (cc)
opened a.at_least_limit more h = absurd (cc)
opened a.no_upper more h = h
opened a.upper_below more h = absurd (cc)
opened a.upper_at_most more h = absurd (cc)
opened a.bound_below more h = absurd (cc)
opened a.bound_at_most more h = absurd (cc)
opened a.no_turn more h = h
opened a.overunder more h = absurd (cc)
opened a.underover more h = absurd (cc)
opened a.inside more h = absurd (cc)
opened a.outside more h = absurd (cc)
opened a.one_internal more h = absurd (cc)
opened a.one_internal_bracketed more h = absurd (cc)
opened a.one_external more h = absurd (cc)
opened a.one_external_bracketed more h = absurd (cc)
opened a.two more h = absurd (cc)
opened a.two_first_bracketed more h = absurd (cc)
opened a.two_second_bracketed more h = absurd (cc)
opened a.no_option more h = h
opened a.abut more h = absurd (cc)
opened a.singular more h = absurd (cc)
opened a.opposite more h = absurd (cc)
opened a.square more h = absurd (cc)
opened a.notch more h = absurd (cc)
opened a.space more h = absurd (cc)
opened a.region more h = absurd (cc)

pub empties_all : {parts : List Part} → Empties parts → all_empty parts ≡ true
empties_all no_part = refl
empties_all (by_none {parts = parts} it e) = opened it parts (empties_all e)

record None (q : Rule) : Type 0 where
  it : Alternative q
  is_empty : (production it).parts ≡ []

none_of : (q : Rule) → may_be_empty q ≡ true → None q
none_of r.statements h = record { it = a.no_statement; is_empty = refl }
none_of r.statement h = absurd (cc)
none_of r.file h = absurd (cc)
none_of r.names h = record { it = a.no_name; is_empty = refl }
none_of r.numbers h = record { it = a.no_number; is_empty = refl }
none_of r.ascii h = record { it = a.no_ascii; is_empty = refl }
none_of r.mode h = record { it = a.no_mode; is_empty = refl }
none_of r.map_kind h = absurd (cc)
none_of r.items h = record { it = a.no_item; is_empty = refl }
none_of r.value h = absurd (cc)
none_of r.addends h = record { it = a.no_addend; is_empty = refl }
none_of r.product h = absurd (cc)
none_of r.factors h = record { it = a.no_factor; is_empty = refl }
none_of r.power h = absurd (cc)
none_of r.exponent h = record { it = a.no_exponent; is_empty = refl }
none_of r.atom h = absurd (cc)
none_of r.layer h = absurd (cc)
none_of r.operations h = record { it = a.no_operation; is_empty = refl }
none_of r.infix_operation h = absurd (cc)
none_of r.primary h = absurd (cc)
none_of r.term h = absurd (cc)
none_of r.limits h = absurd (cc)
none_of r.upper h = record { it = a.no_upper; is_empty = refl }
none_of r.bound h = absurd (cc)
none_of r.turn h = record { it = a.no_turn; is_empty = refl }
none_of r.side h = absurd (cc)
none_of (r.distance kind) h = absurd (cc)
none_of (r.options those) h = record { it = a.no_option; is_empty = refl }

pub all_empties : (parts : List Part) → all_empty parts ≡ true → Empties parts
all_empties [] h = no_part
all_empties (token k ∷ parts) h = absurd (cc)
all_empties (rule q ∷ parts) h =
    let each = and_parts (may_be_empty q) (all_empty parts) h in
    let none = none_of q each.0 in
    let P : List Part → Type 0 = λ those. Empties (those ++ parts) in
    by_none none.it (subst P (sym none.is_empty) (all_empties parts each.1))
