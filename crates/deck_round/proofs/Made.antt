-- What each alternative of the grammar makes is formed, and no deeper than its brackets let it be.
use Rattle.std.proofs.Common.{◌≡◌, ℕ, suc, ◌+◌, ◌-◌, ◌<◌, ◌≤◌, max, Bool, true, false, not, ◌&&◌, ◌||◌, List, [], ◌∷◌, map, Option, Some, None, refl, sym, subst, ◌∙◌, arith}
use Rattle.std.specs.Prelude.{is_some}
use Rattle.std.specs.List.{list_all}
use Rattle.std.specs.Option.{option_map_or}
use Rattle.std.proofs.lemmas.Bool.{and_from, false≢true}
use Rattle.deck_tree.specs.declared.name_at.NameAt.{NameAt}
use Rattle.deck_tree.specs.declared.number.Number.{Number}
use Rattle.deck_tree.specs.declared.value.AddSign.{AddSign}
use Rattle.deck_tree.specs.declared.value.AddSign.TheVariants as add_sign
use Rattle.deck_tree.specs.declared.value.ProductSign.{ProductSign}
use Rattle.deck_tree.specs.declared.value.ProductSign.TheVariants as product_sign
use Rattle.deck_tree.specs.declared.limits.Limits.{Limits}
use Rattle.deck_tree.specs.declared.infix.Infix.{Infix}
use Rattle.deck_tree.specs.declared.infix.EdgeRelation.TheVariants as edge_relations
use Rattle.deck_tree.specs.declared.layer.Turn.{Turn}
use Rattle.deck_tree.specs.declared.layer.ExpandSide.{ExpandSide}
use Rattle.deck_tree.specs.declared.value.Value.{Value, roll-Value}
use Rattle.deck_tree.specs.declared.value.Addend.{Addend, roll-Addend}
use Rattle.deck_tree.specs.declared.value.Product.{Product, roll-Product}
use Rattle.deck_tree.specs.declared.value.Factor.{Factor, roll-Factor}
use Rattle.deck_tree.specs.declared.value.Power.{Power, roll-Power}
use Rattle.deck_tree.specs.declared.value.Exponent.{Exponent, roll-Exponent}
use Rattle.deck_tree.specs.declared.value.Atom.{Atom}
use Rattle.deck_tree.specs.declared.value.Atom.TheVariants as atoms
use Rattle.deck_tree.specs.declared.value.Atom.TheOpen.{Atom-F}
use Rattle.deck_tree.specs.declared.value.Atom.TheFolds.{fold-roll-Atom, fold-roll-Addend, fold-roll-Exponent, fold-roll-Factor, fold-roll-Power, fold-roll-Product, fold-roll-Value}
use Rattle.deck_tree.specs.declared.limits.Bound.{Bound}
use Rattle.deck_tree.specs.declared.distance.DistanceKind.{DistanceKind}
use Rattle.deck_tree.specs.declared.distance.DistanceKind.TheVariants.{Internal, External, Enclosure}
use Rattle.deck_tree.specs.declared.distance.Input.{Input}
use Rattle.deck_tree.specs.declared.distance.Input.TheVariants as inputs
use Rattle.deck_tree.specs.declared.distance.Distance.{Distance}
use Rattle.deck_tree.specs.declared.distance.Options.{Options}
use Rattle.deck_tree.specs.declared.layer.Layer.{Layer, roll-Layer}
use Rattle.deck_tree.specs.declared.layer.Operation.{Operation, roll-Operation}
use Rattle.deck_tree.specs.declared.layer.Primary.{Primary}
use Rattle.deck_tree.specs.declared.layer.Primary.TheVariants as primaries
use Rattle.deck_tree.specs.declared.layer.Term.{Term}
use Rattle.deck_tree.specs.declared.layer.Term.TheVariants as terms
use Rattle.deck_tree.specs.declared.layer.Prefix.{Prefix}
use Rattle.deck_tree.specs.declared.layer.Prefix.TheVariants as prefixes
use Rattle.deck_tree.specs.declared.layer.Prefix.TheOpen.{Prefix-F, Primary-F, Term-F}
use Rattle.deck_tree.specs.declared.layer.Prefix.TheFolds.{fold-roll-Prefix, fold-roll-Primary, fold-roll-Term, fold-roll-Layer, fold-roll-Operation}
use Rattle.deck_tree.specs.WellFormed.{deepest, all_hold, most_nested, is_formed_name, is_formed_file, is_formed_number, is_formed_value, is_formed_bound, is_formed_limits, is_formed_input, is_formed_distance, is_formed_layer, is_formed_item, is_formed_statement, is_formed_atom, is_formed_power, is_formed_prefix, is_formed_primary, is_formed_term, depth_of_atom, depth_of_power, depth_of_value, depth_of_bound, depth_of_limits, depth_of_distance, depth_of_prefix, depth_of_primary, depth_of_term, depth_of_layer, depth_of_item, depth_of_statement, has_its_inputs, brackets_fit, is_external_of_one}
use Rattle.deck_grammar.specs.declared.sign.Sign.TheVariants as s
use Rattle.deck_grammar.specs.declared.kind.Kind.TheVariants as kinds
use Rattle.deck_grammar.specs.Lexemes.{lexeme, name_of}
use Rattle.deck_grammar.specs.Refusals.{open_behind}
use Rattle.deck_grammar.specs.Rules as r
use Rattle.deck_grammar.specs.Alternatives as a
use Rattle.deck_grammar.specs.Alternatives.{Alternative, production}
use Rattle.deck_round.proofs.Levels.{Fits}
use Rattle.deck_round.proofs.Said.{Said}
use Rattle.deck_round.proofs.FormedMarks.{number_formed, text_formed, name_file, note_formed}
use Rattle.deck_round.proofs.Values.{formed_atom, formed_addend, formed_exponent, formed_factor, formed_power, formed_product, depth_atom, depth_addend, depth_exponent, depth_factor, depth_power, depth_product}
use Rattle.deck_round.proofs.Layers.{formed_prefix, formed_primary, formed_term, formed_operation, depth_prefix, depth_primary, depth_term, depth_operation}

-- what is known of the tree of each rule, inside so many open brackets
abbrev pub Good : (q : r.Rule) → ℕ → r.Tree q → Type 0
Good r.statements n all = Fits (list_all is_formed_statement all) (deepest (map depth_of_statement all)) n
Good r.statement n it = Fits (is_formed_statement it) (depth_of_statement it) n
Good r.file n file = is_formed_file file ≡ true
Good r.names n names = list_all is_formed_name names ≡ true
Good r.numbers n numbers = list_all is_formed_number numbers ≡ true
Good r.ascii n it = Unit {0}
Good r.mode n it = Unit {0}
Good r.map_kind n it = Unit {0}
Good r.items n all = Fits (list_all is_formed_item all) (deepest (map depth_of_item all)) n
Good r.value n it = Fits (is_formed_value it) (depth_of_value it) n
Good r.addends n all = Fits (all_hold (map formed_addend all)) (deepest (map depth_addend all)) n
Good r.product n it = Fits (formed_product it) (depth_product it) n
Good r.factors n all = Fits (all_hold (map formed_factor all)) (deepest (map depth_factor all)) n
Good r.power n it = Fits (formed_power it) (depth_power it) n
Good r.exponent n it = Fits (option_map_or formed_exponent it true) (option_map_or depth_exponent it 0) n
Good r.atom n it = Fits (formed_atom it) (depth_atom it) n
Good r.layer n it = Fits (is_formed_layer it) (depth_of_layer it) n
Good r.operations n all = Fits (all_hold (map formed_operation all)) (deepest (map depth_operation all)) n
Good r.infix_operation n it = Unit {0}
Good r.primary n it = Fits (formed_primary it) (depth_primary it) n
Good r.term n it = Fits (formed_term it) (depth_term it) n
Good r.limits n it = Fits (is_formed_limits it) (depth_of_limits it) n
Good r.upper n it = Fits (option_map_or is_formed_bound it true) (option_map_or depth_of_bound it 0) n
Good r.bound n it = Fits (is_formed_bound it) (depth_of_bound it) n
Good r.turn n it = Unit {0}
Good r.side n it = Unit {0}
Good (r.distance kind) n it = Fits (is_formed_distance it) (depth_of_distance it) n
Good (r.options (r.left l m x o p)) n it =
    Fits (option_map_or is_formed_value it.abut true) (option_map_or depth_of_value it.abut 0) n × (is_some it.gap ≡ true → o ≡ true) × (it.region ≡ true → p ≡ true)

-- from good parts, with so many brackets open now, a good tree is made, and as many are open behind it as before
abbrev pub Makes : (q : r.Rule) (base now : ℕ) (parts : List r.Part) → r.Meaning parts (r.Tree q) → Type 0
Makes q base now [] tree = (now ≡ base) × Good q base tree
Makes q base now (r.token k ∷ more) meaning =
    (at : ℕ) (bytes : List ℕ) → Said k bytes → (k ≡ kinds.Sign s.LeftRound → now < most_nested) → Makes q base (open_behind now (lexeme k at bytes ∷ [])) more (meaning (lexeme k at bytes))
Makes q base now (r.rule p ∷ more) meaning = (part : r.Tree p) → Good p now part → Makes q base now more (meaning part)

-- ---- How deep, put together

both_fit : {f g : Bool} {d e n : ℕ} → Fits f d n → Fits g e n → Fits (f && g) (max d e) n
both_fit {f} {g} {d} {e} {n} first second = record { is = and_from f g first.is second.is; room = omega (arith, first.room, second.room) }

flat_fit : {f : Bool} {n : ℕ} → n ≤ most_nested → f ≡ true → Fits f 0 n
flat_fit {f} {n} below is = record { is = is; room = omega (arith, below) }

in_bracket : {f : Bool} {d n : ℕ} → Fits f d (suc n) → Fits f (suc d) n
in_bracket {f} {d} {n} fits = record { is = fits.is; room = omega (arith, fits.room) }

rolled : {f g : Bool} {d e : ℕ} (n : ℕ) → f ≡ g → d ≡ e → Fits g e n → Fits f d n
rolled n formed depth fits = record { is = formed ∙ fits.is; room = subst (λ (k : ℕ). n + k ≤ most_nested) (sym depth) fits.room }

-- the same, where a test stands before
with_test : {f g : Bool} {d n : ℕ} → f ≡ true → Fits g d n → Fits (f && g) d n
with_test {f} {g} is fits = record { is = and_from f g is fits.is; room = fits.room }

-- a bracket is closed
closed_again : (n : ℕ) → suc n - 1 ≡ n
closed_again n = omega arith

-- ---- Values

value_good : (n : ℕ) (p : Product) (ps : List Addend) → Good r.product n p → Good r.addends n ps → Good r.value n (roll-Value (record { first = p; more = ps }))
value_good n p ps first more = rolled n (fold-roll-Value Bool Bool Bool Bool Bool Bool Bool is_formed_atom (λ addend. addend.product) (λ exponent. exponent.atom) (λ factor. factor.power) is_formed_power (λ product. product.first && all_hold product.more) (λ value. value.first && all_hold value.more) (record { first = p; more = ps })) (fold-roll-Value ℕ ℕ ℕ ℕ ℕ ℕ ℕ depth_of_atom (λ addend. addend.product) (λ exponent. exponent.atom) (λ factor. factor.power) depth_of_power (λ product. max product.first (deepest product.more)) (λ value. max value.first (deepest value.more)) (record { first = p; more = ps })) (both_fit first more)

addend_good : (n at : ℕ) (sign : AddSign) (p : Product) (ps : List Addend) → Good r.product n p → Good r.addends n ps → Good r.addends n (roll-Addend (record { at = at; sign = sign; product = p }) ∷ ps)
addend_good n at sign p ps first more =
    both_fit (rolled n (fold-roll-Addend Bool Bool Bool Bool Bool Bool Bool is_formed_atom (λ addend. addend.product) (λ exponent. exponent.atom) (λ factor. factor.power) is_formed_power (λ product. product.first && all_hold product.more) (λ value. value.first && all_hold value.more) (record { at = at; sign = sign; product = p })) (fold-roll-Addend ℕ ℕ ℕ ℕ ℕ ℕ ℕ depth_of_atom (λ addend. addend.product) (λ exponent. exponent.atom) (λ factor. factor.power) depth_of_power (λ product. max product.first (deepest product.more)) (λ value. max value.first (deepest value.more)) (record { at = at; sign = sign; product = p })) first) more

product_good : (n : ℕ) (p : Power) (ps : List Factor) → Good r.power n p → Good r.factors n ps → Good r.product n (roll-Product (record { first = p; more = ps }))
product_good n p ps first more = rolled n (fold-roll-Product Bool Bool Bool Bool Bool Bool Bool is_formed_atom (λ addend. addend.product) (λ exponent. exponent.atom) (λ factor. factor.power) is_formed_power (λ product. product.first && all_hold product.more) (λ value. value.first && all_hold value.more) (record { first = p; more = ps })) (fold-roll-Product ℕ ℕ ℕ ℕ ℕ ℕ ℕ depth_of_atom (λ addend. addend.product) (λ exponent. exponent.atom) (λ factor. factor.power) depth_of_power (λ product. max product.first (deepest product.more)) (λ value. max value.first (deepest value.more)) (record { first = p; more = ps })) (both_fit first more)

factor_good : (n at : ℕ) (sign : ProductSign) (p : Power) (ps : List Factor) → Good r.power n p → Good r.factors n ps → Good r.factors n (roll-Factor (record { at = at; sign = sign; power = p }) ∷ ps)
factor_good n at sign p ps first more =
    both_fit (rolled n (fold-roll-Factor Bool Bool Bool Bool Bool Bool Bool is_formed_atom (λ addend. addend.product) (λ exponent. exponent.atom) (λ factor. factor.power) is_formed_power (λ product. product.first && all_hold product.more) (λ value. value.first && all_hold value.more) (record { at = at; sign = sign; power = p })) (fold-roll-Factor ℕ ℕ ℕ ℕ ℕ ℕ ℕ depth_of_atom (λ addend. addend.product) (λ exponent. exponent.atom) (λ factor. factor.power) depth_of_power (λ product. max product.first (deepest product.more)) (λ value. max value.first (deepest value.more)) (record { at = at; sign = sign; power = p })) first) more

power_good : (n : ℕ) (base : Atom) (e : Option Exponent) → Good r.atom n base → Good r.exponent n e → Good r.power n (roll-Power (record { base = base; exponent = e }))
power_good n base None first more = rolled n (fold-roll-Power Bool Bool Bool Bool Bool Bool Bool is_formed_atom (λ addend. addend.product) (λ exponent. exponent.atom) (λ factor. factor.power) is_formed_power (λ product. product.first && all_hold product.more) (λ value. value.first && all_hold value.more) (record { base = base; exponent = None })) (fold-roll-Power ℕ ℕ ℕ ℕ ℕ ℕ ℕ depth_of_atom (λ addend. addend.product) (λ exponent. exponent.atom) (λ factor. factor.power) depth_of_power (λ product. max product.first (deepest product.more)) (λ value. max value.first (deepest value.more)) (record { base = base; exponent = None })) (both_fit first more)
power_good n base (Some e) first more = rolled n (fold-roll-Power Bool Bool Bool Bool Bool Bool Bool is_formed_atom (λ addend. addend.product) (λ exponent. exponent.atom) (λ factor. factor.power) is_formed_power (λ product. product.first && all_hold product.more) (λ value. value.first && all_hold value.more) (record { base = base; exponent = Some e })) (fold-roll-Power ℕ ℕ ℕ ℕ ℕ ℕ ℕ depth_of_atom (λ addend. addend.product) (λ exponent. exponent.atom) (λ factor. factor.power) depth_of_power (λ product. max product.first (deepest product.more)) (λ value. max value.first (deepest value.more)) (record { base = base; exponent = Some e })) (both_fit first more)

exponent_good : (n at : ℕ) (b : Atom) → Good r.atom n b → Good r.exponent n (Some (roll-Exponent (record { at = at; atom = b })))
exponent_good n at b first = rolled n (fold-roll-Exponent Bool Bool Bool Bool Bool Bool Bool is_formed_atom (λ addend. addend.product) (λ exponent. exponent.atom) (λ factor. factor.power) is_formed_power (λ product. product.first && all_hold product.more) (λ value. value.first && all_hold value.more) (record { at = at; atom = b })) (fold-roll-Exponent ℕ ℕ ℕ ℕ ℕ ℕ ℕ depth_of_atom (λ addend. addend.product) (λ exponent. exponent.atom) (λ factor. factor.power) depth_of_power (λ product. max product.first (deepest product.more)) (λ value. max value.first (deepest value.more)) (record { at = at; atom = b })) first

number_good : (n : ℕ) (minus : Option ℕ) (number : Number) → n ≤ most_nested → is_formed_number number ≡ true → Good r.atom n (atoms.Number minus number)
number_good n minus number below is =
    subst (Good r.atom n) (atoms.rolls-Number minus number) (rolled n (fold-roll-Atom Bool Bool Bool Bool Bool Bool Bool is_formed_atom (λ addend. addend.product) (λ exponent. exponent.atom) (λ factor. factor.power) is_formed_power (λ product. product.first && all_hold product.more) (λ value. value.first && all_hold value.more) (Atom-F.Number minus number)) (fold-roll-Atom ℕ ℕ ℕ ℕ ℕ ℕ ℕ depth_of_atom (λ addend. addend.product) (λ exponent. exponent.atom) (λ factor. factor.power) depth_of_power (λ product. max product.first (deepest product.more)) (λ value. max value.first (deepest value.more)) (Atom-F.Number minus number)) (flat_fit below is))

name_good : (n : ℕ) (minus : Option ℕ) (name : NameAt) → n ≤ most_nested → is_formed_name name ≡ true → Good r.atom n (atoms.Name minus name)
name_good n minus name below is =
    subst (Good r.atom n) (atoms.rolls-Name minus name) (rolled n (fold-roll-Atom Bool Bool Bool Bool Bool Bool Bool is_formed_atom (λ addend. addend.product) (λ exponent. exponent.atom) (λ factor. factor.power) is_formed_power (λ product. product.first && all_hold product.more) (λ value. value.first && all_hold value.more) (Atom-F.Name minus name)) (fold-roll-Atom ℕ ℕ ℕ ℕ ℕ ℕ ℕ depth_of_atom (λ addend. addend.product) (λ exponent. exponent.atom) (λ factor. factor.power) depth_of_power (λ product. max product.first (deepest product.more)) (λ value. max value.first (deepest value.more)) (Atom-F.Name minus name)) (flat_fit below is))

bracketed_good : (n : ℕ) (minus : Option ℕ) (at : ℕ) (v : Value) → Good r.value (suc n) v → Good r.atom n (atoms.Bracketed minus at v)
bracketed_good n minus at v within =
    subst (Good r.atom n) (atoms.rolls-Bracketed minus at v) (rolled n (fold-roll-Atom Bool Bool Bool Bool Bool Bool Bool is_formed_atom (λ addend. addend.product) (λ exponent. exponent.atom) (λ factor. factor.power) is_formed_power (λ product. product.first && all_hold product.more) (λ value. value.first && all_hold value.more) (Atom-F.Bracketed minus at v)) (fold-roll-Atom ℕ ℕ ℕ ℕ ℕ ℕ ℕ depth_of_atom (λ addend. addend.product) (λ exponent. exponent.atom) (λ factor. factor.power) depth_of_power (λ product. max product.first (deepest product.more)) (λ value. max value.first (deepest value.more)) (Atom-F.Bracketed minus at v)) (in_bracket within))

-- ---- Layers

layer_good : (n : ℕ) (p : Primary) (ps : List Operation) → Good r.primary n p → Good r.operations n ps → Good r.layer n (roll-Layer (record { first = p; more = ps }))
layer_good n p ps first more = rolled n (fold-roll-Layer Bool Bool Bool Bool Bool is_formed_prefix is_formed_primary is_formed_term (λ layer. layer.first && all_hold layer.more) (λ operation. operation.right) (record { first = p; more = ps })) (fold-roll-Layer ℕ ℕ ℕ ℕ ℕ depth_of_prefix depth_of_primary depth_of_term (λ layer. max layer.first (deepest layer.more)) (λ operation. operation.right) (record { first = p; more = ps })) (both_fit first more)

operation_good : (n at : ℕ) (operator : Infix) (p : Primary) (ps : List Operation) → Good r.primary n p → Good r.operations n ps → Good r.operations n (roll-Operation (record { at = at; operator = operator; right = p }) ∷ ps)
operation_good n at operator p ps first more =
    both_fit (rolled n (fold-roll-Operation Bool Bool Bool Bool Bool is_formed_prefix is_formed_primary is_formed_term (λ layer. layer.first && all_hold layer.more) (λ operation. operation.right) (record { at = at; operator = operator; right = p })) (fold-roll-Operation ℕ ℕ ℕ ℕ ℕ depth_of_prefix depth_of_primary depth_of_term (λ layer. max layer.first (deepest layer.more)) (λ operation. operation.right) (record { at = at; operator = operator; right = p })) first) more

name_term_good : (n : ℕ) (name : NameAt) → n ≤ most_nested → is_formed_name name ≡ true → Good r.term n (terms.Name name)
name_term_good n name below is = subst (Good r.term n) (terms.rolls-Name name) (rolled n (fold-roll-Term Bool Bool Bool Bool Bool is_formed_prefix is_formed_primary is_formed_term (λ layer. layer.first && all_hold layer.more) (λ operation. operation.right) (Term-F.Name name)) (fold-roll-Term ℕ ℕ ℕ ℕ ℕ depth_of_prefix depth_of_primary depth_of_term (λ layer. max layer.first (deepest layer.more)) (λ operation. operation.right) (Term-F.Name name)) (flat_fit below is))

bracketed_term_good : (n at : ℕ) (l : Layer) → Good r.layer (suc n) l → Good r.term n (terms.Bracketed at l)
bracketed_term_good n at l within = subst (Good r.term n) (terms.rolls-Bracketed at l) (rolled n (fold-roll-Term Bool Bool Bool Bool Bool is_formed_prefix is_formed_primary is_formed_term (λ layer. layer.first && all_hold layer.more) (λ operation. operation.right) (Term-F.Bracketed at l)) (fold-roll-Term ℕ ℕ ℕ ℕ ℕ depth_of_prefix depth_of_primary depth_of_term (λ layer. max layer.first (deepest layer.more)) (λ operation. operation.right) (Term-F.Bracketed at l)) (in_bracket within))

term_primary_good : (n : ℕ) (t : Term) → Good r.term n t → Good r.primary n (primaries.Term t)
term_primary_good n t good = subst (Good r.primary n) (primaries.rolls-Term t) (rolled n (fold-roll-Primary Bool Bool Bool Bool Bool is_formed_prefix is_formed_primary is_formed_term (λ layer. layer.first && all_hold layer.more) (λ operation. operation.right) (Primary-F.Term t)) (fold-roll-Primary ℕ ℕ ℕ ℕ ℕ depth_of_prefix depth_of_primary depth_of_term (λ layer. max layer.first (deepest layer.more)) (λ operation. operation.right) (Primary-F.Term t)) good)

distance_primary_good : (n at : ℕ) (d : Distance) → Fits (is_formed_distance d) (depth_of_distance d) n → Good r.primary n (primaries.Distance at d)
distance_primary_good n at d good = subst (Good r.primary n) (primaries.rolls-Distance at d) (rolled n (fold-roll-Primary Bool Bool Bool Bool Bool is_formed_prefix is_formed_primary is_formed_term (λ layer. layer.first && all_hold layer.more) (λ operation. operation.right) (Primary-F.Distance at d)) (fold-roll-Primary ℕ ℕ ℕ ℕ ℕ depth_of_prefix depth_of_primary depth_of_term (λ layer. max layer.first (deepest layer.more)) (λ operation. operation.right) (Primary-F.Distance at d)) good)

prefix_primary_good : (n at : ℕ) (p : Prefix) → Fits (formed_prefix p) (depth_prefix p) n → Good r.primary n (primaries.Prefix at p)
prefix_primary_good n at p good = subst (Good r.primary n) (primaries.rolls-Prefix at p) (rolled n (fold-roll-Primary Bool Bool Bool Bool Bool is_formed_prefix is_formed_primary is_formed_term (λ layer. layer.first && all_hold layer.more) (λ operation. operation.right) (Primary-F.Prefix at p)) (fold-roll-Primary ℕ ℕ ℕ ℕ ℕ depth_of_prefix depth_of_primary depth_of_term (λ layer. max layer.first (deepest layer.more)) (λ operation. operation.right) (Primary-F.Prefix at p)) good)

abbrev PrefixGood : ℕ → Prefix → Type 0
PrefixGood n p = Fits (formed_prefix p) (depth_prefix p) n

copy_good : (n : ℕ) (t : Term) → Good r.term n t → PrefixGood n (prefixes.Copy t)
copy_good n t t_is = subst (PrefixGood n) (prefixes.rolls-Copy t) (rolled n (fold-roll-Prefix Bool Bool Bool Bool Bool is_formed_prefix is_formed_primary is_formed_term (λ layer. layer.first && all_hold layer.more) (λ operation. operation.right) (Prefix-F.Copy t)) (fold-roll-Prefix ℕ ℕ ℕ ℕ ℕ depth_of_prefix depth_of_primary depth_of_term (λ layer. max layer.first (deepest layer.more)) (λ operation. operation.right) (Prefix-F.Copy t)) (t_is))

rectangle_good : (n : ℕ) (t : Term) → Good r.term n t → PrefixGood n (prefixes.Rectangle t)
rectangle_good n t t_is = subst (PrefixGood n) (prefixes.rolls-Rectangle t) (rolled n (fold-roll-Prefix Bool Bool Bool Bool Bool is_formed_prefix is_formed_primary is_formed_term (λ layer. layer.first && all_hold layer.more) (λ operation. operation.right) (Prefix-F.Rectangle t)) (fold-roll-Prefix ℕ ℕ ℕ ℕ ℕ depth_of_prefix depth_of_primary depth_of_term (λ layer. max layer.first (deepest layer.more)) (λ operation. operation.right) (Prefix-F.Rectangle t)) (t_is))

area_good : (n : ℕ) (t : Term) (b : Limits) → Good r.term n t → Good r.limits n b → PrefixGood n (prefixes.Area t b)
area_good n t b t_is b_is = subst (PrefixGood n) (prefixes.rolls-Area t b) (rolled n (fold-roll-Prefix Bool Bool Bool Bool Bool is_formed_prefix is_formed_primary is_formed_term (λ layer. layer.first && all_hold layer.more) (λ operation. operation.right) (Prefix-F.Area t b)) (fold-roll-Prefix ℕ ℕ ℕ ℕ ℕ depth_of_prefix depth_of_primary depth_of_term (λ layer. max layer.first (deepest layer.more)) (λ operation. operation.right) (Prefix-F.Area t b)) (both_fit t_is b_is))

length_good : (n : ℕ) (t : Term) (b : Limits) → Good r.term n t → Good r.limits n b → PrefixGood n (prefixes.Length t b)
length_good n t b t_is b_is = subst (PrefixGood n) (prefixes.rolls-Length t b) (rolled n (fold-roll-Prefix Bool Bool Bool Bool Bool is_formed_prefix is_formed_primary is_formed_term (λ layer. layer.first && all_hold layer.more) (λ operation. operation.right) (Prefix-F.Length t b)) (fold-roll-Prefix ℕ ℕ ℕ ℕ ℕ depth_of_prefix depth_of_primary depth_of_term (λ layer. max layer.first (deepest layer.more)) (λ operation. operation.right) (Prefix-F.Length t b)) (both_fit t_is b_is))

size_good : (n : ℕ) (t : Term) (v : Value) (w : Option Turn) → Good r.term n t → Good r.value n v → PrefixGood n (prefixes.Size t v w)
size_good n t v w t_is v_is = subst (PrefixGood n) (prefixes.rolls-Size t v w) (rolled n (fold-roll-Prefix Bool Bool Bool Bool Bool is_formed_prefix is_formed_primary is_formed_term (λ layer. layer.first && all_hold layer.more) (λ operation. operation.right) (Prefix-F.Size t v w)) (fold-roll-Prefix ℕ ℕ ℕ ℕ ℕ depth_of_prefix depth_of_primary depth_of_term (λ layer. max layer.first (deepest layer.more)) (λ operation. operation.right) (Prefix-F.Size t v w)) (both_fit t_is v_is))

angle_good : (n : ℕ) (t : Term) (v : Value) → Good r.term n t → Good r.value n v → PrefixGood n (prefixes.Angle t v)
angle_good n t v t_is v_is = subst (PrefixGood n) (prefixes.rolls-Angle t v) (rolled n (fold-roll-Prefix Bool Bool Bool Bool Bool is_formed_prefix is_formed_primary is_formed_term (λ layer. layer.first && all_hold layer.more) (λ operation. operation.right) (Prefix-F.Angle t v)) (fold-roll-Prefix ℕ ℕ ℕ ℕ ℕ depth_of_prefix depth_of_primary depth_of_term (λ layer. max layer.first (deepest layer.more)) (λ operation. operation.right) (Prefix-F.Angle t v)) (both_fit t_is v_is))

expand_good : (n : ℕ) (t : Term) (to : ExpandSide) (v : Value) → Good r.term n t → Good r.value n v → PrefixGood n (prefixes.Expand t to v)
expand_good n t to v t_is v_is = subst (PrefixGood n) (prefixes.rolls-Expand t to v) (rolled n (fold-roll-Prefix Bool Bool Bool Bool Bool is_formed_prefix is_formed_primary is_formed_term (λ layer. layer.first && all_hold layer.more) (λ operation. operation.right) (Prefix-F.Expand t to v)) (fold-roll-Prefix ℕ ℕ ℕ ℕ ℕ depth_of_prefix depth_of_primary depth_of_term (λ layer. max layer.first (deepest layer.more)) (λ operation. operation.right) (Prefix-F.Expand t to v)) (both_fit t_is v_is))

-- ---- Checks of distances

no_gap : (gap external : Bool) → (gap ≡ true → false ≡ true) → (not gap || external) ≡ true
no_gap true external none = absurd (false≢true (none refl))
no_gap false external none = refl

some_gap : (gap : Bool) → (not gap || true) ≡ true
some_gap true = refl
some_gap false = refl

no_region : (region : Bool) → (region ≡ true → false ≡ true) → not region ≡ true
no_region true none = absurd (false≢true (none refl))
no_region false none = refl

abbrev distance_with : DistanceKind → Input → Option Input → Bound → Options → Distance
distance_with kind first second bound options = record { kind = kind; first = first; second = second; bound = bound; options = options }

distance_good : (n : ℕ) (kind : DistanceKind) (first : Input) (second : Option Input) (bound : Bound) (options : Options) → is_formed_input first ≡ true → option_map_or is_formed_input second true ≡ true
    → Good r.bound n bound → Fits (option_map_or is_formed_value options.abut true) (option_map_or depth_of_value options.abut 0) n
    → has_its_inputs kind second ≡ true → brackets_fit (distance_with kind first second bound options) ≡ true → (not (is_some options.gap) || is_external_of_one kind second) ≡ true
    → Fits (is_formed_distance (distance_with kind first second bound options)) (depth_of_distance (distance_with kind first second bound options)) n
distance_good n kind first second bound options one two bounded abut inputs brackets gap = record {
  is = and_from _ _ (and_from _ _ (and_from _ _ (and_from _ _ (and_from _ _ (and_from _ _ one two) bounded.is) abut.is) inputs) brackets) gap;
  room = (both_fit bounded abut).room;
}

two_inputs : (kind : DistanceKind) (second : Input) → has_its_inputs kind (Some second) ≡ true
two_inputs Internal second = refl
two_inputs External second = refl
two_inputs Enclosure second = refl

-- ---- The alternatives

pub good_by : {q : r.Rule} (alternative : Alternative q) (n : ℕ) → n ≤ most_nested → Makes q n n (production alternative).parts (production alternative).tree
good_by a.no_statement n below = (refl, flat_fit below refl)
good_by a.a_statement n below = λ first fg more mg. (refl, both_fit fg mg)
good_by a.layout_system n below = λ a1 b1 s1 o1 a2 b2 s2 o2 a3 b3 s3 o3. (refl, flat_fit below refl)
good_by a.layout_path n below = λ a1 b1 s1 o1 a2 b2 s2 o2 f fg. (refl, flat_fit below fg)
good_by a.layout_primary n below = λ a1 b1 s1 o1 a2 b2 s2 o2 f fg. (refl, flat_fit below fg)
good_by a.results_database n below = λ a1 b1 s1 o1 a2 b2 s2 o2 a3 b3 s3 o3 f fg x xg. (refl, flat_fit below fg)
good_by a.summary_report n below = λ a1 b1 s1 o1 a2 b2 s2 o2 a3 b3 s3 o3 f fg x xg. (refl, flat_fit below fg)
good_by a.maximum_results n below = λ a1 b1 s1 o1 a2 b2 s2 o2 a3 b3 s3 o3 v vg. (refl, vg)
good_by a.maximum_all n below = λ a1 b1 s1 o1 a2 b2 s2 o2 a3 b3 s3 o3 a4 b4 s4 o4. (refl, flat_fit below refl)
good_by a.select_check n below = λ a1 b1 s1 o1 a2 b2 s2 o2 a3 b3 s3 o3 a4 b4 s4 o4 more mg. (refl, flat_fit below (and_from _ _ s4 mg))
good_by a.unselect_check n below = λ a1 b1 s1 o1 a2 b2 s2 o2 a3 b3 s3 o3 a4 b4 s4 o4 more mg. (refl, flat_fit below (and_from _ _ s4 mg))
good_by a.precision n below = λ a1 b1 s1 o1 v vg. (refl, vg)
good_by a.title n below = λ a1 b1 s1 o1 f fg. (refl, flat_fit below fg)
good_by a.variable n below = λ a1 b1 s1 o1 a2 b2 s2 o2 v vg. (refl, with_test s2 vg)
good_by a.layer_numbers n below = λ a1 b1 s1 o1 a2 b2 s2 o2 a3 b3 s3 o3 more mg. (refl, flat_fit below (and_from _ _ (and_from _ _ s2 refl) (and_from _ _ (number_formed a3 b3 s3) mg)))
good_by a.layer_map n below = λ a1 b1 s1 o1 a2 b2 s2 o2 a3 b3 s3 o3 k kg a4 b4 s4 o4 a5 b5 s5 o5. (refl, flat_fit below (and_from _ _ (and_from _ _ (number_formed a3 b3 s3) (number_formed a4 b4 s4)) (number_formed a5 b5 s5)))
good_by a.definition n below = λ a1 b1 s1 o1 a2 b2 s2 o2 l lg. (refl, with_test s1 lg)
good_by a.check n below = λ a1 b1 s1 o1 a2 b2 s2 o2 all ag a3 b3 s3 o3. (refl, with_test s1 ag)
good_by a.file_text n below = λ a1 b1 s1 o1. (refl, text_formed a1 b1 s1)
good_by a.file_name n below = λ a1 b1 s1 o1. (refl, name_file b1 s1)
good_by a.no_name n below = (refl, refl)
good_by a.a_name n below = λ a1 b1 s1 o1 more mg. (refl, and_from _ _ s1 mg)
good_by a.no_number n below = (refl, refl)
good_by a.a_number n below = λ a1 b1 s1 o1 more mg. (refl, and_from _ _ (number_formed a1 b1 s1) mg)
good_by a.no_ascii n below = (refl, tt)
good_by a.an_ascii n below = λ a1 b1 s1 o1. (refl, tt)
good_by a.no_mode n below = (refl, tt)
good_by a.replace n below = λ a1 b1 s1 o1. (refl, tt)
good_by a.append n below = λ a1 b1 s1 o1. (refl, tt)
good_by a.datatype n below = λ a1 b1 s1 o1. (refl, tt)
good_by a.texttype n below = λ a1 b1 s1 o1. (refl, tt)
good_by a.no_item n below = (refl, flat_fit below refl)
good_by a.a_note n below = λ a1 b1 s1 o1 more mg. (refl, both_fit (flat_fit below (note_formed b1 s1)) mg)
good_by a.a_definition n below = λ a1 b1 s1 o1 a2 b2 s2 o2 l lg more mg. (refl, both_fit (with_test s1 lg) mg)
good_by a.an_output n below = λ l lg more mg. (refl, both_fit lg mg)
good_by a.value_of n below = λ p pg ps psg. (refl, value_good n p ps pg psg)
good_by a.no_addend n below = (refl, flat_fit below refl)
good_by a.plus n below = λ a1 b1 s1 o1 p pg ps psg. (refl, addend_good n a1 add_sign.Plus p ps pg psg)
good_by a.minus n below = λ a1 b1 s1 o1 p pg ps psg. (refl, addend_good n a1 add_sign.Minus p ps pg psg)
good_by a.product_of n below = λ p pg ps psg. (refl, product_good n p ps pg psg)
good_by a.no_factor n below = (refl, flat_fit below refl)
good_by a.times n below = λ a1 b1 s1 o1 p pg ps psg. (refl, factor_good n a1 product_sign.Times p ps pg psg)
good_by a.over n below = λ a1 b1 s1 o1 p pg ps psg. (refl, factor_good n a1 product_sign.Over p ps pg psg)
good_by a.modulo n below = λ a1 b1 s1 o1 p pg ps psg. (refl, factor_good n a1 product_sign.Modulo p ps pg psg)
good_by a.power_of n below = λ p pg e eg. (refl, power_good n p e pg eg)
good_by a.no_exponent n below = (refl, flat_fit below refl)
good_by a.an_exponent n below = λ a1 b1 s1 o1 p pg. (refl, exponent_good n a1 p pg)
good_by a.number_atom n below = λ a1 b1 s1 o1. (refl, number_good n None _ below (number_formed a1 b1 s1))
good_by a.name_atom n below = λ a1 b1 s1 o1. (refl, name_good n None _ below s1)
good_by a.bracketed_atom n below = λ a1 b1 s1 o1 v vg a2 b2 s2 o2. (closed_again n, bracketed_good n None a1 v vg)
good_by a.minus_number n below = λ a1 b1 s1 o1 a2 b2 s2 o2. (refl, number_good n (Some a1) _ below (number_formed a2 b2 s2))
good_by a.minus_name n below = λ a1 b1 s1 o1 a2 b2 s2 o2. (refl, name_good n (Some a1) _ below s2)
good_by a.minus_bracketed n below = λ a1 b1 s1 o1 a2 b2 s2 o2 v vg a3 b3 s3 o3. (closed_again n, bracketed_good n (Some a1) a2 v vg)
good_by a.layer_of n below = λ p pg ps psg. (refl, layer_good n p ps pg psg)
good_by a.no_operation n below = (refl, flat_fit below refl)
good_by a.an_operation n below = λ (placed : r.Placed) x p pg ps psg. (refl, operation_good n placed.at placed.operator p ps pg psg)
good_by a.and n below = λ a1 b1 s1 o1. (refl, tt)
good_by a.or n below = λ a1 b1 s1 o1. (refl, tt)
good_by a.not n below = λ a1 b1 s1 o1. (refl, tt)
good_by a.xor n below = λ a1 b1 s1 o1. (refl, tt)
good_by a.or_edge n below = λ a1 b1 s1 o1 a2 b2 s2 o2. (refl, tt)
good_by (a.relation which) n below = λ a1 b1 s1 o1. (refl, tt)
good_by (a.not_relation which) n below = λ a1 b1 s1 o1 a2 b2 s2 o2. (refl, tt)
good_by (a.edge_relation edge_relations.Inside) n below = λ a1 b1 s1 o1 a2 b2 s2 o2. (refl, tt)
good_by (a.not_edge_relation edge_relations.Inside) n below = λ a1 b1 s1 o1 a2 b2 s2 o2 a3 b3 s3 o3. (refl, tt)
good_by (a.edge_relation edge_relations.Outside) n below = λ a1 b1 s1 o1 a2 b2 s2 o2. (refl, tt)
good_by (a.not_edge_relation edge_relations.Outside) n below = λ a1 b1 s1 o1 a2 b2 s2 o2 a3 b3 s3 o3. (refl, tt)
good_by (a.edge_relation edge_relations.Coincident) n below = λ a1 b1 s1 o1 a2 b2 s2 o2. (refl, tt)
good_by (a.not_edge_relation edge_relations.Coincident) n below = λ a1 b1 s1 o1 a2 b2 s2 o2 a3 b3 s3 o3. (refl, tt)
good_by a.name_primary n below = λ a1 b1 s1 o1. (refl, term_primary_good n _ (name_term_good n _ below s1))
good_by a.bracketed_primary n below = λ a1 b1 s1 o1 l lg a2 b2 s2 o2. (closed_again n, term_primary_good n _ (bracketed_term_good n a1 l lg))
good_by a.copy n below = λ a1 b1 s1 o1 t tg. (refl, prefix_primary_good n a1 _ (copy_good n t tg))
good_by a.rectangle n below = λ a1 b1 s1 o1 t tg. (refl, prefix_primary_good n a1 _ (rectangle_good n t tg))
good_by a.area n below = λ a1 b1 s1 o1 t tg those thoseg. (refl, prefix_primary_good n a1 _ (area_good n t those tg thoseg))
good_by a.length n below = λ a1 b1 s1 o1 t tg those thoseg. (refl, prefix_primary_good n a1 _ (length_good n t those tg thoseg))
good_by a.size n below = λ a1 b1 s1 o1 t tg a2 b2 s2 o2 v vg w wg. (refl, prefix_primary_good n a1 _ (size_good n t v w tg vg))
good_by a.angle n below = λ a1 b1 s1 o1 t tg a2 b2 s2 o2 v vg. (refl, prefix_primary_good n a1 _ (angle_good n t v tg vg))
good_by a.expand n below = λ a1 b1 s1 o1 a2 b2 s2 o2 t tg to tog a3 b3 s3 o3 v vg. (refl, prefix_primary_good n a1 _ (expand_good n t to v tg vg))
good_by a.internal n below = λ a1 b1 s1 o1 d dg. (refl, distance_primary_good n a1 d dg)
good_by a.external n below = λ a1 b1 s1 o1 d dg. (refl, distance_primary_good n a1 d dg)
good_by a.enclosure n below = λ a1 b1 s1 o1 d dg. (refl, distance_primary_good n a1 d dg)
good_by a.name_term n below = λ a1 b1 s1 o1. (refl, name_term_good n _ below s1)
good_by a.bracketed_term n below = λ a1 b1 s1 o1 l lg a2 b2 s2 o2. (closed_again n, bracketed_term_good n a1 l lg)
good_by a.below_limit n below = λ a1 b1 s1 o1 v vg. (refl, record { is = vg.is; room = vg.room })
good_by a.at_most_limit n below = λ a1 b1 s1 o1 v vg. (refl, record { is = vg.is; room = vg.room })
good_by a.equal_limit n below = λ a1 b1 s1 o1 v vg. (refl, record { is = vg.is; room = vg.room })
good_by a.unequal_limit n below = λ a1 b1 s1 o1 v vg. (refl, record { is = vg.is; room = vg.room })
good_by a.upper_below n below = λ a1 b1 s1 o1 v vg. (refl, record { is = vg.is; room = vg.room })
good_by a.upper_at_most n below = λ a1 b1 s1 o1 v vg. (refl, record { is = vg.is; room = vg.room })
good_by a.bound_below n below = λ a1 b1 s1 o1 v vg. (refl, record { is = vg.is; room = vg.room })
good_by a.bound_at_most n below = λ a1 b1 s1 o1 v vg. (refl, record { is = vg.is; room = vg.room })
good_by a.above_limit n below = λ a1 b1 s1 o1 v vg u ug. (refl, both_fit vg ug)
good_by a.at_least_limit n below = λ a1 b1 s1 o1 v vg u ug. (refl, both_fit vg ug)
good_by a.no_upper n below = (refl, flat_fit below refl)
good_by a.no_turn n below = (refl, tt)
good_by a.overunder n below = λ a1 b1 s1 o1. (refl, tt)
good_by a.underover n below = λ a1 b1 s1 o1. (refl, tt)
good_by a.inside n below = λ a1 b1 s1 o1. (refl, tt)
good_by a.outside n below = λ a1 b1 s1 o1. (refl, tt)
good_by a.one_internal n below = λ a1 b1 s1 o1 b bg those g. (refl, distance_good n Internal (inputs.Plain (name_of (lexeme kinds.Name a1 b1))) None b those s1 refl bg g.0 refl refl (no_gap (is_some those.gap) (is_external_of_one Internal None) g.1))
good_by a.one_internal_bracketed n below = λ a1 b1 s1 o1 a2 b2 s2 o2 a3 b3 s3 o3 b bg those g. (refl, distance_good n Internal (inputs.Bracketed a1 (name_of (lexeme kinds.Name a2 b2))) None b those s2 refl bg g.0 refl (no_region those.region g.2) (no_gap (is_some those.gap) (is_external_of_one Internal None) g.1))
good_by a.one_external n below = λ a1 b1 s1 o1 b bg those g. (refl, distance_good n External (inputs.Plain (name_of (lexeme kinds.Name a1 b1))) None b those s1 refl bg g.0 refl refl (some_gap (is_some those.gap)))
good_by a.one_external_bracketed n below = λ a1 b1 s1 o1 a2 b2 s2 o2 a3 b3 s3 o3 b bg those g. (refl, distance_good n External (inputs.Bracketed a1 (name_of (lexeme kinds.Name a2 b2))) None b those s2 refl bg g.0 refl (no_region those.region g.2) (some_gap (is_some those.gap)))
good_by (a.two {kind = kind}) n below = λ a1 b1 s1 o1 a2 b2 s2 o2 b bg those g. (refl, distance_good n kind (inputs.Plain (name_of (lexeme kinds.Name a1 b1))) (Some (inputs.Plain (name_of (lexeme kinds.Name a2 b2)))) b those s1 s2 bg g.0 (two_inputs kind (inputs.Plain (name_of (lexeme kinds.Name a2 b2)))) refl (no_gap (is_some those.gap) (is_external_of_one kind (Some (inputs.Plain (name_of (lexeme kinds.Name a2 b2))))) g.1))
good_by (a.two_first_bracketed {kind = kind}) n below = λ a1 b1 s1 o1 a2 b2 s2 o2 a3 b3 s3 o3 a4 b4 s4 o4 b bg those g. (refl, distance_good n kind (inputs.Bracketed a1 (name_of (lexeme kinds.Name a2 b2))) (Some (inputs.Plain (name_of (lexeme kinds.Name a4 b4)))) b those s2 s4 bg g.0 (two_inputs kind (inputs.Plain (name_of (lexeme kinds.Name a4 b4)))) (no_region those.region g.2) (no_gap (is_some those.gap) (is_external_of_one kind (Some (inputs.Plain (name_of (lexeme kinds.Name a4 b4))))) g.1))
good_by (a.two_second_bracketed {kind = kind}) n below = λ a1 b1 s1 o1 a2 b2 s2 o2 a3 b3 s3 o3 a4 b4 s4 o4 b bg those g. (refl, distance_good n kind (inputs.Plain (name_of (lexeme kinds.Name a1 b1))) (Some (inputs.Bracketed a2 (name_of (lexeme kinds.Name a3 b3)))) b those s1 s3 bg g.0 (two_inputs kind (inputs.Bracketed a2 (name_of (lexeme kinds.Name a3 b3)))) (no_region those.region g.2) (no_gap (is_some those.gap) (is_external_of_one kind (Some (inputs.Bracketed a2 (name_of (lexeme kinds.Name a3 b3))))) g.1))
good_by (a.no_option {those = r.left l m x o p}) n below = (refl, (flat_fit below refl, λ e. absurd (false≢true e), λ e. absurd (false≢true e)))
good_by a.abut n below = λ a1 b1 s1 o1 a2 b2 s2 o2 v vg those g. (refl, (vg, g.1, g.2))
good_by a.singular n below = λ a1 b1 s1 o1 those g. (refl, (g.0, g.1, g.2))
good_by a.opposite n below = λ a1 b1 s1 o1 those g. (refl, (g.0, g.1, g.2))
good_by a.square n below = λ a1 b1 s1 o1 those g. (refl, (g.0, g.1, g.2))
good_by a.notch n below = λ a1 b1 s1 o1 those g. (refl, (g.0, λ e. refl, g.2))
good_by a.space n below = λ a1 b1 s1 o1 those g. (refl, (g.0, λ e. refl, g.2))
good_by a.region n below = λ a1 b1 s1 o1 those g. (refl, (g.0, g.1, λ e. refl))
