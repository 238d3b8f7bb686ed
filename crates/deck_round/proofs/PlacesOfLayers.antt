-- Canonical text doesn't show places: layers, statements and whole decks.
use Rattle.std.proofs.Common.{◌≡◌, ℕ, List, [], ◌∷◌, ◌++◌, map, Option, Some, None, refl, sym, ap, subst, ◌∙◌}
use Rattle.std.specs.Prelude.{codes}
use Rattle.std.specs.List.{concat, flat_map, AllByRecursion}
use Rattle.std.specs.Option.{option_map}
use Rattle.deck_tree.specs.declared.limits.Bound.{Bound}
use Rattle.deck_tree.specs.declared.limits.Limits.{Limits}
use Rattle.deck_tree.specs.declared.limits.Limits.TheVariants as limits
use Rattle.deck_tree.specs.declared.distance.Input.{Input}
use Rattle.deck_tree.specs.declared.distance.Input.TheVariants as input
use Rattle.deck_tree.specs.declared.distance.Distance.{Distance}
use Rattle.deck_tree.specs.declared.value.Value.{Value}
use Rattle.deck_tree.specs.declared.layer.Prefix.{Prefix, roll-Prefix}
use Rattle.deck_tree.specs.declared.layer.Prefix.TheVariants.{rolls-Copy, rolls-Rectangle, rolls-Area, rolls-Length, rolls-Size, rolls-Angle, rolls-Expand}
use Rattle.deck_tree.specs.declared.layer.Prefix.TheOpen.{Prefix-F, Primary-F, Term-F, Layer-F, Operation-F}
use Rattle.deck_tree.specs.declared.layer.Prefix.TheFolds.{fold-Prefix, fold-Primary, fold-Term, fold-Operation, fold-roll-Prefix, fold-roll-Primary, fold-roll-Term, fold-roll-Layer, fold-roll-Operation, ind-Layer, map-Prefix, map-Primary, map-Term}
use Rattle.deck_tree.specs.declared.layer.Primary.{Primary, roll-Primary}
use Rattle.deck_tree.specs.declared.layer.Primary.TheVariants as primaries
use Rattle.deck_tree.specs.declared.layer.Term.{Term, roll-Term}
use Rattle.deck_tree.specs.declared.layer.Term.TheVariants as terms
use Rattle.deck_tree.specs.declared.layer.Layer.{Layer, roll-Layer}
use Rattle.deck_tree.specs.declared.layer.Operation.{Operation, roll-Operation}
use Rattle.deck_tree.specs.declared.statement.Statement.{Statement}
use Rattle.deck_tree.specs.declared.statement.Statement.TheVariants as statement
use Rattle.deck_tree.specs.declared.statement.Item.{Item}
use Rattle.deck_tree.specs.declared.statement.Item.TheVariants as item
use Rattle.deck_tree.specs.declared.deck.Deck.{Deck}
use Rattle.deck_tree.specs.Plain.{plain_name, plain_number, plain_value, plain_bound, plain_limits, plain_input, plain_distance, plain_prefix, plain_primary, plain_term, plain_operation, plain_layer, plain_item, plain_statement, plain}
use Rattle.deck_printer.specs.Values.{Text, value_text, below_text, above_text, bound_text, upper_text, limits_text}
use Rattle.deck_printer.specs.Layers.{infix_text, turn_text, side_text, expand_words, input_text, second_text, abut_text, distance_text, prefix_step, primary_step, term_step, operation_step, layer_step, prefix_text, primary_text, term_text, operation_text, layer_text}
use Rattle.deck_printer.specs.Canonical.{most_text, spaced_name, spaced_number, item_text, statement_text, canonical}
use Rattle.deck_round.proofs.Places.{same_texts, value_same}
use Rattle.list_facts.proofs.Members.{each}

-- ---- What holds values

bound_same : (bound : Bound) → bound_text (plain_bound bound) ≡ bound_text bound
bound_same bound = ap (λ (t : List ℕ). below_text bound.sign ++ t) (value_same bound.value)

upper_same : (bound : Option Bound) → upper_text (option_map plain_bound bound) ≡ upper_text bound
upper_same None = refl
upper_same (Some bound) = bound_same bound

limits_same : (those : Limits) → limits_text (plain_limits those) ≡ limits_text those
limits_same (limits.Below bound) = bound_same bound
limits_same (limits.Equal value) = ap (λ (t : List ℕ). codes " == " ++ t) (value_same value)
limits_same (limits.NotEqual value) = ap (λ (t : List ℕ). codes " != " ++ t) (value_same value)
limits_same (limits.Above sign value bound) =
    ap (λ (t : List ℕ). above_text sign ++ (t ++ upper_text (option_map plain_bound bound))) (value_same value) ∙ ap (λ (t : List ℕ). above_text sign ++ (value_text value ++ t)) (upper_same bound)

input_same : (those : Input) → input_text (plain_input those) ≡ input_text those
input_same (input.Plain name) = refl
input_same (input.Bracketed at name) = refl

second_same : (second : Option Input) → second_text (option_map plain_input second) ≡ second_text second
second_same None = refl
second_same (Some those) = input_same those

abut_same : (value : Option Value) → abut_text (option_map plain_value value) ≡ abut_text value
abut_same None = refl
abut_same (Some value) = ap (λ (t : List ℕ). codes " ABUT < " ++ t) (value_same value)

distance_same : (those : Distance) → distance_text (plain_distance those) ≡ distance_text those
distance_same those =
    rw (input_same those.first, second_same those.second, bound_same those.bound, abut_same those.options.abut) refl

-- ---- Layers

abbrev pub placeless_prefix : Prefix → Prefix
placeless_prefix = fold-Prefix Prefix Primary Term Layer Operation plain_prefix plain_primary plain_term roll-Layer plain_operation

abbrev pub placeless_primary : Primary → Primary
placeless_primary = fold-Primary Prefix Primary Term Layer Operation plain_prefix plain_primary plain_term roll-Layer plain_operation

abbrev pub placeless_term : Term → Term
placeless_term = fold-Term Prefix Primary Term Layer Operation plain_prefix plain_primary plain_term roll-Layer plain_operation

abbrev pub placeless_operation : Operation → Operation
placeless_operation = fold-Operation Prefix Primary Term Layer Operation plain_prefix plain_primary plain_term roll-Layer plain_operation

abbrev E-prefix : Prefix → Type 0
E-prefix x = prefix_text (placeless_prefix x) ≡ prefix_text x

abbrev E-primary : Primary → Type 0
E-primary x = primary_text (placeless_primary x) ≡ primary_text x

abbrev E-term : Term → Type 0
E-term x = term_text (placeless_term x) ≡ term_text x

abbrev E-layer : Layer → Type 0
E-layer x = layer_text (plain_layer x) ≡ layer_text x

abbrev E-operation : Operation → Type 0
E-operation x = operation_text (placeless_operation x) ≡ operation_text x

prefix_of : (x : Prefix-F Prefix Primary Term Layer Operation)
    → prefix_text (roll-Prefix x) ≡ prefix_step (map-Prefix Prefix Primary Term Layer Operation Text Text Text Text Text prefix_text primary_text term_text layer_text operation_text x)
prefix_of = fold-roll-Prefix Text Text Text Text Text prefix_step primary_step term_step layer_step operation_step

pub prefix_bare : (x : Prefix-F Prefix Primary Term Layer Operation)
    → placeless_prefix (roll-Prefix x) ≡ plain_prefix (map-Prefix Prefix Primary Term Layer Operation Prefix Primary Term Layer Operation placeless_prefix placeless_primary placeless_term plain_layer placeless_operation x)
prefix_bare = fold-roll-Prefix Prefix Primary Term Layer Operation plain_prefix plain_primary plain_term roll-Layer plain_operation

abbrev PrefixSame : Prefix-F Prefix Primary Term Layer Operation → Type 0
PrefixSame (Prefix-F.Copy term) = E-term term
PrefixSame (Prefix-F.Rectangle term) = E-term term
PrefixSame (Prefix-F.Area term bounds) = E-term term
PrefixSame (Prefix-F.Length term bounds) = E-term term
PrefixSame (Prefix-F.Size term value turning) = E-term term
PrefixSame (Prefix-F.Angle term value) = E-term term
PrefixSame (Prefix-F.Expand term to value) = E-term term

prefix_same : (x : Prefix-F Prefix Primary Term Layer Operation) → PrefixSame x → E-prefix (roll-Prefix x)
prefix_same (Prefix-F.Copy term) same =
    ap prefix_text (prefix_bare (Prefix-F.Copy term)) ∙ ap prefix_text (sym (rolls-Copy (placeless_term term))) ∙ prefix_of (Prefix-F.Copy (placeless_term term))
    ∙ ap (λ (t : List ℕ). codes "COPY " ++ t) same ∙ sym (prefix_of (Prefix-F.Copy term))
prefix_same (Prefix-F.Rectangle term) same =
    ap prefix_text (prefix_bare (Prefix-F.Rectangle term)) ∙ ap prefix_text (sym (rolls-Rectangle (placeless_term term))) ∙ prefix_of (Prefix-F.Rectangle (placeless_term term))
    ∙ ap (λ (t : List ℕ). codes "RECTANGLE " ++ t) same ∙ sym (prefix_of (Prefix-F.Rectangle term))
prefix_same (Prefix-F.Area term bounds) same =
    ap prefix_text (prefix_bare (Prefix-F.Area term bounds)) ∙ ap prefix_text (sym (rolls-Area (placeless_term term) (plain_limits bounds))) ∙ prefix_of (Prefix-F.Area (placeless_term term) (plain_limits bounds))
    ∙ ap (λ (t : List ℕ). codes "AREA " ++ (t ++ limits_text (plain_limits bounds))) same ∙ ap (λ (t : List ℕ). codes "AREA " ++ (term_text term ++ t)) (limits_same bounds) ∙ sym (prefix_of (Prefix-F.Area term bounds))
prefix_same (Prefix-F.Length term bounds) same =
    ap prefix_text (prefix_bare (Prefix-F.Length term bounds)) ∙ ap prefix_text (sym (rolls-Length (placeless_term term) (plain_limits bounds))) ∙ prefix_of (Prefix-F.Length (placeless_term term) (plain_limits bounds))
    ∙ ap (λ (t : List ℕ). codes "LENGTH " ++ (t ++ limits_text (plain_limits bounds))) same ∙ ap (λ (t : List ℕ). codes "LENGTH " ++ (term_text term ++ t)) (limits_same bounds) ∙ sym (prefix_of (Prefix-F.Length term bounds))
prefix_same (Prefix-F.Size term value turning) same =
    ap prefix_text (prefix_bare (Prefix-F.Size term value turning)) ∙ ap prefix_text (sym (rolls-Size (placeless_term term) (plain_value value) turning)) ∙ prefix_of (Prefix-F.Size (placeless_term term) (plain_value value) turning)
    ∙ ap (λ (t : List ℕ). codes "SIZE " ++ (t ++ (codes " BY " ++ (value_text (plain_value value) ++ turn_text turning)))) same
    ∙ ap (λ (t : List ℕ). codes "SIZE " ++ (term_text term ++ (codes " BY " ++ (t ++ turn_text turning)))) (value_same value) ∙ sym (prefix_of (Prefix-F.Size term value turning))
prefix_same (Prefix-F.Angle term value) same =
    ap prefix_text (prefix_bare (Prefix-F.Angle term value)) ∙ ap prefix_text (sym (rolls-Angle (placeless_term term) (plain_value value))) ∙ prefix_of (Prefix-F.Angle (placeless_term term) (plain_value value))
    ∙ ap (λ (t : List ℕ). codes "ANGLE " ++ (t ++ (codes " == " ++ value_text (plain_value value)))) same
    ∙ ap (λ (t : List ℕ). codes "ANGLE " ++ (term_text term ++ (codes " == " ++ t))) (value_same value) ∙ sym (prefix_of (Prefix-F.Angle term value))
prefix_same (Prefix-F.Expand term to value) same =
    ap prefix_text (prefix_bare (Prefix-F.Expand term to value)) ∙ ap prefix_text (sym (rolls-Expand (placeless_term term) to (plain_value value))) ∙ prefix_of (Prefix-F.Expand (placeless_term term) to (plain_value value))
    ∙ ap (λ (t : List ℕ). expand_words ++ (t ++ (side_text to ++ value_text (plain_value value)))) same
    ∙ ap (λ (t : List ℕ). expand_words ++ (term_text term ++ (side_text to ++ t))) (value_same value) ∙ sym (prefix_of (Prefix-F.Expand term to value))

primary_of : (x : Primary-F Prefix Primary Term Layer Operation)
    → primary_text (roll-Primary x) ≡ primary_step (map-Primary Prefix Primary Term Layer Operation Text Text Text Text Text prefix_text primary_text term_text layer_text operation_text x)
primary_of = fold-roll-Primary Text Text Text Text Text prefix_step primary_step term_step layer_step operation_step

pub primary_bare : (x : Primary-F Prefix Primary Term Layer Operation)
    → placeless_primary (roll-Primary x) ≡ plain_primary (map-Primary Prefix Primary Term Layer Operation Prefix Primary Term Layer Operation placeless_prefix placeless_primary placeless_term plain_layer placeless_operation x)
primary_bare = fold-roll-Primary Prefix Primary Term Layer Operation plain_prefix plain_primary plain_term roll-Layer plain_operation

abbrev PrimarySame : Primary-F Prefix Primary Term Layer Operation → Type 0
PrimarySame (Primary-F.Term term) = E-term term
PrimarySame (Primary-F.Prefix at prefixed) = E-prefix prefixed
PrimarySame (Primary-F.Distance at distance) = Unit {0}

primary_same : (x : Primary-F Prefix Primary Term Layer Operation) → PrimarySame x → E-primary (roll-Primary x)
primary_same (Primary-F.Term term) same =
    ap primary_text (primary_bare (Primary-F.Term term)) ∙ ap primary_text (sym (primaries.rolls-Term (placeless_term term))) ∙ primary_of (Primary-F.Term (placeless_term term)) ∙ same ∙ sym (primary_of (Primary-F.Term term))
primary_same (Primary-F.Prefix at prefixed) same =
    ap primary_text (primary_bare (Primary-F.Prefix at prefixed)) ∙ ap primary_text (sym (primaries.rolls-Prefix 0 (placeless_prefix prefixed))) ∙ primary_of (Primary-F.Prefix 0 (placeless_prefix prefixed)) ∙ same ∙ sym (primary_of (Primary-F.Prefix at prefixed))
primary_same (Primary-F.Distance at distance) same =
    ap primary_text (primary_bare (Primary-F.Distance at distance)) ∙ ap primary_text (sym (primaries.rolls-Distance 0 (plain_distance distance))) ∙ primary_of (Primary-F.Distance 0 (plain_distance distance))
    ∙ distance_same distance ∙ sym (primary_of (Primary-F.Distance at distance))

term_of : (x : Term-F Prefix Primary Term Layer Operation)
    → term_text (roll-Term x) ≡ term_step (map-Term Prefix Primary Term Layer Operation Text Text Text Text Text prefix_text primary_text term_text layer_text operation_text x)
term_of = fold-roll-Term Text Text Text Text Text prefix_step primary_step term_step layer_step operation_step

pub term_bare : (x : Term-F Prefix Primary Term Layer Operation)
    → placeless_term (roll-Term x) ≡ plain_term (map-Term Prefix Primary Term Layer Operation Prefix Primary Term Layer Operation placeless_prefix placeless_primary placeless_term plain_layer placeless_operation x)
term_bare = fold-roll-Term Prefix Primary Term Layer Operation plain_prefix plain_primary plain_term roll-Layer plain_operation

abbrev TermSame : Term-F Prefix Primary Term Layer Operation → Type 0
TermSame (Term-F.Name name) = Unit {0}
TermSame (Term-F.Bracketed at layer) = E-layer layer

term_same : (x : Term-F Prefix Primary Term Layer Operation) → TermSame x → E-term (roll-Term x)
term_same (Term-F.Name name) same =
    ap term_text (term_bare (Term-F.Name name)) ∙ ap term_text (sym (terms.rolls-Name (plain_name name))) ∙ term_of (Term-F.Name (plain_name name)) ∙ sym (term_of (Term-F.Name name))
term_same (Term-F.Bracketed at layer) same =
    ap term_text (term_bare (Term-F.Bracketed at layer)) ∙ ap term_text (sym (terms.rolls-Bracketed 0 (plain_layer layer))) ∙ term_of (Term-F.Bracketed 0 (plain_layer layer))
    ∙ ap (λ (t : List ℕ). 40 ∷ (t ++ 41 ∷ [])) same ∙ sym (term_of (Term-F.Bracketed at layer))

layer_same_by : (x : Layer-F Prefix Primary Term Layer Operation) → E-primary x.first → AllByRecursion E-operation x.more → E-layer (roll-Layer x)
layer_same_by x first more =
    let bare = fold-roll-Layer Prefix Primary Term Layer Operation plain_prefix plain_primary plain_term roll-Layer plain_operation x in
    let text = fold-roll-Layer Text Text Text Text Text prefix_step primary_step term_step layer_step operation_step in
    ap layer_text bare ∙ text (record { first = placeless_primary x.first; more = map placeless_operation x.more })
    ∙ ap (λ (t : List ℕ). t ++ concat (map operation_text (map placeless_operation x.more))) first ∙ ap (λ (t : List ℕ). primary_text x.first ++ t) (same_texts placeless_operation operation_text x.more more) ∙ sym (text x)

operation_same : (x : Operation-F Prefix Primary Term Layer Operation) → E-primary x.right → E-operation (roll-Operation x)
operation_same x same =
    let bare = fold-roll-Operation Prefix Primary Term Layer Operation plain_prefix plain_primary plain_term roll-Layer plain_operation x in
    let text = fold-roll-Operation Text Text Text Text Text prefix_step primary_step term_step layer_step operation_step in
    ap operation_text bare ∙ text (record { at = 0; operator = x.operator; right = placeless_primary x.right }) ∙ ap (λ (t : List ℕ). 32 ∷ (infix_text x.operator ++ 32 ∷ t)) same ∙ sym (text x)

prefix_such : (y : Prefix-F ((x : Prefix) × E-prefix x) ((x : Primary) × E-primary x) ((x : Term) × E-term x) ((x : Layer) × E-layer x) ((x : Operation) × E-operation x))
    → PrefixSame (map-Prefix _ _ _ _ _ Prefix Primary Term Layer Operation (λ e. e.0) (λ e. e.0) (λ e. e.0) (λ e. e.0) (λ e. e.0) y)
prefix_such (Prefix-F.Copy term) = term.1
prefix_such (Prefix-F.Rectangle term) = term.1
prefix_such (Prefix-F.Area term bounds) = term.1
prefix_such (Prefix-F.Length term bounds) = term.1
prefix_such (Prefix-F.Size term value turning) = term.1
prefix_such (Prefix-F.Angle term value) = term.1
prefix_such (Prefix-F.Expand term to value) = term.1

primary_such : (y : Primary-F ((x : Prefix) × E-prefix x) ((x : Primary) × E-primary x) ((x : Term) × E-term x) ((x : Layer) × E-layer x) ((x : Operation) × E-operation x))
    → PrimarySame (map-Primary _ _ _ _ _ Prefix Primary Term Layer Operation (λ e. e.0) (λ e. e.0) (λ e. e.0) (λ e. e.0) (λ e. e.0) y)
primary_such (Primary-F.Term term) = term.1
primary_such (Primary-F.Prefix at prefixed) = prefixed.1
primary_such (Primary-F.Distance at distance) = tt

term_such : (y : Term-F ((x : Prefix) × E-prefix x) ((x : Primary) × E-primary x) ((x : Term) × E-term x) ((x : Layer) × E-layer x) ((x : Operation) × E-operation x))
    → TermSame (map-Term _ _ _ _ _ Prefix Primary Term Layer Operation (λ e. e.0) (λ e. e.0) (λ e. e.0) (λ e. e.0) (λ e. e.0) y)
term_such (Term-F.Name name) = tt
term_such (Term-F.Bracketed at layer) = layer.1

pub layer_same : (layer : Layer) → E-layer layer
layer_same = ind-Layer E-prefix E-primary E-term E-layer E-operation
    (λ x y is. prefix_same x (subst PrefixSame is (prefix_such y)))
    (λ x y is. primary_same x (subst PrimarySame is (primary_such y)))
    (λ x y is. term_same x (subst TermSame is (term_such y)))
    (λ x y is. layer_same_by x (subst (λ z. E-primary z.first) is y.first.1) (subst (λ z. AllByRecursion E-operation z.more) is (each E-operation y.more)))
    (λ x y is. operation_same x (subst (λ z. E-primary z.right) is y.right.1))

-- ---- Statements

same_list : {A : Type 0} (bare : A → A) (text : A → List ℕ) → ((x : A) → text (bare x) ≡ text x) → (xs : List A) → flat_map text (map bare xs) ≡ flat_map text xs
same_list bare text same [] = refl
same_list bare text same (x ∷ xs) = ap (λ (t : List ℕ). t ++ flat_map text (map bare xs)) (same x) ∙ ap (λ (t : List ℕ). text x ++ t) (same_list bare text same xs)

most_same : (most : Option Value) → most_text (option_map plain_value most) ≡ most_text most
most_same None = refl
most_same (Some value) = value_same value

item_same : (those : Item) → item_text (plain_item those) ≡ item_text those
item_same (item.Note text) = refl
item_same (item.Definition name layer) = ap (λ (t : List ℕ). name.name ++ (codes " = " ++ (t ++ codes "\n"))) (layer_same layer)
item_same (item.Output layer) = ap (λ (t : List ℕ). t ++ codes "\n") (layer_same layer)

statement_same : (those : Statement) → statement_text (plain_statement those) ≡ statement_text those
statement_same (statement.LayoutSystem at) = refl
statement_same (statement.LayoutPath at file) = refl
statement_same (statement.LayoutPrimary at file) = refl
statement_same (statement.ResultsDatabase at file) = refl
statement_same (statement.SummaryReport at file) = refl
statement_same (statement.MaximumResults at most) = ap (λ (t : List ℕ). codes "DRC MAXIMUM RESULTS " ++ (t ++ codes "\n")) (most_same most)
statement_same (statement.SelectCheck at names) = ap (λ (t : List ℕ). codes "DRC SELECT CHECK" ++ (t ++ codes "\n")) (same_list plain_name spaced_name (λ x. refl) names)
statement_same (statement.UnselectCheck at names) = ap (λ (t : List ℕ). codes "DRC UNSELECT CHECK" ++ (t ++ codes "\n")) (same_list plain_name spaced_name (λ x. refl) names)
statement_same (statement.Precision at value) = ap (λ (t : List ℕ). codes "PRECISION " ++ (t ++ codes "\n")) (value_same value)
statement_same (statement.Title at file) = refl
statement_same (statement.Variable at name value) = ap (λ (t : List ℕ). codes "VARIABLE " ++ (name.name ++ (codes " " ++ (t ++ codes "\n")))) (value_same value)
statement_same (statement.Layer at name numbers) = ap (λ (t : List ℕ). codes "LAYER " ++ (name.name ++ (t ++ codes "\n"))) (same_list plain_number spaced_number (λ x. refl) numbers)
statement_same (statement.LayerMap at row) = refl
statement_same (statement.Definition name layer) = ap (λ (t : List ℕ). name.name ++ (codes " = " ++ (t ++ codes "\n"))) (layer_same layer)
statement_same (statement.Check name items) = ap (λ (t : List ℕ). name.name ++ (codes " {\n" ++ (t ++ codes "}\n"))) (same_list plain_item item_text item_same items)

pub places_not_printed : (deck : Deck) → canonical (plain deck) ≡ canonical deck
places_not_printed deck = same_list plain_statement statement_text statement_same deck.statements
