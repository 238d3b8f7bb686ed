-- The canonical text of layers is spelled by the grammar as they are, but for places.
use Rattle.std.proofs.Common.{◌≡◌, ℕ, suc, max, Bool, ◌&&◌, List, [], ◌∷◌, ◌++◌, map, Option, refl, sym, ap, subst, ◌∙◌, append_assoc}
use Rattle.std.specs.Prelude.{codes}
use Rattle.std.specs.List.{concat, AllByRecursion}
use Rattle.deck_tree.specs.declared.infix.Infix.{Infix}
use Rattle.deck_tree.specs.declared.distance.DistanceKind.{DistanceKind}
use Rattle.deck_tree.specs.declared.distance.DistanceKind.TheVariants as distance_kinds
use Rattle.deck_tree.specs.declared.distance.Distance.{Distance}
use Rattle.deck_tree.specs.declared.distance.Input.{Input}
use Rattle.deck_tree.specs.declared.distance.Options.{Options}
use Rattle.deck_tree.specs.declared.limits.Bound.{Bound}
use Rattle.deck_tree.specs.declared.layer.ExpandSide.TheVariants as sides
use Rattle.deck_tree.specs.declared.layer.Prefix.{Prefix, roll-Prefix}
use Rattle.deck_tree.specs.declared.layer.Prefix.TheVariants as prefixes
use Rattle.deck_tree.specs.declared.layer.Prefix.TheOpen.{Prefix-F, Primary-F, Term-F, Layer-F, Operation-F}
use Rattle.deck_tree.specs.declared.layer.Prefix.TheFolds.{fold-Prefix, fold-Primary, fold-Term, fold-Operation, fold-roll-Prefix, fold-roll-Primary, fold-roll-Term, fold-roll-Layer, fold-roll-Operation, ind-Layer, map-Prefix, map-Primary, map-Term}
use Rattle.deck_tree.specs.declared.layer.Primary.{Primary, roll-Primary}
use Rattle.deck_tree.specs.declared.layer.Term.{Term, roll-Term}
use Rattle.deck_tree.specs.declared.layer.Layer.{Layer, roll-Layer}
use Rattle.deck_tree.specs.declared.layer.Operation.{Operation, roll-Operation}
use Rattle.deck_tree.specs.WellFormed.{all_hold, is_formed_value, is_formed_limits, is_formed_prefix, is_formed_primary, is_formed_term, is_formed_layer, deepest, depth_of_value, depth_of_limits, depth_of_prefix, depth_of_primary, depth_of_term, depth_of_layer}
use Rattle.deck_tree.specs.Plain.{plain_layer}
use Rattle.deck_grammar.specs.Rules as r
use Rattle.deck_grammar.specs.Alternatives as a
use Rattle.deck_printer.specs.Values.{Text, value_text, bound_text, limits_text}
use Rattle.deck_printer.specs.Layers.{infix_text, turn_text, expand_words, input_text, second_text, options_text, distance_text, prefix_step, primary_step, term_step, operation_step, layer_step, prefix_text, primary_text, term_text, operation_text, layer_text}
use Rattle.deck_round.proofs.Levels.{Fits, unrolled, both_fit, inside, may_open}
use Rattle.deck_round.proofs.Lexing.{Closed, Before}
use Rattle.deck_round.proofs.Parts.{Ruled, nothing, blank_then, token_then, rule_then, last_token, last_rule, in_round, token_space, rule_space}
use Rattle.deck_round.proofs.Keywords as word
use Rattle.deck_round.proofs.Marks.{name_one}
use Rattle.deck_round.proofs.PlacesOfLayers.{placeless_primary, placeless_term, placeless_operation}
use Rattle.deck_round.proofs.AlikeValues.{alike}
use Rattle.deck_round.proofs.Values.{chain, value_spelled}
use Rattle.deck_round.proofs.Bounds.{limits_spelled, limits_before}
use Rattle.deck_round.proofs.Distances.{BehindWord, distance_spelled}
use Rattle.deck_round.proofs.Infixes.{infix_spelled, turn_spelled, turn_before, inside_spelled, outside_spelled}
use Rattle.deck_round.proofs.AlikeLayers.{prefix_at, term_at, distance_at, name_alike, bracketed_alike, copy_alike, rectangle_alike, area_alike, length_alike, size_alike, angle_alike, expand_alike, operation_alike, layer_alike}
use Rattle.list_facts.proofs.Members.{each}

-- ---- The tests of each part, and what is shown of it

abbrev pub formed_prefix : Prefix → Bool
formed_prefix = fold-Prefix Bool Bool Bool Bool Bool is_formed_prefix is_formed_primary is_formed_term (λ layer. layer.first && all_hold layer.more) (λ operation. operation.right)

abbrev pub formed_primary : Primary → Bool
formed_primary = fold-Primary Bool Bool Bool Bool Bool is_formed_prefix is_formed_primary is_formed_term (λ layer. layer.first && all_hold layer.more) (λ operation. operation.right)

abbrev pub formed_term : Term → Bool
formed_term = fold-Term Bool Bool Bool Bool Bool is_formed_prefix is_formed_primary is_formed_term (λ layer. layer.first && all_hold layer.more) (λ operation. operation.right)

abbrev pub formed_operation : Operation → Bool
formed_operation = fold-Operation Bool Bool Bool Bool Bool is_formed_prefix is_formed_primary is_formed_term (λ layer. layer.first && all_hold layer.more) (λ operation. operation.right)

abbrev pub depth_prefix : Prefix → ℕ
depth_prefix = fold-Prefix ℕ ℕ ℕ ℕ ℕ depth_of_prefix depth_of_primary depth_of_term (λ layer. max layer.first (deepest layer.more)) (λ operation. operation.right)

abbrev pub depth_primary : Primary → ℕ
depth_primary = fold-Primary ℕ ℕ ℕ ℕ ℕ depth_of_prefix depth_of_primary depth_of_term (λ layer. max layer.first (deepest layer.more)) (λ operation. operation.right)

abbrev pub depth_term : Term → ℕ
depth_term = fold-Term ℕ ℕ ℕ ℕ ℕ depth_of_prefix depth_of_primary depth_of_term (λ layer. max layer.first (deepest layer.more)) (λ operation. operation.right)

abbrev pub depth_operation : Operation → ℕ
depth_operation = fold-Operation ℕ ℕ ℕ ℕ ℕ depth_of_prefix depth_of_primary depth_of_term (λ layer. max layer.first (deepest layer.more)) (λ operation. operation.right)

-- the text is operations, and can stand behind a layer
abbrev Operations : ℕ → List ℕ → List Operation → Type 0
Operations n w more = Ruled Closed n r.operations w (λ read. map placeless_operation read ≡ map placeless_operation more) × Before Closed Closed w

no_operations : (n : ℕ) → Operations n [] []
no_operations n = (record { alternative = a.no_operation; spelled = nothing refl }, λ rest e. e)

abbrev PrefixSpelled : ℕ → List ℕ → Prefix → Type 0
PrefixSpelled n w x = (place : ℕ) → Ruled Closed n r.primary w (λ read. placeless_primary read ≡ placeless_primary (roll-Primary (Primary-F.Prefix place x)))

abbrev PrimarySpelled : ℕ → List ℕ → Primary → Type 0
PrimarySpelled n w x = Ruled Closed n r.primary w (λ read. placeless_primary read ≡ placeless_primary x)

-- a name or a layer in brackets stands alone, or behind a word
abbrev TermSpelled : ℕ → List ℕ → Term → Type 0
TermSpelled n w x = Ruled Closed n r.term w (λ read. placeless_term read ≡ placeless_term x) × Ruled Closed n r.primary w (λ read. placeless_primary read ≡ placeless_primary (roll-Primary (Primary-F.Term x)))

abbrev LayerSpelled : ℕ → List ℕ → Layer → Type 0
LayerSpelled n w x = Ruled Closed n r.layer w (λ read. plain_layer read ≡ plain_layer x)

abbrev S-prefix : Prefix → Type 0
S-prefix x = (n : ℕ) → Fits (formed_prefix x) (depth_prefix x) n → PrefixSpelled n (prefix_text x) x

abbrev S-primary : Primary → Type 0
S-primary x = (n : ℕ) → Fits (formed_primary x) (depth_primary x) n → PrimarySpelled n (primary_text x) x

abbrev S-term : Term → Type 0
S-term x = (n : ℕ) → Fits (formed_term x) (depth_term x) n → TermSpelled n (term_text x) x

abbrev S-layer : Layer → Type 0
S-layer x = (n : ℕ) → Fits (is_formed_layer x) (depth_of_layer x) n → LayerSpelled n (layer_text x) x

abbrev S-operation : Operation → Type 0
S-operation x = (n : ℕ) → Fits (formed_operation x) (depth_operation x) n → (w : List ℕ) (more : List Operation) → Operations n w more → Operations n (operation_text x ++ w) (x ∷ more)

-- ---- Operations on one layer

abbrev PrefixFits : ℕ → Prefix-F Prefix Primary Term Layer Operation → Type 0
PrefixFits n x = Fits (is_formed_prefix (map-Prefix Prefix Primary Term Layer Operation Bool Bool Bool Bool Bool formed_prefix formed_primary formed_term is_formed_layer formed_operation x)) (depth_of_prefix (map-Prefix Prefix Primary Term Layer Operation ℕ ℕ ℕ ℕ ℕ depth_prefix depth_primary depth_term depth_of_layer depth_operation x)) n

abbrev PrefixHolds : Prefix-F Prefix Primary Term Layer Operation → Type 0
PrefixHolds (Prefix-F.Copy term) = S-term term
PrefixHolds (Prefix-F.Rectangle term) = S-term term
PrefixHolds (Prefix-F.Area term bounds) = S-term term
PrefixHolds (Prefix-F.Length term bounds) = S-term term
PrefixHolds (Prefix-F.Size term value turning) = S-term term
PrefixHolds (Prefix-F.Angle term value) = S-term term
PrefixHolds (Prefix-F.Expand term to value) = S-term term

prefix_by : (n : ℕ) (x : Prefix-F Prefix Primary Term Layer Operation) → PrefixHolds x → PrefixFits n x → PrefixSpelled n (prefix_step (map-Prefix Prefix Primary Term Layer Operation Text Text Text Text Text prefix_text primary_text term_text layer_text operation_text x)) (roll-Prefix x)
unfolding expand_words
prefix_by n (Prefix-F.Copy term) holds fits place = record {
  alternative = a.copy;
  spelled = token_space (codes "COPY") (term_text term) word.copy (λ at.
      last_rule (term_text term) (holds n fits).0 (λ t same. prefix_at at place (prefixes.Copy t) _ (copy_alike t term same)));
}
prefix_by n (Prefix-F.Rectangle term) holds fits place = record {
  alternative = a.rectangle;
  spelled = token_space (codes "RECTANGLE") (term_text term) word.rectangle (λ at.
      last_rule (term_text term) (holds n fits).0 (λ t same. prefix_at at place (prefixes.Rectangle t) _ (rectangle_alike t term same)));
}
prefix_by n (Prefix-F.Area term bounds) holds fits place =
    let both = both_fit (formed_term term) (is_formed_limits bounds) (depth_term term) (depth_of_limits bounds) n fits in
    record {
      alternative = a.area;
      spelled = token_space (codes "AREA") (term_text term ++ limits_text bounds) word.area (λ at.
          rule_then (term_text term) (limits_text bounds) (holds n both.0).0 (limits_before bounds) (λ t same.
          last_rule (limits_text bounds) (limits_spelled n bounds both.1) (λ b all. prefix_at at place (prefixes.Area t b) _ (area_alike t term b bounds same all))));
    }
prefix_by n (Prefix-F.Length term bounds) holds fits place =
    let both = both_fit (formed_term term) (is_formed_limits bounds) (depth_term term) (depth_of_limits bounds) n fits in
    record {
      alternative = a.length;
      spelled = token_space (codes "LENGTH") (term_text term ++ limits_text bounds) word.length (λ at.
          rule_then (term_text term) (limits_text bounds) (holds n both.0).0 (limits_before bounds) (λ t same.
          last_rule (limits_text bounds) (limits_spelled n bounds both.1) (λ b all. prefix_at at place (prefixes.Length t b) _ (length_alike t term b bounds same all))));
    }
prefix_by n (Prefix-F.Size term value turning) holds fits place =
    let both = both_fit (formed_term term) (is_formed_value value) (depth_term term) (depth_of_value value) n fits in
    record {
      alternative = a.size;
      spelled = token_space (codes "SIZE") (term_text term ++ (codes " BY " ++ (value_text value ++ turn_text turning))) word.size (λ at.
          rule_space (term_text term) (codes "BY " ++ (value_text value ++ turn_text turning)) (holds n both.0).0 (λ t same.
          token_space (codes "BY") (value_text value ++ turn_text turning) word.by (λ by.
          rule_then (value_text value) (turn_text turning) (value_spelled value n both.1) (turn_before turning) (λ v all.
          last_rule (turn_text turning) (turn_spelled n turning) (λ w turned. prefix_at at place (prefixes.Size t v w) _ (size_alike t term v value w turning same all turned))))));
    }
prefix_by n (Prefix-F.Angle term value) holds fits place =
    let both = both_fit (formed_term term) (is_formed_value value) (depth_term term) (depth_of_value value) n fits in
    record {
      alternative = a.angle;
      spelled = token_space (codes "ANGLE") (term_text term ++ (codes " == " ++ value_text value)) word.angle (λ at.
          rule_space (term_text term) (codes "== " ++ value_text value) (holds n both.0).0 (λ t same.
          token_space (codes "==") (value_text value) word.equal_to (λ equal.
          last_rule (value_text value) (value_spelled value n both.1) (λ v all. prefix_at at place (prefixes.Angle t v) _ (angle_alike t term v value same all)))));
    }
prefix_by n (Prefix-F.Expand term sides.Inside value) holds fits place =
    let both = both_fit (formed_term term) (is_formed_value value) (depth_term term) (depth_of_value value) n fits in
    record {
      alternative = a.expand;
      spelled = token_space (codes "EXPAND") (codes "EDGE " ++ (term_text term ++ (codes " INSIDE BY " ++ value_text value))) word.expand (λ at.
          token_space (codes "EDGE") (term_text term ++ (codes " INSIDE BY " ++ value_text value)) word.edge (λ edge.
          rule_space (term_text term) (codes "INSIDE BY " ++ value_text value) (holds n both.0).0 (λ t same.
          rule_space (codes "INSIDE") (codes "BY " ++ value_text value) (inside_spelled n) (λ to side.
          token_space (codes "BY") (value_text value) word.by (λ by.
          last_rule (value_text value) (value_spelled value n both.1) (λ v all. prefix_at at place (prefixes.Expand t to v) _ (expand_alike t term to sides.Inside v value same side all)))))));
    }
prefix_by n (Prefix-F.Expand term sides.Outside value) holds fits place =
    let both = both_fit (formed_term term) (is_formed_value value) (depth_term term) (depth_of_value value) n fits in
    record {
      alternative = a.expand;
      spelled = token_space (codes "EXPAND") (codes "EDGE " ++ (term_text term ++ (codes " OUTSIDE BY " ++ value_text value))) word.expand (λ at.
          token_space (codes "EDGE") (term_text term ++ (codes " OUTSIDE BY " ++ value_text value)) word.edge (λ edge.
          rule_space (term_text term) (codes "OUTSIDE BY " ++ value_text value) (holds n both.0).0 (λ t same.
          rule_space (codes "OUTSIDE") (codes "BY " ++ value_text value) (outside_spelled n) (λ to side.
          token_space (codes "BY") (value_text value) word.by (λ by.
          last_rule (value_text value) (value_spelled value n both.1) (λ v all. prefix_at at place (prefixes.Expand t to v) _ (expand_alike t term to sides.Outside v value same side all)))))));
    }

prefix_case : (x : Prefix-F Prefix Primary Term Layer Operation) → PrefixHolds x → S-prefix (roll-Prefix x)
prefix_case x holds n fits =
    let is : PrefixFits n x = unrolled n (fold-roll-Prefix Bool Bool Bool Bool Bool is_formed_prefix is_formed_primary is_formed_term (λ layer. layer.first && all_hold layer.more) (λ operation. operation.right) x) (fold-roll-Prefix ℕ ℕ ℕ ℕ ℕ depth_of_prefix depth_of_primary depth_of_term (λ layer. max layer.first (deepest layer.more)) (λ operation. operation.right) x) fits in
    subst (λ (t : List ℕ). PrefixSpelled n t (roll-Prefix x)) (sym (fold-roll-Prefix Text Text Text Text Text prefix_step primary_step term_step layer_step operation_step x)) (prefix_by n x holds is)

-- ---- Layers that stand alone or beside an operation

abbrev DistanceSpelled : ℕ → ℕ → Distance → Type 0
DistanceSpelled n place those = Ruled Closed n r.primary (distance_text those) (λ read. placeless_primary read ≡ placeless_primary (roll-Primary (Primary-F.Distance place those)))

abbrev behind_text : Distance → List ℕ
behind_text those = input_text those.first ++ (second_text those.second ++ (bound_text those.bound ++ options_text those.options))

distance_by : (n place : ℕ) (kind : DistanceKind) (first : Input) (second : Option Input) (bound : Bound) (options : Options)
    → BehindWord n (record { kind = kind; first = first; second = second; bound = bound; options = options }) → DistanceSpelled n place (record { kind = kind; first = first; second = second; bound = bound; options = options })
distance_by n place distance_kinds.Internal first second bound options behind = record {
  alternative = a.internal;
  spelled = token_then (codes "INT") (behind_text (record { kind = distance_kinds.Internal; first = first; second = second; bound = bound; options = options })) word.int behind.before (λ at.
      last_rule (behind_text (record { kind = distance_kinds.Internal; first = first; second = second; bound = bound; options = options })) behind.ruled (λ d same. distance_at at place d _ same));
}
distance_by n place distance_kinds.External first second bound options behind = record {
  alternative = a.external;
  spelled = token_then (codes "EXT") (behind_text (record { kind = distance_kinds.External; first = first; second = second; bound = bound; options = options })) word.ext behind.before (λ at.
      last_rule (behind_text (record { kind = distance_kinds.External; first = first; second = second; bound = bound; options = options })) behind.ruled (λ d same. distance_at at place d _ same));
}
distance_by n place distance_kinds.Enclosure first second bound options behind = record {
  alternative = a.enclosure;
  spelled = token_then (codes "ENC") (behind_text (record { kind = distance_kinds.Enclosure; first = first; second = second; bound = bound; options = options })) word.enc behind.before (λ at.
      last_rule (behind_text (record { kind = distance_kinds.Enclosure; first = first; second = second; bound = bound; options = options })) behind.ruled (λ d same. distance_at at place d _ same));
}

abbrev PrimaryFits : ℕ → Primary-F Prefix Primary Term Layer Operation → Type 0
PrimaryFits n x = Fits (is_formed_primary (map-Primary Prefix Primary Term Layer Operation Bool Bool Bool Bool Bool formed_prefix formed_primary formed_term is_formed_layer formed_operation x)) (depth_of_primary (map-Primary Prefix Primary Term Layer Operation ℕ ℕ ℕ ℕ ℕ depth_prefix depth_primary depth_term depth_of_layer depth_operation x)) n

abbrev PrimaryHolds : Primary-F Prefix Primary Term Layer Operation → Type 0
PrimaryHolds (Primary-F.Term term) = S-term term
PrimaryHolds (Primary-F.Prefix at prefixed) = S-prefix prefixed
PrimaryHolds (Primary-F.Distance at distance) = Unit {0}

primary_by : (n : ℕ) (x : Primary-F Prefix Primary Term Layer Operation) → PrimaryHolds x → PrimaryFits n x → PrimarySpelled n (primary_step (map-Primary Prefix Primary Term Layer Operation Text Text Text Text Text prefix_text primary_text term_text layer_text operation_text x)) (roll-Primary x)
primary_by n (Primary-F.Term term) holds fits = (holds n fits).1
primary_by n (Primary-F.Prefix at prefixed) holds fits = holds n fits at
primary_by n (Primary-F.Distance at those) holds fits = distance_by n at those.kind those.first those.second those.bound those.options (distance_spelled n those fits)

primary_case : (x : Primary-F Prefix Primary Term Layer Operation) → PrimaryHolds x → S-primary (roll-Primary x)
primary_case x holds n fits =
    let is : PrimaryFits n x = unrolled n (fold-roll-Primary Bool Bool Bool Bool Bool is_formed_prefix is_formed_primary is_formed_term (λ layer. layer.first && all_hold layer.more) (λ operation. operation.right) x) (fold-roll-Primary ℕ ℕ ℕ ℕ ℕ depth_of_prefix depth_of_primary depth_of_term (λ layer. max layer.first (deepest layer.more)) (λ operation. operation.right) x) fits in
    subst (λ (t : List ℕ). PrimarySpelled n t (roll-Primary x)) (sym (fold-roll-Primary Text Text Text Text Text prefix_step primary_step term_step layer_step operation_step x)) (primary_by n x holds is)

abbrev TermFits : ℕ → Term-F Prefix Primary Term Layer Operation → Type 0
TermFits n x = Fits (is_formed_term (map-Term Prefix Primary Term Layer Operation Bool Bool Bool Bool Bool formed_prefix formed_primary formed_term is_formed_layer formed_operation x)) (depth_of_term (map-Term Prefix Primary Term Layer Operation ℕ ℕ ℕ ℕ ℕ depth_prefix depth_primary depth_term depth_of_layer depth_operation x)) n

abbrev TermHolds : Term-F Prefix Primary Term Layer Operation → Type 0
TermHolds (Term-F.Name name) = Unit {0}
TermHolds (Term-F.Bracketed at layer) = S-layer layer

term_by : (n : ℕ) (x : Term-F Prefix Primary Term Layer Operation) → TermHolds x → TermFits n x → TermSpelled n (term_step (map-Term Prefix Primary Term Layer Operation Text Text Text Text Text prefix_text primary_text term_text layer_text operation_text x)) (roll-Term x)
term_by n (Term-F.Name name) holds fits = (
  record { alternative = a.name_term; spelled = last_token name.name (name_one name.name fits.is) (λ at. name_alike _ name refl) },
  record { alternative = a.name_primary; spelled = last_token name.name (name_one name.name fits.is) (λ at. term_at _ (roll-Term (Term-F.Name name)) (name_alike _ name refl)) },
)
term_by n (Term-F.Bracketed at layer) holds fits =
    let below = may_open (is_formed_layer layer) (depth_of_layer layer) n fits in
    let within = holds (suc n) (inside (is_formed_layer layer) (depth_of_layer layer) n fits) in (
      record { alternative = a.bracketed_term; spelled = in_round (layer_text layer) below within (λ bracket close l same. bracketed_alike bracket at l layer same) },
      record { alternative = a.bracketed_primary; spelled = in_round (layer_text layer) below within (λ bracket close l same. term_at _ (roll-Term (Term-F.Bracketed at layer)) (bracketed_alike bracket at l layer same)) },
    )

term_case : (x : Term-F Prefix Primary Term Layer Operation) → TermHolds x → S-term (roll-Term x)
term_case x holds n fits =
    let is : TermFits n x = unrolled n (fold-roll-Term Bool Bool Bool Bool Bool is_formed_prefix is_formed_primary is_formed_term (λ layer. layer.first && all_hold layer.more) (λ operation. operation.right) x) (fold-roll-Term ℕ ℕ ℕ ℕ ℕ depth_of_prefix depth_of_primary depth_of_term (λ layer. max layer.first (deepest layer.more)) (λ operation. operation.right) x) fits in
    subst (λ (t : List ℕ). TermSpelled n t (roll-Term x)) (sym (fold-roll-Term Text Text Text Text Text prefix_step primary_step term_step layer_step operation_step x)) (term_by n x holds is)

-- ---- Layers and their operations

operation_by : (place : ℕ) (operator : Infix) (q : Primary) → S-primary q → (n : ℕ) → Fits (formed_primary q) (depth_primary q) n → (w : List ℕ) (more : List Operation) → Operations n w more
    → Operations n (32 ∷ (infix_text operator ++ 32 ∷ (primary_text q ++ w))) (roll-Operation (record { at = place; operator = operator; right = q }) ∷ more)
operation_by place operator q holds n fits w more rest = (
  record {
    alternative = a.an_operation;
    spelled = blank_then 32 (infix_text operator ++ 32 ∷ (primary_text q ++ w)) refl (rule_space (infix_text operator) (primary_text q ++ w) (infix_spelled n operator) (λ (placed : r.Placed) is.
        rule_then (primary_text q) w (holds n fits) rest.1 (λ p same.
        last_rule w rest.0 (λ ps all. alike (operation_alike placed.at place placed.operator operator p q is same) all))));
  },
  λ behind e. refl,
)

operation_case : (x : Operation-F Prefix Primary Term Layer Operation) → S-primary x.right → S-operation (roll-Operation x)
operation_case x holds n fits w more rest =
    let is : Fits (formed_primary x.right) (depth_primary x.right) n = unrolled n (fold-roll-Operation Bool Bool Bool Bool Bool is_formed_prefix is_formed_primary is_formed_term (λ layer. layer.first && all_hold layer.more) (λ operation. operation.right) x) (fold-roll-Operation ℕ ℕ ℕ ℕ ℕ depth_of_prefix depth_of_primary depth_of_term (λ layer. max layer.first (deepest layer.more)) (λ operation. operation.right) x) fits in
    let text : operation_text (roll-Operation x) ++ w ≡ 32 ∷ (infix_text x.operator ++ 32 ∷ (primary_text x.right ++ w)) =
    ap (λ (t : List ℕ). t ++ w) (fold-roll-Operation Text Text Text Text Text prefix_step primary_step term_step layer_step operation_step x) ∙ ap (λ (t : List ℕ). 32 ∷ t) (append_assoc (infix_text x.operator) (32 ∷ primary_text x.right) w) in
    subst (λ (t : List ℕ). Operations n t (roll-Operation x ∷ more)) (sym text) (operation_by x.at x.operator x.right holds n is w more rest)

layer_case : (x : Layer-F Prefix Primary Term Layer Operation) → S-primary x.first → AllByRecursion S-operation x.more → S-layer (roll-Layer x)
layer_case x first more n fits =
    let is : Fits (formed_primary x.first && all_hold (map formed_operation x.more)) (max (depth_primary x.first) (deepest (map depth_operation x.more))) n = unrolled n (fold-roll-Layer Bool Bool Bool Bool Bool is_formed_prefix is_formed_primary is_formed_term (λ layer. layer.first && all_hold layer.more) (λ operation. operation.right) x) (fold-roll-Layer ℕ ℕ ℕ ℕ ℕ depth_of_prefix depth_of_primary depth_of_term (λ layer. max layer.first (deepest layer.more)) (λ operation. operation.right) x) fits in
    let both = both_fit (formed_primary x.first) (all_hold (map formed_operation x.more)) (depth_primary x.first) (deepest (map depth_operation x.more)) n is in
    let rest = chain formed_operation depth_operation operation_text n Operations (no_operations n) x.more more both.1 in
    let spelled : LayerSpelled n (primary_text x.first ++ concat (map operation_text x.more)) (roll-Layer x) = record {
      alternative = a.layer_of;
      spelled = rule_then (primary_text x.first) (concat (map operation_text x.more)) (first n both.0) rest.1 (λ p same.
          last_rule (concat (map operation_text x.more)) rest.0 (λ ps all. layer_alike p x.first ps x.more same all));
    } in
    subst (λ (t : List ℕ). LayerSpelled n t (roll-Layer x)) (sym (fold-roll-Layer Text Text Text Text Text prefix_step primary_step term_step layer_step operation_step x)) spelled

-- ---- All layers

prefix_such : (y : Prefix-F ((x : Prefix) × S-prefix x) ((x : Primary) × S-primary x) ((x : Term) × S-term x) ((x : Layer) × S-layer x) ((x : Operation) × S-operation x)) → PrefixHolds (map-Prefix _ _ _ _ _ Prefix Primary Term Layer Operation (λ e. e.0) (λ e. e.0) (λ e. e.0) (λ e. e.0) (λ e. e.0) y)
prefix_such (Prefix-F.Copy term) = term.1
prefix_such (Prefix-F.Rectangle term) = term.1
prefix_such (Prefix-F.Area term bounds) = term.1
prefix_such (Prefix-F.Length term bounds) = term.1
prefix_such (Prefix-F.Size term value turning) = term.1
prefix_such (Prefix-F.Angle term value) = term.1
prefix_such (Prefix-F.Expand term to value) = term.1

primary_such : (y : Primary-F ((x : Prefix) × S-prefix x) ((x : Primary) × S-primary x) ((x : Term) × S-term x) ((x : Layer) × S-layer x) ((x : Operation) × S-operation x)) → PrimaryHolds (map-Primary _ _ _ _ _ Prefix Primary Term Layer Operation (λ e. e.0) (λ e. e.0) (λ e. e.0) (λ e. e.0) (λ e. e.0) y)
primary_such (Primary-F.Term term) = term.1
primary_such (Primary-F.Prefix at prefixed) = prefixed.1
primary_such (Primary-F.Distance at distance) = tt

term_such : (y : Term-F ((x : Prefix) × S-prefix x) ((x : Primary) × S-primary x) ((x : Term) × S-term x) ((x : Layer) × S-layer x) ((x : Operation) × S-operation x)) → TermHolds (map-Term _ _ _ _ _ Prefix Primary Term Layer Operation (λ e. e.0) (λ e. e.0) (λ e. e.0) (λ e. e.0) (λ e. e.0) y)
term_such (Term-F.Name name) = tt
term_such (Term-F.Bracketed at layer) = layer.1

pub layer_spelled : (layer : Layer) → S-layer layer
layer_spelled = ind-Layer S-prefix S-primary S-term S-layer S-operation
    (λ x y is. prefix_case x (subst PrefixHolds is (prefix_such y)))
    (λ x y is. primary_case x (subst PrimaryHolds is (primary_such y)))
    (λ x y is. term_case x (subst TermHolds is (term_such y)))
    (λ x y is. layer_case x (subst (λ z. S-primary z.first) is y.first.1) (subst (λ z. AllByRecursion S-operation z.more) is (each S-operation y.more)))
    (λ x y is. operation_case x (subst (λ z. S-primary z.right) is y.right.1))
