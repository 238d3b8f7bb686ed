-- The canonical text of checks of distances is spelled by the grammar as they are, but for places.
use Rattle.std.proofs.Common.{◌≡◌, ℕ, Bool, true, false, ◌&&◌, ◌||◌, not, List, [], ◌∷◌, ◌++◌, Option, Some, None, refl, sym, ap, subst, ◌∙◌, append_assoc}
use Rattle.std.specs.Prelude.{codes, is_some}
use Rattle.std.specs.Option.{option_map, option_map_or}
use Rattle.std.proofs.lemmas.Bool.{not-true, and_parts, and_from, false≢true}
use Rattle.deck_tree.specs.declared.name_at.NameAt.{NameAt}
use Rattle.deck_tree.specs.declared.value.Value.{Value}
use Rattle.deck_tree.specs.declared.limits.Bound.{Bound}
use Rattle.deck_tree.specs.declared.distance.DistanceKind.{DistanceKind}
use Rattle.deck_tree.specs.declared.distance.DistanceKind.TheVariants.{Internal, External, Enclosure}
use Rattle.deck_tree.specs.declared.distance.Input.{Input}
use Rattle.deck_tree.specs.declared.distance.Input.TheVariants as inputs
use Rattle.deck_tree.specs.declared.distance.Metric.{Metric}
use Rattle.deck_tree.specs.declared.distance.Metric.TheVariants as metrics
use Rattle.deck_tree.specs.declared.distance.Gap.{Gap}
use Rattle.deck_tree.specs.declared.distance.Gap.TheVariants as gaps
use Rattle.deck_tree.specs.declared.distance.Options.{Options}
use Rattle.deck_tree.specs.declared.distance.Distance.{Distance}
use Rattle.deck_tree.specs.WellFormed.{is_formed_value, is_formed_bound, is_formed_input, is_bracketed, has_its_inputs, is_external_of_one, is_formed_distance, depth_of_value, depth_of_bound, depth_of_distance}
use Rattle.deck_tree.specs.Plain.{plain_value, plain_bound, plain_input, plain_options, plain_distance}
use Rattle.deck_grammar.specs.declared.kind.Kind.TheVariants as kinds
use Rattle.deck_grammar.specs.declared.sign.Sign.TheVariants as s
use Rattle.deck_grammar.specs.Lexemes.{Lexeme, lexeme, name_of}
use Rattle.deck_grammar.specs.Rules as r
use Rattle.deck_grammar.specs.Alternatives as a
use Rattle.deck_printer.specs.Values.{value_text, bound_text}
use Rattle.deck_printer.specs.Layers.{input_text, second_text, abut_text, singular_text, metric_text, gap_text, region_text, options_text}
use Rattle.deck_round.proofs.Levels.{Fits, both_fit}
use Rattle.deck_round.proofs.Lexing.{Closed, Before, before_then}
use Rattle.deck_round.proofs.Parts.{Spelled, Ruled, nothing, blank_then, token_then, rule_then, last_rule, token_space}
use Rattle.deck_round.proofs.Keywords as word
use Rattle.deck_round.proofs.Marks.{name_one}
use Rattle.deck_round.proofs.Values.{value_spelled}
use Rattle.deck_round.proofs.Bounds.{bound_spelled, bound_before}

-- ---- Options

abbrev options_with : Option Value → Bool → Option Metric → Option Gap → Bool → Options
options_with abut singular metric gap region = record { abut = abut; singular = singular; metric = metric; gap = gap; region = region }

abbrev with_abut : Option Value → Options → Options
with_abut abut those = record those { abut = abut }

abbrev with_singular : Options → Options
with_singular those = record those { singular = true }

abbrev with_metric : Metric → Options → Options
with_metric metric those = record those { metric = Some metric }

abbrev with_gap : Gap → Options → Options
with_gap gap those = record those { gap = Some gap }

abbrev with_region : Options → Options
with_region those = record those { region = true }

no_more : (level : ℕ) (l m n o p : Bool) → Ruled Closed level (r.options (r.left l m n o p)) [] (λ read. plain_options read ≡ options_with None false None None false)
no_more level l m n o p = record { alternative = a.no_option; spelled = nothing refl }

region_spelled : (level : ℕ) (l m n o p : Bool) (region : Bool) → (region ≡ true → p ≡ true)
    → Ruled Closed level (r.options (r.left l m n o p)) (region_text region) (λ read. plain_options read ≡ options_with None false None None region)
region_spelled level l m n o p false fits = no_more level l m n o p
region_spelled level l m n o false true fits = absurd (false≢true (fits refl))
region_spelled level l m n o true true fits = record {
  alternative = a.region;
  spelled = blank_then 32 (codes "REGION") refl (token_then (codes "REGION") [] word.region (λ rest e. e) (λ at. last_rule [] (no_more level l m n o false) (λ those same. ap with_region same)));
}

region_before : (region : Bool) → Before Closed Closed (region_text region)
region_before true = λ rest e. refl
region_before false = λ rest e. e

gap_spelled : (level : ℕ) (l m n o p : Bool) (gap : Option Gap) (region : Bool) → (is_some gap ≡ true → o ≡ true) → (region ≡ true → p ≡ true)
    → Ruled Closed level (r.options (r.left l m n o p)) (gap_text gap ++ region_text region) (λ read. plain_options read ≡ options_with None false None gap region)
gap_spelled level l m n o p None region fits more = region_spelled level l m n o p region more
gap_spelled level l m n false p (Some gap) region fits more = absurd (false≢true (fits refl))
gap_spelled level l m n true p (Some gaps.Notch) region fits more = record {
  alternative = a.notch;
  spelled = blank_then 32 (codes "NOTCH" ++ region_text region) refl (token_then (codes "NOTCH") (region_text region) word.notch (region_before region) (λ at.
      last_rule (region_text region) (region_spelled level l m n false p region more) (λ those same. ap (with_gap gaps.Notch) same)));
}
gap_spelled level l m n true p (Some gaps.Space) region fits more = record {
  alternative = a.space;
  spelled = blank_then 32 (codes "SPACE" ++ region_text region) refl (token_then (codes "SPACE") (region_text region) word.space (region_before region) (λ at.
      last_rule (region_text region) (region_spelled level l m n false p region more) (λ those same. ap (with_gap gaps.Space) same)));
}

gap_before : (gap : Option Gap) → Before Closed Closed (gap_text gap)
gap_before None = λ rest e. e
gap_before (Some gaps.Notch) = λ rest e. refl
gap_before (Some gaps.Space) = λ rest e. refl

gap_on : (gap : Option Gap) (region : Bool) → Before Closed Closed (gap_text gap ++ region_text region)
gap_on gap region = before_then (gap_text gap) (region_text region) (gap_before gap) (region_before region)

metric_spelled : (level : ℕ) (l m o p : Bool) (metric : Option Metric) (gap : Option Gap) (region : Bool) → (is_some gap ≡ true → o ≡ true) → (region ≡ true → p ≡ true)
    → Ruled Closed level (r.options (r.left l m true o p)) (metric_text metric ++ (gap_text gap ++ region_text region)) (λ read. plain_options read ≡ options_with None false metric gap region)
metric_spelled level l m o p None gap region fits more = gap_spelled level l m true o p gap region fits more
metric_spelled level l m o p (Some metrics.Opposite) gap region fits more = record {
  alternative = a.opposite;
  spelled = blank_then 32 (codes "OPPOSITE" ++ (gap_text gap ++ region_text region)) refl (token_then (codes "OPPOSITE") (gap_text gap ++ region_text region) word.opposite (gap_on gap region) (λ at.
      last_rule (gap_text gap ++ region_text region) (gap_spelled level l m false o p gap region fits more) (λ those same. ap (with_metric metrics.Opposite) same)));
}
metric_spelled level l m o p (Some metrics.Square) gap region fits more = record {
  alternative = a.square;
  spelled = blank_then 32 (codes "SQUARE" ++ (gap_text gap ++ region_text region)) refl (token_then (codes "SQUARE") (gap_text gap ++ region_text region) word.square (gap_on gap region) (λ at.
      last_rule (gap_text gap ++ region_text region) (gap_spelled level l m false o p gap region fits more) (λ those same. ap (with_metric metrics.Square) same)));
}

metric_before : (metric : Option Metric) → Before Closed Closed (metric_text metric)
metric_before None = λ rest e. e
metric_before (Some metrics.Opposite) = λ rest e. refl
metric_before (Some metrics.Square) = λ rest e. refl

metric_on : (metric : Option Metric) (gap : Option Gap) (region : Bool) → Before Closed Closed (metric_text metric ++ (gap_text gap ++ region_text region))
metric_on metric gap region = before_then (metric_text metric) (gap_text gap ++ region_text region) (metric_before metric) (gap_on gap region)

singular_spelled : (level : ℕ) (l o p singular : Bool) (metric : Option Metric) (gap : Option Gap) (region : Bool) → (is_some gap ≡ true → o ≡ true) → (region ≡ true → p ≡ true)
    → Ruled Closed level (r.options (r.left l true true o p)) (singular_text singular ++ (metric_text metric ++ (gap_text gap ++ region_text region))) (λ read. plain_options read ≡ options_with None singular metric gap region)
singular_spelled level l o p false metric gap region fits more = metric_spelled level l true o p metric gap region fits more
singular_spelled level l o p true metric gap region fits more = record {
  alternative = a.singular;
  spelled = blank_then 32 (codes "SINGULAR" ++ (metric_text metric ++ (gap_text gap ++ region_text region))) refl
      (token_then (codes "SINGULAR") (metric_text metric ++ (gap_text gap ++ region_text region)) word.singular (metric_on metric gap region) (λ at.
      last_rule (metric_text metric ++ (gap_text gap ++ region_text region)) (metric_spelled level l false o p metric gap region fits more) (λ those same. ap with_singular same)));
}

singular_before : (singular : Bool) → Before Closed Closed (singular_text singular)
singular_before true = λ rest e. refl
singular_before false = λ rest e. e

abbrev rest_text : Options → List ℕ
rest_text those = singular_text those.singular ++ (metric_text those.metric ++ (gap_text those.gap ++ region_text those.region))

rest_on : (those : Options) → Before Closed Closed (rest_text those)
rest_on those = before_then (singular_text those.singular) (metric_text those.metric ++ (gap_text those.gap ++ region_text those.region)) (singular_before those.singular) (metric_on those.metric those.gap those.region)

abut_spelled : (level : ℕ) (o p : Bool) (abut : Option Value) (those : Options) → Fits (option_map_or is_formed_value abut true) (option_map_or depth_of_value abut 0) level → (is_some those.gap ≡ true → o ≡ true) → (those.region ≡ true → p ≡ true)
    → Ruled Closed level (r.options (r.left true true true o p)) (abut_text abut ++ rest_text those) (λ read. plain_options read ≡ with_abut (option_map plain_value abut) those)
abut_spelled level o p None those fitting fits more = singular_spelled level true o p those.singular those.metric those.gap those.region fits more
abut_spelled level o p (Some value) those fitting fits more = record {
  alternative = a.abut;
  spelled = blank_then 32 (codes "ABUT < " ++ (value_text value ++ rest_text those)) refl (token_space (codes "ABUT") (codes "< " ++ (value_text value ++ rest_text those)) word.abut (λ at.
      token_space (codes "<") (value_text value ++ rest_text those) word.less (λ less.
      rule_then (value_text value) (rest_text those) (value_spelled value level fitting) (rest_on those) (λ v same.
      last_rule (rest_text those) (singular_spelled level false o p those.singular those.metric those.gap those.region fits more) (λ read all.
      ap (λ (z : Value). with_abut (Some z) (plain_options read)) same ∙ ap (with_abut (Some (plain_value value))) all)))));
}

options_spelled : (level : ℕ) (o p : Bool) (those : Options) → Fits (option_map_or is_formed_value those.abut true) (option_map_or depth_of_value those.abut 0) level → (is_some those.gap ≡ true → o ≡ true) → (those.region ≡ true → p ≡ true)
    → Ruled Closed level (r.options (r.left true true true o p)) (options_text those) (λ read. plain_options read ≡ plain_options those)
options_spelled level o p those formed fits more = abut_spelled level o p those.abut those formed fits more

abut_before : (abut : Option Value) → Before Closed Closed (abut_text abut)
abut_before None = λ rest e. e
abut_before (Some value) = λ rest e. refl

options_on : (those : Options) → Before Closed Closed (options_text those)
options_on those = before_then (abut_text those.abut) (rest_text those) (abut_before those.abut) (rest_on those)

-- ---- What stands behind the inputs

abbrev distance_with : DistanceKind → Input → Option Input → Bound → Options → Distance
distance_with kind first second bound options = record { kind = kind; first = first; second = second; bound = bound; options = options }

abbrev last_text : Bound → Options → List ℕ
last_text bound options = bound_text bound ++ options_text options

last_on : (bound : Bound) (options : Options) → Before Closed Closed (last_text bound options)
last_on bound options = before_then (bound_text bound) (options_text options) (bound_before bound) (options_on options)

-- what is known of the bound and the options, where NOTCH, SPACE and REGION may stand or not
record MayStand (level : ℕ) (o p : Bool) (bound : Bound) (options : Options) : Type 0 where
  bounded : Fits (is_formed_bound bound) (depth_of_bound bound) level
  abut : Fits (option_map_or is_formed_value options.abut true) (option_map_or depth_of_value options.abut 0) level
  gap : is_some options.gap ≡ true → o ≡ true
  region : options.region ≡ true → p ≡ true

last_spelled : (level : ℕ) (kind : DistanceKind) (o p : Bool) (first : Input) (second : Option Input) (bound : Bound) (options : Options) → MayStand level o p bound options
    → Spelled Closed level (r.distance kind) (r.rule r.bound ∷ r.rule (r.options (r.left true true true o p)) ∷ []) (λ b those. distance_with kind first second b those) (last_text bound options)
    (λ read. plain_distance read ≡ distance_with kind (plain_input first) (option_map plain_input second) (plain_bound bound) (plain_options options))
last_spelled level kind o p first second bound options fits =
    rule_then (bound_text bound) (options_text options) (bound_spelled level bound fits.bounded) (options_on options) (λ b same.
    last_rule (options_text options) (options_spelled level o p options fits.abut fits.gap fits.region) (λ those all.
    ap (λ (z : Bound). distance_with kind (plain_input first) (option_map plain_input second) z (plain_options those)) same
    ∙ ap (λ (z : Options). distance_with kind (plain_input first) (option_map plain_input second) (plain_bound bound) z) all))

-- a name in square brackets, and more
squared : {level : ℕ} {q : r.Rule} {parts : List r.Part} {meaning : Lexeme → Lexeme → Lexeme → r.Meaning parts (r.Tree q)} {Is : r.Tree q → Type 0} (name : NameAt) (w : List ℕ)
    → is_formed_input (inputs.Plain name) ≡ true → Before Closed Closed w
    → ((bracket place close : ℕ) → Spelled Closed level q parts (meaning (lexeme (kinds.Sign s.LeftSquare) bracket (91 ∷ [])) (lexeme kinds.Name place name.name) (lexeme (kinds.Sign s.RightSquare) close (93 ∷ []))) w Is)
    → Spelled Closed level q (r.token (kinds.Sign s.LeftSquare) ∷ r.token kinds.Name ∷ r.token (kinds.Sign s.RightSquare) ∷ parts) meaning (91 ∷ ((name.name ++ 93 ∷ []) ++ w)) Is
squared {level} {q} {parts} {meaning} {Is} name w formed before spelled =
    token_then (91 ∷ []) ((name.name ++ 93 ∷ []) ++ w) word.left_square (λ rest e. tt) (λ bracket.
    subst (λ (t : List ℕ). Spelled Closed level q (r.token kinds.Name ∷ r.token (kinds.Sign s.RightSquare) ∷ parts) (meaning (lexeme (kinds.Sign s.LeftSquare) bracket (91 ∷ []))) t Is) (sym (append_assoc name.name (93 ∷ []) w))
    (token_then name.name (93 ∷ w) (name_one name.name formed) (λ rest e. refl) (λ place.
    token_then (93 ∷ []) w word.right_square before (λ close. spelled bracket place close))))

-- ---- The checks

no_gap : (test external : Bool) → external ≡ false → (not test || external) ≡ true → test ≡ true → false ≡ true
no_gap true external none is test = sym none ∙ is
no_gap false external none is test = test

no_region : (region : Bool) → not region ≡ true → region ≡ true → false ≡ true
no_region region is there = sym (not-true region is) ∙ there

two_inputs : (kind : DistanceKind) (second : Input) → is_external_of_one kind (Some second) ≡ false
two_inputs Internal second = refl
two_inputs External second = refl
two_inputs Enclosure second = refl

record Formed (level : ℕ) (kind : DistanceKind) (first : Input) (second : Option Input) (bound : Bound) (options : Options) : Type 0 where
  first_formed : is_formed_input first ≡ true
  second_formed : option_map_or is_formed_input second true ≡ true
  bounded : Fits (is_formed_bound bound) (depth_of_bound bound) level
  abut : Fits (option_map_or is_formed_value options.abut true) (option_map_or depth_of_value options.abut 0) level
  inputs_fit : has_its_inputs kind second ≡ true
  not_both : not (is_bracketed first && option_map_or is_bracketed second false) ≡ true
  no_region : not ((is_bracketed first || option_map_or is_bracketed second false) && options.region) ≡ true
  gap : (not (is_some options.gap) || is_external_of_one kind second) ≡ true

formed_of : (level : ℕ) (kind : DistanceKind) (first : Input) (second : Option Input) (bound : Bound) (options : Options)
    → Fits (is_formed_distance (distance_with kind first second bound options)) (depth_of_distance (distance_with kind first second bound options)) level → Formed level kind first second bound options
formed_of level kind first second bound options fits =
    let formed = fits.is in
    let a = and_parts _ _ formed in
    let b = and_parts _ _ a.0 in
    let c = and_parts _ _ b.0 in
    let d = and_parts _ _ c.0 in
    let e = and_parts _ _ d.0 in
    let f = and_parts _ _ e.0 in
    let g = and_parts _ _ b.1 in
    let deep = both_fit (is_formed_bound bound) (option_map_or is_formed_value options.abut true) (depth_of_bound bound) (option_map_or depth_of_value options.abut 0) level
    (record { is = and_from (is_formed_bound bound) (option_map_or is_formed_value options.abut true) e.1 d.1; room = fits.room }) in
    record { first_formed = f.0; second_formed = f.1; bounded = deep.0; abut = deep.1; inputs_fit = c.1; not_both = g.0; no_region = g.1; gap = a.1 }

abbrev DistanceSpelled : ℕ → DistanceKind → Input → Option Input → Bound → Options → Type 0
DistanceSpelled level kind first second bound options =
    Ruled Closed level (r.distance kind) (input_text first ++ (second_text second ++ last_text bound options)) (λ read. plain_distance read ≡ plain_distance (distance_with kind first second bound options))

distance_by : (level : ℕ) (kind : DistanceKind) (first : Input) (second : Option Input) (bound : Bound) (options : Options) → Formed level kind first second bound options → DistanceSpelled level kind first second bound options
distance_by level Internal (inputs.Plain n) None bound options formed = record {
  alternative = a.one_internal;
  spelled = blank_then 32 (n.name ++ last_text bound options) refl (token_then n.name (last_text bound options) (name_one n.name formed.first_formed) (last_on bound options) (λ place.
      last_spelled level Internal false true _ None bound options (record { bounded = formed.bounded; abut = formed.abut; gap = no_gap (is_some options.gap) false refl formed.gap; region = λ e. refl })));
}
distance_by level External (inputs.Plain n) None bound options formed = record {
  alternative = a.one_external;
  spelled = blank_then 32 (n.name ++ last_text bound options) refl (token_then n.name (last_text bound options) (name_one n.name formed.first_formed) (last_on bound options) (λ place.
      last_spelled level External true true _ None bound options (record { bounded = formed.bounded; abut = formed.abut; gap = λ e. refl; region = λ e. refl })));
}
distance_by level Enclosure (inputs.Plain n) None bound options formed = absurd (false≢true formed.inputs_fit)
distance_by level Internal (inputs.Bracketed spot n) None bound options formed = record {
  alternative = a.one_internal_bracketed;
  spelled = blank_then 32 (91 ∷ ((n.name ++ 93 ∷ []) ++ last_text bound options)) refl (squared n (last_text bound options) formed.first_formed (last_on bound options) (λ bracket place close.
      last_spelled level Internal false false (inputs.Bracketed bracket (name_of (lexeme kinds.Name place n.name))) None bound options (record { bounded = formed.bounded; abut = formed.abut; gap = no_gap (is_some options.gap) false refl formed.gap; region = no_region options.region formed.no_region })));
}
distance_by level External (inputs.Bracketed spot n) None bound options formed = record {
  alternative = a.one_external_bracketed;
  spelled = blank_then 32 (91 ∷ ((n.name ++ 93 ∷ []) ++ last_text bound options)) refl (squared n (last_text bound options) formed.first_formed (last_on bound options) (λ bracket place close.
      last_spelled level External true false (inputs.Bracketed bracket (name_of (lexeme kinds.Name place n.name))) None bound options (record { bounded = formed.bounded; abut = formed.abut; gap = λ e. refl; region = no_region options.region formed.no_region })));
}
distance_by level Enclosure (inputs.Bracketed spot n) None bound options formed = absurd (false≢true formed.inputs_fit)
distance_by level kind (inputs.Plain n) (Some (inputs.Plain m)) bound options formed = record {
  alternative = a.two;
  spelled = blank_then 32 (n.name ++ 32 ∷ (m.name ++ last_text bound options)) refl (token_space n.name (m.name ++ last_text bound options) (name_one n.name formed.first_formed) (λ place.
      token_then m.name (last_text bound options) (name_one m.name formed.second_formed) (last_on bound options) (λ other.
      last_spelled level kind false true (inputs.Plain (name_of (lexeme kinds.Name place n.name))) (Some (inputs.Plain (name_of (lexeme kinds.Name other m.name)))) bound options
      (record { bounded = formed.bounded; abut = formed.abut; gap = no_gap (is_some options.gap) _ (two_inputs kind (inputs.Plain m)) formed.gap; region = λ e. refl }))));
}
distance_by level kind (inputs.Plain n) (Some (inputs.Bracketed spot m)) bound options formed = record {
  alternative = a.two_second_bracketed;
  spelled = blank_then 32 (n.name ++ 32 ∷ 91 ∷ ((m.name ++ 93 ∷ []) ++ last_text bound options)) refl (token_space n.name (91 ∷ ((m.name ++ 93 ∷ []) ++ last_text bound options)) (name_one n.name formed.first_formed) (λ place.
      squared m (last_text bound options) formed.second_formed (last_on bound options) (λ bracket other close.
      last_spelled level kind false false (inputs.Plain (name_of (lexeme kinds.Name place n.name))) (Some (inputs.Bracketed bracket (name_of (lexeme kinds.Name other m.name)))) bound options
      (record { bounded = formed.bounded; abut = formed.abut; gap = no_gap (is_some options.gap) _ (two_inputs kind (inputs.Bracketed spot m)) formed.gap; region = no_region options.region formed.no_region }))));
}
distance_by level kind (inputs.Bracketed spot n) (Some (inputs.Plain m)) bound options formed = record {
  alternative = a.two_first_bracketed;
  spelled = blank_then 32 (91 ∷ ((n.name ++ 93 ∷ []) ++ 32 ∷ (m.name ++ last_text bound options))) refl (squared n (32 ∷ (m.name ++ last_text bound options)) formed.first_formed (λ rest e. refl) (λ bracket place close.
      blank_then 32 (m.name ++ last_text bound options) refl (token_then m.name (last_text bound options) (name_one m.name formed.second_formed) (last_on bound options) (λ other.
      last_spelled level kind false false (inputs.Bracketed bracket (name_of (lexeme kinds.Name place n.name))) (Some (inputs.Plain (name_of (lexeme kinds.Name other m.name)))) bound options
      (record { bounded = formed.bounded; abut = formed.abut; gap = no_gap (is_some options.gap) _ (two_inputs kind (inputs.Plain m)) formed.gap; region = no_region options.region formed.no_region })))));
}
distance_by level kind (inputs.Bracketed spot n) (Some (inputs.Bracketed other m)) bound options formed = absurd (false≢true formed.not_both)

input_on : (those : Input) (w : List ℕ) → Before Closed Closed (input_text those ++ w)
input_on (inputs.Plain n) w = λ rest e. refl
input_on (inputs.Bracketed spot n) w = λ rest e. refl

-- what stands behind the check's word, which comes straight behind it
pub record BehindWord (level : ℕ) (those : Distance) : Type 0 where
  pub ruled : Ruled Closed level (r.distance those.kind) (input_text those.first ++ (second_text those.second ++ (bound_text those.bound ++ options_text those.options))) (λ read. plain_distance read ≡ plain_distance those)
  pub before : Before Closed Closed (input_text those.first ++ (second_text those.second ++ (bound_text those.bound ++ options_text those.options)))

pub distance_spelled : (level : ℕ) (those : Distance) → Fits (is_formed_distance those) (depth_of_distance those) level → BehindWord level those
distance_spelled level those fits = record {
  ruled = distance_by level those.kind those.first those.second those.bound those.options (formed_of level those.kind those.first those.second those.bound those.options fits);
  before = input_on those.first (second_text those.second ++ (bound_text those.bound ++ options_text those.options));
}
