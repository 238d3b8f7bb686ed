-- Checks of distances, by their inputs, and options, one by one.
use Rattle.std.proofs.Common.{◌≡◌, ℕ, Bool, true, Option, Some, None, sym, subst}
use Rattle.deck_tree.specs.declared.distance.DistanceKind.{DistanceKind}
use Rattle.deck_tree.specs.declared.distance.DistanceKind.TheVariants.{Internal, External, Enclosure}
use Rattle.deck_tree.specs.declared.distance.Input.{Input}
use Rattle.deck_tree.specs.declared.distance.Input.TheVariants as inputs
use Rattle.deck_tree.specs.declared.distance.Metric.TheVariants as metrics
use Rattle.deck_tree.specs.declared.distance.Gap.TheVariants as gaps
use Rattle.deck_tree.specs.declared.distance.Options.{Options}
use Rattle.deck_tree.specs.declared.limits.Bound.{Bound}
use Rattle.deck_grammar.specs.declared.keyword.Keyword.TheVariants as k
use Rattle.deck_grammar.specs.declared.sign.Sign.TheVariants as s
use Rattle.deck_grammar.specs.declared.kind.Kind.TheVariants as kinds
use Rattle.deck_grammar.specs.Rules as r
use Rattle.deck_grammar.specs.Rules.{Tree}
use Rattle.deck_cursor.specs.Places.{Place}
use Rattle.deck_cursor.specs.Steps.{Reads}
use Rattle.deck_builder.specs.declared.options.Left.{Left}
use Rattle.deck_builder.specs.declared.options.Choice.{Choice}
use Rattle.deck_builder.specs.declared.options.Choice.TheVariants as choices
use Rattle.deck_builder.specs.Reading.{TakenAt}
use Rattle.deck_builder.specs.Inputs.{ReadsInput, ReadsSecond, go_together, options_with}
use Rattle.deck_builder.specs.Choices.{left_of, may_stand, without, with_choice, ReadsChoice}
use Rattle.deck_builder.proofs.CheckRules.{one_internal, one_internal_bracketed, one_external, one_external_bracketed, two, two_first_bracketed, two_second_bracketed, abut, singular, opposite, square, notch, space, region}

at_once : {p1 p2 p3 : Place} {b : Bound} → p2 ≡ p1 → Reads r.bound p2 p3 b → Reads r.bound p1 p3 b
at_once {p3 = p3} {b = b} is h = let P : Place → Type 0 = λ p. Reads r.bound p p3 b in subst P is h

pub read_distance : (from p1 p2 : Place) {p3 to : Place} {b : Bound} {o : Options} (kind : DistanceKind) (first : Input) (second : Option Input)
    → go_together kind first second ≡ true
    → ReadsInput from p1 first
    → ReadsSecond p1 p2 second
    → Reads r.bound p2 p3 b
    → Reads (r.options (options_with kind first second)) p3 to o
    → Reads (r.distance kind) from to (record { kind = kind; first = first; second = second; bound = b; options = o })
read_distance from p1 p2 Internal (inputs.Plain a) None g h0 h1 h2 h3 = one_internal h0 (at_once h1 h2) h3
read_distance from p1 p2 Internal (inputs.Bracketed at a) None g h0 h1 h2 h3 = one_internal_bracketed h0.opens h0.named h0.closes (at_once h1 h2) h3
read_distance from p1 p2 Internal (inputs.Plain a) (Some (inputs.Plain c)) g h0 h1 h2 h3 = two h0 h1 h2 h3
read_distance from p1 p2 Internal (inputs.Bracketed at a) (Some (inputs.Plain c)) g h0 h1 h2 h3 = two_first_bracketed h0.opens h0.named h0.closes h1 h2 h3
read_distance from p1 p2 Internal (inputs.Plain a) (Some (inputs.Bracketed at c)) g h0 h1 h2 h3 = two_second_bracketed h0 h1.opens h1.named h1.closes h2 h3
read_distance from p1 p2 Internal (inputs.Bracketed at a) (Some (inputs.Bracketed place c)) g h0 h1 h2 h3 = absurd (cc)
read_distance from p1 p2 External (inputs.Plain a) None g h0 h1 h2 h3 = one_external h0 (at_once h1 h2) h3
read_distance from p1 p2 External (inputs.Bracketed at a) None g h0 h1 h2 h3 = one_external_bracketed h0.opens h0.named h0.closes (at_once h1 h2) h3
read_distance from p1 p2 External (inputs.Plain a) (Some (inputs.Plain c)) g h0 h1 h2 h3 = two h0 h1 h2 h3
read_distance from p1 p2 External (inputs.Bracketed at a) (Some (inputs.Plain c)) g h0 h1 h2 h3 = two_first_bracketed h0.opens h0.named h0.closes h1 h2 h3
read_distance from p1 p2 External (inputs.Plain a) (Some (inputs.Bracketed at c)) g h0 h1 h2 h3 = two_second_bracketed h0 h1.opens h1.named h1.closes h2 h3
read_distance from p1 p2 External (inputs.Bracketed at a) (Some (inputs.Bracketed place c)) g h0 h1 h2 h3 = absurd (cc)
read_distance from p1 p2 Enclosure first None g h0 h1 h2 h3 = absurd (cc)
read_distance from p1 p2 Enclosure (inputs.Plain a) (Some (inputs.Plain c)) g h0 h1 h2 h3 = two h0 h1 h2 h3
read_distance from p1 p2 Enclosure (inputs.Bracketed at a) (Some (inputs.Plain c)) g h0 h1 h2 h3 = two_first_bracketed h0.opens h0.named h0.closes h1 h2 h3
read_distance from p1 p2 Enclosure (inputs.Plain a) (Some (inputs.Bracketed at c)) g h0 h1 h2 h3 = two_second_bracketed h0 h1.opens h1.named h1.closes h2 h3
read_distance from p1 p2 Enclosure (inputs.Bracketed at a) (Some (inputs.Bracketed place c)) g h0 h1 h2 h3 = absurd (cc)

-- ---- Options

pub reads_abut : {from p1 p2 to : Place} {at less : ℕ} {v : Tree r.value} → TakenAt (kinds.Keyword k.Abut) from p1 at → TakenAt (kinds.Sign s.Less) p1 p2 less
    → Reads r.value p2 to v → ReadsChoice from to (choices.Abut v)
reads_abut {from} {v = v} h0 h1 h2 those stands behind others h =
    let P : Bool → Type 0 = λ b. Reads (r.options (r.left b those.singular those.metric those.gap those.region)) from behind (record others { abut = Some v }) in
    subst P (sym stands) (abut h0 h1 h2 h)

pub reads_singular : {from to : Place} {at : ℕ} → TakenAt (kinds.Keyword k.Singular) from to at → ReadsChoice from to choices.Singular
reads_singular {from} h0 those stands behind others h =
    let P : Bool → Type 0 = λ b. Reads (r.options (r.left those.abut b those.metric those.gap those.region)) from behind (record others { singular = true }) in
    subst P (sym stands) (singular h0 h)

pub reads_opposite : {from to : Place} {at : ℕ} → TakenAt (kinds.Keyword k.Opposite) from to at → ReadsChoice from to (choices.Metric metrics.Opposite)
reads_opposite {from} h0 those stands behind others h =
    let P : Bool → Type 0 = λ b. Reads (r.options (r.left those.abut those.singular b those.gap those.region)) from behind (record others { metric = Some metrics.Opposite }) in
    subst P (sym stands) (opposite h0 h)

pub reads_square : {from to : Place} {at : ℕ} → TakenAt (kinds.Keyword k.Square) from to at → ReadsChoice from to (choices.Metric metrics.Square)
reads_square {from} h0 those stands behind others h =
    let P : Bool → Type 0 = λ b. Reads (r.options (r.left those.abut those.singular b those.gap those.region)) from behind (record others { metric = Some metrics.Square }) in
    subst P (sym stands) (square h0 h)

pub reads_notch : {from to : Place} {at : ℕ} → TakenAt (kinds.Keyword k.Notch) from to at → ReadsChoice from to (choices.Gap gaps.Notch)
reads_notch {from} h0 those stands behind others h =
    let P : Bool → Type 0 = λ b. Reads (r.options (r.left those.abut those.singular those.metric b those.region)) from behind (record others { gap = Some gaps.Notch }) in
    subst P (sym stands) (notch h0 h)

pub reads_space : {from to : Place} {at : ℕ} → TakenAt (kinds.Keyword k.Space) from to at → ReadsChoice from to (choices.Gap gaps.Space)
reads_space {from} h0 those stands behind others h =
    let P : Bool → Type 0 = λ b. Reads (r.options (r.left those.abut those.singular those.metric b those.region)) from behind (record others { gap = Some gaps.Space }) in
    subst P (sym stands) (space h0 h)

pub reads_region : {from to : Place} {at : ℕ} → TakenAt (kinds.Keyword k.Region) from to at → ReadsChoice from to choices.Region
reads_region {from} h0 those stands behind others h =
    let P : Bool → Type 0 = λ b. Reads (r.options (r.left those.abut those.singular those.metric those.gap b)) from behind (record others { region = true }) in
    subst P (sym stands) (region h0 h)

pub one_option : {from between to : Place} (those rest : Left) (choice : Choice) {others : Options} → ReadsChoice from between choice → may_stand those choice ≡ true
    → rest ≡ without those choice → Reads (r.options (left_of rest)) between to others → Reads (r.options (left_of those)) from to (with_choice others choice)
one_option {from} {between} {to} those rest choice {others} reads stands is h =
    let P : Left → Type 0 = λ it. Reads (r.options (left_of it)) between to others in reads those stands to others (subst P is h)
