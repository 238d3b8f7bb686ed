-- The canonical text of layers: operations, checks of distances, and their options in one order.
use Rattle.std.specs.Prelude.{Bool, true, false, [], ◌++◌, Option, Some, None, codes}
use Rattle.std.specs.List.{concat}
use Rattle.deck_tree.specs.declared.infix.Infix.{Infix}
use Rattle.deck_tree.specs.declared.infix.Infix.TheVariants as infixes
use Rattle.deck_tree.specs.declared.infix.Relation.{Relation}
use Rattle.deck_tree.specs.declared.infix.Relation.TheVariants as relation
use Rattle.deck_tree.specs.declared.infix.EdgeRelation.{EdgeRelation}
use Rattle.deck_tree.specs.declared.infix.EdgeRelation.TheVariants as edge_relation
use Rattle.deck_tree.specs.declared.distance.DistanceKind.{DistanceKind}
use Rattle.deck_tree.specs.declared.distance.DistanceKind.TheVariants as distance_kind
use Rattle.deck_tree.specs.declared.distance.Input.{Input}
use Rattle.deck_tree.specs.declared.distance.Input.TheVariants as input
use Rattle.deck_tree.specs.declared.distance.Metric.{Metric}
use Rattle.deck_tree.specs.declared.distance.Metric.TheVariants as metric
use Rattle.deck_tree.specs.declared.distance.Gap.{Gap}
use Rattle.deck_tree.specs.declared.distance.Gap.TheVariants as gap
use Rattle.deck_tree.specs.declared.distance.Options.{Options}
use Rattle.deck_tree.specs.declared.distance.Distance.{Distance}
use Rattle.deck_tree.specs.declared.value.Value.{Value}
use Rattle.deck_tree.specs.declared.layer.Turn.{Turn}
use Rattle.deck_tree.specs.declared.layer.Turn.TheVariants as turn
use Rattle.deck_tree.specs.declared.layer.ExpandSide.{ExpandSide}
use Rattle.deck_tree.specs.declared.layer.ExpandSide.TheVariants as side
use Rattle.deck_tree.specs.declared.layer.Prefix.{Prefix}
use Rattle.deck_tree.specs.declared.layer.Prefix.TheOpen.{Prefix-F, Primary-F, Term-F, Layer-F, Operation-F}
use Rattle.deck_tree.specs.declared.layer.Prefix.TheFolds.{fold-Prefix, fold-Primary, fold-Term, fold-Layer, fold-Operation}
use Rattle.deck_tree.specs.declared.layer.Primary.{Primary}
use Rattle.deck_tree.specs.declared.layer.Term.{Term}
use Rattle.deck_tree.specs.declared.layer.Layer.{Layer}
use Rattle.deck_tree.specs.declared.layer.Operation.{Operation}
use Rattle.deck_printer.specs.Values.{Text, value_text, bound_text, limits_text}

-- ---- Words

abbrev pub relation_text : Relation → Text
relation_text relation.Inside = codes "INSIDE"
relation_text relation.Outside = codes "OUTSIDE"
relation_text relation.Interact = codes "INTERACT"
relation_text relation.Touch = codes "TOUCH"
relation_text relation.Cut = codes "CUT"
relation_text relation.Enclose = codes "ENCLOSE"

abbrev pub edge_relation_text : EdgeRelation → Text
edge_relation_text edge_relation.Inside = codes "INSIDE EDGE"
edge_relation_text edge_relation.Outside = codes "OUTSIDE EDGE"
edge_relation_text edge_relation.Coincident = codes "COINCIDENT EDGE"

abbrev pub not_text : Bool → Text
not_text true = codes "NOT "
not_text false = []

abbrev pub infix_text : Infix → Text
infix_text infixes.And = codes "AND"
infix_text infixes.Or = codes "OR"
infix_text infixes.Not = codes "NOT"
infix_text infixes.Xor = codes "XOR"
infix_text infixes.OrEdge = codes "OR EDGE"
infix_text (infixes.Relation negated which) = not_text negated ++ relation_text which
infix_text (infixes.EdgeRelation negated which) = not_text negated ++ edge_relation_text which

abbrev pub turn_text : Option Turn → Text
turn_text None = []
turn_text (Some turn.OverUnder) = codes " OVERUNDER"
turn_text (Some turn.UnderOver) = codes " UNDEROVER"

abbrev pub side_text : ExpandSide → Text
side_text side.Inside = codes " INSIDE BY "
side_text side.Outside = codes " OUTSIDE BY "

unfoldable pub expand_words : Text
expand_words = codes "EXPAND EDGE "

-- ---- Checks of distances

abbrev pub distance_kind_text : DistanceKind → Text
distance_kind_text distance_kind.Internal = codes "INT"
distance_kind_text distance_kind.External = codes "EXT"
distance_kind_text distance_kind.Enclosure = codes "ENC"

abbrev pub input_text : Input → Text
input_text (input.Plain name) = codes " " ++ name.name
input_text (input.Bracketed at name) = codes " [" ++ (name.name ++ codes "]")

abbrev pub second_text : Option Input → Text
second_text None = []
second_text (Some second) = input_text second

abbrev pub abut_text : Option Value → Text
abut_text None = []
abut_text (Some value) = codes " ABUT < " ++ value_text value

abbrev pub singular_text : Bool → Text
singular_text true = codes " SINGULAR"
singular_text false = []

abbrev pub metric_text : Option Metric → Text
metric_text None = []
metric_text (Some metric.Opposite) = codes " OPPOSITE"
metric_text (Some metric.Square) = codes " SQUARE"

abbrev pub gap_text : Option Gap → Text
gap_text None = []
gap_text (Some gap.Notch) = codes " NOTCH"
gap_text (Some gap.Space) = codes " SPACE"

abbrev pub region_text : Bool → Text
region_text true = codes " REGION"
region_text false = []

abbrev pub options_text : Options → Text
options_text options =
    abut_text options.abut
    ++ (singular_text options.singular ++ (metric_text options.metric ++ (gap_text options.gap ++ region_text options.region)))

abbrev pub distance_text : Distance → Text
distance_text distance =
    distance_kind_text distance.kind
    ++ (input_text distance.first ++ (second_text distance.second ++ (bound_text distance.bound ++ options_text distance.options)))

-- ---- Layers: one level each, with the text of each part in its place

abbrev pub prefix_step : Prefix-F Text Text Text Text Text → Text
prefix_step (Prefix-F.Copy term) = codes "COPY " ++ term
prefix_step (Prefix-F.Rectangle term) = codes "RECTANGLE " ++ term
prefix_step (Prefix-F.Area term bounds) = codes "AREA " ++ (term ++ limits_text bounds)
prefix_step (Prefix-F.Length term bounds) = codes "LENGTH " ++ (term ++ limits_text bounds)
prefix_step (Prefix-F.Size term value turning) = codes "SIZE " ++ (term ++ (codes " BY " ++ (value_text value ++ turn_text turning)))
prefix_step (Prefix-F.Angle term value) = codes "ANGLE " ++ (term ++ (codes " == " ++ value_text value))
prefix_step (Prefix-F.Expand term to value) = expand_words ++ (term ++ (side_text to ++ value_text value))

abbrev pub primary_step : Primary-F Text Text Text Text Text → Text
primary_step (Primary-F.Term term) = term
primary_step (Primary-F.Prefix at prefixed) = prefixed
primary_step (Primary-F.Distance at distance) = distance_text distance

abbrev pub term_step : Term-F Text Text Text Text Text → Text
term_step (Term-F.Name name) = name.name
term_step (Term-F.Bracketed at layer) = codes "(" ++ (layer ++ codes ")")

abbrev pub operation_step : Operation-F Text Text Text Text Text → Text
operation_step operation = codes " " ++ (infix_text operation.operator ++ (codes " " ++ operation.right))

abbrev pub layer_step : Layer-F Text Text Text Text Text → Text
layer_step layer = layer.first ++ concat layer.more

abbrev pub prefix_text : Prefix → Text
prefix_text = fold-Prefix Text Text Text Text Text prefix_step primary_step term_step layer_step operation_step

abbrev pub primary_text : Primary → Text
primary_text = fold-Primary Text Text Text Text Text prefix_step primary_step term_step layer_step operation_step

abbrev pub term_text : Term → Text
term_text = fold-Term Text Text Text Text Text prefix_step primary_step term_step layer_step operation_step

abbrev pub operation_text : Operation → Text
operation_text = fold-Operation Text Text Text Text Text prefix_step primary_step term_step layer_step operation_step

abbrev pub layer_text : Layer → Text
layer_text = fold-Layer Text Text Text Text Text prefix_step primary_step term_step layer_step operation_step
