-- Which types of layers each operation takes, and which it gives: one signature for each operation.
--
--     AND takes a polygon layer on each side and gives one; LENGTH takes polygons or edges and gives edges
use Rattle.std.specs.Prelude.{◌≡◌, ◌&&◌, if◌then◌else◌, Bool, true, false, Option, Some, None}
use Rattle.layer_model.specs.declared.op.Op.{Op}
use Rattle.layer_model.specs.declared.op.Op.TheVariants as op
use Rattle.layer_model.specs.declared.rule.RuleKind.{RuleKind}
use Rattle.layer_model.specs.declared.rule.RuleKind.TheVariants as kind
use Rattle.layer_model.specs.declared.rule.Polygons.{Polygons}
use Rattle.layer_model.specs.declared.rule.Polygons.TheVariants as polygons
use Rattle.layer_model.specs.declared.rule.Gives.{Gives}
use Rattle.layer_model.specs.declared.rule.Gives.TheVariants as gives
use Rattle.operation_types.specs.declared.layer_type.LayerType.{LayerType}
use Rattle.operation_types.specs.declared.layer_type.LayerType.TheVariants as layer
use Rattle.operation_types.specs.declared.input_type.InputType.{InputType}
use Rattle.operation_types.specs.declared.input_type.InputType.TheVariants as input
use Rattle.operation_types.specs.declared.signature.Signature.{Signature}

-- ---- What a place of an input takes

-- whether a place takes a layer of this type, or none
abbrev pub takes : InputType → Option LayerType → Bool
takes input.Nothing None = true
takes input.Nothing (Some t) = false
takes input.Polygons None = false
takes input.Polygons (Some layer.Polygon) = true
takes input.Polygons (Some layer.Edge) = false
takes input.Polygons (Some layer.Errors) = false
takes input.Shapes None = false
takes input.Shapes (Some layer.Polygon) = true
takes input.Shapes (Some layer.Edge) = true
takes input.Shapes (Some layer.Errors) = false
takes input.MaybeShapes None = true
takes input.MaybeShapes (Some layer.Polygon) = true
takes input.MaybeShapes (Some layer.Edge) = true
takes input.MaybeShapes (Some layer.Errors) = false

-- ---- Checks of distances

-- INT and EXT take polygons or edges, with NOTCH or SPACE polygons of one layer alone; so does ENC for its first input
abbrev pub first_of_check : Polygons → InputType
first_of_check polygons.Any = input.Shapes
first_of_check polygons.Same = input.Polygons
first_of_check polygons.Different = input.Polygons

abbrev pub second_of_pair : Polygons → InputType
second_of_pair polygons.Any = input.MaybeShapes
second_of_pair polygons.Same = input.Nothing
second_of_pair polygons.Different = input.Nothing

-- the second input of ENC is a polygon layer
abbrev pub second_of_check : RuleKind → Polygons → InputType
second_of_check kind.Internal p = second_of_pair p
second_of_check kind.External p = second_of_pair p
second_of_check kind.Enclosure p = input.Polygons

-- errors; with REGION polygons; with brackets edges
abbrev pub given_by_check : Gives → LayerType
given_by_check gives.Errors = layer.Errors
given_by_check gives.Region = layer.Polygon
given_by_check gives.First = layer.Edge
given_by_check gives.Second = layer.Edge
given_by_check gives.Both = layer.Edge

-- ---- The table

abbrev pub signature : (first second : InputType) → LayerType → Option Signature
signature first second type = Some (record { first = first; second = second; gives = type })

-- the signature of an operation; WRITE gives no layer
abbrev pub signature_of : Op → Option Signature
signature_of (op.Drawn numbers) = signature input.Nothing input.Nothing layer.Polygon
signature_of op.And = signature input.Polygons input.Polygons layer.Polygon
signature_of op.Or = signature input.Polygons input.Polygons layer.Polygon
signature_of op.Not = signature input.Polygons input.Polygons layer.Polygon
signature_of op.Xor = signature input.Polygons input.Polygons layer.Polygon
signature_of (op.Size by) = signature input.Polygons input.Nothing layer.Polygon
signature_of (op.OverUnder by) = signature input.Polygons input.Nothing layer.Polygon
signature_of (op.UnderOver by) = signature input.Polygons input.Nothing layer.Polygon
signature_of (op.Inside negated) = signature input.Polygons input.Polygons layer.Polygon
signature_of (op.Outside negated) = signature input.Polygons input.Polygons layer.Polygon
signature_of (op.Cut negated) = signature input.Polygons input.Polygons layer.Polygon
signature_of (op.Touch negated) = signature input.Polygons input.Polygons layer.Polygon
signature_of (op.Interact negated) = signature input.Polygons input.Polygons layer.Polygon
signature_of (op.Enclose negated) = signature input.Polygons input.Polygons layer.Polygon
signature_of (op.Area limits) = signature input.Polygons input.Nothing layer.Polygon
signature_of op.Rectangle = signature input.Polygons input.Nothing layer.Polygon
signature_of (op.ExpandInside by) = signature input.Shapes input.Nothing layer.Polygon
signature_of (op.ExpandOutside by) = signature input.Shapes input.Nothing layer.Polygon
signature_of (op.Length limits) = signature input.Shapes input.Nothing layer.Edge
signature_of (op.Angle upright) = signature input.Shapes input.Nothing layer.Edge
signature_of (op.InsideEdge negated) = signature input.Shapes input.Polygons layer.Edge
signature_of (op.OutsideEdge negated) = signature input.Shapes input.Polygons layer.Edge
signature_of (op.CoincidentEdge negated) = signature input.Shapes input.Polygons layer.Edge
signature_of op.OrEdge = signature input.Shapes input.Shapes layer.Edge
signature_of (op.Check rule given) = signature (first_of_check rule.polygons) (second_of_check rule.kind rule.polygons) (given_by_check given)
signature_of op.Write = None

-- what a signature gives, where it takes inputs of these types
abbrev pub given_by : Signature → (first second : Option LayerType) → Option LayerType
given_by line first second = if takes line.first first && takes line.second second then Some line.gives else None

-- the operation takes inputs of these types, and gives a layer of the type
pub record HasType (operation : Op) (first second : Option LayerType) (type : LayerType) : Type 0 where
  pub line : Signature
  pub its_line : signature_of operation ≡ Some line
  pub takes_first : takes line.first first ≡ true
  pub takes_second : takes line.second second ≡ true
  pub given : line.gives ≡ type
