-- The grammar: each alternative of each rule, its parts, and what they spell.
use Rattle.std.specs.Prelude.{Bool, true, false, [], ◌∷◌, Some, None}
use Rattle.deck_tree.specs.declared.value.Value.{roll-Value}
use Rattle.deck_tree.specs.declared.value.Addend.{roll-Addend}
use Rattle.deck_tree.specs.declared.value.AddSign.TheVariants as add_sign
use Rattle.deck_tree.specs.declared.value.Product.{roll-Product}
use Rattle.deck_tree.specs.declared.value.ProductSign.TheVariants as product_sign
use Rattle.deck_tree.specs.declared.value.Factor.{roll-Factor}
use Rattle.deck_tree.specs.declared.value.Power.{roll-Power}
use Rattle.deck_tree.specs.declared.value.Exponent.{roll-Exponent}
use Rattle.deck_tree.specs.declared.value.Atom.TheVariants as atoms
use Rattle.deck_tree.specs.declared.limits.Above.TheVariants as above
use Rattle.deck_tree.specs.declared.limits.Below.TheVariants as below
use Rattle.deck_tree.specs.declared.limits.Limits.TheVariants as bounds
use Rattle.deck_tree.specs.declared.layer.Layer.{roll-Layer}
use Rattle.deck_tree.specs.declared.layer.Operation.{roll-Operation}
use Rattle.deck_tree.specs.declared.layer.Primary.TheVariants as primaries
use Rattle.deck_tree.specs.declared.layer.Term.TheVariants as terms
use Rattle.deck_tree.specs.declared.layer.Prefix.TheVariants as prefixes
use Rattle.deck_tree.specs.declared.layer.Turn.TheVariants as turns
use Rattle.deck_tree.specs.declared.layer.ExpandSide.TheVariants as sides
use Rattle.deck_tree.specs.declared.infix.Infix.TheVariants as infixes
use Rattle.deck_tree.specs.declared.infix.Relation.{Relation}
use Rattle.deck_tree.specs.declared.infix.Relation.TheVariants as relations
use Rattle.deck_tree.specs.declared.infix.EdgeRelation.{EdgeRelation}
use Rattle.deck_tree.specs.declared.infix.EdgeRelation.TheVariants as edge_relations
use Rattle.deck_tree.specs.declared.distance.DistanceKind.{DistanceKind}
use Rattle.deck_tree.specs.declared.distance.DistanceKind.TheVariants.{Internal, External, Enclosure}
use Rattle.deck_tree.specs.declared.distance.Input.TheVariants as inputs
use Rattle.deck_tree.specs.declared.distance.Metric.TheVariants as metrics
use Rattle.deck_tree.specs.declared.distance.Gap.TheVariants as gaps
use Rattle.deck_tree.specs.declared.distance.Options.{Options}
use Rattle.deck_tree.specs.declared.statement.Statement.TheVariants as statements_of
use Rattle.deck_tree.specs.declared.statement.Item.TheVariants as items_of
use Rattle.deck_tree.specs.declared.statement.MapKind.TheVariants as map_kinds
use Rattle.deck_grammar.specs.declared.keyword.Keyword.{Keyword}
use Rattle.deck_grammar.specs.declared.keyword.Keyword.TheVariants as k
use Rattle.deck_grammar.specs.declared.sign.Sign.TheVariants as s
use Rattle.deck_grammar.specs.declared.kind.Kind.TheVariants as kinds
use Rattle.deck_grammar.specs.Lexemes.{at, name_of, file_of, number_of, note_of}
use Rattle.deck_grammar.specs.Rules.{Left, left, Rule, statements, statement, file, names, numbers, ascii, mode, map_kind, items, value, addends, product, factors, power, exponent, atom, layer, operations, infix_operation, primary, term, limits, upper, bound, turn, side, distance, options, token, rule, word, sign, Production, ◌⟹◌}

pub data Alternative : Rule → Type 0 where
  no_statement : Alternative statements
  a_statement : Alternative statements
  layout_system : Alternative statement
  layout_path : Alternative statement
  layout_primary : Alternative statement
  results_database : Alternative statement
  summary_report : Alternative statement
  maximum_results : Alternative statement
  maximum_all : Alternative statement
  select_check : Alternative statement
  unselect_check : Alternative statement
  precision : Alternative statement
  title : Alternative statement
  variable : Alternative statement
  layer_numbers : Alternative statement
  layer_map : Alternative statement
  definition : Alternative statement
  check : Alternative statement
  file_text : Alternative file
  file_name : Alternative file
  no_name : Alternative names
  a_name : Alternative names
  no_number : Alternative numbers
  a_number : Alternative numbers
  no_ascii : Alternative ascii
  an_ascii : Alternative ascii
  no_mode : Alternative mode
  replace : Alternative mode
  append : Alternative mode
  datatype : Alternative map_kind
  texttype : Alternative map_kind
  no_item : Alternative items
  a_note : Alternative items
  a_definition : Alternative items
  an_output : Alternative items
  value_of : Alternative value
  no_addend : Alternative addends
  plus : Alternative addends
  minus : Alternative addends
  product_of : Alternative product
  no_factor : Alternative factors
  times : Alternative factors
  over : Alternative factors
  modulo : Alternative factors
  power_of : Alternative power
  no_exponent : Alternative exponent
  an_exponent : Alternative exponent
  number_atom : Alternative atom
  name_atom : Alternative atom
  bracketed_atom : Alternative atom
  minus_number : Alternative atom
  minus_name : Alternative atom
  minus_bracketed : Alternative atom
  layer_of : Alternative layer
  no_operation : Alternative operations
  an_operation : Alternative operations
  and : Alternative infix_operation
  or : Alternative infix_operation
  not : Alternative infix_operation
  xor : Alternative infix_operation
  or_edge : Alternative infix_operation
  relation : Relation → Alternative infix_operation
  not_relation : Relation → Alternative infix_operation
  edge_relation : EdgeRelation → Alternative infix_operation
  not_edge_relation : EdgeRelation → Alternative infix_operation
  name_primary : Alternative primary
  bracketed_primary : Alternative primary
  copy : Alternative primary
  rectangle : Alternative primary
  area : Alternative primary
  length : Alternative primary
  size : Alternative primary
  angle : Alternative primary
  expand : Alternative primary
  internal : Alternative primary
  external : Alternative primary
  enclosure : Alternative primary
  name_term : Alternative term
  bracketed_term : Alternative term
  below_limit : Alternative limits
  at_most_limit : Alternative limits
  equal_limit : Alternative limits
  unequal_limit : Alternative limits
  above_limit : Alternative limits
  at_least_limit : Alternative limits
  no_upper : Alternative upper
  upper_below : Alternative upper
  upper_at_most : Alternative upper
  bound_below : Alternative bound
  bound_at_most : Alternative bound
  no_turn : Alternative turn
  overunder : Alternative turn
  underover : Alternative turn
  inside : Alternative side
  outside : Alternative side
  one_internal : Alternative (distance Internal)
  one_internal_bracketed : Alternative (distance Internal)
  one_external : Alternative (distance External)
  one_external_bracketed : Alternative (distance External)
  two : {kind : DistanceKind} → Alternative (distance kind)
  two_first_bracketed : {kind : DistanceKind} → Alternative (distance kind)
  two_second_bracketed : {kind : DistanceKind} → Alternative (distance kind)
  no_option : {those : Left} → Alternative (options those)
  abut : {b c d e : Bool} → Alternative (options (left true b c d e))
  singular : {a c d e : Bool} → Alternative (options (left a true c d e))
  opposite : {a b d e : Bool} → Alternative (options (left a b true d e))
  square : {a b d e : Bool} → Alternative (options (left a b true d e))
  notch : {a b c e : Bool} → Alternative (options (left a b c true e))
  space : {a b c e : Bool} → Alternative (options (left a b c true e))
  region : {a b c d : Bool} → Alternative (options (left a b c d true))

abbrev pub relation_word : Relation → Keyword
relation_word relations.Inside = k.Inside
relation_word relations.Outside = k.Outside
relation_word relations.Interact = k.Interact
relation_word relations.Touch = k.Touch
relation_word relations.Cut = k.Cut
relation_word relations.Enclose = k.Enclose

abbrev pub edge_word : EdgeRelation → Keyword
edge_word edge_relations.Inside = k.Inside
edge_word edge_relations.Outside = k.Outside
edge_word edge_relations.Coincident = k.Coincident

abbrev pub no_options : Options
no_options = record { abut = None; singular = false; metric = None; gap = None; region = false }

abbrev pub production : {r : Rule} → Alternative r → Production r
-- a deck
production no_statement = [] ⟹ []
production a_statement = rule statement ∷ rule statements ∷ [] ⟹ λ first more. first ∷ more
-- statements
production layout_system = word k.Layout ∷ word k.System ∷ word k.Gdsii ∷ []
    ⟹ λ layout system gdsii. statements_of.LayoutSystem (at layout)
production layout_path = word k.Layout ∷ word k.Path ∷ rule file ∷ []
    ⟹ λ layout path name. statements_of.LayoutPath (at layout) name
production layout_primary = word k.Layout ∷ word k.Primary ∷ rule file ∷ []
    ⟹ λ layout primary name. statements_of.LayoutPrimary (at layout) name
production results_database = word k.Drc ∷ word k.Results ∷ word k.Database ∷ rule file ∷ rule ascii ∷ []
    ⟹ λ drc results database name ascii. statements_of.ResultsDatabase (at drc) name
production summary_report = word k.Drc ∷ word k.Summary ∷ word k.Report ∷ rule file ∷ rule mode ∷ []
    ⟹ λ drc summary report name mode. statements_of.SummaryReport (at drc) name
production maximum_results = word k.Drc ∷ word k.Maximum ∷ word k.Results ∷ rule value ∷ []
    ⟹ λ drc maximum results v. statements_of.MaximumResults (at drc) (Some v)
production maximum_all = word k.Drc ∷ word k.Maximum ∷ word k.Results ∷ word k.All ∷ []
    ⟹ λ drc maximum results all. statements_of.MaximumResults (at drc) None
production select_check = word k.Drc ∷ word k.Select ∷ word k.Check ∷ token kinds.Name ∷ rule names ∷ []
    ⟹ λ drc select check first more. statements_of.SelectCheck (at drc) (name_of first ∷ more)
production unselect_check = word k.Drc ∷ word k.Unselect ∷ word k.Check ∷ token kinds.Name ∷ rule names ∷ []
    ⟹ λ drc unselect check first more. statements_of.UnselectCheck (at drc) (name_of first ∷ more)
production precision = word k.Precision ∷ rule value ∷ [] ⟹ λ precision v. statements_of.Precision (at precision) v
production title = word k.Title ∷ rule file ∷ [] ⟹ λ title name. statements_of.Title (at title) name
production variable = word k.Variable ∷ token kinds.Name ∷ rule value ∷ []
    ⟹ λ variable name v. statements_of.Variable (at variable) (name_of name) v
production layer_numbers = word k.Layer ∷ token kinds.Name ∷ token kinds.Number ∷ rule numbers ∷ []
    ⟹ λ layer name first more. statements_of.Layer (at layer) (name_of name) (number_of first ∷ more)
production layer_map = word k.Layer ∷ word k.Map ∷ token kinds.Number ∷ rule map_kind ∷ token kinds.Number ∷ token kinds.Number ∷ []
    ⟹ λ layer map from kind number to. statements_of.LayerMap (at layer) (
    record { layer = number_of from; kind = kind; kind_number = number_of number; target = number_of to })
production definition = token kinds.Name ∷ sign s.Equals ∷ rule layer ∷ []
    ⟹ λ name equals l. statements_of.Definition (name_of name) l
production check = token kinds.Name ∷ sign s.LeftBrace ∷ rule items ∷ sign s.RightBrace ∷ []
    ⟹ λ name bracket all close. statements_of.Check (name_of name) all
-- parts of statements
production file_text = token kinds.Text ∷ [] ⟹ file_of
production file_name = token kinds.Name ∷ [] ⟹ name_of
production no_name = [] ⟹ []
production a_name = token kinds.Name ∷ rule names ∷ [] ⟹ λ first more. name_of first ∷ more
production no_number = [] ⟹ []
production a_number = token kinds.Number ∷ rule numbers ∷ [] ⟹ λ first more. number_of first ∷ more
production no_ascii = [] ⟹ tt
production an_ascii = word k.Ascii ∷ [] ⟹ λ ascii. tt
production no_mode = [] ⟹ tt
production replace = word k.Replace ∷ [] ⟹ λ replace. tt
production append = word k.Append ∷ [] ⟹ λ append. tt
production datatype = word k.DataType ∷ [] ⟹ λ datatype. map_kinds.DataType
production texttype = word k.TextType ∷ [] ⟹ λ texttype. map_kinds.TextType
-- what a check holds
production no_item = [] ⟹ []
production a_note = token kinds.Note ∷ rule items ∷ [] ⟹ λ note more. items_of.Note (note_of note) ∷ more
production a_definition = token kinds.Name ∷ sign s.Equals ∷ rule layer ∷ rule items ∷ []
    ⟹ λ name equals l more. items_of.Definition (name_of name) l ∷ more
production an_output = rule layer ∷ rule items ∷ [] ⟹ λ l more. items_of.Output l ∷ more
-- values
production value_of = rule product ∷ rule addends ∷ []
    ⟹ λ first more. roll-Value (record { first = first; more = more })
production no_addend = [] ⟹ []
production plus = sign s.Plus ∷ rule product ∷ rule addends ∷ []
    ⟹ λ plus p more. roll-Addend (record { at = at plus; sign = add_sign.Plus; product = p }) ∷ more
production minus = sign s.Minus ∷ rule product ∷ rule addends ∷ []
    ⟹ λ minus p more. roll-Addend (record { at = at minus; sign = add_sign.Minus; product = p }) ∷ more
production product_of = rule power ∷ rule factors ∷ []
    ⟹ λ first more. roll-Product (record { first = first; more = more })
production no_factor = [] ⟹ []
production times = sign s.Times ∷ rule power ∷ rule factors ∷ []
    ⟹ λ times p more. roll-Factor (record { at = at times; sign = product_sign.Times; power = p }) ∷ more
production over = sign s.Over ∷ rule power ∷ rule factors ∷ []
    ⟹ λ over p more. roll-Factor (record { at = at over; sign = product_sign.Over; power = p }) ∷ more
production modulo = sign s.Modulo ∷ rule power ∷ rule factors ∷ []
    ⟹ λ modulo p more. roll-Factor (record { at = at modulo; sign = product_sign.Modulo; power = p }) ∷ more
production power_of = rule atom ∷ rule exponent ∷ [] ⟹ λ base e. roll-Power (record { base = base; exponent = e })
production no_exponent = [] ⟹ None
production an_exponent = sign s.Power ∷ rule atom ∷ []
    ⟹ λ caret a. Some (roll-Exponent (record { at = at caret; atom = a }))
production number_atom = token kinds.Number ∷ [] ⟹ λ number. atoms.Number None (number_of number)
production name_atom = token kinds.Name ∷ [] ⟹ λ name. atoms.Name None (name_of name)
production bracketed_atom = sign s.LeftRound ∷ rule value ∷ sign s.RightRound ∷ []
    ⟹ λ bracket v close. atoms.Bracketed None (at bracket) v
production minus_number = sign s.Minus ∷ token kinds.Number ∷ []
    ⟹ λ minus number. atoms.Number (Some (at minus)) (number_of number)
production minus_name = sign s.Minus ∷ token kinds.Name ∷ [] ⟹ λ minus name. atoms.Name (Some (at minus)) (name_of name)
production minus_bracketed = sign s.Minus ∷ sign s.LeftRound ∷ rule value ∷ sign s.RightRound ∷ []
    ⟹ λ minus bracket v close. atoms.Bracketed (Some (at minus)) (at bracket) v
-- layers
production layer_of = rule primary ∷ rule operations ∷ []
    ⟹ λ first more. roll-Layer (record { first = first; more = more })
production no_operation = [] ⟹ []
production an_operation = rule infix_operation ∷ rule primary ∷ rule operations ∷ []
    ⟹ λ placed right more. roll-Operation (record { at = placed.at; operator = placed.operator; right = right }) ∷ more
production and = word k.And ∷ [] ⟹ λ first. record { at = at first; operator = infixes.And }
production or = word k.Or ∷ [] ⟹ λ first. record { at = at first; operator = infixes.Or }
production not = word k.Not ∷ [] ⟹ λ first. record { at = at first; operator = infixes.Not }
production xor = word k.Xor ∷ [] ⟹ λ first. record { at = at first; operator = infixes.Xor }
production or_edge = word k.Or ∷ word k.Edge ∷ [] ⟹ λ first edge. record { at = at first; operator = infixes.OrEdge }
production (relation r) = word (relation_word r) ∷ []
    ⟹ λ first. record { at = at first; operator = infixes.Relation false r }
production (not_relation r) = word k.Not ∷ word (relation_word r) ∷ []
    ⟹ λ first second. record { at = at first; operator = infixes.Relation true r }
production (edge_relation r) = word (edge_word r) ∷ word k.Edge ∷ []
    ⟹ λ first edge. record { at = at first; operator = infixes.EdgeRelation false r }
production (not_edge_relation r) = word k.Not ∷ word (edge_word r) ∷ word k.Edge ∷ []
    ⟹ λ first second edge. record { at = at first; operator = infixes.EdgeRelation true r }
production name_primary = token kinds.Name ∷ [] ⟹ λ name. primaries.Term (terms.Name (name_of name))
production bracketed_primary = sign s.LeftRound ∷ rule layer ∷ sign s.RightRound ∷ []
    ⟹ λ bracket l close. primaries.Term (terms.Bracketed (at bracket) l)
production copy = word k.Copy ∷ rule term ∷ [] ⟹ λ first t. primaries.Prefix (at first) (prefixes.Copy t)
production rectangle = word k.Rectangle ∷ rule term ∷ [] ⟹ λ first t. primaries.Prefix (at first) (prefixes.Rectangle t)
production area = word k.Area ∷ rule term ∷ rule limits ∷ []
    ⟹ λ first t those. primaries.Prefix (at first) (prefixes.Area t those)
production length = word k.Length ∷ rule term ∷ rule limits ∷ []
    ⟹ λ first t those. primaries.Prefix (at first) (prefixes.Length t those)
production size = word k.Size ∷ rule term ∷ word k.By ∷ rule value ∷ rule turn ∷ []
    ⟹ λ first t by v w. primaries.Prefix (at first) (prefixes.Size t v w)
production angle = word k.Angle ∷ rule term ∷ sign s.EqualTo ∷ rule value ∷ []
    ⟹ λ first t equals v. primaries.Prefix (at first) (prefixes.Angle t v)
production expand = word k.Expand ∷ word k.Edge ∷ rule term ∷ rule side ∷ word k.By ∷ rule value ∷ []
    ⟹ λ first edge t to by v. primaries.Prefix (at first) (prefixes.Expand t to v)
production internal = word k.Int ∷ rule (distance Internal) ∷ [] ⟹ λ first d. primaries.Distance (at first) d
production external = word k.Ext ∷ rule (distance External) ∷ [] ⟹ λ first d. primaries.Distance (at first) d
production enclosure = word k.Enc ∷ rule (distance Enclosure) ∷ [] ⟹ λ first d. primaries.Distance (at first) d
production name_term = token kinds.Name ∷ [] ⟹ λ name. terms.Name (name_of name)
production bracketed_term = sign s.LeftRound ∷ rule layer ∷ sign s.RightRound ∷ []
    ⟹ λ bracket l close. terms.Bracketed (at bracket) l
-- limits and bounds
production below_limit = sign s.Less ∷ rule value ∷ []
    ⟹ λ less v. bounds.Below (record { sign = below.Less; value = v })
production at_most_limit = sign s.LessOrEqual ∷ rule value ∷ []
    ⟹ λ less v. bounds.Below (record { sign = below.LessOrEqual; value = v })
production equal_limit = sign s.EqualTo ∷ rule value ∷ [] ⟹ λ equal v. bounds.Equal v
production unequal_limit = sign s.NotEqual ∷ rule value ∷ [] ⟹ λ unequal v. bounds.NotEqual v
production above_limit = sign s.Greater ∷ rule value ∷ rule upper ∷ [] ⟹ λ greater v u. bounds.Above above.Greater v u
production at_least_limit = sign s.GreaterOrEqual ∷ rule value ∷ rule upper ∷ []
    ⟹ λ greater v u. bounds.Above above.GreaterOrEqual v u
production no_upper = [] ⟹ None
production upper_below = sign s.Less ∷ rule value ∷ [] ⟹ λ less v. Some (record { sign = below.Less; value = v })
production upper_at_most = sign s.LessOrEqual ∷ rule value ∷ []
    ⟹ λ less v. Some (record { sign = below.LessOrEqual; value = v })
production bound_below = sign s.Less ∷ rule value ∷ [] ⟹ λ less v. record { sign = below.Less; value = v }
production bound_at_most = sign s.LessOrEqual ∷ rule value ∷ []
    ⟹ λ less v. record { sign = below.LessOrEqual; value = v }
production no_turn = [] ⟹ None
production overunder = word k.OverUnder ∷ [] ⟹ λ overunder. Some turns.OverUnder
production underover = word k.UnderOver ∷ [] ⟹ λ underover. Some turns.UnderOver
production inside = word k.Inside ∷ [] ⟹ λ inside. sides.Inside
production outside = word k.Outside ∷ [] ⟹ λ outside. sides.Outside
-- checks of distances: NOTCH and SPACE stand only in EXT with one input, and REGION where no input is bracketed
production one_internal = token kinds.Name ∷ rule bound ∷ rule (options (left true true true false true)) ∷ []
    ⟹ λ a b o. record { kind = Internal; first = inputs.Plain (name_of a); second = None; bound = b; options = o }
production one_internal_bracketed = sign s.LeftSquare ∷ token kinds.Name ∷ sign s.RightSquare
    ∷ rule bound ∷ rule (options (left true true true false false)) ∷ []
    ⟹ λ bracket a close b o.
    record { kind = Internal; first = inputs.Bracketed (at bracket) (name_of a); second = None; bound = b; options = o }
production one_external = token kinds.Name ∷ rule bound ∷ rule (options (left true true true true true)) ∷ []
    ⟹ λ a b o. record { kind = External; first = inputs.Plain (name_of a); second = None; bound = b; options = o }
production one_external_bracketed = sign s.LeftSquare ∷ token kinds.Name ∷ sign s.RightSquare
    ∷ rule bound ∷ rule (options (left true true true true false)) ∷ []
    ⟹ λ bracket a close b o.
    record { kind = External; first = inputs.Bracketed (at bracket) (name_of a); second = None; bound = b; options = o }
production (two {kind}) = token kinds.Name ∷ token kinds.Name
    ∷ rule bound ∷ rule (options (left true true true false true)) ∷ []
    ⟹ λ a c b o.
    record { kind = kind; first = inputs.Plain (name_of a); second = Some (inputs.Plain (name_of c)); bound = b; options = o }
production (two_first_bracketed {kind}) = sign s.LeftSquare ∷ token kinds.Name ∷ sign s.RightSquare ∷ token kinds.Name
    ∷ rule bound ∷ rule (options (left true true true false false)) ∷ []
    ⟹ λ bracket a close c b o.
    record { kind = kind; first = inputs.Bracketed (at bracket) (name_of a); second = Some (inputs.Plain (name_of c)); bound = b; options = o }
production (two_second_bracketed {kind}) = token kinds.Name ∷ sign s.LeftSquare ∷ token kinds.Name ∷ sign s.RightSquare
    ∷ rule bound ∷ rule (options (left true true true false false)) ∷ []
    ⟹ λ a bracket c close b o.
    record { kind = kind; first = inputs.Plain (name_of a); second = Some (inputs.Bracketed (at bracket) (name_of c)); bound = b; options = o }
-- options: each at most once, OPPOSITE or SQUARE, NOTCH or SPACE
production no_option = [] ⟹ no_options
production (abut {b} {c} {d} {e}) = word k.Abut ∷ sign s.Less ∷ rule value ∷ rule (options (left false b c d e)) ∷ []
    ⟹ λ abut less v o. record o { abut = Some v }
production (singular {a} {c} {d} {e}) = word k.Singular ∷ rule (options (left a false c d e)) ∷ []
    ⟹ λ singular o. record o { singular = true }
production (opposite {a} {b} {d} {e}) = word k.Opposite ∷ rule (options (left a b false d e)) ∷ []
    ⟹ λ opposite o. record o { metric = Some metrics.Opposite }
production (square {a} {b} {d} {e}) = word k.Square ∷ rule (options (left a b false d e)) ∷ []
    ⟹ λ square o. record o { metric = Some metrics.Square }
production (notch {a} {b} {c} {e}) = word k.Notch ∷ rule (options (left a b c false e)) ∷ []
    ⟹ λ notch o. record o { gap = Some gaps.Notch }
production (space {a} {b} {c} {e}) = word k.Space ∷ rule (options (left a b c false e)) ∷ []
    ⟹ λ space o. record o { gap = Some gaps.Space }
production (region {a} {b} {c} {d}) = word k.Region ∷ rule (options (left a b c d false)) ∷ []
    ⟹ λ region o. record o { region = true }
