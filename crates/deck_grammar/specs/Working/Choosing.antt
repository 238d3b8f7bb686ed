-- Which alternative of a rule the next tokens choose.
use Rattle.std.specs.Prelude.{ℕ, ◌==◌, nat_lt, Bool, true, false, if◌then◌else◌, List, [], ◌∷◌}
use Rattle.deck_tree.specs.declared.distance.DistanceKind.TheVariants.{Internal, External, Enclosure}
use Rattle.deck_tree.specs.declared.infix.Relation.TheVariants as relations
use Rattle.deck_tree.specs.declared.infix.EdgeRelation.TheVariants as edge_relations
use Rattle.deck_grammar.specs.declared.keyword.Keyword.{Keyword}
use Rattle.deck_grammar.specs.declared.keyword.Keyword.TheVariants as k
use Rattle.deck_grammar.specs.declared.sign.Sign.{Sign}
use Rattle.deck_grammar.specs.declared.sign.Sign.TheVariants as s
use Rattle.deck_grammar.specs.declared.kind.Kind.{Kind}
use Rattle.deck_grammar.specs.declared.kind.Kind.TheVariants as kinds
use Rattle.deck_grammar.specs.Lexemes.{Lexeme, lexeme}
use Rattle.deck_grammar.specs.Rules as r
use Rattle.deck_grammar.specs.Rules.{Rule, Left}
use Rattle.deck_grammar.specs.Alternatives as a
use Rattle.deck_grammar.specs.Alternatives.{Alternative}

-- Ranks: what goes on with a value has a low one, then what goes on with bounds, with layers, and with statements.
abbrev pub rank_of_sign : Sign → ℕ
rank_of_sign s.Power = 1
rank_of_sign s.Times = 2
rank_of_sign s.Over = 2
rank_of_sign s.Modulo = 2
rank_of_sign s.Plus = 3
rank_of_sign s.Minus = 3
rank_of_sign s.Less = 4
rank_of_sign s.LessOrEqual = 4
rank_of_sign s.Equals = 8
rank_of_sign s.LeftBrace = 8
rank_of_sign s.RightBrace = 15
rank_of_sign _ = 14

abbrev pub rank_of_word : Keyword → ℕ
rank_of_word k.All = 0
rank_of_word k.Edge = 0
rank_of_word k.OverUnder = 5
rank_of_word k.UnderOver = 5
rank_of_word k.Abut = 6
rank_of_word k.Singular = 6
rank_of_word k.Opposite = 6
rank_of_word k.Square = 6
rank_of_word k.Notch = 6
rank_of_word k.Space = 6
rank_of_word k.Region = 6
rank_of_word k.And = 7
rank_of_word k.Or = 7
rank_of_word k.Not = 7
rank_of_word k.Xor = 7
rank_of_word k.Inside = 7
rank_of_word k.Outside = 7
rank_of_word k.Interact = 7
rank_of_word k.Touch = 7
rank_of_word k.Cut = 7
rank_of_word k.Enclose = 7
rank_of_word k.Coincident = 7
rank_of_word k.Ascii = 11
rank_of_word k.Replace = 12
rank_of_word k.Append = 12
rank_of_word _ = 14

-- a name that is defined has another rank than one that is used
abbrev pub rank_of_name : Bool → ℕ
rank_of_name true = 13
rank_of_name false = 9

abbrev pub rank : List Lexeme → ℕ
rank [] = 17
rank (lexeme (kinds.Keyword w) at bytes ∷ more) = rank_of_word w
rank (lexeme kinds.SetAside at bytes ∷ more) = 14
rank (lexeme kinds.Name at bytes ∷ more) = rank_of_name (rank more == 8)
rank (lexeme kinds.Number at bytes ∷ more) = 10
rank (lexeme kinds.Text at bytes ∷ more) = 14
rank (lexeme kinds.Note at bytes ∷ more) = 16
rank (lexeme (kinds.Sign s) at bytes ∷ more) = rank_of_sign s

-- the kind of the first token, and Text where there is none
abbrev pub next : List Lexeme → Kind
next [] = kinds.Text
next (lexeme k at bytes ∷ more) = k

abbrev pub after : List Lexeme → List Lexeme
after [] = []
after (t ∷ more) = more

abbrev pub choose_layout : Kind → Alternative r.statement
choose_layout (kinds.Keyword k.Path) = a.layout_path
choose_layout (kinds.Keyword k.Primary) = a.layout_primary
choose_layout _ = a.layout_system

abbrev pub choose_maximum : ℕ → Alternative r.statement
choose_maximum ahead = if ahead == 0 then a.maximum_all else a.maximum_results

abbrev pub choose_drc : Kind → List Lexeme → Alternative r.statement
choose_drc (kinds.Keyword k.Results) more = a.results_database
choose_drc (kinds.Keyword k.Summary) more = a.summary_report
choose_drc (kinds.Keyword k.Maximum) more = choose_maximum (rank (after more))
choose_drc (kinds.Keyword k.Select) more = a.select_check
choose_drc _ more = a.unselect_check

abbrev pub choose_layer : Kind → Alternative r.statement
choose_layer (kinds.Keyword k.Map) = a.layer_map
choose_layer _ = a.layer_numbers

abbrev pub choose_named : Kind → Alternative r.statement
choose_named (kinds.Sign s.Equals) = a.definition
choose_named _ = a.check

abbrev pub choose_statement : Kind → List Lexeme → Alternative r.statement
choose_statement (kinds.Keyword k.Layout) more = choose_layout (next more)
choose_statement (kinds.Keyword k.Drc) more = choose_drc (next more) (after more)
choose_statement (kinds.Keyword k.Precision) more = a.precision
choose_statement (kinds.Keyword k.Title) more = a.title
choose_statement (kinds.Keyword k.Variable) more = a.variable
choose_statement (kinds.Keyword k.Layer) more = choose_layer (next more)
choose_statement _ more = choose_named (next more)

abbrev pub choose_file : Kind → Alternative r.file
choose_file kinds.Text = a.file_text
choose_file _ = a.file_name

abbrev pub choose_mode : Kind → Alternative r.mode
choose_mode (kinds.Keyword k.Replace) = a.replace
choose_mode _ = a.append

abbrev pub choose_map_kind : Kind → Alternative r.map_kind
choose_map_kind (kinds.Keyword k.DataType) = a.datatype
choose_map_kind _ = a.texttype

abbrev pub choose_item : ℕ → Alternative r.items
choose_item ahead = if ahead == 15 then a.no_item else (if ahead == 16 then a.a_note else (if ahead == 13 then a.a_definition else a.an_output))

abbrev pub choose_addend : Kind → Alternative r.addends
choose_addend (kinds.Sign s.Plus) = a.plus
choose_addend _ = a.minus

abbrev pub choose_factor : Kind → Alternative r.factors
choose_factor (kinds.Sign s.Times) = a.times
choose_factor (kinds.Sign s.Over) = a.over
choose_factor _ = a.modulo

abbrev pub choose_minus : Kind → Alternative r.atom
choose_minus kinds.Number = a.minus_number
choose_minus kinds.Name = a.minus_name
choose_minus _ = a.minus_bracketed

abbrev pub choose_atom : Kind → List Lexeme → Alternative r.atom
choose_atom kinds.Number more = a.number_atom
choose_atom kinds.Name more = a.name_atom
choose_atom (kinds.Sign s.Minus) more = choose_minus (next more)
choose_atom _ more = a.bracketed_atom

-- behind NOT, and behind the relation that follows it, by the rank of what comes next
abbrev pub choose_edge : Bool → Alternative r.infix_operation → Alternative r.infix_operation → Alternative r.infix_operation
choose_edge is_edge plain edge = if is_edge then edge else plain

abbrev pub choose_not : Kind → Bool → Alternative r.infix_operation
choose_not (kinds.Keyword k.Inside) is_edge = choose_edge is_edge (a.not_relation relations.Inside) (a.not_edge_relation edge_relations.Inside)
choose_not (kinds.Keyword k.Outside) is_edge = choose_edge is_edge (a.not_relation relations.Outside) (a.not_edge_relation edge_relations.Outside)
choose_not (kinds.Keyword k.Interact) is_edge = a.not_relation relations.Interact
choose_not (kinds.Keyword k.Touch) is_edge = a.not_relation relations.Touch
choose_not (kinds.Keyword k.Cut) is_edge = a.not_relation relations.Cut
choose_not (kinds.Keyword k.Enclose) is_edge = a.not_relation relations.Enclose
choose_not _ is_edge = a.not_edge_relation edge_relations.Coincident

abbrev pub choose_infix : Kind → List Lexeme → Alternative r.infix_operation
choose_infix (kinds.Keyword k.And) more = a.and
choose_infix (kinds.Keyword k.Or) more = choose_edge (rank more == 0) a.or a.or_edge
choose_infix (kinds.Keyword k.Not) more = if nat_lt 8 (rank more) then a.not else choose_not (next more) (rank (after more) == 0)
choose_infix (kinds.Keyword k.Xor) more = a.xor
choose_infix (kinds.Keyword k.Inside) more = choose_edge (rank more == 0) (a.relation relations.Inside) (a.edge_relation edge_relations.Inside)
choose_infix (kinds.Keyword k.Outside) more = choose_edge (rank more == 0) (a.relation relations.Outside) (a.edge_relation edge_relations.Outside)
choose_infix (kinds.Keyword k.Interact) more = a.relation relations.Interact
choose_infix (kinds.Keyword k.Touch) more = a.relation relations.Touch
choose_infix (kinds.Keyword k.Cut) more = a.relation relations.Cut
choose_infix (kinds.Keyword k.Enclose) more = a.relation relations.Enclose
choose_infix _ more = a.edge_relation edge_relations.Coincident

abbrev pub choose_primary : Kind → Alternative r.primary
choose_primary (kinds.Keyword k.Copy) = a.copy
choose_primary (kinds.Keyword k.Rectangle) = a.rectangle
choose_primary (kinds.Keyword k.Area) = a.area
choose_primary (kinds.Keyword k.Length) = a.length
choose_primary (kinds.Keyword k.Size) = a.size
choose_primary (kinds.Keyword k.Angle) = a.angle
choose_primary (kinds.Keyword k.Expand) = a.expand
choose_primary (kinds.Keyword k.Int) = a.internal
choose_primary (kinds.Keyword k.Ext) = a.external
choose_primary (kinds.Keyword k.Enc) = a.enclosure
choose_primary kinds.Name = a.name_primary
choose_primary _ = a.bracketed_primary

abbrev pub choose_term : Kind → Alternative r.term
choose_term kinds.Name = a.name_term
choose_term _ = a.bracketed_term

abbrev pub choose_limits : Kind → Alternative r.limits
choose_limits (kinds.Sign s.Less) = a.below_limit
choose_limits (kinds.Sign s.LessOrEqual) = a.at_most_limit
choose_limits (kinds.Sign s.EqualTo) = a.equal_limit
choose_limits (kinds.Sign s.NotEqual) = a.unequal_limit
choose_limits (kinds.Sign s.Greater) = a.above_limit
choose_limits _ = a.at_least_limit

abbrev pub choose_upper : Kind → Alternative r.upper
choose_upper (kinds.Sign s.Less) = a.upper_below
choose_upper _ = a.upper_at_most

abbrev pub choose_bound : Kind → Alternative r.bound
choose_bound (kinds.Sign s.Less) = a.bound_below
choose_bound _ = a.bound_at_most

abbrev pub choose_turn : Kind → Alternative r.turn
choose_turn (kinds.Keyword k.OverUnder) = a.overunder
choose_turn _ = a.underover

abbrev pub choose_side : Kind → Alternative r.side
choose_side (kinds.Keyword k.Inside) = a.inside
choose_side _ = a.outside

-- by the first token, the one behind it, and for a name in brackets the two behind that
abbrev pub choose_internal : Kind → Kind → Kind → Alternative (r.distance Internal)
choose_internal kinds.Name kinds.Name fourth = a.two
choose_internal kinds.Name (kinds.Sign s.LeftSquare) fourth = a.two_second_bracketed
choose_internal kinds.Name _ fourth = a.one_internal
choose_internal _ second kinds.Name = a.two_first_bracketed
choose_internal _ second _ = a.one_internal_bracketed

abbrev pub choose_external : Kind → Kind → Kind → Alternative (r.distance External)
choose_external kinds.Name kinds.Name fourth = a.two
choose_external kinds.Name (kinds.Sign s.LeftSquare) fourth = a.two_second_bracketed
choose_external kinds.Name _ fourth = a.one_external
choose_external _ second kinds.Name = a.two_first_bracketed
choose_external _ second _ = a.one_external_bracketed

abbrev pub choose_enclosure : Kind → Kind → Kind → Alternative (r.distance Enclosure)
choose_enclosure kinds.Name (kinds.Sign s.LeftSquare) fourth = a.two_second_bracketed
choose_enclosure kinds.Name _ fourth = a.two
choose_enclosure _ second fourth = a.two_first_bracketed

abbrev pub choose_abut : (v w x y z : Bool) → Alternative (r.options (r.left v w x y z))
choose_abut true w x y z = a.abut
choose_abut false w x y z = a.no_option

abbrev pub choose_singular : (v w x y z : Bool) → Alternative (r.options (r.left v w x y z))
choose_singular v true x y z = a.singular
choose_singular v false x y z = a.no_option

abbrev pub choose_opposite : (v w x y z : Bool) → Alternative (r.options (r.left v w x y z))
choose_opposite v w true y z = a.opposite
choose_opposite v w false y z = a.no_option

abbrev pub choose_square : (v w x y z : Bool) → Alternative (r.options (r.left v w x y z))
choose_square v w true y z = a.square
choose_square v w false y z = a.no_option

abbrev pub choose_notch : (v w x y z : Bool) → Alternative (r.options (r.left v w x y z))
choose_notch v w x true z = a.notch
choose_notch v w x false z = a.no_option

abbrev pub choose_space : (v w x y z : Bool) → Alternative (r.options (r.left v w x y z))
choose_space v w x true z = a.space
choose_space v w x false z = a.no_option

abbrev pub choose_region : (v w x y z : Bool) → Alternative (r.options (r.left v w x y z))
choose_region v w x y true = a.region
choose_region v w x y false = a.no_option

abbrev pub choose_option : (those : Left) → Kind → Alternative (r.options those)
choose_option (r.left v w x y z) (kinds.Keyword k.Abut) = choose_abut v w x y z
choose_option (r.left v w x y z) (kinds.Keyword k.Singular) = choose_singular v w x y z
choose_option (r.left v w x y z) (kinds.Keyword k.Opposite) = choose_opposite v w x y z
choose_option (r.left v w x y z) (kinds.Keyword k.Square) = choose_square v w x y z
choose_option (r.left v w x y z) (kinds.Keyword k.Notch) = choose_notch v w x y z
choose_option (r.left v w x y z) (kinds.Keyword k.Space) = choose_space v w x y z
choose_option (r.left v w x y z) (kinds.Keyword k.Region) = choose_region v w x y z
choose_option (r.left v w x y z) _ = a.no_option

abbrev pub choice : (q : Rule) → List Lexeme → Alternative q
choice r.statements tokens = if rank tokens == 17 then a.no_statement else a.a_statement
choice r.statement tokens = choose_statement (next tokens) (after tokens)
choice r.file tokens = choose_file (next tokens)
choice r.names tokens = if rank tokens == 9 then a.a_name else a.no_name
choice r.numbers tokens = if rank tokens == 10 then a.a_number else a.no_number
choice r.ascii tokens = if rank tokens == 11 then a.an_ascii else a.no_ascii
choice r.mode tokens = if rank tokens == 12 then choose_mode (next tokens) else a.no_mode
choice r.map_kind tokens = choose_map_kind (next tokens)
choice r.items tokens = choose_item (rank tokens)
choice r.value tokens = a.value_of
choice r.addends tokens = if rank tokens == 3 then choose_addend (next tokens) else a.no_addend
choice r.product tokens = a.product_of
choice r.factors tokens = if rank tokens == 2 then choose_factor (next tokens) else a.no_factor
choice r.power tokens = a.power_of
choice r.exponent tokens = if rank tokens == 1 then a.an_exponent else a.no_exponent
choice r.atom tokens = choose_atom (next tokens) (after tokens)
choice r.layer tokens = a.layer_of
choice r.operations tokens = if rank tokens == 7 then a.an_operation else a.no_operation
choice r.infix_operation tokens = choose_infix (next tokens) (after tokens)
choice r.primary tokens = choose_primary (next tokens)
choice r.term tokens = choose_term (next tokens)
choice r.limits tokens = choose_limits (next tokens)
choice r.upper tokens = if rank tokens == 4 then choose_upper (next tokens) else a.no_upper
choice r.bound tokens = choose_bound (next tokens)
choice r.turn tokens = if rank tokens == 5 then choose_turn (next tokens) else a.no_turn
choice r.side tokens = choose_side (next tokens)
choice (r.distance Internal) tokens = choose_internal (next tokens) (next (after tokens)) (next (after (after (after tokens))))
choice (r.distance External) tokens = choose_external (next tokens) (next (after tokens)) (next (after (after (after tokens))))
choice (r.distance Enclosure) tokens = choose_enclosure (next tokens) (next (after tokens)) (next (after (after (after tokens))))
choice (r.options those) tokens = if rank tokens == 6 then choose_option those (next tokens) else a.no_option
