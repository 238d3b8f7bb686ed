-- Layers whose parts are equal but for places are equal but for places.
use Rattle.std.proofs.Common.{◌≡◌, ℕ, List, map, Option, sym, ap, ◌∙◌}
use Rattle.deck_tree.specs.declared.name_at.NameAt.{NameAt}
use Rattle.deck_tree.specs.declared.value.Value.{Value}
use Rattle.deck_tree.specs.declared.limits.Limits.{Limits}
use Rattle.deck_tree.specs.declared.infix.Infix.{Infix}
use Rattle.deck_tree.specs.declared.distance.Distance.{Distance}
use Rattle.deck_tree.specs.declared.layer.Turn.{Turn}
use Rattle.deck_tree.specs.declared.layer.ExpandSide.{ExpandSide}
use Rattle.deck_tree.specs.declared.layer.Prefix.{Prefix, roll-Prefix}
use Rattle.deck_tree.specs.declared.layer.Prefix.TheVariants as prefixes
use Rattle.deck_tree.specs.declared.layer.Prefix.TheOpen.{Prefix-F, Primary-F, Term-F}
use Rattle.deck_tree.specs.declared.layer.Prefix.TheFolds.{fold-roll-Layer, fold-roll-Operation}
use Rattle.deck_tree.specs.declared.layer.Primary.{Primary, roll-Primary}
use Rattle.deck_tree.specs.declared.layer.Primary.TheVariants as primaries
use Rattle.deck_tree.specs.declared.layer.Term.{Term, roll-Term}
use Rattle.deck_tree.specs.declared.layer.Term.TheVariants as terms
use Rattle.deck_tree.specs.declared.layer.Layer.{Layer, roll-Layer}
use Rattle.deck_tree.specs.declared.layer.Operation.{Operation, roll-Operation}
use Rattle.deck_tree.specs.Plain.{plain_name, plain_value, plain_limits, plain_distance, plain_prefix, plain_primary, plain_term, plain_operation, plain_layer}
use Rattle.deck_round.proofs.PlacesOfLayers.{placeless_prefix, placeless_primary, placeless_term, placeless_operation, prefix_bare, primary_bare, term_bare}

pub prefix_at : (at place : ℕ) (y x : Prefix) → placeless_prefix y ≡ placeless_prefix x → placeless_primary (primaries.Prefix at y) ≡ placeless_primary (roll-Primary (Primary-F.Prefix place x))
prefix_at at place y x same = ap placeless_primary (sym (primaries.rolls-Prefix at y)) ∙ primary_bare (Primary-F.Prefix at y) ∙ ap (primaries.Prefix 0) same ∙ sym (primary_bare (Primary-F.Prefix place x))

pub term_at : (t u : Term) → placeless_term t ≡ placeless_term u → placeless_primary (primaries.Term t) ≡ placeless_primary (roll-Primary (Primary-F.Term u))
term_at t u same = ap placeless_primary (sym (primaries.rolls-Term t)) ∙ primary_bare (Primary-F.Term t) ∙ ap primaries.Term same ∙ sym (primary_bare (Primary-F.Term u))

pub distance_at : (at place : ℕ) (d e : Distance) → plain_distance d ≡ plain_distance e → placeless_primary (primaries.Distance at d) ≡ placeless_primary (roll-Primary (Primary-F.Distance place e))
distance_at at place d e same = ap placeless_primary (sym (primaries.rolls-Distance at d)) ∙ primary_bare (Primary-F.Distance at d) ∙ ap (primaries.Distance 0) same ∙ sym (primary_bare (Primary-F.Distance place e))

pub name_alike : (n name : NameAt) → plain_name n ≡ plain_name name → placeless_term (terms.Name n) ≡ placeless_term (roll-Term (Term-F.Name name))
name_alike n name same = ap placeless_term (sym (terms.rolls-Name n)) ∙ term_bare (Term-F.Name n) ∙ ap terms.Name same ∙ sym (term_bare (Term-F.Name name))

pub bracketed_alike : (at place : ℕ) (l layer : Layer) → plain_layer l ≡ plain_layer layer → placeless_term (terms.Bracketed at l) ≡ placeless_term (roll-Term (Term-F.Bracketed place layer))
bracketed_alike at place l layer same = ap placeless_term (sym (terms.rolls-Bracketed at l)) ∙ term_bare (Term-F.Bracketed at l) ∙ ap (terms.Bracketed 0) same ∙ sym (term_bare (Term-F.Bracketed place layer))

pub copy_alike : (t u : Term) → placeless_term t ≡ placeless_term u → placeless_prefix (prefixes.Copy t) ≡ placeless_prefix (roll-Prefix (Prefix-F.Copy u))
copy_alike t u same = ap placeless_prefix (sym (prefixes.rolls-Copy t)) ∙ prefix_bare (Prefix-F.Copy t) ∙ ap prefixes.Copy same ∙ sym (prefix_bare (Prefix-F.Copy u))

pub rectangle_alike : (t u : Term) → placeless_term t ≡ placeless_term u → placeless_prefix (prefixes.Rectangle t) ≡ placeless_prefix (roll-Prefix (Prefix-F.Rectangle u))
rectangle_alike t u same = ap placeless_prefix (sym (prefixes.rolls-Rectangle t)) ∙ prefix_bare (Prefix-F.Rectangle t) ∙ ap prefixes.Rectangle same ∙ sym (prefix_bare (Prefix-F.Rectangle u))

pub area_alike : (t u : Term) (b c : Limits) → placeless_term t ≡ placeless_term u → plain_limits b ≡ plain_limits c → placeless_prefix (prefixes.Area t b) ≡ placeless_prefix (roll-Prefix (Prefix-F.Area u c))
area_alike t u b c same all =
    ap placeless_prefix (sym (prefixes.rolls-Area t b)) ∙ prefix_bare (Prefix-F.Area t b)
    ∙ ap (λ (z : Term). prefixes.Area z (plain_limits b)) same ∙ ap (prefixes.Area (placeless_term u)) all ∙ sym (prefix_bare (Prefix-F.Area u c))

pub length_alike : (t u : Term) (b c : Limits) → placeless_term t ≡ placeless_term u → plain_limits b ≡ plain_limits c → placeless_prefix (prefixes.Length t b) ≡ placeless_prefix (roll-Prefix (Prefix-F.Length u c))
length_alike t u b c same all =
    ap placeless_prefix (sym (prefixes.rolls-Length t b)) ∙ prefix_bare (Prefix-F.Length t b)
    ∙ ap (λ (z : Term). prefixes.Length z (plain_limits b)) same ∙ ap (prefixes.Length (placeless_term u)) all ∙ sym (prefix_bare (Prefix-F.Length u c))

pub size_alike : (t u : Term) (v w : Value) (turning other : Option Turn) → placeless_term t ≡ placeless_term u → plain_value v ≡ plain_value w → turning ≡ other
    → placeless_prefix (prefixes.Size t v turning) ≡ placeless_prefix (roll-Prefix (Prefix-F.Size u w other))
size_alike t u v w turning other same all turns =
    ap placeless_prefix (sym (prefixes.rolls-Size t v turning)) ∙ prefix_bare (Prefix-F.Size t v turning)
    ∙ ap (λ (z : Term). prefixes.Size z (plain_value v) turning) same ∙ ap (λ (z : Value). prefixes.Size (placeless_term u) z turning) all
    ∙ ap (prefixes.Size (placeless_term u) (plain_value w)) turns ∙ sym (prefix_bare (Prefix-F.Size u w other))

pub angle_alike : (t u : Term) (v w : Value) → placeless_term t ≡ placeless_term u → plain_value v ≡ plain_value w → placeless_prefix (prefixes.Angle t v) ≡ placeless_prefix (roll-Prefix (Prefix-F.Angle u w))
angle_alike t u v w same all =
    ap placeless_prefix (sym (prefixes.rolls-Angle t v)) ∙ prefix_bare (Prefix-F.Angle t v)
    ∙ ap (λ (z : Term). prefixes.Angle z (plain_value v)) same ∙ ap (prefixes.Angle (placeless_term u)) all ∙ sym (prefix_bare (Prefix-F.Angle u w))

pub expand_alike : (t u : Term) (to other : ExpandSide) (v w : Value) → placeless_term t ≡ placeless_term u → to ≡ other → plain_value v ≡ plain_value w
    → placeless_prefix (prefixes.Expand t to v) ≡ placeless_prefix (roll-Prefix (Prefix-F.Expand u other w))
expand_alike t u to other v w same side all =
    ap placeless_prefix (sym (prefixes.rolls-Expand t to v)) ∙ prefix_bare (Prefix-F.Expand t to v)
    ∙ ap (λ (z : Term). prefixes.Expand z to (plain_value v)) same ∙ ap (λ (z : ExpandSide). prefixes.Expand (placeless_term u) z (plain_value v)) side
    ∙ ap (prefixes.Expand (placeless_term u) other) all ∙ sym (prefix_bare (Prefix-F.Expand u other w))

pub operation_alike : (at place : ℕ) (o u : Infix) (p q : Primary) → o ≡ u → placeless_primary p ≡ placeless_primary q
    → placeless_operation (roll-Operation (record { at = at; operator = o; right = p })) ≡ placeless_operation (roll-Operation (record { at = place; operator = u; right = q }))
operation_alike at place o u p q operator same =
    let bare = fold-roll-Operation Prefix Primary Term Layer Operation plain_prefix plain_primary plain_term roll-Layer plain_operation in
    bare (record { at = at; operator = o; right = p }) ∙ ap (λ (z : Primary). roll-Operation (record { at = 0; operator = o; right = z })) same
    ∙ ap (λ (z : Infix). roll-Operation (record { at = 0; operator = z; right = placeless_primary q })) operator ∙ sym (bare (record { at = place; operator = u; right = q }))

pub layer_alike : (p q : Primary) (ps qs : List Operation) → placeless_primary p ≡ placeless_primary q → map placeless_operation ps ≡ map placeless_operation qs
    → plain_layer (roll-Layer (record { first = p; more = ps })) ≡ plain_layer (roll-Layer (record { first = q; more = qs }))
layer_alike p q ps qs same all =
    let bare = fold-roll-Layer Prefix Primary Term Layer Operation plain_prefix plain_primary plain_term roll-Layer plain_operation in
    bare (record { first = p; more = ps }) ∙ ap (λ (z : Primary). roll-Layer (record { first = z; more = map placeless_operation ps })) same
    ∙ ap (λ (zs : List Operation). roll-Layer (record { first = placeless_primary q; more = zs })) all ∙ sym (bare (record { first = q; more = qs }))
