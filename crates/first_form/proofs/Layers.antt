-- Layers that are the sides shorter than a bound: what is found in one doesn't depend on places, and is all that the
-- layer says.
use Rattle.std.proofs.Common.{◌≡◌, ℕ, List, [], ◌∷◌, map, Option, Some, None, refl, sym, ap, subst, ◌∙◌}
use Rattle.std.proofs.lemmas.Option.{none-some, same_Some}
use Rattle.list_facts.specs.Attempts.{◌>>=◌}
use Rattle.list_facts.proofs.Attempts.{found_by}
use Rattle.deck_tree.specs.declared.value.Value.{Value}
use Rattle.deck_tree.specs.declared.limits.Below.{Below}
use Rattle.deck_tree.specs.declared.limits.Below.TheVariants as below
use Rattle.deck_tree.specs.declared.limits.Limits.{Limits}
use Rattle.deck_tree.specs.declared.limits.Limits.TheVariants as limits
use Rattle.deck_tree.specs.declared.layer.Prefix.{Prefix, roll-Prefix}
use Rattle.deck_tree.specs.declared.layer.Prefix.TheVariants as prefixes
use Rattle.deck_tree.specs.declared.layer.Prefix.TheOpen.{Prefix-F, Primary-F, Term-F}
use Rattle.deck_tree.specs.declared.layer.Prefix.TheFolds.{fold-Prefix, fold-Primary, fold-Term, fold-Operation, fold-roll-Prefix, fold-roll-Primary, fold-roll-Term, fold-roll-Layer, ind-Layer, map-Prefix, map-Primary}
use Rattle.deck_tree.specs.declared.layer.Primary.{Primary, roll-Primary}
use Rattle.deck_tree.specs.declared.layer.Primary.TheVariants as primaries
use Rattle.deck_tree.specs.declared.layer.Term.{Term, roll-Term}
use Rattle.deck_tree.specs.declared.layer.Term.TheVariants as terms
use Rattle.deck_tree.specs.declared.layer.Layer.{Layer, roll-Layer}
use Rattle.deck_tree.specs.declared.layer.Operation.{Operation}
use Rattle.deck_tree.specs.Plain.{plain_name, plain_value, plain_limits, plain_distance, plain_prefix, plain_primary, plain_term, plain_operation, plain_layer}
use Rattle.first_form.specs.FirstForm.{Decimal, name_of, value_of, length_of, output_of}
use Rattle.first_form.specs.Working.Values.{lone_value}
use Rattle.first_form.specs.Working.Layers.{LengthLine, Line, Named, bound_in, joined, prefix_step, primary_step, term_step, layer_step, operation_step, prefix_line, primary_line, term_name, layer_line}
use Rattle.first_form.proofs.Values.{never, value_facts_of, value_again}

-- ---- bounds

abbrev limits_of : Decimal → Limits
limits_of v = limits.Below (record { sign = below.Less; value = value_of v })

record LimitsFacts (x : Limits) : Type 0 where
  same : bound_in (plain_limits x) ≡ bound_in x
  found : (v : Decimal) → bound_in x ≡ Some v → plain_limits x ≡ limits_of v

below_facts : (sign : Below) (value : Value) → LimitsFacts (limits.Below (record { sign = sign; value = value }))
below_facts below.Less value =
    let facts = value_facts_of value in
    record {
      same = facts.same;
      found = λ v some. ap (λ (x : Value). limits.Below (record { sign = below.Less; value = x })) (facts.found v some);
    }
below_facts below.LessOrEqual value = record { same = refl; found = λ v some. absurd (none-some v some) }

limits_facts : (x : Limits) → LimitsFacts x
limits_facts (limits.Below bound) = below_facts bound.sign bound.value
limits_facts (limits.Equal value) = record { same = refl; found = λ v some. absurd (none-some v some) }
limits_facts (limits.NotEqual value) = record { same = refl; found = λ v some. absurd (none-some v some) }
limits_facts (limits.Above sign value bound) = record { same = refl; found = λ v some. absurd (none-some v some) }

-- ---- parts without places

abbrev bare_prefix : Prefix → Prefix
bare_prefix = fold-Prefix Prefix Primary Term Layer Operation plain_prefix plain_primary plain_term roll-Layer plain_operation

abbrev bare_primary : Primary → Primary
bare_primary = fold-Primary Prefix Primary Term Layer Operation plain_prefix plain_primary plain_term roll-Layer plain_operation

abbrev bare_term : Term → Term
bare_term = fold-Term Prefix Primary Term Layer Operation plain_prefix plain_primary plain_term roll-Layer plain_operation

abbrev bare_operation : Operation → Operation
bare_operation = fold-Operation Prefix Primary Term Layer Operation plain_prefix plain_primary plain_term roll-Layer plain_operation

-- ---- what holds of each

abbrev line_in : LengthLine → Prefix
line_in l = length_of l.input l.bound

record PrefixFacts (x : Prefix) : Type 0 where
  same : prefix_line (bare_prefix x) ≡ prefix_line x
  found : (l : LengthLine) → prefix_line x ≡ Some l → bare_prefix x ≡ line_in l

record PrimaryFacts (x : Primary) : Type 0 where
  same : primary_line (bare_primary x) ≡ primary_line x
  found : (l : LengthLine) → primary_line x ≡ Some l → bare_primary x ≡ primaries.Prefix 0 (line_in l)

record TermFacts (x : Term) : Type 0 where
  same : term_name (bare_term x) ≡ term_name x
  found : (name : List ℕ) → term_name x ≡ Some name → bare_term x ≡ terms.Name (name_of name)

pub record LayerFacts (x : Layer) : Type 0 where
  pub same : layer_line (plain_layer x) ≡ layer_line x
  pub found : (l : LengthLine) → layer_line x ≡ Some l → plain_layer x ≡ output_of l.input l.bound

-- ---- terms

term_facts : (x : Term-F Prefix Primary Term Layer Operation) → TermFacts (roll-Term x)
term_facts (Term-F.Name name) =
    let bare = fold-roll-Term Prefix Primary Term Layer Operation plain_prefix plain_primary plain_term roll-Layer plain_operation in
    let line = fold-roll-Term Line Line Named Line Line prefix_step primary_step term_step layer_step operation_step in
    let x : Term-F Prefix Primary Term Layer Operation = Term-F.Name name in
    let made : bare_term (roll-Term x) ≡ terms.Name (name_of name.name) = bare x in
    record {
      same = ap term_name made ∙ ap term_name (sym (terms.rolls-Name (plain_name name))) ∙ line (Term-F.Name (plain_name name)) ∙ sym (line x);
      found = λ n some. made ∙ ap (λ (m : List ℕ). terms.Name (name_of m)) (same_Some name.name n (sym (line x) ∙ some));
    }
term_facts (Term-F.Bracketed at layer) =
    let bare = fold-roll-Term Prefix Primary Term Layer Operation plain_prefix plain_primary plain_term roll-Layer plain_operation in
    let line = fold-roll-Term Line Line Named Line Line prefix_step primary_step term_step layer_step operation_step in
    let x : Term-F Prefix Primary Term Layer Operation = Term-F.Bracketed at layer in
    record {
      same = ap term_name (bare x) ∙ ap term_name (sym (terms.rolls-Bracketed 0 (plain_layer layer))) ∙ line (Term-F.Bracketed 0 (plain_layer layer)) ∙ sym (line x);
      found = λ n some. never (term_name (roll-Term x)) (line x) n some;
    }

-- ---- operations on one layer

line_same : (a b : Named) (v w : Option Decimal) → a ≡ b → v ≡ w → joined a v ≡ joined b w
line_same a b v w e f = ap (λ (x : Named). joined x v) e ∙ ap (λ (y : Option Decimal). joined b y) f

line_found : (term : Term) (those : Limits) (l : LengthLine) → TermFacts term → LimitsFacts those → joined (term_name term) (bound_in those) ≡ Some l
    → prefixes.Length (bare_term term) (plain_limits those) ≡ line_in l
line_found term those l t b some =
    let first = found_by (term_name term) (λ i. bound_in those >>= λ v. Some (record { input = i; bound = v })) l some in
    let second = found_by (bound_in those) (λ v. Some (record { input = first.0; bound = v })) l first.2 in
    let input : List ℕ = first.0 in
    let bound : Decimal = second.0 in
    ap (λ (x : Term). prefixes.Length x (plain_limits those)) (t.found input first.1)
    ∙ ap (λ (x : Limits). prefixes.Length (terms.Name (name_of input)) x) (b.found bound second.1)
    ∙ ap line_in (same_Some (record { input = input; bound = bound }) l second.2)

abbrev PrefixSuch : Prefix-F Prefix Primary Term Layer Operation → Type 0
PrefixSuch (Prefix-F.Length term those) = TermFacts term
PrefixSuch _ = Unit {0}

-- where nothing is found
no_line : (x : Prefix-F Prefix Primary Term Layer Operation) (y : Prefix) → bare_prefix (roll-Prefix x) ≡ y → prefix_line y ≡ None → prefix_line (roll-Prefix x) ≡ None → PrefixFacts (roll-Prefix x)
no_line x y made none line = record {
  same = ap prefix_line made ∙ none ∙ sym line;
  found = λ l some. never (prefix_line (roll-Prefix x)) line l some;
}

prefix_facts : (x : Prefix-F Prefix Primary Term Layer Operation) → PrefixSuch x → PrefixFacts (roll-Prefix x)
prefix_facts (Prefix-F.Length term those) such =
    let bare = fold-roll-Prefix Prefix Primary Term Layer Operation plain_prefix plain_primary plain_term roll-Layer plain_operation in
    let line = fold-roll-Prefix Line Line Named Line Line prefix_step primary_step term_step layer_step operation_step in
    let x : Prefix-F Prefix Primary Term Layer Operation = Prefix-F.Length term those in
    let b = limits_facts those in
    let made : bare_prefix (roll-Prefix x) ≡ prefixes.Length (bare_term term) (plain_limits those) = bare x in
    record {
      same = ap prefix_line made ∙ ap prefix_line (sym (prefixes.rolls-Length (bare_term term) (plain_limits those))) ∙ line (Prefix-F.Length (bare_term term) (plain_limits those))
          ∙ line_same (term_name (bare_term term)) (term_name term) (bound_in (plain_limits those)) (bound_in those) such.same b.same ∙ sym (line x);
      found = λ l some. made ∙ line_found term those l such b (sym (line x) ∙ some);
    }
prefix_facts (Prefix-F.Copy term) such =
    let bare = fold-roll-Prefix Prefix Primary Term Layer Operation plain_prefix plain_primary plain_term roll-Layer plain_operation in
    let line = fold-roll-Prefix Line Line Named Line Line prefix_step primary_step term_step layer_step operation_step in
    no_line (Prefix-F.Copy term) (prefixes.Copy (bare_term term)) (bare (Prefix-F.Copy term)) (ap prefix_line (sym (prefixes.rolls-Copy (bare_term term))) ∙ line (Prefix-F.Copy (bare_term term))) (line (Prefix-F.Copy term))
prefix_facts (Prefix-F.Rectangle term) such =
    let bare = fold-roll-Prefix Prefix Primary Term Layer Operation plain_prefix plain_primary plain_term roll-Layer plain_operation in
    let line = fold-roll-Prefix Line Line Named Line Line prefix_step primary_step term_step layer_step operation_step in
    no_line (Prefix-F.Rectangle term) (prefixes.Rectangle (bare_term term)) (bare (Prefix-F.Rectangle term)) (ap prefix_line (sym (prefixes.rolls-Rectangle (bare_term term))) ∙ line (Prefix-F.Rectangle (bare_term term))) (line (Prefix-F.Rectangle term))
prefix_facts (Prefix-F.Area term those) such =
    let bare = fold-roll-Prefix Prefix Primary Term Layer Operation plain_prefix plain_primary plain_term roll-Layer plain_operation in
    let line = fold-roll-Prefix Line Line Named Line Line prefix_step primary_step term_step layer_step operation_step in
    no_line (Prefix-F.Area term those) (prefixes.Area (bare_term term) (plain_limits those)) (bare (Prefix-F.Area term those)) (ap prefix_line (sym (prefixes.rolls-Area (bare_term term) (plain_limits those))) ∙ line (Prefix-F.Area (bare_term term) (plain_limits those))) (line (Prefix-F.Area term those))
prefix_facts (Prefix-F.Size term value turn) such =
    let bare = fold-roll-Prefix Prefix Primary Term Layer Operation plain_prefix plain_primary plain_term roll-Layer plain_operation in
    let line = fold-roll-Prefix Line Line Named Line Line prefix_step primary_step term_step layer_step operation_step in
    no_line (Prefix-F.Size term value turn) (prefixes.Size (bare_term term) (plain_value value) turn) (bare (Prefix-F.Size term value turn)) (ap prefix_line (sym (prefixes.rolls-Size (bare_term term) (plain_value value) turn)) ∙ line (Prefix-F.Size (bare_term term) (plain_value value) turn)) (line (Prefix-F.Size term value turn))
prefix_facts (Prefix-F.Angle term value) such =
    let bare = fold-roll-Prefix Prefix Primary Term Layer Operation plain_prefix plain_primary plain_term roll-Layer plain_operation in
    let line = fold-roll-Prefix Line Line Named Line Line prefix_step primary_step term_step layer_step operation_step in
    no_line (Prefix-F.Angle term value) (prefixes.Angle (bare_term term) (plain_value value)) (bare (Prefix-F.Angle term value)) (ap prefix_line (sym (prefixes.rolls-Angle (bare_term term) (plain_value value))) ∙ line (Prefix-F.Angle (bare_term term) (plain_value value))) (line (Prefix-F.Angle term value))
prefix_facts (Prefix-F.Expand term side value) such =
    let bare = fold-roll-Prefix Prefix Primary Term Layer Operation plain_prefix plain_primary plain_term roll-Layer plain_operation in
    let line = fold-roll-Prefix Line Line Named Line Line prefix_step primary_step term_step layer_step operation_step in
    no_line (Prefix-F.Expand term side value) (prefixes.Expand (bare_term term) side (plain_value value)) (bare (Prefix-F.Expand term side value)) (ap prefix_line (sym (prefixes.rolls-Expand (bare_term term) side (plain_value value))) ∙ line (Prefix-F.Expand (bare_term term) side (plain_value value))) (line (Prefix-F.Expand term side value))

-- ---- layers

abbrev PrimarySuch : Primary-F Prefix Primary Term Layer Operation → Type 0
PrimarySuch (Primary-F.Term term) = Unit {0}
PrimarySuch (Primary-F.Prefix at prefixed) = PrefixFacts prefixed
PrimarySuch (Primary-F.Distance at distance) = Unit {0}

primary_facts : (x : Primary-F Prefix Primary Term Layer Operation) → PrimarySuch x → PrimaryFacts (roll-Primary x)
primary_facts (Primary-F.Term term) such =
    let bare = fold-roll-Primary Prefix Primary Term Layer Operation plain_prefix plain_primary plain_term roll-Layer plain_operation in
    let line = fold-roll-Primary Line Line Named Line Line prefix_step primary_step term_step layer_step operation_step in
    let x : Primary-F Prefix Primary Term Layer Operation = Primary-F.Term term in
    record {
      same = ap primary_line (bare x) ∙ ap primary_line (sym (primaries.rolls-Term (bare_term term))) ∙ line (Primary-F.Term (bare_term term)) ∙ sym (line x);
      found = λ l some. never (primary_line (roll-Primary x)) (line x) l some;
    }
primary_facts (Primary-F.Prefix at prefixed) such =
    let bare = fold-roll-Primary Prefix Primary Term Layer Operation plain_prefix plain_primary plain_term roll-Layer plain_operation in
    let line = fold-roll-Primary Line Line Named Line Line prefix_step primary_step term_step layer_step operation_step in
    let x : Primary-F Prefix Primary Term Layer Operation = Primary-F.Prefix at prefixed in
    let made : bare_primary (roll-Primary x) ≡ primaries.Prefix 0 (bare_prefix prefixed) = bare x in
    record {
      same = ap primary_line made ∙ ap primary_line (sym (primaries.rolls-Prefix 0 (bare_prefix prefixed))) ∙ line (Primary-F.Prefix 0 (bare_prefix prefixed)) ∙ such.same ∙ sym (line x);
      found = λ l some. made ∙ ap (λ (p : Prefix). primaries.Prefix 0 p) (such.found l (sym (line x) ∙ some));
    }
primary_facts (Primary-F.Distance at distance) such =
    let bare = fold-roll-Primary Prefix Primary Term Layer Operation plain_prefix plain_primary plain_term roll-Layer plain_operation in
    let line = fold-roll-Primary Line Line Named Line Line prefix_step primary_step term_step layer_step operation_step in
    let x : Primary-F Prefix Primary Term Layer Operation = Primary-F.Distance at distance in
    record {
      same = ap primary_line (bare x) ∙ ap primary_line (sym (primaries.rolls-Distance 0 (plain_distance distance))) ∙ line (Primary-F.Distance 0 (plain_distance distance)) ∙ sym (line x);
      found = λ l some. never (primary_line (roll-Primary x)) (line x) l some;
    }

layer_facts : (first : Primary) (more : List Operation) → PrimaryFacts first → LayerFacts (roll-Layer (record { first = first; more = more }))
layer_facts first [] facts =
    let bare = fold-roll-Layer Prefix Primary Term Layer Operation plain_prefix plain_primary plain_term roll-Layer plain_operation in
    let line = fold-roll-Layer Line Line Named Line Line prefix_step primary_step term_step layer_step operation_step in
    let made : plain_layer (roll-Layer (record { first = first; more = [] })) ≡ roll-Layer (record { first = bare_primary first; more = [] }) = bare (record { first = first; more = [] }) in
    record {
      same = ap layer_line made ∙ line (record { first = bare_primary first; more = [] }) ∙ facts.same ∙ sym (line (record { first = first; more = [] }));
      found = λ l some. made ∙ ap (λ (part : Primary). roll-Layer (record { first = part; more = [] })) (facts.found l (sym (line (record { first = first; more = [] })) ∙ some));
    }
layer_facts first (other ∷ more) facts =
    let bare = fold-roll-Layer Prefix Primary Term Layer Operation plain_prefix plain_primary plain_term roll-Layer plain_operation in
    let line = fold-roll-Layer Line Line Named Line Line prefix_step primary_step term_step layer_step operation_step in
    let made : plain_layer (roll-Layer (record { first = first; more = other ∷ more })) ≡ roll-Layer (record { first = bare_primary first; more = bare_operation other ∷ map bare_operation more }) = bare (record { first = first; more = other ∷ more }) in
    record {
      same = ap layer_line made ∙ line (record { first = bare_primary first; more = bare_operation other ∷ map bare_operation more }) ∙ sym (line (record { first = first; more = other ∷ more }));
      found = λ l some. never (layer_line (roll-Layer (record { first = first; more = other ∷ more }))) (line (record { first = first; more = other ∷ more })) l some;
    }

prefix_such : (y : Prefix-F ((x : Prefix) × PrefixFacts x) ((x : Primary) × PrimaryFacts x) ((x : Term) × TermFacts x) ((x : Layer) × LayerFacts x) ((x : Operation) × Unit {0})) → PrefixSuch (map-Prefix _ _ _ _ _ Prefix Primary Term Layer Operation (λ e. e.0) (λ e. e.0) (λ e. e.0) (λ e. e.0) (λ e. e.0) y)
prefix_such (Prefix-F.Copy term) = tt
prefix_such (Prefix-F.Rectangle term) = tt
prefix_such (Prefix-F.Area term those) = tt
prefix_such (Prefix-F.Length term those) = term.1
prefix_such (Prefix-F.Size term value turn) = tt
prefix_such (Prefix-F.Angle term value) = tt
prefix_such (Prefix-F.Expand term side value) = tt

primary_such : (y : Primary-F ((x : Prefix) × PrefixFacts x) ((x : Primary) × PrimaryFacts x) ((x : Term) × TermFacts x) ((x : Layer) × LayerFacts x) ((x : Operation) × Unit {0})) → PrimarySuch (map-Primary _ _ _ _ _ Prefix Primary Term Layer Operation (λ e. e.0) (λ e. e.0) (λ e. e.0) (λ e. e.0) (λ e. e.0) y)
primary_such (Primary-F.Term term) = tt
primary_such (Primary-F.Prefix at prefixed) = prefixed.1
primary_such (Primary-F.Distance at distance) = tt

pub layer_facts_of : (layer : Layer) → LayerFacts layer
layer_facts_of = ind-Layer PrefixFacts PrimaryFacts TermFacts LayerFacts (λ x. Unit {0})
    (λ x y is. prefix_facts x (subst PrefixSuch is (prefix_such y)))
    (λ x y is. primary_facts x (subst PrimarySuch is (primary_such y)))
    (λ x y is. term_facts x)
    (λ x y is. layer_facts x.first x.more (subst (λ z. PrimaryFacts z.first) is y.first.1))
    (λ x y is. tt)

-- what is made of an input and a bound is found again
pub layer_again : (l : LengthLine) → layer_line (output_of l.input l.bound) ≡ Some l
layer_again l =
    let layer = fold-roll-Layer Line Line Named Line Line prefix_step primary_step term_step layer_step operation_step (record { first = primaries.Prefix 0 (line_in l); more = [] }) in
    let primary = fold-roll-Primary Line Line Named Line Line prefix_step primary_step term_step layer_step operation_step (Primary-F.Prefix 0 (line_in l)) in
    let prefix = fold-roll-Prefix Line Line Named Line Line prefix_step primary_step term_step layer_step operation_step (Prefix-F.Length (terms.Name (name_of l.input)) (limits_of l.bound)) in
    let term = fold-roll-Term Line Line Named Line Line prefix_step primary_step term_step layer_step operation_step (Term-F.Name (name_of l.input)) in
    let named : term_name (terms.Name (name_of l.input)) ≡ Some l.input = ap term_name (sym (terms.rolls-Name (name_of l.input))) ∙ term in
    layer ∙ ap primary_line (sym (primaries.rolls-Prefix 0 (line_in l))) ∙ primary
    ∙ ap prefix_line (sym (prefixes.rolls-Length (terms.Name (name_of l.input)) (limits_of l.bound))) ∙ prefix
    ∙ line_same (term_name (terms.Name (name_of l.input))) (Some l.input) (lone_value (value_of l.bound)) (Some l.bound) named (value_again l.bound)
