-- Canonical text doesn't show places: a tree without them has the same text.
use Rattle.std.proofs.Common.{◌≡◌, ℕ, List, [], ◌∷◌, ◌++◌, map, Option, Some, None, refl, sym, ap, subst, ◌∙◌}
use Rattle.std.specs.List.{concat, AllByRecursion}
use Rattle.deck_tree.specs.declared.value.Atom.{Atom, roll-Atom}
use Rattle.deck_tree.specs.declared.value.Atom.TheVariants.{rolls-Number, rolls-Name, rolls-Bracketed}
use Rattle.deck_tree.specs.declared.value.Atom.TheOpen.{Atom-F, Addend-F, Exponent-F, Factor-F, Product-F, Value-F}
use Rattle.deck_tree.specs.declared.value.Atom.TheFolds.{fold-Atom, fold-Addend, fold-Exponent, fold-Factor, fold-Power, fold-Product, fold-roll-Atom, fold-roll-Addend, fold-roll-Exponent, fold-roll-Factor, fold-roll-Power, fold-roll-Product, fold-roll-Value, ind-Value, map-Atom, map-Power}
use Rattle.deck_tree.specs.declared.value.Addend.{Addend, roll-Addend}
use Rattle.deck_tree.specs.declared.value.Exponent.{Exponent, roll-Exponent}
use Rattle.deck_tree.specs.declared.value.Factor.{Factor, roll-Factor}
use Rattle.deck_tree.specs.declared.value.Power.{Power, roll-Power}
use Rattle.deck_tree.specs.declared.value.Product.{Product, roll-Product}
use Rattle.deck_tree.specs.declared.value.Value.{Value, roll-Value}
use Rattle.deck_tree.specs.Plain.{plain_name, plain_number, plain_place, plain_atom, plain_addend, plain_exponent, plain_factor, plain_value}
use Rattle.deck_printer.specs.Values.{Text, number_text, minus_text, atom_step, exponent_step, power_step, product_sign_text, factor_step, product_step, add_sign_text, addend_step, value_step, atom_text, addend_text, exponent_text, factor_text, power_text, product_text, value_text}
use Rattle.list_facts.proofs.Members.{each}

-- ---- Values: each part without places

abbrev pub placeless_atom : Atom → Atom
placeless_atom = fold-Atom Atom Addend Exponent Factor Power Product Value plain_atom plain_addend plain_exponent plain_factor roll-Power roll-Product roll-Value

abbrev pub placeless_addend : Addend → Addend
placeless_addend = fold-Addend Atom Addend Exponent Factor Power Product Value plain_atom plain_addend plain_exponent plain_factor roll-Power roll-Product roll-Value

abbrev pub placeless_exponent : Exponent → Exponent
placeless_exponent = fold-Exponent Atom Addend Exponent Factor Power Product Value plain_atom plain_addend plain_exponent plain_factor roll-Power roll-Product roll-Value

abbrev pub placeless_factor : Factor → Factor
placeless_factor = fold-Factor Atom Addend Exponent Factor Power Product Value plain_atom plain_addend plain_exponent plain_factor roll-Power roll-Product roll-Value

abbrev pub placeless_power : Power → Power
placeless_power = fold-Power Atom Addend Exponent Factor Power Product Value plain_atom plain_addend plain_exponent plain_factor roll-Power roll-Product roll-Value

abbrev pub placeless_product : Product → Product
placeless_product = fold-Product Atom Addend Exponent Factor Power Product Value plain_atom plain_addend plain_exponent plain_factor roll-Power roll-Product roll-Value

abbrev E-atom : Atom → Type 0
E-atom x = atom_text (placeless_atom x) ≡ atom_text x

abbrev E-addend : Addend → Type 0
E-addend x = addend_text (placeless_addend x) ≡ addend_text x

abbrev E-exponent : Exponent → Type 0
E-exponent x = exponent_text (placeless_exponent x) ≡ exponent_text x

abbrev E-factor : Factor → Type 0
E-factor x = factor_text (placeless_factor x) ≡ factor_text x

abbrev E-power : Power → Type 0
E-power x = power_text (placeless_power x) ≡ power_text x

abbrev E-product : Product → Type 0
E-product x = product_text (placeless_product x) ≡ product_text x

abbrev E-value : Value → Type 0
E-value x = value_text (plain_value x) ≡ value_text x

pub same_texts : {A : Type 0} (bare : A → A) (text : A → List ℕ) (xs : List A) → AllByRecursion (λ x. text (bare x) ≡ text x) xs → concat (map text (map bare xs)) ≡ concat (map text xs)
same_texts bare text [] all = refl
same_texts bare text (x ∷ xs) all = ap (λ (t : List ℕ). t ++ concat (map text (map bare xs))) all.0 ∙ ap (λ (t : List ℕ). text x ++ t) (same_texts bare text xs all.1)

same_minus : (minus : Option ℕ) → minus_text (plain_place minus) ≡ minus_text minus
same_minus None = refl
same_minus (Some at) = refl

abbrev AtomSame : Atom-F Atom Addend Exponent Factor Power Product Value → Type 0
AtomSame (Atom-F.Number minus number) = Unit {0}
AtomSame (Atom-F.Name minus name) = Unit {0}
AtomSame (Atom-F.Bracketed minus at value) = E-value value

-- the text of an atom that is made
atom_of : (x : Atom-F Atom Addend Exponent Factor Power Product Value)
    → atom_text (roll-Atom x) ≡ atom_step (map-Atom Atom Addend Exponent Factor Power Product Value Text Text Text Text Text Text Text atom_text addend_text exponent_text factor_text power_text product_text value_text x)
atom_of = fold-roll-Atom Text Text Text Text Text Text Text atom_step addend_step exponent_step factor_step power_step product_step value_step

pub atom_bare : (x : Atom-F Atom Addend Exponent Factor Power Product Value)
    → placeless_atom (roll-Atom x) ≡ plain_atom (map-Atom Atom Addend Exponent Factor Power Product Value Atom Addend Exponent Factor Power Product Value placeless_atom placeless_addend placeless_exponent placeless_factor placeless_power placeless_product plain_value x)
atom_bare = fold-roll-Atom Atom Addend Exponent Factor Power Product Value plain_atom plain_addend plain_exponent plain_factor roll-Power roll-Product roll-Value

atom_same : (x : Atom-F Atom Addend Exponent Factor Power Product Value) → AtomSame x → E-atom (roll-Atom x)
atom_same (Atom-F.Number minus number) same =
    ap atom_text (atom_bare (Atom-F.Number minus number)) ∙ ap atom_text (sym (rolls-Number (plain_place minus) (plain_number number))) ∙ atom_of (Atom-F.Number (plain_place minus) (plain_number number))
    ∙ ap (λ (t : List ℕ). t ++ number_text number) (same_minus minus) ∙ sym (atom_of (Atom-F.Number minus number))
atom_same (Atom-F.Name minus name) same =
    ap atom_text (atom_bare (Atom-F.Name minus name)) ∙ ap atom_text (sym (rolls-Name (plain_place minus) (plain_name name))) ∙ atom_of (Atom-F.Name (plain_place minus) (plain_name name))
    ∙ ap (λ (t : List ℕ). t ++ name.name) (same_minus minus) ∙ sym (atom_of (Atom-F.Name minus name))
atom_same (Atom-F.Bracketed minus at value) same =
    ap atom_text (atom_bare (Atom-F.Bracketed minus at value)) ∙ ap atom_text (sym (rolls-Bracketed (plain_place minus) 0 (plain_value value))) ∙ atom_of (Atom-F.Bracketed (plain_place minus) 0 (plain_value value))
    ∙ ap (λ (t : List ℕ). t ++ 40 ∷ (value_text (plain_value value) ++ 41 ∷ [])) (same_minus minus)
    ∙ ap (λ (t : List ℕ). minus_text minus ++ 40 ∷ (t ++ 41 ∷ [])) same ∙ sym (atom_of (Atom-F.Bracketed minus at value))

addend_same : (x : Addend-F Atom Addend Exponent Factor Power Product Value) → E-product x.product → E-addend (roll-Addend x)
addend_same x same =
    let bare = fold-roll-Addend Atom Addend Exponent Factor Power Product Value plain_atom plain_addend plain_exponent plain_factor roll-Power roll-Product roll-Value x in
    let text = fold-roll-Addend Text Text Text Text Text Text Text atom_step addend_step exponent_step factor_step power_step product_step value_step in
    ap addend_text bare ∙ text (record { at = 0; sign = x.sign; product = placeless_product x.product }) ∙ ap (λ (t : List ℕ). add_sign_text x.sign ++ t) same ∙ sym (text x)

exponent_same : (x : Exponent-F Atom Addend Exponent Factor Power Product Value) → E-atom x.atom → E-exponent (roll-Exponent x)
exponent_same x same =
    let bare = fold-roll-Exponent Atom Addend Exponent Factor Power Product Value plain_atom plain_addend plain_exponent plain_factor roll-Power roll-Product roll-Value x in
    let text = fold-roll-Exponent Text Text Text Text Text Text Text atom_step addend_step exponent_step factor_step power_step product_step value_step in
    ap exponent_text bare ∙ text (record { at = 0; atom = placeless_atom x.atom }) ∙ ap (λ (t : List ℕ). 32 ∷ 94 ∷ 32 ∷ t) same ∙ sym (text x)

factor_same : (x : Factor-F Atom Addend Exponent Factor Power Product Value) → E-power x.power → E-factor (roll-Factor x)
factor_same x same =
    let bare = fold-roll-Factor Atom Addend Exponent Factor Power Product Value plain_atom plain_addend plain_exponent plain_factor roll-Power roll-Product roll-Value x in
    let text = fold-roll-Factor Text Text Text Text Text Text Text atom_step addend_step exponent_step factor_step power_step product_step value_step in
    ap factor_text bare ∙ text (record { at = 0; sign = x.sign; power = placeless_power x.power }) ∙ ap (λ (t : List ℕ). product_sign_text x.sign ++ t) same ∙ sym (text x)

abbrev ExponentSame : Option Exponent → Type 0
ExponentSame None = Unit {0}
ExponentSame (Some exponent) = E-exponent exponent

power_same_by : (base : Atom) (exponent : Option Exponent) → E-atom base → ExponentSame exponent → E-power (roll-Power (record { base = base; exponent = exponent }))
power_same_by base None same more =
    let bare = fold-roll-Power Atom Addend Exponent Factor Power Product Value plain_atom plain_addend plain_exponent plain_factor roll-Power roll-Product roll-Value (record { base = base; exponent = None }) in
    let text = fold-roll-Power Text Text Text Text Text Text Text atom_step addend_step exponent_step factor_step power_step product_step value_step in
    ap power_text bare ∙ text (record { base = placeless_atom base; exponent = None }) ∙ ap (λ (t : List ℕ). t ++ []) same ∙ sym (text (record { base = base; exponent = None }))
power_same_by base (Some exponent) same more =
    let bare = fold-roll-Power Atom Addend Exponent Factor Power Product Value plain_atom plain_addend plain_exponent plain_factor roll-Power roll-Product roll-Value (record { base = base; exponent = Some exponent }) in
    let text = fold-roll-Power Text Text Text Text Text Text Text atom_step addend_step exponent_step factor_step power_step product_step value_step in
    ap power_text bare ∙ text (record { base = placeless_atom base; exponent = Some (placeless_exponent exponent) })
    ∙ ap (λ (t : List ℕ). t ++ exponent_text (placeless_exponent exponent)) same ∙ ap (λ (t : List ℕ). atom_text base ++ t) more ∙ sym (text (record { base = base; exponent = Some exponent }))

product_same : (x : Product-F Atom Addend Exponent Factor Power Product Value) → E-power x.first → AllByRecursion E-factor x.more → E-product (roll-Product x)
product_same x first more =
    let bare = fold-roll-Product Atom Addend Exponent Factor Power Product Value plain_atom plain_addend plain_exponent plain_factor roll-Power roll-Product roll-Value x in
    let text = fold-roll-Product Text Text Text Text Text Text Text atom_step addend_step exponent_step factor_step power_step product_step value_step in
    ap product_text bare ∙ text (record { first = placeless_power x.first; more = map placeless_factor x.more })
    ∙ ap (λ (t : List ℕ). t ++ concat (map factor_text (map placeless_factor x.more))) first ∙ ap (λ (t : List ℕ). power_text x.first ++ t) (same_texts placeless_factor factor_text x.more more) ∙ sym (text x)

value_same_by : (x : Value-F Atom Addend Exponent Factor Power Product Value) → E-product x.first → AllByRecursion E-addend x.more → E-value (roll-Value x)
value_same_by x first more =
    let bare = fold-roll-Value Atom Addend Exponent Factor Power Product Value plain_atom plain_addend plain_exponent plain_factor roll-Power roll-Product roll-Value x in
    let text = fold-roll-Value Text Text Text Text Text Text Text atom_step addend_step exponent_step factor_step power_step product_step value_step in
    ap value_text bare ∙ text (record { first = placeless_product x.first; more = map placeless_addend x.more })
    ∙ ap (λ (t : List ℕ). t ++ concat (map addend_text (map placeless_addend x.more))) first ∙ ap (λ (t : List ℕ). product_text x.first ++ t) (same_texts placeless_addend addend_text x.more more) ∙ sym (text x)

atom_such : (y : Atom-F ((x : Atom) × E-atom x) ((x : Addend) × E-addend x) ((x : Exponent) × E-exponent x) ((x : Factor) × E-factor x) ((x : Power) × E-power x) ((x : Product) × E-product x) ((x : Value) × E-value x))
    → AtomSame (map-Atom _ _ _ _ _ _ _ Atom Addend Exponent Factor Power Product Value (λ e. e.0) (λ e. e.0) (λ e. e.0) (λ e. e.0) (λ e. e.0) (λ e. e.0) (λ e. e.0) y)
atom_such (Atom-F.Number minus number) = tt
atom_such (Atom-F.Name minus name) = tt
atom_such (Atom-F.Bracketed minus at value) = value.1

power_such : (base : (x : Atom) × E-atom x) (exponent : Option ((x : Exponent) × E-exponent x))
    → ExponentSame (map-Power ((x : Atom) × E-atom x) ((x : Addend) × E-addend x) ((x : Exponent) × E-exponent x) ((x : Factor) × E-factor x) ((x : Power) × E-power x) ((x : Product) × E-product x) ((x : Value) × E-value x) Atom Addend Exponent Factor Power Product Value (λ e. e.0) (λ e. e.0) (λ e. e.0) (λ e. e.0) (λ e. e.0) (λ e. e.0) (λ e. e.0) (record { base = base; exponent = exponent })).exponent
power_such base None = tt
power_such base (Some exponent) = exponent.1

pub value_same : (value : Value) → E-value value
value_same = ind-Value E-atom E-addend E-exponent E-factor E-power E-product E-value
    (λ x y is. atom_same x (subst AtomSame is (atom_such y)))
    (λ x y is. addend_same x (subst (λ z. E-product z.product) is y.product.1))
    (λ x y is. exponent_same x (subst (λ z. E-atom z.atom) is y.atom.1))
    (λ x y is. factor_same x (subst (λ z. E-power z.power) is y.power.1))
    (λ x y is. power_same_by x.base x.exponent (subst (λ z. E-atom z.base) is y.base.1) (subst (λ z. ExponentSame z.exponent) is (power_such y.base y.exponent)))
    (λ x y is. product_same x (subst (λ z. E-power z.first) is y.first.1) (subst (λ z. AllByRecursion E-factor z.more) is (each E-factor y.more)))
    (λ x y is. value_same_by x (subst (λ z. E-product z.first) is y.first.1) (subst (λ z. AllByRecursion E-addend z.more) is (each E-addend y.more)))
