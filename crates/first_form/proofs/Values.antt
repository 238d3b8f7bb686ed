-- Values that are one number: what is found in one doesn't depend on places, and is all that the value says.
use Rattle.std.proofs.Common.{◌≡◌, List, [], ◌∷◌, map, Option, Some, None, sym, ap, subst, ◌∙◌}
use Rattle.std.proofs.lemmas.Option.{none-some, same_Some}
use Rattle.deck_tree.specs.declared.value.Atom.{Atom, roll-Atom}
use Rattle.deck_tree.specs.declared.value.Atom.TheVariants as atoms
use Rattle.deck_tree.specs.declared.value.Atom.TheOpen.{Atom-F}
use Rattle.deck_tree.specs.declared.value.Atom.TheFolds.{fold-Atom, fold-Addend, fold-Exponent, fold-Factor, fold-Power, fold-Product, fold-roll-Atom, fold-roll-Power, fold-roll-Product, fold-roll-Value, ind-Value}
use Rattle.deck_tree.specs.declared.value.Addend.{Addend}
use Rattle.deck_tree.specs.declared.value.Exponent.{Exponent}
use Rattle.deck_tree.specs.declared.value.Factor.{Factor}
use Rattle.deck_tree.specs.declared.value.Power.{Power, roll-Power}
use Rattle.deck_tree.specs.declared.value.Product.{Product, roll-Product}
use Rattle.deck_tree.specs.declared.value.Value.{Value, roll-Value}
use Rattle.deck_tree.specs.Plain.{plain_number, plain_name, plain_place, plain_atom, plain_addend, plain_exponent, plain_factor, plain_value}
use Rattle.first_form.specs.FirstForm.{Decimal, number_of, value_of}
use Rattle.first_form.specs.Working.Values.{Lone, decimal_in, atom_step, addend_step, exponent_step, factor_step, power_step, product_step, value_step, lone_atom, lone_power, lone_product, lone_value}

-- ---- the parts of a lone number

abbrev atom_of : Decimal → Atom
atom_of v = atoms.Number None (number_of v)

abbrev power_of : Decimal → Power
power_of v = roll-Power (record { base = atom_of v; exponent = None })

abbrev product_of : Decimal → Product
product_of v = roll-Product (record { first = power_of v; more = [] })

-- ---- parts without places

abbrev bare_atom : Atom → Atom
bare_atom = fold-Atom Atom Addend Exponent Factor Power Product Value plain_atom plain_addend plain_exponent plain_factor roll-Power roll-Product roll-Value

abbrev bare_addend : Addend → Addend
bare_addend = fold-Addend Atom Addend Exponent Factor Power Product Value plain_atom plain_addend plain_exponent plain_factor roll-Power roll-Product roll-Value

abbrev bare_exponent : Exponent → Exponent
bare_exponent = fold-Exponent Atom Addend Exponent Factor Power Product Value plain_atom plain_addend plain_exponent plain_factor roll-Power roll-Product roll-Value

abbrev bare_factor : Factor → Factor
bare_factor = fold-Factor Atom Addend Exponent Factor Power Product Value plain_atom plain_addend plain_exponent plain_factor roll-Power roll-Product roll-Value

abbrev bare_power : Power → Power
bare_power = fold-Power Atom Addend Exponent Factor Power Product Value plain_atom plain_addend plain_exponent plain_factor roll-Power roll-Product roll-Value

abbrev bare_product : Product → Product
bare_product = fold-Product Atom Addend Exponent Factor Power Product Value plain_atom plain_addend plain_exponent plain_factor roll-Power roll-Product roll-Value

-- ---- what holds of each

record AtomFacts (x : Atom) : Type 0 where
  same : lone_atom (bare_atom x) ≡ lone_atom x
  found : (v : Decimal) → lone_atom x ≡ Some v → bare_atom x ≡ atom_of v

record PowerFacts (x : Power) : Type 0 where
  same : lone_power (bare_power x) ≡ lone_power x
  found : (v : Decimal) → lone_power x ≡ Some v → bare_power x ≡ power_of v

record ProductFacts (x : Product) : Type 0 where
  same : lone_product (bare_product x) ≡ lone_product x
  found : (v : Decimal) → lone_product x ≡ Some v → bare_product x ≡ product_of v

pub record ValueFacts (x : Value) : Type 0 where
  pub same : lone_value (plain_value x) ≡ lone_value x
  pub found : (v : Decimal) → lone_value x ≡ Some v → plain_value x ≡ value_of v

-- where nothing is found
pub never : {A B : Type 0} {x : B} {y : B} (o : Option A) → o ≡ None → (v : A) → o ≡ Some v → x ≡ y
never o none v some = absurd (none-some v (sym none ∙ some))

atom_facts : (x : Atom-F Atom Addend Exponent Factor Power Product Value) → AtomFacts (roll-Atom x)
atom_facts (Atom-F.Number None number) =
    let bare = fold-roll-Atom Atom Addend Exponent Factor Power Product Value plain_atom plain_addend plain_exponent plain_factor roll-Power roll-Product roll-Value in
    let lone = fold-roll-Atom Lone Lone Lone Lone Lone Lone Lone atom_step addend_step exponent_step factor_step power_step product_step value_step in
    let x : Atom-F Atom Addend Exponent Factor Power Product Value = Atom-F.Number None number in
    let made : bare_atom (roll-Atom x) ≡ atom_of (decimal_in number) = bare x in
    record {
      same = ap lone_atom made ∙ ap lone_atom (sym (atoms.rolls-Number None (plain_number number))) ∙ lone (Atom-F.Number None (plain_number number)) ∙ sym (lone x);
      found = λ v some. made ∙ ap atom_of (same_Some (decimal_in number) v (sym (lone x) ∙ some));
    }
atom_facts (Atom-F.Number (Some at) number) =
    let bare = fold-roll-Atom Atom Addend Exponent Factor Power Product Value plain_atom plain_addend plain_exponent plain_factor roll-Power roll-Product roll-Value in
    let lone = fold-roll-Atom Lone Lone Lone Lone Lone Lone Lone atom_step addend_step exponent_step factor_step power_step product_step value_step in
    let x : Atom-F Atom Addend Exponent Factor Power Product Value = Atom-F.Number (Some at) number in
    record {
      same = ap lone_atom (bare x) ∙ ap lone_atom (sym (atoms.rolls-Number (Some 0) (plain_number number))) ∙ lone (Atom-F.Number (Some 0) (plain_number number)) ∙ sym (lone x);
      found = λ v some. never (lone_atom (roll-Atom x)) (lone x) v some;
    }
atom_facts (Atom-F.Name minus name) =
    let bare = fold-roll-Atom Atom Addend Exponent Factor Power Product Value plain_atom plain_addend plain_exponent plain_factor roll-Power roll-Product roll-Value in
    let lone = fold-roll-Atom Lone Lone Lone Lone Lone Lone Lone atom_step addend_step exponent_step factor_step power_step product_step value_step in
    let x : Atom-F Atom Addend Exponent Factor Power Product Value = Atom-F.Name minus name in
    record {
      same = ap lone_atom (bare x) ∙ ap lone_atom (sym (atoms.rolls-Name (plain_place minus) (plain_name name))) ∙ lone (Atom-F.Name (plain_place minus) (plain_name name)) ∙ sym (lone x);
      found = λ v some. never (lone_atom (roll-Atom x)) (lone x) v some;
    }
atom_facts (Atom-F.Bracketed minus at value) =
    let bare = fold-roll-Atom Atom Addend Exponent Factor Power Product Value plain_atom plain_addend plain_exponent plain_factor roll-Power roll-Product roll-Value in
    let lone = fold-roll-Atom Lone Lone Lone Lone Lone Lone Lone atom_step addend_step exponent_step factor_step power_step product_step value_step in
    let x : Atom-F Atom Addend Exponent Factor Power Product Value = Atom-F.Bracketed minus at value in
    record {
      same = ap lone_atom (bare x) ∙ ap lone_atom (sym (atoms.rolls-Bracketed (plain_place minus) 0 (plain_value value))) ∙ lone (Atom-F.Bracketed (plain_place minus) 0 (plain_value value)) ∙ sym (lone x);
      found = λ v some. never (lone_atom (roll-Atom x)) (lone x) v some;
    }

power_facts : (base : Atom) (exponent : Option Exponent) → AtomFacts base → PowerFacts (roll-Power (record { base = base; exponent = exponent }))
power_facts base None facts =
    let bare = fold-roll-Power Atom Addend Exponent Factor Power Product Value plain_atom plain_addend plain_exponent plain_factor roll-Power roll-Product roll-Value in
    let lone = fold-roll-Power Lone Lone Lone Lone Lone Lone Lone atom_step addend_step exponent_step factor_step power_step product_step value_step in
    let made : bare_power (roll-Power (record { base = base; exponent = None })) ≡ roll-Power (record { base = bare_atom base; exponent = None }) = bare (record { base = base; exponent = None }) in
    record {
      same = ap lone_power made ∙ lone (record { base = bare_atom base; exponent = None }) ∙ facts.same ∙ sym (lone (record { base = base; exponent = None }));
      found = λ v some. made ∙ ap (λ (p : Atom). roll-Power (record { base = p; exponent = None })) (facts.found v (sym (lone (record { base = base; exponent = None })) ∙ some));
    }
power_facts base (Some exponent) facts =
    let bare = fold-roll-Power Atom Addend Exponent Factor Power Product Value plain_atom plain_addend plain_exponent plain_factor roll-Power roll-Product roll-Value in
    let lone = fold-roll-Power Lone Lone Lone Lone Lone Lone Lone atom_step addend_step exponent_step factor_step power_step product_step value_step in
    let made : bare_power (roll-Power (record { base = base; exponent = Some exponent })) ≡ roll-Power (record { base = bare_atom base; exponent = Some (bare_exponent exponent) }) = bare (record { base = base; exponent = Some exponent }) in
    record {
      same = ap lone_power made ∙ lone (record { base = bare_atom base; exponent = Some (bare_exponent exponent) }) ∙ sym (lone (record { base = base; exponent = Some exponent }));
      found = λ v some. never (lone_power (roll-Power (record { base = base; exponent = Some exponent }))) (lone (record { base = base; exponent = Some exponent })) v some;
    }

product_facts : (first : Power) (more : List Factor) → PowerFacts first → ProductFacts (roll-Product (record { first = first; more = more }))
product_facts first [] facts =
    let bare = fold-roll-Product Atom Addend Exponent Factor Power Product Value plain_atom plain_addend plain_exponent plain_factor roll-Power roll-Product roll-Value in
    let lone = fold-roll-Product Lone Lone Lone Lone Lone Lone Lone atom_step addend_step exponent_step factor_step power_step product_step value_step in
    let made : bare_product (roll-Product (record { first = first; more = [] })) ≡ roll-Product (record { first = bare_power first; more = [] }) = bare (record { first = first; more = [] }) in
    record {
      same = ap lone_product made ∙ lone (record { first = bare_power first; more = [] }) ∙ facts.same ∙ sym (lone (record { first = first; more = [] }));
      found = λ v some. made ∙ ap (λ (part : Power). roll-Product (record { first = part; more = [] })) (facts.found v (sym (lone (record { first = first; more = [] })) ∙ some));
    }
product_facts first (other ∷ more) facts =
    let bare = fold-roll-Product Atom Addend Exponent Factor Power Product Value plain_atom plain_addend plain_exponent plain_factor roll-Power roll-Product roll-Value in
    let lone = fold-roll-Product Lone Lone Lone Lone Lone Lone Lone atom_step addend_step exponent_step factor_step power_step product_step value_step in
    let made : bare_product (roll-Product (record { first = first; more = other ∷ more })) ≡ roll-Product (record { first = bare_power first; more = bare_factor other ∷ map bare_factor more }) = bare (record { first = first; more = other ∷ more }) in
    record {
      same = ap lone_product made ∙ lone (record { first = bare_power first; more = bare_factor other ∷ map bare_factor more }) ∙ sym (lone (record { first = first; more = other ∷ more }));
      found = λ v some. never (lone_product (roll-Product (record { first = first; more = other ∷ more }))) (lone (record { first = first; more = other ∷ more })) v some;
    }

value_facts : (first : Product) (more : List Addend) → ProductFacts first → ValueFacts (roll-Value (record { first = first; more = more }))
value_facts first [] facts =
    let bare = fold-roll-Value Atom Addend Exponent Factor Power Product Value plain_atom plain_addend plain_exponent plain_factor roll-Power roll-Product roll-Value in
    let lone = fold-roll-Value Lone Lone Lone Lone Lone Lone Lone atom_step addend_step exponent_step factor_step power_step product_step value_step in
    let made : plain_value (roll-Value (record { first = first; more = [] })) ≡ roll-Value (record { first = bare_product first; more = [] }) = bare (record { first = first; more = [] }) in
    record {
      same = ap lone_value made ∙ lone (record { first = bare_product first; more = [] }) ∙ facts.same ∙ sym (lone (record { first = first; more = [] }));
      found = λ v some. made ∙ ap (λ (part : Product). roll-Value (record { first = part; more = [] })) (facts.found v (sym (lone (record { first = first; more = [] })) ∙ some));
    }
value_facts first (other ∷ more) facts =
    let bare = fold-roll-Value Atom Addend Exponent Factor Power Product Value plain_atom plain_addend plain_exponent plain_factor roll-Power roll-Product roll-Value in
    let lone = fold-roll-Value Lone Lone Lone Lone Lone Lone Lone atom_step addend_step exponent_step factor_step power_step product_step value_step in
    let made : plain_value (roll-Value (record { first = first; more = other ∷ more })) ≡ roll-Value (record { first = bare_product first; more = bare_addend other ∷ map bare_addend more }) = bare (record { first = first; more = other ∷ more }) in
    record {
      same = ap lone_value made ∙ lone (record { first = bare_product first; more = bare_addend other ∷ map bare_addend more }) ∙ sym (lone (record { first = first; more = other ∷ more }));
      found = λ v some. never (lone_value (roll-Value (record { first = first; more = other ∷ more }))) (lone (record { first = first; more = other ∷ more })) v some;
    }

pub value_facts_of : (value : Value) → ValueFacts value
value_facts_of = ind-Value AtomFacts (λ x. Unit {0}) (λ x. Unit {0}) (λ x. Unit {0}) PowerFacts ProductFacts ValueFacts
    (λ x y is. atom_facts x)
    (λ x y is. tt)
    (λ x y is. tt)
    (λ x y is. tt)
    (λ x y is. power_facts x.base x.exponent (subst (λ z. AtomFacts z.base) is y.base.1))
    (λ x y is. product_facts x.first x.more (subst (λ z. PowerFacts z.first) is y.first.1))
    (λ x y is. value_facts x.first x.more (subst (λ z. ProductFacts z.first) is y.first.1))

-- what is made of a number is found again
pub value_again : (v : Decimal) → lone_value (value_of v) ≡ Some v
value_again v =
    let value = fold-roll-Value Lone Lone Lone Lone Lone Lone Lone atom_step addend_step exponent_step factor_step power_step product_step value_step (record { first = product_of v; more = [] }) in
    let product = fold-roll-Product Lone Lone Lone Lone Lone Lone Lone atom_step addend_step exponent_step factor_step power_step product_step value_step (record { first = power_of v; more = [] }) in
    let power = fold-roll-Power Lone Lone Lone Lone Lone Lone Lone atom_step addend_step exponent_step factor_step power_step product_step value_step (record { base = atom_of v; exponent = None }) in
    let atom = fold-roll-Atom Lone Lone Lone Lone Lone Lone Lone atom_step addend_step exponent_step factor_step power_step product_step value_step (Atom-F.Number None (number_of v)) in
    value ∙ product ∙ power ∙ ap lone_atom (sym (atoms.rolls-Number None (number_of v))) ∙ atom
