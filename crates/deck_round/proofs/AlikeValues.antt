-- Values whose parts are equal but for places are equal but for places.
use Rattle.std.proofs.Common.{◌≡◌, ℕ, List, ◌∷◌, map, Option, Some, None, sym, ap, ◌∙◌}
use Rattle.std.specs.Option.{option_map}
use Rattle.deck_tree.specs.declared.name_at.NameAt.{NameAt}
use Rattle.deck_tree.specs.declared.number.Number.{Number}
use Rattle.deck_tree.specs.declared.value.AddSign.{AddSign}
use Rattle.deck_tree.specs.declared.value.ProductSign.{ProductSign}
use Rattle.deck_tree.specs.declared.value.Atom.{Atom, roll-Atom}
use Rattle.deck_tree.specs.declared.value.Atom.TheVariants as atoms
use Rattle.deck_tree.specs.declared.value.Atom.TheVariants.{rolls-Number, rolls-Name, rolls-Bracketed}
use Rattle.deck_tree.specs.declared.value.Atom.TheOpen.{Atom-F}
use Rattle.deck_tree.specs.declared.value.Atom.TheFolds.{fold-roll-Addend, fold-roll-Exponent, fold-roll-Factor, fold-roll-Power, fold-roll-Product, fold-roll-Value}
use Rattle.deck_tree.specs.declared.value.Addend.{Addend, roll-Addend}
use Rattle.deck_tree.specs.declared.value.Exponent.{Exponent, roll-Exponent}
use Rattle.deck_tree.specs.declared.value.Factor.{Factor, roll-Factor}
use Rattle.deck_tree.specs.declared.value.Power.{Power, roll-Power}
use Rattle.deck_tree.specs.declared.value.Product.{Product, roll-Product}
use Rattle.deck_tree.specs.declared.value.Value.{Value, roll-Value}
use Rattle.deck_tree.specs.Plain.{plain_name, plain_number, plain_place, plain_atom, plain_addend, plain_exponent, plain_factor, plain_value}
use Rattle.deck_round.proofs.Places.{placeless_atom, placeless_addend, placeless_exponent, placeless_factor, placeless_power, placeless_product, atom_bare}

pub alike : {A : Type 0} {x y : A} {xs ys : List A} → x ≡ y → xs ≡ ys → (x ∷ xs) ≡ (y ∷ ys)
alike {A} {x} {y} {xs} {ys} first more = ap (λ (z : A). z ∷ xs) first ∙ ap (λ (zs : List A). y ∷ zs) more

pub number_alike : (minus other : Option ℕ) (n number : Number) → plain_place minus ≡ plain_place other → plain_number n ≡ plain_number number
    → placeless_atom (atoms.Number minus n) ≡ placeless_atom (roll-Atom (Atom-F.Number other number))
number_alike minus other n number places same =
    ap placeless_atom (sym (rolls-Number minus n)) ∙ atom_bare (Atom-F.Number minus n)
    ∙ ap (λ (m : Option ℕ). atoms.Number m (plain_number n)) places ∙ ap (atoms.Number (plain_place other)) same ∙ sym (atom_bare (Atom-F.Number other number))

pub name_alike : (minus other : Option ℕ) (n name : NameAt) → plain_place minus ≡ plain_place other → plain_name n ≡ plain_name name
    → placeless_atom (atoms.Name minus n) ≡ placeless_atom (roll-Atom (Atom-F.Name other name))
name_alike minus other n name places same =
    ap placeless_atom (sym (rolls-Name minus n)) ∙ atom_bare (Atom-F.Name minus n)
    ∙ ap (λ (m : Option ℕ). atoms.Name m (plain_name n)) places ∙ ap (atoms.Name (plain_place other)) same ∙ sym (atom_bare (Atom-F.Name other name))

pub bracketed_alike : (minus other : Option ℕ) (at place : ℕ) (v value : Value) → plain_place minus ≡ plain_place other → plain_value v ≡ plain_value value
    → placeless_atom (atoms.Bracketed minus at v) ≡ placeless_atom (roll-Atom (Atom-F.Bracketed other place value))
bracketed_alike minus other at place v value places same =
    ap placeless_atom (sym (rolls-Bracketed minus at v)) ∙ atom_bare (Atom-F.Bracketed minus at v)
    ∙ ap (λ (m : Option ℕ). atoms.Bracketed m 0 (plain_value v)) places ∙ ap (atoms.Bracketed (plain_place other) 0) same ∙ sym (atom_bare (Atom-F.Bracketed other place value))

pub addend_alike : (at place : ℕ) (sign : AddSign) (p q : Product) → placeless_product p ≡ placeless_product q
    → placeless_addend (roll-Addend (record { at = at; sign = sign; product = p })) ≡ placeless_addend (roll-Addend (record { at = place; sign = sign; product = q }))
addend_alike at place sign p q same =
    let bare = fold-roll-Addend Atom Addend Exponent Factor Power Product Value plain_atom plain_addend plain_exponent plain_factor roll-Power roll-Product roll-Value in
    bare (record { at = at; sign = sign; product = p }) ∙ ap (λ (z : Product). roll-Addend (record { at = 0; sign = sign; product = z })) same ∙ sym (bare (record { at = place; sign = sign; product = q }))

pub factor_alike : (at place : ℕ) (sign : ProductSign) (p q : Power) → placeless_power p ≡ placeless_power q
    → placeless_factor (roll-Factor (record { at = at; sign = sign; power = p })) ≡ placeless_factor (roll-Factor (record { at = place; sign = sign; power = q }))
factor_alike at place sign p q same =
    let bare = fold-roll-Factor Atom Addend Exponent Factor Power Product Value plain_atom plain_addend plain_exponent plain_factor roll-Power roll-Product roll-Value in
    bare (record { at = at; sign = sign; power = p }) ∙ ap (λ (z : Power). roll-Factor (record { at = 0; sign = sign; power = z })) same ∙ sym (bare (record { at = place; sign = sign; power = q }))

pub exponent_alike : (at place : ℕ) (b c : Atom) → placeless_atom b ≡ placeless_atom c
    → placeless_exponent (roll-Exponent (record { at = at; atom = b })) ≡ placeless_exponent (roll-Exponent (record { at = place; atom = c }))
exponent_alike at place b c same =
    let bare = fold-roll-Exponent Atom Addend Exponent Factor Power Product Value plain_atom plain_addend plain_exponent plain_factor roll-Power roll-Product roll-Value in
    bare (record { at = at; atom = b }) ∙ ap (λ (z : Atom). roll-Exponent (record { at = 0; atom = z })) same ∙ sym (bare (record { at = place; atom = c }))

pub power_alike : (b c : Atom) (e f : Option Exponent) → placeless_atom b ≡ placeless_atom c → option_map placeless_exponent e ≡ option_map placeless_exponent f
    → placeless_power (roll-Power (record { base = b; exponent = e })) ≡ placeless_power (roll-Power (record { base = c; exponent = f }))
power_alike b c None None same more =
    let bare = fold-roll-Power Atom Addend Exponent Factor Power Product Value plain_atom plain_addend plain_exponent plain_factor roll-Power roll-Product roll-Value in
    bare (record { base = b; exponent = None }) ∙ ap (λ (z : Atom). roll-Power (record { base = z; exponent = None })) same ∙ sym (bare (record { base = c; exponent = None }))
power_alike b c None (Some f) same more = absurd (cc)
power_alike b c (Some e) None same more = absurd (cc)
power_alike b c (Some e) (Some f) same more =
    let bare = fold-roll-Power Atom Addend Exponent Factor Power Product Value plain_atom plain_addend plain_exponent plain_factor roll-Power roll-Product roll-Value in
    bare (record { base = b; exponent = Some e }) ∙ ap (λ (z : Atom). roll-Power (record { base = z; exponent = Some (placeless_exponent e) })) same
    ∙ ap (λ (z : Option Exponent). roll-Power (record { base = placeless_atom c; exponent = z })) more ∙ sym (bare (record { base = c; exponent = Some f }))

pub product_alike : (p q : Power) (ps qs : List Factor) → placeless_power p ≡ placeless_power q → map placeless_factor ps ≡ map placeless_factor qs
    → placeless_product (roll-Product (record { first = p; more = ps })) ≡ placeless_product (roll-Product (record { first = q; more = qs }))
product_alike p q ps qs same all =
    let bare = fold-roll-Product Atom Addend Exponent Factor Power Product Value plain_atom plain_addend plain_exponent plain_factor roll-Power roll-Product roll-Value in
    bare (record { first = p; more = ps }) ∙ ap (λ (z : Power). roll-Product (record { first = z; more = map placeless_factor ps })) same
    ∙ ap (λ (zs : List Factor). roll-Product (record { first = placeless_power q; more = zs })) all ∙ sym (bare (record { first = q; more = qs }))

pub value_alike : (p q : Product) (ps qs : List Addend) → placeless_product p ≡ placeless_product q → map placeless_addend ps ≡ map placeless_addend qs
    → plain_value (roll-Value (record { first = p; more = ps })) ≡ plain_value (roll-Value (record { first = q; more = qs }))
value_alike p q ps qs same all =
    let bare = fold-roll-Value Atom Addend Exponent Factor Power Product Value plain_atom plain_addend plain_exponent plain_factor roll-Power roll-Product roll-Value in
    bare (record { first = p; more = ps }) ∙ ap (λ (z : Product). roll-Value (record { first = z; more = map placeless_addend ps })) same
    ∙ ap (λ (zs : List Addend). roll-Value (record { first = placeless_product q; more = zs })) all ∙ sym (bare (record { first = q; more = qs }))
