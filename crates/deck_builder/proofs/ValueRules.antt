-- What each alternative of a value reads.
use Rattle.std.proofs.Common.{◌≡◌, ℕ, [], ◌∷◌, Option, Some, None, refl, sym, subst}
use Rattle.deck_tree.specs.declared.name_at.NameAt.{NameAt}
use Rattle.deck_tree.specs.declared.number.Number.{Number}
use Rattle.deck_tree.specs.declared.value.Value.{roll-Value}
use Rattle.deck_tree.specs.declared.value.Addend.{roll-Addend}
use Rattle.deck_tree.specs.declared.value.AddSign.TheVariants as add_sign
use Rattle.deck_tree.specs.declared.value.Product.{roll-Product}
use Rattle.deck_tree.specs.declared.value.ProductSign.TheVariants as product_sign
use Rattle.deck_tree.specs.declared.value.Factor.{roll-Factor}
use Rattle.deck_tree.specs.declared.value.Power.{roll-Power}
use Rattle.deck_tree.specs.declared.value.Exponent.{roll-Exponent}
use Rattle.deck_tree.specs.declared.value.Atom.TheVariants as atoms
use Rattle.deck_grammar.specs.declared.sign.Sign.TheVariants as s
use Rattle.deck_grammar.specs.declared.kind.Kind.TheVariants as kinds
use Rattle.deck_grammar.specs.Lexemes.{name_of, number_of}
use Rattle.deck_grammar.specs.Rules as r
use Rattle.deck_grammar.specs.Rules.{Tree}
use Rattle.deck_grammar.specs.Alternatives as a
use Rattle.deck_grammar.specs.Alternatives.{Alternative, production, no_options, relation_word, edge_word}
use Rattle.deck_cursor.specs.Places.{Place}
use Rattle.deck_cursor.specs.Steps.{ended, taken, chosen, Reads}
use Rattle.deck_tree.specs.declared.value.AddSign.{AddSign}
use Rattle.deck_tree.specs.declared.value.ProductSign.{ProductSign}
use Rattle.deck_builder.specs.Reading.{TakenAt, Means, Precedes, ReadsAtom}
use Rattle.deck_builder.specs.Signs.{sign_of_addend, sign_of_factor}

pub value_of : {from p1 to : Place} {first_ : Tree r.product} {more_ : Tree r.addends}
    → Reads r.product from p1 first_
    → Reads r.addends p1 to more_
    → Reads r.value from to (roll-Value (record { first = first_; more = more_ }))
value_of h0 h1 =
    record { alternative = a.value_of; steps = chosen h0.alternative h0.steps (chosen h1.alternative h1.steps (ended refl)) }

pub plus : {from p1 p2 to : Place} {at_plus : ℕ} {p_ : Tree r.product} {more_ : Tree r.addends}
    → TakenAt (kinds.Sign s.Plus) from p1 at_plus
    → Reads r.product p1 p2 p_
    → Reads r.addends p2 to more_
    → Reads r.addends from to (roll-Addend (record { at = at_plus; sign = add_sign.Plus; product = p_ }) ∷ more_)
plus h0 h1 h2 =
    record { alternative = a.plus; steps = taken _ h0.takes refl (chosen h1.alternative h1.steps (chosen h2.alternative h2.steps (ended refl))) }

pub minus : {from p1 p2 to : Place} {at_minus : ℕ} {p_ : Tree r.product} {more_ : Tree r.addends}
    → TakenAt (kinds.Sign s.Minus) from p1 at_minus
    → Reads r.product p1 p2 p_
    → Reads r.addends p2 to more_
    → Reads r.addends from to (roll-Addend (record { at = at_minus; sign = add_sign.Minus; product = p_ }) ∷ more_)
minus h0 h1 h2 =
    record { alternative = a.minus; steps = taken _ h0.takes refl (chosen h1.alternative h1.steps (chosen h2.alternative h2.steps (ended refl))) }

pub product_of : {from p1 to : Place} {first_ : Tree r.power} {more_ : Tree r.factors}
    → Reads r.power from p1 first_
    → Reads r.factors p1 to more_
    → Reads r.product from to (roll-Product (record { first = first_; more = more_ }))
product_of h0 h1 =
    record { alternative = a.product_of; steps = chosen h0.alternative h0.steps (chosen h1.alternative h1.steps (ended refl)) }

pub times : {from p1 p2 to : Place} {at_times : ℕ} {p_ : Tree r.power} {more_ : Tree r.factors}
    → TakenAt (kinds.Sign s.Times) from p1 at_times
    → Reads r.power p1 p2 p_
    → Reads r.factors p2 to more_
    → Reads r.factors from to (roll-Factor (record { at = at_times; sign = product_sign.Times; power = p_ }) ∷ more_)
times h0 h1 h2 =
    record { alternative = a.times; steps = taken _ h0.takes refl (chosen h1.alternative h1.steps (chosen h2.alternative h2.steps (ended refl))) }

pub over : {from p1 p2 to : Place} {at_over : ℕ} {p_ : Tree r.power} {more_ : Tree r.factors}
    → TakenAt (kinds.Sign s.Over) from p1 at_over
    → Reads r.power p1 p2 p_
    → Reads r.factors p2 to more_
    → Reads r.factors from to (roll-Factor (record { at = at_over; sign = product_sign.Over; power = p_ }) ∷ more_)
over h0 h1 h2 =
    record { alternative = a.over; steps = taken _ h0.takes refl (chosen h1.alternative h1.steps (chosen h2.alternative h2.steps (ended refl))) }

pub modulo : {from p1 p2 to : Place} {at_modulo : ℕ} {p_ : Tree r.power} {more_ : Tree r.factors}
    → TakenAt (kinds.Sign s.Modulo) from p1 at_modulo
    → Reads r.power p1 p2 p_
    → Reads r.factors p2 to more_
    → Reads r.factors from to (roll-Factor (record { at = at_modulo; sign = product_sign.Modulo; power = p_ }) ∷ more_)
modulo h0 h1 h2 =
    record { alternative = a.modulo; steps = taken _ h0.takes refl (chosen h1.alternative h1.steps (chosen h2.alternative h2.steps (ended refl))) }

pub power_of : {from p1 to : Place} {base_ : Tree r.atom} {e_ : Tree r.exponent}
    → Reads r.atom from p1 base_
    → Reads r.exponent p1 to e_
    → Reads r.power from to (roll-Power (record { base = base_; exponent = e_ }))
power_of h0 h1 =
    record { alternative = a.power_of; steps = chosen h0.alternative h0.steps (chosen h1.alternative h1.steps (ended refl)) }

pub an_exponent : {from p1 to : Place} {at_caret : ℕ} {a_ : Tree r.atom}
    → TakenAt (kinds.Sign s.Power) from p1 at_caret
    → Reads r.atom p1 to a_
    → Reads r.exponent from to (Some (roll-Exponent (record { at = at_caret; atom = a_ })))
an_exponent h0 h1 =
    record { alternative = a.an_exponent; steps = taken _ h0.takes refl (chosen h1.alternative h1.steps (ended refl)) }

pub number_atom : {from to : Place} {number_ : Number}
    → Means kinds.Number number_of from to number_
    → Reads r.atom from to (atoms.Number None (number_))
number_atom h0 =
    record { alternative = a.number_atom; steps = taken _ h0.takes refl (ended (let e0 = h0.is in cc)) }

pub name_atom : {from to : Place} {name_ : NameAt}
    → Means kinds.Name name_of from to name_
    → Reads r.atom from to (atoms.Name None (name_))
name_atom h0 =
    record { alternative = a.name_atom; steps = taken _ h0.takes refl (ended (let e0 = h0.is in cc)) }

pub bracketed_atom : {from p1 p2 to : Place} {at_bracket : ℕ} {v_ : Tree r.value} {at_close_bracket : ℕ}
    → TakenAt (kinds.Sign s.LeftRound) from p1 at_bracket
    → Reads r.value p1 p2 v_
    → TakenAt (kinds.Sign s.RightRound) p2 to at_close_bracket
    → Reads r.atom from to (atoms.Bracketed None at_bracket v_)
bracketed_atom h0 h1 h2 =
    record { alternative = a.bracketed_atom; steps = taken _ h0.takes refl (chosen h1.alternative h1.steps (taken _ h2.takes refl (ended refl))) }

pub minus_number : {from p1 to : Place} {at_minus : ℕ} {number_ : Number}
    → TakenAt (kinds.Sign s.Minus) from p1 at_minus
    → Means kinds.Number number_of p1 to number_
    → Reads r.atom from to (atoms.Number (Some at_minus) (number_))
minus_number h0 h1 =
    record { alternative = a.minus_number; steps = taken _ h0.takes refl (taken _ h1.takes refl (ended (let e1 = h1.is in cc))) }

pub minus_name : {from p1 to : Place} {at_minus : ℕ} {name_ : NameAt}
    → TakenAt (kinds.Sign s.Minus) from p1 at_minus
    → Means kinds.Name name_of p1 to name_
    → Reads r.atom from to (atoms.Name (Some at_minus) (name_))
minus_name h0 h1 =
    record { alternative = a.minus_name; steps = taken _ h0.takes refl (taken _ h1.takes refl (ended (let e1 = h1.is in cc))) }

pub minus_bracketed : {from p1 p2 p3 to : Place} {at_minus : ℕ} {at_bracket : ℕ} {v_ : Tree r.value} {at_close_bracket : ℕ}
    → TakenAt (kinds.Sign s.Minus) from p1 at_minus
    → TakenAt (kinds.Sign s.LeftRound) p1 p2 at_bracket
    → Reads r.value p2 p3 v_
    → TakenAt (kinds.Sign s.RightRound) p3 to at_close_bracket
    → Reads r.atom from to (atoms.Bracketed (Some at_minus) at_bracket v_)
minus_bracketed h0 h1 h2 h3 =
    record { alternative = a.minus_bracketed; steps = taken _ h0.takes refl (taken _ h1.takes refl (chosen h2.alternative h2.steps (taken _ h3.takes refl (ended refl)))) }

pub no_exponent : {from to : Place} → to ≡ from → Reads r.exponent from to None
no_exponent {from} {to} is = let P : Place → Type 0 = λ at. Reads r.exponent from at None in subst P (sym is) (record { alternative = a.no_exponent; steps = ended refl })

pub no_addend : {place : Place} → Reads r.addends place place []
no_addend = record { alternative = a.no_addend; steps = ended refl }

pub no_factor : {place : Place} → Reads r.factors place place []
no_factor = record { alternative = a.no_factor; steps = ended refl }

-- behind a minus or not
pub number_behind : {from to : Place} {number : Number} (minus : Option ℕ) → Means kinds.Number number_of from to number
    → ReadsAtom minus from to (atoms.Number minus number)
number_behind None h = number_atom h
number_behind (Some at) h = λ before m. minus_number m h

pub name_behind : {from to : Place} {name : NameAt} (minus : Option ℕ) → Means kinds.Name name_of from to name → ReadsAtom minus from to (atoms.Name minus name)
name_behind None h = name_atom h
name_behind (Some at) h = λ before m. minus_name m h

pub bracketed_behind : {from p1 p2 to : Place} {at close : ℕ} {value : Tree r.value} (minus : Option ℕ)
    → TakenAt (kinds.Sign s.LeftRound) from p1 at
    → Reads r.value p1 p2 value
    → TakenAt (kinds.Sign s.RightRound) p2 to close
    → ReadsAtom minus from to (atoms.Bracketed minus at value)
bracketed_behind None h0 h1 h2 = bracketed_atom h0 h1 h2
bracketed_behind (Some at) h0 h1 h2 = λ before m. minus_bracketed m h0 h1 h2

pub is_addend : {from between to : Place} {at : ℕ} {product : Tree r.product} (is : AddSign) → TakenAt (kinds.Sign (sign_of_addend is)) from between at
    → Reads r.product between to product → Precedes r.addends (λ all. all) from to (roll-Addend (record { at = at; sign = is; product = product }))
is_addend add_sign.Plus h0 h1 = λ behind more h. plus h0 h1 h
is_addend add_sign.Minus h0 h1 = λ behind more h. minus h0 h1 h

pub is_factor : {from between to : Place} {at : ℕ} {power : Tree r.power} (is : ProductSign) → TakenAt (kinds.Sign (sign_of_factor is)) from between at
    → Reads r.power between to power → Precedes r.factors (λ all. all) from to (roll-Factor (record { at = at; sign = is; power = power }))
is_factor product_sign.Times h0 h1 = λ behind more h. times h0 h1 h
is_factor product_sign.Over h0 h1 = λ behind more h. over h0 h1 h
is_factor product_sign.Modulo h0 h1 = λ behind more h. modulo h0 h1 h
