-- The canonical text of values is spelled by the grammar as they are, but for places.
use Rattle.std.proofs.Common.{◌≡◌, ℕ, suc, max, Bool, true, ◌&&◌, List, [], ◌∷◌, ◌++◌, map, Option, Some, None, refl, sym, ap, subst}
use Rattle.std.specs.List.{concat, AllByRecursion}
use Rattle.std.specs.Option.{option_map}
use Rattle.deck_tree.specs.declared.value.AddSign.{AddSign}
use Rattle.deck_tree.specs.declared.value.AddSign.TheVariants as add_sign
use Rattle.deck_tree.specs.declared.value.ProductSign.{ProductSign}
use Rattle.deck_tree.specs.declared.value.ProductSign.TheVariants as product_sign
use Rattle.deck_tree.specs.declared.value.Atom.{Atom, roll-Atom}
use Rattle.deck_tree.specs.declared.value.Atom.TheOpen.{Atom-F, Addend-F, Exponent-F, Factor-F, Power-F, Product-F, Value-F}
use Rattle.deck_tree.specs.declared.value.Atom.TheFolds.{fold-Atom, fold-Addend, fold-Exponent, fold-Factor, fold-Power, fold-Product, fold-roll-Atom, fold-roll-Addend, fold-roll-Exponent, fold-roll-Factor, fold-roll-Power, fold-roll-Product, fold-roll-Value, ind-Value, map-Atom, map-Power}
use Rattle.deck_tree.specs.declared.value.Addend.{Addend, roll-Addend}
use Rattle.deck_tree.specs.declared.value.Exponent.{Exponent, roll-Exponent}
use Rattle.deck_tree.specs.declared.value.Factor.{Factor, roll-Factor}
use Rattle.deck_tree.specs.declared.value.Power.{Power, roll-Power}
use Rattle.deck_tree.specs.declared.value.Product.{Product, roll-Product}
use Rattle.deck_tree.specs.declared.value.Value.{Value, roll-Value}
use Rattle.deck_tree.specs.WellFormed.{all_hold, is_formed_atom, is_formed_power, is_formed_value, deepest, depth_of_atom, depth_of_power, depth_of_value}
use Rattle.deck_tree.specs.Plain.{plain_value}
use Rattle.deck_grammar.specs.Rules as r
use Rattle.deck_grammar.specs.Alternatives as a
use Rattle.deck_printer.specs.Values.{Text, atom_step, exponent_step, power_step, product_sign_text, factor_step, product_step, add_sign_text, addend_step, value_step, atom_text, addend_text, exponent_text, factor_text, power_text, product_text, value_text, number_text}
use Rattle.deck_round.proofs.Levels.{Fits, unrolled, both_fit, inside, may_open}
use Rattle.deck_round.proofs.Lexing.{Closed, Before}
use Rattle.deck_round.proofs.Parts.{Ruled, nothing, blank_then, token_then, rule_then, last_token, last_rule, in_round, token_space}
use Rattle.deck_round.proofs.Keywords as word
use Rattle.deck_round.proofs.Marks.{name_one, number_one, number_said}
use Rattle.deck_round.proofs.Places.{placeless_atom, placeless_addend, placeless_exponent, placeless_factor, placeless_power, placeless_product}
use Rattle.deck_round.proofs.AlikeValues.{number_alike, name_alike, bracketed_alike, addend_alike, factor_alike, exponent_alike, power_alike, product_alike, value_alike, alike}
use Rattle.list_facts.proofs.Members.{each}

-- ---- The tests of each part, and how deep it is

abbrev pub formed_atom : Atom → Bool
formed_atom =
    fold-Atom Bool Bool Bool Bool Bool Bool Bool
    is_formed_atom (λ addend. addend.product) (λ exponent. exponent.atom) (λ factor. factor.power) is_formed_power
    (λ product. product.first && all_hold product.more) (λ value. value.first && all_hold value.more)

abbrev pub formed_addend : Addend → Bool
formed_addend =
    fold-Addend Bool Bool Bool Bool Bool Bool Bool
    is_formed_atom (λ addend. addend.product) (λ exponent. exponent.atom) (λ factor. factor.power) is_formed_power
    (λ product. product.first && all_hold product.more) (λ value. value.first && all_hold value.more)

abbrev pub formed_exponent : Exponent → Bool
formed_exponent =
    fold-Exponent Bool Bool Bool Bool Bool Bool Bool
    is_formed_atom (λ addend. addend.product) (λ exponent. exponent.atom) (λ factor. factor.power) is_formed_power
    (λ product. product.first && all_hold product.more) (λ value. value.first && all_hold value.more)

abbrev pub formed_factor : Factor → Bool
formed_factor =
    fold-Factor Bool Bool Bool Bool Bool Bool Bool
    is_formed_atom (λ addend. addend.product) (λ exponent. exponent.atom) (λ factor. factor.power) is_formed_power
    (λ product. product.first && all_hold product.more) (λ value. value.first && all_hold value.more)

abbrev pub formed_power : Power → Bool
formed_power =
    fold-Power Bool Bool Bool Bool Bool Bool Bool
    is_formed_atom (λ addend. addend.product) (λ exponent. exponent.atom) (λ factor. factor.power) is_formed_power
    (λ product. product.first && all_hold product.more) (λ value. value.first && all_hold value.more)

abbrev pub formed_product : Product → Bool
formed_product =
    fold-Product Bool Bool Bool Bool Bool Bool Bool
    is_formed_atom (λ addend. addend.product) (λ exponent. exponent.atom) (λ factor. factor.power) is_formed_power
    (λ product. product.first && all_hold product.more) (λ value. value.first && all_hold value.more)

abbrev pub depth_atom : Atom → ℕ
depth_atom =
    fold-Atom ℕ ℕ ℕ ℕ ℕ ℕ ℕ
    depth_of_atom (λ addend. addend.product) (λ exponent. exponent.atom) (λ factor. factor.power) depth_of_power
    (λ product. max product.first (deepest product.more)) (λ value. max value.first (deepest value.more))

abbrev pub depth_addend : Addend → ℕ
depth_addend =
    fold-Addend ℕ ℕ ℕ ℕ ℕ ℕ ℕ
    depth_of_atom (λ addend. addend.product) (λ exponent. exponent.atom) (λ factor. factor.power) depth_of_power
    (λ product. max product.first (deepest product.more)) (λ value. max value.first (deepest value.more))

abbrev pub depth_exponent : Exponent → ℕ
depth_exponent =
    fold-Exponent ℕ ℕ ℕ ℕ ℕ ℕ ℕ
    depth_of_atom (λ addend. addend.product) (λ exponent. exponent.atom) (λ factor. factor.power) depth_of_power
    (λ product. max product.first (deepest product.more)) (λ value. max value.first (deepest value.more))

abbrev pub depth_factor : Factor → ℕ
depth_factor =
    fold-Factor ℕ ℕ ℕ ℕ ℕ ℕ ℕ
    depth_of_atom (λ addend. addend.product) (λ exponent. exponent.atom) (λ factor. factor.power) depth_of_power
    (λ product. max product.first (deepest product.more)) (λ value. max value.first (deepest value.more))

abbrev pub depth_power : Power → ℕ
depth_power =
    fold-Power ℕ ℕ ℕ ℕ ℕ ℕ ℕ
    depth_of_atom (λ addend. addend.product) (λ exponent. exponent.atom) (λ factor. factor.power) depth_of_power
    (λ product. max product.first (deepest product.more)) (λ value. max value.first (deepest value.more))

abbrev pub depth_product : Product → ℕ
depth_product =
    fold-Product ℕ ℕ ℕ ℕ ℕ ℕ ℕ
    depth_of_atom (λ addend. addend.product) (λ exponent. exponent.atom) (λ factor. factor.power) depth_of_power
    (λ product. max product.first (deepest product.more)) (λ value. max value.first (deepest value.more))

-- ---- Lists of parts

pub chain : {A : Type 0} (formed : A → Bool) (depth : A → ℕ) (text : A → List ℕ) (n : ℕ) (Holds : ℕ → List ℕ → List A → Type 0) → Holds n [] [] → (xs : List A)
    → AllByRecursion (λ x. (k : ℕ) → Fits (formed x) (depth x) k → (w : List ℕ) (more : List A) → Holds k w more → Holds k (text x ++ w) (x ∷ more)) xs
    → Fits (all_hold (map formed xs)) (deepest (map depth xs)) n → Holds n (concat (map text xs)) xs
chain formed depth text n Holds none [] all fits = none
chain formed depth text n Holds none (x ∷ xs) all fits =
    let both = both_fit (formed x) (all_hold (map formed xs)) (depth x) (deepest (map depth xs)) n fits in
    all.0 n both.0 (concat (map text xs)) xs (chain formed depth text n Holds none xs all.1 both.1)

-- the text is addends, and can stand behind a product
abbrev Addends : ℕ → List ℕ → List Addend → Type 0
Addends n w more = Ruled Closed n r.addends w (λ read. map placeless_addend read ≡ map placeless_addend more) × Before Closed Closed w

no_addends : (n : ℕ) → Addends n [] []
no_addends n = (record { alternative = a.no_addend; spelled = nothing refl }, λ rest e. e)

-- the text is factors, and can stand behind a power
abbrev Factors : ℕ → List ℕ → List Factor → Type 0
Factors n w more = Ruled Closed n r.factors w (λ read. map placeless_factor read ≡ map placeless_factor more) × Before Closed Closed w

no_factors : (n : ℕ) → Factors n [] []
no_factors n = (record { alternative = a.no_factor; spelled = nothing refl }, λ rest e. e)

-- ---- What is shown of each part

abbrev S-atom : Atom → Type 0
S-atom x = (n : ℕ) → Fits (formed_atom x) (depth_atom x) n → Ruled Closed n r.atom (atom_text x) (λ read. placeless_atom read ≡ placeless_atom x)

abbrev S-addend : Addend → Type 0
S-addend x = (n : ℕ) → Fits (formed_addend x) (depth_addend x) n → (w : List ℕ) (more : List Addend) → Addends n w more → Addends n (addend_text x ++ w) (x ∷ more)

abbrev S-exponent : Exponent → Type 0
S-exponent x = (n : ℕ) → Fits (formed_exponent x) (depth_exponent x) n → Ruled Closed n r.exponent (exponent_text x) (λ read. option_map placeless_exponent read ≡ Some (placeless_exponent x)) × Before Closed Closed (exponent_text x)

abbrev S-factor : Factor → Type 0
S-factor x = (n : ℕ) → Fits (formed_factor x) (depth_factor x) n → (w : List ℕ) (more : List Factor) → Factors n w more → Factors n (factor_text x ++ w) (x ∷ more)

abbrev S-power : Power → Type 0
S-power x = (n : ℕ) → Fits (formed_power x) (depth_power x) n → Ruled Closed n r.power (power_text x) (λ read. placeless_power read ≡ placeless_power x)

abbrev S-product : Product → Type 0
S-product x = (n : ℕ) → Fits (formed_product x) (depth_product x) n → Ruled Closed n r.product (product_text x) (λ read. placeless_product read ≡ placeless_product x)

abbrev S-value : Value → Type 0
S-value x = (n : ℕ) → Fits (is_formed_value x) (depth_of_value x) n → Ruled Closed n r.value (value_text x) (λ read. plain_value read ≡ plain_value x)

-- ---- Atoms

abbrev AtomHolds : Atom-F Atom Addend Exponent Factor Power Product Value → Type 0
AtomHolds (Atom-F.Number minus number) = Unit {0}
AtomHolds (Atom-F.Name minus name) = Unit {0}
AtomHolds (Atom-F.Bracketed minus at value) = S-value value

abbrev AtomFits : ℕ → Atom-F Atom Addend Exponent Factor Power Product Value → Type 0
AtomFits n x = Fits (is_formed_atom (map-Atom Atom Addend Exponent Factor Power Product Value Bool Bool Bool Bool Bool Bool Bool formed_atom formed_addend formed_exponent formed_factor formed_power formed_product is_formed_value x)) (depth_of_atom (map-Atom Atom Addend Exponent Factor Power Product Value ℕ ℕ ℕ ℕ ℕ ℕ ℕ depth_atom depth_addend depth_exponent depth_factor depth_power depth_product depth_of_value x)) n

abbrev AtomSpelled : ℕ → Atom-F Atom Addend Exponent Factor Power Product Value → Type 0
AtomSpelled n x = Ruled Closed n r.atom (atom_step (map-Atom Atom Addend Exponent Factor Power Product Value Text Text Text Text Text Text Text atom_text addend_text exponent_text factor_text power_text product_text value_text x)) (λ read. placeless_atom read ≡ placeless_atom (roll-Atom x))

atom_by : (n : ℕ) (x : Atom-F Atom Addend Exponent Factor Power Product Value) → AtomHolds x → AtomFits n x → AtomSpelled n x
atom_by n (Atom-F.Number None number) holds fits = record {
  alternative = a.number_atom;
  spelled = last_token (number_text number) (number_one number fits.is) (λ at. number_alike None None _ number refl (number_said number fits.is at));
}
atom_by n (Atom-F.Number (Some minus) number) holds fits = record {
  alternative = a.minus_number;
  spelled = token_then (45 ∷ []) (number_text number) word.minus_before (λ rest e. tt) (λ place.
      last_token (number_text number) (number_one number fits.is) (λ at. number_alike (Some place) (Some minus) _ number refl (number_said number fits.is at)));
}
atom_by n (Atom-F.Name None name) holds fits = record {
  alternative = a.name_atom;
  spelled = last_token name.name (name_one name.name fits.is) (λ at. name_alike None None _ name refl refl);
}
atom_by n (Atom-F.Name (Some minus) name) holds fits = record {
  alternative = a.minus_name;
  spelled = token_then (45 ∷ []) name.name word.minus_before (λ rest e. tt) (λ place.
      last_token name.name (name_one name.name fits.is) (λ at. name_alike (Some place) (Some minus) _ name refl refl));
}
atom_by n (Atom-F.Bracketed None at value) holds fits = record {
  alternative = a.bracketed_atom;
  spelled = in_round (value_text value) (may_open (is_formed_value value) (depth_of_value value) n fits) (holds (suc n) (inside (is_formed_value value) (depth_of_value value) n fits)) (λ bracket close v same.
      bracketed_alike None None bracket at v value refl same);
}
atom_by n (Atom-F.Bracketed (Some minus) at value) holds fits = record {
  alternative = a.minus_bracketed;
  spelled = token_then (45 ∷ []) (40 ∷ (value_text value ++ 41 ∷ [])) word.minus_before (λ rest e. tt) (λ place.
      in_round (value_text value) (may_open (is_formed_value value) (depth_of_value value) n fits) (holds (suc n) (inside (is_formed_value value) (depth_of_value value) n fits)) (λ bracket close v same.
      bracketed_alike (Some place) (Some minus) bracket at v value refl same));
}

atom_case : (x : Atom-F Atom Addend Exponent Factor Power Product Value) → AtomHolds x → S-atom (roll-Atom x)
atom_case x holds n fits =
    let is : AtomFits n x = unrolled n (fold-roll-Atom Bool Bool Bool Bool Bool Bool Bool is_formed_atom (λ addend. addend.product) (λ exponent. exponent.atom) (λ factor. factor.power) is_formed_power (λ product. product.first && all_hold product.more) (λ value. value.first && all_hold value.more) x) (fold-roll-Atom ℕ ℕ ℕ ℕ ℕ ℕ ℕ depth_of_atom (λ addend. addend.product) (λ exponent. exponent.atom) (λ factor. factor.power) depth_of_power (λ product. max product.first (deepest product.more)) (λ value. max value.first (deepest value.more)) x) fits in
    subst (λ (t : List ℕ). Ruled Closed n r.atom t (λ read. placeless_atom read ≡ placeless_atom (roll-Atom x))) (sym (fold-roll-Atom Text Text Text Text Text Text Text atom_step addend_step exponent_step factor_step power_step product_step value_step x)) (atom_by n x holds is)

-- ---- Addends and factors

addend_by : (place : ℕ) (sign : AddSign) (q : Product) → S-product q → (n : ℕ) → Fits (formed_product q) (depth_product q) n → (w : List ℕ) (more : List Addend) → Addends n w more
    → Addends n ((add_sign_text sign ++ product_text q) ++ w) (roll-Addend (record { at = place; sign = sign; product = q }) ∷ more)
addend_by place add_sign.Plus q holds n fits w more rest = (
  record {
    alternative = a.plus;
    spelled = blank_then 32 (43 ∷ 32 ∷ (product_text q ++ w)) refl (token_space (43 ∷ []) (product_text q ++ w) word.plus (λ at.
        rule_then (product_text q) w (holds n fits) rest.1 (λ p same. last_rule w rest.0 (λ ps all. alike (addend_alike at place add_sign.Plus p q same) all))));
  },
  λ behind e. refl,
)
addend_by place add_sign.Minus q holds n fits w more rest = (
  record {
    alternative = a.minus;
    spelled = blank_then 32 (45 ∷ 32 ∷ (product_text q ++ w)) refl (token_space (45 ∷ []) (product_text q ++ w) word.minus (λ at.
        rule_then (product_text q) w (holds n fits) rest.1 (λ p same. last_rule w rest.0 (λ ps all. alike (addend_alike at place add_sign.Minus p q same) all))));
  },
  λ behind e. refl,
)

addend_case : (x : Addend-F Atom Addend Exponent Factor Power Product Value) → S-product x.product → S-addend (roll-Addend x)
addend_case x holds n fits w more rest =
    let is : Fits (formed_product x.product) (depth_product x.product) n = unrolled n (fold-roll-Addend Bool Bool Bool Bool Bool Bool Bool is_formed_atom (λ addend. addend.product) (λ exponent. exponent.atom) (λ factor. factor.power) is_formed_power (λ product. product.first && all_hold product.more) (λ value. value.first && all_hold value.more) x) (fold-roll-Addend ℕ ℕ ℕ ℕ ℕ ℕ ℕ depth_of_atom (λ addend. addend.product) (λ exponent. exponent.atom) (λ factor. factor.power) depth_of_power (λ product. max product.first (deepest product.more)) (λ value. max value.first (deepest value.more)) x) fits in
    subst (λ (t : List ℕ). Addends n (t ++ w) (roll-Addend x ∷ more)) (sym (fold-roll-Addend Text Text Text Text Text Text Text atom_step addend_step exponent_step factor_step power_step product_step value_step x)) (addend_by x.at x.sign x.product holds n is w more rest)

factor_by : (place : ℕ) (sign : ProductSign) (q : Power) → S-power q → (n : ℕ) → Fits (formed_power q) (depth_power q) n → (w : List ℕ) (more : List Factor) → Factors n w more
    → Factors n ((product_sign_text sign ++ power_text q) ++ w) (roll-Factor (record { at = place; sign = sign; power = q }) ∷ more)
factor_by place product_sign.Times q holds n fits w more rest = (
  record {
    alternative = a.times;
    spelled = blank_then 32 (42 ∷ 32 ∷ (power_text q ++ w)) refl (token_space (42 ∷ []) (power_text q ++ w) word.times (λ at.
        rule_then (power_text q) w (holds n fits) rest.1 (λ p same. last_rule w rest.0 (λ ps all. alike (factor_alike at place product_sign.Times p q same) all))));
  },
  λ behind e. refl,
)
factor_by place product_sign.Over q holds n fits w more rest = (
  record {
    alternative = a.over;
    spelled = blank_then 32 (47 ∷ 32 ∷ (power_text q ++ w)) refl (token_space (47 ∷ []) (power_text q ++ w) word.over (λ at.
        rule_then (power_text q) w (holds n fits) rest.1 (λ p same. last_rule w rest.0 (λ ps all. alike (factor_alike at place product_sign.Over p q same) all))));
  },
  λ behind e. refl,
)
factor_by place product_sign.Modulo q holds n fits w more rest = (
  record {
    alternative = a.modulo;
    spelled = blank_then 32 (37 ∷ 32 ∷ (power_text q ++ w)) refl (token_space (37 ∷ []) (power_text q ++ w) word.modulo (λ at.
        rule_then (power_text q) w (holds n fits) rest.1 (λ p same. last_rule w rest.0 (λ ps all. alike (factor_alike at place product_sign.Modulo p q same) all))));
  },
  λ behind e. refl,
)

factor_case : (x : Factor-F Atom Addend Exponent Factor Power Product Value) → S-power x.power → S-factor (roll-Factor x)
factor_case x holds n fits w more rest =
    let is : Fits (formed_power x.power) (depth_power x.power) n = unrolled n (fold-roll-Factor Bool Bool Bool Bool Bool Bool Bool is_formed_atom (λ addend. addend.product) (λ exponent. exponent.atom) (λ factor. factor.power) is_formed_power (λ product. product.first && all_hold product.more) (λ value. value.first && all_hold value.more) x) (fold-roll-Factor ℕ ℕ ℕ ℕ ℕ ℕ ℕ depth_of_atom (λ addend. addend.product) (λ exponent. exponent.atom) (λ factor. factor.power) depth_of_power (λ product. max product.first (deepest product.more)) (λ value. max value.first (deepest value.more)) x) fits in
    subst (λ (t : List ℕ). Factors n (t ++ w) (roll-Factor x ∷ more)) (sym (fold-roll-Factor Text Text Text Text Text Text Text atom_step addend_step exponent_step factor_step power_step product_step value_step x)) (factor_by x.at x.sign x.power holds n is w more rest)

-- ---- Exponents and powers

abbrev ExponentSpelled : ℕ → List ℕ → Exponent → Type 0
ExponentSpelled n w x = Ruled Closed n r.exponent w (λ read. option_map placeless_exponent read ≡ Some (placeless_exponent x)) × Before Closed Closed w

exponent_case : (x : Exponent-F Atom Addend Exponent Factor Power Product Value) → S-atom x.atom → S-exponent (roll-Exponent x)
exponent_case x holds n fits =
    let is : Fits (formed_atom x.atom) (depth_atom x.atom) n = unrolled n (fold-roll-Exponent Bool Bool Bool Bool Bool Bool Bool is_formed_atom (λ addend. addend.product) (λ exponent. exponent.atom) (λ factor. factor.power) is_formed_power (λ product. product.first && all_hold product.more) (λ value. value.first && all_hold value.more) x) (fold-roll-Exponent ℕ ℕ ℕ ℕ ℕ ℕ ℕ depth_of_atom (λ addend. addend.product) (λ exponent. exponent.atom) (λ factor. factor.power) depth_of_power (λ product. max product.first (deepest product.more)) (λ value. max value.first (deepest value.more)) x) fits in
    let spelled : ExponentSpelled n (32 ∷ 94 ∷ 32 ∷ atom_text x.atom) (roll-Exponent x) = (
      record {
        alternative = a.an_exponent;
        spelled = blank_then 32 (94 ∷ 32 ∷ atom_text x.atom) refl (token_space (94 ∷ []) (atom_text x.atom) word.power (λ at.
            last_rule (atom_text x.atom) (holds n is) (λ b same. ap Some (exponent_alike at x.at b x.atom same))));
      },
      λ behind e. refl,
    ) in
    subst (λ (t : List ℕ). ExponentSpelled n t (roll-Exponent x)) (sym (fold-roll-Exponent Text Text Text Text Text Text Text atom_step addend_step exponent_step factor_step power_step product_step value_step x)) spelled

abbrev ExponentHolds : Option Exponent → Type 0
ExponentHolds None = Unit {0}
ExponentHolds (Some exponent) = S-exponent exponent

no_exponent : (n : ℕ) → Ruled Closed n r.exponent [] (λ read. option_map placeless_exponent read ≡ None)
no_exponent n = record { alternative = a.no_exponent; spelled = nothing refl }

abbrev PowerSpelled : ℕ → List ℕ → Power → Type 0
PowerSpelled n w x = Ruled Closed n r.power w (λ read. placeless_power read ≡ placeless_power x)

power_by : (base : Atom) (exponent : Option Exponent) → S-atom base → ExponentHolds exponent → S-power (roll-Power (record { base = base; exponent = exponent }))
power_by base None holds more n fits =
    let is : Fits (formed_atom base && true) (max (depth_atom base) 0) n = unrolled n (fold-roll-Power Bool Bool Bool Bool Bool Bool Bool is_formed_atom (λ addend. addend.product) (λ exponent. exponent.atom) (λ factor. factor.power) is_formed_power (λ product. product.first && all_hold product.more) (λ value. value.first && all_hold value.more) (record { base = base; exponent = None })) (fold-roll-Power ℕ ℕ ℕ ℕ ℕ ℕ ℕ depth_of_atom (λ addend. addend.product) (λ exponent. exponent.atom) (λ factor. factor.power) depth_of_power (λ product. max product.first (deepest product.more)) (λ value. max value.first (deepest value.more)) (record { base = base; exponent = None })) fits in
    let both = both_fit (formed_atom base) true (depth_atom base) 0 n is in
    let spelled : PowerSpelled n (atom_text base ++ []) (roll-Power (record { base = base; exponent = None })) = record {
      alternative = a.power_of;
      spelled = rule_then (atom_text base) [] (holds n both.0) (λ rest e. e) (λ b same. last_rule [] (no_exponent n) (λ e none. power_alike b base e None same none));
    } in
    subst (λ (t : List ℕ). PowerSpelled n t (roll-Power (record { base = base; exponent = None }))) (sym (fold-roll-Power Text Text Text Text Text Text Text atom_step addend_step exponent_step factor_step power_step product_step value_step (record { base = base; exponent = None }))) spelled
power_by base (Some exponent) holds more n fits =
    let is : Fits (formed_atom base && formed_exponent exponent) (max (depth_atom base) (depth_exponent exponent)) n =
    unrolled n (fold-roll-Power Bool Bool Bool Bool Bool Bool Bool is_formed_atom (λ addend. addend.product) (λ exponent. exponent.atom) (λ factor. factor.power) is_formed_power (λ product. product.first && all_hold product.more) (λ value. value.first && all_hold value.more) (record { base = base; exponent = Some exponent })) (fold-roll-Power ℕ ℕ ℕ ℕ ℕ ℕ ℕ depth_of_atom (λ addend. addend.product) (λ exponent. exponent.atom) (λ factor. factor.power) depth_of_power (λ product. max product.first (deepest product.more)) (λ value. max value.first (deepest value.more)) (record { base = base; exponent = Some exponent })) fits in
    let both = both_fit (formed_atom base) (formed_exponent exponent) (depth_atom base) (depth_exponent exponent) n is in
    let raised = more n both.1 in
    let spelled : PowerSpelled n (atom_text base ++ exponent_text exponent) (roll-Power (record { base = base; exponent = Some exponent })) = record {
      alternative = a.power_of;
      spelled = rule_then (atom_text base) (exponent_text exponent) (holds n both.0) raised.1 (λ b same. last_rule (exponent_text exponent) raised.0 (λ e some. power_alike b base e (Some exponent) same some));
    } in
    subst (λ (t : List ℕ). PowerSpelled n t (roll-Power (record { base = base; exponent = Some exponent }))) (sym (fold-roll-Power Text Text Text Text Text Text Text atom_step addend_step exponent_step factor_step power_step product_step value_step (record { base = base; exponent = Some exponent }))) spelled

power_case : (x : Power-F Atom Addend Exponent Factor Power Product Value) → S-atom x.base → ExponentHolds x.exponent → S-power (roll-Power x)
power_case x base exponent = power_by x.base x.exponent base exponent

-- ---- Products and values

abbrev ProductSpelled : ℕ → List ℕ → Product → Type 0
ProductSpelled n w x = Ruled Closed n r.product w (λ read. placeless_product read ≡ placeless_product x)

product_case : (x : Product-F Atom Addend Exponent Factor Power Product Value) → S-power x.first → AllByRecursion S-factor x.more → S-product (roll-Product x)
product_case x first more n fits =
    let is : Fits (formed_power x.first && all_hold (map formed_factor x.more)) (max (depth_power x.first) (deepest (map depth_factor x.more))) n = unrolled n (fold-roll-Product Bool Bool Bool Bool Bool Bool Bool is_formed_atom (λ addend. addend.product) (λ exponent. exponent.atom) (λ factor. factor.power) is_formed_power (λ product. product.first && all_hold product.more) (λ value. value.first && all_hold value.more) x) (fold-roll-Product ℕ ℕ ℕ ℕ ℕ ℕ ℕ depth_of_atom (λ addend. addend.product) (λ exponent. exponent.atom) (λ factor. factor.power) depth_of_power (λ product. max product.first (deepest product.more)) (λ value. max value.first (deepest value.more)) x) fits in
    let both = both_fit (formed_power x.first) (all_hold (map formed_factor x.more)) (depth_power x.first) (deepest (map depth_factor x.more)) n is in
    let rest = chain formed_factor depth_factor factor_text n Factors (no_factors n) x.more more both.1 in
    let spelled : ProductSpelled n (power_text x.first ++ concat (map factor_text x.more)) (roll-Product x) = record {
      alternative = a.product_of;
      spelled = rule_then (power_text x.first) (concat (map factor_text x.more)) (first n both.0) rest.1 (λ p same.
          last_rule (concat (map factor_text x.more)) rest.0 (λ ps all. product_alike p x.first ps x.more same all));
    } in
    subst (λ (t : List ℕ). ProductSpelled n t (roll-Product x)) (sym (fold-roll-Product Text Text Text Text Text Text Text atom_step addend_step exponent_step factor_step power_step product_step value_step x)) spelled

abbrev ValueSpelled : ℕ → List ℕ → Value → Type 0
ValueSpelled n w x = Ruled Closed n r.value w (λ read. plain_value read ≡ plain_value x)

value_case : (x : Value-F Atom Addend Exponent Factor Power Product Value) → S-product x.first → AllByRecursion S-addend x.more → S-value (roll-Value x)
value_case x first more n fits =
    let is : Fits (formed_product x.first && all_hold (map formed_addend x.more)) (max (depth_product x.first) (deepest (map depth_addend x.more))) n = unrolled n (fold-roll-Value Bool Bool Bool Bool Bool Bool Bool is_formed_atom (λ addend. addend.product) (λ exponent. exponent.atom) (λ factor. factor.power) is_formed_power (λ product. product.first && all_hold product.more) (λ value. value.first && all_hold value.more) x) (fold-roll-Value ℕ ℕ ℕ ℕ ℕ ℕ ℕ depth_of_atom (λ addend. addend.product) (λ exponent. exponent.atom) (λ factor. factor.power) depth_of_power (λ product. max product.first (deepest product.more)) (λ value. max value.first (deepest value.more)) x) fits in
    let both = both_fit (formed_product x.first) (all_hold (map formed_addend x.more)) (depth_product x.first) (deepest (map depth_addend x.more)) n is in
    let rest = chain formed_addend depth_addend addend_text n Addends (no_addends n) x.more more both.1 in
    let spelled : ValueSpelled n (product_text x.first ++ concat (map addend_text x.more)) (roll-Value x) = record {
      alternative = a.value_of;
      spelled = rule_then (product_text x.first) (concat (map addend_text x.more)) (first n both.0) rest.1 (λ p same.
          last_rule (concat (map addend_text x.more)) rest.0 (λ ps all. value_alike p x.first ps x.more same all));
    } in
    subst (λ (t : List ℕ). ValueSpelled n t (roll-Value x)) (sym (fold-roll-Value Text Text Text Text Text Text Text atom_step addend_step exponent_step factor_step power_step product_step value_step x)) spelled

-- ---- All values

abbrev AtomSuch : Atom-F ((x : Atom) × S-atom x) ((x : Addend) × S-addend x) ((x : Exponent) × S-exponent x) ((x : Factor) × S-factor x) ((x : Power) × S-power x) ((x : Product) × S-product x) ((x : Value) × S-value x) → Type 0
AtomSuch y = AtomHolds (map-Atom _ _ _ _ _ _ _ Atom Addend Exponent Factor Power Product Value (λ e. e.0) (λ e. e.0) (λ e. e.0) (λ e. e.0) (λ e. e.0) (λ e. e.0) (λ e. e.0) y)

atom_such : (y : Atom-F ((x : Atom) × S-atom x) ((x : Addend) × S-addend x) ((x : Exponent) × S-exponent x) ((x : Factor) × S-factor x) ((x : Power) × S-power x) ((x : Product) × S-product x) ((x : Value) × S-value x)) → AtomSuch y
atom_such (Atom-F.Number minus number) = tt
atom_such (Atom-F.Name minus name) = tt
atom_such (Atom-F.Bracketed minus at value) = value.1

abbrev PowerSuch : Power-F ((x : Atom) × S-atom x) ((x : Addend) × S-addend x) ((x : Exponent) × S-exponent x) ((x : Factor) × S-factor x) ((x : Power) × S-power x) ((x : Product) × S-product x) ((x : Value) × S-value x) → Type 0
PowerSuch y = ExponentHolds (map-Power _ _ _ _ _ _ _ Atom Addend Exponent Factor Power Product Value (λ e. e.0) (λ e. e.0) (λ e. e.0) (λ e. e.0) (λ e. e.0) (λ e. e.0) (λ e. e.0) y).exponent

power_such_by : (base : (x : Atom) × S-atom x) (exponent : Option ((x : Exponent) × S-exponent x)) → PowerSuch (record { base = base; exponent = exponent })
power_such_by base None = tt
power_such_by base (Some exponent) = exponent.1

pub value_spelled : (value : Value) → S-value value
value_spelled = ind-Value S-atom S-addend S-exponent S-factor S-power S-product S-value
    (λ x y is. atom_case x (subst AtomHolds is (atom_such y)))
    (λ x y is. addend_case x (subst (λ z. S-product z.product) is y.product.1))
    (λ x y is. exponent_case x (subst (λ z. S-atom z.atom) is y.atom.1))
    (λ x y is. factor_case x (subst (λ z. S-power z.power) is y.power.1))
    (λ x y is. power_case x (subst (λ z. S-atom z.base) is y.base.1) (subst (λ z. ExponentHolds z.exponent) is (power_such_by y.base y.exponent)))
    (λ x y is. product_case x (subst (λ z. S-power z.first) is y.first.1) (subst (λ z. AllByRecursion S-factor z.more) is (each S-factor y.more)))
    (λ x y is. value_case x (subst (λ z. S-product z.first) is y.first.1) (subst (λ z. AllByRecursion S-addend z.more) is (each S-addend y.more)))
