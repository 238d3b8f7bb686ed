-- To what a value comes rests on its names alone: what is kept by each part is kept by the whole.
use Rattle.std.proofs.Common.{◌≡◌, ℕ, List, [], ◌∷◌, ◌++◌, map, Option, Some, None, refl, sym, subst, append-nil, append_assoc}
use Rattle.std.specs.Prelude.{Result}
use Rattle.std.specs.List.{AllByRecursion}
use Rattle.drc_num.specs.Fractions.{Fraction}
use Rattle.deck_tree.specs.declared.name_at.NameAt.{NameAt}
use Rattle.deck_tree.specs.declared.number.Number.{Number}
use Rattle.deck_tree.specs.declared.value_fault.ValueFault.{ValueFault}
use Rattle.deck_tree.specs.declared.value.Atom.{Atom, roll-Atom}
use Rattle.deck_tree.specs.declared.value.Atom.TheOpen.{Atom-F, Addend-F, Exponent-F, Factor-F, Power-F, Product-F, Value-F}
use Rattle.deck_tree.specs.declared.value.Atom.TheFolds.{fold-roll-Atom, fold-roll-Addend, fold-roll-Exponent, fold-roll-Factor, fold-roll-Power, fold-roll-Product, fold-roll-Value, ind-Value, map-Atom, map-Power}
use Rattle.deck_tree.specs.declared.value.Addend.{Addend, roll-Addend}
use Rattle.deck_tree.specs.declared.value.Exponent.{Exponent, roll-Exponent}
use Rattle.deck_tree.specs.declared.value.Factor.{Factor, roll-Factor}
use Rattle.deck_tree.specs.declared.value.Power.{Power, roll-Power}
use Rattle.deck_tree.specs.declared.value.Product.{Product, roll-Product}
use Rattle.deck_tree.specs.declared.value.Value.{Value, roll-Value}
use Rattle.deck_tree.specs.Names.{Names}
use Rattle.deck_tree.specs.Worths.{Worth, Step, number_worth, name_worth, with_minus, joined, chain, atom_level, addend_level, exponent_level, factor_level, power_level, product_level, value_level, atom_worth, power_worth, product_worth, value_worth}
use Rattle.deck_tree.specs.Working.Answers.{addend_step as addend_of, exponent_step as exponent_of, factor_step as factor_of}
use Rattle.deck_uses.specs.UsedNames.{Used, joined as all_of, atom_step, addend_step, exponent_step, factor_step, power_step, product_step, value_step, atom_names, addend_names, exponent_names, factor_names, power_names, product_names, value_names}
use Rattle.list_facts.proofs.Members.{each}

-- what holds of the names of a part and of what it comes to by two functions of names, wherever it holds of its parts
pub record IsKept (n m : Names) (P : List NameAt → Worth → Worth → Type 0) : Type 0 where
  pub number : (x : Number) → P [] (number_worth x) (number_worth x)
  pub name : (x : NameAt) → P (x ∷ []) (name_worth x.at (n x.name)) (name_worth x.at (m x.name))
  pub minus : (at : Option ℕ) (used : List NameAt) (v w : Worth) → P used v w → P used (with_minus at v) (with_minus at w)
  pub join : (by : Fraction → Fraction → Result Fraction ValueFault) (used more : List NameAt) (a b c d : Worth) → P used a b → P more c d
      → P (used ++ more) (joined by a c) (joined by b d)

abbrev AtomF : Type 0
AtomF = Atom-F Atom Addend Exponent Factor Power Product Value

abbrev PowerF : Type 0
PowerF = Power-F Atom Addend Exponent Factor Power Product Value

module _ (n m : Names) (P : List NameAt → Worth → Worth → Type 0) (kept : IsKept n m P) where
  -- ---- Steps of chains

  abbrev Alike : List NameAt → Step → Step → Type 0
  Alike used s t = (s.by ≡ t.by) × P used s.right t.right

  moved : (used used2 : List NameAt) (v v2 w w2 : Worth) → used2 ≡ used → v2 ≡ v → w2 ≡ w → P used v w → P used2 v2 w2
  moved used used2 v v2 w w2 e f g h = subst (λ u. P u v2 w2) (sym e) (subst (λ y. P used y w2) (sym f) (subst (λ z. P used v z) (sym g) h))

  alike : (used used2 : List NameAt) (s s2 t t2 : Step) → used2 ≡ used → s2 ≡ s → t2 ≡ t → Alike used s t → Alike used2 s2 t2
  alike used used2 s s2 t t2 e f g h = subst (λ u. Alike u s2 t2) (sym e) (subst (λ y. Alike used y t2) (sym f) (subst (λ z. Alike used s z) (sym g) h))

  step_joined : (used more : List NameAt) (a b : Worth) (s t : Step) → P used a b → Alike more s t → P (used ++ more) (joined s.by a s.right) (joined t.by b t.right)
  step_joined used more a b s t p h =
      subst (λ by. P (used ++ more) (joined s.by a s.right) (joined by b t.right)) h.0 (kept.join s.by used more a b s.right t.right p h.1)

  chained : {A : Type 0} (names : A → List NameAt) (f g : A → Step) (xs : List A) → AllByRecursion (λ x. Alike (names x) (f x) (g x)) xs → (used : List NameAt) (a b : Worth)
      → P used a b → P (used ++ all_of (map names xs)) (chain a (map f xs)) (chain b (map g xs))
  chained names f g [] all used a b p = subst (λ u. P u a b) (sym (append-nil used)) p
  chained names f g (x ∷ xs) all used a b p =
      subst (λ u. P u (chain (joined (f x).by a (f x).right) (map f xs)) (chain (joined (g x).by b (g x).right) (map g xs))) (append_assoc used (names x) (all_of (map names xs)))
      (chained names f g xs all.1 (used ++ names x) (joined (f x).by a (f x).right) (joined (g x).by b (g x).right) (step_joined used (names x) a b (f x) (g x) p all.0))

  -- ---- Each part from its parts

  abbrev K-atom : Atom → Type 0
  K-atom x = P (atom_names x) (atom_worth n x) (atom_worth m x)

  abbrev K-addend : Addend → Type 0
  K-addend x = Alike (addend_names x) (addend_of n x) (addend_of m x)

  abbrev K-exponent : Exponent → Type 0
  K-exponent x = Alike (exponent_names x) (exponent_of n x) (exponent_of m x)

  abbrev K-factor : Factor → Type 0
  K-factor x = Alike (factor_names x) (factor_of n x) (factor_of m x)

  abbrev K-power : Power → Type 0
  K-power x = P (power_names x) (power_worth n x) (power_worth m x)

  abbrev K-product : Product → Type 0
  K-product x = P (product_names x) (product_worth n x) (product_worth m x)

  abbrev K-value : Value → Type 0
  K-value x = P (value_names x) (value_worth n x) (value_worth m x)

  abbrev AtomKept : AtomF → Type 0
  AtomKept (Atom-F.Number minus number) = Unit {0}
  AtomKept (Atom-F.Name minus name) = Unit {0}
  AtomKept (Atom-F.Bracketed minus at value) = K-value value

  atom_case : (x : AtomF) → AtomKept x → K-atom (roll-Atom x)
  atom_case (Atom-F.Number minus number) holds =
      moved _ _ _ _ _ _
      (fold-roll-Atom Used Used Used Used Used Used Used atom_step addend_step exponent_step factor_step power_step product_step value_step (Atom-F.Number minus number))
      (fold-roll-Atom Worth Step Step Step Worth Worth Worth (atom_level n) addend_level exponent_level factor_level power_level product_level value_level (Atom-F.Number minus number))
      (fold-roll-Atom Worth Step Step Step Worth Worth Worth (atom_level m) addend_level exponent_level factor_level power_level product_level value_level (Atom-F.Number minus number))
      (kept.minus minus [] (number_worth number) (number_worth number) (kept.number number))
  atom_case (Atom-F.Name minus name) holds =
      moved _ _ _ _ _ _
      (fold-roll-Atom Used Used Used Used Used Used Used atom_step addend_step exponent_step factor_step power_step product_step value_step (Atom-F.Name minus name))
      (fold-roll-Atom Worth Step Step Step Worth Worth Worth (atom_level n) addend_level exponent_level factor_level power_level product_level value_level (Atom-F.Name minus name))
      (fold-roll-Atom Worth Step Step Step Worth Worth Worth (atom_level m) addend_level exponent_level factor_level power_level product_level value_level (Atom-F.Name minus name))
      (kept.minus minus (name ∷ []) (name_worth name.at (n name.name)) (name_worth name.at (m name.name)) (kept.name name))
  atom_case (Atom-F.Bracketed minus at value) holds =
      moved _ _ _ _ _ _
      (fold-roll-Atom Used Used Used Used Used Used Used atom_step addend_step exponent_step factor_step power_step product_step value_step (Atom-F.Bracketed minus at value))
      (fold-roll-Atom Worth Step Step Step Worth Worth Worth (atom_level n) addend_level exponent_level factor_level power_level product_level value_level (Atom-F.Bracketed minus at value))
      (fold-roll-Atom Worth Step Step Step Worth Worth Worth (atom_level m) addend_level exponent_level factor_level power_level product_level value_level (Atom-F.Bracketed minus at value))
      (kept.minus minus (value_names value) (value_worth n value) (value_worth m value) holds)

  addend_case : (x : Addend-F Atom Addend Exponent Factor Power Product Value) → K-product x.product → K-addend (roll-Addend x)
  addend_case x holds =
      alike _ _ _ _ _ _
      (fold-roll-Addend Used Used Used Used Used Used Used atom_step addend_step exponent_step factor_step power_step product_step value_step x)
      (fold-roll-Addend Worth Step Step Step Worth Worth Worth (atom_level n) addend_level exponent_level factor_level power_level product_level value_level x)
      (fold-roll-Addend Worth Step Step Step Worth Worth Worth (atom_level m) addend_level exponent_level factor_level power_level product_level value_level x)
      (refl, holds)

  exponent_case : (x : Exponent-F Atom Addend Exponent Factor Power Product Value) → K-atom x.atom → K-exponent (roll-Exponent x)
  exponent_case x holds =
      alike _ _ _ _ _ _
      (fold-roll-Exponent Used Used Used Used Used Used Used atom_step addend_step exponent_step factor_step power_step product_step value_step x)
      (fold-roll-Exponent Worth Step Step Step Worth Worth Worth (atom_level n) addend_level exponent_level factor_level power_level product_level value_level x)
      (fold-roll-Exponent Worth Step Step Step Worth Worth Worth (atom_level m) addend_level exponent_level factor_level power_level product_level value_level x)
      (refl, holds)

  factor_case : (x : Factor-F Atom Addend Exponent Factor Power Product Value) → K-power x.power → K-factor (roll-Factor x)
  factor_case x holds =
      alike _ _ _ _ _ _
      (fold-roll-Factor Used Used Used Used Used Used Used atom_step addend_step exponent_step factor_step power_step product_step value_step x)
      (fold-roll-Factor Worth Step Step Step Worth Worth Worth (atom_level n) addend_level exponent_level factor_level power_level product_level value_level x)
      (fold-roll-Factor Worth Step Step Step Worth Worth Worth (atom_level m) addend_level exponent_level factor_level power_level product_level value_level x)
      (refl, holds)

  abbrev ExponentKept : Option Exponent → Type 0
  ExponentKept None = Unit {0}
  ExponentKept (Some exponent) = K-exponent exponent

  power_case : (base : Atom) (exponent : Option Exponent) → K-atom base → ExponentKept exponent → K-power (roll-Power (record { base = base; exponent = exponent }))
  power_case base None holds more =
      moved _ _ _ _ _ _
      (fold-roll-Power Used Used Used Used Used Used Used atom_step addend_step exponent_step factor_step power_step product_step value_step (record { base = base; exponent = None }))
      (fold-roll-Power Worth Step Step Step Worth Worth Worth (atom_level n) addend_level exponent_level factor_level power_level product_level value_level (record { base = base; exponent = None }))
      (fold-roll-Power Worth Step Step Step Worth Worth Worth (atom_level m) addend_level exponent_level factor_level power_level product_level value_level (record { base = base; exponent = None }))
      (subst (λ u. P u (atom_worth n base) (atom_worth m base)) (sym (append-nil (atom_names base))) holds)
  power_case base (Some exponent) holds more =
      moved _ _ _ _ _ _
      (fold-roll-Power Used Used Used Used Used Used Used atom_step addend_step exponent_step factor_step power_step product_step value_step (record { base = base; exponent = Some exponent }))
      (fold-roll-Power Worth Step Step Step Worth Worth Worth (atom_level n) addend_level exponent_level factor_level power_level product_level value_level (record { base = base; exponent = Some exponent }))
      (fold-roll-Power Worth Step Step Step Worth Worth Worth (atom_level m) addend_level exponent_level factor_level power_level product_level value_level (record { base = base; exponent = Some exponent }))
      (step_joined (atom_names base) (exponent_names exponent) (atom_worth n base) (atom_worth m base) (exponent_of n exponent) (exponent_of m exponent) holds more)

  product_case : (x : Product-F Atom Addend Exponent Factor Power Product Value) → K-power x.first → AllByRecursion K-factor x.more → K-product (roll-Product x)
  product_case x first more =
      moved _ _ _ _ _ _
      (fold-roll-Product Used Used Used Used Used Used Used atom_step addend_step exponent_step factor_step power_step product_step value_step x)
      (fold-roll-Product Worth Step Step Step Worth Worth Worth (atom_level n) addend_level exponent_level factor_level power_level product_level value_level x)
      (fold-roll-Product Worth Step Step Step Worth Worth Worth (atom_level m) addend_level exponent_level factor_level power_level product_level value_level x)
      (chained factor_names (factor_of n) (factor_of m) x.more more (power_names x.first) (power_worth n x.first) (power_worth m x.first) first)

  value_case : (x : Value-F Atom Addend Exponent Factor Power Product Value) → K-product x.first → AllByRecursion K-addend x.more → K-value (roll-Value x)
  value_case x first more =
      moved _ _ _ _ _ _
      (fold-roll-Value Used Used Used Used Used Used Used atom_step addend_step exponent_step factor_step power_step product_step value_step x)
      (fold-roll-Value Worth Step Step Step Worth Worth Worth (atom_level n) addend_level exponent_level factor_level power_level product_level value_level x)
      (fold-roll-Value Worth Step Step Step Worth Worth Worth (atom_level m) addend_level exponent_level factor_level power_level product_level value_level x)
      (chained addend_names (addend_of n) (addend_of m) x.more more (product_names x.first) (product_worth n x.first) (product_worth m x.first) first)

  -- ---- All values

  atom_such : (y : Atom-F ((x : Atom) × K-atom x) ((x : Addend) × K-addend x) ((x : Exponent) × K-exponent x) ((x : Factor) × K-factor x) ((x : Power) × K-power x) ((x : Product) × K-product x) ((x : Value) × K-value x))
      → AtomKept (map-Atom _ _ _ _ _ _ _ Atom Addend Exponent Factor Power Product Value (λ e. e.0) (λ e. e.0) (λ e. e.0) (λ e. e.0) (λ e. e.0) (λ e. e.0) (λ e. e.0) y)
  atom_such (Atom-F.Number minus number) = tt
  atom_such (Atom-F.Name minus name) = tt
  atom_such (Atom-F.Bracketed minus at value) = value.1

  power_such : (base : (x : Atom) × K-atom x) (exponent : Option ((x : Exponent) × K-exponent x))
      → ExponentKept (map-Power ((x : Atom) × K-atom x) ((x : Addend) × K-addend x) ((x : Exponent) × K-exponent x) ((x : Factor) × K-factor x) ((x : Power) × K-power x) ((x : Product) × K-product x) ((x : Value) × K-value x) Atom Addend Exponent Factor Power Product Value (λ e. e.0) (λ e. e.0) (λ e. e.0) (λ e. e.0) (λ e. e.0) (λ e. e.0) (λ e. e.0) (record { base = base; exponent = exponent })).exponent
  power_such base None = tt
  power_such base (Some exponent) = exponent.1

  pub by_names : (value : Value) → K-value value
  by_names = ind-Value K-atom K-addend K-exponent K-factor K-power K-product K-value
      (λ x y is. atom_case x (subst AtomKept is (atom_such y)))
      (λ x y is. addend_case x (subst (λ z. K-product z.product) is y.product.1))
      (λ x y is. exponent_case x (subst (λ z. K-atom z.atom) is y.atom.1))
      (λ x y is. factor_case x (subst (λ z. K-power z.power) is y.power.1))
      (λ x y is. power_case x.base x.exponent (subst (λ z. K-atom z.base) is y.base.1) (subst (λ z. ExponentKept z.exponent) is (power_such y.base y.exponent)))
      (λ x y is. product_case x (subst (λ z. K-power z.first) is y.first.1) (subst (λ z. AllByRecursion K-factor z.more) is (each K-factor y.more)))
      (λ x y is. value_case x (subst (λ z. K-product z.first) is y.first.1) (subst (λ z. AllByRecursion K-addend z.more) is (each K-addend y.more)))
