-- A definition is worth one fraction at most.
use Rattle.std.proofs.Common.{◌≡◌, ℕ, zero, suc, List, [], ◌∷◌, ◌++◌, Option, Some, None, refl, sym, ap, subst, ◌∙◌}
use Rattle.std.proofs.lemmas.Option.{same_Some}
use Rattle.std.specs.Prelude.{Result, Ok, Err, slice_get}
use Rattle.std.specs.List.{AllByRecursion}
use Rattle.drc_num.specs.Fractions.{Fraction}
use Rattle.deck_tree.specs.declared.name_at.NameAt.{NameAt}
use Rattle.deck_tree.specs.declared.value.Value.{Value}
use Rattle.deck_tree.specs.Names.{Names}
use Rattle.deck_tree.specs.Worths.{Worth, name_worth, with_minus, joined, value_worth}
use Rattle.deck_names.specs.declared.definition.Scope.TheVariants as scope
use Rattle.deck_uses.specs.UsedNames.{value_names}
use Rattle.deck_definitions.specs.Definitions.{Entry, Meaning, entry, drawn, derived, worth}
use Rattle.deck_graph.specs.Graphs.{number_for}
use Rattle.deck_worths.specs.Worths.{IsWorth, comes_to}
use Rattle.deck_worths.proofs.ByNames.{IsKept, by_names}

-- ---- Lists

module _ {A : Type 0} (P : A → Type 0) where
  pub both_parts : (xs ys : List A) → AllByRecursion P (xs ++ ys) → AllByRecursion P xs × AllByRecursion P ys
  both_parts [] ys all = (tt, all)
  both_parts (x ∷ xs) ys all = let more = both_parts xs ys all.1 in ((all.0, more.0), more.1)

  pub from_places : (xs : List A) → ((k : ℕ) (x : A) → slice_get xs k ≡ Some x → P x) → AllByRecursion P xs
  from_places [] at = tt
  from_places (x ∷ xs) at = (at zero x refl, from_places xs (λ k y. at (suc k) y))

-- ---- Names that are known alike give one worth

abbrev SameWorth : (n m : Names) → List NameAt → Worth → Worth → Type 0
SameWorth n m used v w = AllByRecursion (λ (x : NameAt). n x.name ≡ m x.name) used → v ≡ w

same_kept : (n m : Names) → IsKept n m (SameWorth n m)
same_kept n m = record {
  number = λ x all. refl;
  name = λ x all. ap (name_worth x.at) all.0;
  minus = λ at used v w h all. ap (with_minus at) (h all);
  join = λ by used more a b c d h g all.
      let parts = both_parts (λ (x : NameAt). n x.name ≡ m x.name) used more all in
      ap (λ v. joined by v c) (h parts.0) ∙ ap (λ v. joined by b v) (g parts.1);
}

pub same_worth : (n m : Names) (value : Value) → AllByRecursion (λ (x : NameAt). n x.name ≡ m x.name) (value_names value) → value_worth n value ≡ value_worth m value
same_worth n m value = by_names n m (SameWorth n m) (same_kept n m) value

-- ---- One worth

pub value_of : Meaning → Option Value
value_of (drawn numbers) = None
value_of (derived layer) = None
value_of (worth value) = Some value

pub same_value : (all : List Entry) (i : ℕ) (name other : NameAt) (value more : Value) → slice_get all i ≡ Some (entry name scope.Everywhere (worth value))
    → slice_get all i ≡ Some (entry other scope.Everywhere (worth more)) → value ≡ more
unfolding value_of
same_value all i name other value more e f =
    let same : entry name scope.Everywhere (worth value) ≡ entry other scope.Everywhere (worth more) = same_Some _ _ (sym e ∙ f) in
    same_Some value more (ap (λ (d : Entry). value_of d.meaning) same)

abbrev pub ok_of : {A B : Type 0} → Result A B → Option A
ok_of (Ok a) = Some a
ok_of (Err b) = None

pub same_ok : {A B : Type 0} (a b : A) → ◌≡◌ {A = Result A B} (Ok a) (Ok b) → a ≡ b
same_ok a b e = same_Some a b (ap ok_of e)

pub one_worth : (all : List Entry) (i : ℕ) (q r : Fraction) → IsWorth all i q → IsWorth all i r → q ≡ r
one_worth all i q r (comes_to name value stands said there finds each comes) (comes_to name2 value2 stands2 said2 there2 finds2 each2 comes2) =
    let is : value2 ≡ value = same_value all i name2 name value2 value there2 there in
    let finds3 = subst (λ (v : Value). (k : ℕ) (x : NameAt) → slice_get (value_names v) k ≡ Some x → number_for all scope.Everywhere x.name ≡ Some (stands2 x.name)) is finds2 in
    let each3 = subst (λ (v : Value). (k : ℕ) (x : NameAt) → slice_get (value_names v) k ≡ Some x → IsWorth all (stands2 x.name) (said2 x.name)) is each2 in
    let comes3 = subst (λ (v : Value). value_worth (λ n. Some (Some (said2 n))) v ≡ Ok r) is comes2 in
    let agree = from_places (λ (x : NameAt). ◌≡◌ {A = Option (Option Fraction)} (Some (Some (said x.name))) (Some (Some (said2 x.name)))) (value_names value)
    (λ k x e.
    let number : stands2 x.name ≡ stands x.name = same_Some _ _ (sym (finds3 k x e) ∙ finds k x e) in
    ap (λ (f : Fraction). Some (Some f)) (one_worth all (stands x.name) (said x.name) (said2 x.name) (each k x e) (subst (λ j. IsWorth all j (said2 x.name)) number (each3 k x e)))) in
    same_ok q r (sym comes ∙ (same_worth (λ n. Some (Some (said n))) (λ n. Some (Some (said2 n))) value agree ∙ comes3))
