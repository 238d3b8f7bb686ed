-- Where a value comes to a fraction each name in it does; and where each name does and the value doesn't, it has a fault.
use Rattle.std.proofs.Common.{◌≡◌, ◌⊎◌, inl, inr, ℕ, zero, suc, List, [], ◌∷◌, ◌++◌, Option, Some, None, refl, sym, ap, subst}
use Rattle.std.proofs.lemmas.Option.{none-some, same_Some}
use Rattle.std.specs.Prelude.{Result, Ok, Err, slice_get}
use Rattle.std.specs.List.{AllByRecursion}
use Rattle.drc_num.specs.Fractions.{Fraction}
use Rattle.deck_tree.specs.declared.name_at.NameAt.{NameAt}
use Rattle.deck_tree.specs.declared.value.Value.{Value}
use Rattle.deck_tree.specs.declared.value_fault.ValueFault.{ValueFault}
use Rattle.deck_tree.specs.Names.{Names}
use Rattle.deck_tree.specs.Worths.{Worth, alone, name_worth, with_minus, negative, joined, value_worth}
use Rattle.deck_uses.specs.UsedNames.{value_names}
use Rattle.deck_worths.specs.Worths.{HasWorth}
use Rattle.deck_worths.proofs.ByNames.{IsKept, by_names}
use Rattle.deck_worths.proofs.OneWorth.{ok_of, both_parts}

module _ {A : Type 0} (P : A → Type 0) where
  pub both_together : (xs ys : List A) → AllByRecursion P xs → AllByRecursion P ys → AllByRecursion P (xs ++ ys)
  both_together [] ys all more = more
  both_together (x ∷ xs) ys all more = (all.0, both_together xs ys all.1 more)

  pub at_place : (xs : List A) (k : ℕ) (x : A) → AllByRecursion P xs → slice_get xs k ≡ Some x → P x
  at_place [] k x all e = absurd (none-some x e)
  at_place (y ∷ ys) zero x all e = subst P (same_Some y x e) all.0
  at_place (y ∷ ys) (suc k) x all e = at_place ys k x all.1 e

pub no_fault : {A B : Type 0} (f : B) (q : A) → ◌≡◌ {A = Result A B} (Err f) (Ok q) → ⊥
no_fault f q e = none-some q (ap ok_of e)

-- ---- Of a value that comes to a fraction

of_name : (n : Names) (x : NameAt) (o : Option (Option Fraction)) → n x.name ≡ o → (q : Fraction) → name_worth x.at o ≡ Ok q → HasWorth n x
of_name n x None p q e = absurd (no_fault _ q e)
of_name n x (Some None) p q e = absurd (no_fault _ q e)
of_name n x (Some (Some r)) p q e = (r, p)

of_minus : (at : Option ℕ) (v : Worth) (q : Fraction) → with_minus at v ≡ Ok q → (r : Fraction) × (v ≡ Ok r)
of_minus None v q e = (q, e)
of_minus (Some at) (Ok r) q e = (r, refl)
of_minus (Some at) (Err faults) q e = absurd (no_fault faults q e)

of_parts : (by : Fraction → Fraction → Result Fraction ValueFault) (a c : Worth) (q : Fraction) → joined by a c ≡ Ok q
    → (r : Fraction) × (s : Fraction) × (a ≡ Ok r) × (c ≡ Ok s)
of_parts by (Ok r) (Ok s) q e = (r, s, refl, refl)
of_parts by (Ok r) (Err more) q e = absurd (no_fault more q e)
of_parts by (Err faults) (Ok s) q e = absurd (no_fault faults q e)
of_parts by (Err faults) (Err more) q e = absurd (no_fault (faults ++ more) q e)

abbrev AllHave : Names → List NameAt → Worth → Worth → Type 0
AllHave n used v w = (q : Fraction) → v ≡ Ok q → AllByRecursion (HasWorth n) used

have_kept : (n : Names) → IsKept n n (AllHave n)
have_kept n = record {
  number = λ x q e. tt;
  name = λ x q e. (of_name n x (n x.name) refl q e, tt);
  minus = λ at used v w h q e. let r = of_minus at v q e in h r.0 r.1;
  join = λ by used more a b c d h g q e.
      let p = of_parts by a c q e in
      both_together (HasWorth n) used more (h p.0 p.2) (g p.1 p.3);
}

pub have_worths : (n : Names) (value : Value) (q : Fraction) → value_worth n value ≡ Ok q → AllByRecursion (HasWorth n) (value_names value)
have_worths n value = by_names n n (AllHave n) (have_kept n) value

-- ---- Of a value whose names all come to fractions

abbrev HasAny : Worth → Type 0
HasAny (Ok q) = Unit {0}
HasAny (Err []) = ⊥
HasAny (Err (f ∷ faults)) = Unit {0}

any_alone : (r : Result Fraction ValueFault) → HasAny (alone r)
any_alone (Ok q) = tt
any_alone (Err f) = tt

any_minus : (at : Option ℕ) (v : Worth) → HasAny v → HasAny (with_minus at v)
any_minus None v any = any
any_minus (Some at) (Ok q) any = any_alone (negative at q)
any_minus (Some at) (Err faults) any = any

any_joined : (by : Fraction → Fraction → Result Fraction ValueFault) (a c : Worth) → HasAny a → HasAny c → HasAny (joined by a c)
any_joined by (Ok r) (Ok s) any more = any_alone (by r s)
any_joined by (Ok r) (Err faults) any more = more
any_joined by (Err faults) (Ok s) any more = any
any_joined by (Err []) (Err gs) any more = absurd any
any_joined by (Err (f ∷ fs)) (Err gs) any more = tt

any_name : (n : Names) (x : NameAt) → HasWorth n x → HasAny (name_worth x.at (n x.name))
any_name n x (q, e) = subst (λ o. HasAny (name_worth x.at o)) (sym e) tt

abbrev AnyWhere : Names → List NameAt → Worth → Worth → Type 0
AnyWhere n used v w = AllByRecursion (HasWorth n) used → HasAny v

any_kept : (n : Names) → IsKept n n (AnyWhere n)
any_kept n = record {
  number = λ x all. any_alone _;
  name = λ x all. any_name n x all.0;
  minus = λ at used v w h all. any_minus at v (h all);
  join = λ by used more a b c d h g all.
      let parts = both_parts (HasWorth n) used more all in
      any_joined by a c (h parts.0) (g parts.1);
}

told : (w : Worth) → HasAny w → ((q : Fraction) × (w ≡ Ok q)) ⊎ ((f : ValueFault) × (more : List ValueFault) × (w ≡ Err (f ∷ more)))
told (Ok q) any = inl (q, refl)
told (Err []) any = absurd any
told (Err (f ∷ more)) any = inr (f, more, refl)

pub worth_or_fault : (n : Names) (value : Value) → AllByRecursion (HasWorth n) (value_names value)
    → ((q : Fraction) × (value_worth n value ≡ Ok q)) ⊎ ((f : ValueFault) × (more : List ValueFault) × (value_worth n value ≡ Err (f ∷ more)))
worth_or_fault n value all = told (value_worth n value) (by_names n n (AnyWhere n) (any_kept n) value all)
