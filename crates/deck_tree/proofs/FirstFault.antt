-- The first fault of a list is one of it, and none is before it.
use Rattle.std.proofs.Common.{◌≡◌, ℕ, suc, ◌<◌, Bool, true, false, cond, List, [], ◌∷◌, length, get_or, refl, sym, subst, arith, Option, Some, None}
use Rattle.std.specs.Prelude.{MatchOption, Contains, All}
use Rattle.std.proofs.lemmas.Bool.Decides.{nat_tests}
use Rattle.std.proofs.lemmas.List.Elements.{All-cons}
use Rattle.deck_tree.specs.declared.value_fault.ValueFault.{ValueFault}
use Rattle.deck_tree.specs.Worths.{IsFirstFault, first_fault, first_of_two, is_before, fault_place, fault_number}
use Rattle.deck_tree.proofs.Joined.{before, pick_last}

not_before_itself : (p m : ℕ) → before p m p m ≡ false
not_before_itself p m = grind (arith, nat_tests)

not_both : (p m q n : ℕ) → before q n p m ≡ true → before p m q n ≡ false
not_both p m q n h = grind (arith, nat_tests)

here : (f : ValueFault) (more : List ValueFault) → Contains (f ∷ more) f
here f more = (0, omega arith, refl)

later : (f : ValueFault) (more : List ValueFault) (g : ValueFault) → Contains more g → Contains (f ∷ more) g
later f more g (k, h, e) = (suc k, omega arith, e)

chosen : (f g : ValueFault) (more : List ValueFault) (b : Bool) → is_before g f ≡ b → IsFirstFault g more → MatchOption (cond b (Some g) (Some f)) ((f ∷ more) ≡ []) (λ x. IsFirstFault x (f ∷ more))
chosen f g more true e h = record {
  one = later f more g h.one;
  first = All-cons (λ x. is_before x g ≡ false) f more (not_both (fault_place f) (fault_number f) (fault_place g) (fault_number g) e) h.first;
}
chosen f g more false e h = record {
  one = here f more;
  first = All-cons (λ x. is_before x f ≡ false) f more (not_before_itself (fault_place f) (fault_number f))
      (λ k d l.
      let x = get_or more k d in
      pick_last (fault_place f) (fault_number f) (fault_place g) (fault_number g) (fault_place x) (fault_number x) e (h.first k d l));
}

of_two : (f : ValueFault) (more : List ValueFault) (o : Option ValueFault) → MatchOption o (more ≡ []) (λ g. IsFirstFault g more) → MatchOption (first_of_two (Some f) o) ((f ∷ more) ≡ []) (λ g. IsFirstFault g (f ∷ more))
of_two f more None e = record {
  one = here f more;
  first = All-cons (λ x. is_before x f ≡ false) f more (not_before_itself (fault_place f) (fault_number f))
      (subst (λ xs. All (λ x. is_before x f ≡ false) xs) (sym e) (λ k d l. absurd (omega arith)));
}
of_two f more (Some g) h = chosen f g more (is_before g f) refl h

pub is_first : (faults : List ValueFault) → MatchOption (first_fault faults) (faults ≡ []) (λ f. IsFirstFault f faults)
is_first [] = refl
is_first (f ∷ more) = of_two f more (first_fault more) (is_first more)
