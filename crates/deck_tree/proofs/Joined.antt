-- What is joined answers by the answers of its parts.
use Rattle.std.proofs.Common.{◌≡◌, ℕ, ◌<◌, ◌≤◌, ◌==◌, ◌&&◌, ◌||◌, Bool, true, false, cond, List, [], ◌∷◌, ◌++◌, map, refl, sym, ap, ◌∙◌, arith, ◌⊎◌, inl, inr, Option, Some, None}
use Rattle.std.specs.Prelude.{Result, Ok, Err, nat_lt}
use Rattle.drc_num.specs.Fractions.{Fraction}
use Rattle.deck_tree.specs.declared.value_fault.ValueFault.{ValueFault}
use Rattle.deck_tree.specs.Worths.{Worth, Step, alone, joined, with_minus, chain, negative, first_of_two, first_fault, is_before, fault_place, fault_number, answer}
use Rattle.deck_tree.specs.Working.Answers.{Answer, told, both, behind_minus, chain_answer}
use Rattle.std.proofs.lemmas.Bool.{cases_Bool}
use Rattle.std.proofs.lemmas.Bool.Decides.{nat_tests}

-- of three pairs of numbers, the first: the test of is_before on places and numbers
abbrev pub before : (p m q n : ℕ) → Bool
before p m q n = nat_lt p q || ((p == q) && nat_lt m n)

pick_first : (p m q n r k : ℕ) → before q n p m ≡ true → before r k q n ≡ true → before r k p m ≡ true
pick_first p m q n r k h e = grind (arith, nat_tests)

pub pick_last : (p m q n r k : ℕ) → before q n p m ≡ false → before r k q n ≡ false → before r k p m ≡ false
pick_last p m q n r k h e = grind (arith, nat_tests)

three : (f g h : ValueFault) → first_of_two (first_of_two (Some f) (Some g)) (Some h) ≡ first_of_two (Some f) (first_of_two (Some g) (Some h))
three f g h =
    elim (cases_Bool (is_before g f)) [
      | inl e ↦ elim (cases_Bool (is_before h g)) [
        | inl d ↦ left_g e ∙ right_h d ∙ sym (from_h d ∙ ap (λ t. cond t (Some h) (Some f)) (pick_first (fault_place f) (fault_number f) (fault_place g) (fault_number g) (fault_place h) (fault_number h) e d))
        | inr d ↦ left_g e ∙ ap (λ t. cond t (Some h) (Some g)) d ∙ sym (from_g d ∙ ap (λ t. cond t (Some g) (Some f)) e)
      ]
      | inr e ↦ elim (cases_Bool (is_before h g)) [
        | inl d ↦ left_f e ∙ sym (from_h d)
        | inr d ↦ left_f e ∙ ap (λ t. cond t (Some h) (Some f)) (pick_last (fault_place f) (fault_number f) (fault_place g) (fault_number g) (fault_place h) (fault_number h) e d) ∙ sym (from_g d ∙ ap (λ t. cond t (Some g) (Some f)) e)
      ]
    ]
  where
    left_g : is_before g f ≡ true → first_of_two (first_of_two (Some f) (Some g)) (Some h) ≡ first_of_two (Some g) (Some h)
    left_g e = ap (λ t. first_of_two (cond t (Some g) (Some f)) (Some h)) e

    left_f : is_before g f ≡ false → first_of_two (first_of_two (Some f) (Some g)) (Some h) ≡ first_of_two (Some f) (Some h)
    left_f e = ap (λ t. first_of_two (cond t (Some g) (Some f)) (Some h)) e

    right_h : is_before h g ≡ true → first_of_two (Some g) (Some h) ≡ Some h
    right_h d = ap (λ t. cond t (Some h) (Some g)) d

    from_h : is_before h g ≡ true → first_of_two (Some f) (first_of_two (Some g) (Some h)) ≡ first_of_two (Some f) (Some h)
    from_h d = ap (λ t. first_of_two (Some f) (cond t (Some h) (Some g))) d

    from_g : is_before h g ≡ false → first_of_two (Some f) (first_of_two (Some g) (Some h)) ≡ first_of_two (Some f) (Some g)
    from_g d = ap (λ t. first_of_two (Some f) (cond t (Some h) (Some g))) d

grouped : (x y z : Option ValueFault) → first_of_two (first_of_two x y) z ≡ first_of_two x (first_of_two y z)
grouped None y z = refl
grouped (Some f) None z = refl
grouped (Some f) (Some g) None = elim (cases_Bool (is_before g f)) [
  | inl e ↦ ap (λ t. first_of_two (cond t (Some g) (Some f)) None) e ∙ sym (ap (λ t. cond t (Some g) (Some f)) e)
  | inr e ↦ ap (λ t. first_of_two (cond t (Some g) (Some f)) None) e ∙ sym (ap (λ t. cond t (Some g) (Some f)) e)
]
grouped (Some f) (Some g) (Some h) = three f g h

pub first_fault-append : (fs gs : List ValueFault) → first_fault (fs ++ gs) ≡ first_of_two (first_fault fs) (first_fault gs)
first_fault-append [] gs = refl
first_fault-append (f ∷ fs) gs = ap (first_of_two (Some f)) (first_fault-append fs gs) ∙ sym (grouped (Some f) (first_fault fs) (first_fault gs))

pub answer-alone : (r : Result Fraction ValueFault) → answer (alone r) ≡ told r
answer-alone (Ok q) = refl
answer-alone (Err f) = refl

pub answer-joined : (op : Fraction → Fraction → Result Fraction ValueFault) (l r : Worth) → answer (joined op l r) ≡ both op (answer l) (answer r)
answer-joined op (Ok a) (Ok b) = answer-alone (op a b)
answer-joined op (Ok a) (Err gs) = refl
answer-joined op (Err fs) (Ok b) = refl
answer-joined op (Err fs) (Err gs) = ap Err (first_fault-append fs gs)

pub answer-with_minus : (minus : Option ℕ) (w : Worth) → answer (with_minus minus w) ≡ behind_minus minus (answer w)
answer-with_minus None w = refl
answer-with_minus (Some at) (Ok q) = answer-alone (negative at q)
answer-with_minus (Some at) (Err fs) = refl

pub answer-chain : (w : Worth) (steps : List Step) → answer (chain w steps) ≡ chain_answer (answer w) steps
answer-chain w [] = refl
answer-chain w (step ∷ more) = answer-chain (joined step.by w step.right) more ∙ ap (λ a. chain_answer a more) (answer-joined step.by w step.right)
