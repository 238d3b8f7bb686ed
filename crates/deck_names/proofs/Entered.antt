-- A number that is put under a name.
use Rattle.std.proofs.Common.{◌≡◌, ℕ, List, true, false, cond, sym, ap, ◌∙◌, inl, inr, Some, None}
use Rattle.std.specs.Prelude.{nat_eq}
use Rattle.std.specs.Cmp.Lexicographic.{pointwise, same_text}
use Rattle.std.specs.Option.{option_or}
use Rattle.std.specs.Map.{KeepsOthers}
use Rattle.std.specs.HashMap.{HashMap, UpdatesBy, get_by}
use Rattle.std.proofs.lemmas.Bool.{cases_Bool}
use Rattle.std.proofs.lemmas.Cmp.{nat_list_eq_equiv}

apart : (bs cs ks : List ℕ) → pointwise nat_eq cs bs ≡ false → pointwise nat_eq bs ks ≡ true → pointwise nat_eq cs ks ≡ false
apart bs cs ks n y = nat_list_eq_equiv.symm cs ks ∙ sym (nat_list_eq_equiv.congr bs ks cs y) ∙ (nat_list_eq_equiv.symm bs cs ∙ n)

-- what stands under a name, and under all others
pub put_under : {K S : Type 0} (bytes : K → List ℕ) (bs : List ℕ) (x : ℕ) (m n : HashMap K ℕ S) → get_by (λ k. pointwise nat_eq bs (bytes k)) m ≡ None → UpdatesBy (λ x y. pointwise nat_eq (bytes x) (bytes y)) (λ y. pointwise nat_eq bs (bytes y)) m n (Some x) → (q : List ℕ) → get_by (λ k. pointwise nat_eq q (bytes k)) n ≡ cond (pointwise nat_eq q bs) (option_or (get_by (λ k. pointwise nat_eq q (bytes k)) m) (Some x)) (get_by (λ k. pointwise nat_eq q (bytes k)) m)
unfolding KeepsOthers
put_under bytes bs x m n none h q =
    elim (cases_Bool (pointwise nat_eq q bs)) [
      | inl y ↦
          let e = same_text q bs (sym y) in
          ap (λ p. get_by (λ k. pointwise nat_eq p (bytes k)) n) e
          ∙ (h.1
          ∙ (ap (λ r. option_or r (Some x)) (sym none)
          ∙ (ap (λ p. option_or (get_by (λ k. pointwise nat_eq p (bytes k)) m) (Some x)) (sym e)
          ∙ ap (λ b. cond b (option_or (get_by (λ k. pointwise nat_eq q (bytes k)) m) (Some x)) (get_by (λ k. pointwise nat_eq q (bytes k)) m)) (sym y))))
      | inr f ↦
          h.3 (λ k. pointwise nat_eq q (bytes k)) (λ x y. nat_list_eq_equiv.congr q (bytes x) (bytes y)) (λ k. apart bs q (bytes k) f)
          ∙ ap (λ b. cond b (option_or (get_by (λ k. pointwise nat_eq q (bytes k)) m) (Some x)) (get_by (λ k. pointwise nat_eq q (bytes k)) m)) (sym f)
    ]
