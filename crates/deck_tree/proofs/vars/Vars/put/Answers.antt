use Rattle.std.proofs.Common.{◌≡◌, ◌≢◌, ℕ, List, true, false, sym, ◌∙◌, inl, inr, Option}
use Rattle.std.specs.Prelude.{nat_eq}
use Rattle.std.specs.Cmp.Lexicographic.{pointwise, same_text}
use Rattle.std.specs.Map.{KeepsOthers, IsKeyTest, AreApart, lookup}
use Rattle.std.specs.HashMap.{HashMap, UpdatesBy, get_by}
use Rattle.std.proofs.lemmas.Bool.{cases_Bool}
use Rattle.std.proofs.lemmas.Cmp.{nat_list_eq_equiv}
use Rattle.deck_tree.proofs.vars.Vars.put.Goals as goal

apart : (bs cs ks : List ℕ) → pointwise nat_eq bs cs ≡ false → pointwise nat_eq bs ks ≡ true → pointwise nat_eq cs ks ≡ false
apart bs cs ks n y = nat_list_eq_equiv.symm cs ks ∙ sym (nat_list_eq_equiv.congr bs ks cs y) ∙ n

differ : (bs cs : List ℕ) → cs ≢ bs → pointwise nat_eq bs cs ≡ false
differ bs cs ne = elim (cases_Bool (pointwise nat_eq bs cs)) [ inl y ↦ absurd (ne (sym (same_text bs cs (sym y)))) | inr n ↦ n ]

-- a change at one key's bytes leaves what stands under other bytes
others : {K X S : Type 0} (bytes : K → List ℕ) (bs : List ℕ) (m n : HashMap K X S) (w : Option X) → UpdatesBy (λ x y. pointwise nat_eq (bytes x) (bytes y)) (λ y. pointwise nat_eq bs (bytes y)) m n w → (q : List ℕ) → q ≢ bs → get_by (λ k. pointwise nat_eq q (bytes k)) n ≡ get_by (λ k. pointwise nat_eq q (bytes k)) m
unfolding KeepsOthers
others bytes bs m n w h q ne = h.3 (λ k. pointwise nat_eq q (bytes k)) (λ x y. nat_list_eq_equiv.congr q (bytes x) (bytes y)) (λ k. apart bs q (bytes k) (differ bs q ne))

pub returns-clause-others : goal.returns-clause-others
returns-clause-others c = λ q ne. others (λ k. k.items) c.in_ok-key.key.items c.args.self.now.table c.insert.new.self _ c.in_ok-insert.ensures.updates q (λ e. ne (e ∙ c.in_ok-key.ensures.items ∙ c.bytes.ensures))
