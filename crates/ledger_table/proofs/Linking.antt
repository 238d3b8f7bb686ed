-- How places are linked, one after another.
use Rattle.std.proofs.Common.{◌≡◌, ℕ, ◌+◌, ◌*◌, ◌<◌, List, length, get_or, set, Option, None, Some, inl, inr, sym, ◌∙◌, subst, arith}
use Rattle.std.proofs.lemmas.Bool.{cases_eq}
use Rattle.std.proofs.lemmas.List.{length-set}
use Rattle.std.proofs.lemmas.Option.{same_Some, slice_get-get_or}
use Rattle.std.specs.Prelude.{slice_get}
use Rattle.layer_model.specs.declared.wiring.Wire.{Wire}
use Rattle.ledger_table.specs.Working.Places.{read_at, IsLastBelow, AreLinked}
use Rattle.list_facts.proofs.Slots.{unwritten}
use Rattle.ledger_table.proofs.Slots.{slot_is}

-- a place that reads another operation changes nothing
pub last_stays : (ws : List Wire) (j bound : ℕ) (o : Option ℕ) → IsLastBelow ws j bound o → (read_at ws bound ≡ Some j → ⊥) → IsLastBelow ws j (bound + 1) o
last_stays ws j b None l n = λ p q e. elim (cases_eq p b) [ inl r ↦ n (subst (λ k. read_at ws k ≡ Some j) r e) | inr r ↦ l p (omega arith) e ]
last_stays ws j b (Some q) l n =
    let h : q < b = l.0 in
    (omega arith, l.1, λ p a c e. elim (cases_eq p b) [ inl r ↦ n (subst (λ k. read_at ws k ≡ Some j) r e) | inr r ↦ l.2 p a (omega arith) e ])

pub linked_some : (ws : List Wire) (last earlier : List (Option ℕ)) (place op : ℕ) → AreLinked ws last earlier place → place < 2 * length ws → op < length ws → read_at ws place ≡ Some op
    → AreLinked ws (set last op (Some place)) (set earlier place (get_or last op None)) (place + 1)
linked_some ws last earlier place op l h g r =
    record {
      lasts = length-set last op (Some place) ∙ l.lasts;
      earliers = length-set earlier place (get_or last op None) ∙ l.earliers;
      last_reader = λ j o e. elim (cases_eq j op) [
        | inl s ↦ subst (λ k. IsLastBelow ws k (place + 1) o) (sym s) (at_op o (slot_is last op (Some place) o (subst (λ k. slice_get (set last op (Some place)) k ≡ Some o) s e)))
        | inr s ↦ last_stays ws j place o (l.last_reader j o (sym (unwritten last op j (Some place) s) ∙ e)) (λ q. s (sym (same_Some op j (sym r ∙ q))))
      ];
      earlier_reader = λ p j o b q e. elim (cases_eq p place) [
        | inl s ↦ at_place p j o s (subst (λ k. read_at ws k ≡ Some j) s q) (subst (λ k. slice_get (set earlier place (get_or last op None)) k ≡ Some o) s e)
        | inr s ↦ l.earlier_reader p j o (omega arith) q (sym (unwritten earlier place p (get_or last op None) s) ∙ e)
      ];
    }
  where
    at_op : (o : Option ℕ) → Some place ≡ o → IsLastBelow ws op (place + 1) o
    at_op o e = subst (λ v. IsLastBelow ws op (place + 1) v) e (omega arith, r, λ p a b. absurd (omega arith))

    at_place : (p j : ℕ) (o : Option ℕ) → p ≡ place → read_at ws place ≡ Some j → slice_get (set earlier place (get_or last op None)) place ≡ Some o → IsLastBelow ws j p o
    at_place p j o s q e =
        let x : op ≡ j = same_Some op j (sym r ∙ q) in
        let y : get_or last op None ≡ o = slot_is earlier place (get_or last op None) o e in
        let z : op < length last = omega (arith, l.lasts) in
        let a : IsLastBelow ws op place (get_or last op None) = l.last_reader op (get_or last op None) (slice_get-get_or last op None z) in
        subst (λ k. IsLastBelow ws k p o) x (subst (λ k. IsLastBelow ws op k o) (sym s) (subst (λ v. IsLastBelow ws op place v) y a))

pub linked_none : (ws : List Wire) (last earlier : List (Option ℕ)) (place : ℕ) → AreLinked ws last earlier place → read_at ws place ≡ None → AreLinked ws last earlier (place + 1)
linked_none ws last earlier place l r =
    record {
      lasts = l.lasts;
      earliers = l.earliers;
      last_reader = λ j o e. last_stays ws j place o (l.last_reader j o e) (λ q. let x : None ≡ Some j = sym r ∙ q in cc);
      earlier_reader = λ p j o b q e. elim (cases_eq p place) [
        | inl s ↦ absurd (let x : None ≡ Some j = sym r ∙ (subst (λ k. read_at ws k ≡ Some j) s q) in cc)
        | inr s ↦ l.earlier_reader p j o (omega arith) q e
      ];
    }
