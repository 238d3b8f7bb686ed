-- One definition more, whose worth is found by those of the definitions before it.
use Rattle.std.proofs.Common.{◌≡◌, inl, inr, ℕ, ◌+◌, ◌<◌, ◌≤◌, List, length, map, set, get_or, Option, Some, None, refl, sym, ap, subst, ◌∙◌, arith}
use Rattle.std.proofs.lemmas.Bool.{cases_eq}
use Rattle.std.proofs.lemmas.List.{length-map, length-set}
use Rattle.std.proofs.lemmas.Option.{none-some, same_Some, slice_get_within, slice_get-map, slice_get_read}
use Rattle.std.specs.Option.{option_map}
use Rattle.std.specs.Prelude.{Ok, Err, pos, slice_get}
use Rattle.std.specs.Global.{Vec}
use Rattle.drc_num.specs.Fractions.{Fraction}
use Rattle.list_facts.proofs.Slots.{written, unwritten, written_cases}
use Rattle.deck_tree.specs.declared.name_at.NameAt.{NameAt}
use Rattle.deck_tree.specs.declared.value.Value.{Value}
use Rattle.deck_tree.specs.Worths.{Worth, answer, value_worth}
use Rattle.deck_names.specs.declared.definition.Scope.{Scope}
use Rattle.deck_names.specs.declared.definition.Scope.TheVariants as scope
use Rattle.deck_order.specs.Uses.{IsUse, by}
use Rattle.deck_order.specs.Orders.{ListsEach, StandBehindUses}
use Rattle.deck_uses.specs.UsedNames.{value_names}
use Rattle.deck_definitions.specs.Definitions.{Entry, Meaning, entry, drawn, derived, worth, entry_of, shown}
use Rattle.deck_definitions.specs.declared.defined.Defined.{Defined}
use Rattle.deck_graph.specs.Graphs.{number_for, uses_of, numbers}
use Rattle.deck_worths.specs.Worths.{IsWorth, comes_to, AreWorths, flat, worth_at, names_at, HasWorth}
use Rattle.deck_worths.specs.Working.SoFar.{answered, come_to, meaning_worth, IsSoFar}
use Rattle.deck_worths.proofs.OneWorth.{from_places, same_worth}
use Rattle.deck_worths.proofs.HaveWorths.{have_worths, at_place}
use Rattle.deck_graph.proofs.Leading.{use_back, leads_to}
use Rattle.deck_worths.proofs.Circles.{name_used, none_in_circles}

-- ---- Worths that are there

come_to_is : (w : Worth) (q : Fraction) → come_to w ≡ Some q → w ≡ Ok q
come_to_is (Ok r) q e = ap (λ (x : Fraction). Ok x) (same_Some r q e)
come_to_is (Err faults) q e = absurd (none-some q e)

abbrev or_zero : Option ℕ → ℕ
or_zero None = 0
or_zero (Some j) = j

abbrev or_nothing : Option Fraction → Fraction
or_nothing None = record { num = pos 0; den = 1 }
or_nothing (Some q) = q

zero_some : (o : Option ℕ) (j : ℕ) → o ≡ Some j → or_zero o ≡ j
zero_some o j e = ap or_zero e

nothing_some : (o : Option Fraction) (q : Fraction) → o ≡ Some q → or_nothing o ≡ q
nothing_some o q e = ap or_nothing e

in_slot : (o : Option (Option Fraction)) (r : Fraction) → flat o ≡ Some r → o ≡ Some (Some r)
in_slot None r e = absurd (none-some r e)
in_slot (Some None) r e = absurd (none-some r e)
in_slot (Some (Some q)) r e = ap (λ (x : Fraction). Some (Some x)) (same_Some q r e)

at_number : (worths : List (Option Fraction)) (o : Option ℕ) (r : Fraction) → worth_at worths o ≡ Some r → (j : ℕ) × (o ≡ Some j) × (slice_get worths j ≡ Some (Some r))
at_number worths None r e = absurd (none-some r e)
at_number worths (Some j) r e = (j, refl, in_slot (slice_get worths j) r e)

-- for which definition a name stands, and what is said of it, where there is one
abbrev stands_by : List Entry → List ℕ → ℕ
stands_by all n = or_zero (number_for all scope.Everywhere n)

abbrev said_by : List Entry → List (Option Fraction) → List ℕ → Fraction
said_by all worths n = or_nothing (worth_at worths (number_for all scope.Everywhere n))

-- ---- What is found is so

module _ (all : List Entry) (worths : List (Option Fraction)) (so : (i : ℕ) (q : Fraction) → slice_get worths i ≡ Some (Some q) → IsWorth all i q) where
  value_so : (i : ℕ) (name : NameAt) (value : Value) (q : Fraction) → slice_get all i ≡ Some (entry name scope.Everywhere (worth value))
      → value_worth (names_at all worths scope.Everywhere) value ≡ Ok q → IsWorth all i q
  value_so i name value q there comes =
      comes_to name value (stands_by all) (said_by all worths) there (λ k x e. (found k x e).0) (λ k x e. (found k x e).1)
      (same_worth (λ n. Some (Some (said_by all worths n))) (names_at all worths scope.Everywhere) value
      (from_places (λ (x : NameAt). ◌≡◌ {A = Option (Option Fraction)} (Some (Some (said_by all worths x.name))) (names_at all worths scope.Everywhere x.name)) (value_names value) (λ k x e. (found k x e).2)) ∙ comes)
    where
      found : (k : ℕ) (x : NameAt) → slice_get (value_names value) k ≡ Some x
          → (number_for all scope.Everywhere x.name ≡ Some (stands_by all x.name)) × IsWorth all (stands_by all x.name) (said_by all worths x.name)
          × (◌≡◌ {A = Option (Option Fraction)} (Some (Some (said_by all worths x.name))) (names_at all worths scope.Everywhere x.name))
      found k x e =
          let has = at_place (HasWorth (names_at all worths scope.Everywhere)) (value_names value) k x (have_worths (names_at all worths scope.Everywhere) value q comes) e in
          let is : worth_at worths (number_for all scope.Everywhere x.name) ≡ Some has.0 = same_Some _ _ has.1 in
          let at = at_number worths (number_for all scope.Everywhere x.name) has.0 is in
          let number = zero_some (number_for all scope.Everywhere x.name) at.0 at.1 in
          let fraction = nothing_some (worth_at worths (number_for all scope.Everywhere x.name)) has.0 is in (
            at.1 ∙ ap (λ (j : ℕ). Some j) (sym number),
            subst (λ j. IsWorth all j (said_by all worths x.name)) (sym number) (subst (λ r. IsWorth all at.0 r) (sym fraction) (so at.0 has.0 at.2)),
            ap (λ (o : Option Fraction). Some o) (ap (λ (r : Fraction). Some r) fraction ∙ sym is),
          )

  found_so : (i : ℕ) (name : NameAt) (from : Scope) (meaning : Meaning) (q : Fraction) → slice_get all i ≡ Some (entry name from meaning)
      → meaning_worth all worths from meaning ≡ Some q → IsWorth all i q
  found_so i name from (drawn numbers) q there e = absurd (none-some q e)
  found_so i name from (derived layer) q there e = absurd (none-some q e)
  found_so i name scope.Everywhere (worth value) q there e = value_so i name value q there (come_to_is _ q e)
  found_so i name (scope.Check check) (worth value) q there e = absurd (none-some q e)

-- ---- All is found

slot_flat : (worths : List (Option Fraction)) (o : Option ℕ) (j : ℕ) (r : Fraction) → o ≡ Some j → slice_get worths j ≡ Some (Some r) → worth_at worths o ≡ Some r
slot_flat worths o j r e f = ap (worth_at worths) e ∙ ap flat f

module _ (all : List Entry) (uses : List (Vec ℕ)) (are : numbers uses ≡ map (uses_of all) all) (listed : List ℕ) (each : ListsEach (length all) listed) (behind : StandBehindUses uses listed) where
  all_found : (k i : ℕ) (e : Entry) (worths : List (Option Fraction)) (q : Fraction) → IsSoFar all listed k worths → slice_get listed k ≡ Some i → slice_get all i ≡ Some e
      → IsWorth all i q → meaning_worth all worths e.scope e.meaning ≡ Some q
  all_found k i e worths q far at is (comes_to name value stands said there finds each_is comes) =
      subst (λ (d : Entry). meaning_worth all worths d.scope d.meaning ≡ Some q) (same_Some _ _ (sym there ∙ is))
      (ap come_to (sym same ∙ comes))
    where
      whole : IsWorth all i q
      whole = comes_to name value stands said there finds each_is comes

      known_is : (j : ℕ) (x : NameAt) → slice_get (value_names value) j ≡ Some x
          → ◌≡◌ {A = Option (Option Fraction)} (Some (Some (said x.name))) (names_at all worths scope.Everywhere x.name)
      known_is j x h =
          let one : IsUse uses i (stands x.name) = use_back all uses are i (stands x.name) (name_used all i name value there j x (stands x.name) h (finds j x h)) in
          let before = behind k i (stands x.name) at one (λ l. none_in_circles all i q whole (leads_to all uses are (by one l))) in
          let slot = far.there before.0 (stands x.name) (said x.name) before.1 before.2 (each_is j x h) in
          ap (λ (o : Option Fraction). Some o) (sym (slot_flat worths (number_for all scope.Everywhere x.name) (stands x.name) (said x.name) (finds j x h) slot))

      same : value_worth (λ n. Some (Some (said n))) value ≡ value_worth (names_at all worths scope.Everywhere) value
      same =
          same_worth (λ n. Some (Some (said n))) (names_at all worths scope.Everywhere) value
          (from_places (λ (x : NameAt). ◌≡◌ {A = Option (Option Fraction)} (Some (Some (said x.name))) (names_at all worths scope.Everywhere x.name)) (value_names value) known_is)

  pub one_more : (k i : ℕ) (e : Entry) (worths : List (Option Fraction)) → IsSoFar all listed k worths → slice_get listed k ≡ Some i → slice_get all i ≡ Some e
      → IsSoFar all listed (k + 1) (set worths i (meaning_worth all worths e.scope e.meaning))
  one_more k i e worths far at is = record {
    as_many = length-set worths i (meaning_worth all worths e.scope e.meaning) ∙ far.as_many;
    so = so;
    there = there;
  }
    where
      so : (j : ℕ) (q : Fraction) → slice_get (set worths i (meaning_worth all worths e.scope e.meaning)) j ≡ Some (Some q) → IsWorth all j q
      so j q h =
          elim (written_cases worths i j (meaning_worth all worths e.scope e.meaning) (Some q) h) [
            | inl r ↦ subst (λ n. IsWorth all n q) (sym r.0) (found_so all worths far.so i e.name e.scope e.meaning q is (sym r.1))
            | inr r ↦ far.so j q r.1
          ]

      there : (m j : ℕ) (q : Fraction) → m < k + 1 → slice_get listed m ≡ Some j → IsWorth all j q
          → slice_get (set worths i (meaning_worth all worths e.scope e.meaning)) j ≡ Some (Some q)
      there m j q l h is_worth =
          elim (cases_eq j i) [
            | inl same ↦
                ap (slice_get (set worths i (meaning_worth all worths e.scope e.meaning))) same
                ∙ (written worths i (meaning_worth all worths e.scope e.meaning) (let w = slice_get_within all i e is in let n = far.as_many in omega (arith, w, n))
                ∙ ap (λ (o : Option Fraction). Some o) (all_found k i e worths q far at is (subst (λ n. IsWorth all n q) same is_worth)))
            | inr other ↦
                unwritten worths i j (meaning_worth all worths e.scope e.meaning) other
                ∙ far.there m j q (elim (cases_eq m k) [
                  | inl last ↦ absurd (other (same_Some _ _ (sym h ∙ (ap (slice_get listed) last ∙ at))))
                  | inr before ↦ omega (arith, l, before)
                ]) h is_worth
          ]

  pub all_done : (worths : List (Option Fraction)) (k : ℕ) → length listed ≤ k → IsSoFar all listed k worths → AreWorths all worths
  all_done worths k done far = record {
    as_many = far.as_many;
    each = λ i q. (far.so i q, found i q);
  }
    where
      found : (i : ℕ) (q : Fraction) → IsWorth all i q → slice_get worths i ≡ Some (Some q)
      found i q (comes_to name value stands said there finds each_is comes) =
          let at = each.there i (slice_get_within all i _ there) in
          let w = slice_get_within listed at.0 i at.1 in
          far.there at.0 i q (omega (arith, w, done)) at.1 (comes_to name value stands said there finds each_is comes)

-- ---- What the code sees

pub uses_length : (all : List Entry) (uses : List (Vec ℕ)) → numbers uses ≡ map (uses_of all) all → length uses ≡ length all
uses_length all uses e = sym (length-map uses (λ (v : Vec ℕ). v.items)) ∙ (ap length e ∙ length-map all (uses_of all))

pub shown_at : (definitions : List Defined) (i : ℕ) (d : Defined) → i < length definitions → d ≡ get_or definitions i d → slice_get (shown definitions) i ≡ Some (entry_of d)
shown_at definitions i d l e =
    slice_get-map entry_of definitions i ∙ ap (option_map entry_of) (slice_get_read definitions (length definitions) i d refl l e)

pub outside_worth : (all : List Entry) (worths : List (Option Fraction)) (from : Scope) (value : Value) (r : Option Fraction) → from ≡ scope.Everywhere
    → r ≡ answered (answer (value_worth (names_at all worths from) value)) → r ≡ meaning_worth all worths from (worth value)
outside_worth all worths from value r is e =
    subst (λ s. r ≡ meaning_worth all worths s (worth value)) (sym is) (subst (λ s. r ≡ answered (answer (value_worth (names_at all worths s) value))) is e)
