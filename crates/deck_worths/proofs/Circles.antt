-- What leads back to itself is worth nothing.
use Rattle.std.proofs.Common.{◌≡◌, ◌⊎◌, inl, inr, ℕ, zero, suc, List, [], ◌∷◌, Option, Some, None, refl, sym, ap, subst, ◌∙◌}
use Rattle.std.proofs.lemmas.Option.{none-some, same_Some}
use Rattle.std.specs.Prelude.{slice_get}
use Rattle.std.specs.List.{filter_map, cons_option}
use Rattle.drc_num.specs.Fractions.{Fraction}
use Rattle.deck_tree.specs.declared.name_at.NameAt.{NameAt}
use Rattle.deck_tree.specs.declared.value.Value.{Value}
use Rattle.deck_names.specs.declared.definition.Scope.TheVariants as scope
use Rattle.deck_uses.specs.UsedNames.{value_names}
use Rattle.deck_definitions.specs.Definitions.{Entry, entry, worth}
use Rattle.deck_graph.specs.Graphs.{number_for, uses_of, Uses, LeadsTo, at_once, by}
use Rattle.deck_worths.specs.Worths.{IsWorth, comes_to}

-- ---- What is found among the names

module _ {A : Type 0} (f : A → Option ℕ) where
  found_in : (xs : List A) (place j : ℕ) → slice_get (filter_map f xs) place ≡ Some j → (k : ℕ) × (x : A) × (slice_get xs k ≡ Some x) × (f x ≡ Some j)
  found_in [] place j e = absurd (none-some j e)
  found_in (x ∷ xs) place j e = at_first (f x) refl place (found_in xs) e
    where
      at_first : (o : Option ℕ) → f x ≡ o → (place : ℕ)
          → ((place j : ℕ) → slice_get (filter_map f xs) place ≡ Some j → (k : ℕ) × (x : A) × (slice_get xs k ≡ Some x) × (f x ≡ Some j))
          → slice_get (cons_option o (filter_map f xs)) place ≡ Some j → (k : ℕ) × (y : A) × (slice_get (x ∷ xs) k ≡ Some y) × (f y ≡ Some j)
      at_first None p place later h = let r = later place j h in (suc r.0, r.1, r.2, r.3)
      at_first (Some i) p zero later h = (zero, x, refl, p ∙ h)
      at_first (Some i) p (suc place) later h = let r = later place j h in (suc r.0, r.1, r.2, r.3)

  found_by : (xs : List A) (k : ℕ) (x : A) (j : ℕ) → slice_get xs k ≡ Some x → f x ≡ Some j → (place : ℕ) × (slice_get (filter_map f xs) place ≡ Some j)
  found_by [] k x j e h = absurd (none-some x e)
  found_by (y ∷ ys) zero x j e h =
      subst (λ o. (place : ℕ) × (slice_get (cons_option o (filter_map f ys)) place ≡ Some j)) (sym (ap f (same_Some y x e) ∙ h)) (zero, refl)
  found_by (y ∷ ys) (suc k) x j e h = behind (f y) (found_by ys k x j e h)
    where
      behind : (o : Option ℕ) → (place : ℕ) × (slice_get (filter_map f ys) place ≡ Some j) → (place : ℕ) × (slice_get (cons_option o (filter_map f ys)) place ≡ Some j)
      behind None r = r
      behind (Some i) r = (suc r.0, r.1)

-- ---- The uses of a definition

module _ (all : List Entry) (i : ℕ) (name : NameAt) (value : Value) (there : slice_get all i ≡ Some (entry name scope.Everywhere (worth value))) where
  used_name : (j : ℕ) → Uses all i j → (k : ℕ) × (x : NameAt) × (slice_get (value_names value) k ≡ Some x) × (number_for all scope.Everywhere x.name ≡ Some j)
  used_name j u =
      let same : u.entry ≡ entry name scope.Everywhere (worth value) = same_Some _ _ (sym u.there ∙ there) in
      found_in (λ (x : NameAt). number_for all scope.Everywhere x.name) (value_names value) u.place j
      (subst (λ e. slice_get (uses_of all e) u.place ≡ Some j) same u.use_there)

  pub name_used : (k : ℕ) (x : NameAt) (j : ℕ) → slice_get (value_names value) k ≡ Some x → number_for all scope.Everywhere x.name ≡ Some j → Uses all i j
  name_used k x j e h =
      let r = found_by (λ (x : NameAt). number_for all scope.Everywhere x.name) (value_names value) k x j e h in
      record { entry = entry name scope.Everywhere (worth value); there = there; place = r.0; use_there = r.1 }

-- ---- Circles

first_use : {all : List Entry} {i j : ℕ} → LeadsTo all i j → (k : ℕ) × Uses all i k × ((k ≡ j) ⊎ LeadsTo all k j)
first_use (at_once u) = (_, u, inl refl)
first_use (by u l) = (_, u, inr l)

onward : {all : List Entry} {i k j : ℕ} → LeadsTo all i k → LeadsTo all k j → LeadsTo all i j
onward (at_once u) more = by u more
onward (by u l) more = by u (onward l more)

-- a circle goes through what is used first
turned : {all : List Entry} (i : ℕ) → LeadsTo all i i → (k : ℕ) × Uses all i k × LeadsTo all k k
turned {all = all} i round =
    let first = first_use round in
    elim first.2 [
      | inl same ↦ (first.0, first.1, at_once (subst (λ j. Uses all j first.0) (sym same) first.1))
      | inr more ↦ (first.0, first.1, onward more (at_once first.1))
    ]

pub none_in_circles : (all : List Entry) (i : ℕ) (q : Fraction) → IsWorth all i q → LeadsTo all i i → ⊥
none_in_circles all i q (comes_to name value stands said there finds each comes) round =
    let t = turned i round in
    let used = used_name all i name value there t.0 t.1 in
    let same : t.0 ≡ stands used.1.name = same_Some _ _ (sym used.3 ∙ finds used.0 used.1 used.2) in
    none_in_circles all (stands used.1.name) (said used.1.name) (each used.0 used.1 used.2) (subst (λ j. LeadsTo all j j) same t.2)
