-- What names that are kept stand for is what names of the definitions stand for, and is one of them.
use Rattle.std.proofs.Common.{◌≡◌, ℕ, zero, suc, ◌<◌, List, [], ◌∷◌, length, map, Option, Some, None, refl, sym, ap, subst, ◌∙◌, arith}
use Rattle.std.proofs.lemmas.List.{length-map}
use Rattle.std.specs.Prelude.{slice_get}
use Rattle.std.specs.Global.{Vec}
use Rattle.std.specs.List.{filter_map, position_from, cons_option}
use Rattle.std.proofs.lemmas.Option.{none-some}
use Rattle.deck_names.specs.declared.definition.Definition.{Definition}
use Rattle.deck_names.specs.declared.definition.Scope.{Scope}
use Rattle.deck_names.specs.Definitions.{stands_for}
use Rattle.deck_tree.specs.declared.name_at.NameAt.{NameAt}
use Rattle.deck_order.specs.Uses.{used_by, AreWithin}
use Rattle.deck_definitions.specs.declared.defined.Defined.{Defined}
use Rattle.deck_definitions.specs.Definitions.{Entry, entry_of, shown}
use Rattle.deck_graph.specs.Graphs.{used_names, is_for, key_of, number_for, uses_of, numbers}
use Rattle.deck_graph.specs.Kept.{kept_key, AreNames}
use Rattle.deck_graph.specs.Working.Finding.{uses_by}
use Rattle.list_facts.proofs.Positions.{position-map, position_below}

pub same_number : (kept : List Definition) (all : List Entry) → AreNames kept all → (from : Scope) (q : List ℕ)
    → stands_for kept from q ≡ number_for all from q
same_number kept all are from q =
    position-map kept_key (is_for from q) 0 kept
    ∙ (ap (λ keys. position_from (is_for from q) 0 keys) are ∙ sym (position-map key_of (is_for from q) 0 all))

-- ---- Uses

same_finds : {A : Type 0} (f g : A → Option ℕ) → ((x : A) → f x ≡ g x) → (xs : List A) → filter_map f xs ≡ filter_map g xs
same_finds f g same [] = refl
same_finds f g same (x ∷ xs) = ap (λ o. cons_option o (filter_map f xs)) (same x) ∙ ap (λ those. cons_option (g x) those) (same_finds f g same xs)

same_use : (kept : List Definition) (all : List Entry) → AreNames kept all → (e : Entry) → uses_by kept e ≡ uses_of all e
same_use kept all are e =
    same_finds (λ (name : NameAt). stands_for kept e.scope name.name) (λ (name : NameAt). number_for all e.scope name.name)
    (λ name. same_number kept all are e.scope name.name) (used_names e.meaning)

map_same : {A B : Type 0} (f g : A → B) → ((x : A) → f x ≡ g x) → (xs : List A) → map f xs ≡ map g xs
map_same f g same [] = refl
map_same f g same (x ∷ xs) = ap (λ y. y ∷ map f xs) (same x) ∙ ap (λ ys. g x ∷ ys) (map_same f g same xs)

pub same_uses : (kept : List Definition) (found : List Defined) (all : List Entry) (uses : List (Vec ℕ)) → shown found ≡ all
    → AreNames kept (shown found) → numbers uses ≡ map (uses_by kept) (shown found) → numbers uses ≡ map (uses_of all) all
same_uses kept found all uses is are e =
    let P : List Entry → Type 0 = λ those. numbers uses ≡ map (uses_of those) those in
    subst P is (e ∙ map_same (uses_by kept) (uses_of (shown found)) (same_use kept (shown found) are) (shown found))

-- ---- Each use is of one of the definitions

found_below : {A : Type 0} (f : A → Option ℕ) (n : ℕ) → ((x : A) (j : ℕ) → f x ≡ Some j → j < n) → (xs : List A) (k j : ℕ)
    → slice_get (filter_map f xs) k ≡ Some j → j < n
found_below f n below [] k j e = absurd (none-some j e)
found_below f n below (x ∷ xs) k j e = by (f x) refl k (found_below f n below xs) e
  where
    by : (o : Option ℕ) → f x ≡ o → (k : ℕ) → ((k j : ℕ) → slice_get (filter_map f xs) k ≡ Some j → j < n) → slice_get (cons_option o (filter_map f xs)) k ≡ Some j → j < n
    by None p k later h = later k j h
    by (Some i) p zero later h = below x j (p ∙ h)
    by (Some i) p (suc k) later h = later k j h

-- the numbers of one of the lists
abbrev pub at_or_none : List (List ℕ) → ℕ → List ℕ
at_or_none [] i = []
at_or_none (v ∷ vs) zero = v
at_or_none (v ∷ vs) (suc i) = at_or_none vs i

pub used_at : (uses : List (Vec ℕ)) (i : ℕ) → used_by uses i ≡ at_or_none (numbers uses) i
used_at [] i = refl
used_at (v ∷ vs) zero = refl
used_at (v ∷ vs) (suc i) = used_at vs i

mapped_below : (all these : List Entry) (i k j : ℕ) → slice_get (at_or_none (map (uses_of all) these) i) k ≡ Some j → j < length all
mapped_below all [] i k j e = absurd (none-some j e)
mapped_below all (e ∷ more) zero k j h =
    found_below (λ (name : NameAt). number_for all e.scope name.name) (length all)
    (λ name j found. let below = position_below (λ d. is_for e.scope name.name (key_of d)) 0 all j found in omega (arith, below)) (used_names e.meaning) k j h
mapped_below all (e ∷ more) (suc i) k j h = mapped_below all more i k j h

pub uses_within : (all : List Entry) (uses : List (Vec ℕ)) → numbers uses ≡ map (uses_of all) all → AreWithin uses
uses_within all uses e i j used =
    let size : length uses ≡ length all = sym (length-map uses (λ (v : Vec ℕ). v.items)) ∙ (ap length e ∙ length-map all (uses_of all)) in
    let those : slice_get (at_or_none (map (uses_of all) all) i) used.0 ≡ Some j =
    ap (λ lists. slice_get (at_or_none lists i) used.0) (sym e) ∙ (ap (λ numbers. slice_get numbers used.0) (sym (used_at uses i)) ∙ used.1) in
    subst (λ n. j < n) (sym size) (mapped_below all all i used.0 j those)

pub as_many : (kept : List Definition) (found : List Defined) (uses : List (Vec ℕ)) → numbers uses ≡ map (uses_by kept) (shown found)
    → length uses ≡ length found
as_many kept found uses e =
    sym (length-map uses (λ (v : Vec ℕ). v.items)) ∙ (ap length e ∙ (length-map (shown found) (uses_by kept) ∙ length-map found entry_of))
