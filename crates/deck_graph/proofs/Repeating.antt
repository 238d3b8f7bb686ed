-- What is told of names that are kept is told of the definitions.
use Rattle.std.proofs.Common.{◌≡◌, ◌↔◌, ℕ, zero, suc, ◌+◌, ◌<◌, ◌≤◌, Bool, true, List, [], ◌∷◌, ◌++◌, append-nil, drop, length, map, Some, refl, sym, ap, subst, ◌∙◌, arith}
use Rattle.std.specs.Prelude.{slice_get, nat_eq}
use Rattle.std.specs.Cmp.Lexicographic.{pointwise}
use Rattle.std.specs.Option.{option_map}
use Rattle.std.proofs.lemmas.List.{drop_all}
use Rattle.std.proofs.lemmas.Option.{same_Some, none-some, slice_get-map, slice_get_within}
use Rattle.deck_names.specs.declared.definition.Definition.{Definition}
use Rattle.deck_names.specs.declared.definition.Scope.{Scope}
use Rattle.deck_names.specs.Definitions.{IsPlace, IsRepetition, is_seen}
use Rattle.deck_definitions.specs.declared.defined.Defined.{Defined}
use Rattle.deck_definitions.specs.Definitions.{Entry, entry_of, shown}
use Rattle.deck_graph.specs.Graphs.{key_of, IsRepeated, StandAtPlaces}
use Rattle.deck_graph.specs.Kept.{kept_key}
use Rattle.list_facts.proofs.Slots.{front}

abbrev Key : Type 0
Key = List ℕ × Scope

unmapped : {A : Type 0} (f : A → Key) (xs : List A) (i : ℕ) (y : Key) → slice_get (map f xs) i ≡ Some y → (x : A) × (slice_get xs i ≡ Some x) × (f x ≡ y)
unmapped f [] i y e = absurd (none-some y e)
unmapped f (x ∷ xs) zero y e = (x, refl, same_Some (f x) y e)
unmapped f (x ∷ xs) (suc i) y e = unmapped f xs i y e

is_there : {A : Type 0} (xs : List A) (i : ℕ) → i < length xs → (x : A) × (slice_get xs i ≡ Some x)
is_there [] i l = absurd (omega (arith, l))
is_there (x ∷ xs) zero l = (x, refl)
is_there (x ∷ xs) (suc i) l = is_there xs i (omega (arith, l))

module _ (kept : List Definition) (all : List Entry) (rest : List Key) (are : map kept_key kept ++ rest ≡ map key_of all) where
  -- a name that is kept, in the list of all keys
  key_there : (i : ℕ) (k : Definition) → slice_get kept i ≡ Some k → slice_get (map key_of all) i ≡ Some (kept_key k)
  key_there i k e =
      ap (λ keys. slice_get keys i) (sym are)
      ∙ front (map kept_key kept) rest i (kept_key k) (slice_get-map kept_key kept i ∙ ap (option_map kept_key) e)

  entry_at : (i : ℕ) (k : Definition) → slice_get kept i ≡ Some k → (f : Entry) × (slice_get all i ≡ Some f) × (key_of f ≡ kept_key k)
  entry_at i k e = unmapped key_of all i (kept_key k) (key_there i k e)

  kept_at : (i : ℕ) (f : Entry) → i < length kept → slice_get all i ≡ Some f → (k : Definition) × (slice_get kept i ≡ Some k) × (kept_key k ≡ key_of f)
  kept_at i f l e =
      let found = is_there kept i l in
      (found.0, found.1, same_Some (kept_key found.0) (key_of f) (sym (key_there i found.0 found.1) ∙ (slice_get-map key_of all i ∙ ap (option_map key_of) e)))

  module _ (d : Definition) (e : Entry) (there : slice_get all (length kept) ≡ Some e) (is : kept_key d ≡ key_of e) where
    abbrev SameName : Key → Key → Type 0
    SameName a b = pointwise nat_eq b.0 a.0 ≡ true

    to : IsRepetition kept d → IsRepeated all (length kept)
    to (i, k, k_there, meet) =
        let f = entry_at i k k_there in
        record {
          earlier = i;
          before = slice_get_within kept i k k_there;
          first = f.0;
          first_there = f.1;
          second = e;
          second_there = there;
          same = subst (λ (b : Key). SameName (key_of f.0) b) is (subst (λ (a : Key). SameName a (kept_key d)) (sym f.2) meet.same);
          from = meet.from;
          first_seen = subst (λ (a : Key). is_seen a.1 meet.from ≡ true) (sym f.2) meet.first_seen;
          second_seen = subst (λ (b : Key). is_seen b.1 meet.from ≡ true) is meet.second_seen;
        }

    from : IsRepeated all (length kept) → IsRepetition kept d
    from r =
        let k = kept_at r.earlier r.first r.before r.first_there in
        let second : r.second ≡ e = same_Some r.second e (sym r.second_there ∙ there) in
        let key : key_of r.second ≡ kept_key d = ap key_of second ∙ sym is in (
          r.earlier,
          k.0,
          k.1,
          record {
            same = subst (λ (a : Key). SameName a (kept_key d)) (sym k.2) (subst (λ (b : Key). SameName (key_of r.first) b) key r.same);
            from = r.from;
            first_seen = subst (λ (a : Key). is_seen a.1 r.from ≡ true) (sym k.2) r.first_seen;
            second_seen = subst (λ (b : Key). is_seen b.1 r.from ≡ true) key r.second_seen;
          },
        )

    pub tells : (b : Bool) → (b ≡ true) ↔ IsRepetition kept d → (b ≡ true) ↔ IsRepeated all (length kept)
    tells b told = (λ t. to (told.0 t), λ r. told.1 (from r))

-- ---- One name more

shifted : (kept : List Definition) (one : Definition) (rest : List Key) → map kept_key (kept ++ one ∷ []) ++ rest ≡ map kept_key kept ++ kept_key one ∷ rest
shifted [] one rest = refl
shifted (k ∷ ks) one rest = ap (λ more. kept_key k ∷ more) (shifted ks one rest)

module _ (ds : List Defined) (n : ℕ) (d : Defined) (there : drop n ds ≡ d ∷ drop (n + 1) ds) where
  pub one_defined : (kept : List Definition) (one : Definition) (whole : List Key) → kept_key one ≡ key_of (entry_of d)
      → map kept_key kept ++ map key_of (shown (drop n ds)) ≡ whole → map kept_key (kept ++ one ∷ []) ++ map key_of (shown (drop (n + 1) ds)) ≡ whole
  one_defined kept one whole key so_far =
      shifted kept one (map key_of (shown (drop (n + 1) ds)))
      ∙ (ap (λ k. map kept_key kept ++ k ∷ map key_of (shown (drop (n + 1) ds))) key
      ∙ (ap (λ those. map kept_key kept ++ map key_of (shown those)) (sym there) ∙ so_far))

  pub rest_stands : (checks : ℕ) → StandAtPlaces checks (shown (drop n ds)) → IsPlace checks d.scope × StandAtPlaces checks (shown (drop (n + 1) ds))
  rest_stands checks stand = let P : List Defined → Type 0 = λ those. StandAtPlaces checks (shown those) in subst P there stand

-- all names are defined
pub all_defined : (ds : List Defined) (n : ℕ) (kept : List Definition) (whole : List Key) → length ds ≤ n → map kept_key kept ++ map key_of (shown (drop n ds)) ≡ whole
    → map kept_key kept ≡ whole
all_defined ds n kept whole l so_far =
    sym (append-nil (map kept_key kept)) ∙ (ap (λ those. map kept_key kept ++ map key_of (shown those)) (sym (drop_all n ds l)) ∙ so_far)
