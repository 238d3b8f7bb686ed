-- Names: without their padding, and in a set of them.
use Rattle.std.proofs.Common.{◌≡◌, refl, sym, ◌∙◌, ap, ℕ, suc, ◌-◌, ◌<◌, Bool, true, false, ◌||◌, if◌then◌else◌, List, [], ◌∷◌, ◌++◌, length, take, drop, map, arith, Some, Vec, Global}
use Rattle.std.specs.List.{All, list_any, slice_get}
use Rattle.std.specs.declared.cmp.Ordering.{Ordering}
use Rattle.std.specs.declared.cmp.Ordering.TheVariants.{Less, Equal, Greater}
use Rattle.std.specs.Ordering.{match_ordering, is_eq, nat_cmp}
use Rattle.std.specs.BTreeSet.{insert_key}
use Rattle.std.specs.BTreeMap.{is_at}
use Rattle.std.specs.Cmp.Lexicographic.{slice_cmp}
use Rattle.std.specs.Str.{bytes_eq}
use Rattle.std.proofs.lemmas.Map.Text.{is_eq-slice_cmp}
use Rattle.std.proofs.lemmas.Slice.Eq.{bytes_eq-Decides}
use Rattle.list_facts.proofs.Members.{any_agree}
use Rattle.gds_library.specs.Facts.{has_name}
use Rattle.std.proofs.lemmas.Bool.{ne_eqb}
use Rattle.std.proofs.lemmas.List.{take-append-drop}
use Rattle.gds_library.specs.Fields.{padded, name}

-- ---- Padding

nulls_only : (nulls : List ℕ) → All (λ byte. byte ≡ 0) nulls → name nulls ≡ []
nulls_only [] all = refl
nulls_only (byte ∷ nulls) all =
    let first : byte ≡ 0 = all 0 byte (omega arith) in
    let rest : All (λ b. b ≡ 0) nulls = λ k d l. all (suc k) d (let m : k < length nulls = l in omega arith) in
    ap (padded byte) (nulls_only nulls rest) ∙ ap (λ b. padded b []) first

before_nulls : (those nulls : List ℕ) → All (λ byte. byte ≡ 0) nulls → (slice_get those (length those - 1) ≡ Some 0 → ⊥) → name (those ++ nulls) ≡ those
before_nulls [] nulls all whole = nulls_only nulls all
before_nulls (byte ∷ []) nulls all whole =
    ap (padded byte) (nulls_only nulls all) ∙ ap (λ b. if b then [] else byte ∷ []) (ne_eqb byte 0 (λ e. whole (ap Some e)))
before_nulls (byte ∷ next ∷ those) nulls all whole =
    let last : length (next ∷ those) - 1 ≡ length those = omega arith in
    let behind : length (byte ∷ next ∷ those) - 1 ≡ suc (length those) = omega arith in
    ap (padded byte) (before_nulls (next ∷ those) nulls all (λ e. whole (ap (slice_get (byte ∷ next ∷ those)) behind ∙ ap (slice_get (next ∷ those)) (sym last) ∙ e)))

pub unpadded : (those text : List ℕ) → take (length those) text ≡ those → All (λ byte. byte ≡ 0) (drop (length those) text)
    → (slice_get those (length those - 1) ≡ Some 0 → ⊥) → name text ≡ those
unpadded those text begins nulls whole =
    ap name (sym (take-append-drop (length those) text) ∙ ap (λ front. front ++ drop (length those) text) begins)
    ∙ before_nulls those (drop (length those) text) nulls whole

-- ---- A set

or_twice : (a c : Bool) → (a || c) ≡ (a || (a || c))
or_twice true c = refl
or_twice false c = refl

or_swap : (a b c : Bool) → (a || (b || c)) ≡ (b || (a || c))
or_swap true true c = refl
or_swap true false c = refl
or_swap false b c = refl

module _ {K : Type 0} (cmp : K → K → Ordering) (test : K → Bool) (same : (x y : K) → cmp x y ≡ Equal → test x ≡ test y) where
  placed : (first : K) (keys : List K) (key : K) (order : Ordering) → cmp key first ≡ order → list_any test (insert_key cmp keys key) ≡ (test key || list_any test keys)
      → list_any test (match_ordering order (key ∷ first ∷ keys) (first ∷ keys) (first ∷ insert_key cmp keys key)) ≡ (test key || list_any test (first ∷ keys))
  placed first keys key Less e rest = refl
  placed first keys key Equal e rest =
      or_twice (test first) (list_any test keys) ∙ ap (λ t. t || (test first || list_any test keys)) (sym (same key first e))
  placed first keys key Greater e rest = ap (λ t. test first || t) rest ∙ or_swap (test first) (test key) (list_any test keys)

  pub inserted : (keys : List K) (key : K) → list_any test (insert_key cmp keys key) ≡ (test key || list_any test keys)
  inserted [] key = refl
  inserted (first ∷ keys) key = placed first keys key (cmp key first) refl (inserted keys key)

pub any_of_map : {X Y : Type 0} (f : X → Y) (test : Y → Bool) (xs : List X) → list_any test (map f xs) ≡ list_any (λ x. test (f x)) xs
any_of_map f test [] = refl
any_of_map f test (x ∷ xs) = ap (λ t. test (f x) || t) (any_of_map f test xs)

-- ---- A set of texts

pub has_is : (keys : List (Vec ℕ Global)) (those : List ℕ) → has_name (map (λ key. key.items) keys) those ≡ list_any (is_at (λ key. slice_cmp nat_cmp those key.items)) keys
has_is keys those =
    any_of_map (λ (key : Vec ℕ Global). key.items) (bytes_eq those) keys
    ∙ any_agree (λ key. bytes_eq those key.items) (is_at (λ key. slice_cmp nat_cmp those key.items)) (λ key. sym (is_eq-slice_cmp those key.items)) keys

pub same_key : (those : List ℕ) (x y : Vec ℕ Global) → slice_cmp nat_cmp x.items y.items ≡ Equal → is_at (λ (key : Vec ℕ Global). slice_cmp nat_cmp those key.items) x ≡ is_at (λ (key : Vec ℕ Global). slice_cmp nat_cmp those key.items) y
same_key those x y equal =
    ap (λ items. is_eq (slice_cmp nat_cmp those items)) ((bytes_eq-Decides x.items y.items).0 (sym (is_eq-slice_cmp x.items y.items) ∙ ap is_eq equal))

absorbed : (test held : Bool) → (test ≡ true → held ≡ true) → held ≡ (test || held)
absorbed true held h = h refl
absorbed false held h = refl

pub has_already : (names : List (List ℕ)) (name : List ℕ) → has_name names name ≡ true → (those : List ℕ) → has_name names those ≡ (bytes_eq those name || has_name names those)
has_already names name held those =
    absorbed (bytes_eq those name) (has_name names those) (λ e. ap (has_name names) ((bytes_eq-Decides those name).0 e) ∙ held)
