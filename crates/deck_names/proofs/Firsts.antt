-- The first definition of a name, once one more is defined, and among those of two kinds.
use Rattle.std.proofs.Common.{◌≡◌, ℕ, ◌+◌, ◌≤◌, min, Bool, true, false, cond, ◌&&◌, ◌||◌, List, [], ◌∷◌, ◌++◌, length, Option, Some, None, refl, sym, ap, ◌∙◌, arith}
use Rattle.std.proofs.lemmas.Option.{none-some, same_Some}
use mathlib.Core.Bool.{true≢false}
use Rattle.std.specs.Option.{option_or}
use Rattle.std.specs.List.{position_from}
use Rattle.deck_names.specs.declared.definition.Definition.{Definition}
use Rattle.deck_names.specs.declared.definition.Scope.{Scope}
use Rattle.deck_names.specs.declared.definition.Scope.TheVariants as scope
use Rattle.deck_names.specs.Definitions.{has_name, is_seen, stands_for}
use Rattle.deck_names.specs.Tables.{is_outside, is_in}
use Rattle.deck_names.specs.Working.Tables.{entered, least_of}

or_none : (r : Option ℕ) → option_or r None ≡ r
or_none None = refl
or_none (Some x) = refl

module _ {X : Type 0} (p : X → Bool) where
  -- ---- one more at the end

  pub one_behind : (n : ℕ) (xs : List X) (x : X) → position_from p n (xs ++ x ∷ []) ≡ option_or (position_from p n xs) (cond (p x) (Some (n + length xs)) None)
  one_behind n [] x = let e : n + 0 ≡ n = omega arith in ap (λ m. cond (p x) (Some m) None) (sym e)
  one_behind n (y ∷ ys) x = by_head (one_behind (n + 1) ys x) (p y)
    where
      by_head : position_from p (n + 1) (ys ++ x ∷ []) ≡ option_or (position_from p (n + 1) ys) (cond (p x) (Some (n + 1 + length ys)) None) → (b : Bool) → cond b (Some n) (position_from p (n + 1) (ys ++ x ∷ [])) ≡ option_or (cond b (Some n) (position_from p (n + 1) ys)) (cond (p x) (Some (n + length (y ∷ ys))) None)
      by_head later true = refl
      by_head later false =
          let e : (n + 1) + length ys ≡ n + length (y ∷ ys) = omega arith in
          later ∙ ap (λ m. option_or (position_from p (n + 1) ys) (cond (p x) (Some m) None)) e

  -- what is found stands at the start or behind it
  pub not_before : (n : ℕ) (xs : List X) (m : ℕ) → position_from p n xs ≡ Some m → n ≤ m
  not_before n [] m e = absurd (none-some m e)
  not_before n (x ∷ xs) m e = by_head (λ q. not_before (n + 1) xs m q) (p x) e
    where
      by_head : (position_from p (n + 1) xs ≡ Some m → n + 1 ≤ m) → (b : Bool) → cond b (Some n) (position_from p (n + 1) xs) ≡ Some m → n ≤ m
      by_head later true q = let h = same_Some n m q in omega arith
      by_head later false q = let l = later q in omega arith

-- ---- the first of two kinds

least_first : (n : ℕ) (r : Option ℕ) → ((m : ℕ) → r ≡ Some m → n ≤ m) → Some n ≡ least_of (Some n) r
least_first n None h = refl
least_first n (Some m) h = let l = h m refl in let e : n ≡ min n m = omega arith in ap Some e

least_second : (n : ℕ) (r : Option ℕ) → ((m : ℕ) → r ≡ Some m → n ≤ m) → Some n ≡ least_of r (Some n)
least_second n None h = refl
least_second n (Some m) h = let l = h m refl in let e : n ≡ min m n = omega arith in ap Some e

module _ {X : Type 0} (a b c : X → Bool) where
  pub first_of_either : (n : ℕ) (xs : List X) → position_from (λ x. (a x || b x) && c x) n xs ≡ least_of (position_from (λ x. a x && c x) n xs) (position_from (λ x. b x && c x) n xs)
  first_of_either n [] = refl
  first_of_either n (x ∷ xs) = by_heads (first_of_either (n + 1) xs) (a x) (b x) (c x)
    where
      behind_a : (m : ℕ) → position_from (λ x. a x && c x) (n + 1) xs ≡ Some m → n ≤ m
      behind_a m e = let l = not_before (λ x. a x && c x) (n + 1) xs m e in omega arith

      behind_b : (m : ℕ) → position_from (λ x. b x && c x) (n + 1) xs ≡ Some m → n ≤ m
      behind_b m e = let l = not_before (λ x. b x && c x) (n + 1) xs m e in omega arith

      by_heads : position_from (λ x. (a x || b x) && c x) (n + 1) xs ≡ least_of (position_from (λ x. a x && c x) (n + 1) xs) (position_from (λ x. b x && c x) (n + 1) xs) → (u v w : Bool) → cond ((u || v) && w) (Some n) (position_from (λ x. (a x || b x) && c x) (n + 1) xs) ≡ least_of (cond (u && w) (Some n) (position_from (λ x. a x && c x) (n + 1) xs)) (cond (v && w) (Some n) (position_from (λ x. b x && c x) (n + 1) xs))
      by_heads later true true true = least_first n (Some n) (λ m e. let h = same_Some n m e in omega arith)
      by_heads later true false true = least_first n _ behind_b
      by_heads later false true true = least_second n _ behind_a
      by_heads later false false true = later
      by_heads later true true false = later
      by_heads later true false false = later
      by_heads later false true false = later
      by_heads later false false false = later

-- ---- tables

module _ (counts : Scope → Bool) (definitions : List Definition) (d : Definition) where
  at_name : (q : List ℕ) (table : Option ℕ) (c : Bool) → c ≡ true → (b : Bool) → cond b (option_or table (Some (length definitions))) table ≡ option_or table (cond (c && b) (Some (0 + length definitions)) None)
  at_name q table true e true = let z : length definitions ≡ 0 + length definitions = omega arith in ap (λ n. option_or table (Some n)) z
  at_name q table true e false = sym (or_none table)
  at_name q table false e b = absurd (true≢false (sym e))

  -- a definition that counts is entered
  pub entered_more : (old new : List ℕ → Option ℕ) → counts d.scope ≡ true → ((q : List ℕ) → old q ≡ position_from (λ e. counts e.scope && has_name q e) 0 definitions) → ((q : List ℕ) → new q ≡ entered old d.name.now (length definitions) q) → (q : List ℕ) → new q ≡ position_from (λ e. counts e.scope && has_name q e) 0 (definitions ++ d ∷ [])
  entered_more old new counted was is q =
      is q
      ∙ (at_name q (old q) (counts d.scope) counted (has_name q d)
      ∙ (ap (λ r. option_or r (cond (counts d.scope && has_name q d) (Some (0 + length definitions)) None)) (was q)
      ∙ sym (one_behind (λ e. counts e.scope && has_name q e) 0 definitions d)))

  -- one that doesn't count changes nothing
  pub kept_more : (old : List ℕ → Option ℕ) → counts d.scope ≡ false → ((q : List ℕ) → old q ≡ position_from (λ e. counts e.scope && has_name q e) 0 definitions) → (q : List ℕ) → old q ≡ position_from (λ e. counts e.scope && has_name q e) 0 (definitions ++ d ∷ [])
  kept_more old away was q =
      was q
      ∙ (sym (or_none _)
      ∙ (ap (λ b. option_or (position_from (λ e. counts e.scope && has_name q e) 0 definitions) (cond (b && has_name q d) (Some (0 + length definitions)) None)) (sym away)
      ∙ sym (one_behind (λ e. counts e.scope && has_name q e) 0 definitions d)))

-- ---- the definition for which a name stands

seen_everywhere : (s : Scope) → is_seen s scope.Everywhere ≡ is_outside s
seen_everywhere scope.Everywhere = refl
seen_everywhere (scope.Check k) = refl

seen_in : (k : ℕ) (s : Scope) → is_seen s (scope.Check k) ≡ (is_outside s || is_in k s)
seen_in k scope.Everywhere = refl
seen_in k (scope.Check j) = refl

pub stands_outside : (definitions : List Definition) (q : List ℕ) → position_from (λ d. is_outside d.scope && has_name q d) 0 definitions ≡ stands_for definitions scope.Everywhere q
stands_outside definitions q = λ i. position_from (λ d. sym (seen_everywhere d.scope) i && has_name q d) 0 definitions

pub stands_inside : (definitions : List Definition) (k : ℕ) (q : List ℕ) → least_of (position_from (λ d. is_outside d.scope && has_name q d) 0 definitions) (position_from (λ d. is_in k d.scope && has_name q d) 0 definitions) ≡ stands_for definitions (scope.Check k) q
stands_inside definitions k q =
    sym (first_of_either (λ d. is_outside d.scope) (λ d. is_in k d.scope) (has_name q) 0 definitions)
    ∙ (λ i. position_from (λ d. sym (seen_in k d.scope) i && has_name q d) 0 definitions)
