-- Entries: the values of lists that are joined, and of columns before or behind them.
use Rattle.std.proofs.Common.{◌≡◌, cond, ℤ, ◌<ℤ◌, ◌≤ℤ◌, int_le, List, [], ◌∷◌, ◌++◌, refl, ap, ◌∙◌, arith}
use Rattle.std.proofs.lemmas.Int.{ints}
use Rattle.std.specs.List.{AllByRecursion}
use Rattle.list_facts.proofs.Members.{all_weaker}
use Rattle.list_facts.proofs.Tests.{le_false, le_true}
use Rattle.row_state.specs.declared.entry.Entry.{Entry}
use Rattle.row_state.specs.Entries.{value_from, last_value, Ascend, Differ}

module _ {V : Type 0} where
  abbrev pub AllBehind : ℤ → List (Entry V) → Type 0
  AllBehind x = AllByRecursion (λ e. x <ℤ e.column)

  abbrev pub AllUpTo : ℤ → List (Entry V) → Type 0
  AllUpTo x = AllByRecursion (λ e. e.column ≤ℤ x)

  abbrev pub AllFrom : ℤ → List (Entry V) → Type 0
  AllFrom x = AllByRecursion (λ e. x ≤ℤ e.column)

  abbrev pub AllBefore : ℤ → List (Entry V) → Type 0
  AllBefore x = AllByRecursion (λ e. e.column <ℤ x)

  pub value_join : (v : V) (xs ys : List (Entry V)) (x : ℤ) → value_from v (xs ++ ys) x ≡ value_from (value_from v xs x) ys x
  value_join v [] ys x = refl
  value_join v (e ∷ xs) ys x = value_join (cond (int_le e.column x) e.value v) xs ys x

  -- before all entries nothing has changed yet
  pub value_before : (v : V) (es : List (Entry V)) (x : ℤ) → AllBehind x es → value_from v es x ≡ v
  value_before v [] x a = refl
  value_before v (e ∷ es) x a =
      ap (λ b. value_from (cond b e.value v) es x) (le_false e.column x a.0) ∙ value_before v es x a.1

  -- behind all entries the last one holds
  pub value_behind : (v : V) (es : List (Entry V)) (x : ℤ) → AllUpTo x es → value_from v es x ≡ last_value v es
  value_behind v [] x a = refl
  value_behind v (e ∷ es) x a =
      ap (λ b. value_from (cond b e.value v) es x) (le_true e.column x a.0) ∙ value_behind e.value es x a.1

  -- the first entry changes the value from its column on
  pub value_first : (v : V) (e : Entry V) (es : List (Entry V)) (x : ℤ) → e.column ≤ℤ x → value_from v (e ∷ es) x ≡ value_from e.value es x
  value_first v e es x l = ap (λ b. value_from (cond b e.value v) es x) (le_true e.column x l)

  pub last_join : (v : V) (xs ys : List (Entry V)) → last_value v (xs ++ ys) ≡ last_value (last_value v xs) ys
  last_join v [] ys = refl
  last_join v (e ∷ xs) ys = last_join e.value xs ys

  pub differ_join : (v : V) (xs ys : List (Entry V)) → Differ v xs → Differ (last_value v xs) ys → Differ v (xs ++ ys)
  differ_join v [] ys d e = e
  differ_join v (f ∷ xs) ys d e = (d.0, differ_join f.value xs ys d.1 e)

  pub differ_left : (v : V) (xs ys : List (Entry V)) → Differ v (xs ++ ys) → Differ v xs
  differ_left v [] ys d = tt
  differ_left v (f ∷ xs) ys d = (d.0, differ_left f.value xs ys d.1)

  pub differ_right : (v : V) (xs ys : List (Entry V)) → Differ v (xs ++ ys) → Differ (last_value v xs) ys
  differ_right v [] ys d = d
  differ_right v (f ∷ xs) ys d = differ_right f.value xs ys d.1

  pub all_left : (P : Entry V → Type 0) (xs ys : List (Entry V)) → AllByRecursion P (xs ++ ys) → AllByRecursion P xs
  all_left P [] ys a = tt
  all_left P (x ∷ xs) ys a = (a.0, all_left P xs ys a.1)

  pub all_join : (P : Entry V → Type 0) (xs ys : List (Entry V)) → AllByRecursion P xs → AllByRecursion P ys → AllByRecursion P (xs ++ ys)
  all_join P [] ys a b = b
  all_join P (x ∷ xs) ys a b = (a.0, all_join P xs ys a.1 b)

  pub ascend_left : (xs ys : List (Entry V)) → Ascend (xs ++ ys) → Ascend xs
  ascend_left [] ys a = tt
  ascend_left (x ∷ xs) ys a = (all_left (λ f. x.column <ℤ f.column) xs ys a.0, ascend_left xs ys a.1)

  pub ascend_right : (xs ys : List (Entry V)) → Ascend (xs ++ ys) → Ascend ys
  ascend_right [] ys a = a
  ascend_right (x ∷ xs) ys a = ascend_right xs ys a.1

  -- entries before a column, and behind them others from it on
  pub ascend_join : (x : ℤ) (xs ys : List (Entry V)) → Ascend xs → Ascend ys → AllBefore x xs → AllFrom x ys → Ascend (xs ++ ys)
  ascend_join x [] ys a b l m = b
  ascend_join x (e ∷ xs) ys a b l m =
      let k : e.column <ℤ x = l.0 in (
        all_join (λ f. e.column <ℤ f.column) xs ys a.0 (all_weaker (λ f. x ≤ℤ f.column) (λ f. e.column <ℤ f.column) (λ f h. omega (arith, ints)) ys m),
        ascend_join x xs ys a.1 b l.1 m,
      )

  pub up_to : (x y : ℤ) (es : List (Entry V)) → x ≤ℤ y → AllUpTo x es → AllUpTo y es
  up_to x y es l a = all_weaker (λ e. e.column ≤ℤ x) (λ e. e.column ≤ℤ y) (λ e h. omega (arith, ints)) es a

  pub behind : (x y : ℤ) (es : List (Entry V)) → x <ℤ y → AllFrom y es → AllBehind x es
  behind x y es l a = all_weaker (λ e. y ≤ℤ e.column) (λ e. x <ℤ e.column) (λ e h. omega (arith, ints)) es a

  pub behind_more : (x y : ℤ) (es : List (Entry V)) → x ≤ℤ y → AllBehind y es → AllBehind x es
  behind_more x y es l a = all_weaker (λ e. y <ℤ e.column) (λ e. x <ℤ e.column) (λ e h. omega (arith, ints)) es a

  pub from_behind : (x y : ℤ) (es : List (Entry V)) → x ≤ℤ y → AllBehind y es → AllFrom x es
  from_behind x y es l a = all_weaker (λ e. y <ℤ e.column) (λ e. x ≤ℤ e.column) (λ e h. omega (arith, ints)) es a

  pub from_more : (x y : ℤ) (es : List (Entry V)) → x ≤ℤ y → AllFrom y es → AllFrom x es
  from_more x y es l a = all_weaker (λ e. y ≤ℤ e.column) (λ e. x ≤ℤ e.column) (λ e h. omega (arith, ints)) es a

  pub before_up_to : (x y : ℤ) (es : List (Entry V)) → x ≤ℤ y → AllBefore x es → AllUpTo y es
  before_up_to x y es l a = all_weaker (λ e. e.column <ℤ x) (λ e. e.column ≤ℤ y) (λ e h. omega (arith, ints)) es a

  pub before_more : (x y : ℤ) (es : List (Entry V)) → x ≤ℤ y → AllBefore x es → AllBefore y es
  before_more x y es l a = all_weaker (λ e. e.column <ℤ x) (λ e. e.column <ℤ y) (λ e h. omega (arith, ints)) es a

  -- entries up to a column, and behind them others behind it
  pub ascend_above : (x : ℤ) (xs ys : List (Entry V)) → Ascend xs → Ascend ys → AllUpTo x xs → AllBehind x ys → Ascend (xs ++ ys)
  ascend_above x [] ys a b l m = b
  ascend_above x (e ∷ xs) ys a b l m =
      let k : e.column ≤ℤ x = l.0 in (
        all_join (λ f. e.column <ℤ f.column) xs ys a.0 (all_weaker (λ f. x <ℤ f.column) (λ f. e.column <ℤ f.column) (λ f h. omega (arith, ints)) ys m),
        ascend_above x xs ys a.1 b l.1 m,
      )
