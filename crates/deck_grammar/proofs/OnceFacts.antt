-- Statements that stand once, among the first of a list.
use Rattle.std.proofs.Common.{◌≡◌, ℕ, zero, suc, ◌+◌, ◌<◌, inl, inr, List, [], ◌∷◌, ◌++◌, length, take, drop, refl, ap, sym, subst, ◌∙◌, length-append, Contains, get_or, arith, false}
use Rattle.std.specs.Prelude.{Option, Some, None, IsTrue}
use Rattle.std.specs.List.{cons_option}
use Rattle.std.proofs.Math.Seq.{take-add}
use Rattle.std.proofs.lemmas.List.{take-append-drop, drop_more}
use Rattle.std.proofs.lemmas.List.Elements.{filter_map-append, Contains-append_right, Contains-append_cases}
use Rattle.deck_tree.specs.declared.statement.Statement.{Statement}
use Rattle.deck_tree.specs.declared.refusal.Single.{Single}
use Rattle.deck_grammar.specs.Refusals.{single_of, singles, StandOnce}
use Rattle.deck_grammar.proofs.Refused.{Places, same, before, behind, places, here_is}

pub next_is : {X : Type 0} (xs : List X) (i : ℕ) (x : X) → i < length xs → x ≡ get_or xs i x → drop i xs ≡ x ∷ drop (i + 1) xs
next_is xs i x h e = drop_more xs i x h ∙ ap (λ y. y ∷ drop (i + 1) xs) (sym e)

pub take_next : {X : Type 0} (xs : List X) (i : ℕ) (x : X) → i < length xs → x ≡ get_or xs i x → take (i + 1) xs ≡ take i xs ++ x ∷ []
take_next xs i x h e = take-add i 1 xs ∙ ap (λ those. take i xs ++ take 1 those) (next_is xs i x h e)

pub whole_is : {X : Type 0} (xs : List X) (i : ℕ) (x : X) → i < length xs → x ≡ get_or xs i x → xs ≡ take i xs ++ x ∷ drop (i + 1) xs
whole_is xs i x h e = sym (take-append-drop i xs) ∙ ap (λ those. take i xs ++ those) (next_is xs i x h e)

-- no statement stands among none, and a list of one has its word alone
pub in_none : (which : Single) → Contains [] which → ⊥
in_none which c = absurd (let h : c.0 < 0 = c.1 in omega arith)

in_one : (one which : Single) (k : ℕ) → k < 1 → get_or (one ∷ []) k which ≡ which → one ≡ which
in_one one which zero h e = e
in_one one which (suc k) h e = absurd (omega arith)

single_first : (x : Statement) (which : Single) (o : Option Single) → single_of x ≡ o → Contains (singles (x ∷ [])) which → o ≡ Some which
single_first x which None e c = absurd (in_none which (subst (λ those. Contains those which) (ap (λ o. cons_option o []) e) c))
single_first x which (Some one) e c =
    let d : Contains (one ∷ []) which = subst (λ those. Contains those which) (ap (λ o. cons_option o []) e) c in
    ap Some (in_one one which d.0 d.1 d.2)

pub found_single : (front : List Statement) (x : Statement) (back : List Statement) (which : Single) → single_of x ≡ Some which
    → Contains (singles (front ++ x ∷ back)) which
found_single front x back which e =
    let P : List Single → Type 0 = λ those. Contains those which in
    subst P (sym (filter_map-append single_of front (x ∷ back)))
    (Contains-append_right (singles front) (singles (x ∷ back)) which
    (subst P (sym (ap (λ o. cons_option o (singles back)) e)) (here_is [] which (singles back))))

pub no_single_more : (front : List Statement) (x : Statement) (which : Single) → (Contains (singles front) which → ⊥) → (single_of x ≡ Some which → ⊥)
    → Contains (singles (front ++ x ∷ [])) which → ⊥
no_single_more front x which none other c =
    elim (Contains-append_cases (singles front) (singles (x ∷ [])) which (subst (λ those. Contains those which) (filter_map-append single_of front (x ∷ [])) c)) [
      | inl there ↦ none there
      | inr here ↦ other (single_first x which (single_of x) refl here)
    ]

-- behind all of a list comes nothing more
not_behind : {X : Type 0} (xs between back : List X) (x y : X) → xs ++ x ∷ [] ≡ (xs ++ x ∷ between) ++ y ∷ back → ⊥
not_behind xs between back x y e =
    let n : length (xs ++ x ∷ []) ≡ length ((xs ++ x ∷ between) ++ y ∷ back) = ap length e in
    omega (arith, n, length-append xs (x ∷ []), length-append (xs ++ x ∷ between) (y ∷ back), length-append xs (x ∷ between))

pub stand_once_more : (front : List Statement) (x : Statement) → StandOnce front
    → ((which : Single) → single_of x ≡ Some which → Contains (singles front) which → ⊥) → StandOnce (front ++ x ∷ [])
stand_once_more front x once new prior repeat back which e is came = by (places front x [] prior repeat back e)
  where
    by : Places front prior x repeat → ⊥
    by (same p q) = new which (ap single_of q ∙ is) (subst (λ those. Contains (singles those) which) (sym p) came)
    by (before between p) = not_behind front between back x repeat (e ∙ ap (λ those. those ++ repeat ∷ back) p)
    by (behind between p) = once prior repeat between which p is came

-- each of some words is among others
abbrev pub AllIn : List Single → List Single → Type 0
AllIn [] those = Unit {0}
AllIn (one ∷ more) those = Contains those one × AllIn more those

pub contains_all : (some those : List Single) → AllIn some those → (one : Single) → Contains some one → Contains those one
contains_all [] those h one c = absurd (in_none one c)
contains_all (first ∷ more) those h one c = by c.0 c.1 c.2 (contains_all more those h.1 one)
  where
    by : (k : ℕ) → k < length (first ∷ more) → get_or (first ∷ more) k one ≡ one → (Contains more one → Contains those one) → Contains those one
    by zero lt e later = subst (λ it. Contains those it) e h.0
    by (suc k) lt e later = later (k, omega arith, e)

-- a list of none has none twice
pub none_once : StandOnce []
none_once prior repeat back which e is came =
    let n : length (let empty : List Statement = [] in empty) ≡ length (prior ++ repeat ∷ back) = ap length e in
    omega (arith, n, length-append prior (repeat ∷ back))

pub never : IsTrue false → ⊥
never e = cc
