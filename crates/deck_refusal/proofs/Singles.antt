-- Which statements a list lacks, or has twice, is decided.
use Rattle.std.proofs.Common.{◌≡◌, ◌⊎◌, inl, inr, ℕ, zero, suc, ◌<◌, List, [], ◌∷◌, ◌++◌, length, Option, Some, None, refl, ap, sym, subst, ◌∙◌, append_assoc, append-nil, get_or, arith}
use Rattle.std.specs.Prelude.{Contains}
use Rattle.std.specs.List.{AllByRecursion}
use Rattle.std.proofs.lemmas.Bool.Decides.{eqb_tells}
use Rattle.std.proofs.lemmas.List.Elements.{All-contains, All-from_recursion}
use Rattle.std.proofs.lemmas.Option.{none-some, same_Some}
use Rattle.deck_tree.specs.declared.statement.Statement.{Statement}
use Rattle.deck_tree.specs.declared.refusal.Single.{Single}
use Rattle.deck_tree.specs.declared.refusal.Single.TheVariants as single
use Rattle.deck_grammar.specs.Refusals.{single_of, singles, place_of, wanted, IsMissing, IsRepeated, StandOnce}
use Rattle.deck_grammar.proofs.OnceFacts.{in_none, stand_once_more}
use Rattle.deck_refusal.proofs.Going.{never_empty}
use Rattle.deck_refusal.proofs.Statements.{HasWanted}

-- ---- Statements that stand once are told apart

abbrev number : Single → ℕ
number single.LayoutSystem = 0
number single.LayoutPath = 1
number single.LayoutPrimary = 2
number single.ResultsDatabase = 3
number single.Precision = 4
number single.Title = 5
number single.SummaryReport = 6
number single.MaximumResults = 7

abbrev numbered : ℕ → Single
numbered zero = single.LayoutSystem
numbered (suc zero) = single.LayoutPath
numbered (suc (suc zero)) = single.LayoutPrimary
numbered (suc (suc (suc zero))) = single.ResultsDatabase
numbered (suc (suc (suc (suc zero)))) = single.Precision
numbered (suc (suc (suc (suc (suc zero))))) = single.Title
numbered (suc (suc (suc (suc (suc (suc zero)))))) = single.SummaryReport
numbered (suc (suc (suc (suc (suc (suc (suc n))))))) = single.MaximumResults

back : (one : Single) → numbered (number one) ≡ one
back single.LayoutSystem = refl
back single.LayoutPath = refl
back single.LayoutPrimary = refl
back single.ResultsDatabase = refl
back single.Precision = refl
back single.Title = refl
back single.SummaryReport = refl
back single.MaximumResults = refl

same_or_not : (a b : Single) → (a ≡ b) ⊎ (a ≡ b → ⊥)
same_or_not a b = elim (eqb_tells (number a) (number b)) [
  | inl same ↦ inl (sym (back a) ∙ (ap numbered same.1 ∙ back b))
  | inr other ↦ inr (λ e. other.1 (ap number e))
]

pub has_or_not : (those : List Single) (one : Single) → Contains those one ⊎ (Contains those one → ⊥)
has_or_not [] one = inr (in_none one)
has_or_not (first ∷ more) one = by (same_or_not first one) (has_or_not more one)
  where
    neither : (first ≡ one → ⊥) → (Contains more one → ⊥) → (k : ℕ) → k < length (first ∷ more) → get_or (first ∷ more) k one ≡ one → ⊥
    neither other none zero lt e = other e
    neither other none (suc k) lt e = none (k, omega arith, e)

    by : (first ≡ one) ⊎ (first ≡ one → ⊥) → Contains more one ⊎ (Contains more one → ⊥) → Contains (first ∷ more) one ⊎ (Contains (first ∷ more) one → ⊥)
    by (inl same) later = inl (0, omega arith, same)
    by (inr other) (inl there) = inl (suc there.0, omega (arith, there.1), there.2)
    by (inr other) (inr none) = inr (λ c. neither other none c.0 c.1 c.2)

-- ---- Statements that must be there

-- what each of some is, one of them is
among : (all : List Statement) (some : List Single) → AllByRecursion (Contains (singles all)) some → (one : Single) → Contains some one → Contains (singles all) one
among all some h one i = All-contains (Contains (singles all)) some one (All-from_recursion (Contains (singles all)) some h) i

abbrev OrNot : List Single → Single → Type 0
OrNot those one = Contains those one ⊎ (Contains those one → ⊥)

pub missing_or_not : (all : List Statement) → ((which : Single) × IsMissing all which) ⊎ HasWanted all
missing_or_not all =
    by (has_or_not (singles all) single.LayoutSystem) (has_or_not (singles all) single.LayoutPath) (has_or_not (singles all) single.LayoutPrimary)
    (has_or_not (singles all) single.ResultsDatabase)
  where
    by : OrNot (singles all) single.LayoutSystem → OrNot (singles all) single.LayoutPath → OrNot (singles all) single.LayoutPrimary → OrNot (singles all) single.ResultsDatabase
        → ((which : Single) × IsMissing all which) ⊎ HasWanted all
    by (inr absent) b c d = inl (
      single.LayoutSystem,
      record {
        before = [];
        behind = single.LayoutPath ∷ single.LayoutPrimary ∷ single.ResultsDatabase ∷ [];
        is_wanted = refl;
        earlier = λ one i. absurd (in_none one i);
        missing = absent;
      },
    )
    by (inl a) (inr absent) c d = inl (
      single.LayoutPath,
      record {
        before = single.LayoutSystem ∷ [];
        behind = single.LayoutPrimary ∷ single.ResultsDatabase ∷ [];
        is_wanted = refl;
        earlier = among all (single.LayoutSystem ∷ []) (a, tt);
        missing = absent;
      },
    )
    by (inl a) (inl b) (inr absent) d = inl (
      single.LayoutPrimary,
      record {
        before = single.LayoutSystem ∷ single.LayoutPath ∷ [];
        behind = single.ResultsDatabase ∷ [];
        is_wanted = refl;
        earlier = among all (single.LayoutSystem ∷ single.LayoutPath ∷ []) (a, (b, tt));
        missing = absent;
      },
    )
    by (inl a) (inl b) (inl c) (inr absent) = inl (
      single.ResultsDatabase,
      record {
        before = single.LayoutSystem ∷ single.LayoutPath ∷ single.LayoutPrimary ∷ [];
        behind = [];
        is_wanted = refl;
        earlier = among all (single.LayoutSystem ∷ single.LayoutPath ∷ single.LayoutPrimary ∷ []) (a, (b, (c, tt)));
        missing = absent;
      },
    )
    by (inl a) (inl b) (inl c) (inl d) =
        inr (among all wanted (a, (b, (c, (d, tt)))))

-- ---- Statements that stand once

-- a statement comes a second time, or none does
abbrev pub RepeatedOrNot : List Statement → Type 0
RepeatedOrNot all = ((which : Single) × ((place : ℕ) × IsRepeated all which place)) ⊎ StandOnce all

pub repeated_or_not : (before rest : List Statement) → StandOnce before → RepeatedOrNot (before ++ rest)
repeated_or_not before [] once = let P : List Statement → Type 0 = λ those. StandOnce those in inr (subst P (sym (append-nil before)) once)
repeated_or_not before (x ∷ rest) once = by (single_of x) refl (repeated_or_not (before ++ x ∷ []) rest)
  where
    goes_on : StandOnce (before ++ x ∷ []) → (StandOnce (before ++ x ∷ []) → RepeatedOrNot ((before ++ x ∷ []) ++ rest)) → RepeatedOrNot (before ++ x ∷ rest)
    goes_on more later = let P : List Statement → Type 0 = λ those. RepeatedOrNot those in subst P (append_assoc before (x ∷ []) rest) (later more)

    by_has : (which : Single) → single_of x ≡ Some which → Contains (singles before) which ⊎ (Contains (singles before) which → ⊥)
        → (StandOnce (before ++ x ∷ []) → RepeatedOrNot ((before ++ x ∷ []) ++ rest)) → RepeatedOrNot (before ++ x ∷ rest)
    by_has which e (inl came) later = inl (
      which,
      (
        place_of x,
        record {
          before = before;
          repeat = x;
          behind = rest;
          stands = refl;
          is_single = e;
          came = came;
          first = once;
          place_is = refl;
        },
      ),
    )
    by_has which e (inr new) later =
        goes_on (stand_once_more before x once (λ other is c. new (subst (λ one. Contains (singles before) one) (same_Some other which (sym is ∙ e)) c))) later

    by : (o : Option Single) → single_of x ≡ o → (StandOnce (before ++ x ∷ []) → RepeatedOrNot ((before ++ x ∷ []) ++ rest)) → RepeatedOrNot (before ++ x ∷ rest)
    by None e later = goes_on (stand_once_more before x once (λ other is c. absurd (none-some other (sym e ∙ is)))) later
    by (Some which) e later = by_has which e (has_or_not (singles before) which) later

pub none_once : StandOnce []
none_once prior repeat behind which e is came = absurd (never_empty prior repeat behind e)
