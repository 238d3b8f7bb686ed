-- Where a token leads from a stack, by what stands on top.
use Rattle.std.proofs.Common.{◌≡◌, ℕ, suc, ◌-◌, inl, inr, Bool, true, false, not, List, [], ◌∷◌, ◌++◌, Some, refl, sym, ap, subst, ◌∙◌, arith}
use Rattle.std.specs.Prelude.{if◌then◌else◌, ◌↔◌, IsTrue}
use Rattle.std.specs.Bool.{OnTrue}
use Rattle.std.proofs.lemmas.Bool.{cases_Bool, false≢true}
use Rattle.std.specs.List.{flat_map}
use Rattle.deck_grammar.specs.declared.kind.Kind.{Kind}
use Rattle.deck_grammar.specs.declared.keyword.Keyword.TheVariants as k
use Rattle.deck_grammar.specs.declared.sign.Sign.TheVariants as s
use Rattle.deck_grammar.specs.Rules.{Part, left, word, sign, rule, token, options, value}
use Rattle.deck_grammar.specs.Working.Numbers.{same_kind}
use Rattle.deck_grammar.proofs.Numbering.{same_is, is_same}
use Rattle.deck_stacks.specs.Working.Tables.{parts_of}
use Rattle.deck_stacks.specs.Working.Deriving.{derive, derive_all}
use Rattle.deck_stacks.specs.Stacks.{AreNext}
use Rattle.deck_stacks.proofs.Following.{are_derived}
use Rattle.deck_stacks.specs.Working.Opening.{token_of}

-- what is made of each alternative of options, one after the other
abbrev one_by_one_of : (List Part → List (List Part)) → (a b c d e : Bool) → List (List Part)
one_by_one_of f a b c d e =
    f [] ++ ((if a then f (word k.Abut ∷ sign s.Less ∷ rule value ∷ rule (options (left false b c d e)) ∷ []) else [])
    ++ ((if b then f (word k.Singular ∷ rule (options (left a false c d e)) ∷ []) else [])
    ++ ((if c then f (word k.Opposite ∷ rule (options (left a b false d e)) ∷ []) else [])
    ++ ((if c then f (word k.Square ∷ rule (options (left a b false d e)) ∷ []) else [])
    ++ ((if d then f (word k.Notch ∷ rule (options (left a b c false e)) ∷ []) else [])
    ++ ((if d then f (word k.Space ∷ rule (options (left a b c false e)) ∷ []) else [])
    ++ ((if e then f (word k.Region ∷ rule (options (left a b c d false)) ∷ []) else []) ++ [])))))))

options_one_by_one : (f : List Part → List (List Part)) (a b c d e : Bool)
    → flat_map f (parts_of (options (left a b c d e))) ≡ one_by_one_of f a b c d e
options_one_by_one f true true true true true = refl
options_one_by_one f true true true true false = refl
options_one_by_one f true true true false true = refl
options_one_by_one f true true true false false = refl
options_one_by_one f true true false true true = refl
options_one_by_one f true true false true false = refl
options_one_by_one f true true false false true = refl
options_one_by_one f true true false false false = refl
options_one_by_one f true false true true true = refl
options_one_by_one f true false true true false = refl
options_one_by_one f true false true false true = refl
options_one_by_one f true false true false false = refl
options_one_by_one f true false false true true = refl
options_one_by_one f true false false true false = refl
options_one_by_one f true false false false true = refl
options_one_by_one f true false false false false = refl
options_one_by_one f false true true true true = refl
options_one_by_one f false true true true false = refl
options_one_by_one f false true true false true = refl
options_one_by_one f false true true false false = refl
options_one_by_one f false true false true true = refl
options_one_by_one f false true false true false = refl
options_one_by_one f false true false false true = refl
options_one_by_one f false true false false false = refl
options_one_by_one f false false true true true = refl
options_one_by_one f false false true true false = refl
options_one_by_one f false false true false true = refl
options_one_by_one f false false true false false = refl
options_one_by_one f false false false true true = refl
options_one_by_one f false false false true false = refl
options_one_by_one f false false false false true = refl
options_one_by_one f false false false false false = refl

pub options_opened : (k : Kind) (turns : ℕ) (a b c d e : Bool) (more : List Part) → (turns ≡ 0 → ⊥)
    → derive turns k (rule (options (left a b c d e)) ∷ more)
    ≡ one_by_one_of (λ those. derive (turns - 1) k (those ++ more)) a b c d e
options_opened k turns a b c d e more h =
    let some : turns ≡ suc (turns - 1) = omega arith in
    ap (λ n. derive n k (rule (options (left a b c d e)) ∷ more)) some
    ∙ options_one_by_one (λ those. derive (turns - 1) k (those ++ more)) a b c d e

-- a token of another kind is no way
not_taken : (n : ℕ) (k k' : Kind) (more : List Part) → (k' ≡ k → ⊥) → derive n k (token k' ∷ more) ≡ []
not_taken n k k' more h = elim (cases_Bool (same_kind k' k)) [
  | inl is ↦ absurd (h (same_is k' k is))
  | inr is ↦ ap (λ b. if b then more ∷ [] else []) is
]

no_way : (p : Part) (k k' : Kind) → token_of p ≡ Some k' → (k' ≡ k → ⊥)
    → (n : ℕ) (more : List Part) → derive n k (p ∷ more) ≡ []
no_way (token other) k k' is h n more = not_taken n k other more (λ e. h (cc))
no_way (rule q) k k' is h n more = absurd (cc)

pub passing : (p : Part) (k k' : Kind) (b : Bool) → token_of p ≡ Some k' → IsTrue b ↔ (k' ≡ k)
    → OnTrue (not b) ((n : ℕ) (more : List Part) → derive n k (p ∷ more) ≡ [])
passing p k k' true is h = tt
passing p k k' false is h = no_way p k k' is (λ e. false≢true (h.1 e))

-- one of the kind is
pub one_way : (k k' : Kind) (more : List Part) → k' ≡ k → (if same_kind k' k then more ∷ [] else []) ≡ more ∷ []
one_way k k' more e = ap (λ b. if b then more ∷ [] else []) (is_same k' k e)

pub no_way_at_all : (k k' : Kind) (more : List Part) → (k' ≡ k → ⊥) → (if same_kind k' k then more ∷ [] else []) ≡ []
no_way_at_all k k' more h = not_taken 0 k k' more h

pub are_next : (k : Kind) (stacks found : List (List Part)) → found ≡ derive_all k stacks → AreNext k stacks found
are_next k stacks found e =
    let P : List (List Part) → Type 0 = λ those. AreNext k stacks those in subst P (sym e) (are_derived k stacks)
