-- The first of facts of two kinds together, from the first of each; and facts said in another way.
use Rattle.std.proofs.Common.{◌≡◌, ◌⊎◌, ◌<◌, ◌+◌, ℕ, List, zero, suc, Option, Some, None, inl, inr, refl, sym, ap, ◌∙◌, subst, arith}
use Rattle.std.proofs.lemmas.Option.{same_Some, none-some}
use Rattle.deck_tree.specs.declared.refusal.DeckRefusal.{DeckRefusal}
use Rattle.deck_tree.specs.DeckKinds.{deck_number}
use Rattle.deck_facts.specs.FirstFacts.{Before, IsFirst, IsOneOf, IsIn}
use Rattle.std.specs.Prelude.{slice_get}
use Rattle.std.proofs.lemmas.Option.{slice_get_within}
use Rattle.deck_facts.specs.Working.Below.{IsBelow}

ordered : (a b : ℕ) → (a < b) ⊎ ((a ≡ b) ⊎ (b < a))
ordered zero zero = inr (inl refl)
ordered zero (suc b) = inl (omega arith)
ordered (suc a) zero = inr (inr (omega arith))
ordered (suc a) (suc b) =
    elim (ordered a b) [
      | inl l ↦ inl (omega (arith, l))
      | inr (inl e) ↦ inr (inl (ap suc e))
      | inr (inr g) ↦ inr (inr (omega (arith, g)))
    ]

-- where one comes before another, a third comes before this or that one comes before it
apart : (s x r : DeckRefusal) → Before s r → Before s x ⊎ Before x r
apart s x r (inl l) =
    elim (ordered s.at x.at) [
      | inl k ↦ inl (inl k)
      | inr (inl e) ↦ inr (inl (omega (arith, l, e)))
      | inr (inr g) ↦ inr (inl (omega (arith, l, g)))
    ]
apart s x r (inr (same, less)) =
    elim (ordered s.at x.at) [
      | inl k ↦ inl (inl k)
      | inr (inl e) ↦ elim (ordered (deck_number s.kind) (deck_number x.kind)) [
        | inl k ↦ inl (inr (e, k))
        | inr (inl n) ↦ inr (inr (sym e ∙ same, omega (arith, less, n)))
        | inr (inr g) ↦ inr (inr (sym e ∙ same, omega (arith, less, g)))
      ]
      | inr (inr g) ↦ inr (inl (omega (arith, same, g)))
    ]

-- a fact that is found is the first of its own, and no other that is found comes before the first of both
behind : (P : DeckRefusal → Type 0) (a : Option DeckRefusal) (s r : DeckRefusal) → IsFirst P a → ((x : DeckRefusal) → a ≡ Some x → Before x r → ⊥) → P s → Before s r → ⊥
behind P None s r none others p before = none s p
behind P (Some x) s r first others p before =
    elim (apart s x r before) [
      | inl l ↦ first.1 s p l
      | inr g ↦ others x refl g
    ]

-- what is found is a fact
found_there : (P : DeckRefusal → Type 0) (a : Option DeckRefusal) (r : DeckRefusal) → IsFirst P a → a ≡ Some r → P r
found_there P None r none e = absurd (none-some r e)
found_there P (Some x) r first e = subst P (same_Some x r e) first.0

-- nothing found is no fact
none_there : (P : DeckRefusal → Type 0) (a : Option DeckRefusal) (s : DeckRefusal) → IsFirst P a → ((x : DeckRefusal) → a ≡ Some x → ⊥) → P s → ⊥
none_there P None s none not p = none s p
none_there P (Some x) s first not p = not x refl

-- the first of the first of each is the first of both
pub joined : (P Q : DeckRefusal → Type 0) (a b c : Option DeckRefusal) → IsFirst P a → IsFirst Q b → IsFirst (IsOneOf a b) c → IsFirst (λ r. P r ⊎ Q r) c
joined P Q a b None p q none = λ s fact.
    elim fact [
      | inl x ↦ none_there P a s p (λ y e. none y (inl e)) x
      | inr x ↦ none_there Q b s q (λ y e. none y (inr e)) x
    ]
joined P Q a b (Some r) p q (one, first) = (
  elim one [
    | inl e ↦ inl (found_there P a r p e)
    | inr e ↦ inr (found_there Q b r q e)
  ],
  λ s fact before. elim fact [
    | inl x ↦ behind P a s r p (λ y e. first y (inl e)) x before
    | inr x ↦ behind Q b s r q (λ y e. first y (inr e)) x before
  ],
)

-- nothing comes before itself
never_before : (r : DeckRefusal) → Before r r → ⊥
never_before r (inl l) = omega (arith, l)
never_before r (inr (e, l)) = omega (arith, l)

-- one fact alone is its first
pub alone : (a : Option DeckRefusal) → IsFirst (λ r. a ≡ Some r) a
alone None = λ r e. none-some r e
alone (Some x) = (refl, λ s e before. never_before x (subst (λ y. Before y x) (sym (same_Some x s e)) before))

-- there is no fact
pub none_at_all : (P : DeckRefusal → Type 0) → ((r : DeckRefusal) → P r → ⊥) → IsFirst P None
none_at_all P not = not

-- facts that are said in another way
pub same_facts : (P Q : DeckRefusal → Type 0) → ((r : DeckRefusal) → P r → Q r) → ((r : DeckRefusal) → Q r → P r) → (found : Option DeckRefusal) → IsFirst P found → IsFirst Q found
same_facts P Q to from None none = λ r q. none r (from r q)
same_facts P Q to from (Some r) (there, first) = (to r there, λ s q before. first s (from s q) before)

last_or_below : (i n : ℕ) → i < n + 1 → (i < n) ⊎ (i ≡ n)
last_or_below i n l = grind (arith, l)

-- one fact of a list more
pub one_more : (facts : List DeckRefusal) (n : ℕ) (x : DeckRefusal) (before after : Option DeckRefusal) → slice_get facts n ≡ Some x → IsFirst (IsBelow n facts) before → IsFirst (IsOneOf before (Some x)) after → IsFirst (IsBelow (n + 1) facts) after
one_more facts n x before after there first both =
    same_facts (λ r. IsBelow n facts r ⊎ (Some x ≡ Some r)) (IsBelow (n + 1) facts)
    (λ r fact. elim fact [
      | inl (i, l, e) ↦ (i, omega (arith, l), e)
      | inr e ↦ (n, omega arith, there ∙ e)
    ])
    (λ r (i, l, e). elim (last_or_below i n l) [
      | inl k ↦ inl (i, k, e)
      | inr k ↦ inr (sym there ∙ (ap (slice_get facts) (sym k) ∙ e))
    ])
    after
    (joined (IsBelow n facts) (λ r. Some x ≡ Some r) before (Some x) after first (alone (Some x)) both)

-- all of the list
pub of_list : (facts : List DeckRefusal) (n : ℕ) (found : Option DeckRefusal) → ((i : ℕ) (r : DeckRefusal) → slice_get facts i ≡ Some r → i < n) → IsFirst (IsBelow n facts) found → IsFirst (IsIn facts) found
of_list facts n found below first =
    same_facts (IsBelow n facts) (IsIn facts) (λ r (i, l, e). (i, e)) (λ r (i, e). (i, below i r e, e)) found first
