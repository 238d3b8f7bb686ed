-- The first fact of the definitions that have a flag, one after the other; and what flags tell.
use Rattle.std.proofs.Common.{◌≡◌, ◌↔◌, ◌⊎◌, ◌<◌, ◌≤◌, ◌+◌, ℕ, Bool, true, false, List, length, Option, Some, None, inl, inr, refl, sym, ap, ◌∙◌, subst, arith}
use Rattle.std.specs.Prelude.{slice_get, get_or, if◌then◌else◌}
use Rattle.std.proofs.lemmas.Option.{same_Some, none-some, slice_get-get_or, slice_get_within}
use Rattle.deck_tree.specs.declared.refusal.DeckKind.{DeckKind}
use Rattle.deck_tree.specs.declared.refusal.DeckRefusal.{DeckRefusal}
use Rattle.deck_definitions.specs.Definitions.{Entry}
use Rattle.deck_facts.specs.FirstFacts.{IsFirst, IsOneOf}
use Rattle.deck_facts.proofs.Firsts.{joined, alone, same_facts}
use Rattle.deck_definition_facts.specs.DefinitionFacts.{IsFactOf, said_of}
use Rattle.deck_definition_facts.specs.Working.Flags.{IsFlaggedAt, IsFlagged, IsFlaggedBelow}

module _ (kind : DeckKind) (all : List Entry) (flags : List Bool) where
  here : (n : ℕ) (e : Entry) (b : Bool) (found : Option DeckRefusal) (r : DeckRefusal) → slice_get all n ≡ Some e → slice_get flags n ≡ Some b → found ≡ (if b then Some (said_of kind e) else None) → found ≡ Some r → IsFlaggedAt kind all flags n r
  here n e true found r there flag f s = record { entry = e; there = there; flag = flag; said = same_Some r (said_of kind e) (sym s ∙ f) }
  here n e false found r there flag f s = absurd (none-some r (sym f ∙ s))

  back : (n : ℕ) (e : Entry) (b : Bool) (found : Option DeckRefusal) (r : DeckRefusal) → slice_get all n ≡ Some e → slice_get flags n ≡ Some b → found ≡ (if b then Some (said_of kind e) else None) → IsFlaggedAt kind all flags n r → found ≡ Some r
  back n e true found r there flag f at = f ∙ ap (λ x. Some x) (ap (said_of kind) (same_Some e at.entry (sym there ∙ at.there)) ∙ sym at.said)
  back n e false found r there flag f at = let s : Some false ≡ Some true = sym flag ∙ at.flag in absurd (cc)

  last_or_below : (i n : ℕ) → i < n + 1 → (i < n) ⊎ (i ≡ n)
  last_or_below i n l = grind (arith, l)

  -- one definition more
  pub one_more : (n : ℕ) (e : Entry) (b : Bool) (before found after : Option DeckRefusal) → slice_get all n ≡ Some e → slice_get flags n ≡ Some b → found ≡ (if b then Some (said_of kind e) else None) → IsFirst (IsFlaggedBelow n kind all flags) before → IsFirst (IsOneOf before found) after → IsFirst (IsFlaggedBelow (n + 1) kind all flags) after
  one_more n e b before found after there flag f first both =
      same_facts (λ r. IsFlaggedBelow n kind all flags r ⊎ (found ≡ Some r)) (IsFlaggedBelow (n + 1) kind all flags)
      (λ r fact. elim fact [
        | inl (i, l, at) ↦ (i, omega (arith, l), at)
        | inr s ↦ (n, omega arith, here n e b found r there flag f s)
      ])
      (λ r (i, l, at). elim (last_or_below i n l) [
        | inl k ↦ inl (i, k, at)
        | inr k ↦ inr (back n e b found r there flag f (subst (λ j. IsFlaggedAt kind all flags j r) k at))
      ])
      after
      (joined (IsFlaggedBelow n kind all flags) (λ r. found ≡ Some r) before found after first (alone found) both)

  -- all of them
  pub of_all : (n : ℕ) (found : Option DeckRefusal) → length all ≤ n → IsFirst (IsFlaggedBelow n kind all flags) found → IsFirst (IsFlagged kind all flags) found
  of_all n found all_below first =
      same_facts (IsFlaggedBelow n kind all flags) (IsFlagged kind all flags) (λ r (i, l, at). (i, at))
      (λ r (i, at). (i, (let l = slice_get_within all i at.entry at.there in omega (arith, l, all_below)), at)) found first

  -- flags tell of which definitions it holds
  pub told_of : (Holds : ℕ → Type 0) (found : Option DeckRefusal) → length flags ≡ length all → ((i : ℕ) (b : Bool) → slice_get flags i ≡ Some b → (b ≡ true) ↔ Holds i) → IsFirst (IsFlagged kind all flags) found → IsFirst (IsFactOf kind Holds all) found
  told_of Holds found same told first =
      same_facts (IsFlagged kind all flags) (IsFactOf kind Holds all)
      (λ r (i, at). record { number = i; entry = at.entry; there = at.there; holds = (told i true at.flag).0 refl; said = at.said })
      (λ r c.
      let l = slice_get_within all c.number c.entry c.there in
      let flag = slice_get-get_or flags c.number false (omega (arith, l, same)) in
      let on = (told c.number (get_or flags c.number false) flag).1 c.holds in
      (c.number, record { entry = c.entry; there = c.there; flag = flag ∙ ap (λ b. Some b) on; said = c.said }))
      found first
