-- Tokens can stand behind one another to their end, or there is a first that is wrong.
use Rattle.std.proofs.Common.{◌≡◌, ◌⊎◌, inl, inr, ℕ, Bool, true, false, List, [], ◌∷◌, ◌++◌, refl, ap, sym, subst, ◌∙◌, append_assoc, append-nil}
use Rattle.std.specs.Prelude.{IsTrue, ◌↔◌}
use Rattle.std.proofs.lemmas.Bool.{false≢true, cases_Bool}
use Rattle.std.proofs.lemmas.Bool.Decides.{eqb_tells}
use Rattle.deck_tree.specs.declared.refusal.Counted.TheVariants as counted
use Rattle.deck_tree.specs.declared.refusal.DeckKind.{DeckKind}
use Rattle.deck_tree.specs.declared.refusal.DeckKind.TheVariants as reasons
use Rattle.deck_tree.specs.WellFormed.{most_nested}
use Rattle.deck_grammar.specs.declared.keyword.Keyword.TheVariants as k
use Rattle.deck_grammar.specs.declared.sign.Sign.TheVariants as s
use Rattle.deck_grammar.specs.declared.kind.Kind.{Kind}
use Rattle.deck_grammar.specs.declared.kind.Kind.TheVariants as kinds
use Rattle.deck_grammar.specs.Lexemes.{Lexeme, lexeme}
use Rattle.deck_grammar.specs.Rules.{Part, rule, statements}
use Rattle.deck_grammar.specs.Spelling.{nothing}
use Rattle.deck_grammar.specs.Refusals.{open_behind, IsTooDeep, Stand, AwaitsPrimary, IsSetAside, IsWrong, set_aside, no_place, too_deep}
use Rattle.deck_grammar.specs.Working.Numbers.{same_kind}
use Rattle.deck_grammar.proofs.Numbering.{same_is, is_same}
use Rattle.deck_stacks.specs.Stacks.{Behind}
use Rattle.deck_stacks.proofs.Following.{at_first, behind_more, some_next, viable_has_stacks, stacks_are_viable}
use Rattle.deck_refusal.specs.Working.Recent.{latest}
use Rattle.deck_refusal.specs.Working.SetAside.{is_set_aside}
use Rattle.deck_refusal.proofs.Choices.{set_aside_is, is_set_aside_so}
use Rattle.deck_refusal.proofs.Going.{never_empty, stand_more}

-- the tokens can stand behind one another, and these stacks are left behind them
pub record Stands (before : List Lexeme) : Type 0 where
  pub stand : Stand before
  pub stacks : List (List Part)
  pub behind : Behind before stacks

pub nothing_stands : Stands []
nothing_stands = record {
  stand = (nothing, λ front token behind e deep. never_empty front token behind e);
  stacks = (rule statements ∷ []) ∷ [];
  behind = at_first;
}

-- ---- What is decided of one token

abbrev copy : Kind
copy = kinds.Keyword k.Copy

-- whether a layer may start here
may_start : (before : List Lexeme) (next : List (List Part)) → Behind (before ++ lexeme copy 0 [] ∷ []) next
    → (may : Bool) × (IsTrue may ↔ AwaitsPrimary before)
may_start before [] b = (false, ((λ t. absurd (false≢true t)), (λ v. absurd (viable_has_stacks (before ++ lexeme copy 0 [] ∷ []) b v))))
may_start before (stack ∷ others) b = (true, ((λ t. stacks_are_viable (before ++ lexeme copy 0 [] ∷ []) stack others b), (λ v. refl)))

aside_by : (before : List Lexeme) (x : Kind) (may : Bool) → (IsTrue may ↔ AwaitsPrimary before) → IsSetAside before x ⊎ (IsSetAside before x → ⊥)
aside_by before x may is = elim (cases_Bool (is_set_aside may (latest before) x)) [
  | inl t ↦ inl (set_aside_is before may x (λ m. is.0 m) t)
  | inr f ↦ inr (λ aside. false≢true (sym f ∙ is_set_aside_so before may x (λ awaits. is.1 awaits) aside))
]

aside_or_not : (before : List Lexeme) (stacks : List (List Part)) → Behind before stacks → (x : Kind)
    → IsSetAside before x ⊎ (IsSetAside before x → ⊥)
aside_or_not before stacks b x =
    let next = some_next copy stacks in
    let may = may_start before next.0 (behind_more before stacks next.0 copy 0 [] next.1 b) in
    aside_by before x may.0 may.1

deep_or_not : (before : List Lexeme) (x : Kind) (at : ℕ) (bytes : List ℕ)
    → IsTooDeep before (lexeme x at bytes) ⊎ (IsTooDeep before (lexeme x at bytes) → ⊥)
deep_or_not before x at bytes = elim (cases_Bool (same_kind x (kinds.Sign s.LeftRound))) [
  | inr other ↦ inr (λ deep. false≢true (sym other ∙ is_same x (kinds.Sign s.LeftRound) deep.0))
  | inl opens ↦ elim (eqb_tells (open_behind 0 before) most_nested) [
    | inl full ↦ inl (same_is x (kinds.Sign s.LeftRound) opens, full.1)
    | inr room ↦ inr (λ deep. room.1 deep.1)
  ]
]

-- ---- One token more

pub data Step (before : List Lexeme) (t : Lexeme) : Type 0 where
  wrong : (reason : DeckKind) → IsWrong before t reason → Step before t
  over : Stands (before ++ t ∷ []) → Step before t

step_by : (before : List Lexeme) → Stands before → (x : Kind) (at : ℕ) (bytes : List ℕ) (next : List (List Part))
    → Behind (before ++ lexeme x at bytes ∷ []) next → Step before (lexeme x at bytes)
step_by before come x at bytes [] b =
    let isnt = viable_has_stacks (before ++ lexeme x at bytes ∷ []) b in
    elim (aside_or_not before come.stacks come.behind x) [
      | inl aside ↦ wrong reasons.Unsupported (set_aside isnt aside)
      | inr none ↦ wrong reasons.Syntax (no_place isnt none)
    ]
step_by before come x at bytes (stack ∷ others) b =
    let viable = stacks_are_viable (before ++ lexeme x at bytes ∷ []) stack others b in
    elim (deep_or_not before x at bytes) [
      | inl deep ↦ wrong (reasons.TooMany counted.Nesting) (too_deep viable deep)
      | inr fine ↦ over (record { stand = stand_more before (lexeme x at bytes) come.stand viable fine; stacks = stack ∷ others; behind = b })
    ]

step : (before : List Lexeme) (t : Lexeme) → Stands before → Step before t
step before (lexeme x at bytes) come =
    let next = some_next x come.stacks in
    step_by before come x at bytes next.0 (behind_more before come.stacks next.0 x at bytes next.1 come.behind)

-- ---- All of them

pub data Ends (before rest : List Lexeme) : Type 0 where
  goes_wrong : (middle : List Lexeme) (t : Lexeme) (behind : List Lexeme) (reason : DeckKind) → rest ≡ middle ++ t ∷ behind
      → Stand (before ++ middle) → IsWrong (before ++ middle) t reason → Ends before rest
  comes_to_end : Stands (before ++ rest) → Ends before rest

pub walked : (before rest : List Lexeme) → Stands before → Ends before rest
walked before [] come = let P : List Lexeme → Type 0 = λ those. Stands those in comes_to_end (subst P (sym (append-nil before)) come)
walked before (t ∷ rest) come = by (step before t come) (walked (before ++ t ∷ []) rest)
  where
    further : Ends (before ++ t ∷ []) rest → Ends before (t ∷ rest)
    further (goes_wrong middle u behind reason e stand is) =
        let P : List Lexeme → Type 0 = λ those. Stand those in
        let Q : List Lexeme → Type 0 = λ those. IsWrong those u reason in
        let same = append_assoc before (t ∷ []) middle in
        goes_wrong (t ∷ middle) u behind reason (ap (λ those. t ∷ those) e) (subst P same stand) (subst Q same is)
    further (comes_to_end c) = let P : List Lexeme → Type 0 = λ those. Stands those in comes_to_end (subst P (append_assoc before (t ∷ []) rest) c)

    by : Step before t → (Stands (before ++ t ∷ []) → Ends (before ++ t ∷ []) rest) → Ends before (t ∷ rest)
    by (wrong reason is) later =
        let P : List Lexeme → Type 0 = λ those. Stand those in
        let Q : List Lexeme → Type 0 = λ those. IsWrong those t reason in
        let same = sym (append-nil before) in
        goes_wrong [] t rest reason refl (subst P same come.stand) (subst Q same is)
    by (over more) later = further (later more)
