-- Where a token leads behind those that a walk has come over.
use Rattle.std.proofs.Common.{◌≡◌, ◌⊎◌, inl, inr, ◌≤◌, ℕ, Bool, true, false, List, [], ◌∷◌, ◌++◌, take, refl, sym, ap, subst, ◌∙◌, arith}
use Rattle.std.specs.Prelude.{IsTrue, ◌↔◌, not}
use Rattle.std.proofs.lemmas.Bool.{false≢true}
use Rattle.deck_tree.specs.declared.refusal.Counted.TheVariants as counted
use Rattle.deck_tree.specs.declared.refusal.DeckKind.{DeckKind}
use Rattle.deck_tree.specs.declared.refusal.DeckKind.TheVariants as reasons
use Rattle.deck_grammar.specs.declared.keyword.Keyword.TheVariants as k
use Rattle.deck_grammar.specs.declared.sign.Sign.TheVariants as s
use Rattle.deck_grammar.specs.declared.kind.Kind.{Kind}
use Rattle.deck_grammar.specs.declared.kind.Kind.TheVariants as kinds
use Rattle.deck_grammar.specs.Lexemes.{Lexeme, lexeme}
use Rattle.deck_grammar.specs.Rules.{Part, rule, statements}
use Rattle.deck_grammar.specs.Spelling.{Viable, nothing}
use Rattle.deck_tree.specs.WellFormed.{most_nested}
use Rattle.deck_grammar.specs.Refusals.{open_behind, IsTooDeep, Stand, AwaitsPrimary, IsSetAside, IsWrong, set_aside, no_place, too_deep}
use Rattle.deck_cursor.proofs.Rounds.{one_by_one}
use Rattle.deck_stacks.specs.Stacks.{Behind, AreNext}
use Rattle.deck_stacks.proofs.Following.{at_first, behind_more, viable_has_stacks, stacks_are_viable}
use Rattle.deck_refusal.specs.declared.walk.Walk.{Walk}
use Rattle.deck_refusal.specs.Working.Walking.{HasCome, Misplaced}
use Rattle.deck_refusal.specs.Working.Recent.{latest}
use Rattle.deck_refusal.specs.Working.SetAside.{is_set_aside}
use Rattle.deck_refusal.proofs.Latest.{latest_more}
use Rattle.deck_refusal.proofs.Choices.{set_aside_is, is_set_aside_so}

-- ---- Round brackets

open_more : (n : ℕ) (before : List Lexeme) (t : Lexeme)
    → open_behind n (before ++ t ∷ []) ≡ open_behind (open_behind n before) (t ∷ [])
open_more n [] t = refl
open_more n (u ∷ before) t =
    one_by_one n u (before ++ t ∷ [])
    ∙ (open_more (open_behind n (u ∷ [])) before t ∙ sym (ap (λ m. open_behind m (t ∷ [])) (one_by_one n u before)))

-- how many are open doesn't rest on the token's place
anywhere : (n : ℕ) (x : Kind) (at : ℕ) (bytes : List ℕ)
    → open_behind n (lexeme x 0 [] ∷ []) ≡ open_behind n (lexeme x at bytes ∷ [])
anywhere n (kinds.Keyword w) at bytes = refl
anywhere n kinds.SetAside at bytes = refl
anywhere n kinds.Name at bytes = refl
anywhere n kinds.Number at bytes = refl
anywhere n kinds.Text at bytes = refl
anywhere n kinds.Note at bytes = refl
anywhere n (kinds.Sign s.LeftBrace) at bytes = refl
anywhere n (kinds.Sign s.RightBrace) at bytes = refl
anywhere n (kinds.Sign s.LeftRound) at bytes = refl
anywhere n (kinds.Sign s.RightRound) at bytes = refl
anywhere n (kinds.Sign s.LeftSquare) at bytes = refl
anywhere n (kinds.Sign s.RightSquare) at bytes = refl
anywhere n (kinds.Sign s.Equals) at bytes = refl
anywhere n (kinds.Sign s.EqualTo) at bytes = refl
anywhere n (kinds.Sign s.Less) at bytes = refl
anywhere n (kinds.Sign s.LessOrEqual) at bytes = refl
anywhere n (kinds.Sign s.Greater) at bytes = refl
anywhere n (kinds.Sign s.GreaterOrEqual) at bytes = refl
anywhere n (kinds.Sign s.NotEqual) at bytes = refl
anywhere n (kinds.Sign s.Plus) at bytes = refl
anywhere n (kinds.Sign s.Minus) at bytes = refl
anywhere n (kinds.Sign s.Times) at bytes = refl
anywhere n (kinds.Sign s.Over) at bytes = refl
anywhere n (kinds.Sign s.Modulo) at bytes = refl
anywhere n (kinds.Sign s.Power) at bytes = refl

-- an item of a list with one more at its end is the last, or stands in the list
pub record Inside {X : Type 0} (items before : List X) (item : X) : Type 0 where
  pub behind : List X
  pub whole : items ≡ before ++ item ∷ behind

pub never_empty : {X : Type 0} (before : List X) (item : X) (behind : List X) → [] ≡ before ++ item ∷ behind → ⊥
never_empty [] item behind e = cc
never_empty (b ∷ before) item behind e = cc

pub last_or_inside : {X : Type 0} (items before : List X) (last item : X) (behind : List X)
    → items ++ last ∷ [] ≡ before ++ item ∷ behind
    → ((before ≡ items) × (item ≡ last)) ⊎ Inside items before item
last_or_inside [] [] last item behind e = let is : last ≡ item = cc in inl (refl, sym is)
last_or_inside [] (b ∷ before) last item behind e = let rest : []
    ≡ before ++ item ∷ behind = cc in absurd (never_empty before item behind rest)
last_or_inside (u ∷ items) [] last item behind e = let is : u
    ≡ item = cc in inr (record { behind = items; whole = ap (λ x. x ∷ items) is })
last_or_inside (u ∷ items) (b ∷ before) last item behind e =
    let is : u ≡ b = cc in
    let rest : items ++ last ∷ [] ≡ before ++ item ∷ behind = cc in
    elim (last_or_inside items before last item behind rest) [
      | inl at_end ↦ inl (ap (λ x. x ∷ before) (sym is) ∙ ap (λ those. u ∷ those) at_end.0, at_end.1)
      | inr there ↦ inr (record {
        behind = there.behind;
        whole = ap (λ x. x ∷ items) is
            ∙ ap (λ those. b ∷ those) there.whole;
      })
    ]

pub stand_more : (before : List Lexeme) (t : Lexeme) → Stand before → Viable (before ++ t ∷ []) → (IsTooDeep before t
    → ⊥) → Stand (before ++ t ∷ [])
stand_more before t stand viable fine = (
  viable,
  λ front token behind e deep. elim (last_or_inside before front t token behind e) [
    | inl last ↦
        let P : List Lexeme → Type 0 = λ those. IsTooDeep those t in
        let Q : Lexeme → Type 0 = λ x. IsTooDeep front x in
        fine (subst P last.0 (subst Q last.1 deep))
    | inr there ↦ stand.1 front token there.behind there.whole deep
  ],
)

-- ---- The walk

pub first_of_all : (walk : Walk) → walk.stacks ≡ (rule statements ∷ []) ∷ [] → walk.brackets ≡ 0
    → walk.recent.items ≡ [] → HasCome [] walk
first_of_all walk stacks brackets recent =
    let P : List (List Part) → Type 0 = λ those. Behind [] those in
    record {
      stand = (nothing, λ front token behind e deep. never_empty front token behind e);
      stacks = subst P (sym stacks) at_first;
      brackets = brackets;
      few = omega arith;
      recent = recent;
    }

some_left : (before : List Lexeme) (stacks : List (List Part)) → Behind before stacks → (stacks ≡ [] → ⊥)
    → Viable before
some_left before [] b some = absurd (some refl)
some_left before (stack ∷ others) b some = stacks_are_viable before stack others b

pub none_left : (before : List Lexeme) (stacks : List (List Part)) → Behind before stacks → stacks ≡ []
    → Viable before → ⊥
none_left before stacks b none = let P : List (List Part)
    → Type 0 = λ those. Behind before those in viable_has_stacks before (subst P none b)

-- what is known of a token behind which stacks are left
pub record Passes (old : Walk) (x : Kind) (new : Walk) : Type 0 where
  pub next : AreNext x old.stacks new.stacks
  pub some : new.stacks ≡ [] → ⊥
  pub brackets : new.brackets ≡ open_behind old.brackets (lexeme x 0 [] ∷ [])
  pub few : new.brackets ≤ 64
  pub fine : x ≡ kinds.Sign s.LeftRound → old.brackets ≡ most_nested → ⊥
  pub recent : new.recent.items ≡ take 7 (x ∷ old.recent.items)

pub passed : (before : List Lexeme) (old : Walk) (x : Kind) (at : ℕ) (bytes : List ℕ) (new : Walk)
    → HasCome before old → Passes old x new
    → HasCome (before ++ lexeme x at bytes ∷ []) new
passed before old x at bytes new come p =
    let t = lexeme x at bytes in
    let b = behind_more before old.stacks new.stacks x at bytes p.next come.stacks in
    record {
      stand = stand_more before t come.stand (some_left (before
          ++ t ∷ []) new.stacks b p.some) (λ deep. p.fine deep.0 (come.brackets ∙ deep.1));
      stacks = b;
      brackets = p.brackets ∙ (anywhere old.brackets x at bytes ∙ (ap (λ n. open_behind n (t ∷ [])) come.brackets
          ∙ sym (open_more 0 before t)));
      few = p.few;
      recent = p.recent ∙ (ap (λ those. take 7 (x ∷ those)) come.recent ∙ sym (latest_more before x at bytes));
    }

-- ---- Tokens that are wrong

-- a layer may start where COPY leaves a stack
pub primary_so : (before : List Lexeme) (walk : Walk) (next : List (List Part)) (none : Bool) → HasCome before walk
    → AreNext (kinds.Keyword k.Copy) walk.stacks next → (IsTrue none ↔ (next ≡ []))
    → IsTrue (not none) ↔ AwaitsPrimary before
primary_so before walk next none come are is =
    let b = behind_more before walk.stacks next (kinds.Keyword k.Copy) 0 [] are come.stacks in
    let copy : Lexeme = lexeme (kinds.Keyword k.Copy) 0 [] in
    elim none as (λ n. (IsTrue n ↔ (next ≡ [])) → IsTrue (not n) ↔ AwaitsPrimary before) [
      | true ↦ λ h. ((λ t. absurd (false≢true t)), (λ v. absurd (none_left (before ++ copy ∷ []) next b (h.0 refl) v)))
      | false ↦ λ h. ((λ t. some_left (before ++ copy ∷ []) next b (λ e. false≢true (h.1 e))), (λ v. refl))
    ] is

pub misplaced_so : (before : List Lexeme) (walk : Walk) (may_start is : Bool) (x : Kind) → HasCome before walk
    → (IsTrue may_start ↔ AwaitsPrimary before)
    → is ≡ is_set_aside may_start walk.recent.items x → (is ≡ true → IsSetAside before x) × (is ≡ false
    → IsSetAside before x → ⊥)
misplaced_so before walk may_start is x come may e =
    let same : is ≡ is_set_aside may_start (latest before) x = e
    ∙ ap (λ those. is_set_aside may_start those x) come.recent in (
      (λ t. set_aside_is before may_start x (λ m. may.0 m) (sym same ∙ t)),
      (λ f aside. false≢true (sym f ∙ (same ∙ is_set_aside_so before may_start x (λ awaits. may.1 awaits) aside))),
    )

wrong_for : (before : List Lexeme) (x : Kind) (at : ℕ) (bytes : List ℕ) (reason : DeckKind)
    → (Viable (before ++ lexeme x at bytes ∷ []) → ⊥)
    → Misplaced before x reason → IsWrong before (lexeme x at bytes) reason
wrong_for before x at bytes reasons.Unsupported isnt m = set_aside isnt m
wrong_for before x at bytes reasons.Syntax isnt m = no_place isnt m
wrong_for before x at bytes _ isnt m = absurd m

pub wrong_so : (before : List Lexeme) (walk : Walk) (next : List (List Part)) (x : Kind) (at : ℕ) (bytes : List ℕ)
    (reason : DeckKind) → HasCome before walk
    → AreNext x walk.stacks next → next ≡ [] → Misplaced before x reason → IsWrong before (lexeme x at bytes) reason
wrong_so before walk next x at bytes reason come are none m =
    let b = behind_more before walk.stacks next x at bytes are come.stacks in
    wrong_for before x at bytes reason (none_left (before ++ lexeme x at bytes ∷ []) next b none) m

pub too_deep_so : (before : List Lexeme) (walk : Walk) (next : List (List Part)) (x : Kind) (at : ℕ) (bytes : List ℕ)
    → HasCome before walk
    → AreNext x walk.stacks next → (next ≡ [] → ⊥) → (x ≡ kinds.Sign s.LeftRound) × (walk.brackets ≡ most_nested)
    → IsWrong before (lexeme x at bytes) (reasons.TooMany counted.Nesting)
too_deep_so before walk next x at bytes come are some deep =
    let b = behind_more before walk.stacks next x at bytes are come.stacks in
    too_deep (some_left (before ++ lexeme x at bytes ∷ []) next b some) (deep.0, sym come.brackets ∙ deep.1)
