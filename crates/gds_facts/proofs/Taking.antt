-- One record more.
use Rattle.std.proofs.Common.{◌≡◌, ◌↔◌, Bool, true, false, IsTrue, sym, ◌∙◌, ap, subst, ℕ, List, [], ◌∷◌, ◌++◌, inl, inr, Option, None}
use Rattle.std.specs.Option.{option_or}
use Rattle.gds_records.specs.declared.fault.LayoutKind.TheVariants as kinds
use Rattle.gds_records.specs.Records.{Item}
use Rattle.gds_grammar.specs.declared.line.Line.{Line}
use Rattle.gds_grammar.specs.declared.slot.Slot.{Slot}
use Rattle.gds_grammar.specs.declared.slot.Slot.TheVariants as slots
use Rattle.gds_grammar.specs.Grammar.{IsFront}
use Rattle.gds_grammar.specs.Slots.{StandsBehind}
use Rattle.gds_grammar.proofs.Slots.{slot_of_front, stands_first}
use Rattle.gds_values.specs.Rules.{HasGoodData}
use Rattle.gds_facts.specs.declared.checker.Checker.{Checker}
use Rattle.gds_facts.specs.Opened.{types_of, opened_by}
use Rattle.gds_facts.specs.Facts.{IsAllowed, IsGood, Agrees, IsFact, AreFine, HasTaken}
use Rattle.gds_facts.proofs.Lists.{last_or_within}
use Rattle.gds_facts.proofs.OpenedMore.{types-append, last_opened-append}

nothing : (before : List Item) (item : Item) (after : List Item) → [] ≡ before ++ item ∷ after → ⊥
nothing [] item after is = cc
nothing (b ∷ bs) item after is = cc

pub none_taken : (checker : Checker) → checker.slot ≡ slots.Header → checker.line ≡ None → HasTaken [] checker
none_taken checker slot line =
    let S : Slot → Type 0 = λ s. StandsBehind [] s in
    let stands = subst S (sym slot) stands_first in
    record {
      fine = record { front = slot_of_front [] checker.slot stands; each = λ before item after is. absurd (nothing before item after is) };
      slot = stands;
      line = line;
    }

module _ (items : List Item) (item : Item) (checker : Checker) (taken : HasTaken items checker) where
  together : types_of (items ++ item ∷ []) ≡ types_of items ++ item.kind ∷ []
  together = types-append items (item ∷ [])

  pub unexpected : (IsFront (types_of items ++ item.kind ∷ []) → ⊥) → IsFact checker.precision items item kinds.UnexpectedRecord
  unexpected none allowed = none (let F : List ℕ → Type 0 = λ those. IsFront those in subst F together allowed)

  module _ (slot : Slot) (stands : StandsBehind (types_of items ++ item.kind ∷ []) slot) where
    here : StandsBehind (types_of (items ++ item ∷ [])) slot
    here = let S : List ℕ → Type 0 = λ those. StandsBehind those slot in subst S (sym together) stands

    allowed : IsAllowed items item
    allowed = slot_of_front (types_of (items ++ item ∷ [])) slot here

    good : HasGoodData checker.line item → IsGood items item
    good g = let G : Option Line → Type 0 = λ l. HasGoodData l item in subst G taken.line g

    bad : IsGood items item → HasGoodData checker.line item
    bad g = let G : Option Line → Type 0 = λ l. HasGoodData l item in subst G (sym taken.line) g

    pub bad_data : (HasGoodData checker.line item → ⊥) → IsFact checker.precision items item kinds.BadData
    bad_data none = (allowed, λ g. none (bad g))

    pub mismatch : HasGoodData checker.line item → (Agrees checker.precision item → ⊥) → IsFact checker.precision items item kinds.UnitsMismatch
    mismatch g none = (allowed, good g, none)

    pub one_more : (new : Checker) → new.slot ≡ slot → new.precision ≡ checker.precision → new.line ≡ option_or (opened_by item.kind) checker.line
        → HasGoodData checker.line item → Agrees checker.precision item → HasTaken (items ++ item ∷ []) new
    one_more new is precision line g agrees =
        let S : Slot → Type 0 = λ s. StandsBehind (types_of (items ++ item ∷ [])) s in
        let P : ℕ → Type 0 = λ p. AreFine p (items ++ item ∷ []) in
        let each : (before : List Item) (i : Item) (after : List Item) → items ++ item ∷ [] ≡ before ++ i ∷ after → IsGood before i × Agrees checker.precision i =
        λ before i after parts. elim (last_or_within items item before i after parts) [
          | inl e ↦
              let G : List Item → Type 0 = λ those. IsGood those i × Agrees checker.precision i in
              let H : Item → Type 0 = λ j. IsGood items j × Agrees checker.precision j in
              subst G (sym e.0) (subst H (sym e.1) (good g, agrees))
          | inr w ↦ taken.fine.each before i w.after w.parts
        ] in
        record {
          fine = subst P (sym precision) (let f : AreFine checker.precision (items ++ item ∷ []) = record { front = allowed; each = each } in f);
          slot = subst S (sym is) here;
          line = line ∙ ap (λ l. option_or (opened_by item.kind) l) taken.line ∙ sym (last_opened-append items item);
        }

-- ---- What a test says

pub denied : {P : Type 0} (b : Bool) → b ≡ false → IsTrue b ↔ P → P → ⊥
denied b e tells p = absurd (let yes : b ≡ true = tells.1 p in cc)

pub granted : {P : Type 0} (b : Bool) → b ≡ true → IsTrue b ↔ P → P
granted b e tells = tells.0 e
