-- The way that is chosen is the one by which the types go.
use Rattle.std.proofs.Common.{◌≡◌, sym, ◌∙◌, ap, subst, ℕ, ◌==◌, true, cond, not, ◌||◌, List, [], ◌∷◌, inl, inr, Some}
use Rattle.std.proofs.lemmas.Bool.{eqb-true, eq-eqb, cases_Bool, not-true}
use Rattle.std.proofs.lemmas.Bool.Decides.{eqb_tells}
use Rattle.std.proofs.Math.Bool.{or-true}
use Rattle.std.specs.Cmp.{first_so, second_so}
use Rattle.list_facts.proofs.Tests.{clash}
use Rattle.gds_grammar.specs.declared.slot.Slot.{Slot}
use Rattle.gds_grammar.specs.Steps.{Spells}
use Rattle.gds_grammar.specs.Slots.{due}
use Rattle.gds_grammar.specs.Working.Exits.{chosen, offers, differ}
use Rattle.gds_grammar.proofs.Exits.{Leads}
use Rattle.gds_grammar.proofs.Table.{dues}

-- what is chosen leads on
pub chosen_leads : (ways : List (ℕ × Slot)) (type : ℕ) (slot : Slot) (more rest : List ℕ) → chosen type ways ≡ Some slot → Spells (due slot) more rest → Leads (dues ways) (type ∷ more) rest
chosen_leads [] type slot more rest is p = absurd (cc)
chosen_leads (way ∷ ways) type slot more rest is p = elim (cases_Bool (way.0 == type)) [
  | inl hit ↦
      let here : Some way.1 ≡ Some slot = sym (ap (λ b. cond b (Some way.1) (chosen type ways)) hit) ∙ is in
      let then : way.1 ≡ slot = cc in
      let S : Slot → Type 0 = λ s. Spells (due s) more rest in
      inl (record { more = more; is = ap (λ t. t ∷ more) (sym (eqb-true way.0 type hit)); spelled = subst S (sym then) p })
  | inr miss ↦
      let further : chosen type ways ≡ Some slot = sym (ap (λ b. cond b (Some way.1) (chosen type ways)) miss) ∙ is in
      inr (chosen_leads ways type slot more rest further p)
]

leads_offered : (ways : List (ℕ × Slot)) (type : ℕ) (more rest : List ℕ) → Leads (dues ways) (type ∷ more) rest → offers type ways ≡ true
leads_offered [] type more rest l = absurd l
leads_offered (way ∷ ways) type more rest l = elim l [
  | inl g ↦ let is : way.0 ≡ type = cc in ap (λ b. b || offers type ways) (eq-eqb way.0 type is)
  | inr m ↦ ap (λ b. (way.0 == type) || b) (leads_offered ways type more rest m) ∙ or-true (way.0 == type)
]

-- where the types lead is what is chosen
pub record IsChosen (ways : List (ℕ × Slot)) (type : ℕ) (more rest : List ℕ) : Type 0 where
  pub slot : Slot
  pub is : chosen type ways ≡ Some slot
  pub spelled : Spells (due slot) more rest

pub leads_chosen : (ways : List (ℕ × Slot)) (type : ℕ) (more rest : List ℕ) → differ ways ≡ true → Leads (dues ways) (type ∷ more) rest → IsChosen ways type more rest
leads_chosen [] type more rest d l = absurd l
leads_chosen (way ∷ ways) type more rest d l = elim (eqb_tells way.0 type) [
  | inl hit ↦ elim l [
    | inl g ↦
        let then : g.more ≡ more = cc in
        let S : List ℕ → Type 0 = λ those. Spells (due way.1) those rest in
        record { slot = way.1; is = ap (λ b. cond b (Some way.1) (chosen type ways)) hit.0; spelled = subst S then g.spelled }
    | inr m ↦
        let O : ℕ → Type 0 = λ t. offers t ways ≡ true in
        clash (offers way.0 ways) (subst O (sym hit.1) (leads_offered ways type more rest m))
        (not-true (offers way.0 ways) (first_so (not (offers way.0 ways)) (differ ways) d))
  ]
  | inr miss ↦ elim l [
    | inl g ↦ absurd (miss.1 (let is : way.0 ≡ type = cc in is))
    | inr m ↦
        let c = leads_chosen ways type more rest (second_so (not (offers way.0 ways)) (differ ways) d) m in
        record { slot = c.slot; is = ap (λ b. cond b (Some way.1) (chosen type ways)) miss.0 ∙ c.is; spelled = c.spelled }
  ]
]
