-- What a slot stands behind, and from slot to slot.
use Rattle.std.proofs.Common.{◌≡◌, refl, sym, ◌∙◌, ap, subst, ℕ, ◌+◌, ◌<◌, List, [], ◌∷◌, ◌++◌, length, take, drop, get_or, append_assoc, append-nil, inl, inr, Option, Some, None, MatchOption}
use Rattle.std.proofs.lemmas.List.{take_more, take-append-drop}
use Rattle.gds_grammar.specs.declared.slot.Slot.{Slot}
use Rattle.gds_grammar.specs.declared.slot.Slot.TheVariants as slots
use Rattle.gds_grammar.specs.Steps.{Steps, Spells}
use Rattle.gds_grammar.specs.Grammar.{IsStream, IsFront}
use Rattle.gds_grammar.specs.Slots.{due, StandsBehind}
use Rattle.gds_grammar.specs.Working.Exits.{chosen}
use Rattle.gds_grammar.specs.Working.Ways.{ways}
use Rattle.gds_grammar.proofs.Fronts.{example, front_is_front, front_has_completion}
use Rattle.gds_grammar.proofs.Exits.{Leads, begins, begun}
use Rattle.gds_grammar.proofs.Table.{ways_are_exits, ways_differ}
use Rattle.gds_grammar.proofs.Chosen.{IsChosen, chosen_leads, leads_chosen}

pub stands_first : StandsBehind [] slots.Header
stands_first more = (λ p. p, λ p. p)

-- ---- One record more

module _ (types : List ℕ) (slot : Slot) (type : ℕ) (stands : StandsBehind types slot) where
  -- a stream that goes on with this type goes on by the chosen way
  goes_on : (more : List ℕ) → IsStream ((types ++ type ∷ []) ++ more) → IsChosen (ways slot) type more []
  goes_on more p =
      let q : IsStream (types ++ type ∷ more) = let S : List ℕ → Type 0 = λ those. IsStream those in subst S (append_assoc types (type ∷ []) more) p in
      elim (begins ((stands (type ∷ more)).0 q)) [
        | inl e ↦ absurd (cc)
        | inr l ↦
            let L : List (ℕ × Steps) → Type 0 = λ those. Leads those (type ∷ more) [] in
            leads_chosen (ways slot) type more [] (ways_differ slot) (subst L (sym (ways_are_exits slot)) l)
      ]

  comes_on : (next : Slot) (more : List ℕ) → chosen type (ways slot) ≡ Some next → Spells (due next) more [] → IsStream ((types ++ type ∷ []) ++ more)
  comes_on next more is p =
      let L : List (ℕ × Steps) → Type 0 = λ those. Leads those (type ∷ more) [] in
      let q = begun (due slot) (type ∷ more) [] (subst L (ways_are_exits slot) (chosen_leads (ways slot) type next more [] is p)) in
      let S : List ℕ → Type 0 = λ those. IsStream those in
      subst S (sym (append_assoc types (type ∷ []) more)) ((stands (type ∷ more)).1 q)

  stands_next : (next : Slot) → chosen type (ways slot) ≡ Some next → StandsBehind (types ++ type ∷ []) next
  stands_next next is more = (
    λ p.
        let c = goes_on more p in
        let then : c.slot ≡ next = let e : Some c.slot ≡ Some next = sym c.is ∙ is in cc in
        let S : Slot → Type 0 = λ s. Spells (due s) more [] in
        subst S then c.spelled,
    λ p. comes_on next more is p,
  )

  no_front : chosen type (ways slot) ≡ None → IsFront (types ++ type ∷ []) → ⊥
  no_front is f =
      let c = front_has_completion (types ++ type ∷ []) f in
      let d = goes_on c.0 c.1 in
      let e : None ≡ Some d.slot = sym is ∙ d.is in
      absurd (cc)

  pub next_stands : (next : Option Slot) → next ≡ chosen type (ways slot)
      → MatchOption next (IsFront (types ++ type ∷ []) → ⊥) (λ s. StandsBehind (types ++ type ∷ []) s)
  next_stands None is = no_front (sym is)
  next_stands (Some s) is = stands_next s (sym is)

-- ---- The laws

pub slot_of_front : (types : List ℕ) (slot : Slot) → StandsBehind types slot → IsFront types
slot_of_front types slot stands = let e = example (due slot) [] in front_is_front types e.types ((stands e.types).1 e.spelled)

further : (types : List ℕ) (type : ℕ) (more : List ℕ) → IsFront (types ++ type ∷ more) → IsFront (types ++ type ∷ [])
further types type more f =
    let c = front_has_completion (types ++ type ∷ more) f in
    let S : List ℕ → Type 0 = λ those. IsStream those in
    front_is_front (types ++ type ∷ []) (more ++ c.0)
    (subst S (append_assoc types (type ∷ more) c.0 ∙ sym (append_assoc types (type ∷ []) (more ++ c.0))) c.1)

slot_past : (more types : List ℕ) (slot : Slot) → StandsBehind types slot → IsFront (types ++ more) → (next : Slot) × StandsBehind (types ++ more) next
slot_past [] types slot stands f =
    (slot, (let B : List ℕ → Type 0 = λ those. StandsBehind those slot in subst B (sym (append-nil types)) stands))
slot_past (type ∷ more) types slot stands f =
    let B : List ℕ → Type 0 = λ those. (next : Slot) × StandsBehind those next in
    let F : List ℕ → Type 0 = λ those. IsFront those in
    let together = append_assoc types (type ∷ []) more in
    let known : (o : Option Slot) → o ≡ chosen type (ways slot) → (next : Slot) × (chosen type (ways slot) ≡ Some next) =
    λ o is. elim o as (λ o'. o ≡ o' → (next : Slot) × (chosen type (ways slot) ≡ Some next)) [
      | None ↦ λ e. absurd (no_front types slot type stands (sym is ∙ e) (further types type more f))
      | Some s ↦ λ e. (s, sym is ∙ e)
    ] refl in
    let next = known (chosen type (ways slot)) refl in
    subst B together (slot_past more (types ++ type ∷ []) next.0 (stands_next types slot type stands next.0 next.1) (subst F (sym together) f))

pub front_has_slot : (types : List ℕ) → IsFront types → (slot : Slot) × StandsBehind types slot
front_has_slot types f = slot_past types [] slots.Header stands_first f

-- what goes on behind no front is none
pub refused : (types : List ℕ) (i : ℕ) → i < length types → (IsFront (take i types ++ get_or types i 0 ∷ []) → ⊥) → IsFront types → ⊥
refused types i below none f =
    let front = take i types ++ get_or types i 0 ∷ [] in
    let c = front_has_completion types f in
    let S : List ℕ → Type 0 = λ those. IsStream those in
    let parts : types ≡ front ++ drop (i + 1) types = sym (take-append-drop (i + 1) types) ∙ ap (λ those. those ++ drop (i + 1) types) (take_more types i 0 below) in
    none (front_is_front front (drop (i + 1) types ++ c.0) (subst S (ap (λ those. those ++ c.0) parts ∙ append_assoc front (drop (i + 1) types) c.0) c.1))
