-- A list of records has one first fact at most.
use Rattle.std.proofs.Common.{◌≡◌, refl, sym, ◌∙◌, ap, subst, ℕ, List, [], ◌∷◌, ◌++◌, append_assoc}
use Rattle.gds_records.specs.declared.fault.LayoutKind.{LayoutKind}
use Rattle.gds_records.specs.declared.fault.LayoutKind.TheVariants as kinds
use Rattle.gds_records.specs.declared.fault.LayoutRefusal.{LayoutRefusal}
use Rattle.gds_records.specs.Records.{Item}
use Rattle.gds_grammar.specs.Grammar.{IsFront}
use Rattle.gds_grammar.proofs.Fronts.{front_of_front}
use Rattle.gds_facts.specs.Opened.{types_of}
use Rattle.gds_facts.specs.Facts.{IsAllowed, IsFact, AreFine, IsRefused}
use Rattle.gds_facts.proofs.Lists.{Within, first, same, second, compare}
use Rattle.gds_facts.proofs.OpenedMore.{types-append}

-- with each record of a front the types are those of a front
within_allowed : (items before : List Item) (here : Item) → IsFront (types_of items) → Within items before here → IsAllowed before here
within_allowed items before here f w =
    let all : types_of items ≡ types_of (before ++ here ∷ []) ++ types_of w.after =
    ap types_of (w.parts ∙ sym (append_assoc before (here ∷ []) w.after)) ∙ types-append (before ++ here ∷ []) w.after in
    let F : List ℕ → Type 0 = λ those. IsFront those in
    front_of_front (types_of (before ++ here ∷ [])) (types_of w.after) (subst F all f)

pub fine_no_fact : (precision : ℕ) (items before : List Item) (here : Item) (kind : LayoutKind) → AreFine precision items → Within items before here → IsFact precision before here kind → ⊥
fine_no_fact precision items before here kinds.UnexpectedRecord fine w fact = fact (within_allowed items before here fine.front w)
fine_no_fact precision items before here kinds.BadData fine w fact = fact.1 (fine.each before here w.after w.parts).0
fine_no_fact precision items before here kinds.UnitsMismatch fine w fact = fact.2 (fine.each before here w.after w.parts).1
fine_no_fact precision items before here kind fine w fact = fact

pub not_both : (precision : ℕ) (items : List Item) (a : LayoutRefusal) → AreFine precision items → IsRefused precision items a → ⊥
not_both precision items a fine r = fine_no_fact precision items r.before r.item a.kind fine (record { after = r.after; parts = r.parts }) r.fact

-- ---- One fact

one_kind : (precision : ℕ) (before : List Item) (here : Item) (k l : LayoutKind) → IsFact precision before here k → IsFact precision before here l → k ≡ l
one_kind precision before here kinds.UnexpectedRecord kinds.UnexpectedRecord p q = refl
one_kind precision before here kinds.UnexpectedRecord kinds.BadData p q = absurd (p q.0)
one_kind precision before here kinds.UnexpectedRecord kinds.UnitsMismatch p q = absurd (p q.0)
one_kind precision before here kinds.UnexpectedRecord l p q = absurd q
one_kind precision before here kinds.BadData kinds.UnexpectedRecord p q = absurd (q p.0)
one_kind precision before here kinds.BadData kinds.BadData p q = refl
one_kind precision before here kinds.BadData kinds.UnitsMismatch p q = absurd (p.1 q.1)
one_kind precision before here kinds.BadData l p q = absurd q
one_kind precision before here kinds.UnitsMismatch kinds.UnexpectedRecord p q = absurd (q p.0)
one_kind precision before here kinds.UnitsMismatch kinds.BadData p q = absurd (q.1 p.1)
one_kind precision before here kinds.UnitsMismatch kinds.UnitsMismatch p q = refl
one_kind precision before here kinds.UnitsMismatch l p q = absurd q
one_kind precision before here k l p q = absurd p

pub refusal_is : (a b : LayoutRefusal) → a.at ≡ b.at → a.kind ≡ b.kind → a ≡ b
refusal_is a b at kind = λ i. let r : LayoutRefusal = record { at = at i; kind = kind i } in r

pub one : (precision : ℕ) (items : List Item) (a b : LayoutRefusal) → IsRefused precision items a → IsRefused precision items b → a ≡ b
one precision items a b r s = elim (compare r.before r.item r.after s.before s.item s.after (sym r.parts ∙ s.parts)) [
  | first w ↦ absurd (fine_no_fact precision s.before r.before r.item a.kind s.fine w r.fact)
  | same p q ↦
      let F : List Item → Type 0 = λ those. IsFact precision those r.item a.kind in
      let G : Item → Type 0 = λ i. IsFact precision s.before i a.kind in
      let fact = subst G q (subst F p r.fact) in
      refusal_is a b (r.offset ∙ ap (λ (i : Item). i.at) q ∙ sym s.offset) (one_kind precision s.before s.item a.kind b.kind fact s.fact)
  | second w ↦ absurd (fine_no_fact precision r.before s.before s.item b.kind r.fine w s.fact)
]
