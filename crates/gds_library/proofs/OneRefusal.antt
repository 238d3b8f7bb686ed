-- A list of records has one first fact at most.
use Rattle.std.proofs.Common.{◌≡◌, refl, sym, ◌∙◌, ap, subst, ℕ, Bool, true, false, ◌||◌, if◌then◌else◌, List, [], ◌∷◌, ◌++◌, ◌⊎◌, inl, inr}
use Rattle.std.specs.Str.{bytes_eq}
use Rattle.std.proofs.lemmas.Bool.{true≢false, or_cases, eq-eqb}
use Rattle.std.proofs.lemmas.List.Folds.{list_any-append}
use Rattle.std.proofs.lemmas.Slice.Eq.{bytes_eq-Decides}
use Rattle.gds_records.specs.declared.record_type.RecordType.TheVariants as types
use Rattle.gds_records.specs.declared.fault.LayoutKind.{LayoutKind}
use Rattle.gds_records.specs.declared.fault.LayoutKind.TheVariants as kinds
use Rattle.gds_records.specs.declared.fault.LayoutRefusal.{LayoutRefusal}
use Rattle.gds_records.specs.RecordTypes.{code_of}
use Rattle.gds_records.specs.Records.{Item}
use Rattle.gds_facts.specs.Facts.{AreFine, IsFact}
use Rattle.gds_facts.specs.Facts as each
use Rattle.gds_facts.proofs.OneFact.{refusal_is}
use Rattle.gds_library.specs.Fields.{name}
use Rattle.gds_library.specs.Facts.{has_name, AreDistinct, names_in, IsDuplicate, IsStreamFact, AreAccepted, IsRefused}
use Rattle.gds_library.proofs.Facts.{names-append}

-- ---- Cuts of a list

record Within {A : Type 0} (items before : List A) (here : A) : Type 0 where
  pub after : List A
  pub parts : items ≡ before ++ here ∷ after

-- of two cuts of a list one is first, or they are the same
data Order {A : Type 0} (before : List A) (here : A) (before' : List A) (here' : A) : Type 0 where
  first : Within before' before here → Order before here before' here'
  same : before ≡ before' → here ≡ here' → Order before here before' here'
  second : Within before before' here' → Order before here before' here'

compare : {A : Type 0} (before : List A) (here : A) (after : List A) (before' : List A) (here' : A) (after' : List A) → before ++ here ∷ after ≡ before' ++ here' ∷ after'
    → Order before here before' here'
compare [] here after [] here' after' is = same refl (let e : here ≡ here' = cc in e)
compare [] here after (b ∷ bs) here' after' is = first (record { after = bs; parts = ap (λ i. i ∷ bs) (let e : b ≡ here = cc in e) })
compare (b ∷ bs) here after [] here' after' is = second (record { after = bs; parts = ap (λ i. i ∷ bs) (let e : b ≡ here' = cc in e) })
compare (b ∷ bs) here after (c ∷ cs) here' after' is =
    let head : b ≡ c = cc in
    let tail : bs ++ here ∷ after ≡ cs ++ here' ∷ after' = cc in
    elim (compare bs here after cs here' after' tail) [
      | first w ↦ first (record { after = w.after; parts = ap (λ those. c ∷ those) w.parts ∙ ap (λ i. i ∷ (bs ++ here ∷ w.after)) (sym head) })
      | same p q ↦ same (ap (λ i. i ∷ bs) head ∙ ap (λ those. c ∷ those) p) q
      | second w ↦ second (record { after = w.after; parts = ap (λ those. b ∷ those) w.parts ∙ ap (λ i. i ∷ (cs ++ here' ∷ w.after)) head })
    ]

-- ---- Names

later_name : (test : Bool) (names rest : List (List ℕ)) (those other : List ℕ) → test ≡ true → bytes_eq other those ≡ test → has_name (names ++ those ∷ rest) other ≡ true
later_name test names rest those other positive is =
    list_any-append (bytes_eq other) names (those ∷ rest) ∙ ap (λ t. has_name names other || (t || has_name rest other)) (is ∙ positive) ∙ always (has_name names other) where
      always : (b : Bool) → (b || true) ≡ true
      always true = refl
      always false = refl

distinct_apart : (names rest : List (List ℕ)) (those : List ℕ) → AreDistinct (names ++ those ∷ rest) → has_name names those ≡ true → ⊥
distinct_apart [] rest those all held = true≢false (sym held)
distinct_apart (other ∷ names) rest those all held = elim (or_cases (bytes_eq those other) (has_name names those) held) [
  | inl e ↦
      let same : other ≡ those = sym ((bytes_eq-Decides those other).0 e) in
      true≢false (sym (later_name true names rest those other refl ((bytes_eq-Decides other those).1 same)) ∙ all.0)
  | inr h ↦ distinct_apart names rest those all.1 h
]

names_apart : (before : List Item) (here : Item) (after : List Item) → AreDistinct (names_in (before ++ here ∷ after)) → IsDuplicate before here → ⊥
names_apart before here after all duplicate =
    let named : names_in (here ∷ after) ≡ name here.body ∷ names_in after =
    ap (λ test. if test then name here.body ∷ names_in after else names_in after) (eq-eqb here.kind (code_of types.StructureName) duplicate.0) in
    let D : List (List ℕ) → Type 0 = λ those. AreDistinct those in
    let whole = subst D (names-append before (here ∷ after) ∙ ap (λ those. names_in before ++ those) named) all in
    distinct_apart (names_in before) (names_in after) (name here.body) whole duplicate.1

-- ---- One refusal

split : (precision : ℕ) (items : List Item) (item : Item) (kind : LayoutKind) → IsStreamFact precision items item kind
    → ((kind ≡ kinds.DuplicateStructure) × AreFine precision (items ++ item ∷ []) × IsDuplicate items item) ⊎ IsFact precision items item kind
split precision items item kinds.DuplicateStructure fact = inl (refl, fact.0, fact.1)
split precision items item kind fact = inr fact

module _ (lower_one : (precision : ℕ) (items : List Item) (a b : LayoutRefusal) → each.IsRefused precision items a → each.IsRefused precision items b → a ≡ b)
    (lower_not_both : (precision : ℕ) (items : List Item) (a : LayoutRefusal) → AreFine precision items → each.IsRefused precision items a → ⊥) where
  pub not_both : (precision : ℕ) (items : List Item) (a : LayoutRefusal) → AreAccepted precision items → IsRefused precision items a → ⊥
  not_both precision items a accepted r = elim (split precision r.before r.item a.kind r.fact) [
    | inl d ↦ let D : List Item → Type 0 = λ those. AreDistinct (names_in those) in names_apart r.before r.item r.after (subst D r.parts accepted.distinct) d.2
    | inr fact ↦
        lower_not_both precision items a accepted.fine
        (record { before = r.before; item = r.item; after = r.after; parts = r.parts; fine = r.accepted.fine; offset = r.offset; fact = fact })
  ]

  module _ (precision : ℕ) (before : List Item) (here : Item) (fine : AreFine precision before) where
    last : (a : LayoutRefusal) → a.at ≡ here.at → IsFact precision before here a.kind → each.IsRefused precision (before ++ here ∷ []) a
    last a at fact = record { before = before; item = here; after = []; parts = refl; fine = fine; offset = at; fact = fact }

    one_here : (a b : LayoutRefusal) → a.at ≡ here.at → b.at ≡ here.at → IsStreamFact precision before here a.kind → IsStreamFact precision before here b.kind → a ≡ b
    one_here a b p q f g = elim (split precision before here a.kind f) [
      | inl d ↦ elim (split precision before here b.kind g) [
        | inl e ↦ refusal_is a b (p ∙ sym q) (d.0 ∙ sym e.0)
        | inr fact ↦ absurd (lower_not_both precision (before ++ here ∷ []) b d.1 (last b q fact))
      ]
      | inr fact ↦ elim (split precision before here b.kind g) [
        | inl e ↦ absurd (lower_not_both precision (before ++ here ∷ []) a e.1 (last a p fact))
        | inr other ↦ lower_one precision (before ++ here ∷ []) a b (last a p fact) (last b q other)
      ]
    ]

  pub one : (precision : ℕ) (items : List Item) (a b : LayoutRefusal) → IsRefused precision items a → IsRefused precision items b → a ≡ b
  one precision items a b r s = elim (compare r.before r.item r.after s.before s.item s.after (sym r.parts ∙ s.parts)) [
    | first w ↦ absurd (not_both precision s.before a s.accepted
        (record { before = r.before; item = r.item; after = w.after; parts = w.parts; accepted = r.accepted; offset = r.offset; fact = r.fact }))
    | same p q ↦
        let F : List Item → Type 0 = λ those. IsStreamFact precision those r.item a.kind in
        let G : Item → Type 0 = λ i. IsStreamFact precision s.before i a.kind in
        one_here precision s.before s.item s.accepted.fine a b (r.offset ∙ ap (λ (i : Item). i.at) q) s.offset (subst G q (subst F p r.fact)) s.fact
    | second w ↦ absurd (not_both precision r.before b r.accepted
        (record { before = s.before; item = s.item; after = w.after; parts = w.parts; accepted = s.accepted; offset = s.offset; fact = s.fact }))
  ]
