-- One record more, and its facts.
use Rattle.std.proofs.Common.{◌≡◌, refl, sym, ◌∙◌, ap, subst, ℕ, Bool, true, false, ◌||◌, ◌==◌, if◌then◌else◌, List, [], ◌∷◌, ◌++◌, inl, inr}
use Rattle.std.specs.List.{list_any}
use Rattle.std.specs.Str.{bytes_eq}
use Rattle.std.proofs.lemmas.Bool.{ne_eqb, eq-eqb}
use Rattle.std.proofs.lemmas.List.{append-nil}
use Rattle.std.proofs.lemmas.List.Folds.{list_any-append}
use Rattle.gds_records.specs.declared.record_type.RecordType.TheVariants as types
use Rattle.gds_records.specs.declared.fault.LayoutKind.{LayoutKind}
use Rattle.gds_records.specs.declared.fault.LayoutKind.TheVariants as kinds
use Rattle.gds_records.specs.RecordTypes.{code_of}
use Rattle.gds_records.specs.Records.{Item}
use Rattle.gds_facts.specs.Facts.{IsFact}
use Rattle.gds_library.specs.Fields.{name}
use Rattle.gds_library.specs.Facts.{has_name, AreDistinct, names_in, IsDuplicate, IsStreamFact, Knows}

pub stream_fact : (precision : ℕ) (items : List Item) (item : Item) (kind : LayoutKind) → IsFact precision items item kind → IsStreamFact precision items item kind
stream_fact precision items item kinds.DuplicateStructure fact = absurd fact
stream_fact precision items item kind fact = fact

-- ---- Names

longer : (test : Bool) (those : List ℕ) (a b : List (List ℕ)) → (if test then those ∷ (a ++ b) else a ++ b) ≡ (if test then those ∷ a else a) ++ b
longer true those a b = refl
longer false those a b = refl

pub names-append : (items others : List Item) → names_in (items ++ others) ≡ names_in items ++ names_in others
names-append [] others = refl
names-append (item ∷ items) others =
    ap (λ those. if item.kind == code_of types.StructureName then name item.body ∷ those else those) (names-append items others)
    ∙ longer (item.kind == code_of types.StructureName) (name item.body) (names_in items) (names_in others)

named : (items : List Item) (item : Item) → item.kind ≡ code_of types.StructureName → names_in (items ++ item ∷ []) ≡ names_in items ++ name item.body ∷ []
named items item is =
    names-append items (item ∷ []) ∙ ap (λ test. names_in items ++ (if test then name item.body ∷ [] else [])) (eq-eqb item.kind (code_of types.StructureName) is)

not_named : (items : List Item) (item : Item) → (item.kind ≡ code_of types.StructureName → ⊥) → names_in (items ++ item ∷ []) ≡ names_in items
not_named items item none =
    names-append items (item ∷ [])
    ∙ ap (λ test. names_in items ++ (if test then name item.body ∷ [] else [])) (ne_eqb item.kind (code_of types.StructureName) none)
    ∙ append-nil (names_in items)

left_false : (a b : Bool) → (a || b) ≡ false → a ≡ false
left_false true b e = absurd cc
left_false false b e = refl

right_false : (a b : Bool) → (a || b) ≡ false → b ≡ false
right_false true b e = absurd cc
right_false false b e = e

module _ (symmetric : (a b : List ℕ) → bytes_eq a b ≡ false → bytes_eq b a ≡ false) where
  distinct_more : (names : List (List ℕ)) (those : List ℕ) → AreDistinct names → has_name names those ≡ false → AreDistinct (names ++ those ∷ [])
  distinct_more [] those all none = (refl, tt)
  distinct_more (first ∷ names) those all none =
      let apart = symmetric those first (left_false (bytes_eq those first) (has_name names those) none) in
      let fresh : has_name (names ++ those ∷ []) first ≡ false =
      list_any-append (bytes_eq first) names (those ∷ []) ∙ ap (λ t. t || (bytes_eq first those || false)) all.0 ∙ ap (λ t. t || false) apart in
      (fresh, distinct_more names those all.1 (right_false (bytes_eq those first) (has_name names those) none))

or_flip : (a b : Bool) → (a || (b || false)) ≡ (b || a)
or_flip true true = refl
or_flip true false = refl
or_flip false true = refl
or_flip false false = refl

pub knows_other : (items : List Item) (item : Item) (names : List (List ℕ)) → (item.kind ≡ code_of types.StructureName → ⊥) → Knows items names → Knows (items ++ item ∷ []) names
knows_other items item names none known =
    let same = not_named items item none in
    let D : List (List ℕ) → Type 0 = λ those. AreDistinct those in
    record {
      same = λ those. known.same those ∙ ap (λ all. has_name all those) (sym same);
      distinct = subst D (sym same) known.distinct;
    }

pub knows_name : ((a b : List ℕ) → bytes_eq a b ≡ false → bytes_eq b a ≡ false) → (items : List Item) (item : Item) (names new : List (List ℕ)) → item.kind ≡ code_of types.StructureName
    → ((those : List ℕ) → has_name new those ≡ (bytes_eq those (name item.body) || has_name names those)) → has_name names (name item.body) ≡ false → Knows items names → Knows (items ++ item ∷ []) new
knows_name symmetric items item names new is more none known =
    let whole = named items item is in
    let D : List (List ℕ) → Type 0 = λ those. AreDistinct those in
    record {
      same = λ those.
          more those ∙ ap (λ t. bytes_eq those (name item.body) || t) (known.same those)
          ∙ sym (or_flip (has_name (names_in items) those) (bytes_eq those (name item.body)))
          ∙ sym (list_any-append (bytes_eq those) (names_in items) (name item.body ∷ []))
          ∙ ap (λ all. has_name all those) (sym whole);
      distinct = subst D (sym whole) (distinct_more symmetric (names_in items) (name item.body) known.distinct (sym (known.same (name item.body)) ∙ none));
    }
