-- Each front of what steps spell can be completed, and each front of a stream is one.
use Rattle.std.proofs.Common.{append_assoc, ◌≡◌, refl, sym, subst, ℕ, List, [], ◌∷◌, ◌++◌, ◌⊎◌, inl, inr}
use Rattle.gds_grammar.specs.Steps.{Steps, done, once, maybe, many, either, Spells, nothing_more, a_record, without, with_group, no_more, once_more, by_these, by_those, Front, nothing_yet, in_place, left_out, within_group, past_group, past_all, within_one, past_one, of_these, of_those}
use Rattle.gds_grammar.specs.Grammar.{IsStream, IsFront}

-- the whole is the front and then the more
data Joins : List ℕ → List ℕ → List ℕ → Type 0 where
  joined : {more : List ℕ} → Joins [] more more
  one : {type : ℕ} {front more whole : List ℕ} → Joins front more whole → Joins (type ∷ front) more (type ∷ whole)

joins : (front more : List ℕ) → Joins front more (front ++ more)
joins [] more = joined
joins (type ∷ front) more = one (joins front more)

-- what is spelled is cut inside what the steps spell, or behind it
record Behind (steps : Steps) (front more rest : List ℕ) : Type 0 where
  pub between : List ℕ
  pub spelled : Spells steps front between
  pub cut_at : Joins between more rest

cut : {steps : Steps} {whole rest : List ℕ} → Spells steps whole rest → {front more : List ℕ} → Joins front more whole → Front steps front ⊎ Behind steps front more rest
cut nothing_more j = inr (record { between = _; spelled = nothing_more; cut_at = j })
cut (a_record p) joined = inl nothing_yet
cut (a_record p) (one j) = elim (cut p j) [
  | inl f ↦ inl (in_place f)
  | inr b ↦ inr (record { between = b.between; spelled = a_record b.spelled; cut_at = b.cut_at })
]
cut (without p) j = elim (cut p j) [
  | inl f ↦ inl (left_out f)
  | inr b ↦ inr (record { between = b.between; spelled = without b.spelled; cut_at = b.cut_at })
]
cut (with_group g p) j = elim (cut g j) [
  | inl f ↦ inl (within_group f)
  | inr b ↦ elim (cut p b.cut_at) [
    | inl f ↦ inl (past_group b.spelled f)
    | inr c ↦ inr (record { between = c.between; spelled = with_group b.spelled c.spelled; cut_at = c.cut_at })
  ]
]
cut (no_more p) j = elim (cut p j) [
  | inl f ↦ inl (past_all f)
  | inr b ↦ inr (record { between = b.between; spelled = no_more b.spelled; cut_at = b.cut_at })
]
cut (once_more g p) j = elim (cut g j) [
  | inl f ↦ inl (within_one f)
  | inr b ↦ elim (cut p b.cut_at) [
    | inl f ↦ inl (past_one b.spelled f)
    | inr c ↦ inr (record { between = c.between; spelled = once_more b.spelled c.spelled; cut_at = c.cut_at })
  ]
]
cut (by_these p) j = elim (cut p j) [
  | inl f ↦ inl (of_these f)
  | inr b ↦ inr (record { between = b.between; spelled = by_these b.spelled; cut_at = b.cut_at })
]
cut (by_those p) j = elim (cut p j) [
  | inl f ↦ inl (of_those f)
  | inr b ↦ inr (record { between = b.between; spelled = by_those b.spelled; cut_at = b.cut_at })
]

-- ---- Completions

-- types that the steps spell, up to the rest
pub record Example (steps : Steps) (rest : List ℕ) : Type 0 where
  pub types : List ℕ
  pub spelled : Spells steps types rest

pub example : (steps : Steps) (rest : List ℕ) → Example steps rest
example done rest = record { types = rest; spelled = nothing_more }
example (once type after) rest = let e = example after rest in record { types = type ∷ e.types; spelled = a_record e.spelled }
example (maybe group after) rest = let e = example after rest in record { types = e.types; spelled = without e.spelled }
example (many group after) rest = let e = example after rest in record { types = e.types; spelled = no_more e.spelled }
example (either these those) rest = let e = example these rest in record { types = e.types; spelled = by_these e.spelled }

-- what is spelled stays so, whatever follows
pub longer : {steps : Steps} {types rest : List ℕ} → Spells steps types rest → (more : List ℕ) → Spells steps (types ++ more) (rest ++ more)
longer nothing_more more = nothing_more
longer (a_record p) more = a_record (longer p more)
longer (without p) more = without (longer p more)
longer (with_group g p) more = with_group (longer g more) (longer p more)
longer (no_more p) more = no_more (longer p more)
longer (once_more g p) more = once_more (longer g more) (longer p more)
longer (by_these p) more = by_these (longer p more)
longer (by_those p) more = by_those (longer p more)

-- what completes a front, up to the rest
record Completes (steps : Steps) (types rest : List ℕ) : Type 0 where
  pub more : List ℕ
  pub spelled : Spells steps (types ++ more) rest

complete : {steps : Steps} {types : List ℕ} → Front steps types → (rest : List ℕ) → Completes steps types rest
complete (nothing_yet {steps = steps}) rest = let e = example steps rest in record { more = e.types; spelled = e.spelled }
complete (in_place f) rest = let c = complete f rest in record { more = c.more; spelled = a_record c.spelled }
complete (left_out f) rest = let c = complete f rest in record { more = c.more; spelled = without c.spelled }
complete (within_group {after = after} f) rest =
    let e = example after rest in
    let c = complete f e.types in
    record { more = c.more; spelled = with_group c.spelled e.spelled }
complete (past_group g f) rest = let c = complete f rest in record { more = c.more; spelled = with_group (longer g c.more) c.spelled }
complete (past_all f) rest = let c = complete f rest in record { more = c.more; spelled = no_more c.spelled }
complete (within_one {group = group} {after = after} f) rest =
    let e = example (many group after) rest in
    let c = complete f e.types in
    record { more = c.more; spelled = once_more c.spelled e.spelled }
complete (past_one g f) rest = let c = complete f rest in record { more = c.more; spelled = once_more (longer g c.more) c.spelled }
complete (of_these f) rest = let c = complete f rest in record { more = c.more; spelled = by_these c.spelled }
complete (of_those f) rest = let c = complete f rest in record { more = c.more; spelled = by_those c.spelled }

-- ---- Of streams

nothing_behind : {front more : List ℕ} → Joins front more [] → front ≡ []
nothing_behind joined = refl

-- what is spelled whole is a front
whole : {steps : Steps} {types rest : List ℕ} → Spells steps types rest → rest ≡ [] → Front steps types
whole (nothing_more {rest = rest}) is = let F : List ℕ → Type 0 = λ those. Front done those in subst F (sym is) nothing_yet
whole (a_record p) is = in_place (whole p is)
whole (without p) is = left_out (whole p is)
whole (with_group g p) is = past_group g (whole p is)
whole (no_more p) is = past_all (whole p is)
whole (once_more g p) is = past_one g (whole p is)
whole (by_these p) is = of_these (whole p is)
whole (by_those p) is = of_those (whole p is)

-- a front of a stream is one
pub front_is_front : (types more : List ℕ) → IsStream (types ++ more) → IsFront types
front_is_front types more p = elim (cut p (joins types more)) [ inl f ↦ f | inr b ↦ whole b.spelled (nothing_behind b.cut_at) ]

-- a front of a stream can be completed
pub front_has_completion : (types : List ℕ) → IsFront types → (more : List ℕ) × IsStream (types ++ more)
front_has_completion types f = let c = complete f [] in (c.more, c.spelled)

-- a front of a front is one
pub front_of_front : (types more : List ℕ) → IsFront (types ++ more) → IsFront types
front_of_front types more f =
    let c = front_has_completion (types ++ more) f in
    let S : List ℕ → Type 0 = λ those. IsStream those in
    front_is_front types (more ++ c.0) (subst S (append_assoc types more c.0) c.1)
