-- What steps spell begins with one of their exits, and what begins so is spelled by them.
use Rattle.std.proofs.Common.{◌≡◌, refl, sym, subst, ℕ, List, [], ◌∷◌, ◌++◌, ◌⊎◌, inl, inr}
use Rattle.gds_grammar.specs.Steps.{Steps, done, once, maybe, many, either, Spells, nothing_more, a_record, without, with_group, no_more, once_more, by_these, by_those}
use Rattle.gds_grammar.specs.Working.Exits.{behind, lengthened, exits}

-- ---- Steps behind steps

join : {steps those : Steps} {types between rest : List ℕ} → Spells steps types between → Spells those between rest → Spells (behind steps those) types rest
join nothing_more q = q
join (a_record p) q = a_record (join p q)
join (without p) q = without (join p q)
join (with_group g p) q = with_group g (join p q)
join (no_more p) q = no_more (join p q)
join (once_more g p) q = once_more g (join p q)
join (by_these p) q = by_these (join p q)
join (by_those p) q = by_those (join p q)

pub record Parted (steps those : Steps) (types rest : List ℕ) : Type 0 where
  pub between : List ℕ
  pub first : Spells steps types between
  pub then : Spells those between rest

-- the whole is the steps and then those
data At : (steps those whole : Steps) → Type 0 where
  at_done : {those : Steps} → At done those those
  at_once : {type : ℕ} {after those whole : Steps} → At after those whole → At (once type after) those (once type whole)
  at_maybe : {group after those whole : Steps} → At after those whole → At (maybe group after) those (maybe group whole)
  at_many : {group after those whole : Steps} → At after those whole → At (many group after) those (many group whole)
  at_either : {a b those whole other : Steps} → At a those whole → At b those other → At (either a b) those (either whole other)

at : (steps those : Steps) → At steps those (behind steps those)
at done those = at_done
at (once type after) those = at_once (at after those)
at (maybe group after) those = at_maybe (at after those)
at (many group after) those = at_many (at after those)
at (either a b) those = at_either (at a those) (at b those)

parted : {whole : Steps} {types rest : List ℕ} → Spells whole types rest → {steps those : Steps} → At steps those whole → Parted steps those types rest
parted p at_done = record { between = _; first = nothing_more; then = p }
parted (a_record p) (at_once k) = let q = parted p k in record { between = q.between; first = a_record q.first; then = q.then }
parted (without p) (at_maybe k) = let q = parted p k in record { between = q.between; first = without q.first; then = q.then }
parted (with_group g p) (at_maybe k) = let q = parted p k in record { between = q.between; first = with_group g q.first; then = q.then }
parted (no_more p) (at_many k) = let q = parted p k in record { between = q.between; first = no_more q.first; then = q.then }
parted (once_more g p) (at_many k) = let q = parted p (at_many k) in record { between = q.between; first = once_more g q.first; then = q.then }
parted (by_these p) (at_either k m) = let q = parted p k in record { between = q.between; first = by_these q.first; then = q.then }
parted (by_those p) (at_either k m) = let q = parted p m in record { between = q.between; first = by_those q.first; then = q.then }

pub part : (steps : Steps) {those : Steps} {types rest : List ℕ} → Spells (behind steps those) types rest → Parted steps those types rest
part steps {those = those} p = parted p (at steps those)

-- ---- Types that begin with a way

-- the first type goes by this way, and the others are spelled by what follows it
pub record Goes (way : ℕ × Steps) (types rest : List ℕ) : Type 0 where
  pub more : List ℕ
  pub is : types ≡ way.0 ∷ more
  pub spelled : Spells way.1 more rest

-- by one of these ways
abbrev pub Leads : List (ℕ × Steps) → List ℕ → List ℕ → Type 0
Leads [] types rest = ⊥
Leads (way ∷ ways) types rest = Goes way types rest ⊎ Leads ways types rest

leads_left : (ways others : List (ℕ × Steps)) (types rest : List ℕ) → Leads ways types rest → Leads (ways ++ others) types rest
leads_left [] others types rest l = absurd l
leads_left (way ∷ ways) others types rest l = elim l [ inl g ↦ inl g | inr m ↦ inr (leads_left ways others types rest m) ]

leads_right : (ways others : List (ℕ × Steps)) (types rest : List ℕ) → Leads others types rest → Leads (ways ++ others) types rest
leads_right [] others types rest l = l
leads_right (way ∷ ways) others types rest l = inr (leads_right ways others types rest l)

either_leads : (ways others : List (ℕ × Steps)) (types rest : List ℕ) → Leads (ways ++ others) types rest → Leads ways types rest ⊎ Leads others types rest
either_leads [] others types rest l = inr l
either_leads (way ∷ ways) others types rest l = elim l [
  | inl g ↦ inl (inl g)
  | inr m ↦ elim (either_leads ways others types rest m) [ inl a ↦ inl (inr a) | inr b ↦ inr b ]
]

leads_longer : (those : Steps) (ways : List (ℕ × Steps)) (types between rest : List ℕ) → Leads ways types between → Spells those between rest → Leads (lengthened those ways) types rest
leads_longer those [] types between rest l q = absurd l
leads_longer those (way ∷ ways) types between rest l q = elim l [
  | inl g ↦ inl (record { more = g.more; is = g.is; spelled = join g.spelled q })
  | inr m ↦ inr (leads_longer those ways types between rest m q)
]

-- a way into a group, and what stands behind the group
record Enters (ways : List (ℕ × Steps)) (those : Steps) (types rest : List ℕ) : Type 0 where
  pub between : List ℕ
  pub leads : Leads ways types between
  pub then : Spells those between rest

leads_shorter : (those : Steps) (ways : List (ℕ × Steps)) (types rest : List ℕ) → Leads (lengthened those ways) types rest → Enters ways those types rest
leads_shorter those [] types rest l = absurd l
leads_shorter those (way ∷ ways) types rest l = elim l [
  | inl g ↦ let q = part way.1 g.spelled in
      record { between = q.between; leads = inl (record { more = g.more; is = g.is; spelled = q.first }); then = q.then }
  | inr m ↦ let e = leads_shorter those ways types rest m in
      record { between = e.between; leads = inr e.leads; then = e.then }
]

-- ---- Exits

pub begins : {steps : Steps} {types rest : List ℕ} → Spells steps types rest → (types ≡ rest) ⊎ Leads (exits steps) types rest
begins nothing_more = inl refl
begins (a_record p) = inr (inl (record { more = _; is = refl; spelled = p }))
begins (without {group = group} {after = after} {types = types} {rest = rest} p) = elim (begins p) [
  | inl e ↦ inl e
  | inr l ↦ inr (leads_right (lengthened after (exits group)) (exits after) types rest l)
]
begins (with_group {group = group} {after = after} {types = types} {between = between} {rest = rest} g p) = elim (begins g) [
  | inl e ↦
      let W : List ℕ → Type 0 = λ those. (those ≡ rest) ⊎ Leads (lengthened after (exits group) ++ exits after) those rest in
      subst W (sym e) (elim (begins p) [
        | inl f ↦ inl f
        | inr l ↦ inr (leads_right (lengthened after (exits group)) (exits after) between rest l)
      ])
  | inr l ↦ inr (leads_left (lengthened after (exits group)) (exits after) types rest (leads_longer after (exits group) types between rest l p))
]
begins (no_more {group = group} {after = after} {types = types} {rest = rest} p) = elim (begins p) [
  | inl e ↦ inl e
  | inr l ↦ inr (leads_right (lengthened (many group after) (exits group)) (exits after) types rest l)
]
begins (once_more {group = group} {after = after} {types = types} {between = between} {rest = rest} g p) = elim (begins g) [
  | inl e ↦
      let W : List ℕ → Type 0 = λ those. (those ≡ rest) ⊎ Leads (exits (many group after)) those rest in
      subst W (sym e) (begins p)
  | inr l ↦ inr (leads_left (lengthened (many group after) (exits group)) (exits after) types rest
      (leads_longer (many group after) (exits group) types between rest l p))
]
begins (by_these {these = these} {those = those} {types = types} {rest = rest} p) = elim (begins p) [
  | inl e ↦ inl e
  | inr l ↦ inr (leads_left (exits these) (exits those) types rest l)
]
begins (by_those {these = these} {those = those} {types = types} {rest = rest} p) = elim (begins p) [
  | inl e ↦ inl e
  | inr l ↦ inr (leads_right (exits these) (exits those) types rest l)
]

pub begun : (steps : Steps) (types rest : List ℕ) → Leads (exits steps) types rest → Spells steps types rest
begun done types rest l = absurd l
begun (once type after) types rest l = elim l [
  | inl g ↦ let S : List ℕ → Type 0 = λ those. Spells (once type after) those rest in subst S (sym g.is) (a_record g.spelled)
  | inr m ↦ absurd m
]
begun (maybe group after) types rest l = elim (either_leads (lengthened after (exits group)) (exits after) types rest l) [
  | inl m ↦ let e = leads_shorter after (exits group) types rest m in with_group (begun group types e.between e.leads) e.then
  | inr m ↦ without (begun after types rest m)
]
begun (many group after) types rest l = elim (either_leads (lengthened (many group after) (exits group)) (exits after) types rest l) [
  | inl m ↦ let e = leads_shorter (many group after) (exits group) types rest m in once_more (begun group types e.between e.leads) e.then
  | inr m ↦ no_more (begun after types rest m)
]
begun (either these those) types rest l = elim (either_leads (exits these) (exits those) types rest l) [
  | inl m ↦ by_these (begun these types rest m)
  | inr m ↦ by_those (begun those types rest m)
]
