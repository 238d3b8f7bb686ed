-- What steps spell, by itself, and the records that it is.
use Rattle.std.proofs.Common.{◌≡◌, refl, sym, ◌∙◌, ap, subst, ℕ, List, [], ◌∷◌, ◌++◌, append_assoc}
use Rattle.gds_records.specs.Records.{Item}
use Rattle.gds_grammar.specs.Steps.{Steps, done, once, Spells, nothing_more, a_record, without, with_group, no_more, once_more, by_these, by_those}
use Rattle.gds_grammar.specs.Working.Exits.{behind}
use Rattle.gds_grammar.proofs.Fronts.{longer}
use Rattle.gds_facts.specs.Opened.{types_of}
use Rattle.gds_library.specs.Streams.{AreSpelled}

-- ---- Types

-- the types that the steps spell, without those behind them
record Own (steps : Steps) (types rest : List ℕ) : Type 0 where
  pub own : List ℕ
  pub is : types ≡ own ++ rest
  pub spelled : Spells steps own []

joined : (a b types between rest : List ℕ) → types ≡ a ++ between → between ≡ b ++ rest → types ≡ (a ++ b) ++ rest
joined a b types between rest p q = p ∙ ap (λ those. a ++ those) q ∙ sym (append_assoc a b rest)

own : {steps : Steps} {types rest : List ℕ} → Spells steps types rest → Own steps types rest
own nothing_more = record { own = []; is = refl; spelled = nothing_more }
own (a_record {type = type} p) = let q = own p in record { own = type ∷ q.own; is = ap (λ those. type ∷ those) q.is; spelled = a_record q.spelled }
own (without p) = let q = own p in record { own = q.own; is = q.is; spelled = without q.spelled }
own (with_group {types = types} {between = between} {rest = rest} g p) =
    let a = own g in
    let b = own p in
    record { own = a.own ++ b.own; is = joined a.own b.own types between rest a.is b.is; spelled = with_group (longer a.spelled b.own) b.spelled }
own (no_more p) = let q = own p in record { own = q.own; is = q.is; spelled = no_more q.spelled }
own (once_more {types = types} {between = between} {rest = rest} g p) =
    let a = own g in
    let b = own p in
    record { own = a.own ++ b.own; is = joined a.own b.own types between rest a.is b.is; spelled = once_more (longer a.spelled b.own) b.spelled }
own (by_these p) = let q = own p in record { own = q.own; is = q.is; spelled = by_these q.spelled }
own (by_those p) = let q = own p in record { own = q.own; is = q.is; spelled = by_those q.spelled }

-- ---- Records

-- records of these types, and records of those
record Cut (items : List Item) (own rest : List ℕ) : Type 0 where
  pub mine : List Item
  pub more : List Item
  pub parts : items ≡ mine ++ more
  pub first : types_of mine ≡ own
  pub then : types_of more ≡ rest

cut : (items : List Item) (own rest : List ℕ) → types_of items ≡ own ++ rest → Cut items own rest
cut items [] rest is = record { mine = []; more = items; parts = refl; first = refl; then = is }
cut [] (type ∷ own) rest is = absurd (let e : [] ≡ type ∷ (own ++ rest) = is in cc)
cut (item ∷ items) (type ∷ own) rest is =
    let head : item.kind ≡ type = cc in
    let tail : types_of items ≡ own ++ rest = cc in
    let c = cut items own rest tail in
    record {
      mine = item ∷ c.mine;
      more = c.more;
      parts = ap (λ those. item ∷ those) c.parts;
      first = ap (λ k. k ∷ types_of c.mine) head ∙ ap (λ those. type ∷ those) c.first;
      then = c.then;
    }

-- the records begin with some that the steps spell
pub record Begins (steps : Steps) (items : List Item) (rest : List ℕ) : Type 0 where
  pub mine : List Item
  pub more : List Item
  pub parts : items ≡ mine ++ more
  pub spelled : AreSpelled steps mine
  pub then : types_of more ≡ rest

pub begins : {steps : Steps} {types rest : List ℕ} → Spells steps types rest → (items : List Item) → types_of items ≡ types → Begins steps items rest
begins {steps = steps} {rest = rest} p items is =
    let o = own p in
    let c = cut items o.own rest (is ∙ o.is) in
    let S : List ℕ → Type 0 = λ those. Spells steps those [] in
    record { mine = c.mine; more = c.more; parts = c.parts; spelled = subst S (sym c.first) o.spelled; then = c.then }

-- the first record has this type
pub record First (items : List Item) (type : ℕ) (rest : List ℕ) : Type 0 where
  pub item : Item
  pub more : List Item
  pub parts : items ≡ item ∷ more
  pub is : item.kind ≡ type
  pub then : types_of more ≡ rest

pub first : (items : List Item) (type : ℕ) (rest : List ℕ) → types_of items ≡ type ∷ rest → First items type rest
first [] type rest is = absurd (let e : [] ≡ type ∷ rest = is in cc)
first (item ∷ items) type rest is = record { item = item; more = items; parts = refl; is = (let e : item.kind ≡ type = cc in e); then = (let e : types_of items ≡ rest = cc in e) }

pub none_left : (items : List Item) → types_of items ≡ [] → items ≡ []
none_left [] is = refl
none_left (item ∷ items) is = absurd (let e : item.kind ∷ types_of items ≡ [] = is in cc)

-- the types that a record and then steps spell
pub record Opened (type : ℕ) (after : Steps) (types rest : List ℕ) : Type 0 where
  pub more : List ℕ
  pub is : types ≡ type ∷ more
  pub spelled : Spells after more rest

pub opened_with : {type : ℕ} {after : Steps} {types rest : List ℕ} → Spells (once type after) types rest → Opened type after types rest
opened_with (a_record {types = types} p) = record { more = types; is = refl; spelled = p }

-- one record alone
pub alone : {type : ℕ} (items : List Item) → AreSpelled (once type done) items → First items type []
alone items p = alone_of p items refl where
  alone_of : {type : ℕ} {types : List ℕ} → Spells (once type done) types [] → (those : List Item) → types_of those ≡ types → First those type []
  alone_of {type = type} (a_record nothing_more) those is = first those type [] is
