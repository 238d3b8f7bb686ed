-- Lists of record types that go in steps: what the steps spell, and what is a front of that. A group is steps too, so
-- that an optional group may hold optional ones.
use Rattle.std.specs.Prelude.{ℕ, List, [], ◌∷◌}

pub data Steps : Type 0 where
  -- nothing more
  done : Steps
  -- a record of this type, and then these steps
  once : (type : ℕ) (after : Steps) → Steps
  -- the group or nothing, and then these steps
  maybe : (group after : Steps) → Steps
  -- the group any number of times, also not at all, and then these steps
  many : (group after : Steps) → Steps
  -- these steps or those
  either : (these those : Steps) → Steps

-- The first types, up to the rest, are spelled by the steps.
pub data Spells : Steps → List ℕ → List ℕ → Type 0 where
  nothing_more : {rest : List ℕ} → Spells done rest rest
  a_record : {type : ℕ} {after : Steps} {types rest : List ℕ} → Spells after types rest → Spells (once type after) (type ∷ types) rest
  without : {group after : Steps} {types rest : List ℕ} → Spells after types rest → Spells (maybe group after) types rest
  with_group : {group after : Steps} {types between rest : List ℕ}
      → Spells group types between → Spells after between rest → Spells (maybe group after) types rest
  no_more : {group after : Steps} {types rest : List ℕ} → Spells after types rest → Spells (many group after) types rest
  once_more : {group after : Steps} {types between rest : List ℕ}
      → Spells group types between → Spells (many group after) between rest → Spells (many group after) types rest
  by_these : {these those : Steps} {types rest : List ℕ} → Spells these types rest → Spells (either these those) types rest
  by_those : {these those : Steps} {types rest : List ℕ} → Spells those types rest → Spells (either these those) types rest

-- The types are a front of what the steps spell: there are none yet; or the first is that of the first step, and the others
-- are a front of what follows; or they end inside a group, or are a front of what follows it.
pub data Front : Steps → List ℕ → Type 0 where
  nothing_yet : {steps : Steps} → Front steps []
  in_place : {type : ℕ} {after : Steps} {types : List ℕ} → Front after types → Front (once type after) (type ∷ types)
  left_out : {group after : Steps} {types : List ℕ} → Front after types → Front (maybe group after) types
  within_group : {group after : Steps} {types : List ℕ} → Front group types → Front (maybe group after) types
  past_group : {group after : Steps} {types between : List ℕ}
      → Spells group types between → Front after between → Front (maybe group after) types
  past_all : {group after : Steps} {types : List ℕ} → Front after types → Front (many group after) types
  within_one : {group after : Steps} {types : List ℕ} → Front group types → Front (many group after) types
  past_one : {group after : Steps} {types between : List ℕ}
      → Spells group types between → Front (many group after) between → Front (many group after) types
  of_these : {these those : Steps} {types : List ℕ} → Front these types → Front (either these those) types
  of_those : {these those : Steps} {types : List ℕ} → Front those types → Front (either these those) types
