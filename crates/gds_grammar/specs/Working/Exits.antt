-- The types with which what some steps spell may begin, each with what follows it.
use Rattle.std.specs.Prelude.{ℕ, Bool, true, ◌==◌, ◌&&◌, ◌||◌, not, false, if◌then◌else◌, List, [], ◌∷◌, ◌++◌, Option, Some, None}
use Rattle.gds_grammar.specs.Steps.{Steps, done, once, maybe, many, either}

-- where the first of these leads that goes by the type
abbrev pub chosen : {S : Type 0} → ℕ → List (ℕ × S) → Option S
chosen type [] = None
chosen type (way ∷ ways) = if way.0 == type then Some way.1 else chosen type ways

-- does one go by the type?
abbrev pub offers : {S : Type 0} → ℕ → List (ℕ × S) → Bool
offers type [] = false
offers type (way ∷ ways) = (way.0 == type) || offers type ways

-- each goes by another type
abbrev pub differ : {S : Type 0} → List (ℕ × S) → Bool
differ [] = true
differ (way ∷ ways) = not (offers way.0 ways) && differ ways

-- these steps and then those
abbrev pub behind : Steps → Steps → Steps
behind done those = those
behind (once type after) those = once type (behind after those)
behind (maybe group after) those = maybe group (behind after those)
behind (many group after) those = many group (behind after those)
behind (either a b) those = either (behind a those) (behind b those)

-- the same, with those steps behind each
abbrev pub lengthened : Steps → List (ℕ × Steps) → List (ℕ × Steps)
lengthened those [] = []
lengthened those (way ∷ ways) = (way.0, behind way.1 those) ∷ lengthened those ways

abbrev pub exits : Steps → List (ℕ × Steps)
exits done = []
exits (once type after) = (type, after) ∷ []
exits (maybe group after) = lengthened after (exits group) ++ exits after
exits (many group after) = lengthened (many group after) (exits group) ++ exits after
exits (either these those) = exits these ++ exits those
