-- When statements are the same but for places.
use Rattle.std.specs.Prelude.{◌≡◌, List, map}
use Rattle.deck_tree.specs.declared.statement.Statement.{Statement}
use Rattle.deck_tree.specs.Plain.{plain_statement}

-- equal, where each offset is taken as 0
abbrev pub AreAlike : List Statement → List Statement → Type 0
AreAlike a b = map plain_statement a ≡ map plain_statement b
