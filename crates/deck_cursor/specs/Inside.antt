-- What a cursor shows, and what it keeps ready.
use Rattle.std.specs.Prelude.{◌≡◌, ◌≤◌, ℕ, List, length, drop, Option, Some, None, Ok}
use Rattle.deck_tree.specs.WellFormed.{most_nested}
use Rattle.deck_lexer.specs.declared.token.Token.{Token}
use Rattle.deck_lexer.specs.Tokens.{Comes}
use Rattle.deck_cursor.specs.declared.cursor.Cursor.TheInside.{Inside}
use Rattle.deck_cursor.specs.Places.{Place}

abbrev pub place_of : Inside → Place
place_of cursor = record { text = cursor.text.now; at = cursor.at; brackets = cursor.brackets }

-- the token that comes next, if one does
abbrev pub IsUpcoming : List ℕ → ℕ → Option Token → Type 0
IsUpcoming text at (Some token) = Comes at (drop at text) (Ok (Some token)) × (token.start ≤ token.end) × (token.end ≤ length text)
IsUpcoming text at None = (token : Token) → Comes at (drop at text) (Ok (Some token)) → ⊥

abbrev pub IsReady : Inside → Type 0
IsReady cursor = (cursor.at ≤ length cursor.text.now) × IsUpcoming cursor.text.now cursor.at cursor.ahead × (cursor.brackets ≤ most_nested)
