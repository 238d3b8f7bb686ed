-- Lists that are read item by item.
use Rattle.std.proofs.Common.{◌≡◌, List, [], ◌∷◌, ◌++◌, sym, subst, append_assoc, append-nil}
use Rattle.deck_grammar.specs.Rules.{Rule, Tree}
use Rattle.deck_cursor.specs.Places.{Place}
use Rattle.deck_cursor.specs.Steps.{Reads}
use Rattle.deck_builder.specs.Reading.{Precedes, Reaches}

-- one item more
pub grown : {q : Rule} {X : Type 0} {list : List X → Tree q} {from between behind : Place} (found all : List X) (x : X) → all ≡ found ++ x ∷ []
    → Reaches q list from between found → Precedes q list between behind x → Reaches q list from behind all
grown {q} {X} {list} {from} found all x is reached precedes to more h =
    let P : List X → Type 0 = λ those. Reads q from to (list those) in
    let Q : List X → Type 0 = λ those. Reads q from to (list (those ++ more)) in
    subst Q (sym is) (subst P (sym (append_assoc found (x ∷ []) more)) (reached to (x ∷ more) (precedes to more h)))

-- and none more
pub whole : {q : Rule} {X : Type 0} {list : List X → Tree q} {from to : Place} (found : List X) → Reaches q list from to found → Reads q to to (list [])
    → Reads q from to (list found)
whole {q} {X} {list} {from} {to} found reached h =
    let P : List X → Type 0 = λ all. Reads q from to (list all) in subst P (append-nil found) (reached to [] h)
