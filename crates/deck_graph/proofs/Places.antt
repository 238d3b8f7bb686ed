-- Each definition stands at a place of its deck.
use Rattle.std.proofs.Common.{◌≡◌, ◌≤◌, ℕ, ◌+◌, List, [], ◌∷◌, ◌++◌, length, refl, sym, subst, arith}
use Rattle.std.specs.List.{flat_map}
use Rattle.deck_tree.specs.declared.statement.Item.{Item}
use Rattle.deck_tree.specs.declared.statement.Item.TheVariants as item
use Rattle.deck_tree.specs.declared.statement.Statement.{Statement}
use Rattle.deck_tree.specs.declared.statement.Statement.TheVariants as statement
use Rattle.deck_tree.specs.declared.deck.Deck.{Deck}
use Rattle.deck_definitions.specs.declared.defined.Defined.{Defined}
use Rattle.deck_definitions.specs.Definitions.{Entry, shown, item_entries, statement_entries, checks_behind, entries_from, definitions_of}
use Rattle.deck_counts.specs.Outputs.{statement_checks, checks_of}
use Rattle.deck_graph.specs.Graphs.{StandAtPlaces}

both : (n : ℕ) (xs ys : List Entry) → StandAtPlaces n xs → StandAtPlaces n ys → StandAtPlaces n (xs ++ ys)
both n [] ys p q = q
both n (x ∷ xs) ys p q = (p.0, both n xs ys p.1 q)

of_one_item : (check n : ℕ) (one : Item) → check + 1 ≤ n → StandAtPlaces n (item_entries check one)
of_one_item check n (item.Definition name layer) l = (omega (arith, l), tt)
of_one_item check n (item.Note text) l = tt
of_one_item check n (item.Output layer) l = tt

of_items : (check n : ℕ) (items : List Item) → check + 1 ≤ n → StandAtPlaces n (flat_map (item_entries check) items)
of_items check n [] l = tt
of_items check n (one ∷ more) l = both n (item_entries check one) (flat_map (item_entries check) more) (of_one_item check n one l) (of_items check n more l)

of_one : (checks : ℕ) (one : Statement) (more : List ℕ) → StandAtPlaces (checks + length (statement_checks one ++ more)) (statement_entries checks one)
of_one checks (statement.Layer at name numbers) more = (tt, tt)
of_one checks (statement.Variable at name value) more = (tt, tt)
of_one checks (statement.Definition name layer) more = (tt, tt)
of_one checks (statement.Check name items) more = of_items checks (checks + length (name.at ∷ more)) items (omega arith)
of_one checks other more = tt

behind_one : (checks : ℕ) (one : Statement) (more : List ℕ) → checks_behind checks one + length more ≡ checks + length (statement_checks one ++ more)
behind_one checks (statement.Check name items) more = omega arith
behind_one checks other more = refl

places_from : (checks : ℕ) (statements : List Statement) → StandAtPlaces (checks + length (flat_map statement_checks statements)) (entries_from checks statements)
places_from checks [] = tt
places_from checks (one ∷ more) =
    let rest = flat_map statement_checks more in
    let all = checks + length (statement_checks one ++ rest) in
    let behind = entries_from (checks_behind checks one) more in
    both all (statement_entries checks one) behind (of_one checks one rest)
    (subst (λ n. StandAtPlaces n behind) (behind_one checks one rest) (places_from (checks_behind checks one) more))

places : (deck : Deck) → StandAtPlaces (length (checks_of deck)) (definitions_of deck)
places deck = subst (λ n. StandAtPlaces n (definitions_of deck)) (omega arith) (places_from 0 deck.statements)

pub stand : (deck : Deck) (found : List Defined) (checks : ℕ) → shown found ≡ definitions_of deck → checks ≡ length (checks_of deck) → StandAtPlaces checks (shown found)
stand deck found checks are all =
    subst (StandAtPlaces checks) (sym are) (subst (λ n. StandAtPlaces n (definitions_of deck)) (sym all) (places deck))
