-- The canonical text of what a check holds is spelled by the grammar as it is, but for places, line by line.
use Rattle.std.proofs.Common.{◌≡◌, ℕ, List, [], ◌∷◌, ◌++◌, map, refl, sym, ap, subst, ◌∙◌, append_assoc}
use Rattle.std.specs.Prelude.{codes}
use Rattle.std.specs.List.{list_all, flat_map}
use Rattle.std.proofs.lemmas.Bool.{and_parts}
use Rattle.deck_tree.specs.declared.statement.Item.{Item}
use Rattle.deck_tree.specs.declared.statement.Item.TheVariants as item
use Rattle.deck_tree.specs.WellFormed.{is_formed_name, is_formed_layer, is_formed_item, deepest, depth_of_item}
use Rattle.deck_tree.specs.Plain.{plain_name, plain_item}
use Rattle.deck_grammar.specs.Rules as r
use Rattle.deck_grammar.specs.Alternatives as a
use Rattle.deck_printer.specs.Layers.{layer_text}
use Rattle.deck_printer.specs.Canonical.{note_text, item_text}
use Rattle.deck_round.proofs.Levels.{Fits, both_fit}
use Rattle.deck_round.proofs.Lexing.{Anything}
use Rattle.deck_round.proofs.Parts.{Ruled, nothing, blank_then, token_then, rule_then, last_rule, token_space}
use Rattle.deck_round.proofs.Keywords as word
use Rattle.deck_round.proofs.Marks.{name_one, note_one, note_said}
use Rattle.deck_round.proofs.AlikeValues.{alike}
use Rattle.deck_round.proofs.Layers.{layer_spelled}

abbrev pub ItemsSpelled : List ℕ → List Item → Type 0
ItemsSpelled w all = Ruled Anything 0 r.items w (λ read. map plain_item read ≡ map plain_item all)

pub items_spelled : (all : List Item) → Fits (list_all is_formed_item all) (deepest (map depth_of_item all)) 0 → ItemsSpelled (flat_map item_text all) all
items_spelled [] fits = record { alternative = a.no_item; spelled = nothing refl }
items_spelled (item.Note text ∷ more) fits =
    let both = both_fit (is_formed_item (item.Note text)) (list_all is_formed_item more) (depth_of_item (item.Note text)) (deepest (map depth_of_item more)) 0 fits in
    let spelled : ItemsSpelled (note_text text ++ 10 ∷ flat_map item_text more) (item.Note text ∷ more) = record {
      alternative = a.a_note;
      spelled = token_then (note_text text) (10 ∷ flat_map item_text more) (note_one text both.0.is) (λ rest e. refl) (λ at.
          blank_then 10 (flat_map item_text more) refl (last_rule (flat_map item_text more) (items_spelled more both.1) (λ read all. alike (ap item.Note (note_said text both.0.is at)) all)));
    } in
    subst (λ (t : List ℕ). ItemsSpelled t (item.Note text ∷ more)) (sym (append_assoc (note_text text) (codes "\n") (flat_map item_text more))) spelled
items_spelled (item.Definition name layer ∷ more) fits =
    let both = both_fit (is_formed_item (item.Definition name layer)) (list_all is_formed_item more) (depth_of_item (item.Definition name layer)) (deepest (map depth_of_item more)) 0 fits in
    let parts = and_parts (is_formed_name name) (is_formed_layer layer) both.0.is in
    let spelled : ItemsSpelled (name.name ++ (codes " = " ++ (layer_text layer ++ 10 ∷ flat_map item_text more))) (item.Definition name layer ∷ more) = record {
      alternative = a.a_definition;
      spelled = token_space name.name (codes "= " ++ (layer_text layer ++ 10 ∷ flat_map item_text more)) (name_one name.name parts.0) (λ at.
          token_space (codes "=") (layer_text layer ++ 10 ∷ flat_map item_text more) word.equals (λ equals.
          rule_then (layer_text layer) (10 ∷ flat_map item_text more) (layer_spelled layer 0 (record { is = parts.1; room = both.0.room })) (λ rest e. refl) (λ l same.
          blank_then 10 (flat_map item_text more) refl (last_rule (flat_map item_text more) (items_spelled more both.1) (λ read all. alike (ap (item.Definition (plain_name name)) same) all)))));
    } in
    let text : item_text (item.Definition name layer) ++ flat_map item_text more ≡ name.name ++ (codes " = " ++ (layer_text layer ++ 10 ∷ flat_map item_text more)) =
    append_assoc name.name (codes " = " ++ (layer_text layer ++ codes "\n")) (flat_map item_text more)
    ∙ ap (λ (t : List ℕ). name.name ++ (codes " = " ++ t)) (append_assoc (layer_text layer) (codes "\n") (flat_map item_text more)) in
    subst (λ (t : List ℕ). ItemsSpelled t (item.Definition name layer ∷ more)) (sym text) spelled
items_spelled (item.Output layer ∷ more) fits =
    let both = both_fit (is_formed_item (item.Output layer)) (list_all is_formed_item more) (depth_of_item (item.Output layer)) (deepest (map depth_of_item more)) 0 fits in
    let spelled : ItemsSpelled (layer_text layer ++ 10 ∷ flat_map item_text more) (item.Output layer ∷ more) = record {
      alternative = a.an_output;
      spelled = rule_then (layer_text layer) (10 ∷ flat_map item_text more) (layer_spelled layer 0 both.0) (λ rest e. refl) (λ l same.
          blank_then 10 (flat_map item_text more) refl (last_rule (flat_map item_text more) (items_spelled more both.1) (λ read all. alike (ap item.Output same) all)));
    } in
    subst (λ (t : List ℕ). ItemsSpelled t (item.Output layer ∷ more)) (sym (append_assoc (layer_text layer) (codes "\n") (flat_map item_text more))) spelled
