-- Decks of the first form: what is read of one is what it says, and what it says is read again.
use Rattle.std.proofs.Common.{◌≡◌, ℕ, Bool, true, cond, ◌&&◌, List, map, Option, Some, None, refl, sym, ap, subst, ◌∙◌, ◌⊎◌, inl, inr}
use Rattle.std.specs.Prelude.{IfSome, IfNone}
use Rattle.std.specs.Option.{option_map}
use Rattle.std.proofs.lemmas.Bool.{and_parts}
use Rattle.std.proofs.lemmas.Option.{cond_some, none-some, same_Some}
use Rattle.list_facts.specs.Attempts.{◌>>=◌}
use Rattle.list_facts.proofs.Attempts.{found_by}
use Rattle.deck_tree.specs.declared.deck.Deck.{Deck}
use Rattle.deck_tree.specs.declared.statement.Statement.{Statement}
use Rattle.deck_tree.specs.Plain.{plain_statement}
use Rattle.first_form.specs.declared.served.FirstDeck.{FirstDeck}
use Rattle.first_form.specs.FirstForm.{ServedDeck, input_of, statements_of, IsFirstForm}
use Rattle.first_form.specs.Reading.{IsReadingOf}
use Rattle.first_form.specs.Working.Parts.{Parts, parts_in, choice_of, files_fit, is_bound, deck_of, served_in}
use Rattle.first_form.specs.Working.Views.{Reads}
use Rattle.first_form.proofs.Statements.{lines_of, parts_same, parts_found, parts_again}
use Rattle.first_form.proofs.Choices.{choice_takes, choice_again, files_take, files_again, bound_takes, bound_again}

-- the statements of a deck, with the check's input by its name
abbrev said : Parts → Bool → List ℕ → List Statement
said p o input = lines_of (record p { check = record { name = p.check.name; note = p.check.note; input = input; bound = p.check.bound } })

pub served_takes : (name : List ℕ) (deck : Deck) (d : ServedDeck) → served_in name deck.statements ≡ Some d → IsFirstForm name deck d
unfolding served_in
served_takes name deck d e =
    let a = found_by (parts_in deck.statements) (λ p. choice_of p.first p.second p.check.input >>= λ o. cond (is_bound p.check.bound && files_fit name p.head) (Some (deck_of p o)) None) d e in
    let p : Parts = a.0 in
    let b = found_by (choice_of p.first p.second p.check.input) (λ o. cond (is_bound p.check.bound && files_fit name p.head) (Some (deck_of p o)) None) d a.2 in
    let o : Bool = b.0 in
    let g = cond_some (is_bound p.check.bound && files_fit name p.head) (deck_of p o) d b.2 in
    let both = and_parts (is_bound p.check.bound) (files_fit name p.head) g.0 in
    let t = parts_found deck.statements p a.1 in
    let c = choice_takes p.first p.second p.check.input o b.1 in
    let f = files_take name p.head both.1 in
    let made : ServedDeck = deck_of p o in
    let lines : map plain_statement deck.statements ≡ statements_of made = t.lines ∙ ap (said p o) (sym c.name) in
    let form : IsFirstForm name deck made = record {
      statements = lines;
      layout = f.layout;
      results = f.results;
      layout_results = f.layout_results;
      layout_deck = f.layout_deck;
      results_deck = f.results_deck;
      first = t.first;
      second = t.second;
      names = c.names;
      input = c.some;
      bound = bound_takes p.check.bound both.0;
    } in
    subst (λ (y : ServedDeck). IsFirstForm name deck y) g.1 form

-- the parts of a deck
abbrev parts_of : ServedDeck → Parts
parts_of d = record {
  head = record { layout = d.layout; primary = d.primary; results = d.results };
  first = d.first;
  second = d.second;
  check = record { name = d.check; note = d.note; input = (input_of d).name; bound = d.bound };
}

pub served_again : (name : List ℕ) (deck : Deck) (d : ServedDeck) → IsFirstForm name deck d → served_in name deck.statements ≡ Some d
unfolding served_in
served_again name deck d f =
    let h : parts_in deck.statements ≡ Some (parts_of d) = sym (parts_same deck.statements) ∙ ap parts_in f.statements ∙ parts_again (parts_of d) f.first f.second in
    let c : choice_of d.first d.second (input_of d).name ≡ Some d.of_second = choice_again d.first d.second d.of_second f.names f.input in
    let files : files_fit name (parts_of d).head ≡ true = files_again name (parts_of d).head (record { layout = f.layout; results = f.results; layout_results = f.layout_results; layout_deck = f.layout_deck; results_deck = f.results_deck }) in
    rw (h, c, bound_again d.bound f.bound, files) refl

-- a deck says at most one thing
pub one_first_form : (name : List ℕ) (deck : Deck) (d e : ServedDeck) → IsFirstForm name deck d → IsFirstForm name deck e → d ≡ e
one_first_form name deck d e p q = same_Some d e (sym (served_again name deck d p) ∙ served_again name deck e q)

-- each deck is of the first form, or isn't
each_by : (name : List ℕ) (deck : Deck) (o : Option ServedDeck) → served_in name deck.statements ≡ o
    → ((d : ServedDeck) × IsFirstForm name deck d) ⊎ ((d : ServedDeck) → IsFirstForm name deck d → ⊥)
each_by name deck None e = inr (λ d f. none-some d (sym e ∙ served_again name deck d f))
each_by name deck (Some d) e = inl (d, served_takes name deck d e)

pub each_deck : (name : List ℕ) (deck : Deck) → ((d : ServedDeck) × IsFirstForm name deck d) ⊎ ((d : ServedDeck) → IsFirstForm name deck d → ⊥)
each_deck name deck = each_by name deck (served_in name deck.statements) refl

-- ---- what the reader answers

-- the steps of reading together
pub served_reads : (name : List ℕ) (statements : List Statement) (p : Parts) (o : Bool) → parts_in statements ≡ Some p → choice_of p.first p.second p.check.input ≡ Some o
    → is_bound p.check.bound ≡ true → files_fit name p.head ≡ true → served_in name statements ≡ Some (deck_of p o)
unfolding served_in
served_reads name statements p o h c bound files = rw (h, c, bound, files) refl

pub option_map_some : {A B : Type 0} (f : A → B) (o : Option A) (y : B) → option_map f o ≡ Some y → (x : A) × (o ≡ Some x) × (f x ≡ y)
option_map_some f (Some x) y e = (x, refl, cc)
option_map_some f None y e = absurd cc

pub is_found : (name : List ℕ) (deck : Deck) (r : Option FirstDeck) → Reads r (served_in name deck.statements)
    → IfSome r (λ found. (d : ServedDeck) × IsFirstForm name deck d × IsReadingOf found d)
is_found name deck (Some f) h = (h.0, served_takes name deck h.0 h.1, h.2)
is_found name deck None h = tt

pub is_none : (name : List ℕ) (deck : Deck) (r : Option FirstDeck) → Reads r (served_in name deck.statements)
    → IfNone r ((d : ServedDeck) → IsFirstForm name deck d → ⊥)
is_none name deck (Some f) h = tt
is_none name deck None h = λ d f. none-some d (sym h ∙ served_again name deck d f)
