-- What is found in a deck of the first form: the fields of what the deck says.
use Rattle.std.specs.Prelude.{◌≡◌}
use Rattle.first_form.specs.declared.served.FirstDeck.{FirstDeck}
use Rattle.first_form.specs.FirstForm.{ServedDeck, input_of, units_of}

-- each field is that of the deck
pub record IsReadingOf (found : FirstDeck) (d : ServedDeck) : Type 0 where
  pub layout : found.layout.now ≡ d.layout
  pub primary : found.primary.now ≡ d.primary
  pub results : found.results.now ≡ d.results
  pub check : found.check.now ≡ d.check
  pub note : found.note.now ≡ d.note
  pub number : found.number ≡ (input_of d).number
  pub bound : found.bound ≡ units_of d.bound
