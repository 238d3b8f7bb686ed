use Rattle.std.proofs.Common.{sym, ap, ◌∙◌}
use Rattle.deck_printer.specs.Canonical.{canonical}
use Rattle.deck_round.proofs.PlacesOfLayers.{places_not_printed}
use Rattle.deck_round.proofs.laws.places_are_not_printed.Goals as goal

pub returns : goal.returns
returns c = λ a b same. sym (places_not_printed a) ∙ ap canonical same ∙ places_not_printed b
