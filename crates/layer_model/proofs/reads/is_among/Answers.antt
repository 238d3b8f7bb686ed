use Rattle.std.proofs.Common.{◌∙◌}
use Rattle.layer_model.proofs.Among.{found_among}
use Rattle.layer_model.proofs.reads.is_among.Goals as goal

pub returns : goal.returns
returns c = c.is_ok.ensures.value ∙ found_among _ _ _ c.binary_search.ensures.position c.requires
