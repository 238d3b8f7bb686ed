use Rattle.gds_library.proofs.Endings.{ends_with_endlib}
use Rattle.gds_library.proofs.laws.endlib_ends_a_stream.Goals as goal

pub returns : goal.returns
returns c = λ items last builder is follows. ends_with_endlib c.slots_are_of_fronts.ensures.whole items last is follows.checked.fine.front
