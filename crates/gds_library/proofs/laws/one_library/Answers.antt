use Rattle.gds_library.proofs.Readings.{stream_read}
use Rattle.gds_library.proofs.Drafting.{one_says}
use Rattle.gds_library.proofs.laws.one_library.Goals as goal

pub returns : goal.returns
returns c = record { one = one_says; some = stream_read }
