use Rattle.std.proofs.Common.{refl}
use Rattle.drc_cli.proofs.read.read_whole.Goals as goal

-- nothing was read yet
pub pieces-init : goal.pieces-init
pieces-init g c = record {
  buffer = c.in_ok-buffer.ensures;
  tally = refl;
  bytes = λ told. ((g.F.Files.contents c.args.files.now).left, rw c.new-bytes.ensures.items refl, refl);
}
