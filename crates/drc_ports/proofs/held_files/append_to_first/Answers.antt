use Rattle.std.proofs.Common.{◌∙◌, refl, is_ok}
use Rattle.drc_ports.proofs.Held.{grows}
use Rattle.drc_ports.proofs.Pieces.{appended}
use Rattle.drc_ports.proofs.held_files.append_to_first.Goals as goal

pub returns : goal.returns
returns c =
    grows _ c.index_mut.result.now _ _ c.requires c.index_mut.ensures.value refl (c.extend_from_slice.ensures.items ∙ appended (is_ok c.extend_from_slice.result) c.index_mut.result.now.bytes.items c.args.piece.now)
