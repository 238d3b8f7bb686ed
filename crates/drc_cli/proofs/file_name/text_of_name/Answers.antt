use Rattle.std.proofs.Common.{◌≡◌, true, false}
use Rattle.drc_cli.proofs.Names.{file_name_is_text}
use Rattle.drc_cli.proofs.file_name.text_of_name.Goals as goal

-- a file's name is a text
pub unreachable-requires : goal.unreachable-requires
unreachable-requires c =
    let never : false ≡ true = c.in-Err.ensures.succeeds (rw c.in_ok-bytes.ensures.items (file_name_is_text c.args.name.now c.requires)) in
    cc
