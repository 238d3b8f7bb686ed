use Rattle.std.proofs.Common.{◌-◌, length, arith}
use Rattle.std.proofs.lemmas.Option.{slice_get-get_or}
use Rattle.deck_order.proofs.Lasts.{at_last, written_last}
use Rattle.deck_order.proofs.look.go_past.Goals as goal

pub overflow_add-path : goal.overflow_add-path
overflow_add-path c =
    let l = c.requires.room _ (at_last c.args.path.now (record { definition = 0; at = 0; next = 0 }) c.requires.way) in
    omega arith

pub returns : goal.returns
returns c =
    let way = c.requires.way in
    written_last c.args.path.now _ way (slice_get-get_or c.args.path.now (length c.args.path.now - 1) (record { definition = 0; at = 0; next = 0 }) (omega arith))
