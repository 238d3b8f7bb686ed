use Rattle.std.proofs.Common.{◌≡◌, ◌*◌, ◌-◌, List, ℕ, drop, take, ◌∙◌, ap, w32, w64, length, arith, length-drop}
use Rattle.std.proofs.lemmas.Int.{to_z-of_z}
use Rattle.std.proofs.lemmas.List.{take_all}
use Rattle.std.specs.Int.{cast_signed}
use Rattle.byteorder.specs.Endian.{big_number}
use Rattle.drc_cli.specs.Layout.{coordinate}
use Rattle.drc_cli.proofs.layout.outline.coordinate.Goals as goal

pub returns : goal.returns
unfolding coordinate
returns c =
    let n = 4 * c.args.index in
    let rest = drop n c.args.body.now in
    let whole : take (length c.args.body.now - n) rest ≡ rest = take_all (length c.args.body.now - n) rest (omega (arith, length-drop n c.args.body.now)) in
    let wide = to_z-of_z w64 c.from.result (record { sfits = c.from.type_inv }) in
    let narrow = to_z-of_z w32 c.read_i32.result (record { sfits = c.read_i32.type_inv }) in
    wide ∙ c.from.ensures ∙ narrow ∙ c.read_i32.ensures ∙ ap (λ (t : List ℕ). cast_signed w32 (big_number 4 t)) whole
