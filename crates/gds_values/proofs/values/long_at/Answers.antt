use Rattle.std.proofs.Common.{◌≡◌, ◌*◌, ◌-◌, List, ℕ, drop, take, ◌∙◌, ap, w32, length, arith, length-drop}
use Rattle.std.proofs.lemmas.Int.{to_z-of_z}
use Rattle.std.proofs.lemmas.List.{take_all}
use Rattle.std.specs.Int.{cast_signed}
use Rattle.byteorder.specs.Endian.{big_number}
use Rattle.gds_values.specs.Values.{long_at}
use Rattle.gds_values.proofs.values.long_at.Goals as goal

pub returns : goal.returns
unfolding long_at
returns c =
    let n = 4 * c.args.index in
    let rest = drop n c.args.body.now in
    let whole : take (length c.args.body.now - n) rest ≡ rest = take_all (length c.args.body.now - n) rest (omega (arith, length-drop n c.args.body.now)) in
    to_z-of_z w32 c.read_i32.result (record { sfits = c.read_i32.type_inv }) ∙ c.read_i32.ensures ∙ ap (λ (t : List ℕ). cast_signed w32 (big_number 4 t)) whole
