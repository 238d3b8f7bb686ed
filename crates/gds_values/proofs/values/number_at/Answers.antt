use Rattle.std.proofs.Common.{◌≡◌, ◌*◌, ◌-◌, List, ℕ, drop, take, ◌∙◌, ap, length, arith, length-drop}
use Rattle.std.proofs.lemmas.Int.{to_z-of_z}
use Rattle.std.proofs.lemmas.List.{take_all}
use Rattle.std.specs.Int.{cast_signed, w16}
use Rattle.byteorder.specs.Endian.{big_number}
use Rattle.gds_values.specs.Values.{number_at}
use Rattle.gds_values.proofs.values.number_at.Goals as goal

pub returns : goal.returns
unfolding number_at
returns c =
    let n = 2 * c.args.index in
    let rest = drop n c.args.body.now in
    let whole : take (length c.args.body.now - n) rest ≡ rest = take_all (length c.args.body.now - n) rest (omega (arith, length-drop n c.args.body.now)) in
    to_z-of_z w16 c.read_i16.result (record { sfits = c.read_i16.type_inv }) ∙ c.read_i16.ensures ∙ ap (λ (t : List ℕ). cast_signed w16 (big_number 2 t)) whole
