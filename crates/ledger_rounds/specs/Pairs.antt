-- The wiring of the tests' pair: operations 0 and 1 read nothing, and operation 2 reads both and is reported.
use Rattle.std.specs.Prelude.{true, false, List, [], ◌∷◌, None, Some}
use Rattle.layer_model.specs.declared.wiring.Wire.{Wire}

abbrev pub pair_wires : List Wire
pair_wires =
    record { first = None; second = None; reported = false }
    ∷ (record { first = None; second = None; reported = false } ∷ (record { first = Some 0; second = Some 1; reported = true } ∷ []))
