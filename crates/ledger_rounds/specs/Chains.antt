-- The wiring of the tests' chain: operations 0, 1 and 2, each of which reads the one before, and the last is reported.
use Rattle.std.specs.Prelude.{true, false, List, [], ◌∷◌, None, Some}
use Rattle.layer_model.specs.declared.wiring.Wire.{Wire}

abbrev pub chain_wires : List Wire
chain_wires =
    record { first = None; second = None; reported = false }
    ∷ (record { first = Some 0; second = None; reported = false } ∷ (record { first = Some 1; second = None; reported = true } ∷ []))
