-- The chunks in which a list lies.
use Rattle.std.specs.Prelude.{◌<◌, List, length}
use Rattle.std.specs.List.{AllByRecursion, flat_map}
use Rattle.std.specs.Global.{Vec}

-- the items of all chunks, one after the other
abbrev pub joined : {X : Type 0} → List (Vec X) → List X
joined {X} = flat_map (λ (chunk : Vec X). chunk.items)

-- no chunk is empty
abbrev pub AreFull : {X : Type 0} → List (Vec X) → Type 0
AreFull {X} = AllByRecursion (λ (chunk : Vec X). 0 < length chunk.items)
