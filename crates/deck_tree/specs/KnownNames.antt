-- What variables say of a name.
use Rattle.std.specs.Prelude.{ℕ, List, nat_eq}
use Rattle.std.specs.Cmp.Lexicographic.{pointwise}
use Rattle.std.specs.HashMap.{get_by}
use Rattle.deck_tree.specs.Names.{Names}
use Rattle.deck_tree.specs.declared.vars.Vars.{Vars}

-- what is known of a name: what stands under the key with its bytes
abbrev pub names_of : Vars → Names
names_of vars name = get_by (λ key. pointwise nat_eq name key.items) vars.table
