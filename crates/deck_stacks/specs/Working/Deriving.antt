-- The stacks that a token leads to.
use Rattle.std.specs.Prelude.{ℕ, zero, suc, ◌+◌, ◌*◌, length, ◌&&◌, Bool, true, false, List, [], ◌∷◌, ◌++◌, if◌then◌else◌}
use Rattle.std.specs.List.{flat_map}
use Rattle.deck_grammar.specs.declared.kind.Kind.{Kind}
use Rattle.deck_grammar.specs.Rules.{Rule, Part, token, rule}
use Rattle.deck_grammar.specs.Working.Numbers.{same_kind}
use Rattle.deck_stacks.specs.Working.Tables.{parts_of, may_be_empty, height}

-- how often a rule can be opened before a token stands first
abbrev pub weight : List Part → ℕ
weight [] = 0
weight (token k ∷ more) = 0
weight (rule q ∷ more) = suc (height q) + (if may_be_empty q then weight more else 0)

-- what is left of the stack behind a token of this kind, in each way, where rules are opened no more than so often
abbrev pub derive : ℕ → Kind → List Part → List (List Part)
derive n k [] = []
derive n k (token k' ∷ more) = if same_kind k' k then more ∷ [] else []
derive zero k (rule q ∷ more) = []
derive (suc n) k (rule q ∷ more) = flat_map (λ parts. derive n k (parts ++ more)) (parts_of q)

-- no part is a token, and each rule may spell nothing
abbrev pub all_empty : List Part → Bool
all_empty [] = true
all_empty (token k ∷ more) = false
all_empty (rule q ∷ more) = may_be_empty q && all_empty more

-- the stacks that a token of this kind leads to, from all of these
abbrev pub derive_all : Kind → List (List Part) → List (List Part)
derive_all k stacks = flat_map (λ stack. derive (4 * length stack) k stack) stacks
