-- The stacks that a token leads to from one are listed.
use Rattle.std.proofs.Common.{◌≡◌, ℕ, zero, suc, ◌+◌, ◌≤◌, ◌⊎◌, inl, inr, Bool, true, false, List, [], ◌∷◌, ◌++◌, refl, sym, ap, subst, arith}
use Rattle.std.specs.Prelude.{if◌then◌else◌}
use Rattle.deck_grammar.specs.declared.kind.Kind.{Kind}
use Rattle.deck_grammar.specs.Lexemes.{Lexeme, lexeme, kind}
use Rattle.deck_grammar.specs.Rules.{Rule, Part, token, rule}
use Rattle.deck_grammar.specs.Alternatives.{Alternative, production}
use Rattle.deck_grammar.specs.Working.Numbers.{same_kind}
use Rattle.deck_grammar.proofs.Numbering.{same_is, is_same}
use Rattle.deck_stacks.specs.Stacks.{Among, here, later, Leads, off_the_top, opening}
use Rattle.deck_stacks.specs.Working.Tables.{alternatives, parts_of, may_be_empty, height}
use Rattle.deck_stacks.specs.Working.Deriving.{weight, derive}
use Rattle.deck_stacks.proofs.Members.{in_map, in_flat_map, from_flat_map, from_map}
use Rattle.deck_stacks.proofs.Listing.{listed, lighter}

pub there : {k : Kind} {from to : List Part} (n : ℕ) → weight from ≤ n → Leads k from to → Among to (derive n k from)
there {k} n light (off_the_top {parts = parts}) =
    let P : Bool → Type 0 = λ b. Among parts (if b then parts ∷ [] else []) in
    subst P (sym (is_same k k refl)) here
there zero light (opening a m) = absurd (omega arith)
there {k} (suc n) light (opening {q = q} {parts = parts} a m) =
    in_flat_map (λ these. derive n k (these ++ parts)) (parts_of q) (in_map (λ it. (production it).parts) (alternatives q) (listed a))
    (there n (omega (arith, lighter a parts)) m)

nothing_else : {parts stack : List Part} (b : Bool) → Among stack (if b then parts ∷ [] else []) → (b ≡ true) × (parts ≡ stack)
nothing_else true here = (refl, refl)
nothing_else true (later m) = elim m [ ]
nothing_else false m = elim m [ ]

pub no_other : (n : ℕ) (k : Kind) (from to : List Part) → Among to (derive n k from) → Leads k from to
no_other n k [] to m = elim m [ ]
no_other n k (token k' ∷ parts) to m =
    let is = nothing_else (same_kind k' k) m in
    let P : List Part → Type 0 = λ those. Leads k (token k' ∷ parts) those in
    let Q : Kind → Type 0 = λ x. Leads k (token x ∷ parts) parts in
    subst P is.1 (subst Q (sym (same_is k' k is.0)) off_the_top)
no_other zero k (rule q ∷ parts) to m = elim m [ ]
no_other (suc n) k (rule q ∷ parts) to m =
    let w = from_flat_map (λ these. derive n k (these ++ parts)) (parts_of q) m in
    let v = from_map (λ it. (production it).parts) (alternatives q) w.1 in
    let P : List Part → Type 0 = λ these. Leads k (these ++ parts) to in
    opening v.0 (subst P (sym v.2) (no_other n k (w.0 ++ parts) to w.2))
