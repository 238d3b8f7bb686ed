-- The stacks behind a token more, and what they say of the tokens.
use Rattle.std.proofs.Common.{◌≡◌, ℕ, zero, suc, ◌+◌, ◌*◌, ◌≤◌, ◌||◌, ◌⊎◌, inl, inr, Bool, true, false, List, [], ◌∷◌, ◌++◌, length, refl, sym, ap, subst, ◌∙◌, append_assoc, append-nil, arith, lit≤}
use Rattle.std.proofs.lemmas.Bool.{cases_Bool}
use Rattle.std.specs.Prelude.{if◌then◌else◌}
use Rattle.std.specs.List.{flat_map}
use Rattle.deck_tree.specs.declared.statement.Statement.{Statement}
use Rattle.deck_grammar.specs.declared.kind.Kind.{Kind}
use Rattle.deck_grammar.specs.Lexemes.{Lexeme, lexeme}
use Rattle.deck_grammar.specs.Rules as r
use Rattle.deck_grammar.specs.Rules.{Rule, statements, Part, token, rule}
use Rattle.deck_grammar.specs.Spelling.{SpellsDeck, Viable}
use Rattle.deck_stacks.specs.Stacks.{Among, here, later, Empties, by_none, Leads, off_the_top, opening, AreNext, End, anywhere, whole, MayEnd, Fits, ends, one, via, Behind}
use Rattle.deck_stacks.specs.Working.Tables.{may_be_empty, height}
use Rattle.deck_stacks.specs.Working.Deriving.{weight, derive, all_empty, derive_all}
use Rattle.deck_stacks.proofs.Members.{in_flat_map, from_flat_map}
use Rattle.deck_stacks.proofs.Derived.{there, no_other}
use Rattle.deck_stacks.proofs.Fitting.{viable_fits, deck_fits, fits_front, fits_deck}
use Rattle.deck_stacks.proofs.Emptying.{empties_all, all_empties}

-- ---- A stack opens no rule more often than four times its length

low : (q : Rule) → height q ≤ 3
low r.statements = lit≤ tt
low r.statement = lit≤ tt
low r.file = lit≤ tt
low r.names = lit≤ tt
low r.numbers = lit≤ tt
low r.ascii = lit≤ tt
low r.mode = lit≤ tt
low r.map_kind = lit≤ tt
low r.items = lit≤ tt
low r.value = lit≤ tt
low r.addends = lit≤ tt
low r.product = lit≤ tt
low r.factors = lit≤ tt
low r.power = lit≤ tt
low r.exponent = lit≤ tt
low r.atom = lit≤ tt
low r.layer = lit≤ tt
low r.operations = lit≤ tt
low r.infix_operation = lit≤ tt
low r.primary = lit≤ tt
low r.term = lit≤ tt
low r.limits = lit≤ tt
low r.upper = lit≤ tt
low r.bound = lit≤ tt
low r.turn = lit≤ tt
low r.side = lit≤ tt
low (r.distance kind) = lit≤ tt
low (r.options those) = lit≤ tt

at_most : (b : Bool) (n : ℕ) → (if b then n else 0) ≤ n
at_most true n = omega arith
at_most false n = omega arith

light : (stack : List Part) → weight stack ≤ 4 * length stack
light [] = omega arith
light (token k ∷ more) = omega arith
light (rule q ∷ more) = omega (arith, low q, light more, at_most (may_be_empty q) (weight more))

-- ---- Behind a token more

pub at_first : Behind [] ((rule statements ∷ []) ∷ [])
at_first = record { sound = only; complete = λ end tokens f. (rule statements ∷ [], here, f) }
  where
    only : (end : End) (stack : List Part) (tokens : List Lexeme) → Among stack ((rule statements ∷ []) ∷ []) → Fits end stack tokens
        → Fits end (rule statements ∷ []) tokens
    only end _ tokens here f = f
    only end stack tokens (later m) f = elim m [ ]

leads_back : {end : End} {k : Kind} (at : ℕ) (bytes : List ℕ) {from to : List Part} {tokens : List Lexeme} → Leads k from to → Fits end to tokens
    → Fits end from (lexeme k at bytes ∷ tokens)
leads_back at bytes off_the_top f = one f
leads_back at bytes (opening a m) f = via a (leads_back at bytes m f)

record Led (end : End) (k : Kind) (from : List Part) (tokens : List Lexeme) : Type 0 where
  to : List Part
  leads : Leads k from to
  fits : Fits end to tokens

leads_on : {end : End} {k : Kind} {at : ℕ} {bytes : List ℕ} {from : List Part} {tokens : List Lexeme} → Fits end from (lexeme k at bytes ∷ tokens)
    → Led end k from tokens
leads_on (one {parts = parts} f) = record { to = parts; leads = off_the_top; fits = f }
leads_on (via a f) = let l = leads_on f in record { to = l.to; leads = opening a l.leads; fits = l.fits }

pub behind_more : (before : List Lexeme) (stacks next : List (List Part)) (k : Kind) (at : ℕ) (bytes : List ℕ) → AreNext k stacks next → Behind before stacks
    → Behind (before ++ lexeme k at bytes ∷ []) next
behind_more before stacks next k at bytes are b = record {
  sound = λ end stack tokens m f.
      let w = are.no_others stack m in
      let P : List Lexeme → Type 0 = λ those. Fits end (rule statements ∷ []) those in
      subst P (sym (append_assoc before (lexeme k at bytes ∷ []) tokens)) (b.sound end w.0 (lexeme k at bytes ∷ tokens) w.1 (leads_back at bytes w.2 f));
  complete = λ end tokens f.
      let P : List Lexeme → Type 0 = λ those. Fits end (rule statements ∷ []) those in
      let c = b.complete end (lexeme k at bytes ∷ tokens) (subst P (append_assoc before (lexeme k at bytes ∷ []) tokens) f) in
      let l = leads_on c.2 in
      (l.to, are.all_there c.0 l.to c.1 l.leads, l.fits);
}

pub are_derived : (k : Kind) (stacks : List (List Part)) → AreNext k stacks (derive_all k stacks)
are_derived k stacks = record {
  no_others = λ to m.
      let w = from_flat_map (λ those. derive (4 * length those) k those) stacks m in
      (w.0, w.1, no_other (4 * length w.0) k w.0 to w.2);
  all_there = λ from to m leads. in_flat_map (λ those. derive (4 * length those) k those) stacks m (there (4 * length from) (light from) leads);
}

pub some_next : (k : Kind) (stacks : List (List Part)) → (next : List (List Part)) × AreNext k stacks next
some_next k stacks = (derive_all k stacks, are_derived k stacks)

-- ---- What the stacks say

at_nothing : {end : End} (before : List Lexeme) → Fits end (rule statements ∷ []) before → Fits end (rule statements ∷ []) (before ++ [])
at_nothing {end} before f = let P : List Lexeme → Type 0 = λ those. Fits end (rule statements ∷ []) those in subst P (sym (append-nil before)) f

from_nothing : {end : End} (before : List Lexeme) → Fits end (rule statements ∷ []) (before ++ []) → Fits end (rule statements ∷ []) before
from_nothing {end} before f = let P : List Lexeme → Type 0 = λ those. Fits end (rule statements ∷ []) those in subst P (append-nil before) f

no_member : {X : Type 0} {x : X} → Among x [] → ⊥
no_member m = elim m [ ]

pub viable_has_stacks : (before : List Lexeme) → Behind before [] → Viable before → ⊥
viable_has_stacks before b v = no_member (b.complete anywhere [] (at_nothing before (viable_fits v))).1

pub stacks_are_viable : (before : List Lexeme) (stack : List Part) (others : List (List Part)) → Behind before (stack ∷ others) → Viable before
stacks_are_viable before stack others b = fits_front (from_nothing before (b.sound anywhere stack [] here (ends tt)))

pub ends_as_deck : (before : List Lexeme) (stacks : List (List Part)) (stack : List Part) → Behind before stacks → Among stack stacks → Empties stack
    → (all : List Statement) × SpellsDeck before all
ends_as_deck before stacks stack b m e = fits_deck (from_nothing before (b.sound whole stack [] m (ends e)))

stops : {stack : List Part} → Fits whole stack [] → Empties stack
stops (ends h) = h
stops (via a f) = by_none a (stops f)

pub deck_may_end : (before : List Lexeme) (all : List Statement) (stacks : List (List Part)) → Behind before stacks → SpellsDeck before all
    → (stack : List Part) × Among stack stacks × Empties stack
deck_may_end before all stacks b s =
    let c = b.complete whole [] (at_nothing before (deck_fits s)) in (c.0, c.1, stops c.2)

pub decided : (stack : List Part) → Empties stack ⊎ (Empties stack → ⊥)
decided stack = elim (cases_Bool (all_empty stack)) [
  | inl is ↦ inl (all_empties stack is)
  | inr is ↦ inr (λ e. let no : false ≡ true = sym is ∙ empties_all e in absurd (cc))
]
