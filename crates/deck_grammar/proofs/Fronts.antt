-- Each front of what some parts spell can be completed, and each front of a deck is one.
use Rattle.std.proofs.Common.{◌≡◌, List, [], ◌∷◌, ◌++◌, refl, subst, ap}
use Rattle.std.proofs.Common.{inl, inr}
use Rattle.deck_tree.specs.declared.statement.Statement.{Statement}
use Rattle.deck_grammar.specs.Lexemes.{Lexeme, lexeme}
use Rattle.deck_grammar.specs.Rules.{Rule, statements, Tree, Part, rule, Meaning}
use Rattle.deck_grammar.specs.Alternatives.{production}
use Rattle.deck_grammar.specs.Spelling.{Spells, done, take, choose, SpellsDeck, Front, nothing, one_more, within, past, Viable}
use Rattle.deck_grammar.proofs.Cuts.{Joins, joined, one, joins, cut}
use Rattle.deck_grammar.proofs.Examples.{longer, all_spelled, examples, Completes}

-- what comes behind a front
pub record Remains (front whole : List Lexeme) : Type 0 where
  pub more : List Lexeme
  pub joined_as : Joins front more whole

pub remains : {front more whole : List Lexeme} → Joins front more whole → {after longest : List Lexeme} → Joins whole after longest
    → Remains front longest
remains joined k = record { more = _; joined_as = joined }
remains (one j) (one k) = let m = remains j k in record { more = m.more; joined_as = one m.joined_as }

pub complete : {parts : List Part} {tokens : List Lexeme} → Front parts tokens → {r : Rule} (meaning : Meaning parts (Tree r))
    → Completes r parts meaning tokens
complete (nothing {parts = parts}) meaning =
    let s = all_spelled parts (examples parts) meaning in
    record { more = s.tokens; whole = s.tokens; tree = s.tree; joined_as = joined; spelled = s.spelled }
complete (one_more {k = k} {at = at} {bytes = bytes} f) meaning =
    let c = complete f (meaning (lexeme k at bytes)) in
    record { more = c.more; whole = lexeme k at bytes ∷ c.whole; tree = c.tree; joined_as = one c.joined_as; spelled = take c.spelled }
complete (within {parts = parts} a f) meaning =
    let c = complete f (production a).tree in
    let s = all_spelled parts (examples parts) (meaning c.tree) in
    let w = longer c.spelled (joined {more = s.tokens}) in
    let m = remains c.joined_as w.joined_as in
    record { more = m.more; whole = w.whole; tree = s.tree; joined_as = m.joined_as; spelled = choose a w.spelled s.spelled }
complete (past a s f) {r} meaning =
    let c = complete f (meaning _) in
    let w = longer s c.joined_as in
    record { more = c.more; whole = w.whole; tree = c.tree; joined_as = w.joined_as; spelled = choose a w.spelled c.spelled }

-- the whole is the two lists together
pub joins_is : {front more whole : List Lexeme} → Joins front more whole → whole ≡ front ++ more
joins_is joined = refl
joins_is (one {t = t} j) = ap (λ those. t ∷ those) (joins_is j)

whole_is_viable : {tokens : List Lexeme} {all : List Statement} → SpellsDeck tokens all → Viable tokens
whole_is_viable (choose a s done) = past a s nothing

nothing_behind : {front more : List Lexeme} → Joins front more [] → front ≡ []
nothing_behind joined = refl

-- a front of a deck is viable
pub front_is_viable : (tokens more : List Lexeme) (all : List Statement) → SpellsDeck (tokens ++ more) all → Viable tokens
front_is_viable tokens more all s = elim (cut s (joins tokens more)) [
  | inl f ↦ f
  | inr b ↦ whole_is_viable (let P : List Lexeme → Type 0 = λ those. Spells statements (rule statements ∷ []) (λ t. t) tokens those all in
      subst P (nothing_behind b.cut_at) b.spelled)
]

-- what is viable can be completed
pub viable_has_completion : (tokens : List Lexeme) → Viable tokens → (more : List Lexeme) × (all : List Statement) × SpellsDeck (tokens ++ more) all
viable_has_completion tokens f =
    let c = complete f {r = statements} (λ those. those) in
    (c.more, c.tree, (let P : List Lexeme → Type 0 = λ those. SpellsDeck those c.tree in subst P (joins_is c.joined_as) c.spelled))
