-- What is spelled between two places is spelled by the list of tokens between them.
use Rattle.std.proofs.Common.{◌≡◌, ℕ, List, [], ◌∷◌, drop, append-nil, Option, Some, None, Result, Ok, Err, refl, ap, sym, subst, ◌∙◌}
use Rattle.deck_lexer.specs.declared.token.Token.{Token}
use Rattle.deck_lexer.specs.declared.token.LexFault.{LexFault}
use Rattle.deck_lexer.specs.Tokens.{Comes, Lexes, lexes}
use Rattle.deck_grammar.specs.declared.kind.Kind.{Kind}
use Rattle.deck_grammar.specs.Lexemes.{Lexeme, lexeme, kind}
use Rattle.deck_grammar.specs.Rules.{Rule, statements, Tree, Part, token, rule, Meaning}
use Rattle.deck_grammar.specs.Spelling.{Spells, done, take, choose, SpellsDeck}
use Rattle.deck_grammar.specs.declared.kind.Kind.TheVariants as kinds
use Rattle.deck_grammar.specs.declared.sign.Sign.TheVariants as signs
use Rattle.deck_tree.specs.WellFormed.{most_nested}
use Rattle.deck_grammar.specs.Refusals.{open_behind, Stand}
use Rattle.deck_grammar.proofs.Fronts.{front_is_viable}
use Rattle.deck_cursor.specs.Places.{lexeme_of, lexemes, Place, start_of, Takes}
use Rattle.deck_tree.specs.declared.statement.Statement.{Statement}
use Rattle.deck_grammar.specs.Alternatives.{production}
use Rattle.deck_cursor.specs.Decks.{IsDeckOf}
use Rattle.deck_cursor.specs.Steps.{Steps, ended, taken, chosen, Reads}
use Rattle.deck_cursor.proofs.Rounds.{Shallow, none_too_deep}

record Listed (r : Rule) (parts : List Part) (meaning : Meaning parts (Tree r)) (from to : Place) (tree : Tree r)
    (more : List Token) (last : Result (Option Token) LexFault) : Type 0 where
  whole : List Token
  lexing : Lexes from.text from.at whole last
  spelled : Spells r parts meaning (lexemes from.text whole) (lexemes from.text more) tree
  same_text : to.text ≡ from.text
  shallow : Shallow to.brackets (lexemes from.text more) → Shallow from.brackets (lexemes from.text whole)

ended_as : {r : Rule} {meaning tree : Tree r} {tokens : List Lexeme} → tree ≡ meaning → Spells r [] meaning tokens tokens tree
ended_as {r} {meaning} {tree} {tokens} e = let P : Tree r → Type 0 = λ t. Spells r [] meaning tokens tokens t in subst P (sym e) done

taken_as : {r : Rule} {k : Kind} {parts : List Part} {meaning : Lexeme → Meaning parts (Tree r)} {tokens rest : List Lexeme} {tree : Tree r} (t u : Lexeme)
    → t ≡ u → kind t ≡ k → Spells r parts (meaning t) tokens rest tree → Spells r (token k ∷ parts) meaning (u ∷ tokens) rest tree
taken_as {r} {k} {parts} {meaning} {tokens} {rest} {tree} t (lexeme k' at bytes) e is s =
    let P : Lexeme → Type 0 = λ x. Spells r parts (meaning x) tokens rest tree in
    let Q : Kind → Type 0 = λ x. Spells r (token x ∷ parts) meaning (lexeme k' at bytes ∷ tokens) rest tree in
    subst Q (sym (ap kind e) ∙ is) (take (subst P e s))

listed : {r : Rule} {parts : List Part} {meaning : Meaning parts (Tree r)} {from to : Place} {tree : Tree r} → Steps r parts meaning from to tree
    → (more : List Token) (last : Result (Option Token) LexFault) → Lexes to.text to.at more last
    → Listed r parts meaning from to tree more last
listed (ended e) more last lexing = record { whole = more; lexing = lexing; spelled = ended_as e; same_text = refl; shallow = λ h. h }
listed {from = from} {to = to} {tree = tree} (taken {r = r} {parts = parts} {meaning = meaning} t takes is s) more last lexing =
    let l = listed s more last lexing in
    let L : Place → Type 0 = λ p. Lexes p.text p.at l.whole last in
    let S : Place → Type 0 = λ p. Spells r parts (meaning t) (lexemes p.text l.whole) (lexemes p.text more) tree in
    let D : Place → Type 0 = λ p. Shallow to.brackets (lexemes p.text more) → Shallow p.brackets (lexemes p.text l.whole) in
    let E : Place → Type 0 = λ p. to.text ≡ p.text in
    let O : Lexeme → Type 0 = λ x. Shallow to.brackets (lexemes from.text more) → Shallow (open_behind from.brackets (x ∷ [])) (lexemes from.text l.whole) in
    let B : Lexeme → Type 0 = λ x. kind x ≡ kinds.Sign signs.LeftRound → from.brackets ≡ most_nested → ⊥ in
    record {
      whole = takes.token ∷ l.whole;
      lexing = (takes.comes, subst L takes.behind l.lexing);
      spelled = taken_as t (lexeme_of from.text takes.token) takes.is is (subst S takes.behind l.spelled);
      same_text = subst E takes.behind l.same_text;
      shallow = λ h. (subst B takes.is takes.not_too_deep, subst O takes.is (subst D takes.behind l.shallow) h);
    }
listed {from = from} {to = to} {tree = tree} (chosen {r = r} {parts = parts} {meaning = meaning} {between = between} {part = part} a s others) more last lexing =
    let o = listed others more last lexing in
    let l = listed s o.whole last o.lexing in
    let S : List ℕ → Type 0 = λ text. Spells r parts (meaning part) (lexemes text o.whole) (lexemes text more) tree in
    let D : List ℕ → Type 0 = λ text. Shallow to.brackets (lexemes text more) → Shallow between.brackets (lexemes text o.whole) in
    record {
      whole = l.whole;
      lexing = l.lexing;
      spelled = choose a l.spelled (subst S l.same_text o.spelled);
      same_text = o.same_text ∙ l.same_text;
      shallow = λ h. l.shallow (subst D l.same_text o.shallow h);
    }

-- what is read from the start of a text to its end is its deck
pub read_to_the_end : (text : List ℕ) (from to : Place) (all : List Statement) → from ≡ start_of text → Reads statements from to all
    → Comes to.at (drop to.at to.text) (Ok None) → IsDeckOf text all
read_to_the_end text from to all start reads comes =
    let l = listed reads.steps [] (Ok None) comes in
    let L : Place → Type 0 = λ p. Lexes p.text p.at l.whole (Ok None) in
    let S : Place → Type 0 = λ p. Spells statements (production reads.alternative).parts (production reads.alternative).tree (lexemes p.text l.whole) [] all in
    let D : Place → Type 0 = λ p. Shallow p.brackets (lexemes p.text l.whole) in
    let spelled : SpellsDeck (lexemes text l.whole) all = choose reads.alternative (subst S start l.spelled) done in
    record {
      tokens = l.whole;
      lexing = subst L start l.lexing;
      spelled = spelled;
      stand = (
        front_is_viable (lexemes text l.whole) [] all (subst (λ those. SpellsDeck those all) (sym (append-nil (lexemes text l.whole))) spelled),
        none_too_deep (lexemes text l.whole) (subst D start (l.shallow tt)),
      );
    }
