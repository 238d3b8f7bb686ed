-- The deck of a text is well formed.
use Rattle.std.proofs.Common.{◌≡◌, ℕ, suc, ◌≤◌, List, [], ◌∷◌, ◌++◌, length, Ok, None, refl, sym, ap, subst, ◌∙◌, arith, append_assoc}
use Rattle.deck_tree.specs.declared.deck.Deck.{Deck}
use Rattle.deck_tree.specs.declared.statement.Statement.{Statement}
use Rattle.deck_tree.specs.WellFormed.{IsWellFormed, most_nested}
use Rattle.deck_lexer.specs.Sizes.{longest_deck}
use Rattle.deck_grammar.specs.declared.sign.Sign.TheVariants as s
use Rattle.deck_grammar.specs.declared.kind.Kind.{Kind}
use Rattle.deck_grammar.specs.declared.kind.Kind.TheVariants as kinds
use Rattle.deck_grammar.specs.Lexemes.{Lexeme, lexeme}
use Rattle.deck_grammar.specs.Refusals.{open_behind, IsTooDeep}
use Rattle.deck_grammar.specs.Rules as r
use Rattle.deck_grammar.specs.Spelling.{Spells, done, take, choose}
use Rattle.deck_cursor.specs.Places.{lexemes}
use Rattle.deck_cursor.specs.Decks.{IsDeckOf}
use Rattle.deck_cursor.proofs.Rounds.{Shallow, one_by_one}
use Rattle.deck_refusal.specs.Refused.{IsTextAccepted}
use Rattle.deck_printer.specs.Canonical.{canonical}
use Rattle.deck_round.specs.Alike.{AreAlike}
use Rattle.deck_round.proofs.Said.{AllSaid, all_said}
use Rattle.deck_round.proofs.Made.{Good, Makes, good_by}
use Rattle.deck_round.proofs.Accepted.{accepted}

-- no more are open behind a token than may be
still_below : (k : Kind) (at : ℕ) (bytes : List ℕ) (n : ℕ) → n ≤ most_nested → (k ≡ kinds.Sign s.LeftRound → n ≡ most_nested → ⊥) → open_behind n (lexeme k at bytes ∷ []) ≤ most_nested
still_below (kinds.Keyword w) at bytes n below fine = below
still_below kinds.SetAside at bytes n below fine = below
still_below kinds.Name at bytes n below fine = below
still_below kinds.Number at bytes n below fine = below
still_below kinds.Text at bytes n below fine = below
still_below kinds.Note at bytes n below fine = below
still_below (kinds.Sign s.LeftRound) at bytes n below fine = let other : n ≡ most_nested → ⊥ = fine refl in omega (arith, below, other)
still_below (kinds.Sign s.RightRound) at bytes n below fine = omega (arith, below)
still_below (kinds.Sign s.LeftBrace) at bytes n below fine = below
still_below (kinds.Sign s.RightBrace) at bytes n below fine = below
still_below (kinds.Sign s.LeftSquare) at bytes n below fine = below
still_below (kinds.Sign s.RightSquare) at bytes n below fine = below
still_below (kinds.Sign s.Equals) at bytes n below fine = below
still_below (kinds.Sign s.EqualTo) at bytes n below fine = below
still_below (kinds.Sign s.Less) at bytes n below fine = below
still_below (kinds.Sign s.LessOrEqual) at bytes n below fine = below
still_below (kinds.Sign s.Greater) at bytes n below fine = below
still_below (kinds.Sign s.GreaterOrEqual) at bytes n below fine = below
still_below (kinds.Sign s.NotEqual) at bytes n below fine = below
still_below (kinds.Sign s.Plus) at bytes n below fine = below
still_below (kinds.Sign s.Minus) at bytes n below fine = below
still_below (kinds.Sign s.Times) at bytes n below fine = below
still_below (kinds.Sign s.Over) at bytes n below fine = below
still_below (kinds.Sign s.Modulo) at bytes n below fine = below
still_below (kinds.Sign s.Power) at bytes n below fine = below

strictly : (n : ℕ) → n ≤ most_nested → (n ≡ most_nested → ⊥) → suc n ≤ most_nested
strictly n below other = omega (arith, below, other)

-- what is spelled by good parts is good
good_spelled : {q : r.Rule} {parts : List r.Part} {meaning : r.Meaning parts (r.Tree q)} {tokens rest : List Lexeme} {tree : r.Tree q} → Spells q parts meaning tokens rest tree
    → (base now : ℕ) → now ≤ most_nested → AllSaid tokens → Shallow now tokens → Makes q base now parts meaning → Good q base tree × AllSaid rest × Shallow base rest
good_spelled {rest = rest} done base now below all shallow makes = (makes.1, all, subst (λ (k : ℕ). Shallow k rest) makes.0 shallow)
good_spelled (take {k = k} {at = at} {bytes = bytes} more) base now below all shallow makes =
    good_spelled more base (open_behind now (lexeme k at bytes ∷ [])) (still_below k at bytes now below shallow.0) all.1 shallow.1 (makes at bytes all.0 (λ is. strictly now below (shallow.0 is)))
good_spelled (choose {part = part} a first more) base now below all shallow makes =
    let it = good_spelled first now now below all shallow (good_by a now below) in
    good_spelled more base now below it.1 it.2 (makes part it.0)

open_then : (n : ℕ) (those more : List Lexeme) → open_behind n (those ++ more) ≡ open_behind (open_behind n those) more
open_then n [] more = refl
open_then n (t ∷ those) more = one_by_one n t (those ++ more) ∙ open_then (open_behind n (t ∷ [])) those more ∙ ap (λ (k : ℕ). open_behind k more) (sym (one_by_one n t those))

shallow_behind : (before tokens all : List Lexeme) → all ≡ before ++ tokens
    → ((front : List Lexeme) (token : Lexeme) (behind : List Lexeme) → all ≡ front ++ token ∷ behind → IsTooDeep front token → ⊥) → Shallow (open_behind 0 before) tokens
shallow_behind before [] all whole none = tt
shallow_behind before (t ∷ tokens) all whole none =
    let rest : Shallow (open_behind 0 (before ++ t ∷ [])) tokens = shallow_behind (before ++ t ∷ []) tokens all (whole ∙ sym (append_assoc before (t ∷ []) tokens)) none in
    (λ is full. none before t tokens whole (is, full), subst (λ (k : ℕ). Shallow k tokens) (open_then 0 before (t ∷ [])) rest)

pub formed_deck : (text : List ℕ) (deck : Deck) → IsDeckOf text deck.statements → IsWellFormed deck
formed_deck text deck spelled =
    let those = lexemes text spelled.tokens in
    let all : AllSaid (lexemes text spelled.tokens) = all_said text 0 spelled.tokens (Ok None) spelled.lexing in
    let shallow : Shallow 0 (lexemes text spelled.tokens) = shallow_behind [] (lexemes text spelled.tokens) (lexemes text spelled.tokens) refl spelled.stand.1 in
    let none : 0 ≤ most_nested = omega arith in
    let it = good_spelled spelled.spelled 0 0 none all shallow (λ part good. (refl, good)) in
    record { statements = it.0.is; nesting = omega (arith, it.0.room) }

pub accepted_again : (text : List ℕ) (deck : Deck) → IsTextAccepted text deck.statements → length (canonical deck) ≤ longest_deck
    → (read : List Statement) × IsTextAccepted (canonical deck) read × AreAlike read deck.statements
accepted_again text deck is size =
    let spelled : IsDeckOf text deck.statements = record { tokens = is.tokens; lexing = is.lexing; spelled = is.accepted.spelled; stand = is.accepted.stand } in
    accepted deck (formed_deck text deck spelled) size is.accepted.wanted_stand is.accepted.stand_once
