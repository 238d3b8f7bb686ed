-- The canonical text of a deck that lacks nothing is accepted.
use Rattle.std.proofs.Common.{◌≡◌, ◌≤◌, List, [], ◌∷◌, ◌++◌, map, length, Contains, Some, refl, sym, ap, subst, ◌∙◌}
use Rattle.deck_tree.specs.declared.statement.Statement.{Statement}
use Rattle.deck_tree.specs.declared.statement.Statement.TheVariants as statement
use Rattle.deck_tree.specs.declared.refusal.Single.{Single}
use Rattle.deck_tree.specs.declared.deck.Deck.{Deck}
use Rattle.deck_tree.specs.Plain.{plain_statement}
use Rattle.deck_tree.specs.WellFormed.{IsWellFormed}
use Rattle.deck_lexer.specs.Sizes.{longest_deck}
use Rattle.deck_grammar.specs.Refusals.{single_of, singles, wanted, StandOnce}
use Rattle.deck_refusal.specs.Refused.{IsTextAccepted}
use Rattle.deck_printer.specs.Canonical.{canonical}
use Rattle.deck_round.specs.Alike.{AreAlike}
use Rattle.deck_round.proofs.AlikeValues.{alike}
use Rattle.deck_round.proofs.Decks.{spelled_so}

-- a place doesn't change which statement it is
plain_single : (those : Statement) → single_of (plain_statement those) ≡ single_of those
plain_single (statement.LayoutSystem place) = refl
plain_single (statement.LayoutPath place file) = refl
plain_single (statement.LayoutPrimary place file) = refl
plain_single (statement.ResultsDatabase place file) = refl
plain_single (statement.SummaryReport place file) = refl
plain_single (statement.MaximumResults place most) = refl
plain_single (statement.SelectCheck place names) = refl
plain_single (statement.UnselectCheck place names) = refl
plain_single (statement.Precision place value) = refl
plain_single (statement.Title place file) = refl
plain_single (statement.Variable place name value) = refl
plain_single (statement.Layer place name numbers) = refl
plain_single (statement.LayerMap place row) = refl
plain_single (statement.Definition name layer) = refl
plain_single (statement.Check name items) = refl

plain_singles : (all : List Statement) → singles (map plain_statement all) ≡ singles all
plain_singles [] = refl
plain_singles (those ∷ more) = rw (plain_single those, plain_singles more) refl

same_singles : (a b : List Statement) → AreAlike a b → singles a ≡ singles b
same_singles a b same = sym (plain_singles a) ∙ ap singles same ∙ plain_singles b

-- where statements are cut, those that are alike are cut too
record Cut (before : List Statement) (repeat : Statement) (all : List Statement) : Type 0 where
  front : List Statement
  one : Statement
  behind : List Statement
  whole : all ≡ front ++ one ∷ behind
  fronts : AreAlike front before
  ones : plain_statement one ≡ plain_statement repeat

cut_behind : (b x : Statement) (before : List Statement) (repeat : Statement) (all : List Statement) → plain_statement b ≡ plain_statement x → Cut before repeat all → Cut (b ∷ before) repeat (x ∷ all)
cut_behind b x before repeat all first later = record {
  front = x ∷ later.front;
  one = later.one;
  behind = later.behind;
  whole = ap (λ (l : List Statement). x ∷ l) later.whole;
  fronts = alike (sym first) later.fronts;
  ones = later.ones;
}

cut : (before : List Statement) (repeat : Statement) (behind all : List Statement) → AreAlike (before ++ repeat ∷ behind) all → Cut before repeat all
cut [] repeat behind [] same = absurd (cc)
cut [] repeat behind (x ∷ all) same = record { front = []; one = x; behind = all; whole = refl; fronts = refl; ones = let one : plain_statement repeat ≡ plain_statement x = cc in sym one }
cut (b ∷ before) repeat behind [] same = absurd (cc)
cut (b ∷ before) repeat behind (x ∷ all) same =
    let first : plain_statement b ≡ plain_statement x = cc in
    let rest : AreAlike (before ++ repeat ∷ behind) all = cc in
    cut_behind b x before repeat all first (cut before repeat behind all rest)

still_once : (read all : List Statement) → AreAlike read all → StandOnce all → StandOnce read
still_once read all same once before repeat behind which whole is came =
    let here = cut before repeat behind all (ap (map plain_statement) (sym whole) ∙ same) in
    let single : single_of here.one ≡ Some which = sym (plain_single here.one) ∙ ap single_of here.ones ∙ plain_single repeat ∙ is in
    once here.front here.one here.behind which here.whole single (subst (λ (l : List Single). Contains l which) (sym (same_singles here.front before here.fronts)) came)

pub accepted : (deck : Deck) → IsWellFormed deck → length (canonical deck) ≤ longest_deck → ((one : Single) → Contains wanted one → Contains (singles deck.statements) one)
    → StandOnce deck.statements → (read : List Statement) × IsTextAccepted (canonical deck) read × AreAlike read deck.statements
accepted deck formed size there once =
    let so = spelled_so deck formed in
    let same = sym (same_singles so.0 deck.statements so.2) in (
      so.0,
      record {
        tokens = so.1.tokens;
        size = size;
        lexing = so.1.lexing;
        accepted = record {
          stand = so.1.stand;
          spelled = so.1.spelled;
          wanted_stand = λ one is. subst (λ (l : List Single). Contains l one) same (there one is);
          stand_once = still_once so.0 deck.statements so.2 once;
        };
      },
      so.2,
    )
