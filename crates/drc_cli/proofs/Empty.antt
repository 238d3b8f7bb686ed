-- An empty file is no deck, since it lacks a statement that must be there, and as a layout it is refused at once. So there
-- is an outcome for each file that can't be read.
use Rattle.std.proofs.Common.{◌≡◌, ℕ, List, [], ◌∷◌, ◌++◌, inl, refl, arith}
use Rattle.std.specs.Prelude.{codes}
use Rattle.gds_records.specs.declared.fault.LayoutKind.TheVariants as kinds
use Rattle.gds_records.specs.declared.fault.LayoutRefusal.{LayoutRefusal}
use Rattle.deck_tree.specs.declared.refusal.Single.TheVariants as single
use Rattle.deck_tree.specs.declared.refusal.DeckKind.TheVariants as reasons
use Rattle.deck_tree.specs.declared.refusal.DeckRefusal.{DeckRefusal}
use Rattle.deck_tree.specs.DeckKinds.{statement_words}
use Rattle.deck_lexer.specs.Tokens.{lexes}
use Rattle.deck_grammar.specs.Lexemes.{Lexeme}
use Rattle.deck_grammar.specs.Alternatives as a
use Rattle.deck_grammar.specs.Spelling.{SpellsDeck, choose, done, nothing}
use Rattle.deck_grammar.specs.Refusals.{Stand, IsMissing, missing}
use Rattle.deck_grammar.proofs.OnceFacts.{in_none}
use Rattle.deck_refusal.specs.Refused.{IsTextRefused, by_tokens}
use Rattle.drc_cli.specs.Layout.{Refuses}

-- ---- As a deck

abbrev pub nothing_there : DeckRefusal
nothing_there = record { at = 0; kind = reasons.MissingStatement single.LayoutSystem }

abbrev pub what_is_missing : List ℕ
what_is_missing = codes " " ++ statement_words single.LayoutSystem

no_tokens : lexes [] []
no_tokens = record { gap = []; behind = []; whole = refl; is_gap = ([], tt, inl refl); stands = refl }

no_statements : SpellsDeck [] []
no_statements = choose a.no_statement done done

not_behind : (before : List Lexeme) (token : Lexeme) (behind : List Lexeme) → [] ≡ before ++ token ∷ behind → ⊥
not_behind [] token behind e = cc
not_behind (t ∷ before) token behind e = cc

none_stand : Stand []
none_stand = (nothing, λ before token behind e deep. not_behind before token behind e)

first_missing : IsMissing [] single.LayoutSystem
first_missing = record {
  before = [];
  behind = single.LayoutPath ∷ single.LayoutPrimary ∷ single.ResultsDatabase ∷ [];
  is_wanted = refl;
  earlier = λ one there. absurd (in_none one there);
  missing = λ there. in_none single.LayoutSystem there;
}

pub empty_deck : IsTextRefused [] nothing_there
empty_deck = by_tokens [] nothing_there (omega arith) no_tokens (missing [] single.LayoutSystem none_stand no_statements first_missing)

-- ---- As a layout

abbrev pub truncated : LayoutRefusal
truncated = record { at = 0; kind = kinds.Truncated }

pub empty_layout : (primary : List ℕ) → Refuses primary [] truncated
empty_layout primary = record {
  items = [];
  rest = [];
  cut = record { whole = refl; placed = tt };
  front = tt;
  before_end = λ ends. ends;
  next = (refl, inl (omega arith));
}
