-- What a text means as a deck is one thing, and so is what is said of it.
use Rattle.std.proofs.Common.{◌≡◌, ℕ, List, ◌++◌, drop, Some, Ok, Option, Result, inl, inr, sym, ap, subst, ◌∙◌}
use Rattle.std.specs.Prelude.{codes}
use Rattle.deck_tree.specs.declared.deck.Deck.{Deck}
use Rattle.deck_tree.specs.declared.refusal.DeckKind.{DeckKind}
use Rattle.deck_tree.specs.declared.refusal.DeckKind.TheVariants as reasons
use Rattle.deck_tree.specs.declared.refusal.DeckRefusal.{DeckRefusal}
use Rattle.deck_lexer.specs.declared.token.Token.{Token}
use Rattle.deck_lexer.specs.declared.token.LexFault.{LexFault}
use Rattle.deck_lexer.specs.Tokens.{Comes}
use Rattle.deck_lexer.proofs.OneGap.{one_comes}
use Rattle.deck_cursor.specs.Places.{bytes_of}
use Rattle.deck_parser.specs.Parsed.{IsDeckText}
use Rattle.deck_refusal.specs.Refused.{IsTextRefused}
use Rattle.first_form.specs.FirstForm.{ServedDeck, IsFirstForm}
use Rattle.first_form.proofs.FirstForms.{one_first_form}
use Rattle.drc_cli.specs.CheckMeaning.{IsDeckRefused}
use Rattle.drc_cli.specs.Deck.{Spells}
use Rattle.drc_cli.specs.Lines.{IsFirstToken, IsDetailAt, IsDetail}

-- what the law of texts says
pub record OneAnswer : Type 0 where
  pub deck : (text : List ℕ) (a b : Deck) → IsDeckText text a → IsDeckText text b → a ≡ b
  pub refusal : (text : List ℕ) (a b : DeckRefusal) → IsTextRefused text a → IsTextRefused text b → a ≡ b
  pub not_both : (text : List ℕ) (deck : Deck) (refusal : DeckRefusal) → IsDeckText text deck → IsTextRefused text refusal → ⊥

-- ---- The detail

same_token : (bytes : List ℕ) (t u : Token) → Comes 0 bytes (Ok (Some t)) → Comes 0 bytes (Ok (Some u)) → t ≡ u
same_token bytes t u p q =
    let e : ◌≡◌ {A = Result (Option Token) LexFault} (Ok (Some t)) (Ok (Some u)) = one_comes 0 bytes (Ok (Some t)) (Ok (Some u)) p q in cc

one_first_token : (bytes a b : List ℕ) → IsFirstToken bytes a → IsFirstToken bytes b → a ≡ b
one_first_token bytes a b (inl (t, p, e)) (inl (u, q, f)) = e ∙ ap (λ (v : Token). codes " " ++ bytes_of bytes v) (same_token bytes t u p q) ∙ sym f
one_first_token bytes a b (inl (t, p, e)) (inr (none, f)) = absurd (none t p)
one_first_token bytes a b (inr (none, e)) (inl (u, q, f)) = absurd (none u q)
one_first_token bytes a b (inr (none, e)) (inr (also, f)) = e ∙ sym f

one_detail_at : (text : List ℕ) (at : ℕ) (kind : DeckKind) (a b : List ℕ) → IsDetailAt text at kind a → IsDetailAt text at kind b → a ≡ b
one_detail_at text at reasons.DeckTooLong a b p q = p ∙ sym q
one_detail_at text at reasons.BadByte a b p q = p ∙ sym q
one_detail_at text at reasons.OpenComment a b p q = p ∙ sym q
one_detail_at text at reasons.OpenText a b p q = p ∙ sym q
one_detail_at text at reasons.ValueRange a b p q = p ∙ sym q
one_detail_at text at reasons.Unsupported a b p q = one_first_token (drop at text) a b p q
one_detail_at text at reasons.Syntax a b p q = p ∙ sym q
one_detail_at text at reasons.DuplicateName a b p q = p ∙ sym q
one_detail_at text at reasons.UndefinedName a b p q = p ∙ sym q
one_detail_at text at reasons.WrongType a b p q = p ∙ sym q
one_detail_at text at reasons.OffGrid a b p q = p ∙ sym q
one_detail_at text at reasons.DivideByZero a b p q = p ∙ sym q
one_detail_at text at (reasons.MissingStatement which) a b p q = p ∙ sym q
one_detail_at text at (reasons.RepeatedStatement which) a b p q = p ∙ sym q
one_detail_at text at (reasons.TooMany what) a b p q = p ∙ sym q
one_detail_at text at reasons.SameFile a b p q = p ∙ sym q
one_detail_at text at reasons.LayerCycle a b p q = p ∙ sym q
one_detail_at text at reasons.NotBuilt a b p q = p ∙ sym q

pub one_detail : (text : List ℕ) (refusal : DeckRefusal) (a b : List ℕ) → IsDetail text refusal a → IsDetail text refusal b → a ≡ b
one_detail text refusal a b p q = one_detail_at text refusal.at refusal.kind a b p q

-- ---- Decks of the first form

module _ (law : OneAnswer) (name text : List ℕ) where
  same_form : (a b : Deck) (d e : ServedDeck) → a ≡ b → IsFirstForm name a d → IsFirstForm name b e → d ≡ e
  same_form a b d e same p q = one_first_form name b d e (subst (λ (x : Deck). IsFirstForm name x d) same p) q

  pub one_spelled : (d e : ServedDeck) → Spells name text d → Spells name text e → d ≡ e
  one_spelled d e p q = same_form p.deck q.deck d e (law.deck text p.deck q.deck p.is_deck q.is_deck) p.form q.form

  pub spelled_or_refused : (d : ServedDeck) (refusal : DeckRefusal) → Spells name text d → IsDeckRefused name text refusal → ⊥
  spelled_or_refused d refusal p (inl refused) = law.not_both text p.deck refusal p.is_deck refused
  spelled_or_refused d refusal p (inr (unserved, is)) =
      unserved.no_form d (subst (λ (x : Deck). IsFirstForm name x d) (law.deck text p.deck unserved.deck p.is_deck unserved.is_deck) p.form)

  pub one_deck_refusal : (a b : DeckRefusal) → IsDeckRefused name text a → IsDeckRefused name text b → a ≡ b
  one_deck_refusal a b (inl p) (inl q) = law.refusal text a b p q
  one_deck_refusal a b (inl p) (inr (unserved, is)) = absurd (law.not_both text unserved.deck a unserved.is_deck p)
  one_deck_refusal a b (inr (unserved, is)) (inl q) = absurd (law.not_both text unserved.deck b unserved.is_deck q)
  one_deck_refusal a b (inr (unserved, is)) (inr (also, same)) = is ∙ sym same
