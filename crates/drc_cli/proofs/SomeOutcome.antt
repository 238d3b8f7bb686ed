-- Over files that are held words have an outcome.
use Rattle.std.proofs.Common.{◌≡◌, ◌⊎◌, ℕ, List, [], ◌∷◌, ◌++◌, drop, Option, Some, None, Result, Ok, Err, inl, inr, refl}
use Rattle.std.specs.Prelude.{codes}
use Rattle.std.specs.List.{AllByRecursion}
use Rattle.deck_tree.specs.declared.deck.Deck.{Deck}
use Rattle.deck_tree.specs.declared.refusal.DeckKind.{DeckKind}
use Rattle.deck_tree.specs.declared.refusal.DeckKind.TheVariants as reasons
use Rattle.deck_tree.specs.declared.refusal.DeckRefusal.{DeckRefusal}
use Rattle.deck_tree.specs.DeckKinds.{statement_words, counted_word}
use Rattle.deck_printer.specs.Canonical.{canonical}
use Rattle.deck_lexer.specs.declared.token.Token.{Token}
use Rattle.deck_lexer.specs.declared.token.LexFault.{LexFault}
use Rattle.deck_lexer.specs.Tokens.{Comes, Lexes, lexes, IsFirstFact}
use Rattle.deck_lexer.proofs.OneGap.{one_comes}
use Rattle.deck_cursor.specs.Places.{bytes_of}
use Rattle.deck_parser.specs.Parsed.{IsDeckText}
use Rattle.deck_refusal.specs.Refused.{IsTextRefused}
use Rattle.first_form.specs.FirstForm.{ServedDeck, IsFirstForm}
use Rattle.first_form.proofs.FirstForms.{each_deck}
use Rattle.drc_cli.specs.declared.answer.Status.TheVariants as status
use Rattle.drc_cli.specs.declared.answer.Which.TheVariants as which
use Rattle.drc_cli.specs.CheckMeaning.{IsJudged, unserved_deck}
use Rattle.drc_cli.specs.Command.{Command, check, format, CheckRequest, FormatRequest, AsksForCheck, AsksForFormat, Asks}
use Rattle.drc_cli.specs.Deck.{Spells}
use Rattle.drc_cli.specs.Lines.{IsFirstToken, IsDetailAt, layout_line}
use Rattle.drc_cli.specs.Meaning.{Leads, IsHeld, Due}
use Rattle.drc_cli.specs.Outcome.{Outcome, reads, writes, says}
use Rattle.drc_cli.proofs.Decided.{deck_name, deck_refused, says_refusal, text_refused_leads}
use Rattle.drc_cli.proofs.SomeResults.{has_results}

-- ---- A detail

-- what the law of tokens says: each text has tokens alone, or a first fact
abbrev pub SomeTokens : Type 0
SomeTokens = (text : List ℕ) → ((tokens : List Token) × lexes text tokens) ⊎ ((fault : LexFault) × IsFirstFact text fault)

no_token : (bytes : List ℕ) (answer : Result (Option Token) LexFault) → Comes 0 bytes answer → ((token : Token) → answer ≡ Ok (Some token) → ⊥) → (token : Token) → Comes 0 bytes (Ok (Some token)) → ⊥
no_token bytes answer comes other token there = other token (one_comes 0 bytes answer (Ok (Some token)) comes there)

first_of : (bytes : List ℕ) (tokens : List Token) (last : Result (Option Token) LexFault) → ((token : Token) → last ≡ Ok (Some token) → ⊥) → Lexes bytes 0 tokens last → (detail : List ℕ) × IsFirstToken bytes detail
first_of bytes [] last other comes = ([], inr (no_token bytes last comes other, refl))
first_of bytes (token ∷ tokens) last other (comes, more) = (codes " " ++ bytes_of bytes token, inl (token, comes, refl))

no_end : (token : Token) → ◌≡◌ {A = Result (Option Token) LexFault} (Ok None) (Ok (Some token)) → ⊥
no_end token e = cc

no_fact : (fault : LexFault) (token : Token) → ◌≡◌ {A = Result (Option Token) LexFault} (Err fault) (Ok (Some token)) → ⊥
no_fact fault token e = cc

first_token : SomeTokens → (bytes : List ℕ) → (detail : List ℕ) × IsFirstToken bytes detail
first_token some bytes = elim (some bytes) [
  | inl those ↦ first_of bytes those.0 (Ok None) no_end those.1
  | inr fact ↦ first_of bytes fact.1.0 (Err fact.0) (no_fact fact.0) fact.1.1
]

detail_at : SomeTokens → (text : List ℕ) (at : ℕ) (kind : DeckKind) → (detail : List ℕ) × IsDetailAt text at kind detail
detail_at some text at reasons.DeckTooLong = ([], refl)
detail_at some text at reasons.BadByte = ([], refl)
detail_at some text at reasons.OpenComment = ([], refl)
detail_at some text at reasons.OpenText = ([], refl)
detail_at some text at reasons.ValueRange = ([], refl)
detail_at some text at reasons.Unsupported = first_token some (drop at text)
detail_at some text at reasons.Syntax = ([], refl)
detail_at some text at reasons.DuplicateName = ([], refl)
detail_at some text at reasons.UndefinedName = ([], refl)
detail_at some text at reasons.WrongType = ([], refl)
detail_at some text at reasons.OffGrid = ([], refl)
detail_at some text at reasons.DivideByZero = ([], refl)
detail_at some text at (reasons.MissingStatement one) = (codes " " ++ statement_words one, refl)
detail_at some text at (reasons.RepeatedStatement one) = (codes " " ++ statement_words one, refl)
detail_at some text at (reasons.TooMany what) = (codes " " ++ counted_word what, refl)
detail_at some text at reasons.SameFile = ([], refl)
detail_at some text at reasons.LayerCycle = ([], refl)
detail_at some text at reasons.NotBuilt = ([], refl)

-- ---- What is due

-- what the law of texts says: each text is a deck, or refused
abbrev pub SomeAnswer : Type 0
SomeAnswer = (text : List ℕ) → ((deck : Deck) × IsDeckText text deck) ⊎ ((refusal : DeckRefusal) × IsTextRefused text refusal)

module _ (tokens : SomeTokens) (texts : SomeAnswer) (held : List ℕ → Option (List ℕ)) (words : List (List ℕ)) where
  due : (command : Command) → Asks words command → (outcome : Outcome) → Leads command outcome → AllByRecursion (IsHeld held) outcome.steps → (o : Outcome) × Due held words o
  due command asks outcome leads all = (outcome, record { meant = inl (command, asks, leads); reads_held = all })

  text_refused : (command : Command) → Asks words command → (text : List ℕ) → held (deck_name command) ≡ Some text → (refusal : DeckRefusal) → IsTextRefused text refusal
      → (o : Outcome) × Due held words o
  unfolding deck_refused
  text_refused command asks text text_held refusal refused =
      let detail = detail_at tokens text refusal.at refusal.kind in
      due command asks (deck_refused (deck_name command) text refusal detail.0) (text_refused_leads command text refusal detail.0 refused detail.1) (text_held, (tt, tt))

  -- ---- A deck that is formatted

  pub some_format : (request : FormatRequest) (text : List ℕ) → AsksForFormat words request → held request.deck ≡ Some text → (o : Outcome) × Due held words o
  some_format request text asks text_held = elim (texts text) [
    | inl is ↦ due (format request) asks
        (record { status = status.Done; steps = reads which.Deck request.deck text ∷ says (canonical is.0) ∷ [] })
        (inl (record { text = text; deck = is.0; is_deck = is.1; status_is = refl; steps_are = refl })) (text_held, (tt, tt))
    | inr refused ↦ text_refused (format request) asks text text_held refused.0 refused.1
  ]

  -- ---- A check

  module _ (request : CheckRequest) (deck : List ℕ) (asks : AsksForCheck words request) (deck_held : held request.deck ≡ Some deck) where
    unserved : (tree : Deck) → IsDeckText deck tree → ((d : ServedDeck) → IsFirstForm request.deck tree d → ⊥) → (o : Outcome) × Due held words o
    unfolding deck_refused
    unserved tree is_deck none = due (check request) asks (deck_refused request.deck deck unserved_deck [])
        (inr (inl (record {
          deck = deck;
          refusal = unserved_deck;
          refused = inr (record { deck = tree; is_deck = is_deck; no_form = none }, refl);
          said = says_refusal request.deck deck unserved_deck [] refl;
        })))
        (deck_held, (tt, tt))

    answered : (d : ServedDeck) → Spells request.deck deck d → IsJudged held d → (o : Outcome) × Due held words o
    answered d spelled is = elim is.judged [
      | inl accepted ↦
          let reported = has_results d is.bytes request.date accepted.0 accepted.1 in
          due (check request) asks
          (record {
            status = status.Done;
            steps = reads which.Deck request.deck deck ∷ reads which.Layout d.layout is.bytes ∷ writes which.Results d.results reported.0 ∷ says reported.1 ∷ [];
          })
          (inl (record {
            deck = deck;
            d = d;
            bytes = is.bytes;
            text = reported.0;
            line = reported.1;
            spelled = spelled;
            reports = reported.2;
            status_is = refl;
            steps_are = refl;
          }))
          (deck_held, (is.is_held, (tt, (tt, tt))))
      | inr refused ↦ due (check request) asks
          (record {
            status = status.Layout refused.0;
            steps = reads which.Deck request.deck deck ∷ reads which.Layout d.layout is.bytes ∷ says (layout_line refused.0) ∷ [];
          })
          (inr (inr (record {
            deck = deck;
            d = d;
            bytes = is.bytes;
            refusal = refused.0;
            spelled = spelled;
            refused = refused.1;
            status_is = refl;
            steps_are = refl;
          })))
          (deck_held, (is.is_held, (tt, tt)))
    ]

    pub some_check : ((d : ServedDeck) → Spells request.deck deck d → IsJudged held d) → (o : Outcome) × Due held words o
    some_check each = elim (texts deck) [
      | inr refused ↦ text_refused (check request) asks deck deck_held refused.0 refused.1
      | inl is ↦ elim (each_deck request.deck is.0) [
        | inl form ↦
            let spelled : Spells request.deck deck form.0 = record { deck = is.0; is_deck = is.1; form = form.1 } in
            answered form.0 spelled (each form.0 spelled)
        | inr none ↦ unserved is.0 is.1 none
      ]
    ]
