-- Over given files words have at most one outcome.
use Rattle.std.proofs.Common.{◌≡◌, ℕ, List, [], ◌∷◌, Option, Some, inl, inr, sym, ap, subst, ◌∙◌}
use Rattle.std.specs.List.{AllByRecursion}
use Rattle.list_facts.specs.InOrder.{ListsInOrder}
use Rattle.list_facts.proofs.InOrder.{listed_same}
use Rattle.drc_geom.specs.declared.run.Run.{Run}
use Rattle.drc_geom.specs.RunOrder.{run_order_total}
use Rattle.drc_geom.specs.Runs.{run_order}
use Rattle.gds_records.specs.declared.fault.LayoutRefusal.{LayoutRefusal}
use Rattle.deck_tree.specs.declared.refusal.DeckRefusal.{DeckRefusal}
use Rattle.deck_parser.specs.Parsed.{IsDeckText}
use Rattle.deck_refusal.specs.Refused.{IsTextRefused}
use Rattle.first_form.specs.FirstForm.{ServedDeck, input_of, units_of, precision}
use Rattle.drc_cli.specs.declared.answer.Status.{Status}
use Rattle.drc_cli.specs.declared.answer.Status.TheVariants as status
use Rattle.drc_cli.specs.declared.answer.Which.TheVariants as which
use Rattle.drc_cli.specs.CheckMeaning.{CheckLeads, IsServed, HasRefusedDeck, HasRefusedLayout, IsDeckRefused, Reports, results_of}
use Rattle.drc_cli.specs.Command.{CheckRequest, FormatRequest, Command, check, format}
use Rattle.drc_cli.specs.Deck.{Spells}
use Rattle.drc_cli.specs.DeckMeaning.{SaysRefusal}
use Rattle.drc_cli.specs.FormatMeaning.{FormatLeads, SaysDeck, HasRefusedText}
use Rattle.drc_cli.specs.Layout.{Element, Refuses, drawn}
use Rattle.drc_cli.specs.Lines.{deck_line}
use Rattle.drc_cli.specs.Meaning.{Means, Leads, IsHeld, Due}
use Rattle.drc_cli.specs.Outcome.{Outcome, Step, reads, says}
use Rattle.drc_cli.specs.ShortRuns.{IsShortRun}
use Rattle.drc_cli.specs.Text.{results_text, said_text}
use Rattle.drc_cli.proofs.OneText.{OneAnswer, one_detail, one_spelled, spelled_or_refused, one_deck_refusal}
use Rattle.drc_cli.proofs.LayoutLaws.{one_list_of_elements, accepted_not_refused, one_refusal}
use Rattle.drc_cli.proofs.Settings.{one_command}

one_report : (d : ServedDeck) (bytes date text text' line line' : List ℕ) → Reports d bytes date text line → Reports d bytes date text' line' → (text ≡ text') × (line ≡ line')
one_report d bytes date text text' line line' p q =
    let same = one_list_of_elements d.primary bytes q.elements p.elements q.accepted p.accepted in
    let also = subst (λ (e : List Element). ListsInOrder run_order (IsShortRun (drawn (input_of d).number e) (units_of d.bound)) q.runs) same q.reported in
    let runs = listed_same run_order run_order_total (IsShortRun (drawn (input_of d).number p.elements) (units_of d.bound)) p.runs q.runs p.reported also in (
      p.text_is ∙ ap (λ (r : List Run). results_text d.primary precision (results_of d date r ∷ [])) runs ∙ sym q.text_is,
      p.line_is ∙ ap (λ (r : List Run). said_text (results_of d date r ∷ [])) runs ∙ sym q.line_is,
    )

same_outcome : (a b : Outcome) (status : Status) (steps : List Step) → a.status ≡ status → b.status ≡ status → a.steps ≡ steps → b.steps ≡ steps → a ≡ b
same_outcome a b status steps p q r s =
    ap (λ (x : Status). let o : Outcome = record { status = x; steps = a.steps } in o) (p ∙ sym q)
    ∙ ap (λ (x : List Step). let o : Outcome = record { status = b.status; steps = x } in o) (r ∙ sym s)

-- two refusals that are said of one text are one
same_said : (name text other : List ℕ) (refusal another : DeckRefusal) (a b : Outcome) → text ≡ other → refusal ≡ another → SaysRefusal name text refusal a → SaysRefusal name other another b → a ≡ b
same_said name text other refusal another a b texts refusals p q =
    let also : SaysRefusal name text refusal b = subst (λ (r : DeckRefusal). SaysRefusal name text r b) (sym refusals)
    (subst (λ (t : List ℕ). SaysRefusal name t another b) (sym texts) q) in
    let details = one_detail text refusal also.detail p.detail also.detail_is p.detail_is in
    same_outcome a b (status.Deck refusal) _ p.status_is also.status_is p.steps_are
    (also.steps_are ∙ ap (λ (d : List ℕ). reads which.Deck name text ∷ says (deck_line refusal d) ∷ []) details)

-- what is held of a name is one text
some_is : (held : List ℕ → Option (List ℕ)) (name x y : List ℕ) → held name ≡ Some x → held name ≡ Some y → x ≡ y
some_is held name x y p q = cc

-- ---- A check

module _ (law : OneAnswer) (held : List ℕ → Option (List ℕ)) (request : CheckRequest) where
  abbrev pub AreHeld : List Step → Type 0
  AreHeld steps = AllByRecursion (IsHeld held) steps

  -- what is held, where the check is served
  served_held : (a : Outcome) → AreHeld a.steps → (p : IsServed request a) → (held request.deck ≡ Some p.deck) × (held p.d.layout ≡ Some p.bytes)
  served_held a ha p = let h = subst (λ (s : List Step). AreHeld s) p.steps_are ha in (h.0, h.1.0)

  deck_held : (a : Outcome) → AreHeld a.steps → (p : HasRefusedDeck request a) → held request.deck ≡ Some p.deck
  deck_held a ha p = (subst (λ (s : List Step). AreHeld s) p.said.steps_are ha).0

  layout_held : (a : Outcome) → AreHeld a.steps → (p : HasRefusedLayout request a) → (held request.deck ≡ Some p.deck) × (held p.d.layout ≡ Some p.bytes)
  layout_held a ha p = let h = subst (λ (s : List Step). AreHeld s) p.steps_are ha in (h.0, h.1.0)

  -- two decks that are spelled by what is held are one
  one_deck : (x y : List ℕ) (d e : ServedDeck) → held request.deck ≡ Some x → held request.deck ≡ Some y → Spells request.deck x d → Spells request.deck y e → d ≡ e
  one_deck x y d e p q s t =
      one_spelled law request.deck x d e s (subst (λ (z : List ℕ). Spells request.deck z e) (some_is held request.deck y x q p) t)

  one_bytes : (d e : ServedDeck) (x y : List ℕ) → d ≡ e → held d.layout ≡ Some x → held e.layout ≡ Some y → x ≡ y
  one_bytes d e x y same p q = some_is held d.layout x y p (ap (λ (z : ServedDeck). held z.layout) same ∙ q)

  both_served : (a b : Outcome) → AreHeld a.steps → AreHeld b.steps → IsServed request a → IsServed request b → a ≡ b
  both_served a b ha hb p q =
      let h = served_held a ha p in
      let k = served_held b hb q in
      let decks = some_is held request.deck q.deck p.deck k.0 h.0 in
      let ds : q.d ≡ p.d = one_deck q.deck p.deck q.d p.d k.0 h.0 q.spelled p.spelled in
      let bytes : q.bytes ≡ p.bytes = one_bytes q.d p.d q.bytes p.bytes ds k.1 h.1 in
      let texts = one_report p.d p.bytes request.date q.text p.text q.line p.line
      (subst (λ (x : List ℕ). Reports p.d x request.date q.text q.line) bytes (subst (λ (x : ServedDeck). Reports x q.bytes request.date q.text q.line) ds q.reports)) p.reports in
      same_outcome a b status.Done _ p.status_is q.status_is p.steps_are (q.steps_are ∙ cc)

  served_or_refused : (a b : Outcome) → AreHeld a.steps → AreHeld b.steps → IsServed request a → HasRefusedDeck request b → ⊥
  served_or_refused a b ha hb p q =
      let decks = some_is held request.deck p.deck q.deck (served_held a ha p).0 (deck_held b hb q) in
      spelled_or_refused law request.deck q.deck p.d q.refusal (subst (λ (x : List ℕ). Spells request.deck x p.d) decks p.spelled) q.refused

  layout_or_refused : (a b : Outcome) → AreHeld a.steps → AreHeld b.steps → HasRefusedLayout request a → HasRefusedDeck request b → ⊥
  layout_or_refused a b ha hb p q =
      let decks = some_is held request.deck p.deck q.deck (layout_held a ha p).0 (deck_held b hb q) in
      spelled_or_refused law request.deck q.deck p.d q.refusal (subst (λ (x : List ℕ). Spells request.deck x p.d) decks p.spelled) q.refused

  served_or_layout : (a b : Outcome) → AreHeld a.steps → AreHeld b.steps → IsServed request a → HasRefusedLayout request b → ⊥
  served_or_layout a b ha hb p q =
      let h = served_held a ha p in
      let k = layout_held b hb q in
      let ds : q.d ≡ p.d = one_deck q.deck p.deck q.d p.d k.0 h.0 q.spelled p.spelled in
      let bytes : q.bytes ≡ p.bytes = one_bytes q.d p.d q.bytes p.bytes ds k.1 h.1 in
      accepted_not_refused p.d.primary p.bytes p.reports.elements q.refusal p.reports.accepted
      (subst (λ (x : List ℕ). Refuses p.d.primary x q.refusal) bytes (subst (λ (x : ServedDeck). Refuses x.primary q.bytes q.refusal) ds q.refused))

  both_refused : (a b : Outcome) → AreHeld a.steps → AreHeld b.steps → HasRefusedDeck request a → HasRefusedDeck request b → a ≡ b
  both_refused a b ha hb p q =
      let decks = some_is held request.deck p.deck q.deck (deck_held a ha p) (deck_held b hb q) in
      let refusals = one_deck_refusal law request.deck q.deck p.refusal q.refusal (subst (λ (x : List ℕ). IsDeckRefused request.deck x p.refusal) decks p.refused) q.refused in
      same_said request.deck p.deck q.deck p.refusal q.refusal a b decks refusals p.said q.said

  both_layouts : (a b : Outcome) → AreHeld a.steps → AreHeld b.steps → HasRefusedLayout request a → HasRefusedLayout request b → a ≡ b
  both_layouts a b ha hb p q =
      let h = layout_held a ha p in
      let k = layout_held b hb q in
      let decks = some_is held request.deck q.deck p.deck k.0 h.0 in
      let ds : q.d ≡ p.d = one_deck q.deck p.deck q.d p.d k.0 h.0 q.spelled p.spelled in
      let bytes : q.bytes ≡ p.bytes = one_bytes q.d p.d q.bytes p.bytes ds k.1 h.1 in
      let refusals : q.refusal ≡ p.refusal = one_refusal p.d.primary p.bytes q.refusal p.refusal
      (subst (λ (x : List ℕ). Refuses p.d.primary x q.refusal) bytes (subst (λ (x : ServedDeck). Refuses x.primary q.bytes q.refusal) ds q.refused)) p.refused in
      same_outcome a b (status.Layout p.refusal) _ p.status_is (q.status_is ∙ ap (λ (x : LayoutRefusal). status.Layout x) refusals) p.steps_are (q.steps_are ∙ cc)

  pub one_check_outcome : (a b : Outcome) → AreHeld a.steps → AreHeld b.steps → CheckLeads request a → CheckLeads request b → a ≡ b
  one_check_outcome a b ha hb (inl p) (inl q) = both_served a b ha hb p q
  one_check_outcome a b ha hb (inl p) (inr (inl q)) = absurd (served_or_refused a b ha hb p q)
  one_check_outcome a b ha hb (inl p) (inr (inr q)) = absurd (served_or_layout a b ha hb p q)
  one_check_outcome a b ha hb (inr (inl p)) (inl q) = absurd (served_or_refused b a hb ha q p)
  one_check_outcome a b ha hb (inr (inl p)) (inr (inl q)) = both_refused a b ha hb p q
  one_check_outcome a b ha hb (inr (inl p)) (inr (inr q)) = absurd (layout_or_refused b a hb ha q p)
  one_check_outcome a b ha hb (inr (inr p)) (inl q) = absurd (served_or_layout b a hb ha q p)
  one_check_outcome a b ha hb (inr (inr p)) (inr (inl q)) = absurd (layout_or_refused a b ha hb p q)
  one_check_outcome a b ha hb (inr (inr p)) (inr (inr q)) = both_layouts a b ha hb p q

-- ---- A deck that is formatted

module _ (law : OneAnswer) (held : List ℕ → Option (List ℕ)) (request : FormatRequest) where
  abbrev pub HaveHeld : List Step → Type 0
  HaveHeld steps = AllByRecursion (IsHeld held) steps

  text_held : (a : Outcome) → HaveHeld a.steps → (p : SaysDeck request a) → held request.deck ≡ Some p.text
  text_held a ha p = (subst (λ (s : List Step). HaveHeld s) p.steps_are ha).0

  refused_held : (a : Outcome) → HaveHeld a.steps → (p : HasRefusedText request a) → held request.deck ≡ Some p.text
  refused_held a ha p = (subst (λ (s : List Step). HaveHeld s) p.said.steps_are ha).0

  both_said : (a b : Outcome) → HaveHeld a.steps → HaveHeld b.steps → SaysDeck request a → SaysDeck request b → a ≡ b
  both_said a b ha hb p q =
      let texts = some_is held request.deck q.text p.text (text_held b hb q) (text_held a ha p) in
      let decks : q.deck ≡ p.deck = law.deck p.text q.deck p.deck (subst (λ (t : List ℕ). IsDeckText t q.deck) texts q.is_deck) p.is_deck in
      same_outcome a b status.Done _ p.status_is q.status_is p.steps_are (q.steps_are ∙ cc)

  said_or_refused : (a b : Outcome) → HaveHeld a.steps → HaveHeld b.steps → SaysDeck request a → HasRefusedText request b → ⊥
  said_or_refused a b ha hb p q =
      let texts = some_is held request.deck p.text q.text (text_held a ha p) (refused_held b hb q) in
      law.not_both q.text p.deck q.refusal (subst (λ (t : List ℕ). IsDeckText t p.deck) texts p.is_deck) q.refused

  both_texts_refused : (a b : Outcome) → HaveHeld a.steps → HaveHeld b.steps → HasRefusedText request a → HasRefusedText request b → a ≡ b
  both_texts_refused a b ha hb p q =
      let texts = some_is held request.deck p.text q.text (refused_held a ha p) (refused_held b hb q) in
      let refusals = law.refusal q.text p.refusal q.refusal (subst (λ (t : List ℕ). IsTextRefused t p.refusal) texts p.refused) q.refused in
      same_said request.deck p.text q.text p.refusal q.refusal a b texts refusals p.said q.said

  pub one_format_outcome : (a b : Outcome) → HaveHeld a.steps → HaveHeld b.steps → FormatLeads request a → FormatLeads request b → a ≡ b
  one_format_outcome a b ha hb (inl p) (inl q) = both_said a b ha hb p q
  one_format_outcome a b ha hb (inl p) (inr q) = absurd (said_or_refused a b ha hb p q)
  one_format_outcome a b ha hb (inr p) (inl q) = absurd (said_or_refused b a hb ha q p)
  one_format_outcome a b ha hb (inr p) (inr q) = both_texts_refused a b ha hb p q

-- ---- All commands

pub one_outcome : OneAnswer → (held : List ℕ → Option (List ℕ)) (words : List (List ℕ)) (a b : Outcome) → Due held words a → Due held words b → a ≡ b
one_outcome law held words a b p q = by_meaning p.meant q.meant where
  led : (c : Command) → Leads c a → Leads c b → a ≡ b
  led (check request) l m = one_check_outcome law held request a b p.reads_held q.reads_held l m
  led (format request) l m = one_format_outcome law held request a b p.reads_held q.reads_held l m

  by_meaning : Means words a → Means words b → a ≡ b
  by_meaning (inl (c, asks, l)) (inl (e, also, m)) = led e (subst (λ (x : Command). Leads x a) (one_command words c e asks also) l) m
  by_meaning (inl (c, asks, l)) (inr (nothing, is)) = absurd (nothing c asks)
  by_meaning (inr (nothing, is)) (inl (e, also, m)) = absurd (nothing e also)
  by_meaning (inr (nothing, is)) (inr (none, are)) = is ∙ sym are
