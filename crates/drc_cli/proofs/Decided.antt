-- What is decided of a command, from what was read.
use Rattle.std.proofs.Common.{◌≡◌, ℕ, ℤ, List, [], ◌∷◌, map, Bool, Ok, Err, inl, inr, refl, sym, ap, subst, ◌∙◌, arith}
use Rattle.std.specs.Global.{Vec}
use Rattle.gds_records.specs.declared.fault.LayoutRefusal.{LayoutRefusal}
use Rattle.drc_geom.specs.declared.rect.Rect.{Rect}
use Rattle.drc_geom.specs.declared.run.Run.{Run}
use Rattle.drc_geom.specs.Squares.{covered}
use Rattle.drc_geom.specs.Runs.{run_order}
use Rattle.list_facts.specs.InOrder.{ListsInOrder}
use Rattle.drc_ports.specs.Counts.{one_more}
use Rattle.drc_ports.specs.Files.{Tally, Contents, World}
use Rattle.drc_cli.specs.declared.answer.Status.TheVariants as status
use Rattle.drc_cli.specs.declared.answer.Which.TheVariants as which
use Rattle.deck_tree.specs.declared.deck.Deck.{Deck}
use Rattle.deck_tree.specs.declared.refusal.DeckRefusal.{DeckRefusal}
use Rattle.deck_printer.specs.Canonical.{canonical}
use Rattle.deck_refusal.specs.Refused.{IsTextRefused}
use Rattle.first_form.specs.declared.served.FirstDeck.{FirstDeck}
use Rattle.first_form.specs.FirstForm.{ServedDeck, IsFirstForm, units_of, precision, limit}
use Rattle.first_form.specs.Reading.{IsReadingOf}
use Rattle.drc_cli.specs.declared.ending.Ending.{Ending}
use Rattle.drc_cli.specs.declared.ending.Ending.TheVariants as ending
use Rattle.drc_cli.specs.declared.ready.Ready.{Ready}
use Rattle.drc_cli.specs.CheckMeaning.{CheckLeads, Reports, results_of, unserved_deck}
use Rattle.drc_cli.specs.Command.{Command, check, format, CheckRequest, FormatRequest}
use Rattle.drc_cli.specs.Deck.{Spells}
use Rattle.drc_cli.specs.DeckMeaning.{SaysRefusal}
use Rattle.drc_cli.specs.Meaning.{Leads}
use Rattle.drc_cli.specs.Working.Decide.{results_in, IsDeckRead, IsLayoutRead, IsReady, IsEnded, IsDecided, IsPrinted}
use Rattle.drc_cli.specs.Layout.{Element, Accepts, Refuses, drawn}
use Rattle.drc_cli.specs.Lines.{IsDetail, deck_line, layout_line}
use Rattle.drc_cli.specs.Outcome.{Outcome, reads, writes, says}
use Rattle.drc_cli.specs.ProgramEnds.{OnlyReads}
use Rattle.drc_cli.specs.ShortRuns.{IsShortRun}
use Rattle.drc_cli.specs.Text.{CheckResults, run, results_text, said_text}
use Rattle.drc_cli.specs.Steps.{IsDone, AreDone, Fails}
use Rattle.drc_cli.proofs.ShortRuns.{short_same}
use Rattle.drc_cli.proofs.DeckRead.{one_of_two}
use Rattle.drc_cli.proofs.Empty.{empty_deck, nothing_there, what_is_missing, empty_layout, truncated}

-- ---- The outcomes of a command

-- the name of the deck that a command reads
abbrev pub deck_name : Command → List ℕ
deck_name (check request) = request.deck
deck_name (format request) = request.deck

unfoldable pub deck_refused : (name text : List ℕ) (refusal : DeckRefusal) (detail : List ℕ) → Outcome
deck_refused name text refusal detail = record { status = status.Deck refusal; steps = reads which.Deck name text ∷ says (deck_line refusal detail) ∷ [] }

pub says_refusal : (name text : List ℕ) (refusal : DeckRefusal) (detail : List ℕ) → IsDetail text refusal detail → SaysRefusal name text refusal (deck_refused name text refusal detail)
unfolding deck_refused
says_refusal name text refusal detail is = record { detail = detail; detail_is = is; status_is = refl; steps_are = refl }

pub text_refused_leads : (command : Command) (text : List ℕ) (refusal : DeckRefusal) (detail : List ℕ) → IsTextRefused text refusal → IsDetail text refusal detail
    → Leads command (deck_refused (deck_name command) text refusal detail)
text_refused_leads (check request) text refusal detail refused is =
    inr (inl (record { deck = text; refusal = refusal; refused = inl refused; said = says_refusal request.deck text refusal detail is }))
text_refused_leads (format request) text refusal detail refused is =
    inr (record { text = text; refusal = refusal; refused = refused; said = says_refusal request.deck text refusal detail is })

layout_refused : (request : CheckRequest) (deck : List ℕ) (d : ServedDeck) (bytes : List ℕ) (refusal : LayoutRefusal) → Outcome
layout_refused request deck d bytes refusal = record {
  status = status.Layout refusal;
  steps = reads which.Deck request.deck deck ∷ reads which.Layout d.layout bytes ∷ says (layout_line refusal) ∷ [];
}

layout_refused_leads : (request : CheckRequest) (deck : List ℕ) (d : ServedDeck) (bytes : List ℕ) (refusal : LayoutRefusal) → Spells request.deck deck d
    → Refuses d.primary bytes refusal → CheckLeads request (layout_refused request deck d bytes refusal)
unfolding layout_refused
layout_refused_leads request deck d bytes refusal spelled refused = inr (inr (record {
  deck = deck;
  d = d;
  bytes = bytes;
  refusal = refusal;
  spelled = spelled;
  refused = refused;
  status_is = refl;
  steps_are = refl;
}))

-- ---- The deck

pub deck_ended : (command : Command) (end : Ending) (tells : Bool) (old new : World) → IsDeckRead (deck_name command) (Err end) tells old new → IsEnded command end tells old new
unfolding deck_refused
deck_ended command (ending.Deck refusal detail) tells old new (text, refused, is, read) = (
  deck_refused (deck_name command) text refusal detail,
  text_refused_leads command text refusal detail refused is,
  refl,
  record { before = reads which.Deck (deck_name command) text ∷ []; steps = refl; done = (new, read, refl) },
)
deck_ended command (ending.Layout refusal) tells old new read = absurd read
deck_ended command (ending.ReadFault which.Deck name) tells old new read = (
  deck_refused (deck_name command) [] nothing_there what_is_missing,
  text_refused_leads command [] nothing_there what_is_missing empty_deck refl,
  record {
    behind = says (deck_line nothing_there what_is_missing) ∷ [];
    at = old;
    left = record { before = []; steps = ap (λ (n : List ℕ). reads which.Deck n [] ∷ says (deck_line nothing_there what_is_missing) ∷ []) (sym read.0); done = refl };
    fails = subst (λ (n : List ℕ). Fails tells (reads which.Deck n []) old new) (sym read.0) read.1;
  },
)
deck_ended command (ending.ReadFault which.Layout name) tells old new read = absurd read
deck_ended command (ending.ReadFault which.Results name) tells old new read = absurd read
deck_ended command (ending.ReadFault which.Output name) tells old new read = absurd read
deck_ended command ending.Memory tells old new read = one_of_two tells old new read

pub deck_unserved : (request : CheckRequest) (deck : Deck) (detail : List ℕ) (tells : Bool) (old new : World) → IsDeckRead request.deck (Ok deck) tells old new
    → ((d : ServedDeck) → IsFirstForm request.deck deck d → ⊥) → detail ≡ [] → IsDecided (check request) (Err (ending.Deck unserved_deck detail)) tells old new
unfolding deck_refused
deck_unserved request deck detail tells old new (text, is_deck, read) none empty = (
  deck_refused request.deck text unserved_deck detail,
  inr (inl (record {
    deck = text;
    refusal = unserved_deck;
    refused = inr (record { deck = deck; is_deck = is_deck; no_form = none }, refl);
    said = says_refusal request.deck text unserved_deck detail empty;
  })),
  refl,
  record { before = reads which.Deck request.deck text ∷ []; steps = refl; done = (new, read, refl) },
)

-- the text that is to be said
pub printed : (request : FormatRequest) (deck : Deck) (said : Vec ℕ) (tells : Bool) (old new : World) → IsDeckRead request.deck (Ok deck) tells old new
    → said.items ≡ canonical deck → IsPrinted (format request) (Ok said) tells old new
printed request deck said tells old new (text, is_deck, read) is = (
  record { status = status.Done; steps = reads which.Deck request.deck text ∷ says (canonical deck) ∷ [] },
  inl (record { text = text; deck = deck; is_deck = is_deck; status_is = refl; steps_are = refl }),
  refl,
  record {
    before = reads which.Deck request.deck text ∷ [];
    steps = ap (λ (t : List ℕ). reads which.Deck request.deck text ∷ says t ∷ []) (sym is);
    done = (new, read, refl);
  },
)

-- ---- The layout

module _ (request : CheckRequest) (tells : Bool) (old at new : World) (tree : Deck) (deck_read : IsDeckRead request.deck (Ok tree) tells old at) (found : FirstDeck) (is_form : (d : ServedDeck) × IsFirstForm request.deck tree d × IsReadingOf found d) where
  d : ServedDeck
  d = is_form.0

  deck : List ℕ
  deck = deck_read.0

  spelled : Spells request.deck deck d
  unfolding d deck
  spelled = record { deck = tree; is_deck = deck_read.1; form = is_form.1 }

  deck_done : IsDone tells (reads which.Deck request.deck deck) old at
  unfolding deck
  deck_done = deck_read.2

  reading : IsReadingOf found d
  unfolding d
  reading = is_form.2

  both_done : (bytes : List ℕ) → IsDone tells (reads which.Layout found.layout.now bytes) at new
      → AreDone tells (reads which.Deck request.deck deck ∷ reads which.Layout d.layout bytes ∷ []) old new
  both_done bytes read = (
    at,
    deck_done,
    (new, subst (λ (name : List ℕ). IsDone tells (reads which.Layout name bytes) at new) reading.layout read, refl),
  )

  memory_then : OnlyReads 1 tells at new → OnlyReads 2 tells old new
  memory_then read =
      let tally = deck_done.tally in
      let begun : at.tally.begun ≡ one_more old.tally.begun = ap (λ (t : Tally). t.begun) tally in
      record {
        read_faults = read.read_faults ∙ ap (λ (t : Tally). t.read_faults) tally;
        write_faults = read.write_faults ∙ ap (λ (t : Tally). t.write_faults) tally;
        say_faults = read.say_faults ∙ ap (λ (t : Tally). t.say_faults) tally;
        writing = read.writing ∙ ap (λ (t : Tally). t.writing) tally;
        begun = omega (arith, read.begun, begun);
        contents = λ told. read.contents told ∙ ap (λ (c : Contents). record c { left = new.contents.left }) ((deck_done.contents told).1);
      }

  pub layout_ended : (end : Ending) → IsLayoutRead found (Err end) tells at new → IsDecided (check request) (Err end) tells old new
  unfolding layout_refused
  layout_ended (ending.Deck refusal detail) read = absurd read
  layout_ended (ending.Layout refusal) read = (
    layout_refused request deck d read.0 refusal,
    layout_refused_leads request deck d read.0 refusal spelled (subst (λ (p : List ℕ). Refuses p read.0 refusal) reading.primary read.1),
    refl,
    record { before = reads which.Deck request.deck deck ∷ reads which.Layout d.layout read.0 ∷ []; steps = refl; done = both_done read.0 read.2 },
  )
  layout_ended (ending.ReadFault which.Deck name) read = absurd read
  layout_ended (ending.ReadFault which.Layout name) read =
      let named : name ≡ d.layout = read.0 ∙ reading.layout in (
        layout_refused request deck d [] truncated,
        layout_refused_leads request deck d [] truncated spelled (empty_layout d.primary),
        record {
          behind = says (layout_line truncated) ∷ [];
          at = at;
          left = record {
            before = reads which.Deck request.deck deck ∷ [];
            steps = ap (λ (n : List ℕ). reads which.Deck request.deck deck ∷ reads which.Layout n [] ∷ says (layout_line truncated) ∷ []) (sym named);
            done = (at, deck_done, refl);
          };
          fails = subst (λ (n : List ℕ). Fails tells (reads which.Layout n []) at new) (sym read.0) read.1;
        },
      )
  layout_ended (ending.ReadFault which.Results name) read = absurd read
  layout_ended (ending.ReadFault which.Output name) read = absurd read
  layout_ended ending.Memory read = memory_then read

  -- ---- What is written

  name_results : (date : List ℕ) (runs : List Run) (name note : List ℕ) → CheckResults
  name_results date runs name note = record { name = name; notes = note ∷ []; limit = limit; date = date; results = map run runs }

  same_results : (date : List ℕ) (runs : List Run) → results_in found date runs ≡ results_of d date runs
  unfolding name_results
  same_results date runs =
      ap (λ (n : List ℕ). name_results date runs n found.note.now) reading.check ∙ ap (λ (n : List ℕ). name_results date runs d.check n) reading.note

  reports : (rects : List Rect) (ready : Ready) (bytes : List ℕ) (elements : List Element) → Accepts found.primary.now bytes elements
      → ((x y : ℤ) → covered rects x y ≡ drawn found.number elements x y) → IsReady request.date found rects ready → Reports d bytes request.date ready.text.items ready.line.items
  reports rects ready bytes elements accepted covers is = record {
    elements = elements;
    runs = is.runs;
    accepted = subst (λ (p : List ℕ). Accepts p bytes elements) reading.primary accepted;
    reported = subst (λ (n : ℕ). ListsInOrder run_order (IsShortRun (drawn n elements) (units_of d.bound)) is.runs) reading.number
        (subst (λ (b : ℕ). ListsInOrder run_order (IsShortRun (drawn found.number elements) b) is.runs) reading.bound
        (short_same (covered rects) (drawn found.number elements) found.bound is.runs covers is.reported));
    text_is =
        is.text_is ∙ ap (λ (p : List ℕ). results_text p precision (results_in found request.date is.runs ∷ [])) reading.primary
        ∙ ap (λ (r : CheckResults). results_text d.primary precision (r ∷ [])) (same_results request.date is.runs);
    line_is = is.line_is ∙ ap (λ (r : CheckResults). said_text (r ∷ [])) (same_results request.date is.runs);
  }

  served : (ready : Ready) (bytes : List ℕ) → Outcome
  served ready bytes = record {
    status = status.Done;
    steps = reads which.Deck request.deck deck ∷ reads which.Layout d.layout bytes ∷ writes which.Results d.results ready.text.items ∷ says ready.line.items ∷ [];
  }

  pub ready_to_write : (rects : Vec Rect) (ready : Ready) → IsLayoutRead found (Ok rects) tells at new → IsReady request.date found rects.items ready
      → IsDecided (check request) (Ok ready) tells old new
  unfolding served
  ready_to_write rects ready read is = (
    served ready read.0,
    inl (record {
      deck = deck;
      d = d;
      bytes = read.0;
      text = ready.text.items;
      line = ready.line.items;
      spelled = spelled;
      reports = reports rects.items ready read.0 read.1 read.2 read.3 is;
      status_is = refl;
      steps_are = refl;
    }),
    refl,
    record {
      before = reads which.Deck request.deck deck ∷ reads which.Layout d.layout read.0 ∷ [];
      steps = ap (λ (n : List ℕ). reads which.Deck request.deck deck ∷ reads which.Layout d.layout read.0 ∷ writes which.Results n ready.text.items ∷ says ready.line.items ∷ [])
          (sym (is.file_is ∙ reading.results));
      done = both_done read.0 read.4;
    },
    is.name_is ∙ sym is.file_is,
  )
