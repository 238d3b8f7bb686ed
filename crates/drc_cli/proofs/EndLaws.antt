-- What follows of how a run ends.
use Rattle.std.proofs.Common.{◌≡◌, ℕ, List, [], ◌∷◌, ◌++◌, Bool, IsTrue, Option, inl, inr, ◌⊎◌, refl, sym, ap, subst, ◌∙◌}
use Rattle.std.specs.List.{AllByRecursion}
use Rattle.drc_ports.specs.Counts.{one_more, Rose}
use Rattle.drc_ports.specs.Files.{Contents, World, HasNow}
use Rattle.drc_cli.specs.declared.answer.Status.{Status}
use Rattle.drc_cli.specs.declared.answer.Status.TheVariants as status
use Rattle.drc_cli.specs.declared.answer.Which.{Which}
use Rattle.drc_cli.specs.declared.answer.Which.TheVariants as which
use Rattle.drc_cli.specs.CheckMeaning.{CheckLeads, IsServed}
use Rattle.drc_cli.specs.FormatMeaning.{FormatLeads, SaysDeck}
use Rattle.drc_cli.specs.Command.{CheckRequest, FormatRequest, Command, check, format, Asks, AreRefused}
use Rattle.drc_cli.specs.Lines.{words_line}
use Rattle.drc_cli.specs.Meaning.{Means, Leads, IsHeld, Due, refused_words}
use Rattle.drc_cli.specs.Outcome.{Outcome, Step, reads, writes, says}
use Rattle.drc_cli.specs.ProgramEnds.{Ends, EndsAs, IsWhole, IsCut, IsUnsaid, IsFaultOf, unsaid, HasResults, HasText, HasDone, IsRefusal, MakesNothing, NoneFailed}
use Rattle.deck_printer.specs.Canonical.{canonical}
use Rattle.drc_cli.specs.Steps.{AreDone, Fails}
use Rattle.drc_cli.proofs.DoneSteps.{Keeps, steps_keep, reads_held, MakesNone, nothing_then, made_none_failed, made_none_tried, none_made, rose, say_counts, read_fails, write_fails, say_fails}
use Rattle.drc_cli.proofs.ReadsFirst.{ReadsFirst, all_front, all_back, all_both, none_before_read, no_read_behind_write, held_without_reads, reads_first}

-- ---- Refusals make no file

-- an outcome that is a refusal makes no file
check_refusal_makes_none : (request : CheckRequest) (outcome : Outcome) → CheckLeads request outcome → (outcome.status ≡ status.Done → ⊥) → AllByRecursion MakesNone outcome.steps
unfolding MakesNone
check_refusal_makes_none request outcome (inl served) undone = absurd (undone served.status_is)
check_refusal_makes_none request outcome (inr (inl refused)) undone = subst (λ (s : List Step). AllByRecursion MakesNone s) (sym refused.said.steps_are) (tt, (tt, tt))
check_refusal_makes_none request outcome (inr (inr refused)) undone = subst (λ (s : List Step). AllByRecursion MakesNone s) (sym refused.steps_are) (tt, (tt, (tt, tt)))

-- a deck that is formatted makes no file
format_makes_none : (request : FormatRequest) (outcome : Outcome) → FormatLeads request outcome → AllByRecursion MakesNone outcome.steps
unfolding MakesNone
format_makes_none request outcome (inl said) = subst (λ (s : List Step). AllByRecursion MakesNone s) (sym said.steps_are) (tt, (tt, tt))
format_makes_none request outcome (inr refused) = subst (λ (s : List Step). AllByRecursion MakesNone s) (sym refused.said.steps_are) (tt, (tt, tt))

refusal_makes_none : (words : List (List ℕ)) (outcome : Outcome) → Means words outcome → (outcome.status ≡ status.Done → ⊥) → AllByRecursion MakesNone outcome.steps
unfolding MakesNone
refusal_makes_none words outcome (inl (check request, asks, leads)) undone = check_refusal_makes_none request outcome leads undone
refusal_makes_none words outcome (inl (format request, asks, leads)) undone = format_makes_none request outcome leads
refusal_makes_none words outcome (inr (nothing, is)) undone = subst (λ (o : Outcome). AllByRecursion MakesNone o.steps) (sym is) (tt, tt)

not_done : (answer other : Status) → IsRefusal answer → answer ≡ other → other ≡ status.Done → ⊥
not_done answer other refusal same done = subst (λ (s : Status). IsRefusal s) (same ∙ done) refusal

unsaid_not_done : (answer other : Status) → IsRefusal answer → answer ≡ unsaid other → other ≡ status.Done → ⊥
unsaid_not_done answer other refusal same done = subst (λ (s : Status). IsRefusal s) (same ∙ ap (λ (s : Status). unsaid s) done) refusal

cut_unmade : (words : List (List ℕ)) (outcome : Outcome) (answer : Status) (tells : Bool) (old new : World) → Means words outcome → IsCut outcome answer tells old new → IsRefusal answer → MakesNothing tells old new
unfolding MakesNone
cut_unmade words outcome answer tells old new means cut refusal = at_step cut.step cut.steps cut.fails cut.fault where
  at_step : (step : Step) → outcome.steps ≡ cut.before ++ step ∷ cut.behind → Fails tells step cut.at cut.failed → IsFaultOf step answer cut.line → MakesNothing tells old new
  at_step (reads file name bytes) steps fails fault =
      nothing_then tells old cut.at new
      (none_made tells cut.before old cut.at (none_before_read cut.before cut.behind file name bytes (subst (λ (s : List Step). ReadsFirst s) steps (reads_first words outcome means))) cut.done)
      (nothing_then tells cut.at cut.failed new (made_none_failed tells (reads file name bytes) cut.at cut.failed tt fails) (made_none_tried tells (says cut.line) cut.failed new tt cut.said))
  at_step (writes file name text) steps fails fault = absurd (subst (λ (s : Status). IsRefusal s) fault.0 refusal)
  at_step (says text) steps fails fault = absurd fault

ends_unmade : (words : List (List ℕ)) (outcome : Outcome) (answer : Status) (tells : Bool) (old new : World) → Means words outcome → EndsAs outcome answer tells old new → IsRefusal answer → MakesNothing tells old new
unfolding MakesNone
ends_unmade words outcome answer tells old new means (inl whole) refusal =
    none_made tells outcome.steps old new (refusal_makes_none words outcome means (not_done answer outcome.status refusal whole.status_is)) whole.done
ends_unmade words outcome answer tells old new means (inr (inl cut)) refusal = cut_unmade words outcome answer tells old new means cut refusal
ends_unmade words outcome answer tells old new means (inr (inr part)) refusal =
    let none = refusal_makes_none words outcome means (unsaid_not_done answer outcome.status refusal part.status_is) in
    let front = all_front MakesNone part.before (says part.text ∷ []) (subst (λ (s : List Step). AllByRecursion MakesNone s) part.steps none) in
    nothing_then tells old part.at new (none_made tells part.before old part.at front part.done) (made_none_failed tells (says part.text) part.at new tt part.fails)

pub unmade : (words : List (List ℕ)) (answer : Status) (tells : Bool) (old new : World) → Ends words answer tells old new → IsRefusal answer → MakesNothing tells old new
unfolding MakesNone
unmade words answer tells old new (inl (outcome, means, ends)) refusal = ends_unmade words outcome answer tells old new means ends refusal
unmade words answer tells old new (inr (command, asks, memory)) refusal =
    nothing_then tells old memory.at new
    (record { writing = memory.read.writing; write_faults = memory.read.write_faults; made = λ told. ap (λ (c : Contents). c.made) (memory.read.contents told) })
    (made_none_tried tells (says _) memory.at new tt memory.said)

-- ---- Words

-- an outcome of a command isn't that its words are refused
leads_no_words : (command : Command) (outcome : Outcome) → Leads command outcome → (outcome.status ≡ status.Words → ⊥) × (unsaid outcome.status ≡ status.Words → ⊥)
leads_no_words (check request) outcome (inl served) = (
  λ words. let never : status.Done ≡ status.Words = sym served.status_is ∙ words in cc,
  λ words. let never : unsaid status.Done ≡ status.Words = ap (λ (s : Status). unsaid s) (sym served.status_is) ∙ words in cc,
)
leads_no_words (check request) outcome (inr (inl deck)) = (
  λ words. let never = sym deck.said.status_is ∙ words in cc,
  λ words. let never = ap (λ (s : Status). unsaid s) (sym deck.said.status_is) ∙ words in cc,
)
leads_no_words (check request) outcome (inr (inr layout)) = (
  λ words. let never = sym layout.status_is ∙ words in cc,
  λ words. let never = ap (λ (s : Status). unsaid s) (sym layout.status_is) ∙ words in cc,
)
leads_no_words (format request) outcome (inl said) = (
  λ words. let never : status.Done ≡ status.Words = sym said.status_is ∙ words in cc,
  λ words. let never : unsaid status.Done ≡ status.Words = ap (λ (s : Status). unsaid s) (sym said.status_is) ∙ words in cc,
)
leads_no_words (format request) outcome (inr refused) = (
  λ words. let never = sym refused.said.status_is ∙ words in cc,
  λ words. let never = ap (λ (s : Status). unsaid s) (sym refused.said.status_is) ∙ words in cc,
)

never_words : (command : Command) (outcome : Outcome) (answer : Status) (tells : Bool) (old new : World) → Leads command outcome → EndsAs outcome answer tells old new → answer ≡ status.Words → ⊥
never_words command outcome answer tells old new leads (inl whole) words = (leads_no_words command outcome leads).0 (sym whole.status_is ∙ words)
never_words command outcome answer tells old new leads (inr (inl cut)) words = by_step cut.step cut.fault where
  by_step : (step : Step) → IsFaultOf step answer cut.line → ⊥
  by_step (reads file name bytes) fault = let never = sym fault.0 ∙ words in cc
  by_step (writes file name text) fault = let never = sym fault.0 ∙ words in cc
  by_step (says text) fault = fault
never_words command outcome answer tells old new leads (inr (inr part)) words = (leads_no_words command outcome leads).1 (sym part.status_is ∙ words)

pub says_words : (words : List (List ℕ)) (answer : Status) (tells : Bool) (old new : World) → Ends words answer tells old new → answer ≡ status.Words → AreRefused words
says_words words answer tells old new (inl (outcome, inl (command, asks, leads), ends)) is = absurd (never_words command outcome answer tells old new leads ends is)
says_words words answer tells old new (inl (outcome, inr (nothing, same), ends)) is = nothing
says_words words answer tells old new (inr (command, asks, memory)) is = let never : status.NoMemory ≡ status.Words = sym memory.status_is ∙ is in absurd cc

refused_alone : (outcome : Outcome) (answer : Status) (tells : Bool) (old new : World) → outcome ≡ refused_words → EndsAs outcome answer tells old new → answer ≡ status.Words
refused_alone outcome answer tells old new same (inl whole) = whole.status_is ∙ ap (λ (o : Outcome). o.status) same
refused_alone outcome answer tells old new same (inr (inl cut)) = absurd (nowhere cut.before cut.step cut.fault (sym (ap (λ (o : Outcome). o.steps) same) ∙ cut.steps)) where
  nowhere : (before : List Step) (step : Step) → IsFaultOf step answer cut.line → says words_line ∷ [] ≡ before ++ step ∷ cut.behind → ⊥
  nowhere [] (reads f n b) fault e = cc
  nowhere [] (writes f n t) fault e = cc
  nowhere [] (says t) fault e = fault
  nowhere (a ∷ []) step fault e = cc
  nowhere (a ∷ b ∷ before) step fault e = cc
refused_alone outcome answer tells old new same (inr (inr part)) = part.status_is ∙ ap (λ (o : Outcome). unsaid o.status) same

pub must_say_words : (words : List (List ℕ)) (answer : Status) (tells : Bool) (old new : World) → Ends words answer tells old new → AreRefused words → answer ≡ status.Words
must_say_words words answer tells old new (inl (outcome, inl (command, asks, leads), ends)) nothing = absurd (nothing command asks)
must_say_words words answer tells old new (inl (outcome, inr (none, same), ends)) nothing = refused_alone outcome answer tells old new same ends
must_say_words words answer tells old new (inr (command, asks, memory)) nothing = absurd (nothing command asks)

-- ---- Results

served_results : (request : CheckRequest) (outcome : Outcome) (tells : Bool) (old new : World) → IsTrue tells → (served : IsServed request outcome)
    → AreDone tells (reads which.Deck request.deck served.deck ∷ reads which.Layout served.d.layout served.bytes ∷ writes which.Results served.d.results served.text ∷ says served.line ∷ []) old new
    → HasResults request old.contents new.contents
served_results request outcome tells old new told served (a, deck_read, (b, layout_read, (c, written, (e, said, end)))) =
    let deck_held = deck_read.contents told in
    let layout_held = layout_read.contents told in
    let made = written.contents told in
    let line = said.contents told in
    let made_before : b.contents.made ≡ old.contents.made = ap (λ (x : Contents). x.made) layout_held.1 ∙ ap (λ (x : Contents). x.made) deck_held.1 in
    let made_after : new.contents.made ≡ c.contents.made = ap (λ (w : World). w.contents.made) end ∙ ap (λ (x : Contents). x.made) line in
    let said_before : c.contents.said ≡ old.contents.said =
    ap (λ (x : Contents). x.said) made.1 ∙ ap (λ (x : Contents). x.said) layout_held.1 ∙ ap (λ (x : Contents). x.said) deck_held.1 in
    record {
      deck = served.deck;
      d = served.d;
      bytes = served.bytes;
      text = served.text;
      line = served.line;
      deck_held = deck_held.0;
      spelled = served.spelled;
      layout_held = ap (λ (x : Contents). x.held served.d.layout) (sym deck_held.1) ∙ layout_held.0;
      reports = served.reports;
      made = subst (λ (m : List ℕ → Option (List ℕ)). HasNow served.d.results served.text m new.contents.made) made_before
          (subst (λ (m : List ℕ → Option (List ℕ)). HasNow served.d.results served.text b.contents.made m) (sym made_after) made.0);
      said = ap (λ (w : World). w.contents.said) end ∙ ap (λ (x : Contents). x.said) line ∙ ap (λ (t : List ℕ). t ++ served.line) said_before;
    }

-- steps that are done say a text and make no file
said_text : (request : FormatRequest) (outcome : Outcome) (tells : Bool) (old new : World) → IsTrue tells → (says_it : SaysDeck request outcome)
    → AreDone tells (reads which.Deck request.deck says_it.text ∷ says (canonical says_it.deck) ∷ []) old new → HasText request old.contents new.contents
said_text request outcome tells old new told says_it (a, deck_read, (b, said, end)) =
    let held = deck_read.contents told in
    let line = said.contents told in
    record {
      text = says_it.text;
      deck = says_it.deck;
      text_held = held.0;
      is_deck = says_it.is_deck;
      made = ap (λ (w : World). w.contents.made) end ∙ ap (λ (x : Contents). x.made) line ∙ ap (λ (x : Contents). x.made) held.1;
      said = ap (λ (w : World). w.contents.said) end ∙ ap (λ (x : Contents). x.said) line ∙ ap (λ (t : List ℕ). t ++ canonical says_it.deck) (ap (λ (x : Contents). x.said) held.1);
    }

-- a run that is done did all steps of its outcome, whose status is that
record IsDoneWhole (outcome : Outcome) (tells : Bool) (old new : World) : Type 0 where
  status_is : outcome.status ≡ status.Done
  done : AreDone tells outcome.steps old new

unsaid_undone : (other : Status) → unsaid other ≡ status.Done → ⊥
unsaid_undone status.Done e = cc
unsaid_undone status.Words e = cc
unsaid_undone (status.Deck r) e = cc
unsaid_undone (status.Layout r) e = cc
unsaid_undone (status.ReadFault file) e = cc
unsaid_undone (status.WriteFault file) e = cc
unsaid_undone status.NoMemory e = cc

done_whole : (outcome : Outcome) (answer : Status) (tells : Bool) (old new : World) → answer ≡ status.Done → EndsAs outcome answer tells old new → IsDoneWhole outcome tells old new
done_whole outcome answer tells old new done (inl whole) = record { status_is = sym whole.status_is ∙ done; done = whole.done }
done_whole outcome answer tells old new done (inr (inl cut)) = absurd (by_step cut.step cut.fault) where
  by_step : (step : Step) → IsFaultOf step answer cut.line → ⊥
  by_step (reads file name bytes) fault = let never = sym fault.0 ∙ done in cc
  by_step (writes file name text) fault = let never = sym fault.0 ∙ done in cc
  by_step (says text) fault = fault
done_whole outcome answer tells old new done (inr (inr part)) = absurd (unsaid_undone outcome.status (sym part.status_is ∙ done))

command_done : (command : Command) (outcome : Outcome) (tells : Bool) (old new : World) → IsTrue tells → Leads command outcome → IsDoneWhole outcome tells old new
    → HasDone command old.contents new.contents
command_done (check request) outcome tells old new told (inl served) whole =
    served_results request outcome tells old new told served (subst (λ (s : List Step). AreDone tells s old new) served.steps_are whole.done)
command_done (check request) outcome tells old new told (inr (inl deck)) whole = let never = sym whole.status_is ∙ deck.said.status_is in absurd cc
command_done (check request) outcome tells old new told (inr (inr layout)) whole = let never = sym whole.status_is ∙ layout.status_is in absurd cc
command_done (format request) outcome tells old new told (inl said) whole =
    said_text request outcome tells old new told said (subst (λ (s : List Step). AreDone tells s old new) said.steps_are whole.done)
command_done (format request) outcome tells old new told (inr refused) whole = let never = sym whole.status_is ∙ refused.said.status_is in absurd cc

pub has_done : (words : List (List ℕ)) (answer : Status) (tells : Bool) (old new : World) → IsTrue tells → answer ≡ status.Done → Ends words answer tells old new
    → (command : Command) × Asks words command × HasDone command old.contents new.contents
has_done words answer tells old new told done (inl (outcome, inl (command, asks, leads), ends)) =
    (command, asks, command_done command outcome tells old new told leads (done_whole outcome answer tells old new done ends))
has_done words answer tells old new told done (inl (outcome, inr (nothing, same), ends)) =
    let never : status.Done ≡ status.Words = sym done ∙ refused_alone outcome answer tells old new same ends in absurd cc
has_done words answer tells old new told done (inr (command, asks, memory)) = let never : status.Done ≡ status.NoMemory = sym done ∙ memory.status_is in absurd cc

-- ---- Which outcome it is that a run ends with

-- a file that is written is among the steps
record HasWrite (steps : List Step) : Type 0 where
  file : Which
  name : List ℕ
  text : List ℕ
  before : List Step
  behind : List Step
  are : steps ≡ before ++ writes file name text ∷ behind

module _ (words : List (List ℕ)) (outcome : Outcome) (answer : Status) (tells : Bool) (old new : World) (told : IsTrue tells) (means : Means words outcome) where
  -- the step at which a run was cut is a file that is written, if no read failed
  cut_is_due : IsCut outcome answer tells old new → (Rose old.tally.read_faults new.tally.read_faults → ⊥) → Due old.contents.held words outcome × Rose old.tally.write_faults new.tally.write_faults × HasWrite outcome.steps
  cut_is_due cut none = at_step cut.step cut.steps cut.fails cut.fault where
    kept : Keeps tells old cut.at
    kept = steps_keep tells cut.before old cut.at cut.done

    at_step : (step : Step) → outcome.steps ≡ cut.before ++ step ∷ cut.behind → Fails tells step cut.at cut.failed → IsFaultOf step answer cut.line
        → Due old.contents.held words outcome × Rose old.tally.write_faults new.tally.write_faults × HasWrite outcome.steps
    at_step (reads file name bytes) steps fails fault = absurd (none (rose old.tally.read_faults new.tally.read_faults
        ((say_counts tells cut.line cut.failed new cut.said).reads ∙ read_fails tells file name bytes cut.at cut.failed fails ∙ ap (λ (n : ℕ). one_more n) kept.read_faults)))
    at_step (writes file name text) steps fails fault = (
      record {
        meant = means;
        reads_held = subst (λ (s : List Step). AllByRecursion (IsHeld old.contents.held) s) (sym steps)
            (all_both (IsHeld old.contents.held) cut.before (writes file name text ∷ cut.behind) (reads_held tells cut.before old cut.at told cut.done) (
              tt,
              held_without_reads old.contents.held cut.behind
                  (no_read_behind_write cut.before cut.behind file name text (subst (λ (s : List Step). ReadsFirst s) steps (reads_first words outcome means))),
            ));
      },
      rose old.tally.write_faults new.tally.write_faults
          ((say_counts tells cut.line cut.failed new cut.said).writes ∙ write_fails tells file name text cut.at cut.failed fails ∙ ap (λ (n : ℕ). one_more n) kept.write_faults),
      record { file = file; name = name; text = text; before = cut.before; behind = cut.behind; are = steps },
    )
    at_step (says text) steps fails fault = absurd fault

  whole_is_due : IsWhole outcome answer tells old new → Due old.contents.held words outcome
  whole_is_due whole = record { meant = means; reads_held = reads_held tells outcome.steps old new told whole.done }

  unsaid_is_due : IsUnsaid outcome answer tells old new → Due old.contents.held words outcome
  unsaid_is_due part = record {
    meant = means;
    reads_held = subst (λ (s : List Step). AllByRecursion (IsHeld old.contents.held) s) (sym part.steps)
        (all_both (IsHeld old.contents.held) part.before (says part.text ∷ []) (reads_held tells part.before old part.at told part.done) (tt, tt));
  }

  unsaid_rose : IsUnsaid outcome answer tells old new → Rose old.tally.say_faults new.tally.say_faults
  unsaid_rose part = rose old.tally.say_faults new.tally.say_faults
      (say_fails tells part.text part.at new part.fails ∙ ap (λ (n : ℕ). one_more n) (steps_keep tells part.before old part.at part.done).say_faults)

-- ---- The outcome that is due is what happens

-- over given files words have at most one outcome
abbrev pub OneOutcome : Type 0
OneOutcome = (held : List ℕ → Option (List ℕ)) (words : List (List ℕ)) (one other : Outcome) → Due held words one → Due held words other → one ≡ other

same_whole : (a b : Outcome) (answer : Status) (tells : Bool) (old new : World) → a ≡ b → IsWhole a answer tells old new → IsWhole b answer tells old new
same_whole a b answer tells old new same whole = subst (λ (o : Outcome). IsWhole o answer tells old new) same whole

pub complete : OneOutcome → (words : List (List ℕ)) (answer : Status) (tells : Bool) (old new : World) → IsTrue tells → Ends words answer tells old new → (due : Outcome) → Due old.contents.held words due
    → NoneFailed old.tally new.tally → IsWhole due answer tells old new ⊎ (answer ≡ status.NoMemory)
complete law words answer tells old new told (inl (outcome, means, inl whole)) due is none =
    inl (same_whole outcome due answer tells old new (law old.contents.held words outcome due (whole_is_due words outcome answer tells old new told means whole) is) whole)
complete law words answer tells old new told (inl (outcome, means, inr (inl cut))) due is none = absurd (none.writes (cut_is_due words outcome answer tells old new told means cut none.reads).1)
complete law words answer tells old new told (inl (outcome, means, inr (inr part))) due is none = absurd (none.says (unsaid_rose words outcome answer tells old new told means part))
complete law words answer tells old new told (inr (command, asks, memory)) due is none = inr memory.status_is

-- an outcome that is a refusal has no file that is written
no_write : (before behind : List Step) (file : Which) (name text : List ℕ) → AllByRecursion MakesNone (before ++ writes file name text ∷ behind) → ⊥
unfolding MakesNone
no_write before behind file name text all = (all_back MakesNone before (writes file name text ∷ behind) all).0

refusal_undone : (other : Status) → IsRefusal other → other ≡ status.Done → ⊥
refusal_undone other refusal done = subst (λ (s : Status). IsRefusal s) done refusal

refusal_unsaid : (other : Status) → IsRefusal other → unsaid other ≡ other
refusal_unsaid status.Done refusal = absurd refusal
refusal_unsaid status.Words refusal = refl
refusal_unsaid (status.Deck r) refusal = refl
refusal_unsaid (status.Layout r) refusal = refl
refusal_unsaid (status.ReadFault file) refusal = refl
refusal_unsaid (status.WriteFault file) refusal = absurd refusal
refusal_unsaid status.NoMemory refusal = refl

pub refused : OneOutcome → (words : List (List ℕ)) (answer : Status) (tells : Bool) (old new : World) → IsTrue tells → Ends words answer tells old new → (due : Outcome) → Due old.contents.held words due
    → IsRefusal due.status → (Rose old.tally.read_faults new.tally.read_faults → ⊥) → (answer ≡ due.status) ⊎ (answer ≡ status.NoMemory)
refused law words answer tells old new told (inl (outcome, means, inl whole)) due is refusal none =
    inl (whole.status_is ∙ ap (λ (o : Outcome). o.status) (law old.contents.held words outcome due (whole_is_due words outcome answer tells old new told means whole) is))
refused law words answer tells old new told (inl (outcome, means, inr (inl cut))) due is refusal none =
    let found = cut_is_due words outcome answer tells old new told means cut none in
    let same = law old.contents.held words outcome due found.0 is in
    let written = found.2 in
    absurd (no_write written.before written.behind written.file written.name written.text
    (subst (λ (s : List Step). AllByRecursion MakesNone s) (sym (ap (λ (o : Outcome). o.steps) same) ∙ written.are) (refusal_makes_none words due is.meant (refusal_undone due.status refusal))))
refused law words answer tells old new told (inl (outcome, means, inr (inr part))) due is refusal none =
    let same = law old.contents.held words outcome due (unsaid_is_due words outcome answer tells old new told means part) is in
    inl (part.status_is ∙ ap (λ (o : Outcome). unsaid o.status) same ∙ refusal_unsaid due.status refusal)
refused law words answer tells old new told (inr (command, asks, memory)) due is refusal none = inr memory.status_is
