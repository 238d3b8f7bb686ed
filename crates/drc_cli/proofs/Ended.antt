-- How a run ends, from what was decided and what was then done.
use Rattle.std.proofs.Common.{◌≡◌, ℕ, List, [], ◌∷◌, Bool, Result, Ok, Err, inl, inr, refl, sym, subst, arith}
use Rattle.drc_ports.specs.declared.failed.Failed.{Failed}
use Rattle.drc_ports.specs.Files.{World}
use Rattle.drc_cli.specs.declared.answer.Status.{Status}
use Rattle.drc_cli.specs.declared.answer.Status.TheVariants as status
use Rattle.drc_cli.specs.declared.ending.Ending.{Ending}
use Rattle.drc_cli.specs.declared.ending.Ending.TheVariants as ending
use Rattle.drc_cli.specs.declared.ready.Ready.{Ready}
use Rattle.drc_cli.specs.Working.CommandEnds.{CommandEnds}
use Rattle.std.specs.Global.{Vec}
use Rattle.drc_cli.specs.Command.{Command, AreRefused}
use Rattle.drc_cli.specs.Working.Decide.{Leaves, last_steps, IsEnded, IsDecided, IsPrinted}
use Rattle.drc_cli.specs.Working.Endings.{status_of, line_of}
use Rattle.drc_cli.specs.Lines.{deck_line, layout_line, read_line, memory_line, words_line}
use Rattle.drc_cli.specs.Meaning.{Leads, refused_words}
use Rattle.drc_cli.specs.Outcome.{Outcome, reads, says}
use Rattle.drc_cli.specs.ProgramEnds.{Ends, EndsAs, IsOutOfMemory, unsaid}
use Rattle.drc_cli.specs.Working.Tries.{Tries}
use Rattle.drc_cli.proofs.StepLaws.{one_done, ends_with, tried}

-- ---- A refusal, of which the line alone is left

said_alone : (refused : Status) (text : List ℕ) (tells : Bool) (result : Result (Unit {0}) Failed) (at new : World) → unsaid refused ≡ refused → Tries tells (says text) result at new
    → EndsAs (record { status = refused; steps = says text ∷ [] }) refused tells at new
said_alone refused text tells (Ok u) at new kept said = inl (record { status_is = refl; done = one_done tells (says text) at new said })
said_alone refused text tells (Err failed) at new kept said = inr (inr (record {
  before = [];
  text = text;
  at = at;
  steps = refl;
  done = refl;
  fails = said;
  status_is = sym kept;
}))

module _ (command : Command) (tells : Bool) (old at new : World) where
  refused : (answer : Status) (text : List ℕ) (result : Result (Unit {0}) Failed) (outcome : Outcome) → Leads command outcome → outcome.status ≡ answer → unsaid answer ≡ answer
      → Leaves outcome (says text ∷ []) tells old at → Tries tells (says text) result at new → CommandEnds command answer tells old new
  refused answer text result outcome leads status_is kept left said =
      let ends : EndsAs (record { status = outcome.status; steps = says text ∷ [] }) answer tells at new = subst (λ (s : Status). EndsAs (record { status = s; steps = says text ∷ [] }) answer tells at new) (sym status_is)
      (said_alone answer text tells result at new kept said) in
      inl (outcome, leads, ends_with outcome (says text ∷ []) answer tells old at new left ends)

  pub ended_before_writing : (end : Ending) (result : Result (Unit {0}) Failed) → IsEnded command end tells old at → Tries tells (says (line_of end)) result at new
      → CommandEnds command (status_of end) tells old new
  ended_before_writing (ending.Deck refusal detail) result (outcome, leads, status_is, left) said =
      refused (status.Deck refusal) (deck_line refusal detail) result outcome leads status_is refl left said
  ended_before_writing (ending.Layout refusal) result (outcome, leads, status_is, left) said =
      refused (status.Layout refusal) (layout_line refusal) result outcome leads status_is refl left said
  ended_before_writing (ending.ReadFault file name) result (outcome, leads, failed) said = inl (
    outcome,
    leads,
    inr (inl (record {
      before = failed.left.before;
      step = reads file name [];
      behind = failed.behind;
      line = read_line name;
      at = failed.at;
      failed = at;
      steps = failed.left.steps;
      done = failed.left.done;
      fails = failed.fails;
      fault = (refl, refl);
      said = tried tells (says (read_line name)) result at new said;
    })),
  )
  ended_before_writing ending.Memory result read said = inr (record {
    status_is = refl;
    at = at;
    read = read;
    said = tried tells (says memory_line) result at new said;
  })

  pub ended_by_writing : (ready : Ready) (answer : Status) → IsDecided command (Ok ready) tells old at
      → EndsAs (record { status = status.Done; steps = last_steps ready }) answer tells at new → CommandEnds command answer tells old new
  ended_by_writing ready answer (outcome, leads, status_is, left, named) ends =
      inl (
        outcome,
        leads,
        ends_with outcome (last_steps ready) answer tells old at new left
            (subst (λ (s : Status). EndsAs (record { status = s; steps = last_steps ready }) answer tells at new) (sym status_is) ends),
      )

  pub ended_by_saying : (text : Vec ℕ) (answer : Status) → IsPrinted command (Ok text) tells old at
      → EndsAs (record { status = status.Done; steps = says text.items ∷ [] }) answer tells at new → CommandEnds command answer tells old new
  ended_by_saying text answer (outcome, leads, status_is, left) ends =
      inl (
        outcome,
        leads,
        ends_with outcome (says text.items ∷ []) answer tells old at new left
            (subst (λ (s : Status). EndsAs (record { status = s; steps = says text.items ∷ [] }) answer tells at new) (sym status_is) ends),
      )

-- ---- Words that ask for nothing

pub words_refused : (words : List (List ℕ)) (tells : Bool) (result : Result (Unit {0}) Failed) (old new : World) → AreRefused words → Tries tells (says words_line) result old new
    → Ends words status.Words tells old new
words_refused words tells result old new nothing said = inl (refused_words, inr (nothing, refl), said_alone status.Words words_line tells result old new refl said)

-- ---- Words that can't be kept

pub memory_alone : (tells : Bool) (result : Result (Unit {0}) Failed) (old new : World) → Tries tells (says memory_line) result old new → IsOutOfMemory status.NoMemory tells old new
memory_alone tells result old new said = record {
  status_is = refl;
  at = old;
  read = record { read_faults = refl; write_faults = refl; say_faults = refl; writing = refl; begun = omega arith; contents = λ told. refl };
  said = tried tells (says memory_line) result old new said;
}
