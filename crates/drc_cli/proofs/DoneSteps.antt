-- What steps leave as it was: those that are done, those that fail, and those that make no file.
use Rattle.std.proofs.Common.{◌≡◌, ℕ, List, [], ◌∷◌, Bool, IsTrue, Option, inl, inr, ap, subst, ◌∙◌, arith}
use Rattle.std.specs.List.{AllByRecursion}
use Rattle.drc_ports.specs.Counts.{one_more, Rose}
use Rattle.drc_ports.specs.Files.{Tally, Contents, World}
use Rattle.drc_cli.specs.declared.answer.Which.{Which}
use Rattle.drc_cli.specs.Meaning.{IsHeld}
use Rattle.drc_cli.specs.Outcome.{Step, reads, writes, says}
use Rattle.drc_cli.specs.ProgramEnds.{MakesNothing}
use Rattle.drc_cli.specs.Steps.{IsDone, AreDone, Fails, IsTried}

-- ---- What steps that are done leave as it was

pub record Keeps (tells : Bool) (old new : World) : Type 0 where
  pub read_faults : new.tally.read_faults ≡ old.tally.read_faults
  pub write_faults : new.tally.write_faults ≡ old.tally.write_faults
  pub say_faults : new.tally.say_faults ≡ old.tally.say_faults
  pub held : IsTrue tells → new.contents.held ≡ old.contents.held

pub step_keeps : (tells : Bool) (step : Step) (old new : World) → IsDone tells step old new → Keeps tells old new
step_keeps tells (reads file name bytes) old new done = record {
  read_faults = ap (λ (t : Tally). t.read_faults) done.tally;
  write_faults = ap (λ (t : Tally). t.write_faults) done.tally;
  say_faults = ap (λ (t : Tally). t.say_faults) done.tally;
  held = λ told. ap (λ (c : Contents). c.held) ((done.contents told).1);
}
step_keeps tells (writes file name text) old new done = record {
  read_faults = ap (λ (t : Tally). t.read_faults) done.tally;
  write_faults = ap (λ (t : Tally). t.write_faults) done.tally;
  say_faults = ap (λ (t : Tally). t.say_faults) done.tally;
  held = λ told. ap (λ (c : Contents). c.held) ((done.contents told).1);
}
step_keeps tells (says text) old new done = record {
  read_faults = ap (λ (t : Tally). t.read_faults) done.tally;
  write_faults = ap (λ (t : Tally). t.write_faults) done.tally;
  say_faults = ap (λ (t : Tally). t.say_faults) done.tally;
  held = λ told. ap (λ (c : Contents). c.held) (done.contents told);
}

pub steps_keep : (tells : Bool) (steps : List Step) (old new : World) → AreDone tells steps old new → Keeps tells old new
steps_keep tells [] old new done = record {
  read_faults = ap (λ (w : World). w.tally.read_faults) done;
  write_faults = ap (λ (w : World). w.tally.write_faults) done;
  say_faults = ap (λ (w : World). w.tally.say_faults) done;
  held = λ told. ap (λ (w : World). w.contents.held) done;
}
steps_keep tells (step ∷ steps) old new (next, done, more) =
    let here = step_keeps tells step old next done in
    let there = steps_keep tells steps next new more in
    record {
      read_faults = there.read_faults ∙ here.read_faults;
      write_faults = there.write_faults ∙ here.write_faults;
      say_faults = there.say_faults ∙ here.say_faults;
      held = λ told. there.held told ∙ here.held told;
    }

-- ---- What was read is held

pub step_held : (tells : Bool) (step : Step) (old new : World) → IsTrue tells → IsDone tells step old new → IsHeld old.contents.held step
step_held tells (reads file name bytes) old new told done = (done.contents told).0
step_held tells (writes file name text) old new told done = tt
step_held tells (says text) old new told done = tt

pub reads_held : (tells : Bool) (steps : List Step) (old new : World) → IsTrue tells → AreDone tells steps old new → AllByRecursion (IsHeld old.contents.held) steps
reads_held tells [] old new told done = tt
reads_held tells (step ∷ steps) old new told (next, done, more) = (
  step_held tells step old next told done,
  subst (λ (held : List ℕ → Option (List ℕ)). AllByRecursion (IsHeld held) steps) ((step_keeps tells step old next done).held told) (reads_held tells steps next new told more),
)

-- ---- Steps that make no file

unfoldable pub MakesNone : Step → Type 0
MakesNone (writes file name text) = ⊥
MakesNone other = Unit {0}

pub nothing_then : (tells : Bool) (old at new : World) → MakesNothing tells old at → MakesNothing tells at new → MakesNothing tells old new
nothing_then tells old at new here more = record {
  writing = more.writing ∙ here.writing;
  write_faults = more.write_faults ∙ here.write_faults;
  made = λ told. more.made told ∙ here.made told;
}

pub made_none : (tells : Bool) (step : Step) (old new : World) → MakesNone step → IsDone tells step old new → MakesNothing tells old new
unfolding MakesNone
made_none tells (reads file name bytes) old new none done = record {
  writing = ap (λ (t : Tally). t.writing) done.tally;
  write_faults = ap (λ (t : Tally). t.write_faults) done.tally;
  made = λ told. ap (λ (c : Contents). c.made) ((done.contents told).1);
}
made_none tells (writes file name text) old new none done = absurd none
made_none tells (says text) old new none done = record {
  writing = ap (λ (t : Tally). t.writing) done.tally;
  write_faults = ap (λ (t : Tally). t.write_faults) done.tally;
  made = λ told. ap (λ (c : Contents). c.made) (done.contents told);
}

pub made_none_failed : (tells : Bool) (step : Step) (old new : World) → MakesNone step → Fails tells step old new → MakesNothing tells old new
unfolding MakesNone
made_none_failed tells (reads file name bytes) old new none (inl unopened) = record {
  writing = ap (λ (t : Tally). t.writing) unopened.tally;
  write_faults = ap (λ (t : Tally). t.write_faults) unopened.tally;
  made = λ told. ap (λ (c : Contents). c.made) (unopened.contents told);
}
made_none_failed tells (reads file name bytes) old new none (inr broken) = record {
  writing = ap (λ (t : Tally). t.writing) broken.tally;
  write_faults = ap (λ (t : Tally). t.write_faults) broken.tally;
  made = λ told. ap (λ (c : Contents). c.made) (broken.contents told);
}
made_none_failed tells (writes file name text) old new none fails = absurd none
made_none_failed tells (says text) old new none (inl unopened) = absurd unopened.tally
made_none_failed tells (says text) old new none (inr broken) = record {
  writing = ap (λ (t : Tally). t.writing) broken.tally;
  write_faults = ap (λ (t : Tally). t.write_faults) broken.tally;
  made = λ told. ap (λ (c : Contents). c.made) ((broken.contents told).2);
}

pub made_none_tried : (tells : Bool) (step : Step) (old new : World) → MakesNone step → IsTried tells step old new → MakesNothing tells old new
made_none_tried tells step old new none (inl done) = made_none tells step old new none done
made_none_tried tells step old new none (inr fails) = made_none_failed tells step old new none fails

pub none_made : (tells : Bool) (steps : List Step) (old new : World) → AllByRecursion MakesNone steps → AreDone tells steps old new → MakesNothing tells old new
none_made tells [] old new none done = record {
  writing = ap (λ (w : World). w.tally.writing) done;
  write_faults = ap (λ (w : World). w.tally.write_faults) done;
  made = λ told. ap (λ (w : World). w.contents.made) done;
}
none_made tells (step ∷ steps) old new none (next, done, more) =
    nothing_then tells old next new (made_none tells step old next none.0 done) (none_made tells steps next new none.1 more)

-- ---- What a step that fails counts

pub rose : (before now : ℕ) → now ≡ one_more before → Rose before now
rose before now e = omega (arith, e)

-- a text that is tried counts no failure to read or to write
pub record SameFaults (old new : World) : Type 0 where
  pub reads : new.tally.read_faults ≡ old.tally.read_faults
  pub writes : new.tally.write_faults ≡ old.tally.write_faults

pub say_counts : (tells : Bool) (text : List ℕ) (old new : World) → IsTried tells (says text) old new → SameFaults old new
say_counts tells text old new (inl done) = record { reads = ap (λ (t : Tally). t.read_faults) done.tally; writes = ap (λ (t : Tally). t.write_faults) done.tally }
say_counts tells text old new (inr (inl unopened)) = absurd unopened.tally
say_counts tells text old new (inr (inr broken)) = record { reads = ap (λ (t : Tally). t.read_faults) broken.tally; writes = ap (λ (t : Tally). t.write_faults) broken.tally }

pub read_fails : (tells : Bool) (file : Which) (name bytes : List ℕ) (old new : World) → Fails tells (reads file name bytes) old new → new.tally.read_faults ≡ one_more old.tally.read_faults
read_fails tells file name bytes old new (inl unopened) = ap (λ (t : Tally). t.read_faults) unopened.tally
read_fails tells file name bytes old new (inr broken) = ap (λ (t : Tally). t.read_faults) broken.tally

pub write_fails : (tells : Bool) (file : Which) (name text : List ℕ) (old new : World) → Fails tells (writes file name text) old new → new.tally.write_faults ≡ one_more old.tally.write_faults
write_fails tells file name text old new (inl unopened) = ap (λ (t : Tally). t.write_faults) unopened.tally
write_fails tells file name text old new (inr broken) = ap (λ (t : Tally). t.write_faults) broken.tally

pub say_fails : (tells : Bool) (text : List ℕ) (old new : World) → Fails tells (says text) old new → new.tally.say_faults ≡ one_more old.tally.say_faults
say_fails tells text old new (inl unopened) = absurd unopened.tally
say_fails tells text old new (inr broken) = ap (λ (t : Tally). t.say_faults) broken.tally

-- a file that is written is among the steps
