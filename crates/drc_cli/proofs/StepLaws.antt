-- Lists of steps: done one part after the other; and texts that are said in pieces.
use Rattle.std.proofs.Common.{◌≡◌, ℕ, List, [], ◌∷◌, ◌++◌, Option, Bool, IsTrue, Some, Result, Ok, Err, false, is_err, inl, inr, refl, sym, ap, subst, ◌∙◌, arith, append_assoc, length-append}
use Rattle.drc_ports.specs.declared.failed.Failed.{Failed}
use Rattle.drc_ports.specs.Counts.{one_more}
use Rattle.std.specs.Prelude.{codes, decimal}
use Rattle.drc_ports.specs.Files.{Tally, Contents, World, HasNow, Creates, create_tally, BeginsRead, begin_read_tally}
use Rattle.drc_cli.specs.declared.answer.Status.{Status}
use Rattle.drc_cli.specs.declared.answer.Status.TheVariants as status
use Rattle.drc_cli.specs.declared.answer.Which.{Which}
use Rattle.drc_cli.specs.Working.Decide.{Leaves}
use Rattle.drc_cli.specs.Lines.{Refusal, refusal_line, write_line}
use Rattle.drc_cli.specs.Outcome.{Outcome, Step, reads, writes, says}
use Rattle.drc_cli.specs.ProgramEnds.{EndsAs}
use Rattle.drc_cli.specs.Steps.{Changes, IsDone, AreDone, IsCutShort, Fails, IsTried}
use Rattle.drc_cli.specs.Working.Endings.{said_status}
use Rattle.drc_cli.specs.Working.Tries.{Tries}
use Rattle.drc_cli.specs.Working.Whole.{write_all_tally, WritesAll}

-- ---- One after the other

pub done_then : (tells : Bool) (first last : List Step) (old at new : World) → AreDone tells first old at → AreDone tells last at new
    → AreDone tells (first ++ last) old new
done_then tells [] last old at new here more = subst (λ (w : World). AreDone tells last w new) here more
done_then tells (step ∷ first) last old at new here more = (here.0, here.1, done_then tells first last here.0 at new here.2 more)

pub one_done : (tells : Bool) (step : Step) (old new : World) → IsDone tells step old new → AreDone tells (step ∷ []) old new
one_done tells step old new done = (new, done, refl)

-- the last steps end the outcome
module _ (outcome : Outcome) (last : List Step) (answer : Status) (tells : Bool) (old at new : World) (left : Leaves outcome last tells old at) where
  steps_with : (first more : List Step) → last ≡ first ++ more → outcome.steps ≡ (left.before ++ first) ++ more
  steps_with first more e = left.steps ∙ ap (λ (s : List Step). left.before ++ s) e ∙ sym (append_assoc left.before first more)

  pub ends_with : EndsAs (record { status = outcome.status; steps = last }) answer tells at new → EndsAs outcome answer tells old new
  ends_with (inl whole) = inl (record {
    status_is = whole.status_is;
    done = subst (λ (s : List Step). AreDone tells s old new) (sym left.steps) (done_then tells left.before last old at new left.done whole.done);
  })
  ends_with (inr (inl cut)) = inr (inl (record {
    before = left.before ++ cut.before;
    step = cut.step;
    behind = cut.behind;
    line = cut.line;
    at = cut.at;
    failed = cut.failed;
    steps = steps_with cut.before (cut.step ∷ cut.behind) cut.steps;
    done = done_then tells left.before cut.before old at cut.at left.done cut.done;
    fails = cut.fails;
    fault = cut.fault;
    said = cut.said;
  }))
  ends_with (inr (inr unsaid)) = inr (inr (record {
    before = left.before ++ unsaid.before;
    text = unsaid.text;
    at = unsaid.at;
    steps = steps_with unsaid.before (says unsaid.text ∷ []) unsaid.steps;
    done = done_then tells left.before unsaid.before old at unsaid.at left.done unsaid.done;
    fails = unsaid.fails;
    status_is = unsaid.status_is;
  }))

-- ---- Texts in pieces

pub tried : (tells : Bool) (step : Step) (result : Result (Unit {0}) Failed) (old new : World) → Tries tells step result old new → IsTried tells step old new
tried tells step (Ok u) old new tries = inl tries
tried tells step (Err failed) old new tries = inr tries

longer : (first second front : List ℕ) → IsCutShort first front → IsCutShort (first ++ second) front
longer first second front cut = record {
  rest = cut.rest ++ second;
  parts = ap (λ (t : List ℕ). t ++ second) cut.parts ∙ append_assoc front cut.rest second;
  short = omega (arith, cut.short, length-append cut.rest second);
}

later : (first second front : List ℕ) → IsCutShort second front → IsCutShort (first ++ second) (first ++ front)
later first second front cut = record {
  rest = cut.rest;
  parts = ap (λ (t : List ℕ). first ++ t) cut.parts ∙ sym (append_assoc first front cut.rest);
  short = cut.short;
}

-- the first piece can't be said whole
pub fails_first : (tells : Bool) (first second : List ℕ) (old new : World) → Fails tells (says first) old new → Fails tells (says (first ++ second)) old new
fails_first tells first second old new (inl unopened) = absurd unopened.tally
fails_first tells first second old new (inr broken) = inr (record {
  tally = broken.tally;
  contents = λ told. let part = broken.contents told in (part.0, longer first second part.0 part.1, part.2);
})

contents_eq : (a b old at new : List ℕ) → at ≡ old ++ a → new ≡ at ++ b → new ≡ old ++ (a ++ b)
contents_eq a b old at new p q = q ∙ ap (λ (t : List ℕ). t ++ b) p ∙ append_assoc old a b

said_twice : (a b : List ℕ) (old at new : Contents) → Changes (says a) old at → Changes (says b) at new → Changes (says (a ++ b)) old new
said_twice a b old at new p q =
    let said = contents_eq a b old.said at.said new.said (ap (λ (c : Contents). c.said) p) (ap (λ (c : Contents). c.said) q) in
    q ∙ ap (λ (c : Contents). record c { said = c.said ++ b }) p ∙ ap (λ (t : List ℕ). record old { said = t }) (append_assoc old.said a b)

-- the second piece follows the first
pub says_then : (tells : Bool) (first second : List ℕ) (result : Result (Unit {0}) Failed) (old at new : World) → IsDone tells (says first) old at
    → Tries tells (says second) result at new → Tries tells (says (first ++ second)) result old new
says_then tells first second (Ok u) old at new done more = record {
  tally = more.tally ∙ done.tally;
  contents = λ told. said_twice first second old.contents at.contents new.contents (done.contents told) (more.contents told);
}
says_then tells first second (Err failed) old at new done (inl unopened) = absurd unopened.tally
says_then tells first second (Err failed) old at new done (inr broken) = inr (record {
  tally = broken.tally ∙ ap (λ (t : Tally). record t { say_faults = one_more t.say_faults }) done.tally;
  contents = λ told. let part = broken.contents told in (
    first ++ part.0,
    later first second part.0 part.1,
    said_twice first part.0 old.contents at.contents new.contents (done.contents told) part.2,
  );
})

-- a text that is spelled in another way
pub fails_as : (tells : Bool) (text first second : List ℕ) (old new : World) → first ++ second ≡ text → Fails tells (says first) old new → Fails tells (says text) old new
fails_as tells text first second old new same fails = subst (λ (t : List ℕ). Fails tells (says t) old new) same (fails_first tells first second old new fails)

pub says_as : (tells : Bool) (text first second : List ℕ) (result : Result (Unit {0}) Failed) (old at new : World) → first ++ second ≡ text → IsDone tells (says first) old at
    → Tries tells (says second) result at new → Tries tells (says text) result old new
says_as tells text first second result old at new same done more =
    subst (λ (t : List ℕ). Tries tells (says t) result old new) same (says_then tells first second result old at new done more)

grouped : (file a number b at c word detail end : List ℕ) → (file ++ a ++ number) ++ (b ++ at ++ c ++ (word ++ detail ++ end)) ≡ file ++ a ++ number ++ b ++ at ++ c ++ word ++ detail ++ end
grouped file a number b at c word detail end = simp append_assoc

pub line_parts : (file digits : List ℕ) (reason : Refusal) → digits ≡ decimal reason.number
    → (file ++ codes " " ++ digits) ++ (codes " at " ++ decimal reason.at ++ codes " " ++ (reason.word ++ reason.detail ++ codes "\n")) ≡ refusal_line file reason
line_parts file digits reason printed =
    ap (λ (t : List ℕ). (file ++ codes " " ++ t) ++ (codes " at " ++ decimal reason.at ++ codes " " ++ (reason.word ++ reason.detail ++ codes "\n"))) printed
    ∙ grouped file (codes " ") (decimal reason.number) (codes " at ") (decimal reason.at) (codes " ") reason.word reason.detail (codes "\n")

-- ---- A file that is made

has_then : (name a b : List ℕ) (old at new : List ℕ → Option (List ℕ)) → HasNow name a old at → HasNow name b at new → HasNow name b old new
has_then name a b old at new p q = record { there = q.there; others = λ other ne. q.others other ne ∙ p.others other ne }

written_to : (which : Which) (name text : List ℕ) (old at new : Contents) → Creates name (Ok tt) old at → HasNow at.target text at.made new.made → new ≡ record at { made = new.made }
    → Changes (writes which name text) old new
written_to which name text old at new (made, is) has same =
    let here : at.target ≡ name = ap (λ (c : Contents). c.target) is in (
      has_then name [] text old.made at.made new.made made (subst (λ (t : List ℕ). HasNow t text at.made new.made) here has),
      same ∙ ap (λ (c : Contents). record c { made = new.made }) is,
    )

-- what is written to a file that was just made is the file
pub file_written : (tells : Bool) (which : Which) (name text : List ℕ) (result : Result (Unit {0}) Failed) (old at new : World) → at.tally ≡ create_tally name (Ok tt) old.tally
    → (IsTrue tells → Creates name (Ok tt) old.contents at.contents) → new.tally ≡ write_all_tally result at.tally
    → (IsTrue tells → WritesAll [] text result at.contents new.contents) → Tries tells (writes which name text) result old new
file_written tells which name text (Ok u) old at new begun created counted written = record {
  tally = counted ∙ begun;
  contents = λ told. let w = written told in written_to which name text old.contents at.contents new.contents (created told) w.0 w.1;
}
file_written tells which name text (Err failed) old at new begun created counted written = inr (record {
  tally = counted ∙ ap (λ (t : Tally). record t { write_faults = one_more t.write_faults }) begun;
  contents = λ told. let w = written told in (w.0, w.1, written_to which name w.0 old.contents at.contents new.contents (created told) w.2 w.3);
})

-- ---- A command that is done but for its text

pub said_last : (tells : Bool) (text : List ℕ) (result : Result (Unit {0}) Failed) (old new : World) → Tries tells (says text) result old new
    → EndsAs (record { status = status.Done; steps = says text ∷ [] }) (said_status result) tells old new
said_last tells text (Ok u) old new said = inl (record { status_is = refl; done = one_done tells (says text) old new said })
said_last tells text (Err failed) old new unsaid = inr (inr (record {
  before = [];
  text = text;
  at = old;
  steps = refl;
  done = refl;
  fails = unsaid;
  status_is = refl;
}))

-- ---- A command that is ready: it writes its file and says its line

module _ (tells : Bool) (which : Which) (name text line : List ℕ) where
  abbrev pub results : Outcome
  results = record { status = status.Done; steps = writes which name text ∷ says line ∷ [] }

  pub published : (answer : Status) (old at new : World) → IsDone tells (writes which name text) old at
      → EndsAs (record { status = status.Done; steps = says line ∷ [] }) answer tells at new → EndsAs results answer tells old new
  published answer old at new written ends =
      ends_with results (says line ∷ []) answer tells old at new (record { before = writes which name text ∷ []; steps = refl; done = (at, written, refl) }) ends

  pub unpublished : (result : Result (Unit {0}) Failed) (old at new : World) → Fails tells (writes which name text) old at → Tries tells (says (write_line name)) result at new
      → EndsAs results (status.WriteFault which) tells old new
  unpublished result old at new failed said = inr (inl (record {
    before = [];
    step = writes which name text;
    behind = says line ∷ [];
    line = write_line name;
    at = old;
    failed = at;
    steps = refl;
    done = refl;
    fails = failed;
    fault = (refl, refl);
    said = tried tells (says (write_line name)) result at new said;
  }))

-- ---- A file that is read

changes_read : (which : Which) (name bytes : List ℕ) (old at new : Contents) → BeginsRead name (Ok tt) old at → new ≡ record at { left = new.left } → at.left ≡ bytes
    → Changes (reads which name bytes) old new
changes_read which name bytes old at new (here, held, is) same left =
    (held ∙ ap (λ (b : List ℕ). Some b) (sym (ap (λ (c : Contents). c.left) is) ∙ left), same ∙ ap (λ (c : Contents). record c { left = new.left }) is)

-- a file was opened, and these are its bytes
pub file_read : (tells : Bool) (which : Which) (name bytes : List ℕ) (result : Result (Unit {0}) Failed) (old at new : World) → is_err result ≡ false
    → at.tally ≡ begin_read_tally name result old.tally → (IsTrue tells → BeginsRead name result old.contents at.contents) → new.tally ≡ at.tally
    → (IsTrue tells → new.contents ≡ record at.contents { left = new.contents.left }) → (IsTrue tells → at.contents.left ≡ bytes)
    → IsDone tells (reads which name bytes) old new
file_read tells which name bytes (Ok tt) old at new opened begun begins counted same left = record {
  tally = counted ∙ begun;
  contents = λ told. changes_read which name bytes old.contents at.contents new.contents (begins told) (same told) (left told);
}
file_read tells which name bytes (Err failed) old at new opened begun begins counted same left = absurd cc
