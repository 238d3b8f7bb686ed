-- A deck that is read: what its text is, of which a front was read where it is too long.
use Rattle.std.proofs.Common.{◌≡◌, ℕ, ◌<◌, ◌≤◌, List, ◌++◌, length, drop, IfOk, Bool, Result, Ok, Err, inl, inr, sym, ap, subst, ◌∙◌, arith, length-append}
use Rattle.std.specs.Global.{Vec}
use Rattle.std.proofs.lemmas.Bool.{cases_lt}
use Rattle.std.proofs.lemmas.List.{append-nil}
use Rattle.drc_ports.specs.Counts.{one_more}
use Rattle.drc_ports.specs.Files.{Tally, World}
use Rattle.deck_tree.specs.declared.deck.Deck.{Deck}
use Rattle.deck_tree.specs.declared.refusal.DeckKind.{DeckKind}
use Rattle.deck_tree.specs.declared.refusal.DeckKind.TheVariants as reasons
use Rattle.deck_tree.specs.declared.refusal.DeckRefusal.{DeckRefusal}
use Rattle.deck_lexer.specs.Sizes.{longest_deck}
use Rattle.deck_parser.specs.Parsed.{IsDeckText}
use Rattle.deck_refusal.specs.Refused.{IsTextRefused, too_long, no_token, by_tokens}
use Rattle.drc_cli.specs.declared.answer.Which.{Which}
use Rattle.drc_cli.specs.declared.answer.Which.TheVariants as which
use Rattle.drc_cli.specs.declared.ending.Ending.{Ending}
use Rattle.drc_cli.specs.declared.ending.Ending.TheVariants as ending
use Rattle.drc_cli.specs.Lines.{IsFirstToken, IsDetailAt, IsDetail}
use Rattle.drc_cli.specs.Outcome.{reads}
use Rattle.drc_cli.specs.ProgramEnds.{OnlyReads}
use Rattle.drc_cli.specs.Steps.{IsDone}
use Rattle.drc_cli.specs.Working.Decide.{IsTextRead, IsDeckParsed, IsDeckRead}

-- what is set aside is told as it is written
pub told_as_written : {E : Type 0} (text rest : List ℕ) (refusal : DeckRefusal) (result : Result (List ℕ) E) → rest ≡ drop refusal.at text
    → refusal.kind ≡ reasons.Unsupported → IfOk result (λ detail. IsFirstToken rest detail) → IfOk result (λ detail. IsDetail text refusal detail)
told_as_written text rest refusal (Ok detail) is kind told =
    let P : DeckKind → Type 0 = λ k. IsDetailAt text refusal.at k detail in
    subst P (sym kind) (subst (λ (bytes : List ℕ). IsFirstToken bytes detail) is told)
told_as_written text rest refusal (Err e) is kind told = tt

-- a file that is read whole is one read
pub one_read : (tells : Bool) (file : Which) (name bytes : List ℕ) (old new : World) → IsDone tells (reads file name bytes) old new → OnlyReads 1 tells old new
one_read tells file name bytes old new done =
    let begun : new.tally.begun ≡ one_more old.tally.begun = ap (λ (t : Tally). t.begun) done.tally in
    record {
      read_faults = ap (λ (t : Tally). t.read_faults) done.tally;
      write_faults = ap (λ (t : Tally). t.write_faults) done.tally;
      say_faults = ap (λ (t : Tally). t.say_faults) done.tally;
      writing = ap (λ (t : Tally). t.writing) done.tally;
      begun = omega (arith, begun);
      contents = λ told. (done.contents told).1;
    }

pub one_of_two : (tells : Bool) (old new : World) → OnlyReads 1 tells old new → OnlyReads 2 tells old new
one_of_two tells old new read = record {
  read_faults = read.read_faults;
  write_faults = read.write_faults;
  say_faults = read.say_faults;
  writing = read.writing;
  begun = omega (arith, read.begun);
  contents = read.contents;
}

-- a text that can't be read
pub text_ended : (name : List ℕ) (end : Ending) (tells : Bool) (old new : World) → IsTextRead name (Err end) tells old new → IsDeckRead name (Err end) tells old new
text_ended name (ending.Deck refusal detail) tells old new read = absurd read
text_ended name (ending.Layout refusal) tells old new read = absurd read
text_ended name (ending.ReadFault which.Deck kept) tells old new read = read
text_ended name (ending.ReadFault which.Layout kept) tells old new read = absurd read
text_ended name (ending.ReadFault which.Results kept) tells old new read = absurd read
text_ended name (ending.ReadFault which.Output kept) tells old new read = absurd read
text_ended name ending.Memory tells old new read = read

module _ (name : List ℕ) (text : Vec ℕ) (tells : Bool) (old new : World) (read : IsTextRead name (Ok text) tells old new) where
  whole : List ℕ
  whole = text.items ++ read.0

  all_read : IsDone tells (reads which.Deck name whole) old new
  unfolding whole
  all_read = read.2

  same_text : length text.items ≤ longest_deck → text.items ≡ whole
  unfolding whole
  same_text few = sym (ap (λ (r : List ℕ). text.items ++ r) (read.1 few) ∙ append-nil text.items)

  -- a front that is too long is refused as the whole is
  too_long_whole : longest_deck < length text.items → longest_deck < length whole
  unfolding whole
  too_long_whole long = omega (arith, length-append text.items read.0)

  refused_long : (refusal : DeckRefusal) (detail : List ℕ) → longest_deck < length text.items → IsTextRefused text.items refusal → IsDetail text.items refusal detail
      → IsTextRefused whole refusal × IsDetail whole refusal detail
  refused_long _ detail long (too_long m) is = (too_long (too_long_whole long), is)
  refused_long _ detail long (no_token fault size first) is = absurd (omega arith)
  refused_long _ detail long (by_tokens tokens refusal size lexing refused) is = absurd (omega arith)

  refused_whole : (refusal : DeckRefusal) (detail : List ℕ) → IsTextRefused text.items refusal → IsDetail text.items refusal detail
      → IsTextRefused whole refusal × IsDetail whole refusal detail
  refused_whole refusal detail refused is = elim (cases_lt longest_deck (length text.items)) [
    | inl long ↦ refused_long refusal detail long refused is
    | inr few ↦ subst (λ (t : List ℕ). IsTextRefused t refusal × IsDetail t refusal detail) (same_text few) (refused, is)
  ]

  pub parsed : (result : Result Deck Ending) → IsDeckParsed text.items result → IsDeckRead name result tells old new
  parsed (Ok deck) is = (whole, subst (λ (t : List ℕ). IsDeckText t deck) (same_text is.accepted.size) is, all_read)
  parsed (Err (ending.Deck refusal detail)) is =
      let both = refused_whole refusal detail is.0 is.1 in (whole, both.0, both.1, all_read)
  parsed (Err (ending.Layout refusal)) is = absurd is
  parsed (Err (ending.ReadFault file kept)) is = absurd is
  parsed (Err ending.Memory) is = one_read tells which.Deck name whole old new all_read
