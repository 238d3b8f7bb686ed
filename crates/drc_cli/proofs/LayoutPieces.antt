-- What each piece leaves, and how many there can be.
use Rattle.std.proofs.Common.{◌≡◌, ℕ, ◌+◌, ◌<◌, ◌≤◌, inl, inr, Bool, cond, List, [], ◌++◌, length, refl, sym, ap, subst, ◌∙◌, arith, append_assoc, length-append, IsTrue}
use Rattle.std.specs.Prelude.{Result, Ok, Err, Option, Some, None}
use Rattle.std.specs.declared.alloc.AllocError.{AllocError}
use Rattle.std.specs.List.{flat_map}
use Rattle.std.proofs.lemmas.List.{append-nil}
use Rattle.gds_records.specs.declared.fault.LayoutKind.TheVariants as kinds
use Rattle.gds_records.specs.declared.fault.LayoutRefusal.{LayoutRefusal}
use Rattle.gds_records.specs.Records.{spelling, longest_layout}
use Rattle.drc_cli.specs.declared.layout.reader.Reader.{Reader}
use Rattle.drc_cli.specs.declared.layout.reader.Stop.{Stop}
use Rattle.drc_cli.specs.declared.layout.reader.Stop.TheVariants.{Ended, Refused, ReadFault}
use Rattle.drc_cli.specs.Working.LayoutReading.{Sought, Left, IsAt, HasStopped, IsWanting, TakesAll, ReadsPiece, ReadsAll, end_of_reading, piece_tally, reading_tally}
use Rattle.drc_ports.specs.Files.{Contents, Tally}
use Rattle.drc_cli.proofs.LayoutSteps.{fed_more, when_failed, when_truncated}

module _ (of : Sought) (fed : List ℕ) (reader : Reader) (wants : IsWanting of fed reader) where
  -- what wants more has less than a record beyond the longest layout
  pub length-fed : length fed ≤ longest_layout + 3
  length-fed =
      let size : length fed ≡ reader.framer.at + length reader.framer.left =
      ap length wants.state.tracks.cut.whole ∙ length-append (flat_map spelling wants.items) reader.framer.left
      ∙ ap (λ (n : ℕ). n + length reader.framer.left) (sym wants.state.behind) in
      elim wants.less as (λ _. length fed ≤ longest_layout + 3) [
        | inl few ↦ omega (arith, size, few, wants.state.near)
        | inr some ↦ omega (arith, size, some.0.near, some.1)
      ]

  pub piece_failed : (left : Left) → ReadsPiece of fed left (Ok (Some ReadFault)) reader
  piece_failed left = (fed ++ left.before, when_failed of fed wants.items reader wants.state left.before, λ _. refl)

  pub piece_ended : (left : Left) (stop : Stop) → stop ≡ end_of_reading reader.framer → (IsTrue left.tells → left.before ≡ []) → ReadsPiece of fed left (Ok (Some stop)) reader
  piece_ended left stop is none =
      let refusal : LayoutRefusal = record { at = reader.framer.at + length reader.framer.left; kind = kinds.Truncated } in
      let cut : stop ≡ Refused refusal = is ∙ ap (λ (b : Bool). cond b Ended (Refused refusal)) wants.awaits in
      let P : Stop → Type 0 = λ s. HasStopped of fed reader.rects.items s in (
        fed,
        subst P (sym cut) (when_truncated of fed wants.items reader wants.state wants.awaits wants.less refusal refl),
        λ t. sym (ap (λ (b : List ℕ). fed ++ b) (none t) ∙ append-nil fed),
      )

  pub state_fed : (piece : List ℕ) (next : Reader) → next ≡ record reader { framer = record reader.framer { left = reader.framer.left ++ piece } } → IsAt of (fed ++ piece) wants.items next
  state_fed piece next is = subst (λ (r : Reader). IsAt of (fed ++ piece) wants.items r) (sym is) (fed_more of fed wants.items reader wants.state piece)

pub piece_taken : (of : Sought) (fed piece : List ℕ) (left : Left) (result : Result (Option Stop) AllocError) (reader : Reader) → 0 < length piece
    → (IsTrue left.tells → left.before ≡ piece ++ left.now) → TakesAll of (fed ++ piece) result reader → ReadsPiece of fed left result reader
piece_taken of fed piece left (Ok None) reader some is taken = (piece, some, taken, is)
piece_taken of fed piece left (Ok (Some stop)) reader some is taken =
    ((fed ++ piece) ++ left.now, taken left.now, λ t. append_assoc fed piece left.now ∙ ap (λ (b : List ℕ). fed ++ b) (sym (is t)))
piece_taken of fed piece left (Err e) reader some is taken = tt

-- ---- All pieces so far

-- what is known of the files before and behind some turns
pub record Turns : Type 0 where
  pub tells : Bool
  pub start : Contents
  pub now : Contents
  pub before : Tally
  pub after : Tally
  pub count : ℕ

pub record SoFar (of : Sought) (turns : Turns) (reader : Reader) : Type 0 where
  pub fed : List ℕ
  pub wants : IsWanting of fed reader
  pub few : turns.count ≤ length fed
  pub read : IsTrue turns.tells → turns.start.left ≡ fed ++ turns.now.left
  pub same : IsTrue turns.tells → turns.now ≡ record turns.start { left = turns.now.left }
  pub counts : turns.after ≡ turns.before

module _ (of : Sought) (turns : Turns) (reader : Reader) (so_far : SoFar of turns reader) where
  pub bound : turns.count ≤ longest_layout + 3
  bound = omega (arith, so_far.few, length-fed of so_far.fed reader so_far.wants)

  pub same_on : (next : Contents) → (IsTrue turns.tells → next ≡ record turns.now { left = next.left }) → IsTrue turns.tells → next ≡ record turns.start { left = next.left }
  same_on next same t = same t ∙ ap (λ (k : Contents). record k { left = next.left }) (so_far.same t)

  pub stops : (next : List ℕ) (stop : Stop) (new : Reader) → ReadsPiece of so_far.fed (record { tells = turns.tells; before = turns.now.left; now = next }) (Ok (Some stop)) new
      → ReadsAll of turns.tells turns.start.left (Ok stop) new.rects.items
  stops next stop new read = (read.0, read.1, λ t. read.2 t ∙ sym (so_far.read t))

  pub goes_further : (next : Contents) (tally : Tally) (new : Reader)
      → ReadsPiece of so_far.fed (record { tells = turns.tells; before = turns.now.left; now = next.left }) (Ok None) new
      → (IsTrue turns.tells → next ≡ record turns.now { left = next.left }) → tally ≡ turns.after
      → SoFar of (record turns { now = next; after = tally; count = turns.count + 1 }) new
  goes_further next tally new read same counts = record {
    fed = so_far.fed ++ read.0;
    wants = read.2;
    few = omega (arith, so_far.few, length-append so_far.fed read.0, read.1);
    read = λ t. so_far.read t ∙ ap (λ (b : List ℕ). so_far.fed ++ b) (read.3 t) ∙ sym (append_assoc so_far.fed read.0 next.left);
    same = same_on next same;
    counts = counts ∙ so_far.counts;
  }

pub tally_is : (stop : Stop) (old : Tally) → piece_tally (Ok (Some stop)) old ≡ reading_tally (Ok stop) old
tally_is Ended old = refl
tally_is (Refused refusal) old = refl
tally_is ReadFault old = refl
