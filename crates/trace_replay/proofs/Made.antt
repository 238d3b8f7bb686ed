-- Events that are made one after another.
use Rattle.std.proofs.Common.{◌≡◌, ℕ, ◌<◌, max, Bool, true, false, not, List, [], ◌∷◌, ◌++◌, length, take, drop, get_or, suc, arith, drop-cons, length-take, refl, sym, ap, subst, ◌∙◌}
use Rattle.std.proofs.lemmas.List.{reverse-append}
use Rattle.ledger_history.specs.declared.event.Event.{Event}
use Rattle.ledger_history.specs.Histories.{total}
use Rattle.ledger_history.specs.Enabled.{Enabled, Legal}
use Rattle.ledger_record.specs.Records.{past_of}
use Rattle.ledger_table.specs.Ledgers.{Ledger, with_event, setup_of}
use Rattle.trace_replay.specs.Replays.{peak}
use Rattle.trace_replay.specs.Working.Reruns.{setup_at, ledger_after, IsBarred, StopsAt}
use Rattle.trace_text.specs.declared.fault.TraceReason.{TraceReason}
use Rattle.std.proofs.lemmas.List.{take-append-drop}

-- the table after these events, which were legal, and the greatest total among them
pub record IsMade (costs : List ℕ) (old now : Ledger) (events : List Event) (most : ℕ) : Type 0 where
  pub table : now ≡ ledger_after old events
  pub legal : Legal (setup_at costs old) (past_of events)
  pub greatest : most ≡ peak (setup_at costs old) (past_of events)

pub newest : (events : List Event) (e : Event) → past_of (events ++ e ∷ []) ≡ e ∷ past_of events
newest events e = reverse-append events (e ∷ [])

-- one event more
pub made_more : (costs : List ℕ) (old now next : Ledger) (events more : List Event) (e : Event) (most new t : ℕ)
    → IsMade costs old now events most → more ≡ events ++ e ∷ [] → Enabled (setup_at costs now) now.events e → next ≡ with_event now e
    → new ≡ max most t → t ≡ total (setup_of next) next.events → IsMade costs old next more new
made_more costs old now next events more e most new t m s h n k q =
    let after : Ledger = ledger_after old events in
    let past : past_of more ≡ e ∷ past_of events = ap past_of s ∙ newest events e in
    let made : next ≡ with_event after e = n ∙ ap (λ x. with_event x e) m.table in
    let enabled : Enabled (setup_at costs after) after.events e = subst (λ x. Enabled (setup_at costs x) x.events e) m.table h in
    let sum : t ≡ total (setup_at costs old) (e ∷ past_of events) = q ∙ ap (λ x. total (setup_of x) x.events) made in
    record {
      table = made ∙ ap (λ h. let x : Ledger = record { wires = old.wires; budget = old.budget; workers = old.workers; events = h } in x) (sym past);
      legal = subst (Legal (setup_at costs old)) (sym past) (enabled, m.legal);
      greatest = k ∙ ap (λ x. max x t) m.greatest ∙ ap (λ x. max (peak (setup_at costs old) (past_of events)) x) sum ∙ ap (peak (setup_at costs old)) (sym past);
    }

-- the first event that may not be made
pub stops_here : (costs : List ℕ) (old now : Ledger) (events : List Event) (index : ℕ) (d : Event) (most : ℕ) (reason : TraceReason)
    → index < length events → IsMade costs old now (take index events) most → IsBarred (setup_at costs now) costs now.events (get_or events index d) reason
    → StopsAt (setup_at costs old) costs events index reason
stops_here costs old now events index d most reason lt m b =
    record {
      before = take index events;
      event = get_or events index d;
      after = drop (suc index) events;
      parts = sym (take-append-drop index events) ∙ ap (λ x. take index events ++ x) (drop-cons events index d lt);
      at = length-take-le index events lt;
      legal = m.legal;
      barred = subst (λ x. IsBarred (setup_at costs x) costs x.events (get_or events index d) reason) m.table b;
    }
  where
    length-take-le : (i : ℕ) (es : List Event) → i < length es → length (take i es) ≡ i
    length-take-le i es h = grind (arith, length-take)
