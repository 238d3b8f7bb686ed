-- What a run leaves.
use Rattle.std.proofs.Common.{◌≡◌, ℕ, ◌<◌, ◌≤◌, Bool, true, false, nat_lt, List, length, reverse, Option, None, Some, refl, sym, ◌∙◌, ap, subst, arith}
use Rattle.std.proofs.lemmas.Option.{slice_get_within, slice_get_past}
use Rattle.std.specs.Prelude.{slice_get}
use Rattle.layer_model.specs.declared.wiring.Wire.{Wire}
use Rattle.layer_model.specs.Wirings.{is_reported, reported_from}
use Rattle.ledger_history.specs.declared.event.Event.{Event}
use Rattle.ledger_history.specs.Histories.{Setup, is_finished, IsComplete}
use Rattle.ledger_history.specs.Enabled.{Legal}
use Rattle.ledger_history.proofs.Counts.{complete_lives}
use Rattle.ledger_table.specs.Ledgers.{Ledger}
use Rattle.ledger_record.specs.declared.history.History.{History}
use Rattle.ledger_record.specs.Records.{past, IsCompleteFor}
use Rattle.ledger_core.specs.declared.condition.Condition.{Condition}
use Rattle.ledger_core.specs.Tokens.{Stock}
use Rattle.ledger_core.specs.States.{StocksOf, IsState}
use Rattle.ledger_core.specs.Endings.{IsRecordOf, ShowsReported}
use Rattle.ledger_core.proofs.States.{shows_live}
use Rattle.std.proofs.lemmas.List.{reverse-reverse}

pub shows_reported : (s : Setup) (h : List Event) (stocks : List Stock) → Legal s h → IsComplete s h → StocksOf s h stocks → ShowsReported s.wires stocks
shows_reported s h stocks l c p =
    record {
      all = p.all;
      op = λ j x e. (p.each j x e).op;
      shown = λ j x e.
          let b = slice_get_within stocks j x e in
          let d = p.all in
          shows_live s h stocks j x p e ∙ complete_lives s h j l c (omega arith);
    }

pub record_from : (s : Setup) (t : Ledger) (readers : List ℕ) (stocks : List Stock) (crew : List Condition) (r : History) → IsState s t readers stocks crew
    → r.operations ≡ length t.wires → r.workers ≡ t.workers → r.budget ≡ t.budget → r.events.items ≡ reverse t.events → IsRecordOf s t.events r
record_from s t readers stocks crew r p a b c d =
    let e : past r ≡ t.events = ap reverse d ∙ reverse-reverse t.events in
    let budget = c ∙ p.budget in
    let workers = b ∙ p.workers in
    record {
      budget = budget;
      workers = workers;
      made = e;
      legal = record {
        same = a ∙ ap length p.wires;
        legal = subst (λ n. Legal (record { wires = s.wires; cost = s.cost; budget = n; workers = r.workers }) (past r)) (sym budget)
            (subst (λ n. Legal (record { wires = s.wires; cost = s.cost; budget = s.budget; workers = n }) (past r)) (sym workers)
            (subst (λ h. Legal s h) (sym e) p.legal));
      };
    }

pub complete_from : (s : Setup) (events : List Event) (r : History) → past r ≡ events → IsComplete s events → IsCompleteFor s.wires r
complete_from s events r e c = λ i b. subst (λ h. is_finished s h i ≡ true) (sym e) (c i b)

-- an operation that isn't there isn't reported
pub absent_unreported : (ws : List Wire) (j : ℕ) → length ws ≤ j → false ≡ is_reported ws j
absent_unreported ws j b = sym (ap reported_from (slice_get_past ws j b))
