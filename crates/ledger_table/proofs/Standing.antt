-- Each event keeps what stands in a table.
use Rattle.std.proofs.Common.{◌≡◌, ℕ, ◌+◌, ◌-◌, ◌*◌, ◌^◌, ◌<◌, ◌≤◌, Bool, true, false, not, ◌&&◌, ◌||◌, cond, List, [], ◌∷◌, length, set, Option, None, Some, inl, inr, refl, sym, ◌∙◌, ap, subst, arith}
use Rattle.std.proofs.lemmas.Bool.{cases_eq, ne_eqb}
use Rattle.std.proofs.lemmas.List.{length-set}
use Rattle.std.specs.Prelude.{slice_get}
use Rattle.layer_model.specs.declared.wiring.Wire.{Wire}
use Rattle.layer_model.specs.Wirings.{input, reader_count, IsWiring}
use Rattle.ledger_history.specs.declared.event.Event.{Event}
use Rattle.ledger_history.specs.declared.event.Event.TheVariants.{Claim, Charge, Publish, Release, Stop}
use Rattle.ledger_history.specs.Histories.{is_claimed, is_finished, is_let_go, returns, total}
use Rattle.ledger_history.specs.Enabled.{Legal, AllFinishedBelow}
use Rattle.ledger_history.proofs.Choices.{eqb_itself}
use Rattle.ledger_history.proofs.Ends.{publish_ends_its_own, release_ends_its_own, finished_stays}
use Rattle.ledger_history.proofs.Charges.{total_after_charge, total_without_charge}
use Rattle.ledger_history.proofs.Returns.{reader_lacks}
use Rattle.ledger_table.specs.declared.mark.Mark.{Mark}
use Rattle.ledger_table.specs.Ledgers.{Ledger, charged_cost, IsAllowed}
use Rattle.ledger_table.specs.Marks.{MarksOf, wired, run_of}
use Rattle.ledger_table.specs.Flags.{FlagsOf, is_open, has_inputs}
use Rattle.ledger_table.specs.Ends.{IsLowest}
use Rattle.ledger_table.specs.Tables.{Parts, Stands}
use Rattle.ledger_table.proofs.Costs.{legal_grows}
use Rattle.ledger_table.proofs.Totals.{events_fit, let_go_same, total_after_release, release_has_reader}
use Rattle.ledger_table.proofs.Holding.{held_after_claim, held_after_stop, held_after_end}
use Rattle.list_facts.proofs.Slots.{written, unwritten}

abbrev pub ledger_by : List Wire → ℕ → List (Option ℕ) → List Event → Ledger
ledger_by ws budget kept h = record { wires = ws; budget = budget; workers = length kept; events = h }

abbrev parts : List Wire → ℕ → List Event → List Mark → List (Option ℕ) → List Bool → (lowest total : ℕ) → Bool → ℕ → Parts
parts ws budget h marks kept ready lowest total stopped room = record {
  wires = ws;
  budget = budget;
  events = h;
  marks = marks;
  held = kept;
  ready = ready;
  lowest = lowest;
  total = total;
  stopped = stopped;
  room = room;
}

pub legal_next : (ws : List Wire) (budget : ℕ) (h : List Event) (marks : List Mark) (kept : List (Option ℕ)) (ready : List Bool) (lowest total : ℕ) (stopped : Bool) (room : ℕ) (e : Event)
    → Stands (parts ws budget h marks kept ready lowest total stopped room) → IsAllowed (ledger_by ws budget kept h) e → Legal (run_of ws budget (length kept) (e ∷ h)) (e ∷ h)
legal_next ws budget h marks kept ready lowest total stopped room e s a = legal_grows ws budget (length kept) h e s.legal a

-- there is room for one more event
pub room_left : (ws : List Wire) (budget : ℕ) (h : List Event) (marks : List Mark) (kept : List (Option ℕ)) (ready : List Bool) (lowest total : ℕ) (stopped : Bool) (room : ℕ) (e : Event)
    → Stands (parts ws budget h marks kept ready lowest total stopped room) → IsAllowed (ledger_by ws budget kept h) e → 0 < room
room_left ws budget h marks kept ready lowest total stopped room e s a =
    let l = legal_next ws budget h marks kept ready lowest total stopped room e s a in
    let f = events_fit (run_of ws budget (length kept) (e ∷ h)) (e ∷ h) l in
    let p = s.space in
    omega arith

crew_same : (ws : List Wire) (budget : ℕ) (h : List Event) (kept : List (Option ℕ)) (w : ℕ) (v : Option ℕ) → Legal (run_of ws budget (length kept) h) h → Legal (run_of ws budget (length (set kept w v)) h) h
crew_same ws budget h kept w v l = subst (λ n. Legal (run_of ws budget n h) h) (sym (length-set kept w v)) l

lowest_same : (ws : List Wire) (h g : List Event) (m : ℕ) → ((i : ℕ) → is_finished (wired ws) g i ≡ is_finished (wired ws) h i) → IsLowest ws h m → IsLowest ws g m
lowest_same ws h g m p l = record { there = l.there; below = λ j b. p j ∙ l.below j b; unfinished = p m ∙ l.unfinished }

flags_after_claim : (ws : List Wire) (h : List Event) (w i : ℕ) (flags : List Bool) → i < length ws → FlagsOf ws h flags → FlagsOf ws (Claim w i ∷ h) (set flags i false)
flags_after_claim ws h w i flags b f =
    record {
      all = length-set flags i false ∙ f.all;
      each = λ j c. elim (cases_eq j i) [
        | inl s ↦ subst (λ k. slice_get (set flags i false) k ≡ Some (is_open ws (Claim w i ∷ h) k)) (sym s)
            (written flags i false (omega (arith, f.all)) ∙ ap (λ q. Some (not (q || is_claimed h i) && has_inputs ws h i)) (sym (eqb_itself i)))
        | inr s ↦ unwritten flags i j false s ∙ (f.each j c ∙ ap (λ q. Some (not (q || is_claimed h j) && has_inputs ws h j)) (sym (ne_eqb i j (λ e. s (sym e)))))
      ];
    }

pub claim_stands : (ws : List Wire) (budget : ℕ) (h : List Event) (marks after : List Mark) (kept : List (Option ℕ)) (ready : List Bool) (lowest total : ℕ) (stopped : Bool) (room left w i : ℕ)
    → Stands (parts ws budget h marks kept ready lowest total stopped room) → IsAllowed (ledger_by ws budget kept h) (Claim w i) → MarksOf ws (Claim w i ∷ h) after → left + 1 ≡ room
    → Stands (parts ws budget (Claim w i ∷ h) after (set kept w (Some i)) (set ready i false) lowest total stopped left)
claim_stands ws budget h marks after kept ready lowest total stopped room left w i s a m r =
    let n = length-set kept w (Some i) in
    let p = s.space in
    let q = s.few in
    record {
      wiring = s.wiring;
      legal = crew_same ws budget (Claim w i ∷ h) kept w (Some i) (legal_next ws budget h marks kept ready lowest total stopped room (Claim w i) s a);
      marked = m;
      holds = held_after_claim ws budget (length kept) h w i kept s.legal (a.enabled).next.ready.unclaimed s.holds;
      flagged = flags_after_claim ws h w i ready (a.enabled).next.ready.there s.flagged;
      low = lowest_same ws h (Claim w i ∷ h) lowest (λ _. refl) s.low;
      counted = s.counted ∙ sym (total_without_charge (wired ws) h (Claim w i) (λ _. refl));
      few = omega arith;
      halted = s.halted;
      space = omega arith;
      crew = subst (λ k. k < 2 ^ 32) (sym n) s.crew;
    }

pub charge_stands : (ws : List Wire) (budget : ℕ) (h : List Event) (marks after : List Mark) (kept : List (Option ℕ)) (ready : List Bool) (lowest total : ℕ) (stopped : Bool) (room left w i c : ℕ)
    → Stands (parts ws budget h marks kept ready lowest total stopped room) → IsAllowed (ledger_by ws budget kept h) (Charge w i c) → MarksOf ws (Charge w i c ∷ h) after → left + 1 ≡ room → c < 2 ^ 64
    → Stands (parts ws budget (Charge w i c ∷ h) after kept ready lowest (total + c) stopped left)
charge_stands ws budget h marks after kept ready lowest total stopped room left w i c s a m r b =
    let l = legal_next ws budget h marks kept ready lowest total stopped room (Charge w i c) s a in
    let p = s.space in
    let q = s.few in
    record {
      wiring = s.wiring;
      legal = l;
      marked = m;
      holds = s.holds;
      flagged = record { all = (s.flagged).all; each = (s.flagged).each };
      low = lowest_same ws h (Charge w i c ∷ h) lowest (λ _. refl) s.low;
      counted = ap (λ n. n + c) s.counted ∙ sym (total_after_charge (run_of ws budget (length kept) (Charge w i c ∷ h)) h w i c l);
      few = omega arith;
      halted = s.halted;
      space = omega arith;
      crew = s.crew;
    }

pub stop_stands : (ws : List Wire) (budget : ℕ) (h : List Event) (marks : List Mark) (kept : List (Option ℕ)) (ready : List Bool) (lowest total : ℕ) (stopped : Bool) (room left w : ℕ)
    → Stands (parts ws budget h marks kept ready lowest total stopped room) → IsAllowed (ledger_by ws budget kept h) (Stop w) → left + 1 ≡ room
    → Stands (parts ws budget (Stop w ∷ h) marks (set kept w None) ready lowest total true left)
stop_stands ws budget h marks kept ready lowest total stopped room left w s a r =
    let n = length-set kept w None in
    let p = s.space in
    let q = s.few in
    record {
      wiring = s.wiring;
      legal = crew_same ws budget (Stop w ∷ h) kept w None (legal_next ws budget h marks kept ready lowest total stopped room (Stop w) s a);
      marked = record { all = (s.marked).all; each = λ i m e. let x = (s.marked).each i m e in record { claimed = x.claimed; charged = x.charged; published = x.published; released = x.released; left = x.left; cost = x.cost } };
      holds = held_after_stop ws h w kept s.holds;
      flagged = record { all = (s.flagged).all; each = (s.flagged).each };
      low = lowest_same ws h (Stop w ∷ h) lowest (λ _. refl) s.low;
      counted = s.counted ∙ sym (total_without_charge (wired ws) h (Stop w) (λ _. refl));
      few = omega arith;
      halted = refl;
      space = omega arith;
      crew = subst (λ k. k < 2 ^ 32) (sym n) s.crew;
    }

-- what was finished below stays so
pub below_stays : (ws : List Wire) (h : List Event) (e : Event) (m : ℕ) → AllFinishedBelow (wired ws) h m → AllFinishedBelow (wired ws) (e ∷ h) m
below_stays ws h e m p j b = finished_stays (wired ws) e h j (p j b)

crew_cond : (kept : List (Option ℕ)) (w : ℕ) (b : Bool) → length (cond b (set kept w None) kept) ≡ length kept
crew_cond kept w true = length-set kept w None
crew_cond kept w false = refl

pub publish_stands : (ws : List Wire) (budget : ℕ) (h : List Event) (marks after : List Mark) (kept : List (Option ℕ)) (ready opened : List Bool) (lowest next total : ℕ) (stopped : Bool) (room left w i : ℕ)
    → Stands (parts ws budget h marks kept ready lowest total stopped room) → IsAllowed (ledger_by ws budget kept h) (Publish w i) → MarksOf ws (Publish w i ∷ h) after → left + 1 ≡ room
    → FlagsOf ws (Publish w i ∷ h) opened → IsLowest ws (Publish w i ∷ h) next
    → Stands (parts ws budget (Publish w i ∷ h) after (cond (is_finished (wired ws) (Publish w i ∷ h) i) (set kept w None) kept) opened next total stopped left)
publish_stands ws budget h marks after kept ready opened lowest next total stopped room left w i s a m r f o =
    let l = legal_next ws budget h marks kept ready lowest total stopped room (Publish w i) s a in
    let n = crew_cond kept w (is_finished (wired ws) (Publish w i ∷ h) i) in
    let p = s.space in
    let q = s.few in
    record {
      wiring = s.wiring;
      legal = subst (λ k. Legal (run_of ws budget k (Publish w i ∷ h)) (Publish w i ∷ h)) (sym n) l;
      marked = m;
      holds = held_after_end ws budget (length kept) h (Publish w i) w i kept s.legal (λ _. refl) (a.enabled).holds (publish_ends_its_own (wired ws) h w i) s.holds;
      flagged = f;
      low = o;
      counted = s.counted ∙ sym (total_without_charge (wired ws) h (Publish w i) (λ j. let_go_same (run_of ws budget (length kept) (Publish w i ∷ h)) h (Publish w i) j s.wiring l (λ x. x)));
      few = omega arith;
      halted = s.halted;
      space = omega arith;
      crew = subst (λ k. k < 2 ^ 32) (sym n) s.crew;
    }

pub release_stands : (ws : List Wire) (budget : ℕ) (h : List Event) (marks after : List Mark) (kept : List (Option ℕ)) (ready : List Bool) (lowest next total : ℕ) (stopped : Bool) (room left w i k j d : ℕ)
    → Stands (parts ws budget h marks kept ready lowest total stopped room) → IsAllowed (ledger_by ws budget kept h) (Release w i k) → MarksOf ws (Release w i k ∷ h) after → left + 1 ≡ room
    → input ws i k ≡ Some j → d ≡ cond (is_let_go (wired ws) (Release w i k ∷ h) j) (charged_cost (Release w i k ∷ h) j) 0 → IsLowest ws (Release w i k ∷ h) next
    → Stands (parts ws budget (Release w i k ∷ h) after (cond (is_finished (wired ws) (Release w i k ∷ h) i) (set kept w None) kept) ready next (total - d) stopped left)
release_stands ws budget h marks after kept ready lowest next total stopped room left w i k j d s a m r e g o =
    let l = legal_next ws budget h marks kept ready lowest total stopped room (Release w i k) s a in
    let n = crew_cond kept w (is_finished (wired ws) (Release w i k ∷ h) i) in
    let p = s.space in
    let q = s.few in
    let t = total_after_release (run_of ws budget (length kept) (Release w i k ∷ h)) h w i k j s.wiring l e in
    let c = s.counted in
    record {
      wiring = s.wiring;
      legal = subst (λ x. Legal (run_of ws budget x (Release w i k ∷ h)) (Release w i k ∷ h)) (sym n) l;
      marked = m;
      holds = held_after_end ws budget (length kept) h (Release w i k) w i kept s.legal (λ _. refl) (a.enabled).holds (release_ends_its_own (wired ws) h w i k) s.holds;
      flagged = record { all = (s.flagged).all; each = (s.flagged).each };
      low = o;
      counted = omega arith;
      few = omega arith;
      halted = s.halted;
      space = omega arith;
      crew = subst (λ x. x < 2 ^ 32) (sym n) s.crew;
    }

-- what stands where nothing has happened
pub start_stands : (ws : List Wire) (budget : ℕ) (marks : List Mark) (kept : List (Option ℕ)) (ready : List Bool) (room : ℕ) → IsWiring ws → MarksOf ws [] marks → ((w : ℕ) (o : Option ℕ) → slice_get kept w ≡ Some o → o ≡ None)
    → FlagsOf ws [] ready → room ≡ 5 * length ws + length kept → length kept < 2 ^ 32 → Stands (parts ws budget [] marks kept ready 0 0 false room)
start_stands ws budget marks kept ready room v m k f r c =
    record {
      wiring = v;
      legal = tt;
      marked = m;
      holds = k;
      flagged = f;
      low = record { there = omega arith; below = λ j b. absurd (omega arith); unfinished = refl };
      counted = refl;
      few = omega arith;
      halted = refl;
      space = omega arith;
      crew = c;
    }

-- a release takes no more out of the total than there is, and its place is out before it
pub release_fits : (ws : List Wire) (budget : ℕ) (h : List Event) (marks : List Mark) (kept : List (Option ℕ)) (ready : List Bool) (lowest total : ℕ) (stopped : Bool) (room w i k j d : ℕ)
    → Stands (parts ws budget h marks kept ready lowest total stopped room) → IsAllowed (ledger_by ws budget kept h) (Release w i k)
    → input ws i k ≡ Some j → d ≡ cond (is_let_go (wired ws) (Release w i k ∷ h) j) (charged_cost (Release w i k ∷ h) j) 0 → d ≤ total
release_fits ws budget h marks kept ready lowest total stopped room w i k j d s a e g =
    let l = legal_next ws budget h marks kept ready lowest total stopped room (Release w i k) s a in
    let t = total_after_release (run_of ws budget (length kept) (Release w i k ∷ h)) h w i k j s.wiring l e in
    let c = s.counted in
    omega arith

pub reader_is_out : (ws : List Wire) (budget : ℕ) (h : List Event) (marks : List Mark) (kept : List (Option ℕ)) (ready : List Bool) (lowest total : ℕ) (stopped : Bool) (room w i k j : ℕ) (x : Mark)
    → Stands (parts ws budget h marks kept ready lowest total stopped room) → IsAllowed (ledger_by ws budget kept h) (Release w i k)
    → input ws i k ≡ Some j → x.left + returns (wired ws) h j ≡ reader_count ws j → 0 < x.left
reader_is_out ws budget h marks kept ready lowest total stopped room w i k j x s a e g =
    let l = legal_next ws budget h marks kept ready lowest total stopped room (Release w i k) s a in
    let r = reader_lacks (run_of ws budget (length kept) (Release w i k ∷ h)) h j l.1 (release_has_reader (run_of ws budget (length kept) (Release w i k ∷ h)) h w i k j l e) in
    omega arith
