-- How a worker that works alone goes on.
use Rattle.std.proofs.Common.{◌≡◌, ℕ, ◌+◌, ◌-◌, ◌*◌, ◌<◌, ◌≤◌, List, [], ◌∷◌, ◌++◌, length, set, get_or, Bool, Some, inl, inr, refl, sym, ◌∙◌, ap, subst, append_assoc, length-append, arith}
use Rattle.std.proofs.lemmas.Bool.{cases_eq}
use Rattle.std.proofs.lemmas.List.Elements.{All-nil, All-cons, All-append}
use Rattle.std.proofs.lemmas.Option.{slice_get_within, slice_get_read}
use Rattle.std.specs.Prelude.{slice_get}
use Rattle.ledger_history.specs.declared.event.Event.{Event}
use Rattle.ledger_history.specs.declared.event.Event.TheVariants.{Claim, Charge, Publish, Release}
use Rattle.ledger_history.specs.Histories.{Setup, operations, is_stopped}
use Rattle.ledger_history.specs.Enabled.{Enabled, Legal}
use Rattle.ledger_history.specs.Steps.{worker_of}
use Rattle.list_facts.proofs.Slots.{written, unwritten}
use Rattle.ledger_table.proofs.Totals.{events_fit, inputs_at_most}
use Rattle.ledger_core.specs.declared.condition.Condition.{Condition}
use Rattle.ledger_core.specs.declared.condition.Condition.TheVariants.{Idle, Claimed, Charged, Published}
use Rattle.ledger_core.specs.declared.tokens.Seat.{Seat}
use Rattle.ledger_core.specs.Tokens.{Holding, Releasing}
use Rattle.ledger_core.specs.Machines.{Machine, IsIdle, SeatAgrees, after}
use Rattle.ledger_record.specs.declared.history.History.{History}
use Rattle.ledger_record.specs.Records.{past}
use Rattle.ledger_core.specs.Endings.{IsRecordOf}
use Rattle.layer_workers.specs.Outcomes.{first_worker, GoesOnBy, IsRunOf}
use Rattle.layer_workers.specs.Turns.{HasWorked}
use Rattle.layer_workers.specs.Working.Alone.{IsAlone, WentOn, Worked, TakesTurns}

-- ---- more events of one worker

pub goes_nowhere : (w : ℕ) (h : List Event) → GoesOnBy w h h
goes_nowhere w h = record { later = []; made = refl; own = All-nil (λ e. worker_of e ≡ w) }

pub goes_further : (w : ℕ) (h g : List Event) (e : Event) → GoesOnBy w h g → worker_of e ≡ w → GoesOnBy w h (e ∷ g)
goes_further w h g e p q = record { later = e ∷ p.later; made = ap (λ l. e ∷ l) p.made; own = All-cons (λ f. worker_of f ≡ w) e p.later q p.own }

pub goes_on_and_on : (w : ℕ) (a b c : List Event) → GoesOnBy w a b → GoesOnBy w b c → GoesOnBy w a c
goes_on_and_on w a b c p q =
    record {
      later = q.later ++ p.later;
      made = q.made ∙ (ap (λ l. q.later ++ l) p.made ∙ sym (append_assoc q.later p.later a));
      own = All-append (λ e. worker_of e ≡ w) q.later p.later q.own p.own;
    }

pub goes_longer : (w : ℕ) (a b : List Event) → GoesOnBy w a b → length a ≤ length b
goes_longer w a b p = let e : length b ≡ length p.later + length a = ap length p.made ∙ length-append p.later a in omega arith

-- ---- alone

pub alone_at_seat : (s : Setup) (m : Machine) (seat : Seat) → Legal s m.events → SeatAgrees m seat → IsIdle m → IsAlone s seat.worker m Idle
alone_at_seat s m seat l a i = record { legal = l; at = a; others = λ v d n e. i v d e }

pub idle_again : (s : Setup) (w : ℕ) (m : Machine) → IsAlone s w m Idle → IsIdle m
idle_again s w m p = λ v d e.
    elim (cases_eq v w) [
      | inl q ↦ let x : Some d ≡ Some Idle = sym e ∙ (ap (slice_get m.crew) q ∙ p.at) in cc
      | inr q ↦ p.others v d q e
    ]

pub alone_after : (s : Setup) (w : ℕ) (m new : Machine) (c d : Condition) (e : Event) → IsAlone s w m c → Enabled s m.events e → new ≡ after m e w d → IsAlone s w new d
alone_after s w m new c d e p a q =
    subst (λ x. IsAlone s w x d) (sym q)
    (record {
      legal = (a, p.legal);
      at = written m.crew w d (slice_get_within m.crew w c p.at);
      others = λ v f n g. p.others v f n (sym (unwritten m.crew w v d n) ∙ g);
    })

-- a worker whose operation is dropped without an event
pub alone_dropped : (s : Setup) (w : ℕ) (m new : Machine) (c : Condition) → IsAlone s w m c → new ≡ record { events = m.events; crew = set m.crew w Idle } → IsAlone s w new Idle
alone_dropped s w m new c p q =
    subst (λ x. IsAlone s w x Idle) (sym q)
    (record {
      legal = p.legal;
      at = written m.crew w Idle (slice_get_within m.crew w c p.at);
      others = λ v f n g. p.others v f n (sym (unwritten m.crew w v Idle n) ∙ g);
    })

-- ---- how it went on

pub went_nowhere : (s : Setup) (w : ℕ) (m : Machine) (c : Condition) → IsAlone s w m c → WentOn s w m m c
went_nowhere s w m c p = record { goes_on = goes_nowhere w m.events; alone = p }

pub went_further : (s : Setup) (w : ℕ) (old m new : Machine) (c d : Condition) (e : Event) → WentOn s w old m c → worker_of e ≡ w → Enabled s m.events e → new ≡ after m e w d → WentOn s w old new d
went_further s w old m new c d e p n a q =
    record {
      goes_on = subst (λ x. GoesOnBy w old.events x.events) (sym q) (goes_further w old.events m.events e p.goes_on n);
      alone = alone_after s w m new c d e p.alone a q;
    }

pub went_dropped : (s : Setup) (w : ℕ) (old m new : Machine) (c : Condition) → WentOn s w old m c → new ≡ record { events = m.events; crew = set m.crew w Idle } → WentOn s w old new Idle
went_dropped s w old m new c p q =
    record {
      goes_on = subst (λ x. GoesOnBy w old.events x.events) (sym q) p.goes_on;
      alone = alone_dropped s w m new c p.alone q;
    }

pub worked_after : (s : Setup) (v w : ℕ) (old m new : Machine) (c : Condition) (seat : Seat) → WentOn s w old m c → v ≡ w → Worked s v m seat new → Worked s w old seat new
worked_after s v w old m new c seat p e q =
    let r = subst (λ x. Worked s x m seat new) e q in
    record {
      worker = r.worker;
      went = record { goes_on = goes_on_and_on w old.events m.events new.events p.goes_on r.went.goes_on; alone = r.went.alone };
    }

-- ---- a claim

pub claimed_alone : (s : Setup) (m new : Machine) (seat : Seat) (t : Holding) → SeatAgrees m seat → IsIdle m → Legal s new.events → t.worker ≡ seat.worker
    → new ≡ after m (Claim seat.worker t.op) seat.worker (Claimed t.op) → WentOn s t.worker m new (Claimed t.op)
claimed_alone s m new seat t a i l n q =
    subst (λ v. WentOn s v m new (Claimed t.op)) (sym n)
    (let events = ap (λ x. x.events) q in
    let old : Legal s (Claim seat.worker t.op ∷ m.events) = subst (λ h. Legal s h) events l in
    went_further s seat.worker m m new Idle (Claimed t.op) (Claim seat.worker t.op) (went_nowhere s seat.worker m Idle (alone_at_seat s m seat old.1 a i)) refl old.0 q)

pub worked_turn : (s : Setup) (m mid new : Machine) (seat r : Seat) (t : Holding) → SeatAgrees m seat → IsIdle m → Legal s mid.events → t.worker ≡ seat.worker
    → mid ≡ after m (Claim seat.worker t.op) seat.worker (Claimed t.op) → Worked s t.worker mid r new → HasWorked s seat.worker m r new
worked_turn s m mid new seat r t a i l n q k =
    let went = subst (λ v. WentOn s v m mid (Claimed t.op)) n (claimed_alone s m mid seat t a i l n q) in
    let worked = worked_after s t.worker seat.worker m mid new (Claimed t.op) r went n k in
    let x : length mid.events ≡ length (Claim seat.worker t.op ∷ m.events) = ap (λ y. length y.events) q in
    let y = goes_longer t.worker mid.events new.events k.went.goes_on in
    record {
      worker = worked.worker;
      goes_on = worked.went.goes_on;
      some = omega arith;
      legal = worked.went.alone.legal;
      idle = idle_again s seat.worker new worked.went.alone;
      agrees = ap (slice_get new.crew) worked.worker ∙ worked.went.alone.at;
    }

-- ---- a charge, a publish and a release

pub charged_alone : (s : Setup) (t ch : Holding) (old mid : Machine) (cost : ℕ) → IsAlone s t.worker old (Claimed t.op) → ch ≡ t → Enabled s old.events (Charge t.worker t.op cost)
    → mid ≡ after old (Charge t.worker t.op cost) t.worker (Charged t.op) → WentOn s ch.worker old mid (Charged ch.op)
charged_alone s t ch old mid cost p e a q =
    subst (λ x. WentOn s x.worker old mid (Charged x.op)) (sym e)
    (went_further s t.worker old old mid (Claimed t.op) (Charged t.op) (Charge t.worker t.op cost) (went_nowhere s t.worker old (Claimed t.op) p) refl a q)

pub published_alone : (s : Setup) (ch : Holding) (p : Releasing) (old mid new : Machine) → WentOn s ch.worker old mid (Charged ch.op) → p ≡ record { worker = ch.worker; op = ch.op; released = 0 }
    → Enabled s mid.events (Publish ch.worker ch.op) → new ≡ after mid (Publish ch.worker ch.op) ch.worker (Published ch.op 0) → WentOn s p.worker old new (Published p.op p.released)
published_alone s ch p old mid new g e a q =
    subst (λ x. WentOn s x.worker old new (Published x.op x.released)) (sym e)
    (went_further s ch.worker old mid new (Charged ch.op) (Published ch.op 0) (Publish ch.worker ch.op) g refl a q)

pub released_alone : (s : Setup) (p q : Releasing) (old new : Machine) → IsAlone s p.worker old (Published p.op p.released) → q ≡ record { worker = p.worker; op = p.op; released = p.released + 1 }
    → Enabled s old.events (Release p.worker p.op p.released) → new ≡ after old (Release p.worker p.op p.released) p.worker (Published p.op (p.released + 1)) → WentOn s q.worker old new (Published q.op q.released)
released_alone s p q old new g e a n =
    subst (λ x. WentOn s x.worker old new (Published x.op x.released)) (sym e)
    (went_further s p.worker old old new (Published p.op p.released) (Published p.op (p.released + 1)) (Release p.worker p.op p.released) (went_nowhere s p.worker old (Published p.op p.released) g) refl a n)

-- a release gives back place 0 or place 1
pub two_places : (s : Setup) (h : List Event) (w i k : ℕ) → Enabled s h (Release w i k) → k < 2
two_places s h w i k a = let b = a.place in let c = inputs_at_most s.wires i in omega arith

-- ---- all turns

-- a legal history that is longer leaves room for fewer events
pub less_room : (s : Setup) (g h : List Event) → Legal s h → length g < length h → 5 * operations s + s.workers - length h < 5 * operations s + s.workers - length g
less_room s g h l b = let f = events_fit s h l in omega arith

pub takes_first : (old : Machine) (seat : Seat) → SeatAgrees old seat → IsIdle old → TakesTurns seat.worker old old seat
takes_first old seat a i = record { worker = refl; agrees = a; idle = i; goes_on = goes_nowhere seat.worker old.events }

pub takes_another : (s : Setup) (w : ℕ) (old now new : Machine) (seat next : Seat) → TakesTurns w old now seat → HasWorked s seat.worker now next new → TakesTurns w old new next
takes_another s w old now new seat next p q =
    record {
      worker = q.worker ∙ p.worker;
      agrees = q.agrees;
      idle = q.idle;
      goes_on = goes_on_and_on w old.events now.events new.events p.goes_on (subst (λ v. GoesOnBy v now.events new.events) p.worker q.goes_on);
    }

-- ---- the end

pub went_to_the_end : (w : ℕ) (old now new : Machine) (seat : Seat) → TakesTurns w old now seat → new ≡ now → GoesOnBy w old.events new.events
went_to_the_end w old now new seat p e = subst (λ m. GoesOnBy w old.events m.events) (sym e) p.goes_on

pub run_recorded : (s : Setup) (w : ℕ) (before events : List Event) (r : History) → IsRecordOf s events r → GoesOnBy w before events → IsRunOf s w before r
run_recorded s w before events r p q =
    record {
      recorded = record { budget = p.budget; workers = p.workers; made = refl; legal = p.legal };
      goes_on = subst (GoesOnBy w before) (sym p.made) q;
    }

pub stop_recorded : (s : Setup) (events : List Event) (r : History) (b : Bool) → IsRecordOf s events r → is_stopped events ≡ b → is_stopped (past r) ≡ b
stop_recorded s events r b p q = ap is_stopped p.made ∙ q

-- the first of some seats
pub first_is : (seats : List Seat) (x : Seat) → 0 < length seats → x ≡ get_or seats 0 x → x.worker ≡ first_worker seats
first_is [] x b e = absurd (omega arith)
first_is (y ∷ ys) x b e = ap (λ z. z.worker) e

pub first_agrees : (m : Machine) (seats : List Seat) (x : Seat) → 0 < length seats → x ≡ get_or seats 0 x → ((seat : Seat) → slice_get seats 0 ≡ Some seat → SeatAgrees m seat) → SeatAgrees m x
first_agrees m seats x b e q = q x (slice_get_read seats (length seats) 0 x refl b e)
