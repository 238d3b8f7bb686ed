-- What stands in a state, and how one more event keeps it.
use Rattle.std.proofs.Common.{◌≡◌, ◌⊎◌, ◌↔◌, ℕ, ◌+◌, ◌<◌, ◌≤◌, IsTrue, Bool, true, false, nat_lt, cond, List, [], ◌∷◌, length, replicate, set, Option, None, Some, inl, inr, refl, sym, ◌∙◌, ap, subst, arith}
use Rattle.std.proofs.lemmas.Bool.{cases_lt, lt-ltb, le-ltb}
use Rattle.std.proofs.lemmas.List.{length-replicate}
use Rattle.std.proofs.lemmas.Option.{slice_get_within}
use Rattle.std.specs.Prelude.{slice_get, IfSome}
use Rattle.layer_model.specs.Wirings.{input, input_count, CountsReaders, IsWiring}
use Rattle.ledger_history.specs.declared.event.Event.{Event}
use Rattle.ledger_history.specs.declared.event.Event.TheVariants.{Claim, Charge, Publish, Release, Stop}
use Rattle.ledger_history.specs.Histories.{Setup, is_published, is_live, is_stopped, held, total, is_let_go}
use Rattle.ledger_history.specs.Enabled.{Enabled, Legal, IsNext, AllFinishedBelow}
use Rattle.ledger_history.specs.Steps.{worker_of}
use Rattle.list_facts.proofs.Tests.{clash}
use Rattle.ledger_table.specs.Ledgers.{Ledger, setup_with, setup_of, charged_cost, with_event, IsAllowed}
use Rattle.ledger_table.proofs.Slots.{slot_replicated}
use Rattle.ledger_table.proofs.Costs.{next_at}
use Rattle.ledger_table.proofs.Telling.{absent_published}
use Rattle.ledger_core.specs.declared.condition.Condition.{Condition}
use Rattle.ledger_core.specs.declared.condition.Condition.TheVariants.{Idle, Claimed, Charged, Published}
use Rattle.ledger_core.specs.Tokens.{Stock}
use Rattle.ledger_core.specs.Machines.{Fits}
use Rattle.ledger_core.specs.States.{StockOf, StocksWith, StocksOf, CrewOf, IsState}
use Rattle.ledger_core.proofs.Crews.{crew_after, crew_dropped}

-- the table has what the job's type names
pub same_setup : (s : Setup) (t : Ledger) (readers : List ℕ) (stocks : List Stock) (crew : List Condition) → IsState s t readers stocks crew → setup_with s.cost t ≡ s
same_setup s t readers stocks crew p =
    let a : Setup = record { wires = s.wires; cost = s.cost; budget = t.budget; workers = t.workers } in
    ap (λ w. record a { wires = w }) p.wires
    ∙ (ap (λ b. record a { budget = b }) p.budget
    ∙ ap (λ n. let x : Setup = record { wires = s.wires; cost = s.cost; budget = s.budget; workers = n } in x) p.workers)

pub allowed : (s : Setup) (t : Ledger) (readers : List ℕ) (stocks : List Stock) (crew : List Condition) (e : Event) → IsState s t readers stocks crew → Enabled s t.events e → IsAllowed t e
allowed s t readers stocks crew e p a = record { cost = s.cost; enabled = subst (λ x. Enabled x t.events e) (sym (same_setup s t readers stocks crew p)) a }

-- one more event, after which its worker is at something else
pub state_made : (s : Setup) (t u : Ledger) (readers : List ℕ) (stocks later : List Stock) (crew : List Condition) (w : ℕ) (c : Condition) (e : Event) → IsState s t readers stocks crew → Enabled s t.events e
    → worker_of e ≡ w → u ≡ with_event t e → StocksOf s (e ∷ t.events) later → Fits s (e ∷ t.events) w c → IsState s u readers later (set crew w c)
state_made s t u readers stocks later crew w c e p a n q k f =
    subst (λ x. IsState s x readers later (set crew w c)) (sym q)
    (record {
      wires = p.wires;
      budget = p.budget;
      workers = p.workers;
      wiring = p.wiring;
      legal = (a, p.legal);
      counted = p.counted;
      stocked = k;
      manned = crew_after s t.events e crew w c (a, p.legal) n p.manned f;
    })

pub state_dropped : (s : Setup) (t : Ledger) (readers : List ℕ) (stocks : List Stock) (crew : List Condition) (w : ℕ) → IsState s t readers stocks crew → is_stopped t.events ≡ true → IsState s t readers stocks (set crew w Idle)
state_dropped s t readers stocks crew w p e =
    record {
      wires = p.wires;
      budget = p.budget;
      workers = p.workers;
      wiring = p.wiring;
      legal = p.legal;
      counted = p.counted;
      stocked = p.stocked;
      manned = crew_dropped s t.events crew w e p.manned;
    }

-- what an idle worker may claim
pub may_claim : (s : Setup) (t : Ledger) (readers : List ℕ) (stocks : List Stock) (crew : List Condition) (w i : ℕ) → IsState s t readers stocks crew → slice_get crew w ≡ Some Idle → is_stopped t.events ≡ false
    → IsNext (setup_of t) t.events i → Enabled s t.events (Claim w i)
may_claim s t readers stocks crew w i p e r n =
    record {
      runs = r;
      worker = let b = slice_get_within crew w Idle e in let d = p.manned.all in omega arith;
      idle = elim (p.manned.each w Idle e) [ inl f ↦ f | inr f ↦ clash _ f r ];
      next = subst (λ x. IsNext x t.events i) (same_setup s t readers stocks crew p) (next_at t (charged_cost t.events) s.cost t.events i n);
    }

pub may_stop : (s : Setup) (t : Ledger) (readers : List ℕ) (stocks : List Stock) (crew : List Condition) (w i : ℕ) → IsState s t readers stocks crew → slice_get crew w ≡ Some (Claimed i) → Enabled s t.events (Stop w)
may_stop s t readers stocks crew w i p e = let f = p.manned.each w (Claimed i) e in record { op = i; holds = f.0; uncharged = f.1 }

pub may_publish : (s : Setup) (t : Ledger) (readers : List ℕ) (stocks : List Stock) (crew : List Condition) (w i : ℕ) → IsState s t readers stocks crew → slice_get crew w ≡ Some (Charged i) → Enabled s t.events (Publish w i)
may_publish s t readers stocks crew w i p e = let f = p.manned.each w (Charged i) e in record { holds = f.0; charged = f.1; unpublished = f.2 }

pub may_release : (s : Setup) (t : Ledger) (readers : List ℕ) (stocks : List Stock) (crew : List Condition) (w i k : ℕ) → IsState s t readers stocks crew → slice_get crew w ≡ Some (Published i k) → k < input_count s.wires i → Enabled s t.events (Release w i k)
may_release s t readers stocks crew w i k p e b = let f = p.manned.each w (Published i k) e in record { holds = f.0; published = f.1; in_order = sym f.2; place = b }

pub worker_there : (s : Setup) (t : Ledger) (readers : List ℕ) (stocks : List Stock) (crew : List Condition) (w : ℕ) (c : Condition) → slice_get crew w ≡ Some c → w < length crew
worker_there s t readers stocks crew w c e = slice_get_within crew w c e

-- ---- layers

-- of a live layer there are copies
pub stocked_live : (s : Setup) (h : List Event) (places : ℕ → ℕ) (stocks : List Stock) (j : ℕ) (x : Stock) → StocksWith s h places stocks → is_live s h j ≡ true → slice_get stocks j ≡ Some x → (x.op ≡ j) × (0 < x.count)
stocked_live s h places stocks j x p l e =
    let q = p.each j x e in
    let n : x.count ≡ 1 + places j = q.count ∙ ap (λ b. cond b (1 + places j) 0) l in
    (q.op, omega arith)

count_shows : (b : Bool) (n m : ℕ) → n ≡ cond b (1 + m) 0 → nat_lt 0 n ≡ b
count_shows true n m e = lt-ltb 0 n (omega arith)
count_shows false n m e = le-ltb 0 n (omega arith)

pub shows_live : (s : Setup) (h : List Event) (stocks : List Stock) (j : ℕ) (x : Stock) → StocksOf s h stocks → slice_get stocks j ≡ Some x → nat_lt 0 x.count ≡ is_live s h j
shows_live s h stocks j x p e = count_shows (is_live s h j) x.count _ (p.each j x e).count

pub absent_dead : (s : Setup) (h : List Event) (j : ℕ) → Legal s h → length s.wires ≤ j → false ≡ is_live s h j
absent_dead s h j l b = sym (Rattle.std.proofs.lemmas.Bool.and_left (is_published h j) _ (absent_published s h j l b))

pub if_some_at : {X : Type 0} (o : Option X) (P Q : X → Type 0) → ((x : X) → P x → Q x) → IfSome o P → IfSome o Q
if_some_at None P Q f p = p
if_some_at (Some x) P Q f p = f x p

-- ---- the start

pub state_starts : (s : Setup) (t : Ledger) (readers : List ℕ) (stocks : List Stock) (crew : List Condition) → t ≡ record { wires = s.wires; budget = s.budget; workers = s.workers; events = [] } → IsWiring s.wires → CountsReaders s.wires readers
    → length stocks ≡ length s.wires → ((j : ℕ) (x : Stock) → slice_get stocks j ≡ Some x → x ≡ record { op = j; count = 0 }) → crew ≡ replicate s.workers Idle → IsState s t readers stocks crew
state_starts s t readers stocks crew e v r n k q =
    subst (λ x. IsState s x readers stocks crew) (sym e)
    (record {
      wires = refl;
      budget = refl;
      workers = refl;
      wiring = v;
      legal = tt;
      counted = r;
      stocked = record { all = n; each = λ j x g. record { op = ap (λ y. y.op) (k j x g); count = ap (λ y. y.count) (k j x g) } };
      manned = record { all = ap length q ∙ length-replicate s.workers Idle; each = λ w c g. subst (λ d. Fits s [] w d) (sym (slot_replicated crew s.workers Idle q w c g)) (inl refl) };
    })

-- ---- charges

admission : (s : Setup) (t : Ledger) (readers : List ℕ) (stocks : List Stock) (crew : List Condition) (b : Bool) (i n : ℕ) → IsState s t readers stocks crew
    → IsTrue b ↔ ((total (setup_of t) t.events + n ≤ t.budget) ⊎ AllFinishedBelow (setup_of t) t.events i) → IsTrue b ↔ ((total s t.events + n ≤ s.budget) ⊎ AllFinishedBelow s t.events i)
admission s t readers stocks crew b i n p a = subst (λ x. IsTrue b ↔ ((total x t.events + n ≤ x.budget) ⊎ AllFinishedBelow x t.events i)) (same_setup s t readers stocks crew p) a

pub not_admitted : (s : Setup) (t : Ledger) (readers : List ℕ) (stocks : List Stock) (crew : List Condition) (b : Bool) (i n : ℕ) → IsState s t readers stocks crew
    → IsTrue b ↔ ((total (setup_of t) t.events + n ≤ t.budget) ⊎ AllFinishedBelow (setup_of t) t.events i) → b ≡ false → (s.budget < total s t.events + n) × (AllFinishedBelow s t.events i → ⊥)
not_admitted s t readers stocks crew b i n p a e =
    let r = admission s t readers stocks crew b i n p a in (
      elim (cases_lt s.budget (total s t.events + n)) [ inl q ↦ q | inr q ↦ clash _ (r.1 (inl q)) e ],
      λ q. clash _ (r.1 (inr q)) e,
    )

pub may_charge : (s : Setup) (t : Ledger) (readers : List ℕ) (stocks : List Stock) (crew : List Condition) (b : Bool) (w i n : ℕ) → IsState s t readers stocks crew → slice_get crew w ≡ Some (Claimed i)
    → is_stopped t.events ≡ false → n ≡ s.cost i → IsTrue b ↔ ((total (setup_of t) t.events + n ≤ t.budget) ⊎ AllFinishedBelow (setup_of t) t.events i) → b ≡ true → Enabled s t.events (Charge w i n)
may_charge s t readers stocks crew b w i n p e r c a q =
    let f = p.manned.each w (Claimed i) e in
    record { runs = r; holds = f.0; uncharged = f.1; cost = c; fits = (admission s t readers stocks crew b i n p a).0 q }
