-- What the events do to the conditions of workers.
use Rattle.std.proofs.Common.{◌≡◌, ℕ, zero, suc, ◌+◌, ◌<◌, Bool, true, false, ◌||◌, cond, List, ◌∷◌, length, set, Option, None, Some, inl, inr, refl, sym, ◌∙◌, ap, subst, arith}
use Rattle.std.proofs.lemmas.Bool.{cases_Bool, cases_eq, ne_eqb, or_left}
use Rattle.std.proofs.lemmas.List.{length-set}
use Rattle.std.specs.Prelude.{slice_get}
use lib.Dec.{eqb}
use Rattle.ledger_history.specs.declared.event.Event.{Event}
use Rattle.ledger_history.specs.declared.event.Event.TheVariants.{Claim, Charge, Publish, Release, Stop}
use Rattle.ledger_history.specs.Histories.{Setup, is_claimed, is_charged, is_published, is_finished, is_stopped, last_claim, releases, held, if_unfinished}
use Rattle.ledger_history.specs.Enabled.{Legal}
use Rattle.ledger_history.specs.Steps.{worker_of}
use Rattle.list_facts.proofs.Tests.{clash}
use Rattle.ledger_history.proofs.Choices.{eqb_itself}
use Rattle.ledger_history.proofs.Orders.{charged_is_claimed, published_is_charged, held_last, last_is_held}
use Rattle.ledger_history.proofs.Releases.{released_is_published}
use Rattle.ledger_history.proofs.Holders.{one_holder}
use Rattle.ledger_history.proofs.Ends.{publish_ends_its_own, release_ends_its_own, idle_from_none, idle_from_finished}
use Rattle.list_facts.proofs.Slots.{unwritten}
use Rattle.ledger_table.proofs.Slots.{slot_is}
use Rattle.ledger_table.proofs.Holding.{held_kept, unclaimed_unfinished}
use Rattle.ledger_core.specs.declared.condition.Condition.{Condition}
use Rattle.ledger_core.specs.declared.condition.Condition.TheVariants.{Idle, Claimed, Charged, Published}
use Rattle.ledger_core.specs.Machines.{Fits}
use Rattle.ledger_core.specs.States.{CrewOf}

-- ---- the other workers

-- what the events say of another worker and of its operation stays
record Apart (s : Setup) (h : List Event) (e : Event) (v : ℕ) : Type 0 where
  holds : held s (e ∷ h) v ≡ held s h v
  charged : (i : ℕ) → held s h v ≡ Some i → is_charged (e ∷ h) i ≡ is_charged h i
  published : (i : ℕ) → held s h v ≡ Some i → is_published (e ∷ h) i ≡ is_published h i
  released : (i : ℕ) → held s h v ≡ Some i → releases (e ∷ h) i ≡ releases h i

-- two workers hold two operations
two_held : (s : Setup) (h : List Event) (v w i j : ℕ) → Legal s h → (v ≡ w → ⊥) → held s h w ≡ Some i → held s h v ≡ Some j → i ≡ j → ⊥
two_held s h v w i j l n p q e = n (one_holder s h v w j l (held_last s h v j q).0 ((held_last s h w i p).0 ∙ ap (λ k. Some k) e))

last_apart : (s : Setup) (h : List Event) (v w i : ℕ) → Legal s h → (v ≡ w → ⊥) → held s h w ≡ Some i → last_claim h v ≡ Some i → ⊥
last_apart s h v w i l n p q = n (one_holder s h v w i l q (held_last s h w i p).0)

apart : (s : Setup) (h : List Event) (e : Event) (v : ℕ) → Legal s (e ∷ h) → (v ≡ worker_of e → ⊥) → Apart s h e v
apart s h (Claim w i) v l n = record {
  holds = ap (λ b. if_unfinished s h (cond b (Some i) (last_claim h v))) (ne_eqb w v (λ e. n (sym e)));
  charged = λ _ _. refl;
  published = λ _ _. refl;
  released = λ _ _. refl;
}
apart s h (Charge w i c) v l n = record {
  holds = refl;
  charged = λ j q. ap (λ b. b || is_charged h j) (ne_eqb i j (two_held s h v w i j l.1 n (l.0).holds q));
  published = λ _ _. refl;
  released = λ _ _. refl;
}
apart s h (Publish w i) v l n = record {
  holds = held_kept s h (Publish w i) i (last_claim h v) (publish_ends_its_own s h w i) (last_apart s h v w i l.1 n (l.0).holds);
  charged = λ _ _. refl;
  published = λ j q. ap (λ b. b || is_published h j) (ne_eqb i j (two_held s h v w i j l.1 n (l.0).holds q));
  released = λ _ _. refl;
}
apart s h (Release w i k) v l n = record {
  holds = held_kept s h (Release w i k) i (last_claim h v) (release_ends_its_own s h w i k) (last_apart s h v w i l.1 n (l.0).holds);
  charged = λ _ _. refl;
  published = λ _ _. refl;
  released = λ j q. ap (λ b. cond b 1 0 + releases h j) (ne_eqb i j (two_held s h v w i j l.1 n (l.0).holds q)) ∙ omega arith;
}
apart s h (Stop w) v l n = record {
  holds = ap (λ b. if_unfinished s h (cond b None (last_claim h v))) (ne_eqb w v (λ e. n (sym e)));
  charged = λ _ _. refl;
  published = λ _ _. refl;
  released = λ _ _. refl;
}

stopped_stays : (e : Event) (h : List Event) → is_stopped h ≡ true → is_stopped (e ∷ h) ≡ true
stopped_stays (Stop w) h q = refl
stopped_stays e h q = q

fits_apart : (s : Setup) (h : List Event) (e : Event) (v : ℕ) (c : Condition) → Apart s h e v → Fits s h v c → Fits s (e ∷ h) v c
fits_apart s h e v Idle a (inl f) = inl (a.holds ∙ f)
fits_apart s h e v Idle a (inr f) = inr (stopped_stays e h f)
fits_apart s h e v (Claimed i) a f = (a.holds ∙ f.0, a.charged i f.0 ∙ f.1)
fits_apart s h e v (Charged i) a f = (a.holds ∙ f.0, a.charged i f.0 ∙ f.1, a.published i f.0 ∙ f.2)
fits_apart s h e v (Published i k) a f = (a.holds ∙ f.0, a.published i f.0 ∙ f.1, a.released i f.0 ∙ f.2)

pub crew_written : (s : Setup) (h g : List Event) (crew : List Condition) (w : ℕ) (c : Condition) → ((v : ℕ) (d : Condition) → (v ≡ w → ⊥) → Fits s h v d → Fits s g v d)
    → CrewOf s h crew → Fits s g w c → CrewOf s g (set crew w c)
crew_written s h g crew w c p q f =
    record {
      all = length-set crew w c ∙ q.all;
      each = λ v d r. elim (cases_eq v w) [
        | inl t ↦ subst (λ k. Fits s g k d) (sym t) (subst (λ x. Fits s g w x) (slot_is crew w c d (subst (λ k. slice_get (set crew w c) k ≡ Some d) t r)) f)
        | inr t ↦ p v d t (q.each v d (sym (unwritten crew w v c t) ∙ r))
      ];
    }

-- one more event, after which its worker is at something else
pub crew_after : (s : Setup) (h : List Event) (e : Event) (crew : List Condition) (w : ℕ) (c : Condition) → Legal s (e ∷ h) → worker_of e ≡ w → CrewOf s h crew → Fits s (e ∷ h) w c → CrewOf s (e ∷ h) (set crew w c)
crew_after s h e crew w c l n q f = crew_written s h (e ∷ h) crew w c (λ v d t r. fits_apart s h e v d (apart s h e v l (λ x. t (x ∙ n))) r) q f

-- in a stopped run anybody may be idle
pub crew_dropped : (s : Setup) (h : List Event) (crew : List Condition) (w : ℕ) → is_stopped h ≡ true → CrewOf s h crew → CrewOf s h (set crew w Idle)
crew_dropped s h crew w t q = crew_written s h h crew w Idle (λ v d n r. r) q (inr t)

-- ---- the worker itself

pub fits_claim : (s : Setup) (h : List Event) (w i : ℕ) → Legal s (Claim w i ∷ h) → Fits s (Claim w i ∷ h) w (Claimed i)
fits_claim s h w i l = (
  last_is_held s (Claim w i ∷ h) w i (ap (λ b. cond b (Some i) (last_claim h w)) (eqb_itself w)) (unclaimed_unfinished s h i l.1 (l.0).next.ready.unclaimed),
  elim (cases_Bool (is_charged h i)) [ inl p ↦ clash _ (charged_is_claimed s h i l.1 p) (l.0).next.ready.unclaimed | inr p ↦ p ],
)

unpublished : (s : Setup) (h : List Event) (i : ℕ) → Legal s h → is_charged h i ≡ false → is_published h i ≡ false
unpublished s h i l u = elim (cases_Bool (is_published h i)) [ inl p ↦ clash _ (published_is_charged s h i l p) u | inr p ↦ p ]

pub fits_charge : (s : Setup) (h : List Event) (w i c : ℕ) → Legal s (Charge w i c ∷ h) → Fits s (Charge w i c ∷ h) w (Charged i)
fits_charge s h w i c l = ((l.0).holds, or_left (eqb i i) (is_charged h i) (eqb_itself i), unpublished s h i l.1 (l.0).uncharged)

pub no_release : (s : Setup) (h : List Event) (i : ℕ) → Legal s h → is_published h i ≡ false → releases h i ≡ 0
no_release s h i l u = by_count (releases h i) (released_is_published s h i l)
  where
    by_count : (n : ℕ) → (0 < n → is_published h i ≡ true) → n ≡ 0
    by_count zero p = refl
    by_count (suc n) p = absurd (clash _ (p (omega arith)) u)

pub fits_publish : (s : Setup) (h : List Event) (w i : ℕ) → Legal s (Publish w i ∷ h) → is_finished s (Publish w i ∷ h) i ≡ false → Fits s (Publish w i ∷ h) w (Published i 0)
fits_publish s h w i l f = (
  last_is_held s (Publish w i ∷ h) w i (held_last s h w i (l.0).holds).0 f,
  or_left (eqb i i) (is_published h i) (eqb_itself i),
  no_release s h i l.1 (l.0).unpublished,
)

pub fits_release : (s : Setup) (h : List Event) (w i k : ℕ) → Legal s (Release w i k ∷ h) → is_finished s (Release w i k ∷ h) i ≡ false → Fits s (Release w i k ∷ h) w (Published i (k + 1))
fits_release s h w i k l f =
    let o : k ≡ releases h i = (l.0).in_order in (
      last_is_held s (Release w i k ∷ h) w i (held_last s h w i (l.0).holds).0 f,
      (l.0).published,
      ap (λ b. cond b 1 0 + releases h i) (eqb_itself i) ∙ omega arith,
    )

pub fits_published : (s : Setup) (h : List Event) (w i : ℕ) → Legal s (Publish w i ∷ h) → is_finished s (Publish w i ∷ h) i ≡ true → Fits s (Publish w i ∷ h) w Idle
fits_published s h w i l f = inl (idle_from_finished s (Publish w i ∷ h) w i (held_last s h w i (l.0).holds).0 f)

pub fits_released : (s : Setup) (h : List Event) (w i k : ℕ) → Legal s (Release w i k ∷ h) → is_finished s (Release w i k ∷ h) i ≡ true → Fits s (Release w i k ∷ h) w Idle
fits_released s h w i k l f = inl (idle_from_finished s (Release w i k ∷ h) w i (held_last s h w i (l.0).holds).0 f)

pub fits_stop : (s : Setup) (h : List Event) (w : ℕ) → Fits s (Stop w ∷ h) w Idle
fits_stop s h w = inl (idle_from_none s (Stop w ∷ h) w (ap (λ b. cond b None (last_claim h w)) (eqb_itself w)))
