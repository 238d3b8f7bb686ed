-- How a publish and a release leave their worker.
use Rattle.std.proofs.Common.{◌≡◌, ℕ, ◌+◌, Bool, true, false, ◌&&◌, cond, ◌∷◌, List, refl, sym, ◌∙◌, ap, subst, arith}
use Rattle.std.proofs.lemmas.Bool.{or_left}
use lib.Dec.{eqb, leb}
use Rattle.layer_model.specs.Wirings.{input_count, IsWiring}
use Rattle.ledger_history.specs.declared.event.Event.{Event}
use Rattle.ledger_history.specs.declared.event.Event.TheVariants.{Publish, Release}
use Rattle.ledger_history.specs.Histories.{Setup, is_published, is_finished, releases}
use Rattle.ledger_history.specs.Enabled.{Enabled, Legal}
use Rattle.ledger_history.proofs.Choices.{eqb_itself}
use Rattle.ledger_history.proofs.Releases.{finished_by_count}
use Rattle.ledger_core.specs.declared.condition.Condition.TheVariants.{Idle, Published}
use Rattle.ledger_core.specs.declared.answers.Given.{Given}
use Rattle.ledger_core.specs.declared.answers.Given.TheVariants as gives
use Rattle.ledger_core.specs.Tokens.{Holding, Releasing}
use Rattle.ledger_core.specs.Machines.{Machine, Fits, after}
use Rattle.ledger_core.specs.Answers.{Publishes, Releases}
use Rattle.ledger_core.specs.Working.Turns.{condition_at, IsGivenAt}
use Rattle.ledger_core.proofs.Crews.{fits_publish, fits_published, fits_release, fits_released, no_release}

pub end_of_publish : (s : Setup) (h : List Event) (w i : ℕ) → IsWiring s.wires → Legal s (Publish w i ∷ h) → is_finished s (Publish w i ∷ h) i ≡ leb (input_count s.wires i) 0
end_of_publish s h w i v l =
    finished_by_count s (Publish w i ∷ h) i v l
    ∙ (ap (λ b. b && leb (input_count s.wires i) (releases h i)) (or_left (eqb i i) (is_published h i) (eqb_itself i))
    ∙ ap (leb (input_count s.wires i)) (no_release s h i l.1 (l.0).unpublished))

pub end_of_release : (s : Setup) (h : List Event) (w i k : ℕ) → IsWiring s.wires → Legal s (Release w i k ∷ h) → is_finished s (Release w i k ∷ h) i ≡ leb (input_count s.wires i) (k + 1)
end_of_release s h w i k v l =
    let o : k ≡ releases h i = (l.0).in_order in
    finished_by_count s (Release w i k ∷ h) i v l
    ∙ (ap (λ b. b && leb (input_count s.wires i) (releases (Release w i k ∷ h) i)) (l.0).published
    ∙ ap (leb (input_count s.wires i)) (ap (λ b. cond b 1 0 + releases h i) (eqb_itself i) ∙ omega arith))

pub fits_after_publish : (s : Setup) (h : List Event) (w i : ℕ) → IsWiring s.wires → Legal s (Publish w i ∷ h) → Fits s (Publish w i ∷ h) w (condition_at s.wires i 0)
fits_after_publish s h w i v l = by_test (leb (input_count s.wires i) 0) (end_of_publish s h w i v l)
  where
    by_test : (b : Bool) → is_finished s (Publish w i ∷ h) i ≡ b → Fits s (Publish w i ∷ h) w (cond b Idle (Published i 0))
    by_test true e = fits_published s h w i l e
    by_test false e = fits_publish s h w i l e

pub fits_after_release : (s : Setup) (h : List Event) (w i k : ℕ) → IsWiring s.wires → Legal s (Release w i k ∷ h) → Fits s (Release w i k ∷ h) w (condition_at s.wires i (k + 1))
fits_after_release s h w i k v l = by_test (leb (input_count s.wires i) (k + 1)) (end_of_release s h w i k v l)
  where
    by_test : (b : Bool) → is_finished s (Release w i k ∷ h) i ≡ b → Fits s (Release w i k ∷ h) w (cond b Idle (Published i (k + 1)))
    by_test true e = fits_released s h w i k l e
    by_test false e = fits_release s h w i k l e

pub publishes_by : {J L : Type 0} (s : Setup) (old new : Machine) (c : Holding) (r : Given J L) → is_finished s (Publish c.worker c.op ∷ old.events) c.op ≡ leb (input_count s.wires c.op) 0
    → Enabled s old.events (Publish c.worker c.op) → new ≡ after old (Publish c.worker c.op) c.worker (condition_at s.wires c.op 0) → IsGivenAt s.wires c.worker c.op 0 r → Publishes s old c r new
publishes_by s old new c (gives.More p) f e n g = (g.1, e, f ∙ g.0, n ∙ ap (λ b. after old (Publish c.worker c.op) c.worker (cond b Idle (Published c.op 0))) g.0)
publishes_by s old new c (gives.Idle seat) f e n g = (g.1, e, f ∙ g.0, n ∙ ap (λ b. after old (Publish c.worker c.op) c.worker (cond b Idle (Published c.op 0))) g.0)

pub releases_by : {J L : Type 0} (s : Setup) (old new : Machine) (p : Releasing) (r : Given J L) → is_finished s (Release p.worker p.op p.released ∷ old.events) p.op ≡ leb (input_count s.wires p.op) (p.released + 1)
    → Enabled s old.events (Release p.worker p.op p.released) → new ≡ after old (Release p.worker p.op p.released) p.worker (condition_at s.wires p.op (p.released + 1))
    → IsGivenAt s.wires p.worker p.op (p.released + 1) r → Releases s old p r new
releases_by s old new p (gives.More q) f e n g = (g.1, e, f ∙ g.0, n ∙ ap (λ b. after old (Release p.worker p.op p.released) p.worker (cond b Idle (Published p.op (p.released + 1)))) g.0)
releases_by s old new p (gives.Idle seat) f e n g = (g.1, e, f ∙ g.0, n ∙ ap (λ b. after old (Release p.worker p.op p.released) p.worker (cond b Idle (Published p.op (p.released + 1)))) g.0)
