-- Readers: who still reads a layer, and which event gives it back.
use Rattle.std.specs.Prelude.{◌≡◌, ℕ, true, false, List, ◌∷◌, Some}
use Rattle.layer_model.specs.Wirings.{input}
use Rattle.ledger_history.specs.declared.event.Event.{Event}
use Rattle.ledger_history.specs.declared.event.Event.TheVariants.{Claim, Charge, Publish, Release, Stop}
use Rattle.ledger_history.specs.Histories.{Setup, is_released, is_let_go}

-- a place that reads operation j isn't released
pub record HasReader (s : Setup) (h : List Event) (j : ℕ) : Type 0 where
  pub op : ℕ
  pub place : ℕ
  pub reads : input s.wires op place ≡ Some j
  pub unreleased : is_released h op place ≡ false

-- the event is the release of a place that reads operation j
abbrev pub IsReturnOf : Setup → Event → ℕ → Type 0
IsReturnOf s (Release w i k) j = input s.wires i k ≡ Some j
IsReturnOf s (Claim w i) j = ⊥
IsReturnOf s (Charge w i c) j = ⊥
IsReturnOf s (Publish w i) j = ⊥
IsReturnOf s (Stop w) j = ⊥

-- the event, after the history, lets the layer of operation j go
pub record LetsGo (s : Setup) (h : List Event) (e : Event) (j : ℕ) : Type 0 where
  pub before : is_let_go s h j ≡ false
  pub after : is_let_go s (e ∷ h) j ≡ true
