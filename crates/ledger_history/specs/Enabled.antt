-- When an event may happen after a history, and which histories are legal.
use Rattle.std.specs.Prelude.{◌≡◌, ◌⊎◌, ℕ, ◌+◌, ◌<◌, ◌≤◌, true, false, List, [], ◌∷◌, None, Some}
use Rattle.layer_model.specs.Wirings.{input, input_count}
use Rattle.ledger_history.specs.declared.event.Event.{Event}
use Rattle.ledger_history.specs.declared.event.Event.TheVariants.{Claim, Charge, Publish, Release, Stop}
use Rattle.ledger_history.specs.Histories.{Setup, operations, is_claimed, is_charged, is_published, is_finished, is_stopped, releases, held, total}

-- the input of operation i at place k is published, if there is one
abbrev pub InputIsPublished : Setup → List Event → ℕ → ℕ → Type 0
InputIsPublished s h i k = (j : ℕ) → input s.wires i k ≡ Some j → is_published h j ≡ true

-- operation i is there and isn't claimed, and each of its inputs is published
pub record IsReady (s : Setup) (h : List Event) (i : ℕ) : Type 0 where
  pub there : i < operations s
  pub unclaimed : is_claimed h i ≡ false
  pub inputs : (k : ℕ) → InputIsPublished s h i k

-- operation i is the lowest that is ready
pub record IsNext (s : Setup) (h : List Event) (i : ℕ) : Type 0 where
  pub ready : IsReady s h i
  pub lowest : (j : ℕ) → IsReady s h j → i ≤ j

-- every operation below i is finished
abbrev pub AllFinishedBelow : Setup → List Event → ℕ → Type 0
AllFinishedBelow s h i = (j : ℕ) → j < i → is_finished s h j ≡ true

-- worker w, which is idle, may claim operation i: no worker has stopped the run, and i is the lowest ready operation
pub record MayClaim (s : Setup) (h : List Event) (w i : ℕ) : Type 0 where
  pub runs : is_stopped h ≡ false
  pub worker : w < s.workers
  pub idle : held s h w ≡ None
  pub next : IsNext s h i

-- worker w may charge operation i, which it holds, with its cost: the total stays within the budget, or no lower
-- operation is unfinished
pub record MayCharge (s : Setup) (h : List Event) (w i c : ℕ) : Type 0 where
  pub runs : is_stopped h ≡ false
  pub holds : held s h w ≡ Some i
  pub uncharged : is_charged h i ≡ false
  pub cost : c ≡ s.cost i
  pub fits : (total s h + c ≤ s.budget) ⊎ AllFinishedBelow s h i

-- worker w may publish operation i, which it holds and has charged
pub record MayPublish (s : Setup) (h : List Event) (w i : ℕ) : Type 0 where
  pub holds : held s h w ≡ Some i
  pub charged : is_charged h i ≡ true
  pub unpublished : is_published h i ≡ false

-- worker w may release place k of operation i, which it holds and has published: the places go in order
pub record MayRelease (s : Setup) (h : List Event) (w i k : ℕ) : Type 0 where
  pub holds : held s h w ≡ Some i
  pub published : is_published h i ≡ true
  pub in_order : k ≡ releases h i
  pub place : k < input_count s.wires i

-- worker w may drop operation i, which it holds and hasn't charged
pub record MayStop (s : Setup) (h : List Event) (w : ℕ) : Type 0 where
  pub op : ℕ
  pub holds : held s h w ≡ Some op
  pub uncharged : is_charged h op ≡ false

-- the event may happen after the history
abbrev pub Enabled : Setup → List Event → Event → Type 0
Enabled s h (Claim w i) = MayClaim s h w i
Enabled s h (Charge w i c) = MayCharge s h w i c
Enabled s h (Publish w i) = MayPublish s h w i
Enabled s h (Release w i k) = MayRelease s h w i k
Enabled s h (Stop w) = MayStop s h w

-- each event was enabled after the events before it
abbrev pub Legal : Setup → List Event → Type 0
Legal s [] = Unit {0}
Legal s (e ∷ h) = Enabled s h e × Legal s h
