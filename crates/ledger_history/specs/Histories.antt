-- Histories: what a list of events says of operations, layers and workers. A history is read backwards: its newest
-- event stands first. Nothing here asks whether an event was allowed.
use Rattle.std.specs.Prelude.{◌≡◌, ℕ, ◌+◌, ◌<◌, Bool, true, false, not, ◌&&◌, ◌||◌, ◌==◌, if◌then◌else◌, List, [], ◌∷◌, length, Option, None, Some, slice_index}
use Rattle.layer_model.specs.declared.wiring.Wire.{Wire}
use Rattle.layer_model.specs.Wirings.{input, is_reported, one_if_at, reader_count}
use Rattle.ledger_history.specs.declared.event.Event.{Event}
use Rattle.ledger_history.specs.declared.event.Event.TheVariants.{Claim, Charge, Publish, Release, Stop}

-- what is fixed for a run: which operations read which, the cost of each, the budget, and the number of workers
pub record Setup : Type 0 where
  pub wires : List Wire
  pub cost : ℕ → ℕ
  pub budget : ℕ
  pub workers : ℕ

-- what is fixed for a run whose costs are a list
abbrev pub setup_of_lists : List Wire → List ℕ → ℕ → ℕ → Setup
setup_of_lists ws costs budget workers = record { wires = ws; cost = λ i. slice_index costs i; budget = budget; workers = workers }

-- the number of operations
abbrev pub operations : Setup → ℕ
operations s = length s.wires

-- operation i is claimed
abbrev pub is_claimed : List Event → ℕ → Bool
is_claimed [] i = false
is_claimed (Claim w j ∷ h) i = (j == i) || is_claimed h i
is_claimed (e ∷ h) i = is_claimed h i

-- operation i is charged
abbrev pub is_charged : List Event → ℕ → Bool
is_charged [] i = false
is_charged (Charge w j c ∷ h) i = (j == i) || is_charged h i
is_charged (e ∷ h) i = is_charged h i

-- operation i is published
abbrev pub is_published : List Event → ℕ → Bool
is_published [] i = false
is_published (Publish w j ∷ h) i = (j == i) || is_published h i
is_published (e ∷ h) i = is_published h i

-- place k of operation i is released
abbrev pub is_released : List Event → ℕ → ℕ → Bool
is_released [] i k = false
is_released (Release w j m ∷ h) i k = ((j == i) && (m == k)) || is_released h i k
is_released (e ∷ h) i k = is_released h i k

-- there is a stop
abbrev pub is_stopped : List Event → Bool
is_stopped [] = false
is_stopped (Stop w ∷ h) = true
is_stopped (e ∷ h) = is_stopped h

-- how many releases of operation i there are
abbrev pub releases : List Event → ℕ → ℕ
releases [] i = 0
releases (Release w j m ∷ h) i = (if j == i then 1 else 0) + releases h i
releases (e ∷ h) i = releases h i

-- how many releases of places that read operation j there are
abbrev pub returns : Setup → List Event → ℕ → ℕ
returns s [] j = 0
returns s (Release w i k ∷ h) j = one_if_at (input s.wires i k) j + returns s h j
returns s (e ∷ h) j = returns s h j

abbrev pub if_there : Option ℕ → Bool → Bool
if_there None b = true
if_there (Some j) b = b

-- place k of operation i is released, if there is such a place
abbrev pub is_back : Setup → List Event → ℕ → ℕ → Bool
is_back s h i k = if_there (input s.wires i k) (is_released h i k)

-- operation i is published and each of its places was released
abbrev pub is_finished : Setup → List Event → ℕ → Bool
is_finished s h i = is_published h i && (is_back s h i 0 && is_back s h i 1)

-- the layer of operation j is let go: it is published and not reported, and as many places that read it are released as
-- there are
abbrev pub is_let_go : Setup → List Event → ℕ → Bool
is_let_go s h j = is_published h j && (not (is_reported s.wires j) && (returns s h j == reader_count s.wires j))

-- the layer of operation j is live
abbrev pub is_live : Setup → List Event → ℕ → Bool
is_live s h j = is_published h j && not (is_let_go s h j)

-- The total of a history: the sum of the charges of operations that aren't let go in it. `charges_in s all h` takes the
-- charges of h, and what is let go in all.
abbrev pub charges_in : Setup → List Event → List Event → ℕ
charges_in s all [] = 0
charges_in s all (Charge w i c ∷ h) = (if is_let_go s all i then 0 else c) + charges_in s all h
charges_in s all (e ∷ h) = charges_in s all h

abbrev pub total : Setup → List Event → ℕ
total s h = charges_in s h h

-- the operation of the worker's last claim, if no stop of the worker follows that claim
abbrev pub last_claim : List Event → ℕ → Option ℕ
last_claim [] w = None
last_claim (Claim v i ∷ h) w = if v == w then Some i else last_claim h w
last_claim (Stop v ∷ h) w = if v == w then None else last_claim h w
last_claim (e ∷ h) w = last_claim h w

abbrev pub if_unfinished : Setup → List Event → Option ℕ → Option ℕ
if_unfinished s h None = None
if_unfinished s h (Some i) = if is_finished s h i then None else Some i

-- the operation that a worker holds: that of its last claim, if it isn't finished and no stop of the worker follows
abbrev pub held : Setup → List Event → ℕ → Option ℕ
held s h w = if_unfinished s h (last_claim h w)

-- every operation is finished
abbrev pub IsComplete : Setup → List Event → Type 0
IsComplete s h = (i : ℕ) → i < operations s → is_finished s h i ≡ true
