-- Working words of a header: its first number that isn't as it should be.
use Rattle.std.specs.Prelude.{◌≡◌, ◌≢◌, ◌⊎◌, ℕ, ◌<◌, ◌≤◌, length}
use Rattle.trace_text.specs.Traces.{Told}
use Rattle.trace_replay.specs.declared.header.Asked.{Asked}
use Rattle.trace_text.specs.Refusals.{Terms, Differs}

-- what is asked for, without where it lies in memory
abbrev pub terms_of : Asked → Terms
terms_of a = record { wires = a.wires.now; workers = a.workers; budget = a.budget }

-- the number of workers isn't one that is asked for
abbrev pub AreOff : Terms → ℕ → Type 0
AreOff terms n = ((n < 1) ⊎ (64 < n)) ⊎ Differs terms.workers n

-- the numbers of the header that were read, of so many lines, are as they should be
pub record HeaderFits (terms : Terms) (lines : ℕ) (t : Told) : Type 0 where
  pub operations : 2 ≤ lines → t.operations ≡ length terms.wires
  pub workers : 3 ≤ lines → AreOff terms t.workers → ⊥
  pub budget : 4 ≤ lines → Differs terms.budget t.budget → ⊥

-- one that was read isn't, and those before it are
pub record IsOffAt (terms : Terms) (lines : ℕ) (t : Told) (line : ℕ) : Type 0 where
  pub low : 2 ≤ line
  pub high : line ≤ 4
  pub read : line ≤ lines
  pub operations : line ≡ 2 → t.operations ≢ length terms.wires
  pub workers : line ≡ 3 → AreOff terms t.workers
  pub budget : line ≡ 4 → Differs terms.budget t.budget
  pub before_workers : 3 ≤ line → t.operations ≡ length terms.wires
  pub before_budget : 4 ≤ line → AreOff terms t.workers → ⊥
