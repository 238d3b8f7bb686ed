use Rattle.std.proofs.Common.{◌≡◌, ◌++◌, ℕ, List, length, IsTrue, Some}
use Rattle.drc_ports.specs.Files.{HasNow}
use Rattle.drc_cli.proofs.whole.write_all.Given as goal

-- a front was written behind what was there, and the rest is left
abbrev pub invariant-loop-rest : goal.invariant-loop-rest
invariant-loop-rest g l = record {
  tally : g.F.Files.tally l.files ≡ g.F.Files.tally l.fn.files;
  written : IsTrue g.F.Files.tells → (before : List ℕ) → (g.F.Files.contents l.fn.files).made (g.F.Files.contents l.fn.files).target ≡ Some before
      → (front : List ℕ) × (l.bytes ≡ front ++ l.rest)
      × HasNow (g.F.Files.contents l.fn.files).target (before ++ front) (g.F.Files.contents l.fn.files).made (g.F.Files.contents l.files).made
      × (g.F.Files.contents l.files ≡ record (g.F.Files.contents l.fn.files) { made = (g.F.Files.contents l.files).made });
}

abbrev pub decreases-loop-rest : goal.decreases-loop-rest
decreases-loop-rest g l = length l.rest
