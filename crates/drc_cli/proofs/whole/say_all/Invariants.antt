use Rattle.std.proofs.Common.{◌≡◌, ◌++◌, ℕ, List, length, IsTrue}
use Rattle.drc_cli.proofs.whole.say_all.Given as goal

-- a front was said, and the rest is left
abbrev pub invariant-loop-rest : goal.invariant-loop-rest
invariant-loop-rest g l = record {
  tally : g.F.Files.tally l.files ≡ g.F.Files.tally l.fn.files;
  said : IsTrue g.F.Files.tells → (front : List ℕ) × (l.bytes ≡ front ++ l.rest)
      × (g.F.Files.contents l.files ≡ record (g.F.Files.contents l.fn.files) { said = (g.F.Files.contents l.fn.files).said ++ front });
}

abbrev pub decreases-loop-rest : goal.decreases-loop-rest
decreases-loop-rest g l = length l.rest
