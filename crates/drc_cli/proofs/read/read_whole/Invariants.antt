use Rattle.std.proofs.Common.{◌≡◌, ◌-◌, ◌+◌, ◌++◌, ℕ, List, vec_len, IsTrue}
use Rattle.drc_cli.proofs.read.read_whole.Given as goal

-- a front of what was left was read
abbrev pub invariant-pieces : goal.invariant-pieces
invariant-pieces g l = record {
  buffer : vec_len l.buffer ≡ 65536;
  tally : g.F.Files.tally l.files ≡ g.F.Files.tally l.fn.files;
  bytes : IsTrue g.F.Files.tells → (rest : List ℕ) × ((g.F.Files.contents l.fn.files).left ≡ l.bytes.items ++ rest)
      × (g.F.Files.contents l.files ≡ record (g.F.Files.contents l.fn.files) { left = rest });
}

abbrev pub decreases-pieces : goal.decreases-pieces
decreases-pieces g l = (l.limit + 1) - vec_len l.bytes
