-- Outcomes: what a command means, over files that hold what it reads. An outcome is a status and the steps that lead
-- there, in order: files that are read, with their bytes, files that are made, with their texts, and a text that is said,
-- which comes last.
use Rattle.std.specs.Prelude.{ℕ, List}
use Rattle.drc_cli.specs.declared.answer.Status.{Status}
use Rattle.drc_cli.specs.declared.answer.Which.{Which}

-- one thing that a command does
pub data Step : Type 0 where
  -- the file of this name is read, which has these bytes
  reads : (which : Which) (name bytes : List ℕ) → Step
  -- a file of this name is made, which has this text
  writes : (which : Which) (name text : List ℕ) → Step
  -- this text is said
  says : (text : List ℕ) → Step

pub record Outcome : Type 0 where
  pub status : Status
  pub steps : List Step
