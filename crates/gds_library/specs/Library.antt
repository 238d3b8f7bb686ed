-- A library: structures, and in each the elements that are drawn or placed, in the order of the stream.
use Rattle.std.specs.Prelude.{ℕ, List, [], Option}
use Rattle.gds_records.specs.declared.real.Real8.{Real8}
use Rattle.gds_library.specs.declared.element.Point.{Point}
use Rattle.gds_library.specs.declared.element.Outline.{Outline}
use Rattle.gds_library.specs.declared.element.Path.{Path}
use Rattle.gds_library.specs.declared.element.Instance.{Instance}

-- an element with its points
pub data Drawing : Type 0 where
  boundary : Outline → List Point → Drawing
  box : Outline → List Point → Drawing
  path : Path → List Point → Drawing
  instance : Instance → List Point → Drawing

-- a structure: its name, the offset of its BGNSTR, and what stands in it
pub record Structure : Type 0 where
  pub name : List ℕ
  pub at : ℕ
  pub elements : List Drawing

-- a library: the size of a database unit in user units and in metres, its structures, and the offset of its ENDLIB
pub record Library : Type 0 where
  pub user_units : Real8
  pub metres : Real8
  pub structures : List Structure
  pub end_at : ℕ
