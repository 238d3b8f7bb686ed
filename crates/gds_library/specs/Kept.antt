-- Which elements of a library are kept: all, or references and what is drawn on layers that are read.
use Rattle.std.specs.Prelude.{◌≡◌, Bool, true, List, map}
use Rattle.std.specs.List.{filter}
use Rattle.layer_model.specs.DrawnNumbers.{takes}
use Rattle.gds_records.specs.Records.{Item}
use Rattle.gds_library.specs.declared.keep.Keep.{Keep}
use Rattle.gds_library.specs.declared.keep.Keep.TheVariants as keeps
use Rattle.gds_library.specs.Library.{Drawing, boundary, box, path, instance, Structure, Library}
use Rattle.gds_library.specs.Streams.{ReadsAs}

abbrev pub is_kept : Keep → Drawing → Bool
is_kept keeps.All drawing = true
is_kept (keeps.Only reads) (boundary outline points) = takes reads outline.layer outline.data_type
is_kept (keeps.Only reads) (box outline points) = takes reads outline.layer outline.data_type
is_kept (keeps.Only reads) (path drawing points) = takes reads drawing.outline.layer drawing.outline.data_type
is_kept (keeps.Only reads) (instance placed points) = true

abbrev pub kept_of : Keep → Structure → Structure
kept_of keep structure = record structure { elements = filter (is_kept keep) structure.elements }

-- the library with only these elements
abbrev pub kept : Keep → Library → Library
kept keep library = record library { structures = map (kept_of keep) library.structures }

-- the records say a library, and this is what is kept of it
pub record IsKeptOf (keep : Keep) (items : List Item) (result : Library) : Type 0 where
  pub library : Library
  pub says : ReadsAs items library
  pub is : result ≡ kept keep library
