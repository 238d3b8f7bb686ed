-- What the elements of a structure as they are kept stand for, with the points of its one list.
use Rattle.std.specs.Prelude.{ℕ, ◌+◌, ◌≤◌, List, map, take, drop, length, All}
use Rattle.gds_library.specs.declared.element.Point.{Point}
use Rattle.gds_library.specs.declared.element.Element.{Element}
use Rattle.gds_library.specs.declared.element.Element.TheVariants as elements
use Rattle.gds_library.specs.declared.structure.Entry.{Entry}
use Rattle.gds_library.specs.Library.{Drawing, boundary, box, path, instance}

-- an element with these points
abbrev pub with_points : Element → List Point → Drawing
with_points (elements.Boundary outline) points = boundary outline points
with_points (elements.Box outline) points = box outline points
with_points (elements.Path drawn) points = path drawn.value points
with_points (elements.Instance placed) points = instance placed.value points

abbrev pub drawing_of : List Point → Entry → Drawing
drawing_of points entry = with_points entry.element (take entry.count (drop entry.first points))

-- the entry's points stand in the list
abbrev pub IsWithin : ℕ → Entry → Type 0
IsWithin count entry = entry.first + entry.count ≤ count
