-- The number and the word of each reason for which a layout is refused.
use Rattle.std.specs.Prelude.{ℕ, List, codes}
use Rattle.gds_records.specs.declared.fault.LayoutKind.{LayoutKind}
use Rattle.gds_records.specs.declared.fault.LayoutKind.TheVariants as kinds

abbrev pub layout_number : LayoutKind → ℕ
layout_number kinds.LayoutTooLong = 1
layout_number kinds.Truncated = 2
layout_number kinds.BadLength = 3
layout_number kinds.UnexpectedRecord = 4
layout_number kinds.BadData = 5
layout_number kinds.UnitsMismatch = 6
layout_number kinds.DuplicateStructure = 7
layout_number kinds.NoPrimary = 8
layout_number kinds.MissingStructure = 9
layout_number kinds.Recursion = 10
layout_number kinds.DepthLimit = 11
layout_number kinds.AbsoluteFlag = 12
layout_number kinds.Magnification = 13
layout_number kinds.AngleNotRight = 14
layout_number kinds.ArrayPitch = 15
layout_number kinds.TooManyShapes = 16
layout_number kinds.NotClosed = 17
layout_number kinds.NotRightAngled = 18
layout_number kinds.RoundPath = 19
layout_number kinds.OddWidth = 20
layout_number kinds.CoordinateRange = 21
layout_number kinds.NotBuilt = 90

abbrev pub layout_word : LayoutKind → List ℕ
layout_word kinds.LayoutTooLong = codes "LayoutTooLong"
layout_word kinds.Truncated = codes "Truncated"
layout_word kinds.BadLength = codes "BadLength"
layout_word kinds.UnexpectedRecord = codes "UnexpectedRecord"
layout_word kinds.BadData = codes "BadData"
layout_word kinds.UnitsMismatch = codes "UnitsMismatch"
layout_word kinds.DuplicateStructure = codes "DuplicateStructure"
layout_word kinds.NoPrimary = codes "NoPrimary"
layout_word kinds.MissingStructure = codes "MissingStructure"
layout_word kinds.Recursion = codes "Recursion"
layout_word kinds.DepthLimit = codes "DepthLimit"
layout_word kinds.AbsoluteFlag = codes "AbsoluteFlag"
layout_word kinds.Magnification = codes "Magnification"
layout_word kinds.AngleNotRight = codes "AngleNotRight"
layout_word kinds.ArrayPitch = codes "ArrayPitch"
layout_word kinds.TooManyShapes = codes "TooManyShapes"
layout_word kinds.NotClosed = codes "NotClosed"
layout_word kinds.NotRightAngled = codes "NotRightAngled"
layout_word kinds.RoundPath = codes "RoundPath"
layout_word kinds.OddWidth = codes "OddWidth"
layout_word kinds.CoordinateRange = codes "CoordinateRange"
layout_word kinds.NotBuilt = codes "NotBuilt"
