-- The words of the deck language, and what a name, a file, a number and a note are made of. All compute.
use Rattle.std.specs.Prelude.{ℕ, ◌&&◌, ◌||◌, ◌==◌, nat_le, Bool, true, false, not, List, [], ◌∷◌, map, codes}
use Rattle.std.specs.Char.{is_ascii_alphabetic, is_ascii_alphanumeric, is_ascii_digit, to_ascii_lowercase}
use Rattle.std.specs.List.{list_all, list_any}
use Rattle.std.specs.Str.{bytes_eq}

-- the words that statements and operations are made of
unfoldable pub keywords : List (List ℕ)
keywords =
    codes "ABUT" ∷ codes "ALL" ∷ codes "AND" ∷ codes "ANGLE" ∷ codes "APPEND" ∷ codes "AREA" ∷ codes "ASCII" ∷ codes "BY"
    ∷ codes "CHECK" ∷ codes "COINCIDENT" ∷ codes "COPY" ∷ codes "CUT" ∷ codes "DATABASE" ∷ codes "DATATYPE" ∷ codes "DRC" ∷ codes "EDGE"
    ∷ codes "ENC" ∷ codes "ENCLOSE" ∷ codes "ENCLOSURE" ∷ codes "EXPAND" ∷ codes "EXT" ∷ codes "EXTERNAL" ∷ codes "GDSII" ∷ codes "INSIDE"
    ∷ codes "INT" ∷ codes "INTERACT" ∷ codes "INTERNAL" ∷ codes "LAYER" ∷ codes "LAYOUT" ∷ codes "LENGTH" ∷ codes "MAP" ∷ codes "MAXIMUM"
    ∷ codes "NOT" ∷ codes "NOTCH" ∷ codes "OPPOSITE" ∷ codes "OR" ∷ codes "OUTSIDE" ∷ codes "OVERUNDER" ∷ codes "PATH" ∷ codes "PRECISION"
    ∷ codes "PRIMARY" ∷ codes "RECTANGLE" ∷ codes "REGION" ∷ codes "REPLACE" ∷ codes "REPORT" ∷ codes "RESULTS" ∷ codes "SELECT" ∷ codes "SINGULAR"
    ∷ codes "SIZE" ∷ codes "SPACE" ∷ codes "SQUARE" ∷ codes "SUMMARY" ∷ codes "SYSTEM" ∷ codes "TEXTTYPE" ∷ codes "TITLE" ∷ codes "TOUCH"
    ∷ codes "UNDEROVER" ∷ codes "UNSELECT" ∷ codes "VARIABLE" ∷ codes "XOR"
    ∷ []

-- the words of the language that are set aside
unfoldable pub unsupported_words : List (List ℕ)
unsupported_words =
    codes "ALSO" ∷ codes "ATTACH" ∷ codes "CMACRO" ∷ codes "CONNECT" ∷ codes "CONNECTED" ∷ codes "CONVEX" ∷ codes "CORNER" ∷ codes "DENSITY"
    ∷ codes "DEVICE" ∷ codes "DFM" ∷ codes "DMACRO" ∷ codes "DONUT" ∷ codes "ERC" ∷ codes "EXTENDED" ∷ codes "EXTENT" ∷ codes "FLAG"
    ∷ codes "HOLES" ∷ codes "ICSTATION" ∷ codes "INCLUDE" ∷ codes "KEEP" ∷ codes "LVS" ∷ codes "MAGNIFY" ∷ codes "MDP" ∷ codes "MEASURE"
    ∷ codes "NET" ∷ codes "OASIS" ∷ codes "OFFGRID" ∷ codes "OPC" ∷ codes "PARALLEL" ∷ codes "PERC" ∷ codes "PERPENDICULAR" ∷ codes "PEX"
    ∷ codes "PROJECTING" ∷ codes "RESOLUTION" ∷ codes "ROTATE" ∷ codes "SCONNECT" ∷ codes "SHIFT" ∷ codes "SNAP" ∷ codes "STAMP" ∷ codes "STEP"
    ∷ codes "TEXT" ∷ codes "TVF" ∷ codes "UNIT" ∷ codes "VERTEX" ∷ codes "VIRTUAL" ∷ codes "WINDOW" ∷ codes "WITH"
    ∷ []

-- equal but for the case of the letters
abbrev pub is_same_word : List ℕ → List ℕ → Bool
is_same_word a b = bytes_eq (map to_ascii_lowercase a) (map to_ascii_lowercase b)

-- a word of either list, in any case of letters
unfoldable pub is_keyword : List ℕ → Bool
is_keyword word = list_any (is_same_word word) keywords || list_any (is_same_word word) unsupported_words

-- a letter or `_`
abbrev pub begins_name : ℕ → Bool
begins_name c = is_ascii_alphabetic c || c == 95

-- a letter, a digit, `_`, `.` or `$`
abbrev pub continues_word : ℕ → Bool
continues_word c = is_ascii_alphanumeric c || c == 95 || c == 46 || c == 36

-- the bytes of a name: a letter or `_`, then letters, digits, `_`, `.` and `$`, and no keyword
abbrev pub is_name : List ℕ → Bool
is_name [] = false
is_name (c ∷ more) = begins_name c && list_all continues_word more && not (is_keyword (c ∷ more))

-- printable, and no quote
abbrev pub is_text_byte : ℕ → Bool
is_text_byte c = nat_le 32 c && nat_le c 126 && not (c == 34)

-- the bytes of a file, which may stand in quotes
abbrev pub is_file : List ℕ → Bool
is_file = list_all is_text_byte

-- the digits before a point: `0` alone, or no leading zero
abbrev pub is_whole : List ℕ → Bool
is_whole [] = false
is_whole (d ∷ []) = is_ascii_digit d
is_whole (d ∷ e ∷ more) = is_ascii_digit d && not (d == 48) && list_all is_ascii_digit (e ∷ more)

-- the digits behind a point, the last of them no zero; or none
abbrev pub is_fraction : List ℕ → Bool
is_fraction [] = true
is_fraction (d ∷ []) = is_ascii_digit d && not (d == 48)
is_fraction (d ∷ e ∷ more) = is_ascii_digit d && is_fraction (e ∷ more)

-- a space, a tab or a CR
abbrev pub is_note_blank : ℕ → Bool
is_note_blank c = c == 32 || c == 9 || c == 13

-- the last of some bytes is no blank
abbrev pub ends_note : List ℕ → Bool
ends_note [] = true
ends_note (c ∷ []) = not (is_note_blank c)
ends_note (c ∷ d ∷ more) = ends_note (d ∷ more)

-- the text of a note: it holds no LF, and has no blank at either end
abbrev pub is_note : List ℕ → Bool
is_note [] = true
is_note (c ∷ more) = not (is_note_blank c) && ends_note (c ∷ more) && list_all (λ b. not (b == 10)) (c ∷ more)
