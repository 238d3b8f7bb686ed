-- Names of files are texts; and files that were opened.
use Rattle.std.proofs.Common.{◌≡◌, ℕ, ◌<◌, true, false, List, length, get_or, Some, Result, Ok, Err, is_err, inl, inr, arith}
use Rattle.std.specs.Str.{IsUtf8}
use Rattle.std.proofs.lemmas.Str.{IsUtf8-from_ascii}
use Rattle.std.proofs.lemmas.Bool.{cases_lt}
use Rattle.std.proofs.lemmas.List.{get_or_past}
use Rattle.drc_ports.specs.declared.failed.Failed.{Failed}
use Rattle.drc_ports.specs.Files.{Contents, BeginsRead}
use Rattle.first_form.specs.FirstForm.{IsFileName, is_file_byte}

file_byte_small : (c : ℕ) → is_file_byte c ≡ true → c < 128
file_byte_small c e = grind arith

pub file_name_is_text : (name : List ℕ) → IsFileName name → IsUtf8 name
file_name_is_text name file = IsUtf8-from_ascii name (λ i. elim (cases_lt i (length name)) [
  | inl here ↦ file_byte_small (get_or name i 0) (file.bytes i 0 here)
  | inr past ↦ rw (get_or_past name i 0 past) (omega arith)
])

pub begins_ok : (name : List ℕ) (r : Result (Unit {0}) Failed) (old new : Contents) → is_err r ≡ false → BeginsRead name r old new
    → (bytes : List ℕ) × (old.held name ≡ Some bytes) × (new ≡ record old { left = bytes })
begins_ok name (Ok u) old new opened begins = begins
begins_ok name (Err failed) old new opened begins = absurd cc
