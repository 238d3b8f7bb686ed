-- What can stand at the front of bytes that begin at an offset: a whole record, less than one, or a header that is
-- refused. Each rules out the others, and bytes that come behind change none but the second.
use Rattle.std.proofs.Common.{◌≡◌, ℕ, ◌+◌, ◌≤◌, inl, inr, List, [], ◌∷◌, ◌++◌, length, refl, ap, ◌∙◌, arith, length-append}
use Rattle.gds_records.specs.Records.{Item, size_of, spelling, said_length, IsTooLong, IsBadLength, IsGoodLength, IsPartial}

-- a record's own header says its length
pub said_length-spelling : (item : Item) (rest : List ℕ) → said_length (spelling item ++ rest) ≡ size_of item
said_length-spelling item rest = omega arith

-- how many bytes a record and what follows it are
pub length-spelling : (item : Item) (rest : List ℕ) → length (spelling item ++ rest) ≡ size_of item + length rest
length-spelling item rest = omega (arith, length-append item.body rest)

-- ---- A whole record is none of the other three

pub whole_not_partial : (at : ℕ) (bytes : List ℕ) (item : Item) (rest : List ℕ) → bytes ≡ spelling item ++ rest → IsPartial at bytes → ⊥
whole_not_partial at bytes item rest whole (inl short) =
    omega (arith, ap length whole, length-spelling item rest)
whole_not_partial at bytes item rest whole (inr short) =
    omega (arith, ap length whole, length-spelling item rest, ap said_length whole, said_length-spelling item rest, short.1)

pub whole_not_too_long : (at : ℕ) (bytes : List ℕ) (item : Item) (rest : List ℕ) → bytes ≡ spelling item ++ rest → IsGoodLength at (size_of item) → IsTooLong at bytes → ⊥
whole_not_too_long at bytes item rest whole good long =
    omega (arith, ap said_length whole, said_length-spelling item rest, good.near, long.far)

pub whole_not_bad_length : (at : ℕ) (bytes : List ℕ) (item : Item) (rest : List ℕ) → bytes ≡ spelling item ++ rest → IsGoodLength at (size_of item) → IsBadLength at bytes → ⊥
whole_not_bad_length at bytes item rest whole good wrong =
    let same : said_length bytes ≡ size_of item = ap said_length whole ∙ said_length-spelling item rest in
    elim wrong.bad as (λ _. ⊥) [ inl low ↦ omega (arith, same, good.header, low) | inr odd ↦ omega (arith, same, good.even, odd) ]

-- ---- Nor are two of those three so at once

pub partial_not_too_long : (at : ℕ) (bytes : List ℕ) → IsPartial at bytes → IsTooLong at bytes → ⊥
partial_not_too_long at bytes (inl short) long = omega (arith, short, long.header)
partial_not_too_long at bytes (inr short) long = omega (arith, short.0.near, long.far)

pub partial_not_bad_length : (at : ℕ) (bytes : List ℕ) → IsPartial at bytes → IsBadLength at bytes → ⊥
partial_not_bad_length at bytes (inl short) wrong = omega (arith, short, wrong.header)
partial_not_bad_length at bytes (inr short) wrong =
    elim wrong.bad as (λ _. ⊥) [ inl low ↦ omega (arith, short.0.header, low) | inr odd ↦ omega (arith, short.0.even, odd) ]

pub too_long_not_bad_length : (at : ℕ) (bytes : List ℕ) → IsTooLong at bytes → IsBadLength at bytes → ⊥
too_long_not_bad_length at bytes long wrong = omega (arith, long.far, wrong.near)

-- ---- Bytes that come behind a refused header leave it refused

said_length-more : (bytes more : List ℕ) → 4 ≤ length bytes → said_length (bytes ++ more) ≡ said_length bytes
said_length-more [] more h = absurd (omega (arith, h))
said_length-more (high ∷ []) more h = absurd (omega (arith, h))
said_length-more (high ∷ low ∷ rest) more h = refl

pub too_long-more : (at : ℕ) (bytes more : List ℕ) → IsTooLong at bytes → IsTooLong at (bytes ++ more)
too_long-more at bytes more long = record {
  header = omega (arith, length-append bytes more, long.header);
  far = omega (arith, said_length-more bytes more long.header, long.far);
}

pub bad_length-more : (at : ℕ) (bytes more : List ℕ) → IsBadLength at bytes → IsBadLength at (bytes ++ more)
bad_length-more at bytes more wrong = record {
  header = omega (arith, length-append bytes more, wrong.header);
  near = omega (arith, said_length-more bytes more wrong.header, wrong.near);
  bad = let same = said_length-more bytes more wrong.header in rw same wrong.bad;
}
