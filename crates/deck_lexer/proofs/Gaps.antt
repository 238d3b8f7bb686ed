-- Laws of gaps: what the first part of one is, that a gap grows by it, and that a text has one gap at its front.
use Rattle.std.proofs.Common.{◌≡◌, ℕ, suc, ◌+◌, ◌-◌, ◌<◌, ◌≤◌, ◌⊎◌, inl, inr, true, eqb, List, [], ◌∷◌, ◌++◌, length, take, drop, Option, Some, None, refl, sym, ap, subst, ◌∙◌, arith, append_assoc, length-append, length-drop}
use Rattle.std.specs.List.{prefix_len, list_all}
use Rattle.std.proofs.lemmas.Bool.{eqb-true, lt-ltb, le-ltb, not-false, cases_Bool}
use Rattle.std.proofs.Math.Seq.{take-length, drop-length}
use Rattle.std.proofs.lemmas.Grind.{common_steps}
use Rattle.std.proofs.lemmas.List.{drop_at, append-nil}
use Rattle.std.proofs.lemmas.List.Folds.{length-prefix_len}
use Rattle.std.proofs.lemmas.List.Sums.{prefix_len-le-length}
use Rattle.deck_lexer.specs.Bytes.{is_blank, is_in_line}
use Rattle.deck_lexer.specs.Tokens.{Part, Blank, Line, Block, part_text, parts_text, IsPart, IsGap}
use Rattle.deck_lexer.specs.Working.Reading.{line_len, block_len, block_part, comment_len, part_len}
use Rattle.deck_lexer.specs.Working.Gaps.{Passes}
use Rattle.deck_lexer.proofs.Spans.{Stops, span_passes, span_stops, span_parts}
use Rattle.deck_lexer.proofs.Blocks.{TakesBlock, block_takes}

-- ---- The first part of a gap

-- the first bytes are a part of a gap, or a comment up to the text's end
abbrev pub TakesPart : List ℕ → ℕ → Type 0
TakesPart bytes n =
    ((part : Part) × (rest : List ℕ) × IsPart part × (bytes ≡ part_text part ++ rest) × (n ≡ length (part_text part)))
    ⊎ ((body : List ℕ) × (list_all is_in_line body ≡ true) × (bytes ≡ 47 ∷ 47 ∷ body) × (n ≡ length bytes))

-- the rest of a line is in it, or it and its end are
line_parts : (tail rest : List ℕ) → rest ≡ drop (prefix_len is_in_line tail) tail → Stops is_in_line rest
    → ((rest ≡ []) × (line_len tail ≡ length tail)) ⊎ ((more : List ℕ) × (rest ≡ 10 ∷ more) × (line_len tail ≡ prefix_len is_in_line tail + 1))
line_parts tail [] e stops =
    let none : length tail ≤ prefix_len is_in_line tail = omega (arith, ap length e, length-drop (prefix_len is_in_line tail) tail) in
    let all : prefix_len is_in_line tail ≡ length tail = omega (arith, none, prefix_len-le-length is_in_line tail) in
    inl (refl, rw (le-ltb _ _ none) all)
line_parts tail (c ∷ more) e stops =
    let some : prefix_len is_in_line tail < length tail = omega (arith, ap length e, length-drop (prefix_len is_in_line tail) tail) in
    let lf : c ≡ 10 = eqb-true c 10 (not-false (eqb c 10) stops) in
    inr (more, ap (λ (x : ℕ). x ∷ more) lf, rw (lt-ltb _ _ some) refl)

line_takes : (tail : List ℕ) → TakesPart (47 ∷ 47 ∷ tail) (line_len tail + 2)
line_takes tail =
    let front = take (prefix_len is_in_line tail) tail in
    let passes : list_all is_in_line front ≡ true = span_passes is_in_line tail in
    let parts : tail ≡ front ++ drop (prefix_len is_in_line tail) tail = span_parts is_in_line tail in
    let size : length front ≡ prefix_len is_in_line tail = length-prefix_len is_in_line tail in
    elim (line_parts tail (drop (prefix_len is_in_line tail) tail) refl (span_stops is_in_line tail)) as (λ _. TakesPart (47 ∷ 47 ∷ tail) (line_len tail + 2)) [
      | inl last ↦
          let all : tail ≡ front = parts ∙ ap (λ (t : List ℕ). front ++ t) last.0 ∙ append-nil front in
          inr (front, passes, ap (λ (t : List ℕ). 47 ∷ 47 ∷ t) all, omega (arith, last.1))
      | inr more ↦
          let whole : tail ≡ (front ++ 10 ∷ []) ++ more.0 = parts ∙ ap (λ (t : List ℕ). front ++ t) more.1 ∙ sym (append_assoc front (10 ∷ []) more.0) in
          inl (Line front, more.0, passes, ap (λ (t : List ℕ). 47 ∷ 47 ∷ t) whole, omega (arith, more.2, size, length-append front (10 ∷ [])))
    ]

block_part_takes : (tail : List ℕ) (n : ℕ) → TakesBlock tail n → TakesPart (47 ∷ 42 ∷ tail) (n + 2)
block_part_takes tail n block =
    let whole : tail ≡ (block.body ++ 42 ∷ 47 ∷ []) ++ block.more = block.whole ∙ sym (append_assoc block.body (42 ∷ 47 ∷ []) block.more) in
    inl (Block block.body, block.more, block.no_end, ap (λ (t : List ℕ). 47 ∷ 42 ∷ t) whole, omega (arith, block.size, length-append block.body (42 ∷ 47 ∷ [])))

block_len_takes : (tail : List ℕ) (found : Option ℕ) → block_len tail ≡ found → 0 < block_part found → TakesPart (47 ∷ 42 ∷ tail) (block_part found)
block_len_takes tail None e some = absurd (omega arith)
block_len_takes tail (Some n) e some = block_part_takes tail n (block_takes tail n e)

comment_takes : (more : List ℕ) → 0 < comment_len more → TakesPart (47 ∷ more) (comment_len more)
comment_takes [] some = absurd (omega arith)
comment_takes (d ∷ tail) some =
    elim (cases_Bool (eqb d 47)) as (λ _. TakesPart (47 ∷ d ∷ tail) (comment_len (d ∷ tail))) [
      | inl slash ↦
          let is : d ≡ 47 = eqb-true d 47 slash in
          rw (slash, is) (line_takes tail)
      | inr other ↦ elim (cases_Bool (eqb d 42)) as (λ _. TakesPart (47 ∷ d ∷ tail) (comment_len (d ∷ tail))) [
        | inl star ↦
            let is : d ≡ 42 = eqb-true d 42 star in
            let there : 0 < block_part (block_len tail) = rw (other, star) at some in
            rw (other, star, is) (block_len_takes tail (block_len tail) refl there)
        | inr none ↦
            let nothing : 0 < 0 = rw (other, none) at some in
            absurd (omega arith)
      ]
    ]

pub part_takes : (bytes : List ℕ) → 0 < part_len bytes → TakesPart bytes (part_len bytes)
unfolding part_len
part_takes [] some = absurd (omega arith)
part_takes (c ∷ more) some =
    elim (cases_Bool (is_blank c)) as (λ _. TakesPart (c ∷ more) (part_len (c ∷ more))) [
      | inl blank ↦ rw blank (inl (Blank c, more, blank, refl, refl))
      | inr other ↦ elim (cases_Bool (eqb c 47)) as (λ _. TakesPart (c ∷ more) (part_len (c ∷ more))) [
        | inl slash ↦
            let is : c ≡ 47 = eqb-true c 47 slash in
            let there : 0 < comment_len more = rw (other, slash) at some in
            rw (other, slash, is) (comment_takes more there)
        | inr none ↦
            let nothing : 0 < 0 = rw (other, none) at some in
            absurd (omega arith)
      ]
    ]

-- ---- A gap grows at its front

take_behind : (text bytes rest : List ℕ) (m n : ℕ) → m ≡ length text → bytes ≡ text ++ rest → take (m + n) bytes ≡ text ++ take n rest
take_behind [] bytes rest m n size whole = let same : m + n ≡ n = omega arith in rw (whole, same) refl
take_behind (c ∷ text) bytes rest m n size whole =
    let same : m + n ≡ suc (length text + n) = omega arith in
    rw (whole, same) (ap (λ (t : List ℕ). c ∷ t) (take_behind text (text ++ rest) rest (length text) n refl refl))

-- the bytes from a place on
pub from_place : (bytes : List ℕ) (len : ℕ) → take (length bytes - len) (drop len bytes) ≡ drop len bytes
from_place bytes len = ap (λ (k : ℕ). take k (drop len bytes)) (sym (length-drop len bytes)) ∙ take-length (drop len bytes)

pub drop_behind : (bytes : List ℕ) (m n : ℕ) → drop (m + n) bytes ≡ drop n (drop m bytes)
drop_behind bytes m n = grind (arith, common_steps)

gap_grows : (part : Part) → IsPart part → (gap rest : List ℕ) → IsGap gap rest → IsGap (part_text part ++ gap) rest
gap_grows part is gap rest (parts, each, inl whole) = (part ∷ parts, (is, each), inl (ap (λ (t : List ℕ). part_text part ++ t) whole))
gap_grows part is gap rest (parts, each, inr last) =
    (part ∷ parts, (is, each), inr (last.0, last.1, ap (λ (t : List ℕ). part_text part ++ t) last.2 ∙ sym (append_assoc (part_text part) (parts_text parts) (47 ∷ 47 ∷ last.0)), last.3))

part_of_nothing : part_len [] ≡ 0
unfolding part_len
part_of_nothing = refl

pass_part_by : (bytes : List ℕ) (m n : ℕ) → TakesPart bytes m → Passes (drop m bytes) n → Passes bytes (m + n)
pass_part_by bytes m n (inl part) passes =
    let text = part_text part.0 in
    let behind : drop m bytes ≡ part.1 = ap (drop m) part.3 ∙ drop_at text part.1 m (sym part.4) in
    let whole : bytes ≡ text ++ drop m bytes = part.3 ∙ ap (λ (t : List ℕ). text ++ t) (sym behind) in
    let front : take (m + n) bytes ≡ text ++ take n (drop m bytes) = take_behind text bytes (drop m bytes) m n part.4 whole in
    let rest : drop (m + n) bytes ≡ drop n (drop m bytes) = drop_behind bytes m n in
    let size : length bytes ≡ m + length (drop m bytes) = omega (arith, ap length whole, length-append text (drop m bytes), part.4) in
    record {
      within = omega (arith, passes.within, size);
      is_gap = rw (front, rest) (gap_grows part.0 part.2 (take n (drop m bytes)) (drop n (drop m bytes)) passes.is_gap);
      goes_no_further = rw rest passes.goes_no_further;
    }
pass_part_by bytes m n (inr comment) passes =
    let none : length (drop m bytes) ≡ 0 = omega (arith, length-drop m bytes, comment.3) in
    let last : n ≡ 0 = omega (arith, passes.within, none) in
    let all : m + n ≡ length bytes = omega (arith, last, comment.3) in
    record {
      within = omega (arith, all);
      is_gap = rw (all, take-length bytes, drop-length bytes) ([], tt, inr (comment.0, comment.1, comment.2, refl));
      goes_no_further = rw (all, drop-length bytes) part_of_nothing;
    }

pub pass_part : (bytes : List ℕ) (n : ℕ) → 0 < part_len bytes → Passes (drop (part_len bytes) bytes) n → Passes bytes (part_len bytes + n)
pass_part bytes n some passes = pass_part_by bytes (part_len bytes) n (part_takes bytes some) passes

pub pass_nothing : (bytes : List ℕ) → part_len bytes ≡ 0 → Passes bytes 0
pass_nothing bytes none = record { within = omega arith; is_gap = ([], tt, inl refl); goes_no_further = none }

-- ---- A search from the front

-- what it knows where it has come so far
abbrev pub ReachedTo : List ℕ → ℕ → Type 0
ReachedTo bytes len = (len ≤ length bytes) × ((n : ℕ) → Passes (drop len bytes) n → Passes bytes (len + n))

pub reached_more : (bytes : List ℕ) (len part : ℕ) → part ≡ part_len (take (length bytes - len) (drop len bytes)) → (part ≡ 0 → ⊥) → part ≤ length (take (length bytes - len) (drop len bytes)) → ReachedTo bytes len → ReachedTo bytes (len + part)
reached_more bytes len part is_there some within (low, so_far) =
    let is : part ≡ part_len (drop len bytes) = rw (from_place bytes len) at is_there in
    let there : 0 < part_len (drop len bytes) = omega arith in (
      omega (arith, length-drop len bytes, ap length (from_place bytes len), within),
      λ n passes.
          let behind : Passes (drop (part_len (drop len bytes)) (drop len bytes)) n =
          subst (λ (k : ℕ). Passes (drop k (drop len bytes)) n) is (subst (λ (t : List ℕ). Passes t n) (drop_behind bytes len part) passes) in
          let sum : len + (part_len (drop len bytes) + n) ≡ len + part + n = omega arith in
          subst (λ (k : ℕ). Passes bytes k) sum (so_far _ (pass_part (drop len bytes) n there behind)),
    )

pub reached_all : (bytes : List ℕ) (len part : ℕ) → part ≡ part_len (take (length bytes - len) (drop len bytes)) → part ≡ 0 → ReachedTo bytes len → Passes bytes len
reached_all bytes len part is_there none (low, so_far) =
    let is : part ≡ part_len (drop len bytes) = rw (from_place bytes len) at is_there in
    let sum : len + 0 ≡ len = omega arith in
    subst (λ (k : ℕ). Passes bytes k) sum (so_far 0 (pass_nothing (drop len bytes) (sym is ∙ none)))
